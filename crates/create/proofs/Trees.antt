-- On a volume a create is the tree's: which refusal it gets, and that an accepted one is the model's call.
use mathlib.Core.Path.{◌≡◌, refl, sym, ap, ◌∙◌, subst}
use mathlib.Core.Bool.{Bool, true, false, ◌&&◌}
use mathlib.Core.Logic.{◌⊎◌, inl, inr, ◌↔◌}
use mathlib.Core.Option.{some}
use mathlib.Core.List.{List, [], ◌∷◌}
use Prim.Native.Nat.{ℕ, zero, suc, ◌+◌, ◌^◌, ◌≤◌, ◌<◌}
use native.Mathlib.Omega.{arith}
use lib.Dec.{ltb, leb, eqb}
use lib.ListN.{length}
use borrow.Author.Tests.{le-leb, lt-leb, lt-ltb, eq-eqb, ne_eqb, ltb-true, ltb-false, eqb-false}
use Rattle.wire.specs.Pick.{pick}
use Rattle.wire.proofs.Picks.{either, not_both}
use Rattle.std.specs.Prelude.{Result, Ok}
use Rattle.limits.specs.declared.Damage.{Damage}
use Rattle.model.specs.Answers.{Reply, accepted, refused, and_then, when, first_of, given}
use Rattle.model.specs.Tree.{Name, Entry, Below, Tree, Absent, any, holds, lookup, Some, find}
use Rattle.model.specs.Render.{blocks_at}
use Rattle.model.specs.Geometry.{area_of, Geo, block_size}
use Rattle.model.specs.Volume.{max_depth, GoodName, Volume}
use Rattle.model.specs.Calls.{free_blocks, entry_room, to_create, entry_block, TreeCreatesFile, TreeCreatesDir}
use Rattle.model.proofs.Opens.{when_true, when_false, when-none, first_of_one}
use Rattle.model.proofs.Replies.{not_accepted, accepted-one, given_some, given_accepted, given_refused, then-accepted, then-refused, and_then_ok}
use Rattle.bitmap_block.proofs.Stores.{volume_clears}
use Rattle.dir_entry.specs.declared.Kind.{Kind}
use Rattle.dir_entry.specs.declared.Kind.TheVariants.{Dir, File}
use Rattle.dir_entry.specs.Entry.{is_dir}
use Rattle.read_dir.specs.Walk.{walk}
use Rattle.read_dir.specs.Finds.{find_in}
use Rattle.create_store.specs.declared.Spot.{Spot}
use Rattle.create_store.specs.Create.{spot_for, spot_on, needed, inserted_at}
use Rattle.create_store.proofs.Spotted.{spot_is}
use Rattle.create_store.proofs.Inserted.{inserted_file, inserted_dir, inserted_entry, spot_adds}
use Rattle.text.specs.Text.{is_text}
use Rattle.path.specs.Path.{last_name, dir_part, steps}
use Rattle.path.proofs.FullPaths.{last_name_lem}
use Rattle.dir.specs.Hold.{Hold, hold_dir}
use Rattle.thm_path.specs.Held.{HeldAt}
use Rattle.thm_path.proofs.Finds.{lookup_or, find_is, find-missing}
use Rattle.thm_path.proofs.Holding.{hold_is, hold_refused, hold_some}
use Rattle.create.specs.Creating.{Site, Fresh, bad_name, too_deep, exists_number, no_room, site_at, site_in, site_of, fresh_of, created_on, image_at, created_image}
use Rattle.create.specs.OnTree.{tree_refusal}
use Rattle.create.proofs.Sites.{name_short}

-- ---- answers

given_first : {A : Type 0} (k : ℕ) (ks : List ℕ) (r : Reply A) → given (first_of (k ∷ ks)) r ≡ given k (given (first_of ks) r)
unfolding given first_of
given_first zero ks r = refl
given_first (suc k) ks r = refl

given_last : {A : Type 0} (k : ℕ) (r : Reply A) → given (first_of (k ∷ [])) r ≡ given k r
given_last k r = ap (λ (j : ℕ). given j r) (first_of_one k)

-- ---- the refusals of the tree

-- a directory at depth 16 has no level left
no_level : (e d : ℕ) → e + d ≡ max_depth → leb max_depth d ≡ eqb e 0
no_level zero d h = le-leb max_depth d (omega arith) ∙ sym (eq-eqb 0 0 refl)
no_level (suc e) d h = lt-leb max_depth d (omega arith) ∙ sym (ne_eqb (suc e) 0 (λ z. omega arith))

-- the first of three tests
abbrev first_test : Bool → Bool → Bool → ℕ
first_test a b c = first_of (when 15 a ∷ (when 7 b ∷ (when 9 c ∷ [])))

tests_given : {A : Type 0} (a b c : Bool) (r : Reply A) → given (first_test a b c) r ≡ given (when 15 a) (given (when 7 b) (given (when 9 c) r))
tests_given a b c r = given_first (when 15 a) _ r ∙ ap (given (when 15 a)) (given_first (when 7 b) _ r ∙ ap (given (when 7 b)) (given_last (when 9 c) r))

tests_none : (a b c : Bool) → first_test a b c ≡ 0 → (a ≡ false) × (b ≡ false) × (c ≡ false)
unfolding first_of when pick
tests_none true b c e = absurd (omega (arith, e))
tests_none false true c e = absurd (omega (arith, e))
tests_none false false true e = absurd (omega (arith, e))
tests_none false false false e = (refl, refl, refl)

tests_last : (a b c : Bool) → first_test a b c ≡ 9 → (a ≡ false) × (b ≡ false) × (c ≡ true)
unfolding first_of when pick
tests_last true b c e = absurd (omega (arith, e))
tests_last false true c e = absurd (omega (arith, e))
tests_last false false true e = (refl, refl, refl)
tests_last false false false e = absurd (omega (arith, e))

last_tests : {a b c : Bool} → a ≡ false → b ≡ false → c ≡ true → first_test a b c ≡ 9
unfolding first_of when pick
last_tests p q r = rw (p, q, r) refl

-- 15, 7 or 9
abbrev pub InDir : ℕ → Type 0
InDir j = (j ≡ 15) ⊎ ((j ≡ 7) ⊎ (j ≡ 9))

tests_which : (a b c : Bool) → (first_test a b c ≡ 0) ⊎ InDir (first_test a b c)
unfolding first_of when pick
tests_which true b c = inr (inl refl)
tests_which false true c = inr (inr (inl refl))
tests_which false false true = inr (inr (inr refl))
tests_which false false false = inl refl

module _ (g : Geo) (free : List ℕ) (k : Kind) (n : Name) (s : Some) where
  abbrev full_test : Bool
  full_test = ltb (length free) (to_create (entry_room g) n s.1)

  -- what the code's tests come to, one after the other
  tree_given : {A : Type 0} (r : Reply A)
      → given (tree_refusal g free k n s) r ≡ given (when 15 (is_dir k && eqb s.0 0)) (given (when 7 (any (holds n) s.1)) (given (when 9 full_test) r))
  unfolding tree_refusal
  tree_given r = search (tests_given (is_dir k && eqb s.0 0) (any (holds n) s.1) full_test r)

  tree_none : tree_refusal g free k n s ≡ 0 → ((is_dir k && eqb s.0 0) ≡ false) × Absent n s.1 × (to_create (entry_room g) n s.1 ≤ length free)
  unfolding tree_refusal
  tree_none e =
      let q = tests_none (is_dir k && eqb s.0 0) (any (holds n) s.1) full_test e in
      (q.0, q.1, ltb-false _ _ q.2)

  tree_which : (tree_refusal g free k n s ≡ 0) ⊎ InDir (tree_refusal g free k n s)
  unfolding tree_refusal
  tree_which = tests_which (is_dir k && eqb s.0 0) (any (holds n) s.1) full_test

  -- 9 exactly where the other two are not given and fewer blocks are free than are to be added.
  pub tree_full : (tree_refusal g free k n s ≡ 9) ↔ (((is_dir k && eqb s.0 0) ≡ false) × Absent n s.1 × (length free < to_create (entry_room g) n s.1))
  unfolding tree_refusal
  tree_full = (
    λ e. let q = tests_last (is_dir k && eqb s.0 0) (any (holds n) s.1) full_test e in (q.0, q.1, ltb-true _ _ q.2),
    λ q. last_tests q.0 q.1 (lt-ltb _ _ q.2),
  )

-- ---- a create in a directory of the tree

module _ (g : Geo) (I : List ℕ) (t : Tree max_depth) (v : Volume g I max_depth t) (p : List Name) (h : Hold) (q : HeldAt (block_size g) max_depth p t h) (k : Kind) (n : Name) where
  abbrev free : List ℕ
  free = free_blocks g max_depth t

  abbrev dir : Some
  dir = q.there

  abbrev at : Spot
  at = spot_on (entry_room g) n 0 dir.1

  -- the spot that is looked for is the tree's
  at_told : Ok at ≡ spot_for (area_of g) I h.dir (length n)
  at_told =
      sym (ap (λ (a : ℕ). spot_for (area_of g) I a (length n)) (sym q.starts) ∙ spot_is g I max_depth t _ p n dir v.laid q.found)

  abbrev looked : Result Spot Damage
  looked = spot_for (area_of g) I h.dir (length n)

  abbrev site : Site
  site = record { dir = h.dir; spot = at; own = h.own }

  deep_is : too_deep k h ≡ (is_dir k && eqb dir.0 0)
  unfolding too_deep
  deep_is = ap (λ (b : Bool). is_dir k && b) (no_level dir.0 h.depth (omega (arith, q.deep, q.levels)))

  found_is : exists_number (find_in n (walk (area_of g) I h.dir)) ≡ when 7 (any (holds n) dir.1)
  found_is =
      ap (λ (a : ℕ). exists_number (find_in n (walk (area_of g) I a))) (sym q.starts) ∙ go (lookup_or n dir.1) (either (any (holds n) dir.1))
    where
      go : ((e : Entry (Below dir.0)) × (lookup n dir.1 ≡ some e)) ⊎ Absent n dir.1 → (any (holds n) dir.1 ≡ true) ⊎ (any (holds n) dir.1 ≡ false)
          → exists_number (find_in n (walk (area_of g) I (blocks_at dir.1))) ≡ when 7 (any (holds n) dir.1)
      go (inl e) (inl b) = ap exists_number (find_is g I max_depth t _ p dir v.laid q.found n e.0 e.1) ∙ sym (when_true 7 b)
      go (inr a) (inl b) = absurd (not_both b a)
      go e (inr b) = ap exists_number (find-missing g I max_depth t _ p dir v.laid q.found n b) ∙ sym (when_false 7 b)

  room_is : no_room g I (needed at) ≡ ltb (length free) (to_create (entry_room g) n dir.1)
  unfolding no_room
  room_is =
      ap (λ (l : List ℕ). ltb (length l) (needed at)) (volume_clears g I max_depth t v)
      ∙ ap (ltb (length free)) (spot_adds g I max_depth t n at v p dir q.found h.dir q.starts at_told)

  at_is : site_at g I h (spot_for (area_of g) I h.dir (length n))
      ≡ given (when 9 (ltb (length free) (to_create (entry_room g) n dir.1))) (accepted site)
  unfolding site_at
  at_is = ap (site_at g I h) (sym at_told) ∙ ap (λ (b : Bool). given (when 9 b) (accepted site)) room_is

  -- The tree's refusal if there is one, and else the site: never 17.
  site_is : site_in g I k n h ≡ given (tree_refusal g free k n dir) (accepted site)
  unfolding site_in
  site_is =
      ap (λ (b : Bool). given (when 15 b) (given (exists_number (find_in n (walk (area_of g) I h.dir))) (site_at g I h looked))) deep_is
      ∙ ap (λ (j : ℕ). given (when 15 (is_dir k && eqb dir.0 0)) (given j (site_at g I h looked))) found_is
      ∙ ap (λ (r : Reply Site). given (when 15 (is_dir k && eqb dir.0 0)) (given (when 7 (any (holds n) dir.1)) r)) at_is
      ∙ sym (tree_given g free k n dir (accepted site))

-- ---- a create at a path

module _ (g : Geo) (I : List ℕ) (t : Tree max_depth) (v : Volume g I max_depth t) (k : Kind) (l : List ℕ) where
  abbrev way : List Name
  way = steps (dir_part l)

  abbrev last : Name
  last = last_name l

  abbrev unused : List ℕ
  unused = free_blocks g max_depth t

  held : (h : Hold) → hold_dir (area_of g) I (dir_part l) ≡ accepted h → HeldAt (block_size g) max_depth way t h
  held h e = hold_is g I max_depth t _ way v.laid h e

  -- what an accepted create has passed
  record Passed (s : Site) : Type 0 where
    pub hold : Hold
    pub at : HeldAt (block_size g) max_depth way t hold
    pub named : bad_name last ≡ false
    pub tests : tree_refusal g unused k last at.there ≡ 0
    pub here : s ≡ site g I t v way hold at k last

  passed : (s : Site) → site_of g I k l ≡ accepted s → Passed s
  unfolding site_of
  passed s e =
      let a = given_accepted (when 8 (bad_name last)) _ s e in
      let b = then-accepted (hold_dir (area_of g) I (dir_part l)) (site_in g I k last) s a.1 in
      let q = held b.0 b.1 in
      let c = given_accepted (tree_refusal g unused k last q.there) _ s (sym (site_is g I t v way b.0 q k last) ∙ b.2) in
      record { hold = b.0; at = q; named = when-none 8 _ (omega arith) a.0; tests = c.0; here = sym (accepted-one _ s c.1) }

  one_there : (s : Some) (h : Hold) (q : HeldAt (block_size g) max_depth way t h) → find max_depth way t ≡ some s → q.there ≡ s
  one_there s h q f = let e = q.found in cc

  -- Where the tree has the directory: 8, then the tree's refusals, then the site.
  pub answer_is : (s : Some) → find max_depth way t ≡ some s → (x : Site) × (site_of g I k l ≡ given (when 8 (bad_name last)) (given (tree_refusal g unused k last s) (accepted x)))
  unfolding site_of
  answer_is s f =
      let r = hold_some g I max_depth t _ way v.laid s f in
      let q = held r.0 r.1 in (
        site g I t v way r.0 q k last,
        ap (given (when 8 (bad_name last)))
            (and_then_ok r.0 (site_in g I k last) r.1
            ∙ site_is g I t v way r.0 q k last
            ∙ ap (λ (d : Some). given (tree_refusal g unused k last d) (accepted (site g I t v way r.0 q k last))) (one_there s r.0 q f)),
      )

  -- A refusal is 8, 5 or 6, or 15, 7 or 9: damage, 17, is never met.
  pub refused_is : (j : ℕ) → site_of g I k l ≡ refused j → (j ≡ 8) ⊎ (((j ≡ 5) ⊎ (j ≡ 6)) ⊎ InDir j)
  unfolding site_of
  refused_is j e = name (given_refused (when 8 (bad_name last)) _ j e)
    where
      inner : (h : Hold) → HeldAt (block_size g) max_depth way t h → site_in g I k last h ≡ refused j → InDir j
      inner h q z = tree (given_refused (tree_refusal g unused k last q.there) _ j (sym (site_is g I t v way h q k last) ∙ z)) (tree_which g unused k last q.there)
        where
          tree : ((1 ≤ tree_refusal g unused k last q.there) × (j ≡ tree_refusal g unused k last q.there)) ⊎ ((tree_refusal g unused k last q.there ≡ 0) × (accepted (site g I t v way h q k last) ≡ refused j))
              → (tree_refusal g unused k last q.there ≡ 0) ⊎ InDir (tree_refusal g unused k last q.there) → InDir j
          tree (inl a) (inl b) = absurd (omega (arith, a.0, b))
          tree (inl a) (inr b) = subst InDir (sym a.1) b
          tree (inr a) b = absurd (not_accepted j (site g I t v way h q k last) (sym a.1))

      dirs : (hold_dir (area_of g) I (dir_part l) ≡ refused j) ⊎ ((h : Hold) × (hold_dir (area_of g) I (dir_part l) ≡ accepted h) × (site_in g I k last h ≡ refused j))
          → (j ≡ 8) ⊎ (((j ≡ 5) ⊎ (j ≡ 6)) ⊎ InDir j)
      dirs (inl a) = inr (inl (hold_refused g I max_depth t _ way v.laid j a).1)
      dirs (inr a) = inr (inr (inner a.0 (held a.0 a.1) a.2))

      name : ((1 ≤ when 8 (bad_name last)) × (j ≡ when 8 (bad_name last))) ⊎ ((when 8 (bad_name last) ≡ 0) × (and_then (hold_dir (area_of g) I (dir_part l)) (site_in g I k last) ≡ refused j))
          → (j ≡ 8) ⊎ (((j ≡ 5) ⊎ (j ≡ 6)) ⊎ InDir j)
      name (inl a) = inl (bad (either (bad_name last)))
        where
          bad : (bad_name last ≡ true) ⊎ (bad_name last ≡ false) → j ≡ 8
          bad (inl b) = a.1 ∙ when_true 8 b
          bad (inr b) = absurd (omega (arith, a.0, when_false 8 b))
      name (inr a) = dirs (then-refused (hold_dir (area_of g) I (dir_part l)) (site_in g I k last) j a.1)

  -- R9: exactly where 15 and 7 are not given and fewer blocks are free than are taken.
  pub no_room_lem : (h : Hold) (s : Some) → hold_dir (area_of g) I (dir_part l) ≡ accepted h → find max_depth way t ≡ some s
      → (site_in g I k last h ≡ refused 9) ↔ ((too_deep k h ≡ false) × Absent last s.1 × (length unused < to_create (entry_room g) last s.1))
  no_room_lem h s e f =
      let q = held h e in
      let is : site_in g I k last h ≡ given (tree_refusal g unused k last s) (accepted (site g I t v way h q k last))
      = site_is g I t v way h q k last ∙ ap (λ (d : Some). given (tree_refusal g unused k last d) (accepted (site g I t v way h q k last))) (one_there s h q f) in
      let deep : too_deep k h ≡ (is_dir k && eqb s.0 0) = deep_is g I t v way h q k last ∙ ap (λ (d : Some). is_dir k && eqb d.0 0) (one_there s h q f) in
      let full = tree_full g unused k last s in (
        λ z. let r = full.0 (number (tree_refusal g unused k last s) (site g I t v way h q k last) (sym is ∙ z)) in (deep ∙ r.0, r.1, r.2),
        λ r. is ∙ given_some 9 _ (omega arith) (full.1 (sym deep ∙ r.0, r.1, r.2)),
      )
    where
      number : (m : ℕ) (x : Site) → given m (accepted x) ≡ refused 9 → m ≡ 9
      number m x z = go (given_refused m (accepted x) 9 z)
        where
          go : ((1 ≤ m) × (9 ≡ m)) ⊎ ((m ≡ 0) × (accepted x ≡ refused 9)) → m ≡ 9
          go (inl a) = sym a.1
          go (inr a) = absurd (not_accepted 9 x (sym a.1))

  -- a path's last name that passes is a name
  good_last : is_text l ≡ true → bad_name last ≡ false → GoodName last
  good_last b e = let q = name_short last e in record { some_bytes = q.0; few_bytes = q.1; allowed = last_name_lem l b }

  -- The blocks that an accepted create answers: the directory's first, and the new entry's.
  pub created_block : is_text l ≡ true → (x : Site) → site_of g I k l ≡ accepted x → (s : Some) → find max_depth way t ≡ some s
      → created_on g I k l ≡ accepted (record { dir = blocks_at s.1; block = entry_block g last s.1 unused })
  unfolding created_on fresh_of
  created_block b x e s f =
      let r = passed x e in
      let h = r.hold in
      let q = r.at in
      let d = q.there in
      let m = good_last b r.named in
      let z = tree_none g unused k last d r.tests in
      let w : site_of g I k l ≡ accepted (site g I t v way h q k last) = e ∙ ap accepted r.here in
      let first : h.dir ≡ blocks_at s.1 = sym q.starts ∙ ap (λ (y : Some). blocks_at y.1) (one_there s h q f) in
      let second : inserted_at g I (at g I t v way h q k last) ≡ entry_block g last s.1 unused
      = inserted_entry g I max_depth t v way last 0 h.own q.own m (omega arith) d q.found h.dir q.starts (at g I t v way h q k last) (at_told g I t v way h q k last) z.1 z.2
      ∙ ap (λ (y : Some). entry_block g last y.1 unused) (one_there s h q f) in
      and_then_ok (site g I t v way h q k last) (λ (y : Site). let u : Reply Fresh = accepted (record { dir = y.dir; block = inserted_at g I y.spot }) in u) w
      ∙ ap (λ (a : ℕ). let u : Reply Fresh = accepted (record { dir = a; block = inserted_at g I (at g I t v way h q k last) }) in u) first
      ∙ ap (λ (a : ℕ). let u : Reply Fresh = accepted (record { dir = blocks_at s.1; block = a }) in u) second

-- ==== the accepted calls

module _ (g : Geo) (I : List ℕ) (t : Tree max_depth) (v : Volume g I max_depth t) (l : List ℕ) (now : ℕ) (plain : is_text l ≡ true) (clock : now < 2 ^ 64) (x : Site) where
  abbrev names : List Name
  names = steps (dir_part l)

  -- An accepted create of a file is the model's.
  pub created_file : site_of g I File l ≡ accepted x → TreeCreatesFile g max_depth (steps (dir_part l)) (last_name l) now t I (created_image g I File l now)
  unfolding created_image
  created_file e =
      let r = passed g I t v File l x e in
      let h = r.hold in
      let q = r.at in
      let z = tree_none g (free_blocks g max_depth t) File (last_name l) q.there r.tests in
      subst (λ (y : Reply Site). TreeCreatesFile g max_depth names (last_name l) now t I (image_at g I File (last_name l) now y)) (sym (e ∙ ap accepted r.here))
      (inserted_file g I max_depth t v names (last_name l) now h.own q.own (good_last g I t v File l plain r.named) clock q.there q.found h.dir q.starts
      (at g I t v names h q File (last_name l)) (at_told g I t v names h q File (last_name l)) z.1 z.2)

  -- An accepted create of a directory is the model's.
  pub created_dir_lem : site_of g I Dir l ≡ accepted x → TreeCreatesDir g max_depth (steps (dir_part l)) (last_name l) now t I (created_image g I Dir l now)
  unfolding created_image
  created_dir_lem e =
      let r = passed g I t v Dir l x e in
      let h = r.hold in
      let q = r.at in
      let z = tree_none g (free_blocks g max_depth t) Dir (last_name l) q.there r.tests in
      let some_level : q.there.0 ≡ 0 → ⊥ = eqb-false q.there.0 0 z.0 in
      subst (λ (y : Reply Site). TreeCreatesDir g max_depth names (last_name l) now t I (image_at g I Dir (last_name l) now y)) (sym (e ∙ ap accepted r.here))
      (inserted_dir g I max_depth t v names (last_name l) now h.own q.own (good_last g I t v Dir l plain r.named) clock q.there q.found h.dir q.starts
      (at g I t v names h q Dir (last_name l)) (at_told g I t v names h q Dir (last_name l)) z.1 z.2 (omega arith))
