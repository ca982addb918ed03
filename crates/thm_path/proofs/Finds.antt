-- What is asked of a directory's walk is answered as the tree says: an entry by its name, the sum, the entries in order.
use mathlib.Core.Path.{◌≡◌, refl, sym, ap, ◌∙◌}
use mathlib.Core.Bool.{true, false}
use mathlib.Core.Logic.{◌⊎◌, inl, inr}
use mathlib.Core.Option.{some}
use mathlib.Core.List.{List, [], ◌∷◌, ◌++◌, map, map-append}
use Prim.Native.Nat.{ℕ, ◌+◌}
use native.Mathlib.Nat.{add-zero, zero-add, add_assoc}
use Rattle.wire.proofs.Picks.{either, not_both, pick_true, pick_false, same_swap}
use Rattle.model.specs.Tree.{Name, Entry, Block, Below, Tree, any, first, then, entries_of, called, holds, Absent, lookup, weight, sum, Some, find}
use Rattle.model.specs.Render.{View, blocks_at, view, offset}
use Rattle.model.specs.Geometry.{area_of, Geo, block_size}
use Rattle.model.specs.Volume.{Laid}
use Rattle.model.proofs.Lists.{not_some, any_there, first_here, first_there, none_head, none_tail}
use Rattle.model.proofs.Others.{lookup_here, lookup_there}
use Rattle.dir_entry.specs.declared.DirEntry.{DirEntry}
use Rattle.dir_entry.specs.Shown.{head_of}
use Rattle.read_dir.specs.declared.Place.{Place}
use Rattle.std.specs.Prelude.{Option, Result, Ok}
use Rattle.std.specs.declared.option.Option.TheVariants as option
use Rattle.limits.specs.declared.Damage.{Damage}
use Rattle.read_dir.specs.declared.Placed.{Placed}
use Rattle.read_dir.specs.Walk.{Walk, walk}
use Rattle.read_dir.specs.Finds.{placed, find_in, sum_from}
use Rattle.thm_walk.specs.Shown.{items_of, walk_of, spot_of, items_in}
use Rattle.thm_walk.proofs.Walks.{walk_is, walk-sum}

-- ---- an entry by its name

-- what a lookup gives: an entry with its place, or that there is none of that name
abbrev pub Looked : Type 0
Looked = Result (Option Placed) Damage

abbrev pub found : DirEntry → Place → Looked
found e p = Ok (option.Some (record { entry = e; place = p }))

abbrev pub missing : Looked
missing = Ok option.None

module _ {X : Type 0} (n : Name) where
  -- a name is there, or it is not
  block_or : (es : List (Entry X)) → ((e : Entry X) × (first (called n) es ≡ some e)) ⊎ (any (called n) es ≡ false)
  unfolding any
  block_or [] = inr refl
  block_or (x ∷ es) = go (either (called n x)) (block_or es)
    where
      go : (called n x ≡ true) ⊎ (called n x ≡ false) → ((e : Entry X) × (first (called n) es ≡ some e)) ⊎ (any (called n) es ≡ false)
          → ((e : Entry X) × (first (called n) (x ∷ es) ≡ some e)) ⊎ (any (called n) (x ∷ es) ≡ false)
      go (inl c) r = inl (x, first_here (called n) x es c)
      go (inr c) (inl r) = inl (r.0, first_there (called n) x es c ∙ r.1)
      go (inr c) (inr r) = inr (any_there (called n) x es c ∙ r)

  -- A name is in a directory, or absent.
  pub lookup_or : (bs : List (Block X)) → ((e : Entry X) × (lookup n bs ≡ some e)) ⊎ Absent n bs
  unfolding any holds
  lookup_or [] = inr refl
  lookup_or (b ∷ bs) = go (block_or b.entries) (either (holds n b)) (lookup_or bs)
    where
      go : ((e : Entry X) × (first (called n) b.entries ≡ some e)) ⊎ (any (called n) b.entries ≡ false)
          → (holds n b ≡ true) ⊎ (holds n b ≡ false)
          → ((e : Entry X) × (lookup n bs ≡ some e)) ⊎ Absent n bs → ((e : Entry X) × (lookup n (b ∷ bs) ≡ some e)) ⊎ Absent n (b ∷ bs)
      go (inl r) (inl c) q = inl (r.0, lookup_here n b bs c ∙ r.1)
      go (inr r) (inl c) q = absurd (not_both c r)
      go r (inr c) (inl q) = inl (q.0, lookup_there n b bs c ∙ q.1)
      go r (inr c) (inr q) = inr (any_there (holds n) b bs c ∙ q)

  module _ (v : View X) (a : ℕ) where
    -- in a block
    items_here : (es : List (Entry X)) (o : ℕ) (w : Walk) (e : Entry X) → first (called n) es ≡ some e
        → find_in n (items_of v a o es w) ≡ found (head_of v e) (placed a (o + offset n es))
    unfolding first items_of find_in offset called
    items_here [] o w e f = absurd (not_some refl f)
    items_here (x ∷ es) o w e f = go (either (called n x)) (items_here es (o + weight x) w e)
      where
        go : (called n x ≡ true) ⊎ (called n x ≡ false)
            → (first (called n) es ≡ some e → find_in n (items_of v a (o + weight x) es w) ≡ found (head_of v e) (placed a (o + weight x + offset n es)))
            → find_in n (items_of v a o (x ∷ es) w) ≡ found (head_of v e) (placed a (o + offset n (x ∷ es)))
        go (inl c) r =
            let both : some x ≡ some e = sym (first_here (called n) x es c) ∙ f in
            let k : x ≡ e = cc in
            let z : o ≡ o + offset n (x ∷ es) = sym (ap (λ (j : ℕ). o + j) (pick_true 0 (weight x + offset n es) c) ∙ add-zero o) in
            pick_true _ _ (same_swap x.name n ∙ c) ∙ λ i. found (head_of v (k i)) (placed a (z i))
        go (inr c) r =
            let z : o + weight x + offset n es ≡ o + offset n (x ∷ es)
            = add_assoc o (weight x) (offset n es) ∙ sym (ap (λ (j : ℕ). o + j) (pick_false 0 (weight x + offset n es) c)) in
            pick_false _ _ (same_swap x.name n ∙ c) ∙ r (sym (first_there (called n) x es c) ∙ f) ∙ λ i. found (head_of v e) (placed a (z i))

    items_there : (es : List (Entry X)) (o : ℕ) (w : Walk) → any (called n) es ≡ false → find_in n (items_of v a o es w) ≡ find_in n w
    unfolding items_of find_in
    items_there [] o w h = refl
    items_there (x ∷ es) o w h =
        pick_false _ _ (same_swap x.name n ∙ (unfold called in none_head (called n) x es h)) ∙ items_there es (o + weight x) w (none_tail (called n) x es h)

  module _ (v : View X) where
    -- The entry of a name is found in the walk, at its place,
    pub walk_finds : (bs : List (Block X)) (e : Entry X) → lookup n bs ≡ some e → find_in n (walk_of v bs) ≡ found (head_of v e) (spot_of n bs)
    unfolding lookup first then walk_of spot_of
    walk_finds [] e l = absurd (not_some refl l)
    walk_finds (b ∷ bs) e l = go (either (holds n b)) (walk_finds bs e)
      where
        go : (holds n b ≡ true) ⊎ (holds n b ≡ false) → (lookup n bs ≡ some e → find_in n (walk_of v bs) ≡ found (head_of v e) (spot_of n bs))
            → find_in n (walk_of v (b ∷ bs)) ≡ found (head_of v e) (spot_of n (b ∷ bs))
        go (inl c) r =
            items_here v b.at b.entries 0 (walk_of v bs) e (sym (lookup_here n b bs c) ∙ l)
            ∙ ap (λ (j : ℕ). found (head_of v e) (placed b.at j)) (zero-add (offset n b.entries))
            ∙ ap (found (head_of v e)) (sym (pick_true (placed b.at (offset n b.entries)) (spot_of n bs) c))
        go (inr c) r =
            items_there v b.at b.entries 0 (walk_of v bs) (unfold holds in c) ∙ r (sym (lookup_there n b bs c) ∙ l)
            ∙ ap (found (head_of v e)) (sym (pick_false (placed b.at (offset n b.entries)) (spot_of n bs) c))

    -- and a name that is absent is missing there.
    pub walk_misses : (bs : List (Block X)) → Absent n bs → find_in n (walk_of v bs) ≡ missing
    unfolding walk_of find_in
    walk_misses [] h = refl
    walk_misses (b ∷ bs) h = items_there v b.at b.entries 0 (walk_of v bs) (unfold holds in none_head (holds n) b bs h) ∙ walk_misses bs (none_tail (holds n) b bs h)

-- ---- the entries in order

module _ {X : Type 0} (v : View X) where
  -- what an entry shows
  abbrev pub pair_of : Entry X → DirEntry × List ℕ
  pair_of e = (head_of v e, e.name)

  items_list : (a : ℕ) (es : List (Entry X)) (o : ℕ) (w : Walk) → items_in (items_of v a o es w) ≡ map pair_of es ++ items_in w
  unfolding items_of items_in
  items_list a [] o w = refl
  items_list a (e ∷ es) o w = ap (λ (l : List (DirEntry × List ℕ)). pair_of e ∷ l) (items_list a es (o + weight e) w)

  walk_list : (bs : List (Block X)) → items_in (walk_of v bs) ≡ map pair_of (entries_of bs)
  unfolding walk_of items_in entries_of
  walk_list [] = refl
  walk_list (b ∷ bs) = items_list b.at b.entries 0 (walk_of v bs) ∙ ap (λ (l : List (DirEntry × List ℕ)). map pair_of b.entries ++ l) (walk_list bs) ∙ sym (map-append pair_of b.entries (entries_of bs))

-- ---- on a volume

module _ (g : Geo) (I : List ℕ) (d : ℕ) (t : Tree d) (u : ℕ) (p : List Name) (s : Some) (l : Laid g I d t u) (f : find d p t ≡ some s) where
  -- the walk of the directory at path p
  abbrev at_path : Walk
  at_path = walk (area_of g) I (blocks_at s.1)

  abbrev view_there : View (Below s.0)
  view_there = view (block_size g) s.0

  -- A name of the directory is found, with what its entry shows and its place.
  pub find_is : (n : Name) (e : Entry (Below s.0)) → lookup n s.1 ≡ some e → find_in n at_path ≡ found (head_of view_there e) (spot_of n s.1)
  find_is n e k = ap (find_in n) (walk_is g I d t u p s l f) ∙ walk_finds n view_there s.1 e k

  -- A name that the directory has not is missing.
  pub find-missing : (n : Name) → Absent n s.1 → find_in n at_path ≡ missing
  find-missing n k = ap (find_in n) (walk_is g I d t u p s l f) ∙ walk_misses n view_there s.1 k

  -- There is no third case: what is found is an entry of the tree,
  pub found_is : (n : Name) (y : Placed) → find_in n at_path ≡ Ok (option.Some y)
      → (e : Entry (Below s.0)) × (lookup n s.1 ≡ some e) × (y.entry ≡ head_of view_there e) × (y.place ≡ spot_of n s.1)
  found_is n y k = go (lookup_or n s.1)
    where
      go : ((e : Entry (Below s.0)) × (lookup n s.1 ≡ some e)) ⊎ Absent n s.1
          → (e : Entry (Below s.0)) × (lookup n s.1 ≡ some e) × (y.entry ≡ head_of view_there e) × (y.place ≡ spot_of n s.1)
      go (inl h) =
          let m = find_is n h.0 h.1 in
          let z : Placed = record { entry = head_of view_there h.0; place = spot_of n s.1 } in
          let both : Ok (option.Some y) ≡ Ok (option.Some z) = sym k ∙ m in
          let x : y ≡ z = cc in
          (h.0, h.1, ap (λ (v : Placed). v.entry) x, ap (λ (v : Placed). v.place) x)
      go (inr h) = let m = find-missing n h in cc

  -- a name that is missing is absent,
  pub missing_is : (n : Name) → find_in n at_path ≡ missing → Absent n s.1
  missing_is n k = go (lookup_or n s.1)
    where
      go : ((e : Entry (Below s.0)) × (lookup n s.1 ≡ some e)) ⊎ Absent n s.1 → Absent n s.1
      go (inl h) = let m = find_is n h.0 h.1 in cc
      go (inr h) = h

  -- The sum is the directory's size.
  pub sum_is : sum_from 0 at_path ≡ Ok (sum s.1)
  sum_is = ap (sum_from 0) (walk_is g I d t u p s l f) ∙ walk-sum view_there s.1 0 ∙ ap Ok (zero-add (sum s.1))

  -- The entries of the walk are those of the directory, each once, in order.
  pub list_is : items_in at_path ≡ map (pair_of view_there) (entries_of s.1)
  list_is = ap items_in (walk_is g I d t u p s l f) ∙ walk_list view_there s.1
