-- A delete on a volume: what is accepted is the tree's delete, and what is refused the tree says.
use mathlib.Core.Path.{◌≡◌, refl, sym, ap, ◌∙◌, subst}
use mathlib.Core.Bool.{true, false, not, ◌&&◌}
use mathlib.Core.Logic.{◌⊎◌, inl, inr}
use mathlib.Core.Option.{some}
use mathlib.Core.List.{List, [], ◌∷◌}
use Prim.Native.Nat.{ℕ, zero, suc, ◌^◌, ◌<◌}
use native.Mathlib.Omega.{arith}
use lib.Dec.{eqb}
use lib.ListN.{length}
use borrow.Author.Tests.{eqb-true, eq-eqb}
use Rattle.wire.proofs.Picks.{either, not_both}
use Rattle.model.specs.Answers.{Reply, accepted, refused, and_then, when, given}
use Rattle.model.specs.Tree.{Name, Node, file, device, sub, Entry, Block, Below, Tree, Absent, lookup, sum, Some, find, NoEntries, Bare}
use Rattle.model.specs.Render.{blocks_at, size_of, view}
use Rattle.model.specs.Geometry.{area_of, Geo, block_size}
use Rattle.model.specs.Volume.{GoodBelow, Volume}
use Rattle.model.specs.Calls.{Occupied, TreeDeletes}
use Rattle.model.proofs.Full.{good_lookup, good_find}
use Rattle.model.proofs.Lists.{not_some}
use Rattle.model.proofs.Replies.{not_accepted, given_yes, given_no, and_then_ok, and_then_no}
use Rattle.model.proofs.Levels.{used_none, bare_sum}
use Rattle.dir_entry.specs.declared.DirEntry.{DirEntry}
use Rattle.dir_entry.specs.Entry.{is_dir}
use Rattle.dir_entry.specs.Shown.{kind_is, head_of}
use Rattle.read_dir.specs.Walk.{walk}
use Rattle.read_dir.specs.Finds.{find_in}
use Rattle.own_entry.specs.Own.{OwnOf}
use Rattle.delete_store.proofs.Removes.{removed_is}
use Rattle.path.specs.Path.{last_name, dir_part, steps}
use Rattle.dir.specs.Resolve.{on_placed, on_name}
use Rattle.dir.specs.Hold.{Hold, hold_dir}
use Rattle.dir.proofs.Answers.{name_some}
use Rattle.thm_walk.specs.Shown.{spot_of}
use Rattle.thm_path.specs.Held.{HeldAt}
use Rattle.thm_path.proofs.Finds.{Looked, found, lookup_or, find_is, find-missing, found_is}
use Rattle.thm_path.proofs.Resolves.{lookup_name, absent_none}
use Rattle.thm_path.proofs.Holding.{hold_is, hold_refused, hold_some}
use Rattle.delete.specs.Deleting.{Doomed, has_entries, doomed_at, doomed_in, doomed_of, image_at, deleted_image}
use Rattle.delete.proofs.Accepted.{DoomedBy, doomed_by}

-- ---- a directory has no entries where its size is 0

sum-none : {X : Type 0} (bs : List (Block X)) → sum bs ≡ 0 → NoEntries bs
unfolding sum
sum-none [] h = tt
sum-none (b ∷ bs) h = (used_none b.entries (omega arith), sum-none bs (omega arith))

-- by the size that the entry shows
not_zero : (z : ℕ) → not (eqb z 0) ≡ false → z ≡ 0
not_zero z h = go (either (eqb z 0))
  where
    go : (eqb z 0 ≡ true) ⊎ (eqb z 0 ≡ false) → z ≡ 0
    go (inl e) = eqb-true z 0 e
    go (inr e) = absurd (not_both (ap not e) h)

bare_node : (B d : ℕ) (x : Node (Below d)) → (is_dir (kind_is x) && not (eqb (size_of (view B d) x) 0)) ≡ false → Bare d x
unfolding size_of view
bare_node B d (file s cs) h = tt
bare_node B d (device s cs) h = tt
bare_node B zero (sub x) h = absurd x
bare_node B (suc d) (sub x) h = sum-none x (not_zero (sum x) h)

node_bare : (B d : ℕ) (x : Node (Below d)) → Bare d x → (is_dir (kind_is x) && not (eqb (size_of (view B d) x) 0)) ≡ false
unfolding size_of view
node_bare B d (file s cs) h = refl
node_bare B d (device s cs) h = refl
node_bare B zero (sub x) h = absurd x
node_bare B (suc d) (sub x) h = ap not (eq-eqb (sum x) 0 (bare_sum x h))

-- R14: the size in an entry of the tree tells exactly whether the entry is bare.
module _ (B d : ℕ) (e : Entry (Below d)) where
  bare_is : has_entries (head_of (view B d) e) ≡ false → Bare d e.node
  unfolding has_entries head_of
  bare_is h = bare_node B d e.node h

  is_bare : Bare d e.node → has_entries (head_of (view B d) e) ≡ false
  unfolding has_entries head_of
  is_bare h = node_bare B d e.node h

-- ---- an accepted delete

same_some : {A : Type 0} (a b : A) → some a ≡ some b → a ≡ b
same_some a b e = cc

module _ (g : Geo) (I : List ℕ) (d : ℕ) (t : Tree d) (l : List ℕ) (v : Volume g I d t) where
  -- the names of the path
  abbrev way : List Name
  way = steps (dir_part l)

  -- What is accepted makes what `Deletes` says.
  pub deleted_is : (now : ℕ) (x : Doomed) → now < 2 ^ 64 → doomed_of g I l ≡ accepted x → TreeDeletes g d way (last_name l) now t I (deleted_image g I l now)
  unfolding deleted_image
  deleted_is now x small k =
      let b : DoomedBy g I l x = doomed_by g I l x k in
      let h : Hold = b.hold in
      let q : HeldAt (block_size g) d way t h = hold_is g I d t _ way v.laid h b.held in
      let s : Some = q.there in
      let e = found_is g I d t _ way s v.laid q.found (last_name l) (record { entry = x.entry; place = x.place })
      (ap (λ (a : ℕ). find_in (last_name l) (walk (area_of g) I a)) q.starts ∙ b.entry) in
      subst (TreeDeletes g d way (last_name l) now t I) (sym (ap (image_at g I now) k))
      (removed_is g I d t way (last_name l) s e.0 x.entry x.place x.dir now x.own v q.found (q.starts ∙ sym b.dir)
      (subst (OwnOf (block_size g) d way t) (sym b.own) q.own) e.1
      (bare_is (block_size g) s.0 e.0 (ap has_entries (sym e.2) ∙ b.bare)) e.2 e.3 small)

-- ---- a refused one

module _ (g : Geo) (I : List ℕ) (d : ℕ) (t : Tree d) (l : List ℕ) (v : Volume g I d t) where
  -- the names on the way, and the directory's walk from a on
  abbrev names : List Name
  names = steps (dir_part l)

  abbrev found_from : ℕ → Looked
  found_from a = find_in (last_name l) (walk (area_of g) I a)

  abbrev holding : Reply Hold
  holding = hold_dir (area_of g) I (dir_part l)

  -- what is found at the path
  abbrev There : Type 0
  There = Occupied d names (last_name l) t

  -- the fixed part that its entry shows
  abbrev shown_there : There → DirEntry
  shown_there o = head_of (view (block_size g) o.dir.0) o.entry

  -- the directory there, as it is found on the way
  held_there : (s : Some) → find d names t ≡ some s → (h : Hold) × (holding ≡ accepted h) × HeldAt (block_size g) d names t h × (blocks_at s.1 ≡ h.dir)
  held_there s f =
      let h = hold_some g I d t _ names v.laid s f in
      let q : HeldAt (block_size g) d names t h.0 = hold_is g I d t _ names v.laid h.0 h.1 in
      let z : s ≡ q.there = same_some s q.there (sym f ∙ q.found) in
      (h.0, h.1, q, ap (λ (y : Some). blocks_at y.1) z ∙ q.starts)

  -- from a directory on
  in_held : (h : Hold) → holding ≡ accepted h → and_then holding (doomed_in g I (last_name l)) ≡ on_placed (found_from h.dir) (doomed_at h)
  unfolding doomed_in
  in_held h q = and_then_ok h (doomed_in g I (last_name l)) q

  -- An entry that is there is found: 14, or it is accepted.
  there_is : (o : There) → (x : Doomed) × (doomed_of g I l ≡ given (when 14 (has_entries (shown_there o))) (accepted x))
  unfolding doomed_of doomed_at
  there_is o =
      let n : Name = last_name l in
      let k = held_there o.dir o.there in
      let h : Hold = k.0 in
      let m = (good_lookup (block_size g) (GoodBelow (block_size g) o.dir.0) n o.dir.1 o.entry (good_find (block_size g) d names t o.dir v.laid.good o.there) o.held).good_name.some_bytes in
      let j : length n ≡ length o.entry.name = ap length (lookup_name n o.dir.1 o.entry o.held) in
      let some_name : length n ≡ 0 → ⊥ = λ (z : length n ≡ 0). omega arith in
      let f : found_from h.dir ≡ found (shown_there o) (spot_of n o.dir.1)
      = ap found_from (sym k.3) ∙ find_is g I d t _ names o.dir v.laid o.there n o.entry o.held in (
        record { dir = h.dir; entry = shown_there o; place = spot_of n o.dir.1; own = h.own },
        name_some n _ some_name
            ∙ in_held h k.1
            ∙ ap (λ (y : Looked). on_placed y (doomed_at h)) f,
      )

  -- R5, R6
  abbrev NotThere : ℕ → Type 0
  NotThere k = (k ≡ 5) ⊎ (k ≡ 6)

  name_gives : (n : Name) (r : Reply Doomed) (k : ℕ) → NotThere k → r ≡ refused k → (j : ℕ) × NotThere j × (on_name n r ≡ refused j)
  name_gives [] r k h e = (5, inl refl, refl)
  name_gives (c ∷ n) r k h e = (k, h, e)

  -- A directory without the name gives 5,
  absent_is : (s : Some) → find d names t ≡ some s → Absent (last_name l) s.1 → (j : ℕ) × NotThere j × (doomed_of g I l ≡ refused j)
  unfolding doomed_of
  absent_is s f a =
      let k = held_there s f in
      name_gives (last_name l) (and_then holding (doomed_in g I (last_name l))) 5 (inl refl)
      (in_held k.0 k.1
      ∙ ap (λ (y : Looked). on_placed y (doomed_at k.0)) (ap found_from (sym k.3) ∙ find-missing g I d t _ names s v.laid f (last_name l) a))

  -- and a way that stops gives its number.
  stops_is : (k : ℕ) → holding ≡ refused k → (j : ℕ) × NotThere j × (doomed_of g I l ≡ refused j)
  unfolding doomed_of
  stops_is k q = name_gives (last_name l) (and_then holding (doomed_in g I (last_name l))) k (hold_refused g I d t _ names v.laid k q).1 (and_then_no k (doomed_in g I (last_name l)) q)

  -- ---- each answer where the tree says so

  -- An entry that is there and has no entries is deleted,
  pub bare_accepted : (o : There) → Bare o.dir.0 o.entry.node → (x : Doomed) × (doomed_of g I l ≡ accepted x)
  bare_accepted o b =
      let r = there_is o in
      (r.0, r.1 ∙ given_no 14 (accepted r.0) (is_bare (block_size g) o.dir.0 o.entry b))

  -- one that has entries is refused 14,
  pub full_refused : (o : There) → (Bare o.dir.0 o.entry.node → ⊥) → doomed_of g I l ≡ refused 14
  full_refused o b = go (either (has_entries (shown_there o)))
    where
      go : (has_entries (shown_there o) ≡ true) ⊎ (has_entries (shown_there o) ≡ false) → doomed_of g I l ≡ refused 14
      go (inl h) = let r = there_is o in r.1 ∙ given_yes 14 (accepted r.0) (omega arith) h
      go (inr h) = absurd (b (bare_is (block_size g) o.dir.0 o.entry h))

  -- and where there is none it is 5 or 6: these are all the answers.
  pub data Answer : Type 0 where
    goes : (o : There) → Bare o.dir.0 o.entry.node → (x : Doomed) → doomed_of g I l ≡ accepted x → Answer
    full : (o : There) → (Bare o.dir.0 o.entry.node → ⊥) → doomed_of g I l ≡ refused 14 → Answer
    vacant : (There → ⊥) → (j : ℕ) → NotThere j → doomed_of g I l ≡ refused j → Answer

  answer_there : (o : There) → (has_entries (shown_there o) ≡ true) ⊎ (has_entries (shown_there o) ≡ false) → Answer
  answer_there o (inl h) =
      let b : Bare o.dir.0 o.entry.node → ⊥ = λ (z : Bare o.dir.0 o.entry.node). not_both h (is_bare (block_size g) o.dir.0 o.entry z) in
      full o b (full_refused o b)
  answer_there o (inr h) =
      let b : Bare o.dir.0 o.entry.node = bare_is (block_size g) o.dir.0 o.entry h in
      let r = bare_accepted o b in
      goes o b r.0 r.1

  answer_in : (s : Some) → find d names t ≡ some s → ((e : Entry (Below s.0)) × (lookup (last_name l) s.1 ≡ some e)) ⊎ Absent (last_name l) s.1 → Answer
  answer_in s f (inl e) = let o : There = record { dir = s; there = f; entry = e.0; held = e.1 } in answer_there o (either (has_entries (shown_there o)))
  answer_in s f (inr a) =
      let r = absent_is s f a in
      let b : There → ⊥ = λ (o : There).
      not_some (absent_none (last_name l) o.dir.1 (subst (λ (y : Some). Absent (last_name l) y.1) (same_some s o.dir (sym f ∙ o.there)) a)) o.held in
      vacant b r.0 r.1 r.2

  answered : Answer
  answered = go holding refl
    where
      go : (r : Reply Hold) → holding ≡ r → Answer
      go (accepted h) q =
          let k : HeldAt (block_size g) d names t h = hold_is g I d t _ names v.laid h q in
          answer_in k.there k.found (lookup_or (last_name l) k.there.1)
      go (refused k) q =
          let r = stops_is k q in
          let b : There → ⊥ = λ (o : There). not_some (hold_refused g I d t _ names v.laid k q).0 o.there in
          vacant b r.0 r.1 r.2

  same_number : (j k : ℕ) → doomed_of g I l ≡ refused j → doomed_of g I l ≡ refused k → j ≡ k
  same_number j k p q = let e : ◌≡◌ {A = Reply Doomed} (refused j) (refused k) = sym p ∙ q in cc

  -- and there is no other refusal: damage, 17, is never met.
  pub refused_is : (k : ℕ) → doomed_of g I l ≡ refused k → (k ≡ 5) ⊎ ((k ≡ 6) ⊎ (k ≡ 14))
  refused_is k q = go answered
    where
      go : Answer → (k ≡ 5) ⊎ ((k ≡ 6) ⊎ (k ≡ 14))
      go (goes o b x r) = absurd (not_accepted k x (sym q ∙ r))
      go (full o b r) = inr (inr (same_number k 14 q r))
      go (vacant b j (inl h) r) = inl (same_number k j q r ∙ h)
      go (vacant b j (inr h) r) = inr (inl (same_number k j q r ∙ h))
