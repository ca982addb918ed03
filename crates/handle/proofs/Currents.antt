-- The entry of a handle in the walk of a directory of the tree: the one that the handle's name gives, at its place, if it is a file's with the
-- handle's address and size.
use mathlib.Core.Path.{◌≡◌, refl, sym, ap, ◌∙◌}
use mathlib.Core.Bool.{Bool, true, false, ◌&&◌}
use mathlib.Core.Logic.{◌⊎◌, inl, inr}
use mathlib.Core.Option.{some}
use mathlib.Core.List.{List, [], ◌∷◌, ◌++◌}
use Prim.Native.Nat.{ℕ, ◌+◌, ◌≤◌}
use native.Mathlib.Nat.{add-zero, zero-add, add_assoc}
use native.Mathlib.Omega.{arith}
use lib.Dec.{eqb}
use borrow.Author.Tests.{eqb-true, eq-eqb}
use Rattle.wire.specs.Pick.{same}
use Rattle.wire.proofs.Picks.{either, not_both, pick_true, pick_false, same_eq, same_refl, and_both, both_and, same_swap}
use Rattle.model.specs.Tree.{Name, Cell, Node, file, device, sub, Entry, Block, any, first, then, entries_of, called, holds, lookup, weight}
use Rattle.model.specs.Render.{View, cells_at, address_of, size_of, offset}
use Rattle.model.specs.Volume.{named, named_in}
use Rattle.model.specs.Calls.{file_entry}
use Rattle.model.proofs.Lists.{not_some, any_there, first_here, first_there, none_head, none_tail}
use Rattle.model.proofs.Others.{lookup_here, lookup_there}
use Rattle.model.proofs.Reached.{lookup_entries, named_entries}
use Rattle.dir_entry.specs.Entry.{is_file}
use Rattle.dir_entry.specs.Shown.{kind_is, head_of}
use Rattle.std.specs.Prelude.{Option, Some, None, Result, Ok}
use Rattle.limits.specs.declared.Damage.{Damage}
use Rattle.dir_entry.specs.declared.DirEntry.{DirEntry}
use Rattle.read_dir.specs.declared.Place.{Place}
use Rattle.read_dir.specs.declared.Placed.{Placed}
use Rattle.read_dir.specs.Walk.{Walk}
use Rattle.read_dir.specs.Finds.{placed}
use Rattle.thm_walk.specs.Shown.{items_of, walk_of, spot_of}
use Rattle.handle.specs.declared.Handle.{Handle}
use Rattle.handle.specs.Handles.{name_of, current, current_in}

-- ---- what a walk gives

abbrev pub Found : Type 0
Found = Result (Option Placed) Damage

abbrev pub found_at : DirEntry → Place → Found
found_at e p = Ok (Some (record { entry = e; place = p }))

-- ---- tests

-- a list has none where both of its parts have none
any_parts : {A : Type 0} (q : A → Bool) (l m : List A) → any q (l ++ m) ≡ false → (any q l ≡ false) × (any q m ≡ false)
unfolding any
any_parts q [] m e = (refl, e)
any_parts q (x ∷ l) m e =
    let r = any_parts q l m (none_tail q x (l ++ m) e) in
    (any_there q x l (none_head q x (l ++ m) e) ∙ r.0, r.1)

module _ {X : Type 0} (v : View X) (h : Handle) where
  -- ---- an entry

  -- whether an entry is the handle's
  abbrev pub own : Entry X → Bool
  own e = current h (head_of v e) e.name

  own_called : (e : Entry X) → own e ≡ true → called (name_of h) e ≡ true
  unfolding current called
  own_called e c =
      let a = and_both (is_file (head_of v e).kind && same e.name (name_of h)) (eqb (head_of v e).addr.0 h.addr.0 && eqb (head_of v e).size h.size) c in
      same_swap (name_of h) e.name ∙ (and_both (is_file (head_of v e).kind) (same e.name (name_of h)) a.0).1

  pub not_own : (e : Entry X) → called (name_of h) e ≡ false → own e ≡ false
  not_own e c = go (either (own e))
    where
      go : (own e ≡ true) ⊎ (own e ≡ false) → own e ≡ false
      go (inl x) = absurd (not_both (own_called e x) c)
      go (inr x) = x

  none_own : (es : List (Entry X)) → any (called (name_of h)) es ≡ false → any own es ≡ false
  unfolding any
  none_own [] e = refl
  none_own (x ∷ es) e = any_there own x es (not_own x (none_head (called (name_of h)) x es e)) ∙ none_own es (none_tail (called (name_of h)) x es e)

  pub own_node : (m : Name) (x : Node X) → ((is_file (kind_is x) && same m (name_of h)) && (eqb (address_of v x) h.addr.0 && eqb (size_of v x) h.size)) ≡ true
      → (cs : List Cell) × (x ≡ file h.size cs) × (cells_at cs ≡ h.addr.0)
  unfolding address_of size_of
  own_node m (file z cs) c =
      let a = and_both (eqb (cells_at cs) h.addr.0) (eqb z h.size) (and_both (true && same m (name_of h)) (eqb (cells_at cs) h.addr.0 && eqb z h.size) c).1 in
      (cs, ap (λ (y : ℕ). file y cs) (eqb-true z h.size a.1), eqb-true (cells_at cs) h.addr.0 a.0)
  own_node m (device z cs) c = absurd (not_both c refl)
  own_node m (sub x) c = absurd (not_both c refl)

  -- What an entry is that is the handle's,
  pub own_file : (e : Entry X) → own e ≡ true → (cs : List Cell) × (e ≡ file_entry (name_of h) e.time h.size cs) × (cells_at cs ≡ h.addr.0)
  unfolding current head_of file_entry called
  own_file e c =
      let r = own_node e.name e.node c in
      let n : e.name ≡ name_of h = sym (same_eq (name_of h) e.name (own_called e c)) in
      (r.0, (λ i. record { name = n i; time = e.time; node = r.1 i }), r.2)

  -- and that such an entry is.
  pub file_own : (k : ℕ) (cs : List Cell) → cells_at cs ≡ h.addr.0 → own (file_entry (name_of h) k h.size cs) ≡ true
  unfolding current head_of file_entry address_of size_of
  file_own k cs a = both_and (both_and refl (same_refl (name_of h))) (both_and (eq-eqb (cells_at cs) h.addr.0 a) (eq-eqb h.size h.size refl))

  -- ---- a directory whose entry of that name is the handle's

  items_here : (a : ℕ) (es : List (Entry X)) (o : ℕ) (w : Walk) (e : Entry X) → first (called (name_of h)) es ≡ some e → own e ≡ true
      → current_in h (items_of v a o es w) ≡ found_at (head_of v e) (placed a (o + offset (name_of h) es))
  unfolding first items_of current_in offset
  items_here a [] o w e f c = absurd (not_some refl f)
  items_here a (x ∷ es) o w e f c = go (either (called (name_of h) x)) (items_here a es (o + weight x) w e)
    where
      go : (called (name_of h) x ≡ true) ⊎ (called (name_of h) x ≡ false)
          → (first (called (name_of h)) es ≡ some e → own e ≡ true → current_in h (items_of v a (o + weight x) es w) ≡ found_at (head_of v e) (placed a (o + weight x + offset (name_of h) es)))
          → current_in h (items_of v a o (x ∷ es) w) ≡ found_at (head_of v e) (placed a (o + offset (name_of h) (x ∷ es)))
      go (inl q) r =
          let both : some x ≡ some e = sym (first_here (called (name_of h)) x es q) ∙ f in
          let k : x ≡ e = cc in
          let z : o ≡ o + offset (name_of h) (x ∷ es) = sym (ap (λ (j : ℕ). o + j) (pick_true 0 (weight x + offset (name_of h) es) q) ∙ add-zero o) in
          pick_true _ _ (ap own k ∙ c) ∙ λ i. found_at (head_of v (k i)) (placed a (z i))
      go (inr q) r =
          let z : o + weight x + offset (name_of h) es ≡ o + offset (name_of h) (x ∷ es)
          = add_assoc o (weight x) (offset (name_of h) es) ∙ sym (ap (λ (j : ℕ). o + j) (pick_false 0 (weight x + offset (name_of h) es) q)) in
          pick_false _ _ (not_own x q) ∙ r (sym (first_there (called (name_of h)) x es q) ∙ f) c ∙ λ i. found_at (head_of v e) (placed a (z i))

  items_there : (a : ℕ) (es : List (Entry X)) (o : ℕ) (w : Walk) → any own es ≡ false → current_in h (items_of v a o es w) ≡ current_in h w
  unfolding items_of current_in
  items_there a [] o w e = refl
  items_there a (x ∷ es) o w e = pick_false _ _ (none_head own x es e) ∙ items_there a es (o + weight x) w (none_tail own x es e)

  -- It is found, at its place.
  pub walk-current : (bs : List (Block X)) (e : Entry X) → lookup (name_of h) bs ≡ some e → own e ≡ true → current_in h (walk_of v bs) ≡ found_at (head_of v e) (spot_of (name_of h) bs)
  unfolding lookup first then walk_of spot_of
  walk-current [] e l c = absurd (not_some refl l)
  walk-current (b ∷ bs) e l c = go (either (holds (name_of h) b)) (walk-current bs e)
    where
      go : (holds (name_of h) b ≡ true) ⊎ (holds (name_of h) b ≡ false)
          → (lookup (name_of h) bs ≡ some e → own e ≡ true → current_in h (walk_of v bs) ≡ found_at (head_of v e) (spot_of (name_of h) bs))
          → current_in h (walk_of v (b ∷ bs)) ≡ found_at (head_of v e) (spot_of (name_of h) (b ∷ bs))
      go (inl q) r =
          items_here b.at b.entries 0 (walk_of v bs) e (sym (lookup_here (name_of h) b bs q) ∙ l) c
          ∙ ap (λ (j : ℕ). found_at (head_of v e) (placed b.at j)) (zero-add (offset (name_of h) b.entries))
          ∙ ap (found_at (head_of v e)) (sym (pick_true (placed b.at (offset (name_of h) b.entries)) (spot_of (name_of h) bs) q))
      go (inr q) r =
          items_there b.at b.entries 0 (walk_of v bs) (none_own b.entries (unfold holds in q)) ∙ r (sym (lookup_there (name_of h) b bs q) ∙ l) c
          ∙ ap (found_at (head_of v e)) (sym (pick_false (placed b.at (offset (name_of h) b.entries)) (spot_of (name_of h) bs) q))

  -- ---- a directory where it is not

  unnamed_own : (es : List (Entry X)) → named (name_of h) es ≡ 0 → any own es ≡ false
  unfolding named any
  unnamed_own [] c = refl
  unnamed_own (x ∷ es) c = go (either (called (name_of h) x)) (unnamed_own es)
    where
      go : (called (name_of h) x ≡ true) ⊎ (called (name_of h) x ≡ false) → (named (name_of h) es ≡ 0 → any own es ≡ false) → any own (x ∷ es) ≡ false
      go (inl q) r = absurd (omega (arith, pick_true {A = ℕ} 1 0 q))
      go (inr q) r = any_there own x es (not_own x q) ∙ r (omega arith)

  -- names are distinct, and the entry of the handle's name is not the handle's
  first_own : (es : List (Entry X)) → named (name_of h) es ≤ 1 → ((e : Entry X) → first (called (name_of h)) es ≡ some e → own e ≡ false) → any own es ≡ false
  unfolding named any
  first_own [] c f = refl
  first_own (x ∷ es) c f = go (either (called (name_of h) x)) (first_own es)
    where
      go : (called (name_of h) x ≡ true) ⊎ (called (name_of h) x ≡ false)
          → (named (name_of h) es ≤ 1 → ((e : Entry X) → first (called (name_of h)) es ≡ some e → own e ≡ false) → any own es ≡ false) → any own (x ∷ es) ≡ false
      go (inl q) r =
          any_there own x es (f x (first_here (called (name_of h)) x es q)) ∙ unnamed_own es (omega (arith, pick_true {A = ℕ} 1 0 q))
      go (inr q) r = any_there own x es (not_own x q) ∙ r (omega arith) (λ e k. f e (first_there (called (name_of h)) x es q ∙ k))

  walk_free : (bs : List (Block X)) → any own (entries_of bs) ≡ false → current_in h (walk_of v bs) ≡ Ok None
  unfolding walk_of entries_of current_in
  walk_free [] e = refl
  walk_free (b ∷ bs) e =
      let r = any_parts own b.entries (entries_of bs) e in
      items_there b.at b.entries 0 (walk_of v bs) r.0 ∙ walk_free bs r.1

  -- It is missing.
  pub walk-missing : (bs : List (Block X)) → ((m : Name) → named_in m bs ≤ 1) → ((e : Entry X) → lookup (name_of h) bs ≡ some e → own e ≡ false)
      → current_in h (walk_of v bs) ≡ Ok None
  walk-missing bs d f =
      walk_free bs (first_own (entries_of bs) (omega (arith, d (name_of h), named_entries (name_of h) bs)) (λ e k. f e (lookup_entries (name_of h) bs ∙ k)))
