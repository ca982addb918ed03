-- S5, and the end of D3: after an accepted delete nothing is at the path.
use mathlib.Core.Path.{◌≡◌, refl, sym, ap, ◌∙◌}
use mathlib.Core.Bool.{true, false}
use mathlib.Core.Logic.{◌⊎◌, inl, inr}
use mathlib.Core.List.{List, [], ◌∷◌}
use Prim.Native.Nat.{ℕ, ◌+◌, ◌^◌, ◌≤◌, ◌<◌}
use native.Mathlib.Omega.{arith}
use Rattle.wire.proofs.Picks.{either, not_both, pick_true, pick_false}
use Rattle.model.specs.Tree.{Name, Entry, Block, any, entries_of, called, holds, less_first, Absent, delete, Some, find}
use Rattle.model.specs.Geometry.{Mount, block_size, geo_at}
use Rattle.model.specs.Volume.{named, named_in, WellFormed, max_depth}
use Rattle.model.specs.Calls.{Vacant, deleted}
use Rattle.model.proofs.Edits.{find-edit}
use Rattle.model.proofs.Full.{good_find}
use Rattle.model.proofs.Lists.{any_there, less_first_here, less_first_there}
use Rattle.model.proofs.Reached.{named_entries}
use Rattle.call_change.specs.Changing.{Deletes}
use Rattle.thm_calls.specs.Named.{way_of, last_of}
use Rattle.thm_calls.proofs.Changing.{volume_at, tree_after, delete_tree}
use Rattle.promises.proofs.Lookups.{delete_entries}
use Rattle.std.specs.Prelude.{Result, Ok}
use Rattle.limits.specs.declared.Refusal.{Refusal}

module _ {X : Type 0} (n : Name) where
  -- ---- entries of a name in a block

  named_yes : (e : Entry X) (es : List (Entry X)) → called n e ≡ true → named n (e ∷ es) ≡ 1 + named n es
  unfolding named
  named_yes e es c = ap (λ (k : ℕ). k + named n es) (pick_true {A = ℕ} 1 0 c)

  named_no : (e : Entry X) (es : List (Entry X)) → called n e ≡ false → named n (e ∷ es) ≡ 0 + named n es
  unfolding named
  named_no e es c = ap (λ (k : ℕ). k + named n es) (pick_false {A = ℕ} 1 0 c)

  some_named : (es : List (Entry X)) → any (called n) es ≡ true → 1 ≤ named n es
  unfolding any
  some_named [] h = absurd (not_both h refl)
  some_named (e ∷ es) h = go (either (called n e)) (some_named es)
    where
      go : (called n e ≡ true) ⊎ (called n e ≡ false) → (any (called n) es ≡ true → 1 ≤ named n es) → 1 ≤ named n (e ∷ es)
      go (inl c) r = omega (arith, named_yes e es c)
      go (inr c) r = omega (arith, named_no e es c, r (sym (any_there (called n) e es c) ∙ h))

  -- without the first, none of a name that is there once
  less_named : (es : List (Entry X)) → named n es ≤ 1 → named n (less_first (called n) es) ≡ 0
  unfolding less_first named
  less_named [] h = refl
  less_named (e ∷ es) h = go (either (called n e)) (less_named es)
    where
      go : (called n e ≡ true) ⊎ (called n e ≡ false) → (named n es ≤ 1 → named n (less_first (called n) es) ≡ 0) → named n (less_first (called n) (e ∷ es)) ≡ 0
      go (inl c) r = let z : named n es ≡ 0 = omega (arith, h, named_yes e es c) in ap (named n) (less_first_here (called n) e es c) ∙ z
      go (inr c) r =
          let y : named n es ≤ 1 = omega (arith, h, named_no e es c) in
          let z : named n (e ∷ less_first (called n) es) ≡ 0 = omega (arith, named_no e (less_first (called n) es) c, r y) in
          ap (named n) (less_first_there (called n) e es c) ∙ z

  -- ---- and in a directory

  none_absent : (bs : List (Block X)) → named_in n bs ≡ 0 → Absent n bs
  unfolding any named_in holds
  none_absent [] h = refl
  none_absent (b ∷ bs) h = go (either (any (called n) b.entries)) (none_absent bs)
    where
      go : (any (called n) b.entries ≡ true) ⊎ (any (called n) b.entries ≡ false) → (named_in n bs ≡ 0 → Absent n bs) → Absent n (b ∷ bs)
      go (inl c) r = absurd (omega (arith, h, some_named b.entries c))
      go (inr c) r = any_there (holds n) b bs c ∙ r (omega arith)

  -- A name that was there once is gone.
  pub deleted_absent : (bs : List (Block X)) → named_in n bs ≤ 1 → Absent n (delete n bs)
  deleted_absent bs h =
      none_absent (delete n bs)
      (named_entries n (delete n bs) ∙ ap (named n) (delete_entries n bs) ∙ less_named (entries_of bs) (omega (arith, h, named_entries n bs)))

-- After an accepted delete the path names nothing, in a directory that is there: as D3 asks of the end of a sequence.
pub delete_leaves : (M : Mount) (I W cwd p : List ℕ) (now : ℕ) (r : Result (Unit {0}) Refusal) (J Z : List ℕ) → Deletes M I W cwd p now r J Z → (w : WellFormed M I) → now < 2 ^ 64
    → r ≡ Ok tt → (v : WellFormed M J) → Vacant max_depth (way_of cwd p) (last_of cwd p) v.tree
unfolding deleted
delete_leaves M I W cwd p now r J Z c w clock e v =
    let m = delete_tree M I W cwd p now J Z r c w clock e in
    let n : Name = last_of cwd p in
    let s : Some = m.occupied.dir in
    let g = good_find (block_size (geo_at M I)) max_depth (way_of cwd p) w.tree s (volume_at M I w).laid.good m.occupied.there in
    let t = tree_after M I J w _ _ m.makes v in
    record {
      dir = (s.0, delete n s.1);
      there = ap (find max_depth (way_of cwd p)) t ∙ find-edit max_depth (way_of cwd p) (λ _. now) (λ e bs. delete n bs) w.tree s m.occupied.there;
      free = deleted_absent n s.1 (g.distinct n);
    }
