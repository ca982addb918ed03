-- The entries of a block, one after another: as many as there are, whatever the bound.
use Rattle.std.specs.Prelude.{Some, None}
use Rattle.std.specs.Prelude as prelude
use mathlib.Core.Path.{◌≡◌, refl, sym, ap, ◌∙◌}
use mathlib.Core.Option.{Option, none, some}
use mathlib.Core.List.{List, [], ◌∷◌}
use Prim.Native.Nat.{ℕ, zero, suc, ◌+◌, ◌-◌, ◌≤◌}
use native.Mathlib.Omega.{arith}
use Rattle.wire.specs.Pick.{pick, zero_from}
use Rattle.model.specs.Tree.{then}
use Rattle.dir_entry.specs.declared.DirEntry.{DirEntry}
use Rattle.dir_entry.specs.Entry.{header, place_at, name_at, slot_at}
use Rattle.dir_entry.proofs.Slots.{slot_stands}
use Rattle.thm_survey.specs.Survey.{Raw, passes, by_slot, raws_from}

module _ (B : ℕ) (I : List ℕ) (a : ℕ) where
  -- what is read where e is at offset o, and where the entries stop there
  abbrev pub reads : ℕ → ℕ → DirEntry → Option (List Raw)
  reads f o e =
      pick (passes e (name_at I (place_at B a o) e.len))
      (then (raws_from B I f a (o + header + e.len)) (λ rs. some (record { head = e; name = name_at I (place_at B a o) e.len } ∷ rs))) none

  abbrev pub stops : ℕ → Option (List Raw)
  stops o = pick (zero_from I (place_at B a o) (B - 4 - o)) (some []) none

  slot_same : (s : prelude.Option DirEntry) (g h : DirEntry → Option (List Raw)) (x : Option (List Raw)) → ((e : DirEntry) → s ≡ Some e → g e ≡ h e) → by_slot s g x ≡ by_slot s h x
  unfolding by_slot
  slot_same (Some e) g h x k = k e refl
  slot_same None g h x k = refl

  -- any bound that the block's rest does not pass gives the same
  raws_bound : (f k o : ℕ) → o ≤ B - 5 → 5 ≤ B → B - o ≤ f → B - o ≤ k → raws_from B I f a o ≡ raws_from B I k a o
  unfolding raws_from
  raws_bound zero k o l five h m = absurd (omega arith)
  raws_bound (suc f) zero o l five h m = absurd (omega arith)
  raws_bound (suc f) (suc k) o l five h m =
      slot_same (slot_at B I a o) (reads f o) (reads k o) (stops o)
      (λ e q.
      let w : o + 18 + e.len ≤ B - 5 = (slot_stands B I a o e q).ends in
      ap (λ (z : Option (List Raw)). pick (passes e (name_at I (place_at B a o) e.len)) (then z (λ rs. some (record { head = e; name = name_at I (place_at B a o) e.len } ∷ rs))) none)
      (raws_bound f k (o + header + e.len) w five (omega arith) (omega arith)))

  pub raws_step : (o : ℕ) → o ≤ B - 5 → 5 ≤ B → raws_from B I B a o ≡ by_slot (slot_at B I a o) (reads B o) (stops o)
  raws_step o l five = go B refl
    where
      go : (f : ℕ) → f ≡ B → raws_from B I B a o ≡ by_slot (slot_at B I a o) (reads B o) (stops o)
      go zero e = absurd (omega arith)
      go (suc f) e =
          unfold raws_from in
          ap (λ (z : ℕ). raws_from B I z a o) (sym e)
          ∙ slot_same (slot_at B I a o) (reads f o) (reads B o) (stops o)
          (λ d q.
          let w : o + 18 + d.len ≤ B - 5 = (slot_stands B I a o d q).ends in
          ap (λ (z : Option (List Raw)). pick (passes d (name_at I (place_at B a o) d.len)) (then z (λ rs. some (record { head = d; name = name_at I (place_at B a o) d.len } ∷ rs))) none)
          (raws_bound f B (o + header + d.len) w five (omega arith) (omega arith)))
