-- One block of a directory, entry after entry: what the loop that looks at it keeps, and one law for each answer.
use Rattle.std.specs.Prelude.{Some, None, Result, Ok, Err}
use Rattle.std.specs.Prelude as prelude
use mathlib.Core.Path.{◌≡◌, refl, sym, ap, ◌∙◌, subst}
use mathlib.Core.Bool.{Bool, true, false, not, ◌&&◌, ◌||◌}
use mathlib.Core.Logic.{◌⊎◌, inl, inr}
use mathlib.Core.Option.{Option, none, some}
use mathlib.Core.List.{List, [], ◌∷◌}
use Prim.Native.Nat.{ℕ, ◌+◌, ◌-◌, ◌≤◌}
use native.Mathlib.Omega.{arith}
use lib.Dec.{eqb}
use borrow.Author.Tests.{eq-eqb, ne_eqb}
use Rattle.wire.specs.Pick.{pick, zero_from}
use Rattle.wire.proofs.Picks.{pick_true, pick_false}
use Rattle.block.specs.Block.{BlockSize}
use Rattle.model.specs.Tree.{then}
use Rattle.dir_entry.specs.declared.DirEntry.{DirEntry}
use Rattle.dir_entry.specs.Entry.{place_at, name_at, slot_at}
use Rattle.dir_entry.proofs.Slots.{place_is, slot_stands}
use Rattle.text.specs.Text.{is_name}
use Rattle.thm_survey.specs.Survey.{Raw, has_some, passes, by_slot, raws_from}
use Rattle.check_dir.specs.Blocks.{may_stand}
use Rattle.thm_survey.specs.Steps.{is_total}
use Rattle.thm_survey.proofs.RawSteps.{reads, stops, raws_step}
use Rattle.limits.specs.declared.Damage.{Damage}

-- ---- an entry passes

module _ (e : DirEntry) (x : List ℕ) where
  pub passes_zero : (e.addr.0 ≡ 0) → not (eqb e.addr.0 0) ≡ passes e x
  unfolding passes
  passes_zero z = rw (eq-eqb e.addr.0 0 z) refl

  pub passes_name : (r : Bool) (y : List ℕ) → (e.addr.0 ≡ 0 → ⊥) → y ≡ x → r ≡ is_name y → r ≡ passes e x
  unfolding passes
  passes_name r y z h g = g ∙ ap is_name h ∙ sym (ap (λ (b : Bool). not b && is_name x) (ne_eqb e.addr.0 0 z))

-- ---- the size of a directory

module _ (size : ℕ) (s m : Result ℕ Damage) (e : s ≡ m) where
  pub total_is : (t : ℕ) → s ≡ Ok t → eqb size t ≡ is_total size m
  unfolding is_total
  total_is t g = ap (is_total size) (sym g ∙ e)

  pub total_none : (v : Damage) → s ≡ Err v → false ≡ is_total size m
  unfolding is_total
  total_none v g = ap (is_total size) (sym g ∙ e)

-- ---- the loop

-- what is left to look at from offset o on says whether the block may stand there: an entry is wanted of a later one that had none
abbrev pub Looks : ℕ → List ℕ → Bool → ℕ → ℕ → Type 0
Looks B I late a o = may_stand late (raws_from B I B a 0) ≡ may_stand (late && eqb o 0) (raws_from B I B a o)

more_stands : (late : Bool) (o p : ℕ) (r : Raw) (x : Option (List Raw)) → 1 ≤ p
    → may_stand (late && eqb o 0) (then x (λ rs. some (r ∷ rs))) ≡ may_stand (late && eqb p 0) x
unfolding may_stand then has_some
more_stands late o p r none h = refl
more_stands false o p r (some rs) h = refl
more_stands true o p r (some rs) h = both (not (eqb o 0)) ∙ sym (ap (λ (b : Bool). not b || has_some rs) (ne_eqb p 0 (λ z. omega arith)))
  where
    both : (b : Bool) → (b || true) ≡ true
    both true = refl
    both false = refl

-- where no entry is left
none_stands : (late z : Bool) → may_stand late (pick z (some []) none) ≡ (not late && z)
unfolding may_stand pick has_some
none_stands true true = refl
none_stands true false = refl
none_stands false true = refl
none_stands false false = refl

module _ (B : ℕ) (I : List ℕ) (late : Bool) (a b o z : ℕ) (known : BlockSize B) (v : Looks B I late a o) (l : o ≤ B - 5)
    (s : prelude.Option DirEntry) (large : z ≡ B) (same : b ≡ a) (read : s ≡ slot_at z I b o) where
  d : s ≡ slot_at B I a o
  d = read ∙ (λ i. slot_at (large i) I (same i) o)

  stepped : raws_from B I B a o ≡ by_slot s (reads B I a B o) (stops B I a o)
  stepped =
      raws_step B I a o l (omega (arith, known.least))
      ∙ ap (λ (z : prelude.Option DirEntry). by_slot z (reads B I a B o) (stops B I a o)) (sym d)

  -- the entries stop here
  module _ (e : s ≡ None) where
    stopped : may_stand late (raws_from B I B a 0) ≡ (not (late && eqb o 0) && zero_from I (place_at B a o) (B - 4 - o))
    unfolding by_slot
    stopped =
        v ∙ ap (may_stand (late && eqb o 0)) (stepped ∙ ap (λ (z : prelude.Option DirEntry). by_slot z (reads B I a B o) (stops B I a o)) e)
        ∙ none_stands (late && eqb o 0) (zero_from I (place_at B a o) (B - 4 - o))

    pub looks_empty : late ≡ true → o ≡ 0 → false ≡ may_stand late (raws_from B I B a 0)
    looks_empty t g = sym (stopped ∙ rw t (rw g refl))

    -- k is the block's capacity, p the byte behind its entries
    pub looks_zeros : (p k : ℕ) (r : Bool) → ((late ≡ true) × (o ≡ 0 → ⊥)) ⊎ (late ≡ false) → p ≡ place_at z b o → k ≡ z - 4
        → r ≡ zero_from I p (k - o) → r ≡ may_stand late (raws_from B I B a 0)
    looks_zeros p k r t g c h =
        let y : (late && eqb o 0) ≡ false = wanted t in
        let q : p ≡ place_at B a o = place_is o large same g in
        let m : k - o ≡ B - 4 - o = omega (arith, large) in
        h ∙ (λ i. zero_from I (q i) (m i))
        ∙ sym (stopped ∙ ap (λ (x : Bool). not x && zero_from I (place_at B a o) (B - 4 - o)) y)
      where
        wanted : ((late ≡ true) × (o ≡ 0 → ⊥)) ⊎ (late ≡ false) → (late && eqb o 0) ≡ false
        wanted (inl f) = ap (λ (x : Bool). x && eqb o 0) f.0 ∙ ne_eqb o 0 f.1
        wanted (inr f) = ap (λ (x : Bool). x && eqb o 0) f

  module _ (e : DirEntry) (g : s ≡ Some e) where
    -- an entry here ends in the block
    pub entry_fits : o + 18 + e.len ≤ B - 5
    entry_fits = (slot_stands B I a o e (sym d ∙ g)).ends

    pub entry_over : o + (18 + e.len) ≤ B - 5
    entry_over = omega (arith, entry_fits)

    entry_read : raws_from B I B a o ≡ reads B I a B o e
    unfolding by_slot
    entry_read = stepped ∙ ap (λ (z : prelude.Option DirEntry). by_slot z (reads B I a B o) (stops B I a o)) g

    module _ (t : Bool) (h : t ≡ passes e (name_at I (place_at B a o) e.len)) where
      pub looks_bad : t ≡ false → false ≡ may_stand late (raws_from B I B a 0)
      unfolding may_stand
      looks_bad f = sym (v ∙ ap (may_stand (late && eqb o 0)) (entry_read ∙ pick_false _ _ (sym h ∙ f)))

      pub looks_more : t ≡ true → Looks B I late a (o + (18 + e.len))
      looks_more f =
          let w : o + 18 + e.len ≡ o + (18 + e.len) = omega arith in
          subst (Looks B I late a) w
          (v ∙ ap (may_stand (late && eqb o 0)) (entry_read ∙ pick_true _ _ (sym h ∙ f))
          ∙ more_stands late o (o + 18 + e.len) _ (raws_from B I B a (o + 18 + e.len)) (omega arith))
