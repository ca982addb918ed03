-- The entries of a directory's block that an image shows are those that the check reads.
use Rattle.std.specs.Prelude as prelude
use mathlib.Core.Path.{◌≡◌, ap, ◌∙◌}
use mathlib.Core.Bool.{true}
use mathlib.Core.Option.{Option, some}
use mathlib.Core.List.{List, [], ◌∷◌}
use Prim.Native.Nat.{ℕ, zero, suc, ◌+◌, ◌-◌, ◌*◌, ◌≤◌}
use native.Mathlib.Omega.{arith}
use lib.ListN.{length}
use borrow.Author.Tests.{ne_eqb}
use Rattle.thm_survey.proofs.RawSteps.{reads, stops}
use Rattle.wire.proofs.Picks.{pick_true}
use Rattle.wire.proofs.Zeros.{zeros_pass}
use Rattle.block.specs.Block.{Area, BlockSize}
use Rattle.model.specs.Tree.{Name, Entry, then, weight, used}
use Rattle.model.specs.Render.{View, padded, entry_bytes, entries_bytes, Shows}
use Rattle.model.specs.Volume.{All}
use Rattle.dir_entry.specs.declared.DirEntry.{DirEntry}
use Rattle.dir_entry.specs.Entry.{place_at, name_at}
use Rattle.dir_entry.specs.Shown.{head_of}
use Rattle.dir_entry.proofs.Shown.{Legible, less_left, first_shown, zero_at, block_stops, slot_is, name_is}
use Rattle.text.specs.Text.{is_name}
use Rattle.thm_survey.specs.Survey.{Raw, passes, by_slot, raws_from}

-- ---- an entry as its bytes show it

abbrev pub raw_of : {X : Type 0} → View X → Entry X → Raw
raw_of v e = record { head = head_of v e; name = e.name }

unfoldable pub raws_of : {X : Type 0} → View X → List (Entry X) → List Raw
raws_of v [] = []
raws_of v (e ∷ es) = raw_of v e ∷ raws_of v es

-- ---- one entry

entry_passes : (e : DirEntry) (x : Name) → (e.addr.0 ≡ 0 → ⊥) → is_name x ≡ true → passes e x ≡ true
unfolding passes
entry_passes e x r a = rw (ne_eqb e.addr.0 0 r) a

-- ---- one block

module _ {X : Type 0} (A : Area) (I : List ℕ) (v : View X) (a : ℕ) (known : BlockSize A.size) (inside : A.size * a + A.size ≤ length I) where
  reads_entry : (f o : ℕ) (e : Entry X) (rs : List Raw) → Legible v e → o + weight e ≤ A.size - 5 → Shows I (place_at A.size a o) (entry_bytes v e)
      → raws_from A.size I f a (o + weight e) ≡ some rs → reads A.size I a f o (head_of v e) ≡ some (raw_of v e ∷ rs)
  unfolding head_of then
  reads_entry f o e rs l h s r =
      let w : o + 18 + length e.name ≡ o + weight e = unfold weight in omega arith in
      let x : name_at I (place_at A.size a o) (length e.name) ≡ e.name = name_is A.size I v a inside o e h s in
      pick_true _ _ (ap (passes (head_of v e)) x ∙ entry_passes (head_of v e) e.name (λ z. omega (arith, l.some_address)) l.good_name.allowed)
      ∙ ap (λ (z : List ℕ). then (raws_from A.size I f a (o + 18 + length e.name)) (λ rs. some (record { head = head_of v e; name = z } ∷ rs))) x
      ∙ ap (λ (z : Option (List Raw)). then z (λ rs. some (raw_of v e ∷ rs))) (ap (raws_from A.size I f a) w ∙ r)

  -- A block that shows entries from offset o on, and zeros after them: they are read, with any bound that the block's rest does not pass.
  pub find_raws : (es : List (Entry X)) (f o : ℕ) → A.size - o ≤ f → o + used es ≤ A.size - 5 → All (Legible v) es
      → Shows I (place_at A.size a o) (padded (A.size - 4 - o) (entries_bytes v es)) → raws_from A.size I f a o ≡ some (raws_of v es)
  unfolding raws_from raws_of by_slot used entries_bytes
  find_raws es zero o k h l s = absurd (omega arith)
  find_raws [] (suc f) o k h l s =
      ap (λ (z : prelude.Option DirEntry). by_slot z (reads A.size I a f o) (stops A.size I a o)) (block_stops A.size I v a o (omega arith) s)
      ∙ pick_true _ _ (zeros_pass I (A.size - 4 - o) (place_at A.size a o) (zero_at A.size I v a o s))
  find_raws (e ∷ es) (suc f) o k h l s =
      let q = first_shown A.size I v a o e es (unfold entries_bytes in s) in
      let g : 18 ≤ weight e = unfold weight in omega arith in
      let m : raws_from A.size I f a (o + weight e) ≡ some (raws_of v es) = find_raws es f (o + weight e) (less_left A.size o f (weight e) k (omega arith)) (omega arith) l.1 q.1 in
      ap (λ (z : prelude.Option DirEntry). by_slot z (reads A.size I a f o) (stops A.size I a o)) (slot_is A.size I v a o e l.0 (omega arith) q.0)
      ∙ reads_entry f o e (raws_of v es) l.0 (omega arith) q.0 m
