-- The walk of a directory and of an entry: what the code knows where it answers.
use Rattle.std.specs.Prelude.{Option, Some, None, Result, Ok, Err}
use mathlib.Core.Path.{◌≡◌, sym, ap, ◌∙◌, subst}
use mathlib.Core.Bool.{Bool, true, false}
use mathlib.Core.Option.{none}
use mathlib.Core.List.{List}
use Prim.Native.Nat.{ℕ, suc, ◌-◌, ◌*◌, ◌≤◌}
use native.Mathlib.Nat.{mul_comm}
use native.Mathlib.Omega.{arith}
use lib.ListN.{length}
use Rattle.wire.specs.Pick.{pick}
use Rattle.wire.proofs.Picks.{pick_true, pick_false}
use Rattle.block.specs.declared.Addr.{Addr}
use Rattle.block.specs.Block.{Area}
use Rattle.model.specs.Tree.{then}
use Rattle.model.proofs.Lists.{then_some, then-none}
use Rattle.super_block.specs.declared.SuperBlock.{SuperBlock}
use Rattle.super_block.specs.Super.{Fit}
use Rattle.dir_entry.specs.declared.Kind.TheVariants as kind
use Rattle.dir_entry.specs.declared.DirEntry.{DirEntry}
use Rattle.read_dir.specs.Walk.{Walk, walk}
use Rattle.read_dir.specs.Cursor.{start, cursor_walk, on_step, Stepped}
use Rattle.read_dir.specs.Finds.{sum_from}
use Rattle.read_dir.specs.declared.ReadDir.{ReadDir}
use Rattle.read_dir.proofs.Along.{start-walk}
use Rattle.thm_survey.specs.Survey.{chain_of, seen_of}
use Rattle.check_chain.specs.Marks.{MarksAnswer}
use Rattle.thm_survey.specs.Steps.{open_dir, through, is_total, entry_check, sub_check}
use Rattle.check_chain.proofs.Claims.{beyond_refl}
use Rattle.check_chain.proofs.Remaining.{checks_as, Check, Goes, goes_end, goes_stop, goes_no, goes_yes, goes_last, step_no, step_yes}
use Rattle.thm_survey.proofs.WalkedDirs.{sub-steps, sub-none, file_steps, device_steps}
use Rattle.check_chain.proofs.Chains.{file_of}
use Rattle.limits.specs.declared.Damage.{Damage}
use Rattle.read_dir.specs.declared.Placed.{Placed}

-- ---- a directory's entries

-- what is left to check from the walk w on is what was to be checked from w₀ on
pub record Rest (A : Area) (f : DirEntry → Check) (W₀ : List ℕ) (w₀ : Walk) (W : List ℕ) (w : Walk) : Type 0 where
  pub goes : Goes A (through f w₀) (through f w) W₀ W

module _ (A : Area) (I : List ℕ) (f : DirEntry → Check) (W₀ : List ℕ) (c₀ : ReadDir) (W : List ℕ) (c : ReadDir) (l : Rest A f W₀ (cursor_walk A I c₀) W (cursor_walk A I c))
    (d : ReadDir) (m : Result (Option Placed) Damage) (w : Stepped A I c d m) where
  gave : (x : Result (Option Placed) Damage) → m ≡ x → (seen : List ℕ) → through f (cursor_walk A I c) seen ≡ through f (on_step A I d x) seen
  gave x g seen = ap (λ (v : Walk). through f v seen) (w.walked ∙ ap (on_step A I d) g)

  module _ (dir : Addr) (b : c₀ ≡ start A dir) where
    abbrev all : Check
    all = through f (walk A I dir.0)

    whole : (Z : List ℕ) (r : Bool) → MarksAnswer A (through f (cursor_walk A I c₀)) W₀ Z r → MarksAnswer A all W₀ Z r
    whole Z r q = subst (λ (v : Walk). MarksAnswer A (through f v) W₀ Z r) (start-walk A I c₀ dir b) q

    pub rest_end : m ≡ Ok None → MarksAnswer A all W₀ W true
    unfolding through
    rest_end g = whole W true (goes_end A _ _ W₀ W l.goes (λ seen. gave (Ok None) g seen))

    pub rest_bad : (v : Damage) → m ≡ Err v → MarksAnswer A all W₀ W false
    unfolding through
    rest_bad v g = whole W false (goes_stop A _ _ W₀ W l.goes (λ seen. gave (Err v) g seen))

    pub rest_no : (y : Placed) (Z : List ℕ) (r : Bool) → m ≡ Ok (Some y) → MarksAnswer A (f y.entry) W Z r → r ≡ false → MarksAnswer A all W₀ Z false
    unfolding through
    rest_no y Z r g q h = whole Z false (goes_no A _ _ W₀ W l.goes (f y.entry) Z r q h (λ seen z. gave (Ok (Some y)) g seen ∙ then-none _ z))

  pub rest_on : (y : Placed) (Z : List ℕ) (r : Bool) → m ≡ Ok (Some y) → MarksAnswer A (f y.entry) W Z r → r ≡ true
      → Rest A f W₀ (cursor_walk A I c₀) Z (cursor_walk A I d)
  unfolding through
  rest_on y Z r g q h = record { goes = goes_yes A _ _ W₀ W l.goes (f y.entry) Z r q (through f (cursor_walk A I d)) h (λ seen s z. gave (Ok (Some y)) g seen ∙ then_some _ z) }

-- ---- an entry

pub inside_image : (s : SuperBlock) (I : List ℕ) → Fit s I → s.blocks * s.size ≤ length I
inside_image s I f = omega (arith, f.inside, mul_comm s.size s.blocks)

pub entry_deep : (A : Area) (I : List ℕ) (depth : ℕ) (e : DirEntry) (W : List ℕ) → e.kind ≡ kind.Dir → depth ≡ 0 → MarksAnswer A (entry_check A I depth e) W W false
entry_deep A I depth e W g z = record { beyond = beyond_refl A W; answer = λ seen m. ap (λ (d : ℕ). entry_check A I d e seen) z ∙ sub-none A I e seen g }

module _ (A : Area) (I : List ℕ) (depth : ℕ) (e : DirEntry) (W Z : List ℕ) (r : Bool) where
  pub entry_file : e.kind ≡ kind.File → MarksAnswer A (file_of A I e.addr.0 e.size W) W Z r → MarksAnswer A (entry_check A I depth e) W Z r
  entry_file g q = checks_as A _ _ W Z r (λ seen. file_steps A I depth e seen g) q

  pub entry_device : e.kind ≡ kind.Device → MarksAnswer A (λ seen. seen_of (chain_of A I (A.end - A.first) e.addr.0 seen)) W Z r → MarksAnswer A (entry_check A I depth e) W Z r
  entry_device g q = checks_as A _ _ W Z r (λ seen. device_steps A I depth e seen g) q

  module _ (fits : A.end * A.size ≤ length I) (g : e.kind ≡ kind.Dir) (more : depth ≡ 0 → ⊥) (q : MarksAnswer A (λ seen. seen_of (open_dir A I e.addr.0 seen)) W Z r) where
    abbrev fits_size : Bool
    fits_size = is_total e.size (sum_from 0 (walk A I e.addr.0))

    abbrev below : Check
    below = through (entry_check A I (depth - 1)) (walk A I e.addr.0)

    as_sub : (seen : List ℕ) → entry_check A I depth e seen ≡ then (seen_of (open_dir A I e.addr.0 seen)) (λ s. pick fits_size (below s) none)
    unfolding sub_check
    as_sub seen =
        let w : depth ≡ suc (depth - 1) = omega arith in
        ap (λ (d : ℕ). entry_check A I d e seen) w ∙ sub-steps A I fits (depth - 1) e seen g

    pub entry_shut : r ≡ false → MarksAnswer A (entry_check A I depth e) W Z false
    entry_shut h = subst (MarksAnswer A (entry_check A I depth e) W Z) h (step_no A _ (λ s. pick fits_size (below s) none) _ W Z r q as_sub h)

    module _ (h : r ≡ true) (t : Bool) (o : t ≡ fits_size) where
      opened : Goes A (entry_check A I depth e) (λ s. pick fits_size (below s) none) W Z
      opened = step_yes A _ (λ s. pick fits_size (below s) none) _ W Z r q as_sub h

      pub entry_size : t ≡ false → MarksAnswer A (entry_check A I depth e) W Z t
      entry_size z = subst (MarksAnswer A (entry_check A I depth e) W Z) (sym z) (goes_stop A _ _ W Z opened (λ s. pick_false _ _ (sym o ∙ z)))

      pub entry_down : t ≡ true → (d : ℕ) (Y : List ℕ) (u : Bool) → d ≡ depth - 1 → MarksAnswer A (through (entry_check A I d) (walk A I e.addr.0)) Z Y u → MarksAnswer A (entry_check A I depth e) W Y u
      entry_down z d Y u v p =
          goes_last A _ (λ s. pick fits_size (below s) none) W Z Y u opened
          (checks_as A below (λ s. pick fits_size (below s) none) Z Y u (λ s. pick_true _ _ (sym o ∙ z))
          (subst (λ (j : ℕ). MarksAnswer A (through (entry_check A I j) (walk A I e.addr.0)) Z Y u) v p))
