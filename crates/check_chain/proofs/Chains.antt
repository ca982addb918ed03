-- The chain of a file, block after block: what the loop that claims it keeps, and one law for each of its answers.
use mathlib.Core.Path.{◌≡◌, refl, sym, ap, ◌∙◌, subst}
use mathlib.Core.Bool.{Bool, true, false}
use mathlib.Core.Option.{Option, none, some}
use mathlib.Core.List.{List, [], ◌∷◌}
use Prim.Native.Nat.{ℕ, suc, ◌+◌, ◌-◌, ◌≤◌, ◌<◌}
use native.Mathlib.Omega.{arith}
use lib.Dec.{eqb, leb}
use borrow.Author.Tests.{eq-eqb, ne_eqb, le-leb, lt-leb}
use Rattle.wire.specs.Pick.{pick}
use Rattle.wire.proofs.Picks.{pick_true, pick_false}
use Rattle.block.specs.Block.{Area, next}
use Rattle.model.specs.Tree.{Cell, then}
use Rattle.model.proofs.Lists.{then_some, then-none}
use Rattle.thm_survey.specs.Survey.{Claimed, with_found, claim, cells_of, chain_of, seen_of}
use Rattle.check_chain.specs.Marks.{MarksAnswer}
use Rattle.check_chain.proofs.Remaining.{Check, checks_as, Goes, goes_refl, goes_from, goes_end, goes_stop, goes_no, goes_yes}
use Rattle.model.specs.Volume.{file_limit, blocks_for}
use Rattle.check_chain.proofs.Claims.{beyond_refl}
use Rattle.thm_survey.proofs.Seen.{seen_with}

-- ---- what is claimed along the chain

seen_none : (X : Type 0) → seen_of {X = X} none ≡ none
unfolding seen_of then
seen_none X = refl

-- a claim looks at the area alone
claim-any : (A : Area) (I : List ℕ) (a : ℕ) (seen : List ℕ) → claim A I a seen ≡ claim A [] a seen
unfolding claim
claim-any A I a seen = refl

module _ (A : Area) (I : List ℕ) where
  seen_done : (a : ℕ) (seen : List ℕ) → eqb a 0 ≡ true → seen_of (cells_of A I 0 a seen) ≡ some seen
  unfolding seen_of cells_of then
  seen_done a seen e = ap (λ (o : Option (Claimed (List Cell))). then o (λ c. some c.seen)) (pick_true _ _ e)

  seen_over : (a : ℕ) (seen : List ℕ) → eqb a 0 ≡ false → seen_of (cells_of A I 0 a seen) ≡ none
  unfolding seen_of cells_of then
  seen_over a seen e = ap (λ (o : Option (Claimed (List Cell))). then o (λ c. some c.seen)) (pick_false _ _ e)

  seen_next : (k a : ℕ) (seen s : List ℕ) → claim A [] a seen ≡ some s → seen_of (cells_of A I (suc k) a seen) ≡ seen_of (cells_of A I k (next A.size I a) s)
  unfolding cells_of
  seen_next k a seen s e =
      ap seen_of (then_some (λ t. with_found (λ cs. record { at = a; body = _ } ∷ cs) (cells_of A I k (next A.size I a) t)) (claim-any A I a seen ∙ e))
      ∙ seen_with (λ cs. record { at = a; body = _ } ∷ cs) (cells_of A I k (next A.size I a) s)

  seen_stop : (k a : ℕ) (seen : List ℕ) → claim A [] a seen ≡ none → seen_of (cells_of A I (suc k) a seen) ≡ none
  unfolding cells_of
  seen_stop k a seen e =
      ap seen_of (then-none (λ t. with_found (λ cs. record { at = a; body = _ } ∷ cs) (cells_of A I k (next A.size I a) t)) (claim-any A I a seen ∙ e)) ∙ seen_none (List Cell)

-- ---- the loop, whatever check g (of at most so many blocks, from an address on) it computes: after j of k blocks, what is left
-- to claim from W on is what was to be claimed from W₀ on

abbrev pub Along : Type 0
Along = ℕ → ℕ → Check

pub record Left (A : Area) (g : Along) (W₀ : List ℕ) (k a : ℕ) (W : List ℕ) (b j : ℕ) : Type 0 where
  pub goes : Goes A (g k a) (g (k - j) b) W₀ W

module _ (A : Area) (g : Along) (W₀ : List ℕ) (k a : ℕ) where
  pub left_start : Left A g W₀ k a W₀ a 0
  left_start =
      let e : k ≡ k - 0 = omega arith in
      record { goes = goes_from A (g k a) (g (k - 0) a) (g (k - 0) a) W₀ W₀ (λ s. ap (λ (i : ℕ). g i a s) e) (goes_refl A (g (k - 0) a) W₀) }

  module _ (W : List ℕ) (b j : ℕ) (l : Left A g W₀ k a W b j) where
    none_left : k ≤ j → k - j ≡ 0
    none_left h = omega arith

    some_left : j < k → k - j ≡ suc (k - (j + 1))
    some_left h = omega arith

    -- nothing is left
    left_end : k ≤ j → ((seen : List ℕ) → g 0 b seen ≡ some seen) → MarksAnswer A (g k a) W₀ W true
    left_end h e = goes_end A (g k a) (g (k - j) b) W₀ W l.goes (λ s. ap (λ (i : ℕ). g i b s) (none_left h) ∙ e s)

    pub left_over : k ≤ j → ((seen : List ℕ) → g 0 b seen ≡ none) → MarksAnswer A (g k a) W₀ W false
    left_over h e = goes_stop A (g k a) (g (k - j) b) W₀ W l.goes (λ s. ap (λ (i : ℕ). g i b s) (none_left h) ∙ e s)

    pub left_answer : (t : Bool) → k ≤ j → (t ≡ true → (seen : List ℕ) → g 0 b seen ≡ some seen) → (t ≡ false → (seen : List ℕ) → g 0 b seen ≡ none)
        → MarksAnswer A (g k a) W₀ W t
    left_answer true h e f = left_end h (e refl)
    left_answer false h e f = left_over h (f refl)

    -- block b passes its check h, or not
    module _ (h : Check) (Z : List ℕ) (r : Bool) (more : j < k) (q : MarksAnswer A h W Z r) where
      pub left_stop : r ≡ false → ((i : ℕ) (seen : List ℕ) → h seen ≡ none → g (suc i) b seen ≡ none) → MarksAnswer A (g k a) W₀ Z false
      left_stop e f = goes_no A (g k a) (g (k - j) b) W₀ W l.goes h Z r q e (λ s y. ap (λ (i : ℕ). g i b s) (some_left more) ∙ f (k - (j + 1)) s y)

      pub left_step : (c : ℕ) → r ≡ true → ((i : ℕ) (seen s : List ℕ) → h seen ≡ some s → g (suc i) b seen ≡ g i c s) → Left A g W₀ k a Z c (j + 1)
      left_step c e f = record { goes = goes_yes A (g k a) (g (k - j) b) W₀ W l.goes h Z r q (g (k - (j + 1)) c) e (λ s y z. ap (λ (i : ℕ). g i b s) (some_left more) ∙ f (k - (j + 1)) s y z) }

      -- the chain ends with b
      pub left_last : r ≡ true → ((i : ℕ) (seen s : List ℕ) → h seen ≡ some s → g (suc i) b seen ≡ some s) → MarksAnswer A (g k a) W₀ Z true
      left_last e f =
          goes_end A (g k a) some W₀ Z
          (goes_yes A (g k a) (g (k - j) b) W₀ W l.goes h Z r q some e (λ s y z. ap (λ (i : ℕ). g i b s) (some_left more) ∙ f (k - (j + 1)) s y z)) (λ s. refl)

-- ---- a file's chain

module _ (A : Area) (I : List ℕ) where
  abbrev pub file_check : Along
  file_check k a seen = seen_of (cells_of A I k a seen)

  pub file_done : (b : ℕ) → eqb b 0 ≡ true → (seen : List ℕ) → file_check 0 b seen ≡ some seen
  file_done b e seen = seen_done A I b seen e

  pub file_over : (b : ℕ) → eqb b 0 ≡ false → (seen : List ℕ) → file_check 0 b seen ≡ none
  file_over b e seen = seen_over A I b seen e

  pub file_stop : (b j : ℕ) (seen : List ℕ) → claim A [] b seen ≡ none → file_check (suc j) b seen ≡ none
  file_stop b j seen e = seen_stop A I j b seen e

  pub file_next : (b c : ℕ) → c ≡ next A.size I b → (j : ℕ) (seen s : List ℕ) → claim A [] b seen ≡ some s → file_check (suc j) b seen ≡ file_check j c s
  file_next b c h j seen s e = seen_next A I j b seen s e ∙ ap (λ (x : ℕ). file_check j x s) (sym h)

-- ---- a device's chain

module _ (A : Area) (I : List ℕ) where
  abbrev pub device_check : Along
  device_check k a seen = seen_of (chain_of A I k a seen)

  pub device_over : (b : ℕ) (seen : List ℕ) → device_check 0 b seen ≡ none
  unfolding chain_of
  device_over b seen = seen_none (List Cell)

  pub device_stop : (b j : ℕ) (seen : List ℕ) → claim A [] b seen ≡ none → device_check (suc j) b seen ≡ none
  unfolding chain_of
  device_stop b j seen e =
      ap seen_of (then-none (λ s. with_found (λ cs. record { at = b; body = _ } ∷ cs) (pick (eqb (next A.size I b) 0) (some (record { found = []; seen = s })) (chain_of A I j (next A.size I b) s))) (claim-any A I b seen ∙ e))
      ∙ seen_none (List Cell)

  device_claimed : (b j : ℕ) (seen s : List ℕ) → claim A [] b seen ≡ some s
      → device_check (suc j) b seen ≡ seen_of (pick (eqb (next A.size I b) 0) (some (record { found = []; seen = s })) (chain_of A I j (next A.size I b) s))
  unfolding chain_of
  device_claimed b j seen s e =
      ap seen_of (then_some (λ t. with_found (λ cs. record { at = b; body = _ } ∷ cs) (pick (eqb (next A.size I b) 0) (some (record { found = []; seen = t })) (chain_of A I j (next A.size I b) t))) (claim-any A I b seen ∙ e))
      ∙ seen_with (λ cs. record { at = b; body = _ } ∷ cs) (pick (eqb (next A.size I b) 0) (some (record { found = []; seen = s })) (chain_of A I j (next A.size I b) s))

  pub device_last : (b c : ℕ) → c ≡ next A.size I b → c ≡ 0 → (j : ℕ) (seen s : List ℕ) → claim A [] b seen ≡ some s → device_check (suc j) b seen ≡ some s
  unfolding seen_of then
  device_last b c h z j seen s e =
      device_claimed b j seen s e ∙ ap (λ (o : Option (Claimed (List Cell))). then o (λ x. some x.seen)) (pick_true _ _ (eq-eqb (next A.size I b) 0 (sym h ∙ z)))

  pub device_next : (b c : ℕ) → c ≡ next A.size I b → (c ≡ 0 → ⊥) → (j : ℕ) (seen s : List ℕ) → claim A [] b seen ≡ some s → device_check (suc j) b seen ≡ device_check j c s
  device_next b c h z j seen s e =
      device_claimed b j seen s e ∙ ap seen_of (pick_false _ _ (ne_eqb (next A.size I b) 0 (λ w. z (h ∙ w)))) ∙ ap (λ (x : ℕ). device_check j x s) (sym h)

-- ---- the chain of a file of that size

module _ (A : Area) (I : List ℕ) (a size : ℕ) (W : List ℕ) where
  abbrev pub file_of : Check
  file_of seen = pick (leb size file_limit) (seen_of (cells_of A I (blocks_for A.size size) a seen)) none

  pub file_large : file_limit < size → MarksAnswer A file_of W W (leb size file_limit)
  file_large h =
      let t : leb size file_limit ≡ false = lt-leb size file_limit h in
      subst (MarksAnswer A file_of W W) (sym t) (record { beyond = beyond_refl A W; answer = λ seen m. pick_false _ _ t })

  pub file_cells : size ≤ file_limit → (k : ℕ) (Z : List ℕ) (r : Bool) → k ≡ blocks_for A.size size → MarksAnswer A (λ seen. seen_of (cells_of A I k a seen)) W Z r → MarksAnswer A file_of W Z r
  file_cells h k Z r e q =
      checks_as A (λ seen. seen_of (cells_of A I k a seen)) file_of W Z r
      (λ seen. pick_true _ _ (le-leb size file_limit h) ∙ ap (λ (j : ℕ). seen_of (cells_of A I j a seen)) (sym e)) q
