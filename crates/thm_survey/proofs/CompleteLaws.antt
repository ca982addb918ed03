-- How the steps of the check compose: a step that finds x and claims blocks by their counts, and which blocks are free to be claimed.
use mathlib.Core.Path.{◌≡◌, refl, ap, ◌∙◌}
use mathlib.Core.Bool.{Bool, true}
use mathlib.Core.Option.{Option, none, some}
use mathlib.Core.List.{List, [], ◌∷◌}
use Prim.Native.Nat.{ℕ, ◌+◌, ◌*◌, ◌^◌, ◌≤◌, ◌<◌}
use native.Mathlib.Nat.{mul-le-mul_left}
use lib.ListN.{length}
use native.Mathlib.Omega.{arith}
use Rattle.thm_survey.proofs.ClaimTests.{claim_free}
use Rattle.wire.specs.Pick.{pick}
use Rattle.wire.proofs.Picks.{pick_true}
use Rattle.block.specs.Block.{Area, BlockSize}
use Rattle.model.specs.Tree.{then}
use Rattle.model.specs.Render.{count}
use Rattle.model.proofs.Counts.{count_cons, count_self}
use Rattle.model.proofs.Areas.{row_inside}
use Rattle.thm_survey.specs.Survey.{Claimed, with_found, claim}

-- Blocks, of which i stands c i times: they are in D..n-1, none is there twice, and none is claimed.
pub record Free (A : Area) (seen : List ℕ) (c : ℕ → ℕ) : Type 0 where
  pub range : (i : ℕ) → 1 ≤ c i → (A.first ≤ i) × (i < A.end)
  pub once : (i : ℕ) → count i seen + c i ≤ 1

-- The step o finds x, and claims the blocks that c counts besides those that are claimed.
pub record Yields {X : Type 0} (o : Option (Claimed X)) (x : X) (seen : List ℕ) (c : ℕ → ℕ) : Type 0 where
  pub now : List ℕ
  pub is : o ≡ some (record { found = x; seen = now })
  pub counts : (i : ℕ) → count i now ≡ count i seen + c i

-- ---- what is free

module _ {A : Area} {seen : List ℕ} where
  -- the same blocks, counted otherwise
  pub free_as : (c e : ℕ → ℕ) → ((i : ℕ) → c i ≡ e i) → Free A seen c → Free A seen e
  free_as c e q f = record { range = λ i h. f.range i (omega (arith, q i)); once = λ i. omega (arith, q i, f.once i) }

  -- some of them
  pub free_part : (c e : ℕ → ℕ) → ((i : ℕ) → e i ≤ c i) → Free A seen c → Free A seen e
  free_part c e h f = record { range = λ i k. f.range i (omega (arith, h i)); once = λ i. omega (arith, h i, f.once i) }

  -- the first of two parts; the second, once the first is claimed
  pub free_left : (c e : ℕ → ℕ) → Free A seen (λ i. c i + e i) → Free A seen c
  free_left c e f = record { range = λ i h. f.range i (omega arith); once = λ i. omega (arith, f.once i) }

  pub free_right : (c e : ℕ → ℕ) (s : List ℕ) → ((i : ℕ) → count i s ≡ count i seen + c i) → Free A seen (λ i. c i + e i) → Free A s e
  free_right c e s q f = record { range = λ i h. f.range i (omega arith); once = λ i. omega (arith, f.once i, q i) }

-- ---- steps

module _ {X : Type 0} where
  -- nothing more to find
  pub finds_end : (x : X) (seen : List ℕ) (c : ℕ → ℕ) → ((i : ℕ) → c i ≡ 0) → Yields (some (record { found = x; seen = seen })) x seen c
  finds_end x seen c z = record { now = seen; is = refl; counts = λ i. omega (arith, z i) }

  pub finds_as : (o : Option (Claimed X)) (x : X) (seen : List ℕ) (c e : ℕ → ℕ) → ((i : ℕ) → c i ≡ e i) → Yields o x seen c → Yields o x seen e
  finds_as o x seen c e q f = record { now = f.now; is = f.is; counts = λ i. omega (arith, q i, f.counts i) }

  -- another step that is the same
  pub finds_same : (o p : Option (Claimed X)) (x : X) (seen : List ℕ) (c : ℕ → ℕ) → p ≡ o → Yields o x seen c → Yields p x seen c
  finds_same o p x seen c e f = record { now = f.now; is = e ∙ f.is; counts = f.counts }

  -- a test that is passed
  pub finds_test : (b : Bool) (o : Option (Claimed X)) (x : X) (seen : List ℕ) (c : ℕ → ℕ) → b ≡ true → Yields o x seen c → Yields (pick b o none) x seen c
  finds_test b o x seen c e f = finds_same o (pick b o none) x seen c (pick_true o none e) f

-- f of what is found
pub finds_with : {X Y : Type 0} (f : X → Y) (o : Option (Claimed X)) (x : X) (seen : List ℕ) (c : ℕ → ℕ) → Yields o x seen c → Yields (with_found f o) (f x) seen c
unfolding with_found then
finds_with {X} {Y} f o x seen c r =
    record { now = r.now; is = ap (λ (z : Option (Claimed X)). with_found f z) r.is; counts = r.counts }

-- one step, then another
pub finds_then : {X Y : Type 0} (o : Option (Claimed X)) (f : Claimed X → Option (Claimed Y)) (x : X) (y : Y) (seen : List ℕ) (c e : ℕ → ℕ) → Yields o x seen c
    → ((s : List ℕ) → ((i : ℕ) → count i s ≡ count i seen + c i) → Yields (f (record { found = x; seen = s })) y s e) → Yields (then o f) y seen (λ i. c i + e i)
unfolding then
finds_then {X} {Y} o f x y seen c e r k =
    let q = k r.now r.counts in
    record { now = q.now; is = ap (λ (z : Option (Claimed X)). then z f) r.is ∙ q.is; counts = λ i. omega (arith, q.counts i, r.counts i) }

-- ---- one block

-- how often i is a
abbrev pub one : ℕ → ℕ → ℕ
one a i = count i (a ∷ [])

module _ (A : Area) (I : List ℕ) (a : ℕ) (seen : List ℕ) where
  -- a block is claimed, then another step
  pub finds_claim : {Y : Type 0} (f : List ℕ → Option (Claimed Y)) (y : Y) (e : ℕ → ℕ) → Free A seen (λ i. one a i + e i)
      → (Free A (a ∷ seen) e → Yields (f (a ∷ seen)) y (a ∷ seen) e) → Yields (then (claim A I a seen) f) y seen (λ i. one a i + e i)
  unfolding then
  finds_claim f y e r k =
      let q : (i : ℕ) → count i (a ∷ seen) ≡ count i seen + one a i = λ i. omega (arith, count_cons i a seen) in
      let m : Yields (f (a ∷ seen)) y (a ∷ seen) e = k (free_right (one a) e (a ∷ seen) q r) in
      let z : claim A I a seen ≡ some (a ∷ seen) = let h = r.range a (omega (arith, count_self a)) in claim_free A I a seen h.0 h.1 (omega (arith, count_self a, r.once a)) in
      record { now = m.now; is = ap (λ (x : Option (List ℕ)). then x f) z ∙ m.is; counts = λ i. omega (arith, m.counts i, q i) }

-- ---- the volume's numbers

-- Blocks have a size that is known, block 0 is no data, the volume lies in the image, and its bytes are counted by 32 bits.
pub record Ground (A : Area) (I : List ℕ) : Type 0 where
  pub known : BlockSize A.size
  pub first : 1 ≤ A.first
  pub inside : A.end * A.size ≤ length I
  pub few : A.end * A.size ≤ 2 ^ 32

module _ {A : Area} {I : List ℕ} (g : Ground A I) where
  -- a block of the volume is in the image, and its address fits four bytes
  pub ground_inside : (a : ℕ) → a < A.end → A.size * a + A.size ≤ length I
  ground_inside a h = row_inside A.size A.end (length I) a g.inside h

  pub address_small : (a : ℕ) → a < A.end → a < 2 ^ 32
  address_small a h = omega (arith, g.few, mul-le-mul_left A.end g.known.least)
