-- The laws of the filter's bits: of a pair, and of the four.
use mathlib.Core.Path.{◌≡◌, refl, sym, ap, ◌∙◌}
use mathlib.Core.Logic.{◌≢◌}
use mathlib.Core.Bool.{Bool, true, false, ◌&&◌}
use mathlib.Core.List.{List}
use Prim.Native.Nat.{ℕ, ◌/◌, ◌%◌, ◌<◌}
use native.Mathlib.Omega.{arith}
use native.Mathlib.Decide.{ℕ_discrete}
use lib.Dec.{eqb}
use lib.ListN.{length, get_or, set, length-set}
use lib.Seq.{get_or-set_same, get_or-set_other}
use borrow.Author.Tests.{eq-eqb, eqb-true, ne_eqb}
use Rattle.wire.proofs.Picks.{and_both}
use Rattle.bits.specs.Bit.{bit, with_bit}
use Rattle.bits.proofs.Bits.{length_with, byte_with_other, bit_with_same, bit_with_other}
use Rattle.name_filter.specs.Bits.{filter_bytes, low_bit, high_bit, turned, pair_in, with_pair, less_pair, filtered, noted, wiped, OffPair}

-- ---- what code tests, sets and makes zero

module _ (F : List ℕ) (h a : ℕ) (e : a ≡ bit F 0 (h % 131072)) where
  pub pair_low : (a ≡ 1 → ⊥) → false ≡ pair_in F h
  unfolding pair_in
  pair_low z = sym (ap (λ (b : Bool). b && eqb (bit F 0 (high_bit h)) 1) (ne_eqb (bit F 0 (low_bit h)) 1 (λ o. z (e ∙ o))))

  pub pair_both : (b : ℕ) → a ≡ 1 → b ≡ bit F 0 (h / 32768) → eqb b 1 ≡ pair_in F h
  unfolding pair_in
  pair_both b z f =
      let o : bit F 0 (low_bit h) ≡ 1 = omega arith in
      ap (λ (y : ℕ). eqb y 1) f ∙ sym (ap (λ (t : Bool). t && eqb (bit F 0 (high_bit h)) 1) (eq-eqb (bit F 0 (low_bit h)) 1 o))

pub pair_set : (F G H : List ℕ) (h : ℕ) → G ≡ with_bit F 0 (h % 131072) 1 → H ≡ with_bit G 0 (h / 32768) 1 → H ≡ with_pair F h
unfolding with_pair
pair_set F G H h e f = f ∙ ap (λ (y : List ℕ). with_bit y 0 (h / 32768) 1) e

pub pair_wiped : (F : List ℕ) (h : ℕ) → set (set F (h % 131072 / 8) 0) (h / 32768 / 8) 0 ≡ less_pair F h
unfolding less_pair
pair_wiped F h = refl

-- ---- bits

-- a bit set stays so when another is set
still_set : (F : List ℕ) (x y : ℕ) → x / 8 < length F → bit F 0 y ≡ 1 → bit (with_bit F 0 x 1) 0 y ≡ 1
still_set F x y h e = go (ℕ_discrete y x)
  where
    go : Dec (y ≡ x) → bit (with_bit F 0 x 1) 0 y ≡ 1
    go (yes q) = ap (bit (with_bit F 0 x 1) 0) q ∙ bit_with_same F 0 x 1 (omega arith) (omega arith)
    go (no q) = bit_with_other F 0 x 1 y (omega arith) (omega arith) q ∙ e

both_set : (F : List ℕ) (h : ℕ) → bit F 0 (low_bit h) ≡ 1 → bit F 0 (high_bit h) ≡ 1 → pair_in F h ≡ true
unfolding pair_in
both_set F h p q = ap (λ (b : Bool). b && eqb (bit F 0 (high_bit h)) 1) (eq-eqb (bit F 0 (low_bit h)) 1 p) ∙ eq-eqb (bit F 0 (high_bit h)) 1 q

set_both : (F : List ℕ) (h : ℕ) → pair_in F h ≡ true → (bit F 0 (low_bit h) ≡ 1) × (bit F 0 (high_bit h) ≡ 1)
unfolding pair_in
set_both F h t =
    let q = and_both (eqb (bit F 0 (low_bit h)) 1) (eqb (bit F 0 (high_bit h)) 1) t in
    (eqb-true (bit F 0 (low_bit h)) 1 q.0, eqb-true (bit F 0 (high_bit h)) 1 q.1)

-- The filter with a pair set, and with its bytes zero.
module _ (F : List ℕ) (h : ℕ) where
  length_pair : length (with_pair F h) ≡ length F
  unfolding with_pair
  length_pair = length_with (with_bit F 0 (low_bit h) 1) 0 (high_bit h) 1 ∙ length_with F 0 (low_bit h) 1

  pair_other : (j : ℕ) → j ≢ low_bit h / 8 → j ≢ high_bit h / 8 → get_or (with_pair F h) j 0 ≡ get_or F j 0
  unfolding with_pair
  pair_other j p q =
      byte_with_other (with_bit F 0 (low_bit h) 1) 0 (high_bit h) 1 j (λ e. q (omega arith))
      ∙ byte_with_other F 0 (low_bit h) 1 j (λ e. p (omega arith))

  length_less : length (less_pair F h) ≡ length F
  unfolding less_pair
  length_less = length-set (set F (low_bit h / 8) 0) (high_bit h / 8) 0 ∙ length-set F (low_bit h / 8) 0

  less_other : (j : ℕ) → j ≢ low_bit h / 8 → j ≢ high_bit h / 8 → get_or (less_pair F h) j 0 ≡ get_or F j 0
  unfolding less_pair
  less_other j p q = get_or-set_other (set F (low_bit h / 8) 0) (high_bit h / 8) j 0 0 q ∙ get_or-set_other F (low_bit h / 8) j 0 0 p

  module _ (l : length F ≡ filter_bytes) (u : h < 4294967296) where
    pair_marked : pair_in (with_pair F h) h ≡ true
    unfolding with_pair
    pair_marked =
        let k : length (with_bit F 0 (low_bit h) 1) ≡ filter_bytes = length_with F 0 (low_bit h) 1 ∙ l in
        both_set (with_bit (with_bit F 0 (low_bit h) 1) 0 (high_bit h) 1) h
        (still_set (with_bit F 0 (low_bit h) 1) (high_bit h) (low_bit h) (omega arith) (bit_with_same F 0 (low_bit h) 1 (omega arith) (omega arith)))
        (bit_with_same (with_bit F 0 (low_bit h) 1) 0 (high_bit h) 1 (omega arith) (omega arith))

    pair_keeps : (k : ℕ) → pair_in F k ≡ true → pair_in (with_pair F h) k ≡ true
    unfolding with_pair
    pair_keeps k t =
        let m : length (with_bit F 0 (low_bit h) 1) ≡ filter_bytes = length_with F 0 (low_bit h) 1 ∙ l in
        let q = set_both F k t in
        let low : low_bit h / 8 < length F = omega arith in
        let high : high_bit h / 8 < length (with_bit F 0 (low_bit h) 1) = omega arith in
        both_set (with_bit (with_bit F 0 (low_bit h) 1) 0 (high_bit h) 1) k
        (still_set (with_bit F 0 (low_bit h) 1) (high_bit h) (low_bit k) high (still_set F (low_bit h) (low_bit k) low q.0))
        (still_set (with_bit F 0 (low_bit h) 1) (high_bit h) (high_bit k) high (still_set F (low_bit h) (high_bit k) low q.1))

    less_low : get_or (less_pair F h) (low_bit h / 8) 0 ≡ 0
    unfolding less_pair
    less_low = go (ℕ_discrete (low_bit h / 8) (high_bit h / 8))
      where
        go : Dec (low_bit h / 8 ≡ high_bit h / 8) → get_or (set (set F (low_bit h / 8) 0) (high_bit h / 8) 0) (low_bit h / 8) 0 ≡ 0
        go (yes e) =
            ap (λ (j : ℕ). get_or (set (set F (low_bit h / 8) 0) (high_bit h / 8) 0) j 0) e
            ∙ get_or-set_same (set F (low_bit h / 8) 0) (high_bit h / 8) 0 0 (omega (arith, length-set F (low_bit h / 8) 0))
        go (no d) = get_or-set_other (set F (low_bit h / 8) 0) (high_bit h / 8) (low_bit h / 8) 0 0 d ∙ get_or-set_same F (low_bit h / 8) 0 0 (omega arith)

    less_high : get_or (less_pair F h) (high_bit h / 8) 0 ≡ 0
    unfolding less_pair
    less_high = get_or-set_same (set F (low_bit h / 8) 0) (high_bit h / 8) 0 0 (omega (arith, length-set F (low_bit h / 8) 0))

    -- a byte that is zero where neither stands is zero
    less_off : (j : ℕ) → (OffPair j h → get_or F j 0 ≡ 0) → get_or (less_pair F h) j 0 ≡ 0
    less_off j z = go (ℕ_discrete j (low_bit h / 8)) (ℕ_discrete j (high_bit h / 8))
      where
        go : Dec (j ≡ low_bit h / 8) → Dec (j ≡ high_bit h / 8) → get_or (less_pair F h) j 0 ≡ 0
        go (yes e) d = ap (λ (k : ℕ). get_or (less_pair F h) k 0) e ∙ less_low
        go (no n) (yes e) = ap (λ (k : ℕ). get_or (less_pair F h) k 0) e ∙ less_high
        go (no n) (no m) = less_other j n m ∙ z (n, m)

-- ---- all four

turned_fits : (h : ℕ) → h < 4294967296 → turned h < 4294967296
turned_fits h u = omega arith

-- what code tests, sets and makes zero
module _ (F : List ℕ) (h k : ℕ) (a : Bool) (e : a ≡ pair_in F h) where
  pub maybe_not : a ≡ false → false ≡ filtered F h
  unfolding filtered
  maybe_not z = sym (ap (λ (b : Bool). b && pair_in F (turned h)) (sym e ∙ z))

  pub maybe_so : (b : Bool) → a ≡ true → k ≡ turned h → b ≡ pair_in F k → b ≡ filtered F h
  unfolding filtered
  maybe_so b z q f = f ∙ ap (pair_in F) q ∙ sym (ap (λ (t : Bool). t && pair_in F (turned h)) (sym e ∙ z))

four_set : (F : List ℕ) (k : ℕ) → pair_in F k ≡ true → pair_in F (turned k) ≡ true → filtered F k ≡ true
unfolding filtered
four_set F k p q = ap (λ (b : Bool). b && pair_in F (turned k)) p ∙ q

set_four : (F : List ℕ) (k : ℕ) → filtered F k ≡ true → (pair_in F k ≡ true) × (pair_in F (turned k) ≡ true)
unfolding filtered
set_four F k t = and_both (pair_in F k) (pair_in F (turned k)) t

pub noted_twice : (F G H : List ℕ) (h k : ℕ) → k ≡ turned h → G ≡ with_pair F h → H ≡ with_pair G k → H ≡ noted F h
unfolding noted
noted_twice F G H h k q e f = f ∙ ap (with_pair G) q ∙ ap (λ (y : List ℕ). with_pair y (turned h)) e

pub wiped_twice : (F G H : List ℕ) (h k : ℕ) → k ≡ turned h → G ≡ less_pair F h → H ≡ less_pair G k → H ≡ wiped F h
unfolding wiped
wiped_twice F G H h k q e f = f ∙ ap (less_pair G) q ∙ ap (λ (y : List ℕ). less_pair y (turned h)) e

module _ (F : List ℕ) (h : ℕ) where
  pub length-noted : length (noted F h) ≡ length F
  unfolding noted
  length-noted = length_pair (with_pair F h) (turned h) ∙ length_pair F h

  pub noted_other : (j : ℕ) → OffPair j h × OffPair j (turned h) → get_or (noted F h) j 0 ≡ get_or F j 0
  unfolding noted
  noted_other j o = pair_other (with_pair F h) (turned h) j o.1.0 o.1.1 ∙ pair_other F h j o.0.0 o.0.1

  pub length_wiped : length (wiped F h) ≡ length F
  unfolding wiped
  length_wiped = length_less (less_pair F h) (turned h) ∙ length_less F h

  module _ (l : length F ≡ filter_bytes) (u : h < 4294967296) where
    later_pair : (k : ℕ) → pair_in (with_pair F h) k ≡ true → pair_in (noted F h) k ≡ true
    unfolding noted
    later_pair k t = pair_keeps (with_pair F h) (turned h) (length_pair F h ∙ l) (turned_fits h u) k t

    pub noted-marked : filtered (noted F h) h ≡ true
    unfolding noted
    noted-marked =
        four_set (noted F h) h (later_pair h (pair_marked F h l u))
        (pair_marked (with_pair F h) (turned h) (length_pair F h ∙ l) (turned_fits h u))

    pub noted_keeps : (k : ℕ) → filtered F k ≡ true → filtered (noted F h) k ≡ true
    noted_keeps k t =
        let q = set_four F k t in
        four_set (noted F h) k (later_pair k (pair_keeps F h l u k q.0))
        (later_pair (turned k) (pair_keeps F h l u (turned k) q.1))

    -- a byte that is zero where no bit of the hash stands is zero
    pub wiped_off : (j : ℕ) → (OffPair j h × OffPair j (turned h) → get_or F j 0 ≡ 0) → get_or (wiped F h) j 0 ≡ 0
    unfolding wiped
    wiped_off j z =
        less_off (less_pair F h) (turned h) (length_less F h ∙ l) (turned_fits h u) j (λ o. less_off F h l u j (λ p. z (p, o)))
