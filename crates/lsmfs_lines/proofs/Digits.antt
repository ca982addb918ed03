-- The digits of a number: one for a number below 10, else those of n / 10 and one more; how many there are; that they are its decimal.
use mathlib.Core.Path.{◌≡◌, refl, sym, ap, ◌∙◌}
use mathlib.Core.List.{List, [], ◌∷◌, ◌++◌}
use Prim.Native.Nat.{ℕ, zero, suc, ◌+◌, ◌-◌, ◌*◌, ◌/◌, ◌%◌, ◌^◌, ◌≤◌, ◌<◌}
use native.Mathlib.Nat.{pow-suc}
use native.Mathlib.Decide.{dec_lt}
use native.Mathlib.Omega.{arith}
use lib.ListN.{length, get_or, length-append, get_or-append}
use lib.Seq.{get_or_at}
use borrow.Author.Tests.{lt-ltb, le-ltb}
use Rattle.wire.proofs.Picks.{pick_true, pick_false}
use Rattle.lsmfs_lines.specs.Line.{decimal, digits_within, digits}
use Rattle.lsmfs_lines.specs.Decimal.{value_from, Decimal}

-- ---- the two cases

within_last : (k n : ℕ) → n < 10 → digits_within (suc k) n ≡ decimal n ∷ []
unfolding digits_within
within_last k n h = pick_true (decimal n ∷ []) (digits_within k (n / 10) ++ (decimal (n % 10) ∷ [])) (lt-ltb n 10 h)

within_more : (k n : ℕ) → 10 ≤ n → digits_within (suc k) n ≡ digits_within k (n / 10) ++ (decimal (n % 10) ∷ [])
unfolding digits_within
within_more k n h = pick_false (decimal n ∷ []) (digits_within k (n / 10) ++ (decimal (n % 10) ∷ [])) (le-ltb n 10 h)

-- any bound above the number does
within_same : (k m n : ℕ) → n < k → n < m → digits_within k n ≡ digits_within m n
within_same zero m n p q = absurd (omega arith)
within_same (suc k) zero n p q = absurd (omega arith)
within_same (suc k) (suc m) n p q = go (dec_lt n 10) (within_same k m (n / 10))
  where
    go : Dec (n < 10) → (n / 10 < k → n / 10 < m → digits_within k (n / 10) ≡ digits_within m (n / 10)) → digits_within (suc k) n ≡ digits_within (suc m) n
    go (yes h) i = within_last k n h ∙ sym (within_last m n h)
    go (no h) i =
        within_more k n (omega arith) ∙ ap (λ (l : List ℕ). l ++ (decimal (n % 10) ∷ [])) (i (omega arith) (omega arith)) ∙ sym (within_more m n (omega arith))

pub digits_last : (n : ℕ) → n < 10 → digits n ≡ decimal n ∷ []
unfolding digits
digits_last n h = within_last n n h

pub digits_more : (n : ℕ) → 10 ≤ n → digits n ≡ digits (n / 10) ++ (decimal (n % 10) ∷ [])
unfolding digits
digits_more n h =
    within_more n n h
    ∙ ap (λ (l : List ℕ). l ++ (decimal (n % 10) ∷ [])) (within_same n (suc (n / 10)) (n / 10) (omega arith) (omega arith))

-- what holds of the numbers below 10, and of n where it holds of n / 10, holds of every number
module _ (P : ℕ → Type 0) (f : (n : ℕ) → n < 10 → P n) (g : (n : ℕ) → 10 ≤ n → P (n / 10) → P n) where
  below : (k n : ℕ) → n < k → P n
  below zero n h = absurd (omega arith)
  below (suc k) n h = go (dec_lt n 10) (below k (n / 10))
    where
      go : Dec (n < 10) → (n / 10 < k → P (n / 10)) → P n
      go (yes q) i = f n q
      go (no q) i = g n (omega arith) (i (omega arith))

  by_tens : (n : ℕ) → P n
  by_tens n = below (suc n) n (omega arith)

-- ---- how many there are

pub length_last : (n : ℕ) → n < 10 → length (digits n) ≡ 1
length_last n h = ap length (digits_last n h)

pub length_more : (n : ℕ) → 10 ≤ n → length (digits n) ≡ length (digits (n / 10)) + 1
length_more n h = ap length (digits_more n h) ∙ length-append (digits (n / 10)) (decimal (n % 10) ∷ [])

pub digits-some : (n : ℕ) → 1 ≤ length (digits n)
digits-some = by_tens (λ (n : ℕ). 1 ≤ length (digits n)) (λ n h. omega (arith, length_last n h)) (λ n h i. omega (arith, length_more n h))

pow_some : (k : ℕ) → 1 ≤ 10 ^ k
pow_some zero = omega arith
pow_some (suc k) = rw pow-suc (omega (arith, pow_some k))

digits_short : (k n : ℕ) → n < 10 ^ suc k → length (digits n) ≤ suc k
digits_short zero n h = omega (arith, length_last n (omega arith))
digits_short (suc k) n h = go (dec_lt n 10) (digits_short k (n / 10))
  where
    t : n < 10 ^ suc k * 10
    t = rw pow-suc at h

    go : Dec (n < 10) → (n / 10 < 10 ^ suc k → length (digits (n / 10)) ≤ suc k) → length (digits n) ≤ suc (suc k)
    go (yes q) i = omega (arith, length_last n q)
    go (no q) i = omega (arith, t, length_more n (omega arith), i (omega (arith, t)))

-- no fewer than the power of ten below it has
digits_long : (k n : ℕ) → 10 ^ k ≤ n → suc k ≤ length (digits n)
digits_long zero n h = digits-some n
digits_long (suc k) n h =
    let t : 10 ^ k * 10 ≤ n = rw pow-suc at h in
    omega (arith, length_more n (omega (arith, pow_some k)), digits_long k (n / 10) (omega (arith, t)))

-- between two powers of ten
pub digits_between : (k n : ℕ) → 10 ^ k ≤ n → n < 10 * 10 ^ k → length (digits n) ≡ suc k
digits_between k n h q = omega (arith, digits_long k n h, digits_short k n (rw pow-suc (omega (arith, q))))

-- any bound that its digits keep to gives the number, which then can be computed
pub digits_within_lem : (k n : ℕ) → n < 10 ^ suc k → digits_within (suc k) n ≡ digits n
digits_within_lem zero n h = within_last zero n (omega arith) ∙ sym (digits_last n (omega arith))
digits_within_lem (suc k) n h = go (dec_lt n 10) (digits_within_lem k (n / 10))
  where
    t : n < 10 ^ suc k * 10
    t = rw pow-suc at h

    go : Dec (n < 10) → (n / 10 < 10 ^ suc k → digits_within (suc k) (n / 10) ≡ digits (n / 10)) → digits_within (suc (suc k)) n ≡ digits n
    go (yes q) i = within_last (suc k) n q ∙ sym (digits_last n q)
    go (no q) i =
        within_more (suc k) n (omega arith) ∙ ap (λ (l : List ℕ). l ++ (decimal (n % 10) ∷ [])) (i (omega (arith, t))) ∙ sym (digits_more n (omega arith))

-- the widths that code has
pub digits_32 : (n : ℕ) → n < 4294967296 → length (digits n) ≤ 10
digits_32 n h = digits_short 9 n (omega arith)

pub digits_64 : (n : ℕ) → n < 18446744073709551616 → length (digits n) ≤ 20
digits_64 n h = digits_short 19 n (omega arith)

-- ---- they are the decimal of the number

value_more : (v : ℕ) (l : List ℕ) (c : ℕ) → value_from v (l ++ (c ∷ [])) ≡ value_from v l * 10 + (c - 48)
unfolding value_from
value_more v [] c = refl
value_more v (b ∷ l) c = value_more (v * 10 + (b - 48)) l c

decimal_last : (n : ℕ) → n < 10 → Decimal n (digits n)
unfolding value_from
decimal_last n h =
    let e = digits_last n h in
    rw e (record { value = omega arith; low = λ i p. one i p; high = λ i p. two i p; lead = λ p. omega arith; nought = λ p. refl })
  where
    one : (i : ℕ) → i < 1 → 48 ≤ get_or (decimal n ∷ []) i 0
    one zero p = omega arith
    one (suc i) p = absurd (omega arith)

    two : (i : ℕ) → i < 1 → get_or (decimal n ∷ []) i 0 ≤ 57
    two zero p = omega arith
    two (suc i) p = absurd (omega arith)

decimal-more : (n : ℕ) → 10 ≤ n → Decimal (n / 10) (digits (n / 10)) → Decimal n (digits n)
decimal-more n h d =
    rw (digits_more n h)
    (record {
      value = value_more 0 (digits (n / 10)) (decimal (n % 10)) ∙ omega (arith, d.value);
      low = λ i p. low_at i p (dec_lt i (length l));
      high = λ i p. high_at i p (dec_lt i (length l));
      lead = λ p. rw (get_or-append l (c ∷ []) 0 0 (digits-some (n / 10))) (d.lead (omega arith));
      nought = λ p. absurd (omega arith);
    })
  where
    l : List ℕ
    l = digits (n / 10)

    c : ℕ
    c = decimal (n % 10)

    low_at : (i : ℕ) → i < length (l ++ (c ∷ [])) → Dec (i < length l) → 48 ≤ get_or (l ++ (c ∷ [])) i 0
    low_at i p (yes q) = rw (get_or-append l (c ∷ []) 0 i q) (d.low i q)
    low_at i p (no q) = rw (get_or_at l c [] 0 i (omega (arith, length-append l (c ∷ [])))) (omega arith)

    high_at : (i : ℕ) → i < length (l ++ (c ∷ [])) → Dec (i < length l) → get_or (l ++ (c ∷ [])) i 0 ≤ 57
    high_at i p (yes q) = rw (get_or-append l (c ∷ []) 0 i q) (d.high i q)
    high_at i p (no q) = rw (get_or_at l c [] 0 i (omega (arith, length-append l (c ∷ [])))) (omega arith)

pub digits_decimal : (n : ℕ) → Decimal n (digits n)
digits_decimal = by_tens (λ (n : ℕ). Decimal n (digits n)) decimal_last decimal-more
