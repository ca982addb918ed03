-- What text is, the other way: text is read as characters, one after the other.
use mathlib.Core.Path.{◌≡◌, refl, ap, ◌∙◌}
use mathlib.Core.Bool.{true}
use mathlib.Core.Logic.{◌⊎◌, inl, inr}
use mathlib.Core.List.{List, [], ◌∷◌, ◌++◌}
use Prim.Native.Nat.{ℕ, zero, suc, ◌+◌, ◌-◌, ◌*◌, ◌≤◌, ◌<◌}
use native.Mathlib.Omega.{arith}
use lib.Dec.{ltb, leb, eqb}
use lib.ListN.{length}
use borrow.Author.Tests.{ltb-true, ltb-false, leb-true, leb-false, eqb-true, eqb-false}
use Rattle.wire.proofs.Picks.{either}
use Rattle.text.specs.Text.{tail, table, never, begun, is_text}
use Rattle.text.specs.Awaited.{ranges}
use Rattle.text.proofs.Rows.{one_byte, two_bytes, after_E0, after_ED, three_bytes, after_F0, four_bytes, after_F4, low_control}
use Rattle.text.proofs.Rows.{no_first, above_all}
use Rattle.thm_text.specs.Characters.{Character, Characters, encoded, encoded_all}
use Rattle.thm_text.proofs.Steps.{Tested, Next, next_back, first_back, first_never, encoded-one, encoded_two}
use Rattle.thm_text.proofs.Steps.{encoded_three, encoded_four}

-- the character that stands first, and text behind it
record Head (l : List ℕ) : Type 0 where
  number : ℕ
  rest : List ℕ
  good : Character number
  whole : encoded number ++ rest ≡ l
  goes_on : is_text rest ≡ true
  shorter : length rest < length l

-- ---- from its binary digits, six by six

module _ (m : List ℕ) (t : is_text m ≡ true) where
  one_head : (c : ℕ) → 0x20 ≤ c → c < 0x7F → Head (c ∷ m)
  one_head c h k =
      record {
        number = c;
        rest = m;
        good = record { no_control = h; no_delete = λ e. omega arith; no_surrogate = inl (omega arith); last = omega arith };
        whole = ap (λ (y : List ℕ). y ++ m) (encoded-one c (omega arith));
        goes_on = t;
        shorter = omega arith;
      }

  two_head : (u v : ℕ) → 2 ≤ u → u < 32 → v < 64 → Head ((0xC0 + u) ∷ (0x80 + v) ∷ m)
  two_head u v p q h =
      record {
        number = u * 64 + v;
        rest = m;
        good = record {
          no_control = omega arith;
          no_delete = λ e. omega arith;
          no_surrogate = inl
              (omega arith);
          last = omega arith;
        };
        whole = ap (λ (y : List ℕ). y ++ m) (encoded_two u v (u * 64 + v) refl h (omega arith) (omega arith));
        goes_on = t;
        shorter = omega arith;
      }

  three_head : (u v w : ℕ) → u < 16 → v < 64 → w < 64 → 0x800 ≤ u * 4096 + v * 64
      → (u * 4096 + v * 64 + 63 < 0xD800) ⊎ (0xE000 ≤ u * 4096 + v * 64) → Head ((0xE0 + u) ∷ (0x80 + v) ∷ (0x80 + w) ∷ m)
  three_head u v w q h k p s =
      record {
        number = u * 4096 + v * 64 + w;
        rest = m;
        good = record { no_control = omega arith; no_delete = λ e. omega arith; no_surrogate = side s; last = omega arith };
        whole = ap (λ (y : List ℕ). y ++ m) (encoded_three u v w (u * 4096 + v * 64 + w) refl h k (omega arith) (omega arith));
        goes_on = t;
        shorter = omega arith;
      }
    where
      side : (u * 4096 + v * 64 + 63 < 0xD800) ⊎ (0xE000 ≤ u * 4096 + v * 64)
          → (u * 4096 + v * 64 + w < 0xD800) ⊎ (0xE000 ≤ u * 4096 + v * 64 + w)
      side (inl a) = inl (omega arith)
      side (inr a) = inr (omega arith)

  four_head : (u v w z : ℕ) → v < 64 → w < 64 → z < 64 → 0x10000 ≤ u * 262144 + v * 4096 → u * 262144 + v * 4096 + 4095 ≤ 0x10FFFF
      → Head ((0xF0 + u) ∷ (0x80 + v) ∷ (0x80 + w) ∷ (0x80 + z) ∷ m)
  four_head u v w z h k i p q =
      record {
        number = u * 262144 + v * 4096 + w * 64 + z;
        rest = m;
        good = record {
          no_control = omega arith;
          no_delete = λ e. omega arith;
          no_surrogate = inr
              (omega arith);
          last = omega arith;
        };
        whole = ap (λ (y : List ℕ). y ++ m) (encoded_four u v w z (u * 262144 + v * 4096 + w * 64 + z) refl h k i (omega arith));
        goes_on = t;
        shorter = omega arith;
      }

-- ---- from its bytes: a first byte c, then a byte from a to b, then tail bytes

-- a byte from its lowest on
split : (a c : ℕ) → a ≤ c → a + (c - a) ≡ c
split a c h = omega arith

module _ (c : ℕ) (l : List ℕ) (t : is_text (c ∷ l) ≡ true) where
  two_at : 0xC2 ≤ c → c < 0xE0 → Head (c ∷ l)
  unfolding ranges
  two_at p q = go (next_back 0x80 0xBF [] l (first_back c l (ranges 1 0x80 0xBF) (two_bytes c _ refl p q) t))
    where
      go : Next 0x80 0xBF [] l → Head (c ∷ l)
      go n =
          let d = n.byte in
          let low = n.low in
          let high = n.high in
          let x = two_head n.rest n.goes_on (c - 0xC0) (d - 0x80) (omega arith) (omega arith) (omega arith) in
          rw (n.is, ← split 0xC0 c (omega arith), ← split 0x80 d low) x

  three_at : (a b : ℕ) → ranges 2 a b ≡ begun table c → 0xE0 ≤ c → c ≤ 0xEF → 0x80 ≤ a → b ≤ 0xBF
      → ((v : ℕ) → a ≤ 0x80 + v → 0x80 + v ≤ b → 0x800 ≤ (c - 0xE0) * 4096 + v * 64)
      → ((v : ℕ) → a ≤ 0x80 + v → 0x80 + v ≤ b
      → ((c - 0xE0) * 4096 + v * 64 + 63 < 0xD800) ⊎ (0xE000 ≤ (c - 0xE0) * 4096 + v * 64)) → Head (c ∷ l)
  unfolding ranges
  three_at a b e p q low high least sides = second (next_back a b (tail ∷ []) l (first_back c l (ranges 2 a b) e t))
    where
      third : (n : Next a b (tail ∷ []) l) → Next 0x80 0xBF [] n.rest → Head (c ∷ l)
      third n k =
          let i = n.low in
          let j = n.high in
          let x = k.low in
          let y = k.high in
          let v : 0x80 + (n.byte - 0x80) ≡ n.byte = omega arith in
          let h =
          three_head k.rest k.goes_on (c - 0xE0) (n.byte - 0x80) (k.byte - 0x80) (omega arith) (omega arith) (omega arith)
          (least (n.byte - 0x80) (omega arith) (omega arith)) (sides (n.byte - 0x80) (omega arith) (omega arith)) in
          rw (n.is, k.is, ← split 0xE0 c p, ← v, ← split 0x80 k.byte x) h

      second : Next a b (tail ∷ []) l → Head (c ∷ l)
      second n = third n (next_back 0x80 0xBF [] n.rest n.goes_on)

  four_at : (a b : ℕ) → ranges 3 a b ≡ begun table c → 0xF0 ≤ c → 0x80 ≤ a → b ≤ 0xBF
      → ((v : ℕ) → a ≤ 0x80 + v → 0x80 + v ≤ b → 0x10000 ≤ (c - 0xF0) * 262144 + v * 4096)
      → ((v : ℕ) → a ≤ 0x80 + v → 0x80 + v ≤ b → (c - 0xF0) * 262144 + v * 4096 + 4095 ≤ 0x10FFFF) → Head (c ∷ l)
  unfolding ranges
  four_at a b e p low high least last = second (next_back a b (tail ∷ tail ∷ []) l (first_back c l (ranges 3 a b) e t))
    where
      fourth : (n : Next a b (tail ∷ tail ∷ []) l) (k : Next 0x80 0xBF (tail ∷ []) n.rest) → Next 0x80 0xBF [] k.rest
          → Head (c ∷ l)
      fourth n k o =
          let i = n.low in
          let j = n.high in
          let x = k.low in
          let y = k.high in
          let r = o.low in
          let s = o.high in
          let v : 0x80 + (n.byte - 0x80) ≡ n.byte = omega arith in
          let h =
          four_head o.rest o.goes_on (c - 0xF0) (n.byte - 0x80) (k.byte - 0x80) (o.byte - 0x80) (omega arith)
          (omega arith) (omega arith)
          (least (n.byte - 0x80) (omega arith) (omega arith)) (last (n.byte - 0x80) (omega arith) (omega arith)) in
          rw (n.is, k.is, o.is, ← split 0xF0 c p, ← v, ← split 0x80 k.byte x, ← split 0x80 o.byte r) h

      third : (n : Next a b (tail ∷ tail ∷ []) l) → Next 0x80 0xBF (tail ∷ []) n.rest → Head (c ∷ l)
      third n k = fourth n k (next_back 0x80 0xBF [] k.rest k.goes_on)

      second : Next a b (tail ∷ tail ∷ []) l → Head (c ∷ l)
      second n = third n (next_back 0x80 0xBF (tail ∷ []) n.rest n.goes_on)

  -- ---- by the row that c begins

  threes_at : 0xE0 ≤ c → c ≤ 0xEF → Head (c ∷ l)
  threes_at p q = go (either (eqb c 0xE0)) (either (eqb c 0xED)) (either (leb c 0xEC))
    where
      go : Tested (eqb c 0xE0) → Tested (eqb c 0xED) → Tested (leb c 0xEC) → Head (c ∷ l)
      go (inl x) y z =
          let e = eqb-true c 0xE0 x in
          three_at 0xA0 0xBF (after_E0 c _ refl e) p q (omega arith) (omega arith) (λ v h k. omega arith)
          (λ v h k. inl (omega arith))
      go (inr x) (inl y) z =
          let e = eqb-true c 0xED y in
          three_at 0x80 0x9F (after_ED c _ refl e) p q (omega arith) (omega arith) (λ v h k. omega arith)
          (λ v h k. inl (omega arith))
      go (inr x) (inr y) (inl z) =
          let d = eqb-false c 0xE0 x in
          let g = leb-true c 0xEC z in
          three_at 0x80 0xBF (three_bytes c _ refl p q d (eqb-false c 0xED y)) p q (omega arith) (omega arith)
          (λ v h k. omega arith)
          (λ v h k. inl (omega arith))
      go (inr x) (inr y) (inr z) =
          let d = eqb-false c 0xED y in
          let g = leb-false c 0xEC z in
          three_at 0x80 0xBF (three_bytes c _ refl p q (eqb-false c 0xE0 x) d) p q (omega arith) (omega arith)
          (λ v h k. omega arith)
          (λ v h k. inr (omega arith))

  fours_at : 0xF0 ≤ c → Head (c ∷ l)
  unfolding ranges
  fours_at p = go (either (eqb c 0xF0)) (either (ltb c 0xF4)) (either (eqb c 0xF4))
    where
      go : Tested (eqb c 0xF0) → Tested (ltb c 0xF4) → Tested (eqb c 0xF4) → Head (c ∷ l)
      go (inl x) y z =
          let e = eqb-true c 0xF0 x in
          four_at 0x90 0xBF (after_F0 c _ refl e) p (omega arith) (omega arith) (λ v h k. omega arith) (λ v h k. omega arith)
      go (inr x) (inl y) z =
          let d = eqb-false c 0xF0 x in
          let g = ltb-true c 0xF4 y in
          four_at 0x80 0xBF (four_bytes c _ refl p d g) p (omega arith) (omega arith) (λ v h k. omega arith)
          (λ v h k. omega arith)
      go (inr x) (inr y) (inl z) =
          let e = eqb-true c 0xF4 z in
          four_at 0x80 0x8F (after_F4 c _ refl e) p (omega arith) (omega arith) (λ v h k. omega arith) (λ v h k. omega arith)
      go (inr x) (inr y) (inr z) = absurd (first_never c l (above_all c never refl (ltb-false c 0xF4 y) (eqb-false c 0xF4 z)) t)

  head_of : Head (c ∷ l)
  unfolding ranges
  head_of = go (either (ltb c 0x20)) (either (ltb c 0x7F)) (either (ltb c 0xC2)) (either (ltb c 0xE0)) (either (ltb c 0xF0))
    where
      go : Tested (ltb c 0x20) → Tested (ltb c 0x7F) → Tested (ltb c 0xC2)
          → Tested (ltb c 0xE0) → Tested (ltb c 0xF0) → Head (c ∷ l)
      go (inl v) w x y z = absurd (first_never c l (low_control c never refl (ltb-true c 0x20 v)) t)
      go (inr v) (inl w) x y z =
          let h = ltb-false c 0x20 v in
          let k = ltb-true c 0x7F w in
          one_head l (first_back c l [] (one_byte c [] refl h k) t) c h k
      go (inr v) (inr w) (inl x) y z = absurd (first_never c l (no_first c never refl (ltb-false c 0x7F w) (ltb-true c 0xC2 x)) t)
      go (inr v) (inr w) (inr x) (inl y) z = two_at (ltb-false c 0xC2 x) (ltb-true c 0xE0 y)
      go (inr v) (inr w) (inr x) (inr y) (inl z) = let k = ltb-true c 0xF0 z in threes_at (ltb-false c 0xE0 y) (omega arith)
      go (inr v) (inr w) (inr x) (inr y) (inr z) = fours_at (ltb-false c 0xF0 z)

-- ---- the whole

pub record Decoded (l : List ℕ) : Type 0 where
  pub numbers : List ℕ
  pub good : Characters numbers
  pub same : encoded_all numbers ≡ l

decoded_none : Decoded []
unfolding encoded_all
decoded_none = record { numbers = []; good = tt; same = refl }

-- with n bytes at most: the first character, and then what is left
decoded_more : (n : ℕ) → ((m : List ℕ) → length m ≤ n → is_text m ≡ true → Decoded m) → (l : List ℕ) → length l ≤ suc n
    → is_text l ≡ true → Decoded l
unfolding encoded_all
decoded_more n r [] h t = decoded_none
decoded_more n r (c ∷ l) h t =
    let x = head_of c l t in
    let s = x.shorter in
    let d = r x.rest (omega arith) x.goes_on in
    record {
      numbers = x.number ∷ d.numbers;
      good = (x.good, d.good);
      same = ap (λ (y : List ℕ). encoded x.number ++ y) d.same ∙ x.whole;
    }

decoded_in : (n : ℕ) → (l : List ℕ) → length l ≤ n → is_text l ≡ true → Decoded l
decoded_in zero = none
  where
    none : (l : List ℕ) → length l ≤ 0 → is_text l ≡ true → Decoded l
    none [] h t = decoded_none
    none (c ∷ l) h t = absurd (omega arith)
decoded_in (suc n) = decoded_more n (decoded_in n)

-- THE MEANING, the other way: text is the bytes of characters.
pub text_decoded : (l : List ℕ) → is_text l ≡ true → Decoded l
text_decoded l t = decoded_in (length l) l (omega arith) t
