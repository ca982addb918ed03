-- The walk over the bytes of one character, and the bytes of a character by their size.
use mathlib.Core.Path.{◌≡◌, refl, sym, ap, ◌∙◌}
use mathlib.Core.Bool.{Bool, true, false}
use mathlib.Core.Logic.{◌⊎◌, inl, inr}
use mathlib.Core.List.{List, [], ◌∷◌}
use Prim.Native.Nat.{ℕ, ◌+◌, ◌*◌, ◌/◌, ◌%◌, ◌≤◌, ◌<◌}
use native.Mathlib.Omega.{arith}
use lib.Dec.{leb}
use borrow.Author.Tests.{lt-ltb, le-ltb, le-leb, leb-true}
use Rattle.wire.specs.Pick.{pick}
use Rattle.wire.proofs.Picks.{either, not_both, pick_true, pick_false}
use Rattle.text.specs.Text.{Range, from_to, in_range, tail, table, never, begun, step, text_from, is_text}
use Rattle.text.specs.Awaited.{ranges}
use Rattle.text.proofs.Laws.{never_text}
use Rattle.thm_text.specs.Characters.{encoded}

-- what `either` answers of a test
abbrev pub Tested : Bool → Type 0
Tested b = (b ≡ true) ⊎ (b ≡ false)

-- ---- the walk forward

range_in : (a b c : ℕ) → a ≤ c → c ≤ b → in_range (from_to a b) c ≡ true
unfolding in_range
range_in a b c h k = rw (le-leb a c h, le-leb c b k)

first_on : (c : ℕ) (m : List ℕ) (rs : List Range) → rs ≡ begun table c → is_text (c ∷ m) ≡ text_from rs m
unfolding text_from step
first_on c m rs e = ap (λ (y : List Range). text_from y m) (sym e)

next_on : (a b c : ℕ) (rs : List Range) (m : List ℕ) → a ≤ c → c ≤ b → text_from (from_to a b ∷ rs) (c ∷ m) ≡ text_from rs m
unfolding text_from step
next_on a b c rs m h k = ap (λ (y : List Range). text_from y m) (pick_true _ _ (range_in a b c h k))

module _ (a b c : ℕ) where
  pub one_on : (m : List ℕ) → [] ≡ begun table c → is_text (c ∷ m) ≡ is_text m
  one_on m e = first_on c m [] e

  pub two_on : (d : ℕ) (m : List ℕ) → ranges 1 a b ≡ begun table c → a ≤ d → d ≤ b → is_text (c ∷ d ∷ m) ≡ is_text m
  unfolding ranges
  two_on d m e h k = first_on c (d ∷ m) _ e ∙ next_on a b d [] m h k

  pub three_on : (d x : ℕ) (m : List ℕ) → ranges 2 a b ≡ begun table c → a ≤ d → d ≤ b → 0x80 ≤ x → x ≤ 0xBF
      → is_text (c ∷ d ∷ x ∷ m) ≡ is_text m
  unfolding ranges
  three_on d x m e h k i j = first_on c (d ∷ x ∷ m) _ e ∙ next_on a b d (tail ∷ []) (x ∷ m) h k ∙ next_on 0x80 0xBF x [] m i j

  pub four_on : (d x y : ℕ) (m : List ℕ) → ranges 3 a b ≡ begun table c → a ≤ d → d ≤ b → 0x80 ≤ x → x ≤ 0xBF → 0x80 ≤ y
      → y ≤ 0xBF
      → is_text (c ∷ d ∷ x ∷ y ∷ m) ≡ is_text m
  unfolding ranges
  four_on d x y m e h k i j p q =
      first_on c (d ∷ x ∷ y ∷ m) _ e ∙ next_on a b d (tail ∷ tail ∷ []) (x ∷ y ∷ m) h k
      ∙ next_on 0x80 0xBF x (tail ∷ []) (y ∷ m) i j
      ∙ next_on 0x80 0xBF y [] m p q

-- ---- and back: where a byte of a range is due, there is one

pub record Next (a b : ℕ) (rs : List Range) (l : List ℕ) : Type 0 where
  pub byte : ℕ
  pub rest : List ℕ
  pub is : l ≡ byte ∷ rest
  pub low : a ≤ byte
  pub high : byte ≤ b
  pub goes_on : text_from rs rest ≡ true

pub next_back : (a b : ℕ) (rs : List Range) (l : List ℕ) → text_from (from_to a b ∷ rs) l ≡ true → Next a b rs l
unfolding text_from step in_range
next_back a b rs [] h = absurd (not_both h refl)
next_back a b rs (c ∷ m) h = go (either (leb a c)) (either (leb c b))
  where
    wrong : text_from (pick false rs never) m ≡ false
    wrong = ap (λ (y : List Range). text_from y m) (pick_false rs never refl) ∙ never_text m

    go : Tested (leb a c) → Tested (leb c b) → Next a b rs (c ∷ m)
    go (inl p) (inl q) =
        let x = leb-true a c p in
        let y = leb-true c b q in
        record { byte = c; rest = m; is = refl; low = x; high = y; goes_on = sym (next_on a b c rs m x y) ∙ h }
    go (inl p) (inr q) = absurd (not_both h (rw (p, q) wrong))
    go (inr p) q = absurd (not_both h (rw p wrong))

pub first_back : (c : ℕ) (m : List ℕ) (rs : List Range) → rs ≡ begun table c → is_text (c ∷ m) ≡ true → text_from rs m ≡ true
first_back c m rs e h = sym (first_on c m rs e) ∙ h

pub first_never : (c : ℕ) (m : List ℕ) → never ≡ begun table c → is_text (c ∷ m) ≡ true → ⊥
first_never c m e h = not_both (first_back c m never e h) (never_text m)

-- ---- the bytes of a character

pub encoded-one : (x : ℕ) → x < 0x80 → encoded x ≡ x ∷ []
unfolding encoded
encoded-one x h = pick_true _ _ (lt-ltb x 0x80 h)

-- u, v, w and z are its binary digits, six by six
pub encoded_two : (u v x : ℕ) → x ≡ u * 64 + v → v < 64 → 0x80 ≤ x → x < 0x800 → encoded x ≡ (0xC0 + u) ∷ (0x80 + v) ∷ []
unfolding encoded
encoded_two u v x e h p q =
    let a : x / 64 ≡ u = omega arith in
    let b : x % 64 ≡ v = omega arith in
    pick_false _ _ (le-ltb x 0x80 p) ∙ pick_true _ _ (lt-ltb x 0x800 q) ∙ rw (a, b)

pub encoded_three : (u v w x : ℕ) → x ≡ u * 4096 + v * 64 + w → v < 64 → w < 64 → 0x800 ≤ x → x < 0x10000
    → encoded x ≡ (0xE0 + u) ∷ (0x80 + v) ∷ (0x80 + w) ∷ []
unfolding encoded
encoded_three u v w x e h k p q =
    let a : x / 4096 ≡ u = omega arith in
    let b : x / 64 % 64 ≡ v = omega arith in
    let d : x % 64 ≡ w = omega arith in
    let s : 0x80 ≤ x = omega arith in
    pick_false _ _ (le-ltb x 0x80 s) ∙ pick_false _ _ (le-ltb x 0x800 p) ∙ pick_true _ _ (lt-ltb x 0x10000 q) ∙ rw (a, b, d)

pub encoded_four : (u v w z x : ℕ) → x ≡ u * 262144 + v * 4096 + w * 64 + z → v < 64 → w < 64 → z < 64 → 0x10000 ≤ x
    → encoded x ≡ (0xF0 + u) ∷ (0x80 + v) ∷ (0x80 + w) ∷ (0x80 + z) ∷ []
unfolding encoded
encoded_four u v w z x e h k i p =
    let a : x / 262144 ≡ u = omega arith in
    let b : x / 4096 % 64 ≡ v = omega arith in
    let d : x / 64 % 64 ≡ w = omega arith in
    let f : x % 64 ≡ z = omega arith in
    let s : 0x80 ≤ x = omega arith in
    let t : 0x800 ≤ x = omega arith in
    pick_false _ _ (le-ltb x 0x80 s) ∙ pick_false _ _ (le-ltb x 0x800 t) ∙ pick_false _ _ (le-ltb x 0x10000 p) ∙ rw (a, b, d, f)
