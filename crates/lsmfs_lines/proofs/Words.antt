-- Words as code stores them, one after the other.
use mathlib.Core.Path.{◌≡◌, refl, sym, ap, ◌∙◌}
use mathlib.Core.List.{List, [], ◌∷◌, ◌++◌, append_assoc}
use Prim.Native.Nat.{ℕ, ◌+◌, ◌-◌, ◌/◌, ◌%◌, ◌≤◌, ◌<◌}
use native.Mathlib.Decide.{dec_lt}
use native.Mathlib.Omega.{arith}
use lib.ListN.{length, take, drop, set, length-append, length-set}
use lib.Seq.{take-length}
use Rattle.wire.specs.Be.{splice}
use Rattle.wire.proofs.Numbers.{length-splice, splice-append, splice_comm, set-splice}
use Rattle.dir_entry.specs.declared.Kind.{Kind}
use Rattle.dir_entry.proofs.Heads.{splice-then}
use Rattle.lsmfs_lines.specs.Line.{decimal, digits, space, newline, letter, ended, line_of, refused_word, refused_line}
use Rattle.lsmfs_lines.proofs.Digits.{digits_last, digits_more, length_last, length_more, digits-some}

-- a word, and then the byte that ends it
pub length-ended : (w : List ℕ) (b : ℕ) → length (ended w b) ≡ length w + 1
unfolding ended
length-ended w b = length-append w (b ∷ [])

ended_stored : (o o₁ : List ℕ) (at : ℕ) (w : List ℕ) (b : ℕ) → at + length w < length o → o₁ ≡ splice o at w → set o₁ (at + length w) b ≡ splice o at (ended w b)
unfolding ended
ended_stored o o₁ at w b h e =
    let l : length o₁ ≡ length o = ap length e ∙ length-splice o at w (omega arith) in
    set-splice o₁ (at + length w) b (omega arith) ∙ splice-then o o₁ at (at + length w) w (b ∷ []) e refl (omega arith)

-- the last digit first: what is left to store is the digits of n / 10
digit_stored : (o : List ℕ) (at n i : ℕ) → 10 ≤ n → i ≡ length (digits n) → at + i ≤ length o
    → splice (set o (at + (i - 1)) (decimal (n % 10))) at (digits (n / 10)) ≡ splice o at (digits n)
digit_stored o at n i h e f =
    let l : length (digits n) ≡ length (digits (n / 10)) + 1 = length_more n h in
    let p : at + (i - 1) ≡ at + length (digits (n / 10)) = omega arith in
    let b : ℕ = decimal (n % 10) in
    let d : List ℕ = digits (n / 10) in
    ap (λ (k : ℕ). splice (set o k b) at d) p
    ∙ ap (λ (m : List ℕ). splice m at d) (set-splice o (at + length d) b (omega arith))
    ∙ sym (splice_comm o at (at + length d) d (b ∷ []) (omega arith) (omega arith))
    ∙ splice-append d (b ∷ []) o at (omega arith)
    ∙ ap (splice o at) (sym (digits_more n h))

first_stored : (o : List ℕ) (at n : ℕ) → n < 10 → at < length o → set o at (decimal n) ≡ splice o at (digits n)
first_stored o at n h f = set-splice o at (decimal n) f ∙ ap (splice o at) (sym (digits_last n h))

-- r digits are still to be stored, those of `rest` where there are any
pub record Left (o₀ o : List ℕ) (at n rest r : ℕ) : Type 0 where
  pub same : length o ≡ length o₀
  pub room : at + r ≤ length o₀
  pub some : 0 < r → (r ≡ length (digits rest)) × (splice o at (digits rest) ≡ splice o₀ at (digits n))
  pub none : r ≡ 0 → o ≡ splice o₀ at (digits n)

pub left_all : (o : List ℕ) (at n k : ℕ) → k ≡ length (digits n) → at + k ≤ length o → Left o o at n n k
left_all o at n k e h = record { same = refl; room = h; some = λ p. (e, refl); none = λ p. absurd (omega (arith, e, p, digits-some n)) }

pub left_less : (o₀ o : List ℕ) (at n rest r j s : ℕ) → 0 < r → j ≡ at + (r - 1) → s ≡ r - 1 → Left o₀ o at n rest r
    → Left o₀ (set o j (decimal (rest % 10))) at n (rest / 10) s
left_less o₀ o at n rest r j s p e f l = go (dec_lt rest 10)
  where
    w : (r ≡ length (digits rest)) × (splice o at (digits rest) ≡ splice o₀ at (digits n))
    w = l.some p

    within : at + r ≤ length o
    within = omega (arith, l.same, l.room)

    kept : length (set o j (decimal (rest % 10))) ≡ length o₀
    kept = simp length-set (omega (arith, l.same))

    go : Dec (rest < 10) → Left o₀ (set o j (decimal (rest % 10))) at n (rest / 10) s
    go (yes h) =
        let q : r ≡ 1 = omega (arith, w.0, length_last rest h) in
        let i : j ≡ at = omega (arith, e, q) in
        let d : rest % 10 ≡ rest = omega (arith, h) in
        record {
          same = kept;
          room = omega (arith, l.room, f);
          some = λ t. absurd (omega (arith, t, f, q));
          none =
              λ t. ap (λ (m : ℕ). set o m (decimal (rest % 10))) i ∙ ap (λ (m : ℕ). set o at (decimal m)) d ∙ first_stored o at rest h (omega (arith, within, q)) ∙ w.1;
        }
    go (no h) =
        let q : length (digits rest) ≡ length (digits (rest / 10)) + 1 = length_more rest (omega (arith, h)) in
        record {
          same = kept;
          room = omega (arith, l.room, f);
          some =
              λ t. (
                omega (arith, f, w.0, q),
                ap (λ (m : ℕ). splice (set o m (decimal (rest % 10))) at (digits (rest / 10))) e ∙ digit_stored o at rest r (omega (arith, h)) w.0 within ∙ w.1,
              );
          none = λ t. absurd (omega (arith, t, f, w.0, q, digits-some (rest / 10)));
        }

-- code copies the whole word, and then stores the byte
pub word_stored : (o o₁ : List ℕ) (at : ℕ) (w : List ℕ) (b : ℕ) → at + length w < length o → o₁ ≡ splice o at (take (length w) (drop 0 w))
    → set o₁ (at + length w) b ≡ splice o at (ended w b)
word_stored o o₁ at w b h e = ended_stored o o₁ at w b h (e ∙ ap (splice o at) (take-length w))

pub number_stored : (o o₁ : List ℕ) (at n k b : ℕ) → at + length (digits n) < length o → k ≡ length (digits n) → o₁ ≡ splice o at (digits n)
    → set o₁ (at + k) b ≡ splice o at (ended (digits n) b)
number_stored o o₁ at n k b h q e = ap (λ (i : ℕ). set o₁ (at + i) b) q ∙ ended_stored o o₁ at (digits n) b h e

-- a stored word w from `at` on, and the place p after it
abbrev pub Stored : List ℕ → List ℕ → ℕ → List ℕ → ℕ → Type 0
Stored o o₁ at w p = (o₁ ≡ splice o at w) × (p ≡ at + length w)

-- two that follow one another are one
pub stored_both : (o o₁ o₂ : List ℕ) (at p q : ℕ) (v w : List ℕ) → at + (length v + length w) ≤ length o → Stored o o₁ at v p → Stored o₁ o₂ p w q → Stored o o₂ at (v ++ w) q
stored_both o o₁ o₂ at p q v w h (e, f) (g, k) = (g ∙ splice-then o o₁ at p v w e f h, omega (arith, length-append v w))

-- the four words of an entry's line
module _ (k : Kind) (size time : ℕ) (x : List ℕ) (hs : length (digits size) ≤ 10) (ht : length (digits time) ≤ 20) where
  pub line_short : length (line_of k size time x) ≤ 35 + length x
  unfolding line_of
  line_short =
      simp (length-append, length-ended) (omega arith)

  pub line_stored : (o o₁ o₂ o₃ o₄ : List ℕ) (to a b c r l : ℕ) → to + 35 + length x ≤ length o → l ≡ letter k
      → Stored o o₁ to (ended (l ∷ []) space) a → Stored o₁ o₂ a (ended (digits size) space) b → Stored o₂ o₃ b (ended (digits time) space) c
      → Stored o₃ o₄ c (ended x newline) r → Stored o o₄ to (line_of k size time x) r
  unfolding line_of
  line_stored o o₁ o₂ o₃ o₄ to a b c r l h q s₁ s₂ s₃ s₄ =
      let L : List ℕ = ended (letter k ∷ []) space in
      let S : List ℕ = ended (digits size) space in
      let T : List ℕ = ended (digits time) space in
      let X : List ℕ = ended x newline in
      let kl : length L ≡ 2 = length-ended (letter k ∷ []) space in
      let ks : length S ≡ length (digits size) + 1 = length-ended (digits size) space in
      let kt : length T ≡ length (digits time) + 1 = length-ended (digits time) space in
      let kx : length X ≡ length x + 1 = length-ended x newline in
      let kls : length (L ++ S) ≡ length L + length S = length-append L S in
      let klst : length ((L ++ S) ++ T) ≡ length (L ++ S) + length T = length-append (L ++ S) T in
      let t₁ : Stored o o₁ to L a = rw q at s₁ in
      let t₂ : Stored o o₂ to (L ++ S) b = stored_both o o₁ o₂ to a b L S (omega arith) t₁ s₂ in
      let t₃ : Stored o o₃ to ((L ++ S) ++ T) c = stored_both o o₂ o₃ to b c (L ++ S) T (omega arith) t₂ s₃ in
      let t₄ : Stored o o₄ to (((L ++ S) ++ T) ++ X) r = stored_both o o₃ o₄ to c r ((L ++ S) ++ T) X (omega arith) t₃ s₄ in
      rw (append_assoc (L ++ S) T X, append_assoc L S (T ++ X)) at t₄

-- the two of a refusal's, from the buffer's start
pub refused_stored : (o o₁ o₂ : List ℕ) (a r n : ℕ) → 19 ≤ length o → length (digits n) ≤ 10 → Stored o o₁ 0 (ended refused_word space) a → Stored o₁ o₂ a (ended (digits n) newline) r
    → (o₂ ≡ splice o 0 (refused_line n)) × ((r ≡ length (refused_line n)) × (r ≤ 19))
unfolding refused_line
refused_stored o o₁ o₂ a r n h hn s₁ s₂ =
    let W : List ℕ = ended refused_word space in
    let N : List ℕ = ended (digits n) newline in
    let k₁ : length W ≡ 8 = length-ended refused_word space in
    let k₂ : length N ≡ length (digits n) + 1 = length-ended (digits n) newline in
    let t : Stored o o₂ 0 (W ++ N) r = stored_both o o₁ o₂ 0 a r W N (omega arith) s₁ s₂ in
    (t.0, (omega (arith, t.1), omega (arith, t.1, length-append W N)))
