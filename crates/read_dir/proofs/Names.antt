-- The name of an entry, as code takes it and compares it.
use mathlib.Core.Path.{◌≡◌, refl, sym, ap, ◌∙◌}
use mathlib.Core.Bool.{Bool, true, false}
use mathlib.Core.List.{List}
use Prim.Native.Nat.{ℕ, ◌+◌, ◌-◌, ◌*◌, ◌≤◌}
use native.Mathlib.Omega.{arith}
use lib.ListN.{length, take, drop, length-take, length-drop}
use lib.Seq.{take-length}
use Rattle.wire.specs.Pick.{same}
use Rattle.wire.proofs.Picks.{either, same_eq}
use Rattle.dir_entry.specs.Entry.{place_at, name_at}
use mathlib.Core.Logic.{◌⊎◌, inl, inr}

pub name_part : (I : List ℕ) (at q n : ℕ) → at ≡ q → take (at + 18 + n - (at + 18)) (drop (at + 18) I) ≡ name_at I q n
name_part I at q n e =
    let z : at + 18 + n - (at + 18) ≡ n = omega arith in
    rw (z, e)

pub length_name : (I : List ℕ) (at n : ℕ) → at + 18 + n ≤ length I → length (name_at I at n) ≡ n
length_name I at n h = simp (length-take, length-drop) (omega arith)

-- x is the name, t the one it is compared with
module _ (x y t : List ℕ) (e : x ≡ y) where
  pub name_longer : (length x ≡ length t → ⊥) → false ≡ same y t
  name_longer h = sym (go (either (same y t)))
    where
      go : (same y t ≡ true) ⊎ (same y t ≡ false) → same y t ≡ false
      go (inl p) = absurd (h (ap length (e ∙ same_eq y t p)))
      go (inr p) = p

  pub name_compared : (r : Bool) → length x ≡ length t → r ≡ same (take (length t) (drop 0 x)) t → r ≡ same y t
  name_compared r h p =
      let q : take (length t) (drop 0 x) ≡ y = ap (λ (k : ℕ). take k x) (sym h) ∙ take-length x ∙ e in
      p ∙ ap (λ (l : List ℕ). same l t) q

-- the same at its place: `at` is the byte of the entry, n its length
module _ (B : ℕ) (I : List ℕ) (a o n : ℕ) (t : List ℕ) (h : B * a + B ≤ length I) (l : o + 18 + n ≤ B - 5) where
  pub at_longer : (n ≡ length t → ⊥) → false ≡ same (name_at I (place_at B a o) n) t
  at_longer z =
      let k : length (name_at I (place_at B a o) n) ≡ n = length_name I (place_at B a o) n (omega arith) in
      name_longer (name_at I (place_at B a o) n) (name_at I (place_at B a o) n) t refl (λ e. z (sym k ∙ e))

pub at_compared : (I : List ℕ) (at q n : ℕ) (t : List ℕ) (r : Bool) → at ≡ q → n ≡ length t
    → r ≡ same (take (length t) (drop (at + 18) I)) t → r ≡ same (name_at I q n) t
at_compared I at q n t r e f p =
    p ∙ ap (λ (j : ℕ). same (take j (drop (at + 18) I)) t) (sym f) ∙ ap (λ (j : ℕ). same (name_at I j n) t) e
