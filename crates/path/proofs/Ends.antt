-- The laws of `untrailed`, `before_name`, `unled` and `split` by where the first or the last byte is that is a slash, or that is none.
use mathlib.Core.Path.{◌≡◌, refl, sym, ap, ◌∙◌}
use mathlib.Core.List.{List, [], ◌∷◌}
use Prim.Native.Nat.{ℕ, zero, suc, ◌+◌, ◌-◌, ◌≤◌, ◌<◌}
use native.Mathlib.Numerals.{add-one}
use native.Mathlib.Omega.{arith}
use lib.ListN.{length, get_or, take, drop}
use borrow.Author.Tests.{eq-eqb, ne_eqb, lt-ltb, le-ltb}
use Rattle.std.proofs.lemmas.Slice.{between_to_end}
use Rattle.wire.proofs.Picks.{pick_true, pick_false}
use Rattle.path.specs.Path.{slash, untrailed, trimmed, before_name, last_name, dir_part, unled, split}
use Rattle.path.proofs.Pieces.{front, split-none, split-slash, split_other}

-- what holds of the bytes of a list holds of those behind the first
module _ (P : ℕ → Type 0) (c : ℕ) (l : List ℕ) where
  all_less : ((k : ℕ) → k < length (c ∷ l) → P (get_or (c ∷ l) k 0)) → (k : ℕ) → k < length l → P (get_or l k 0)
  all_less f k h = f (suc k) (omega arith)

  all_after : ((k : ℕ) → 0 < k → k < length (c ∷ l) → P (get_or (c ∷ l) k 0)) → (k : ℕ) → k < length l → P (get_or l k 0)
  all_after f k h = f (suc k) (omega arith) (omega arith)

  less_after : (i : ℕ) → ((k : ℕ) → suc i < k → k < length (c ∷ l) → P (get_or (c ∷ l) k 0))
      → (k : ℕ) → i < k → k < length l → P (get_or l k 0)
  less_after i f k g h = f (suc k) (omega arith) (omega arith)

  less_before : (i : ℕ) → ((k : ℕ) → k < suc i → P (get_or (c ∷ l) k 0)) → (k : ℕ) → k < i → P (get_or l k 0)
  less_before i f k h = f (suc k) (omega arith)

abbrev IsSlash : ℕ → Type 0
IsSlash x = x ≡ slash

abbrev IsOther : ℕ → Type 0
IsOther x = x ≡ slash → ⊥

-- ---- the last name

before_all : (s : List ℕ) → ((k : ℕ) → k < length s → get_or s k 0 ≡ slash → ⊥) → before_name s ≡ 0
unfolding before_name
before_all [] f = refl
before_all (c ∷ l) f =
    let d : c ≡ slash → ⊥ = f 0 (omega arith) in
    rw (before_all l (all_less IsOther c l f), ne_eqb c slash d)

before_last : (s : List ℕ) (i : ℕ) → i < length s → get_or s i 0 ≡ slash
    → ((k : ℕ) → i < k → k < length s → get_or s k 0 ≡ slash → ⊥) → before_name s ≡ suc i
unfolding before_name
before_last [] i h e f = absurd (omega arith)
before_last (c ∷ l) zero h e f = rw (before_all l (all_after IsOther c l f), eq-eqb c slash e)
before_last (c ∷ l) (suc i) h e f = rw (before_last l i (omega arith) e (less_after IsOther c l i f))

-- ---- the slashes at the end

untrailed_all : (s : List ℕ) → ((k : ℕ) → k < length s → get_or s k 0 ≡ slash) → untrailed s ≡ 0
unfolding untrailed
untrailed_all [] f = refl
untrailed_all (c ∷ l) f =
    let d : c ≡ slash = f 0 (omega arith) in
    rw (untrailed_all l (all_less IsSlash c l f), eq-eqb c slash d)

untrailed_last : (s : List ℕ) (i : ℕ) → i < length s → (get_or s i 0 ≡ slash → ⊥)
    → ((k : ℕ) → i < k → k < length s → get_or s k 0 ≡ slash) → untrailed s ≡ suc i
unfolding untrailed
untrailed_last [] i h e f = absurd (omega arith)
untrailed_last (c ∷ l) zero h e f = rw (untrailed_all l (all_after IsSlash c l f), ne_eqb c slash e)
untrailed_last (c ∷ l) (suc i) h e f = rw (untrailed_last l i (omega arith) e (less_after IsSlash c l i f))

module _ (l : List ℕ) where
  pub trim_short : length l ≤ 1 → l ≡ trimmed l
  unfolding trimmed
  trim_short h = sym (pick_false _ _ (le-ltb 1 (length l) h))

  pub trim_all : 1 < length l → ((k : ℕ) → k < length l → get_or l k 0 ≡ slash) → [] ≡ trimmed l
  unfolding trimmed
  trim_all h f = sym (pick_true _ _ (lt-ltb 1 (length l) h) ∙ rw (untrailed_all l f))

  pub trim_last : (i : ℕ) → 1 < length l → i < length l → (get_or l i 0 ≡ slash → ⊥)
      → ((k : ℕ) → i < k → k < length l → get_or l k 0 ≡ slash) → take (i + 1) l ≡ trimmed l
  unfolding trimmed
  trim_last i h g e f = sym (pick_true _ _ (lt-ltb 1 (length l) h) ∙ rw (untrailed_last l i g e f, add-one))

-- ---- the parts of l, by what is left of it without the slashes at its end

module _ (l m : List ℕ) (t : m ≡ trimmed l) where
  module _ (f : (k : ℕ) → k < length m → get_or m k 0 ≡ slash → ⊥) where
    pub dir_none : [] ≡ dir_part l
    unfolding dir_part
    dir_none = rw (← t, before_all m f)

    pub name_whole : m ≡ last_name l
    unfolding last_name
    name_whole = rw (← t, before_all m f)

  module _ (i : ℕ) (h : i < length m) (e : get_or m i 0 ≡ slash) (f : (k : ℕ) → i < k → k < length m → get_or m k 0 ≡ slash → ⊥) where
    pub dir_first : i ≡ 0 → take 1 m ≡ dir_part l
    unfolding dir_part
    dir_first z = rw (← t, before_last m i h e f, z)

    pub dir_later : (i ≡ 0 → ⊥) → take i m ≡ dir_part l
    unfolding dir_part
    dir_later d = go i refl
      where
        go : (j : ℕ) → i ≡ j → take i m ≡ dir_part l
        go zero z = absurd (d z)
        go (suc j) z = rw (← t, before_last m i h e f, z)

    pub name_first : i ≡ 0 → take (length m - 1) (drop 1 m) ≡ last_name l
    unfolding last_name
    name_first z = between_to_end m 1 (length m) (omega arith) ∙ rw (← t, before_last m i h e f, z)

    pub name_after : take (length m - (i + 1)) (drop (i + 1) m) ≡ last_name l
    unfolding last_name
    name_after =
        between_to_end m (i + 1) (length m) (omega arith)
        ∙ rw (← t, before_last m i h e f, add-one)

-- ---- the slashes in front

pub unled_all : (s : List ℕ) → ((k : ℕ) → k < length s → get_or s k 0 ≡ slash) → unled s ≡ []
unfolding unled
unled_all [] f = refl
unled_all (c ∷ l) f =
    pick_true (unled l) (c ∷ l) (eq-eqb c slash (f 0 (omega arith))) ∙ unled_all l (all_less IsSlash c l f)

pub unled_first : (s : List ℕ) (i : ℕ) → i < length s → (get_or s i 0 ≡ slash → ⊥) → ((k : ℕ) → k < i → get_or s k 0 ≡ slash)
    → unled s ≡ drop i s
unfolding unled
unled_first [] i h e f = absurd (omega arith)
unled_first (c ∷ l) zero h e f = pick_false (unled l) (c ∷ l) (ne_eqb c slash e)
unled_first (c ∷ l) (suc i) h e f =
    pick_true (unled l) (c ∷ l) (eq-eqb c slash (f 0 (omega arith)))
    ∙ unled_first l i (omega arith) e (less_before IsSlash c l i f)

-- ---- the first piece

pub split_whole : (s : List ℕ) → ((k : ℕ) → k < length s → get_or s k 0 ≡ slash → ⊥) → split s ≡ s ∷ []
unfolding front
split_whole [] f = split-none
split_whole (c ∷ l) f =
    split_other c l (f 0 (omega arith)) ∙ ap (front (c ∷ [])) (split_whole l (all_less IsOther c l f))

split_first : (s : List ℕ) (i : ℕ) → i < length s → get_or s i 0 ≡ slash → ((k : ℕ) → k < i → get_or s k 0 ≡ slash → ⊥)
    → split s ≡ take i s ∷ split (drop (suc i) s)
unfolding front
split_first [] i h e f = absurd (omega arith)
split_first (c ∷ l) zero h e f = split-slash c l e
split_first (c ∷ l) (suc i) h e f =
    split_other c l (f 0 (omega arith))
    ∙ ap (front (c ∷ [])) (split_first l i (omega arith) e (less_before IsOther c l i f))

pub split_at : (s : List ℕ) (i : ℕ) → i < length s → get_or s i 0 ≡ slash → ((k : ℕ) → k < i → get_or s k 0 ≡ slash → ⊥)
    → split s ≡ take i s ∷ split (take (length s - (i + 1)) (drop (i + 1) s))
split_at s i h e f =
    split_first s i h e f
    ∙ ap (λ (l : List ℕ). take i s ∷ split l) (sym (between_to_end s (i + 1) (length s) (omega arith) ∙ rw add-one))
