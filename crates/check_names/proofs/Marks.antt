-- What the filter knows of names: the laws of `Covers` and `Only`.
use mathlib.Core.Path.{◌≡◌, refl, sym, ap, ◌∙◌, subst}
use mathlib.Core.Logic.{◌⊎◌, inl, inr}
use mathlib.Core.Bool.{true, false}
use mathlib.Core.List.{List, [], ◌∷◌, ◌++◌}
use Prim.Native.Nat.{ℕ, ◌%◌, ◌<◌}
use native.Mathlib.Omega.{arith}
use native.Mathlib.Decide.{dec_lt}
use lib.Dec.{eqb}
use lib.ListN.{length, get_or, take, length-replicate, get_or-replicate, get_or-eq_default}
use lib.Seq.{ext_get_or}
use borrow.Author.Tests.{eq-eqb, ne_eqb}
use Rattle.wire.specs.Be.{zeros}
use Rattle.wire.proofs.Picks.{not_both, pick_true, pick_false, pick_case}
use Rattle.name_filter.specs.Bits.{hash_of, filter_bytes, turned, filtered, noted, wiped, OffPair}
use Rattle.name_filter.proofs.Bytes.{hash_fits}
use Rattle.name_filter.proofs.Marks.{length-noted, noted_other, length_wiped, noted-marked, noted_keeps, wiped_off}
use Rattle.model.specs.Tree.{Name}
use Rattle.check_names.specs.Names.{one_of}
use Rattle.check_names.specs.Filter.{clear, part_of, noted_in, CoversPart, OffFilter, Only}
use Rattle.check_names.proofs.Among.{none_of_none, one_self, one_cases, one_first, one_second, one_last, one-taken}

-- ---- the clear filter

pub clear_zeros : zeros 16384 ≡ clear
unfolding clear
clear_zeros = refl

clear_long : length clear ≡ filter_bytes
unfolding clear
clear_long = length-replicate {A = ℕ} filter_bytes 0

clear_in_lem : (j : ℕ) → j < filter_bytes → get_or clear j 0 ≡ 0
unfolding clear
clear_in_lem j h = get_or-replicate {A = ℕ} filter_bytes j 0 0 h

clear_zero : (j : ℕ) → get_or clear j 0 ≡ 0
clear_zero j = go (dec_lt j filter_bytes)
  where
    go : Dec (j < filter_bytes) → get_or clear j 0 ≡ 0
    go (yes h) = clear_in_lem j h
    go (no h) = get_or-eq_default clear 0 (omega (arith, clear_long))

-- as code makes it
pub clear_filled : (F G : List ℕ) → length F ≡ filter_bytes → G ≡ zeros (length F) → G ≡ clear
unfolding clear
clear_filled F G l e = e ∙ ap zeros l

-- ---- what it knows of names

-- of none, where it is lent
pub clear_covers : (F : List ℕ) (m k : ℕ) → CoversPart F [] m k
clear_covers F m k x p t = absurd (not_both t (none_of_none x))

pub clear_within : (F : List ℕ) (xs : List Name) → F ≡ clear → Only F xs
clear_within F xs e = subst (λ (y : List ℕ). Only y xs) (sym e) (record { long = clear_long; rest = λ j u. clear_zero j })

-- of one name more
module _ (F : List ℕ) (xs : List Name) (y : Name) (m k : ℕ) where
  pub covers_more : length F ≡ filter_bytes → CoversPart F xs m k → CoversPart (noted_in F y m k) (xs ++ (y ∷ [])) m k
  unfolding noted_in
  covers_more l c x p t =
      pick_case (λ (G : List ℕ). filtered G (hash_of x) ≡ true) (eqb (part_of m y) k) (noted F (hash_of y)) F
      (λ q. own (one_last x xs y t)) (λ q. other q (one_last x xs y t))
    where
      own : (one_of x xs ≡ true) ⊎ (x ≡ y) → filtered (noted F (hash_of y)) (hash_of x) ≡ true
      own (inl o) = noted_keeps F (hash_of y) l (hash_fits y) (hash_of x) (c x p o)
      own (inr e) = ap (λ (z : Name). filtered (noted F (hash_of y)) (hash_of z)) e ∙ noted-marked F (hash_of y) l (hash_fits y)

      other : eqb (part_of m y) k ≡ false → (one_of x xs ≡ true) ⊎ (x ≡ y) → filtered F (hash_of x) ≡ true
      other q (inl o) = c x p o
      other q (inr e) = absurd (not_both (eq-eqb (part_of m y) k (ap (part_of m) (sym e) ∙ p)) q)

  pub within_more : Only F xs → Only (noted_in F y m k) (xs ++ (y ∷ []))
  unfolding noted_in
  within_more w =
      pick_case (λ (G : List ℕ). Only G (xs ++ (y ∷ []))) (eqb (part_of m y) k) (noted F (hash_of y)) F (λ q. own) (λ q. other)
    where
      own : Only (noted F (hash_of y)) (xs ++ (y ∷ []))
      own = record {
        long = length-noted F (hash_of y) ∙ w.long;
        rest = λ j u.
            noted_other F (hash_of y) j (u y (one_second y xs (y ∷ []) (one_self y [])))
            ∙ w.rest j (λ x t. u x (one_first x xs (y ∷ []) t));
      }

      other : Only F (xs ++ (y ∷ []))
      other = record { long = w.long; rest = λ j u. w.rest j (λ x t. u x (one_first x xs (y ∷ []) t)) }

-- what `fresh` says and stores, of a name of the part and of another
module _ (y : Name) (m k h : ℕ) (e : h ≡ hash_of y) where
  own_part : h % 65521 % m ≡ k → part_of m y ≡ k
  own_part q = ap (λ (z : ℕ). z % 65521 % m) (sym e) ∙ q

  other_part : (h % 65521 % m ≡ k → ⊥) → eqb (part_of m y) k ≡ false
  other_part n = ne_eqb (part_of m y) k (λ q. n (ap (λ (z : ℕ). z % 65521 % m) e ∙ q))

  pub fresh-noted : (F G : List ℕ) → h % 65521 % m ≡ k → G ≡ noted F h → G ≡ noted_in F y m k
  unfolding noted_in
  fresh-noted F G q g = g ∙ ap (noted F) e ∙ sym (pick_true (noted F (hash_of y)) F (eq-eqb (part_of m y) k (own_part q)))

  pub fresh_kept : (F : List ℕ) → (h % 65521 % m ≡ k → ⊥) → F ≡ noted_in F y m k
  unfolding noted_in
  fresh_kept F n = sym (pick_false (noted F (hash_of y)) F (other_part n))

-- of all names, where it was of the first
pub within_all : (F : List ℕ) (i : ℕ) (xs : List Name) → Only F (take i xs) → Only F xs
within_all F i xs w = record { long = w.long; rest = λ j u. w.rest j (λ x t. u x (one-taken x i xs t)) }

-- of one name fewer
pub within_wiped : (F : List ℕ) (x : Name) (xs : List Name) → Only F (x ∷ xs) → Only (wiped F (hash_of x)) xs
within_wiped F x xs w = record {
  long = length_wiped F (hash_of x) ∙ w.long;
  rest = λ j u. wiped_off F (hash_of x) w.long (hash_fits x) j (λ o. w.rest j (λ z t. off j u o z (one_cases z x xs t)));
}
  where
    off : (j : ℕ) → OffFilter j xs → OffPair j (hash_of x) × OffPair j (turned (hash_of x))
        → (z : Name) → (z ≡ x) ⊎ (one_of z xs ≡ true) → OffPair j (hash_of z) × OffPair j (turned (hash_of z))
    off j u o z (inl e) = subst (λ (v : Name). OffPair j (hash_of v) × OffPair j (turned (hash_of v))) (sym e) o
    off j u o z (inr t) = u z t

-- of none: it is clear again
pub within_none : (F : List ℕ) → Only F [] → F ≡ clear
within_none F w = ext_get_or 0 F clear (w.long ∙ sym clear_long) (λ j h. w.rest j (λ x t. absurd (not_both t (none_of_none x))) ∙ sym (clear_zero j))
