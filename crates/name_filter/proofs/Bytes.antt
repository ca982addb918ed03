-- How `hash` goes along the bytes of a name: what is left to do is what was to be done.
use mathlib.Core.Path.{◌≡◌, sym, ap, ◌∙◌}
use mathlib.Core.List.{List, [], ◌∷◌}
use Prim.Native.Nat.{ℕ, ◌+◌, ◌*◌, ◌%◌, ◌≤◌, ◌<◌}
use native.Mathlib.Numerals.{add-one}
use native.Mathlib.Omega.{arith}
use lib.ListN.{length, get_or, drop, drop_of_length-le}
use lib.Seq.{drop-cons}
use Rattle.name_filter.specs.Bits.{stirred, hash_from, hash_of}

-- at byte i
next_byte : (x : List ℕ) (i : ℕ) → i < length x → drop i x ≡ get_or x i 0 ∷ drop (i + 1) x
next_byte x i h = rw add-one (drop-cons x i 0 h)

-- ---- the hash

-- it is a number of 32 bits
hash_from_fits : (x : List ℕ) (h : ℕ) → h < 4294967296 → hash_from h x < 4294967296
unfolding hash_from stirred
hash_from_fits [] h l = l
hash_from_fits (c ∷ x) h l = hash_from_fits x ((h + c) * 2654435761 % 4294967296) (omega arith)

pub hash_fits : (x : List ℕ) → hash_of x < 4294967296
hash_fits x = hash_from_fits x 0 (omega arith)

module _ (x : List ℕ) (i h : ℕ) (v : hash_from h (drop i x) ≡ hash_of x) where
  pub hash_again : i < length x → hash_from ((h + get_or x i 0) % 4294967296 * 2654435761 % 4294967296) (drop (i + 1) x) ≡ hash_of x
  unfolding hash_from stirred
  hash_again l =
      let e : (h + get_or x i 0) % 4294967296 * 2654435761 % 4294967296 ≡ (h + get_or x i 0) * 2654435761 % 4294967296 = omega arith in
      rw e (ap (hash_from h) (sym (next_byte x i l)) ∙ v)

  pub hash_done : length x ≤ i → h ≡ hash_of x
  unfolding hash_from
  hash_done l = sym (ap (hash_from h) (drop_of_length-le x l)) ∙ v
