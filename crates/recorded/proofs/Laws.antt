-- What the loop of the digest keeps.
use mathlib.Core.Path.{◌≡◌, refl}
use mathlib.Core.List.{List}
use Prim.Native.Nat.{ℕ, ◌+◌, ◌*◌, ◌%◌}
use native.Mathlib.Numerals.{add-one}
use lib.ListN.{get_or}
use Rattle.recorded.specs.Texts.{digest_of}

pub digest_none : (l : List ℕ) → digest_of 0 l ≡ 0
unfolding digest_of
digest_none l = refl

pub digest_more : (i : ℕ) (l : List ℕ) → digest_of (i + 1) l ≡ (digest_of i l * 257 + get_or l i 0) % 4294967291
unfolding digest_of
digest_more i l = rw add-one
