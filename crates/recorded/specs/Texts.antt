-- The digest of the recorded list, and the bytes of its writes.
use Rattle.std.specs.Prelude.{ℕ, zero, suc, ◌+◌, ◌*◌, ◌%◌, ◌<◌, ◌≡◌, List, length, get_or}

-- The digest of the first n bytes.
unfoldable pub digest_of : ℕ → List ℕ → ℕ
digest_of zero l = 0
digest_of (suc n) l = (digest_of n l * 257 + get_or l n 0) % 4294967291

-- The bytes of a write: byte j is (seed + 7 j) mod 251.
abbrev pub Sown : ℕ → List ℕ → Type 0
Sown seed l = (j : ℕ) → j < length l → get_or l j 0 ≡ (seed + 7 * j) % 251
