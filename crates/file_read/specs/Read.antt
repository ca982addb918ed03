-- Reading on any image: the file's chain and its bytes, and what refuses a read. Definitions alone.
-- A is the data area: the size of its blocks, its first address and the volume's end.
use Rattle.std.specs.Prelude.{Bool, true, false, List, [], ◌∷◌, ◌++◌, ℕ, zero, suc, ◌+◌, ◌-◌, ◌*◌, ◌/◌, min, leb, take, drop}
use Rattle.std.proofs.Math.Option.{Option, none, some}
use Rattle.wire.specs.Pick.{pick}
use Rattle.block.specs.Block.{Area, next}
use Rattle.model.specs.Answers.{when, first_of}
use Rattle.model.specs.Tree.{then}
use Rattle.read_dir.specs.Walk.{in_area, walk}
use Rattle.handle.specs.declared.Handle.{Handle}
use Rattle.handle.specs.Handles.{stale_fields, held_in}

-- C7: as many as the buffer has room for and the file has left
abbrev pub to_read : Handle → ℕ → ℕ
to_read h len = min len (h.size - h.position)

module _ (A : Area) (I : List ℕ) where
  -- The first m addresses of the chain from a on, none where it leaves D..n-1 (0, its end, is outside).
  unfoldable pub chain : ℕ → ℕ → Option (List ℕ)
  chain zero a = some []
  chain (suc m) a = pick (in_area A I a) (then (chain m (next A.size I a)) (λ xs. some (a ∷ xs))) none

  -- O12: how many blocks a read of k bytes at p walks: to that of its last byte, and none for 0 bytes.
  unfoldable pub blocks_read : ℕ → ℕ → ℕ
  blocks_read p zero = 0
  blocks_read p (suc k) = suc ((p + k) / (A.size - 4))

  -- R17: none where the chain leaves the area, ends too early (0 is outside), or would have more blocks than there are
  unfoldable pub chain_read : ℕ → ℕ → Option (List ℕ)
  chain_read a m = pick (leb m (A.end - A.first)) (chain m a) none

  -- the data bytes of these blocks, in order
  unfoldable pub data_of : List ℕ → List ℕ
  data_of [] = []
  data_of (a ∷ xs) = take (A.size - 4) (drop (A.size * a + 4) I) ++ data_of xs

  abbrev pub missing : Option (List ℕ) → Bool
  missing none = true
  missing (some xs) = false

  abbrev pub bytes_of : Option (List ℕ) → ℕ → ℕ → List ℕ
  bytes_of none p k = []
  bytes_of (some xs) p k = take k (drop p (data_of xs))

  -- O6: the handle's own fields, then its directory, then the file's chain.
  unfoldable pub read_refusal : Handle → ℕ → ℕ
  read_refusal h len =
      first_of (when 11 (stale_fields h) ∷ (held_in h (walk A I h.dir.0)
      ∷ (when 17 (missing (chain_read h.addr.0 (blocks_read h.position (to_read h len)))) ∷ [])))

  -- The bytes that a read gives.
  unfoldable pub bytes_read : Handle → ℕ → List ℕ
  bytes_read h len = bytes_of (chain_read h.addr.0 (blocks_read h.position (to_read h len))) h.position (to_read h len)
