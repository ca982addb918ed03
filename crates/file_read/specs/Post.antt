-- What the functions give: the answer of a read with the handle that it hands back, and its steps. Definitions alone.
-- A is the data area: the size of its blocks, its first address and the volume's end.
use Rattle.std.specs.Prelude.{◌≡◌, true, false, List, ℕ, zero, suc, ◌+◌, ◌-◌, ◌%◌, length, Result, Ok, Err}
use Rattle.std.proofs.Math.Option.{Option, none, some}
use Rattle.wire.specs.Be.{splice}
use Rattle.wire.specs.Pick.{pick}
use Rattle.block.specs.Block.{Area, next}
use Rattle.model.specs.Answers.{when}
use Rattle.block.specs.declared.Addr.{Addr}
use Rattle.limits.specs.Refusals.{refusal_number}
use Rattle.limits.specs.declared.Damage.{Damage}
use Rattle.limits.specs.declared.Refusal.{Refusal}
use Rattle.read_dir.specs.Walk.{in_area}
use Rattle.handle.specs.declared.Handle.{Handle}
use Rattle.handle.specs.declared.CountedOut.{CountedOut}
use Rattle.handle.specs.Handles.{moved}
use Rattle.file_read.specs.Read.{to_read, chain, blocks_read, chain_read, missing, bytes_of, read_refusal, bytes_read}

-- C7, H5: none refused it, k bytes vs stand at the start of the buffer, which was l and is m, and the handle moved by k.
pub record Gives (refusal : ℕ) (h g : Handle) (vs l m : List ℕ) (k : ℕ) : Type 0 where
  pub good : refusal ≡ 0
  pub count : k ≡ to_read h (length l)
  pub handle : g ≡ moved h (h.position + k)
  pub stored : m ≡ splice l 0 vs

-- H6: it is refused: the handle is the very one given, and the buffer is as it was.
pub record Keeps (refusal : ℕ) (h g : Handle) (l m : List ℕ) (r : ℕ) : Type 0 where
  pub refused : refusal ≡ r
  pub handle : g ≡ h
  pub kept : m ≡ l

abbrev pub CountedIs : ℕ → Handle → Handle → List ℕ → List ℕ → List ℕ → Result ℕ Refusal → Type 0
CountedIs refusal h g vs l m (Ok k) = Gives refusal h g vs l m k
CountedIs refusal h g vs l m (Err r) = Keeps refusal h g l m (refusal_number r)

module _ (A : Area) (I : List ℕ) where
  abbrev pub ReadIs : Handle → List ℕ → List ℕ → CountedOut → Type 0
  ReadIs h l m out = CountedIs (read_refusal A I h (length l)) h out.handle (bytes_read A I h (length l)) l m out.answer

  -- ---- its steps

  -- What its chain refuses it by.
  abbrev pub chain_refusal : Handle → ℕ → ℕ
  chain_refusal h len = when 17 (missing A I (chain_read A I h.addr.0 (blocks_read A I h.position (to_read h len))))

  abbrev pub FetchIs : Handle → List ℕ → List ℕ → CountedOut → Type 0
  FetchIs h l m out = CountedIs (chain_refusal h (length l)) h out.handle (bytes_read A I h (length l)) l m out.answer

  -- The address after the first m blocks of the chain from a on, none where it leaves D..n-1 before.
  unfoldable pub after : ℕ → ℕ → Option ℕ
  after zero a = some a
  after (suc m) a = pick (in_area A I a) (after m (next A.size I a)) none

  -- k bytes from data byte o of block a on, along the chain; they are there
  abbrev pub part_at : ℕ → ℕ → ℕ → List ℕ
  part_at a o k = bytes_of A I (chain A I (blocks_read A I o k) a) o k

  abbrev pub Whole : ℕ → ℕ → ℕ → Type 0
  Whole a o k = missing A I (chain A I (blocks_read A I o k) a) ≡ false

  -- The chain from a on has the k bytes from byte p on: the first of them stands in block b, which is in the chain.
  pub record Begins (a p k b : ℕ) : Type 0 where
    pub good : missing A I (chain_read A I a (blocks_read A I p k)) ≡ false
    pub whole : Whole b (p % (A.size - 4)) k
    pub bytes : bytes_of A I (chain_read A I a (blocks_read A I p k)) p k ≡ part_at b (p % (A.size - 4)) k

  abbrev pub BeginsIs : ℕ → ℕ → ℕ → Result Addr Damage → Type 0
  BeginsIs a p k (Ok b) = Begins a p k b.0
  BeginsIs a p k (Err _) = missing A I (chain_read A I a (blocks_read A I p k)) ≡ true

-- A walk along a chain: where it came to, or that it left D..n-1.
abbrev pub WalkedIs : Option ℕ → Result Addr Damage → Type 0
WalkedIs o (Ok b) = o ≡ some b.0
WalkedIs o (Err _) = o ≡ none
