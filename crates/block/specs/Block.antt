-- Blocks of an image: what is read of one, what a store makes of the image, and what a store leaves. B is the block size.
use Rattle.std.specs.Prelude.{◌≡◌, List, ℕ, ◌+◌, ◌*◌, ◌≤◌, ◌<◌, length, get_or}
use Rattle.wire.specs.Be.{be, bytes, splice, zeros}

-- F1: the bytes of a block where the size code is 0; each code more doubles them
abbrev pub block_bytes : ℕ
block_bytes = 512

-- F1: what is asked of a block's size: no fewer bytes than that, and so many that a directory's sum has four bytes.
pub record BlockSize (B : ℕ) : Type 0 where
  pub least : block_bytes ≤ B
  pub most : B ≤ 1024

-- F1, F3: the blocks that chains run in: the size of a block, the data area's first address, and the
-- volume's end, which is none of it.
pub record Area : Type 0 where
  pub size : ℕ
  pub first : ℕ
  pub end : ℕ

-- Byte o of block a.
unfoldable pub cell : ℕ → List ℕ → ℕ → ℕ → ℕ
cell B I a o = get_or I (B * a + o) 0

-- F8: the next address, in the block's first four bytes
unfoldable pub next : ℕ → List ℕ → ℕ → ℕ
next B I a = be 4 I (B * a)

-- The image with v as the next address of block a.
unfoldable pub linked : ℕ → List ℕ → ℕ → ℕ → List ℕ
linked B I a v = splice I (B * a) (bytes 4 v)

-- The image with the k blocks from a on zero.
unfoldable pub zeroed : ℕ → List ℕ → ℕ → ℕ → List ℕ
zeroed B I a k = splice I (B * a) (zeros (B * k))

-- Block b at offset p is none of the n bytes from offset o of block a.
abbrev pub Off : ℕ → ℕ → ℕ → ℕ → ℕ → Type 0
Off a o n b p = b ≡ a → o ≤ p → p < o + n → ⊥

-- C14: the frame: J has I's length, and I's byte at each block b and offset o with P b o.
pub record Kept (B : ℕ) (P : ℕ → ℕ → Type 0) (I J : List ℕ) : Type 0 where
  pub size : length J ≡ length I
  pub at : (b o : ℕ) → P b o → o < B → cell B J b o ≡ cell B I b o
