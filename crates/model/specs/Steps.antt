-- 6. The calls at one path as steps of image and tree, and what comes back after any number of them (D3). Definitions alone.
-- A step says less than Calls do (size, blocks and addresses are free), so that D3 holds of every call that is one.
use Rattle.std.specs.Prelude.{◌≡◌, ◌⊎◌, List, ℕ, ◌+◌, ◌-◌, ◌*◌, ◌≤◌, ◌<◌, length, get_or}
use Rattle.model.specs.Tree.{Name, Cell, Tree}
use Rattle.model.specs.Render.{blocks, count, Wiped, own_time, InTime}
use Rattle.model.specs.Geometry.{Geo, block_size, map_at, data_at}
use Rattle.model.specs.Calls.{Vacant, Occupied, created, rewritten, deleted, entry_room, Outside, Makes}

-- An image: its bytes, block after block.
abbrev pub Image : Type 0
Image = List ℕ

-- a list of bytes, as every image and every buffer of a call is
abbrev pub Bytes : List ℕ → Type 0
Bytes l = (i : ℕ) → get_or l i 0 < 256

-- One call at the path p, n: from the image I with the tree t to J with u. A refused call, an open, a read and a seek change
-- nothing.
pub data Step (g : Geo) (d : ℕ) (p : List Name) (n : Name) (I : Image) (t : Tree d) (J : Image) (u : Tree d) : Type 0 where
  quiet : J ≡ I → u ≡ t → Step g d p n I t J u
  create : (now w s : ℕ) (cs : List Cell) → Vacant d p n t → u ≡ created d (entry_room g) p n now w s cs t
      → Makes g d t u I J → Step g d p n I t J u
  write : (now s : ℕ) (cs : List Cell) → Occupied d p n t → u ≡ rewritten d p n now s cs t
      → Makes g d t u I J → Step g d p n I t J u
  remove : (now : ℕ) → Occupied d p n t → u ≡ deleted d p n now t
      → Makes g d t u I J → Step g d p n I t J u

-- Any number of them.
pub data Run (g : Geo) (d : ℕ) (p : List Name) (n : Name) : Image → Tree d → Image → Tree d → Type 0 where
  done : {I : Image} {t : Tree d} → Run g d p n I t I t
  call : {I J L : Image} {t u v : Tree d} → Step g d p n I t J u → Run g d p n J u L v → Run g d p n I t L v

-- Block b is reached by a tree on the way, the first and the last among them.
unfoldable pub Used : {g : Geo} {d : ℕ} {p : List Name} {n : Name} {I J : Image} {t u : Tree d} → ℕ → Run g d p n I t J u
    → Type 0
Used {g} {d} {p} {n} {I} {J} {t} {u} b done = 1 ≤ count b (blocks (block_size g) d t)
Used {g} {d} {p} {n} {I} {J} {t} {u} b (call s r) = (1 ≤ count b (blocks (block_size g) d t)) ⊎ Used b r

-- D3, what of the first image I and its tree t is in the image J, where `Touched` are the blocks that were reached at some
-- time: as many bytes; the superblock, the bitmap and every block that t reaches (those of all directories, and of every other
-- file and device), byte for byte. Only the time in the holding directory's own entry may differ.
pub record Restored (g : Geo) (d : ℕ) (p : List Name) (I : Image) (t : Tree d) (Touched : ℕ → Type 0) (J : Image) : Type 0 where
  pub long : length J ≡ length I
  pub top : (i : ℕ) → i < block_size g → get_or J (block_size g * g.K + i) 0 ≡ get_or I (block_size g * g.K + i) 0
  pub bitmap : (i : ℕ) → i < block_size g * (data_at g - map_at g)
      → get_or J (block_size g * map_at g + i) 0 ≡ get_or I (block_size g * map_at g + i) 0
  pub reached : (b i : ℕ) → 1 ≤ count b (blocks (block_size g) d t) → i < block_size g
      → (InTime (own_time (block_size g) d p t) (block_size g * b + i) → ⊥)
      → get_or J (block_size g * b + i) 0 ≡ get_or I (block_size g * b + i) 0
  -- What the calls used and gave back is zero;
  pub given_back : (b : ℕ) → Touched b → count b (blocks (block_size g) d t) ≡ 0 → Wiped (block_size g) J b
  -- what they never used is as it was, with whatever stood there.
  pub never_used : (b i : ℕ) → Outside g d t b → (Touched b → ⊥) → i < block_size g
      → get_or J (block_size g * b + i) 0 ≡ get_or I (block_size g * b + i) 0
