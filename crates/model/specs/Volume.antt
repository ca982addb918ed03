-- 4. A well-formed volume: W1 to W5. Definitions alone.
use Rattle.std.specs.Prelude.{◌≡◌, true, List, [], ◌∷◌, ℕ, zero, suc, ◌+◌, ◌-◌, ◌*◌, ◌/◌, ◌^◌, ◌≤◌, ◌<◌, max, length}
use Rattle.wire.specs.Pick.{pick}
use Rattle.bits.specs.Bit.{bit}
use Rattle.text.specs.Text.{is_name}
use Rattle.model.specs.Tree.{Name, Cell, Node, file, device, sub, Entry, Block, Below, Tree, called, used, Packed}
use Rattle.model.specs.Render.{blocks_at, render, blocks, count, Shows, ShowsAll}
use Rattle.model.specs.Geometry.{Mount, Geo, block_size, mounted, map_at, data_at, map_bits, set_bits, super_bytes, Sound}

-- every element has P
abbrev pub All : {A : Type 0} → (A → Type 0) → List A → Type 0
All P [] = Unit {0}
All P (x ∷ xs) = P x × All P xs

-- ---- W3: a name has 1 to 255 bytes, well-formed UTF-8 without controls and without `/`; names are distinct in a directory

pub record GoodName (n : Name) : Type 0 where
  pub some_bytes : 1 ≤ length n
  pub few_bytes : length n ≤ 255
  pub allowed : is_name n ≡ true

-- how many entries have that name: of a block's, and of a directory's
unfoldable pub named : {X : Type 0} → Name → List (Entry X) → ℕ
named n [] = 0
named n (e ∷ es) = pick (called n e) 1 0 + named n es

unfoldable pub named_in : {X : Type 0} → Name → List (Block X) → ℕ
named_in n [] = 0
named_in n (b ∷ bs) = named n b.entries + named_in n bs

-- ---- W4

-- F13: the longest file
abbrev pub file_limit : ℕ
file_limit = 2147483647

-- F12: how many blocks a file of s bytes has; an empty one has its first block too
unfoldable pub blocks_for : ℕ → ℕ → ℕ
blocks_for B s = max 1 ((s + (B - 5)) / (B - 4))

-- F8: all data bytes of a block are there
pub record GoodCell (B : ℕ) (c : Cell) : Type 0 where
  pub whole : length c.body ≡ B - 4

-- W4: a file is within the limit, and its chain is neither longer nor shorter than its size needs
pub record GoodFile (B s : ℕ) (cs : List Cell) : Type 0 where
  pub limit : s ≤ file_limit
  pub long : length cs ≡ blocks_for B s
  pub cells : All (GoodCell B) cs

-- W4: a device's chain has any length; but by W3 its address is in D..n-1, so it has a block.
pub record GoodDevice (B s : ℕ) (cs : List Cell) : Type 0 where
  pub limit : s < 2 ^ 32
  pub some_block : 1 ≤ length cs
  pub cells : All (GoodCell B) cs

abbrev pub GoodNode : {X : Type 0} → ℕ → (X → Type 0) → Node X → Type 0
GoodNode B S (file s cs) = GoodFile B s cs
GoodNode B S (device s cs) = GoodDevice B s cs
GoodNode B S (sub x) = S x

-- W3's name, a time of 8 bytes, and what the entry stands for
pub record GoodEntry {X : Type 0} (B : ℕ) (S : X → Type 0) (e : Entry X) : Type 0 where
  pub good_name : GoodName e.name
  pub clock : e.time < 2 ^ 64
  pub below : GoodNode B S e.node

-- F10: the entries end where reading still finds the last of them
pub record GoodBlock {X : Type 0} (B : ℕ) (S : X → Type 0) (b : Block X) : Type 0 where
  pub fits : used b.entries ≤ B - 5
  pub each : All (GoodEntry B S) b.entries

-- W3, W4: no later block is empty; no two names are equal
pub record GoodDir {X : Type 0} (B : ℕ) (S : X → Type 0) (bs : List (Block X)) : Type 0 where
  pub packed : Packed bs
  pub distinct : (n : Name) → named_in n bs ≤ 1
  pub all : All (GoodBlock B S) bs

unfoldable pub GoodBelow : ℕ → (d : ℕ) → Below d → Type 0
GoodBelow B zero x = ⊥
GoodBelow B (suc d) t = GoodDir B (GoodBelow B d) t

abbrev pub GoodTree : ℕ → (d : ℕ) → Tree d → Type 0
GoodTree B d t = GoodDir B (GoodBelow B d) t

-- ---- W1 to W4: the image has these numbers and this tree, and u as its used count.

pub record Laid (g : Geo) (I : List ℕ) (d : ℕ) (t : Tree d) (u : ℕ) : Type 0 where
  -- W1: the numbers fit the image, and block K is their superblock, to its last zero
  pub sound : Sound g (length I)
  pub top : Shows I (block_size g * g.K) (super_bytes g u)
  -- F11: the root begins in block D. Every chain stands in the image: its next addresses, entries and zeros
  pub root : blocks_at t ≡ data_at g
  pub shown : ShowsAll (block_size g) I (render (block_size g) d t)
  -- W2: no block is reached twice, and each lies in D..n-1. (That chains end is the tree's: it is finite.)
  pub once : (i : ℕ) → count i (blocks (block_size g) d t) ≤ 1
  pub range : (i : ℕ) → 1 ≤ count i (blocks (block_size g) d t) → (data_at g ≤ i) × (i < g.n)
  -- W2, W5: each has a bit (which version 1 has not for every block of D..n-1)
  pub bits : (i : ℕ) → 1 ≤ count i (blocks (block_size g) d t) → i < data_at g + map_bits g
  -- W3, W4 (a directory's size is rendered as its sum; the depth is the type's)
  pub good : GoodTree (block_size g) d t

-- ---- W5: each bit says how often its block is reached, once or not at all; past the data no block is. The used count is
-- D plus the number of set bits.

pub record Volume (g : Geo) (I : List ℕ) (d : ℕ) (t : Tree d) : Type 0 where
  pub laid : Laid g I d t (data_at g + set_bits I g)
  pub marked : (x : ℕ) → x < map_bits g → bit I (block_size g * map_at g) x ≡ count (data_at g + x) (blocks (block_size g) d t)

-- F13: the greatest depth of a directory
abbrev pub max_depth : ℕ
max_depth = 16

-- W1 to W5 as the one word that public contracts cite: the image, mounted as the caller says, is a well-formed volume.
pub record WellFormed (M : Mount) (I : List ℕ) : Type 0 where
  pub numbers : Geo
  pub here : mounted numbers ≡ M
  pub tree : Tree max_depth
  pub volume : Volume numbers I max_depth tree
