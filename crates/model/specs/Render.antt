-- 2. The bytes of a tree: every block that it reaches, with all its bytes. B is the block size. Definitions alone.
use Rattle.std.specs.Prelude.{◌≡◌, List, [], ◌∷◌, ◌++◌, ℕ, zero, suc, ◌+◌, ◌-◌, ◌*◌, ◌≤◌, ◌<◌, eqb, length, get_or, replicate}
use Rattle.std.proofs.Math.Option.{Option, none, some}
use Rattle.wire.specs.Be.{bytes}
use Rattle.wire.specs.Pick.{pick}
use Rattle.model.specs.Tree.{Name, Cell, Node, file, device, sub, Entry, Block, Below, Tree, then, called, holds, lookup, weight, sum, inside}

-- A block's address and all its bytes.
pub record Piece : Type 0 where
  pub at : ℕ
  pub full : List ℕ

-- What a directory's entry and the volume show of a subdirectory: its first address, its size, and the pieces of
-- all that is in it.
pub record View (X : Type 0) : Type 0 where
  pub from : X → ℕ
  pub size : X → ℕ
  pub pieces : X → List Piece

-- The first address of a chain, 0 where there is none.
unfoldable pub cells_at : List Cell → ℕ
cells_at [] = 0
cells_at (c ∷ cs) = c.at

unfoldable pub blocks_at : {X : Type 0} → List (Block X) → ℕ
blocks_at [] = 0
blocks_at (b ∷ bs) = b.at

-- the list, then zeros up to n bytes
unfoldable pub padded : ℕ → List ℕ → List ℕ
padded n l = l ++ replicate (n - length l) 0

-- F9: an entry's kind, first address and size, and all its bytes.
unfoldable pub kind_of : {X : Type 0} → Node X → ℕ
kind_of (file s cs) = 1
kind_of (device s cs) = 2
kind_of (sub x) = 0

unfoldable pub address_of : {X : Type 0} → View X → Node X → ℕ
address_of v (file s cs) = cells_at cs
address_of v (device s cs) = cells_at cs
address_of v (sub x) = v.from x

unfoldable pub size_of : {X : Type 0} → View X → Node X → ℕ
size_of v (file s cs) = s
size_of v (device s cs) = s
size_of v (sub x) = v.size x

unfoldable pub entry_bytes : {X : Type 0} → View X → Entry X → List ℕ
entry_bytes v e =
    (kind_of e.node ∷ (bytes 4 (address_of v e.node) ++ bytes 4 (size_of v e.node)))
    ++ (bytes 8 e.time ++ (length e.name ∷ e.name))

unfoldable pub entries_bytes : {X : Type 0} → View X → List (Entry X) → List ℕ
entries_bytes v [] = []
entries_bytes v (e ∷ es) = entry_bytes v e ++ entries_bytes v es

-- F8: a chain of a file or a device: each block is the next address and its data.
unfoldable pub cell_pieces : List Cell → List Piece
cell_pieces [] = []
cell_pieces (c ∷ cs) = record { at = c.at; full = bytes 4 (cells_at cs) ++ c.body } ∷ cell_pieces cs

unfoldable pub node_pieces : {X : Type 0} → View X → Node X → List Piece
node_pieces v (file s cs) = cell_pieces cs
node_pieces v (device s cs) = cell_pieces cs
node_pieces v (sub x) = v.pieces x

unfoldable pub entry_pieces : {X : Type 0} → View X → List (Entry X) → List Piece
entry_pieces v [] = []
entry_pieces v (e ∷ es) = node_pieces v e.node ++ entry_pieces v es

-- F8, W3: a directory: each block is the next address, its entries, and zeros behind the last of them.
unfoldable pub dir_pieces : {X : Type 0} → ℕ → View X → List (Block X) → List Piece
dir_pieces B v [] = []
dir_pieces B v (b ∷ bs) =
    record { at = b.at; full = bytes 4 (blocks_at bs) ++ padded (B - 4) (entries_bytes v b.entries) }
    ∷ (entry_pieces v b.entries ++ dir_pieces B v bs)

unfoldable pub view : ℕ → (d : ℕ) → View (Below d)
view B zero = record { from = λ x. absurd x; size = λ x. absurd x; pieces = λ x. absurd x }
view B (suc d) = record { from = blocks_at; size = sum; pieces = dir_pieces B (view B d) }

-- Every block that the tree reaches, with all its bytes.
unfoldable pub render : ℕ → (d : ℕ) → Tree d → List Piece
render B d t = dir_pieces B (view B d) t

-- the addresses of a list of pieces, in order
unfoldable pub ats : List Piece → List ℕ
ats [] = []
ats (x ∷ xs) = x.at ∷ ats xs

-- W5: the addresses of all blocks that are reached from the root, in walking order.
abbrev pub blocks : ℕ → (d : ℕ) → Tree d → List ℕ
blocks B d t = ats (render B d t)

-- how often i stands in a list
unfoldable pub count : ℕ → List ℕ → ℕ
count i [] = 0
count i (b ∷ bs) = pick (eqb i b) 1 0 + count i bs

-- ---- what an image shows

-- The image has the bytes l from byte k on; it has every piece.
abbrev pub Shows : List ℕ → ℕ → List ℕ → Type 0
Shows I k l = (i : ℕ) → i < length l → get_or I (k + i) 0 ≡ get_or l i 0

abbrev pub ShowsAll : ℕ → List ℕ → List Piece → Type 0
ShowsAll B I [] = Unit {0}
ShowsAll B I (x ∷ xs) = Shows I (B * x.at) x.full × ShowsAll B I xs

-- F7: every byte of block b is zero.
abbrev pub Wiped : ℕ → List ℕ → ℕ → Type 0
Wiped B I b = (i : ℕ) → i < B → get_or I (B * b + i) 0 ≡ 0

-- ---- the place of a directory's own time, which D3 excepts

unfoldable pub offset : {X : Type 0} → Name → List (Entry X) → ℕ
offset n [] = 0
offset n (e ∷ es) = pick (called n e) 0 (weight e + offset n es)

-- the byte of the image where the entry of that name begins
unfoldable pub place_of : {X : Type 0} → ℕ → Name → List (Block X) → ℕ
place_of B n [] = 0
place_of B n (b ∷ bs) = pick (holds n b) (B * b.at + 4 + offset n b.entries) (place_of B n bs)

-- the byte where the time in the own entry of the directory at path p begins; the root has none
unfoldable pub own_time : ℕ → (d : ℕ) → List Name → Tree d → Option ℕ
own_time B d [] t = none
own_time B zero (n ∷ p) t = none
own_time B (suc d) (n ∷ []) t = some (place_of B n t + 9)
own_time B (suc d) (n ∷ m ∷ p) t = then (lookup n t) (λ e. inside (own_time B d (m ∷ p)) e.node)

-- byte j is one of the eight from there
unfoldable pub InTime : Option ℕ → ℕ → Type 0
InTime none j = ⊥
InTime (some q) j = (q ≤ j) × (j < q + 8)
