-- 5. The changing calls, exactly: what each makes of the tree, and of the image around it. Definitions alone.
use Rattle.std.specs.Prelude.{◌≡◌, Bool, List, [], ◌∷◌, ◌++◌, ℕ, zero, suc, ◌+◌, ◌-◌, ◌*◌, ◌≤◌, ◌<◌, leb, eqb, length, get_or, take, drop}
use Rattle.std.proofs.Math.Option.{Option, none, some}
use Rattle.wire.specs.Be.{splice, zeros}
use Rattle.wire.specs.Pick.{pick}
use Rattle.block.specs.Block.{Kept}
use Rattle.model.specs.Tree.{Name, Cell, Node, file, device, sub, Entry, Block, Tree, any, then, or_else, entries_of, lookup, used, inside, Absent, insert, change, delete, Edit, edit, Some, find, blank, Bare}
use Rattle.model.specs.Render.{blocks_at, blocks, count, Wiped}
use Rattle.model.specs.Geometry.{Geo, block_size, map_at, data_at, reach}
use Rattle.model.specs.Volume.{GoodName, file_limit, blocks_for, Volume}

-- ---- what is at a path: a directory p and a last name n

-- It names nothing in an existing directory.
pub record Vacant (d : ℕ) (p : List Name) (n : Name) (t : Tree d) : Type 0 where
  pub dir : Some
  pub there : find d p t ≡ some dir
  pub free : Absent n dir.1

-- It names an entry.
pub record Occupied (d : ℕ) (p : List Name) (n : Name) (t : Tree d) : Type 0 where
  pub dir : Some
  pub there : find d p t ≡ some dir
  pub entry : Entry _
  pub held : lookup n dir.1 ≡ some entry

-- size, time and blocks of the file there
unfoldable pub file_of : {X : Type 0} → ℕ → Node X → Option (ℕ × ℕ × List Cell)
file_of k (file s cs) = some (s, k, cs)
file_of k (device s cs) = none
file_of k (sub x) = none

unfoldable pub file_at : (d : ℕ) → List Name → Name → Tree d → Option (ℕ × ℕ × List Cell)
file_at d [] n t = then (lookup n t) (λ e. file_of e.time e.node)
file_at zero (a ∷ p) n t = none
file_at (suc d) (a ∷ p) n t = then (lookup a t) (λ e. inside (file_at d p n) e.node)

-- A directory's first address, as a handle holds it, and a path that leads there.
pub record DirAt (d : ℕ) (a : ℕ) (p : List Name) (t : Tree d) : Type 0 where
  pub dir : Some
  pub there : find d p t ≡ some dir
  pub starts : blocks_at dir.1 ≡ a

-- The path to the directory that starts at a, if a is one reached from the root: a directory is tried before those in it,
-- in walking order.
unfoldable pub among : {X : Type 0} → (X → Option (List Name)) → List (Entry X) → Option (List Name)
among o [] = none
among o (e ∷ es) = or_else (then (inside o e.node) (λ p. some (e.name ∷ p))) (among o es)

unfoldable pub path_to : (d : ℕ) → ℕ → Tree d → Option (List Name)
path_to zero a t = pick (eqb a (blocks_at t)) (some []) none
path_to (suc d) a t = pick (eqb a (blocks_at t)) (some []) (among (path_to d a) (entries_of t))

-- ---- room

-- F6: of the k addresses from a on, those whose mark f is 0, the lowest first, since that one is taken first.
unfoldable pub clear_from : (ℕ → ℕ) → ℕ → ℕ → List ℕ
clear_from f a zero = []
clear_from f a (suc k) = pick (eqb (f a) 0) (a ∷ clear_from f (suc a) k) (clear_from f (suc a) k)

-- The free blocks in reach, in the order in which they are given out.
unfoldable pub free_blocks : Geo → (d : ℕ) → Tree d → List ℕ
free_blocks g d t = clear_from (λ b. count b (blocks (block_size g) d t)) (data_at g) (reach g)

-- ---- create

-- F10: where a block's entries end at the latest: 507 of 508 data bytes
abbrev pub entry_room : Geo → ℕ
entry_room g = block_size g - 5

-- C9: behind the entries of the block, one of that name ends at cap or before.
unfoldable pub has_room : {X : Type 0} → ℕ → Name → Block X → Bool
has_room cap n b = leb (used b.entries + (18 + length n)) cap

-- C9: how many blocks a create takes: one for the entry, and one before it for the directory where none of its blocks has room.
unfoldable pub to_create : {X : Type 0} → ℕ → Name → List (Block X) → ℕ
to_create cap n bs = pick (any (has_room cap n) bs) 1 2

-- The entry's own block is the last of these, and a new directory block the first.
abbrev pub entry_block : {X : Type 0} → Geo → Name → List (Block X) → List ℕ → ℕ
entry_block g n bs free = get_or free (to_create (entry_room g) n bs - 1) 0

abbrev pub dir_block : List ℕ → ℕ
dir_block free = get_or free 0 0

-- a file's entry
unfoldable pub file_entry : {X : Type 0} → Name → ℕ → ℕ → List Cell → Entry X
file_entry n now s cs = record { name = n; time = now; node = file s cs }

-- The tree with a new file of s bytes in blocks cs at the path; w is the new directory block, if one is needed.
unfoldable pub created : (d : ℕ) → ℕ → List Name → Name → ℕ → ℕ → ℕ → List Cell → Tree d → Tree d
created d cap p n now w s cs t = edit d p (λ _. now) (λ e bs. insert cap w (file_entry n now s cs) bs) t

-- The same with a new directory in block x. (At the last level there is none: refusal 15.)
unfoldable pub dir_added : ℕ → ℕ → ℕ → Name → ℕ → Edit
dir_added cap w x n now zero bs = bs
dir_added cap w x n now (suc e) bs = insert cap w (record { name = n; time = now; node = sub (blank e x) }) bs

unfoldable pub created_dir : (d : ℕ) → ℕ → List Name → Name → ℕ → ℕ → ℕ → Tree d → Tree d
created_dir d cap p n now w x t = edit d p (λ _. now) (dir_added cap w x n now) t

-- F6: a new file's block, all zero as every block that was just taken
abbrev pub empty_cell : Geo → ℕ → Cell
empty_cell g x = record { at = x; body = zeros (block_size g - 4) }

-- ---- delete

unfoldable pub deleted : (d : ℕ) → List Name → Name → ℕ → Tree d → Tree d
deleted d p n now t = edit d p (λ _. now) (λ e bs. delete n bs) t

-- ---- write

-- F12: all data bytes of a chain, in order; a file's bytes are the first `size` of them.
unfoldable pub stream : List Cell → List ℕ
stream [] = []
stream (c ∷ cs) = c.body ++ stream cs

unfoldable pub contents : ℕ → List Cell → List ℕ
contents s cs = take s (stream cs)

-- the addresses of a chain
unfoldable pub places : List Cell → List ℕ
places [] = []
places (c ∷ cs) = c.at ∷ places cs

-- the bytes l laid into blocks of w data bytes at these addresses
unfoldable pub chop : ℕ → List ℕ → List ℕ → List Cell
chop w [] l = []
chop w (a ∷ xs) l = record { at = a; body = take w l } ∷ chop w xs (drop w l)

-- C12: the chain after a write of buf at c: as many blocks as the new size needs, the old ones first, then free ones. The bytes
-- of buf lie over the old ones from c on, so that in a kept block what stands behind the file's end stays.
unfoldable pub rewrite : ℕ → List ℕ → ℕ → List ℕ → List Cell → List Cell
rewrite B free c buf cs =
    chop (B - 4) (take (blocks_for B (c + length buf)) (places cs ++ free))
    (splice (stream cs ++ zeros ((B - 4) * (blocks_for B (c + length buf) - length cs))) c buf)

-- the entry with another size, time and blocks, if it is a file's
unfoldable pub refiled : {X : Type 0} → ℕ → ℕ → List Cell → Name → ℕ → Node X → Entry X
refiled now s cs n k (file z ds) = record { name = n; time = now; node = file s cs }
refiled now s cs n k (device z ds) = record { name = n; time = k; node = device z ds }
refiled now s cs n k (sub x) = record { name = n; time = k; node = sub x }

-- C12: the tree with the file there renewed: blocks, size and time. The directory's own time stays, as its sum does.
unfoldable pub rewritten : (d : ℕ) → List Name → Name → ℕ → ℕ → List Cell → Tree d → Tree d
rewritten d p n now s cs t = edit d p (λ k. k) (λ e bs. change n (λ x. refiled now s cs x.name x.time x.node) bs) t

-- ---- patch

-- C19: the chain after a patch of buf at c: the same blocks, and the buffer over their bytes from c on.
unfoldable pub overlaid : ℕ → ℕ → List ℕ → List Cell → List Cell
overlaid B c buf cs = chop (B - 4) (places cs) (splice (stream cs) c buf)

-- ---- the image around the tree

-- Block b is neither superblock nor bitmap nor reached.
pub record Outside (g : Geo) (d : ℕ) (t : Tree d) (b : ℕ) : Type 0 where
  pub not_super : b ≡ g.K → ⊥
  pub not_map : map_at g ≤ b → b < data_at g → ⊥
  pub not_reached : count b (blocks (block_size g) d t) ≡ 0

-- C14: what a changing call makes of the image, where the tree t becomes u: the volume of u; zeros in every block that was
-- reached and no longer is (F7); all other bytes kept, so block K+1, blocks below K and from n on, and blocks that were free
-- and still are.
pub record Makes (g : Geo) (d : ℕ) (t u : Tree d) (I J : List ℕ) : Type 0 where
  pub volume : Volume g J d u
  pub wiped : (b : ℕ) → 1 ≤ count b (blocks (block_size g) d t) → count b (blocks (block_size g) d u) ≡ 0
      → Wiped (block_size g) J b
  pub frame : Kept (block_size g) (λ b o. Outside g d u b × (count b (blocks (block_size g) d t) ≡ 0)) I J

-- ---- the accepted calls, each with what it asks of the tree (the other side of its refusals)

-- C9, S6: create a file: not 8, 5/6, 7, 9.
pub record TreeCreatesFile (g : Geo) (d : ℕ) (p : List Name) (n : Name) (now : ℕ) (t : Tree d) (I J : List ℕ) : Type 0 where
  pub vacant : Vacant d p n t
  pub name : GoodName n
  pub room : to_create (entry_room g) n vacant.dir.1 ≤ length (free_blocks g d t)
  pub makes : Makes g d t (created d (entry_room g) p n now (dir_block (free_blocks g d t)) 0
      (empty_cell g (entry_block g n vacant.dir.1 (free_blocks g d t)) ∷ [])
      t) I J

-- C10, S6: create a directory: not 8, 5/6, 15, 7, 9.
pub record TreeCreatesDir (g : Geo) (d : ℕ) (p : List Name) (n : Name) (now : ℕ) (t : Tree d) (I J : List ℕ) : Type 0 where
  pub vacant : Vacant d p n t
  pub name : GoodName n
  pub shallow : 1 ≤ vacant.dir.0
  pub room : to_create (entry_room g) n vacant.dir.1 ≤ length (free_blocks g d t)
  pub makes : Makes g d t (created_dir d (entry_room g) p n now (dir_block (free_blocks g d t))
      (entry_block g n vacant.dir.1 (free_blocks g d t)) t) I J

-- C11, S6: delete: not 5/6, 14.
pub record TreeDeletes (g : Geo) (d : ℕ) (p : List Name) (n : Name) (now : ℕ) (t : Tree d) (I J : List ℕ) : Type 0 where
  pub occupied : Occupied d p n t
  pub bare : Bare occupied.dir.0 occupied.entry.node
  pub makes : Makes g d t (deleted d p n now t) I J

-- C12, S6: write: not 13, 11 (the file is there, and the position in it), 10, 9.
pub record TreeWrites (g : Geo) (d : ℕ) (p : List Name) (n : Name) (now c : ℕ) (buf : List ℕ) (t : Tree d)
    (I J : List ℕ) : Type 0 where
  pub size : ℕ
  pub time : ℕ
  pub cells : List Cell
  pub occupied : Occupied d p n t
  pub is_file : occupied.entry ≡ file_entry n time size cells
  pub some_bytes : 1 ≤ length buf
  pub position : c ≤ size
  pub limit : c + length buf ≤ file_limit
  pub room : blocks_for (block_size g) (c + length buf) - length cells ≤ length (free_blocks g d t)
  pub makes : Makes g d t (rewritten d p n now (c + length buf) (rewrite (block_size g) (free_blocks g d t) c buf cells) t) I J

-- C19, S6: patch: not 13, 11 (the file is there), 19 (the buffer ends in it). It keeps its size, and so its chain.
pub record TreePatches (g : Geo) (d : ℕ) (p : List Name) (n : Name) (now c : ℕ) (buf : List ℕ) (t : Tree d)
    (I J : List ℕ) : Type 0 where
  pub size : ℕ
  pub time : ℕ
  pub cells : List Cell
  pub occupied : Occupied d p n t
  pub is_file : occupied.entry ≡ file_entry n time size cells
  pub some_bytes : 1 ≤ length buf
  pub inside : c + length buf ≤ size
  pub makes : Makes g d t (rewritten d p n now size (overlaid (block_size g) c buf cells) t) I J
