-- The check of W2 to W4 as a function on the bytes of any image: the tree that stands at an address, or nothing.
-- Definitions alone.
-- A is the data area: the size of its blocks, its first address and the volume's end.
use Rattle.std.specs.Prelude.{Bool, true, false, not, ◌&&◌, List, [], ◌∷◌, ◌++◌, ℕ, zero, suc, ◌+◌, ◌-◌, ◌*◌, leb, eqb, take, drop, Some, None}
use Rattle.std.specs.Prelude as prelude
use Rattle.std.proofs.Math.Option.{Option, none, some}
use Rattle.wire.specs.Pick.{pick, zero_from}
use Rattle.block.specs.Block.{Area, next}
use Rattle.model.specs.Tree.{Name, Cell, Node, file, device, sub, Entry, Block, Below, Tree, then, sum}
use Rattle.model.specs.Render.{count}
use Rattle.model.specs.Volume.{file_limit, blocks_for}
use Rattle.dir_entry.specs.declared.Kind.{Kind}
use Rattle.dir_entry.specs.declared.Kind.TheVariants as kind
use Rattle.dir_entry.specs.declared.DirEntry.{DirEntry}
use Rattle.dir_entry.specs.Entry.{header, place_at, name_at, slot_at}
use Rattle.read_dir.specs.Walk.{in_area}
use Rattle.text.specs.Text.{is_name}
use Rattle.check_names.specs.Names.{distinct}

-- ---- an entry as its bytes show it: its fixed part and its name; a directory's block of such entries

pub record Raw : Type 0 where
  pub head : DirEntry
  pub name : Name

pub record RawBlock : Type 0 where
  pub at : ℕ
  pub raws : List Raw

unfoldable pub names_of : List Raw → List Name
names_of [] = []
names_of (r ∷ rs) = r.name ∷ names_of rs

unfoldable pub all_names : List RawBlock → List Name
all_names [] = []
all_names (b ∷ bs) = names_of b.raws ++ all_names bs

unfoldable pub has_some : List Raw → Bool
has_some [] = false
has_some (r ∷ rs) = true

-- what was found, and the blocks that are claimed now
pub record Claimed (X : Type 0) : Type 0 where
  pub found : X
  pub seen : List ℕ

-- what is done with what was found
unfoldable pub with_found : {X Y : Type 0} → (X → Y) → Option (Claimed X) → Option (Claimed Y)
with_found f o = then o (λ c. some (record { found = f c.found; seen = c.seen }))

-- what a check claims, without what it finds
unfoldable pub seen_of : {X : Type 0} → Option (Claimed X) → Option (List ℕ)
seen_of o = then o (λ c. some c.seen)

-- what follows where there is an entry, and where the entries stop
unfoldable pub by_slot : {X : Type 0} → prelude.Option DirEntry → (DirEntry → X) → X → X
by_slot (Some e) f x = f e
by_slot None f x = x

-- W3: the address is not 0 (that it lies in the area says the claim of its block), and the name's bytes are good
unfoldable pub passes : DirEntry → Name → Bool
passes e x = not (eqb e.addr.0 0) && is_name x

-- W3: the entries of block a from offset o on, and zeros behind the last one.
unfoldable pub raws_from : ℕ → List ℕ → ℕ → ℕ → ℕ → Option (List Raw)
raws_from B I zero a o = none
raws_from B I (suc f) a o =
    by_slot (slot_at B I a o)
    (λ e. pick (passes e (name_at I (place_at B a o) e.len))
    (then (raws_from B I f a (o + header + e.len))
    (λ rs. some (record { head = e; name = name_at I (place_at B a o) e.len } ∷ rs))) none)
    (pick (zero_from I (place_at B a o) (B - 4 - o)) (some []) none)

module _ (A : Area) (I : List ℕ) where
  -- W2: block a is claimed, if it is in the area and not claimed yet.
  unfoldable pub claim : ℕ → List ℕ → Option (List ℕ)
  claim a seen = pick (in_area A I a && eqb (count a seen) 0) (some (a ∷ seen)) none

  -- a block's data bytes
  abbrev pub body_at : ℕ → List ℕ
  body_at a = take (A.size - 4) (drop (A.size * a + 4) I)

  -- W4: of a file: a chain of exactly k blocks from a on, which then ends.
  unfoldable pub cells_of : ℕ → ℕ → List ℕ → Option (Claimed (List Cell))
  cells_of zero a seen = pick (eqb a 0) (some (record { found = []; seen = seen })) none
  cells_of (suc k) a seen =
      then (claim a seen) (λ s. with_found (λ cs. record { at = a; body = body_at a } ∷ cs) (cells_of k (next A.size I a) s))

  -- W4: of a device: a chain of at least one block, and at most k.
  unfoldable pub chain_of : ℕ → ℕ → List ℕ → Option (Claimed (List Cell))
  chain_of zero a seen = none
  chain_of (suc k) a seen =
      then (claim a seen) (λ s. with_found (λ cs. record { at = a; body = body_at a } ∷ cs)
      (pick (eqb (next A.size I a) 0) (some (record { found = []; seen = s })) (chain_of k (next A.size I a) s)))

  -- W4: the blocks of a directory's chain, at most k, from a later one on, where each must have an entry; and
  -- from the first on, at most n-D.
  unfoldable pub later_of : ℕ → ℕ → List ℕ → Option (Claimed (List RawBlock))
  later_of zero a seen = pick (eqb a 0) (some (record { found = []; seen = seen })) none
  later_of (suc k) a seen =
      pick (eqb a 0) (some (record { found = []; seen = seen }))
      (then (claim a seen)
      (λ s. then (raws_from A.size I A.size a 0)
      (λ rs. pick (has_some rs) (with_found (λ bs. record { at = a; raws = rs } ∷ bs)
      (later_of k (next A.size I a) s)) none)))

  unfoldable pub blocks_of : ℕ → List ℕ → Option (Claimed (List RawBlock))
  blocks_of a seen =
      then (claim a seen)
      (λ s. then (raws_from A.size I A.size a 0)
      (λ rs. with_found (λ bs. record { at = a; raws = rs } ∷ bs) (later_of (A.end - A.first - 1) (next A.size I a) s)))

  -- ---- what the entries stand for; `below` is the check of a subdirectory, and `size` its sum

  module _ {X : Type 0} (below : ℕ → List ℕ → Option (Claimed X)) (size : X → ℕ) where
    -- W4: the size in a directory's entry is its sum
    unfoldable pub sub_of : DirEntry → List ℕ → Option (Claimed (Node X))
    sub_of e seen = then (below e.addr.0 seen)
        (λ c. pick (eqb e.size (size c.found)) (some (record { found = sub c.found; seen = c.seen })) none)

    unfoldable pub node_of : Kind → DirEntry → List ℕ → Option (Claimed (Node X))
    node_of kind.Dir e seen = sub_of e seen
    node_of kind.File e seen = pick (leb e.size file_limit)
        (with_found (file e.size) (cells_of (blocks_for A.size e.size) e.addr.0 seen)) none
    node_of kind.Device e seen = with_found (device e.size) (chain_of (A.end - A.first) e.addr.0 seen)

    unfoldable pub entries_of : List Raw → List ℕ → Option (Claimed (List (Entry X)))
    entries_of [] seen = some (record { found = []; seen = seen })
    entries_of (r ∷ rs) seen =
        then (node_of r.head.kind r.head seen)
        (λ c. with_found (λ es. record { name = r.name; time = r.head.time; node = c.found } ∷ es)
        (entries_of rs c.seen))

    unfoldable pub dir_of : List RawBlock → List ℕ → Option (Claimed (List (Block X)))
    dir_of [] seen = some (record { found = []; seen = seen })
    dir_of (b ∷ bs) seen = then (entries_of b.raws seen)
        (λ c. with_found (λ cs. record { at = b.at; entries = c.found } ∷ cs) (dir_of bs c.seen))

    -- A directory: its blocks, its names, then its entries.
    unfoldable pub check_dir : ℕ → List ℕ → Option (Claimed (List (Block X)))
    check_dir a seen = then (blocks_of a seen) (λ c. pick (distinct (all_names c.found)) (dir_of c.found c.seen) none)

  -- C3, W4: subdirectories in their turn, the levels falling: a directory with d levels below it. At the last level no
  -- directory may stand.
  unfoldable pub survey : (d : ℕ) → ℕ → List ℕ → Option (Claimed (Tree d))
  survey zero a seen = check_dir {X = Below zero} (λ _ _. none) (λ x. absurd x) a seen
  survey (suc d) a seen = check_dir {X = Below (suc d)} (survey d) sum a seen
