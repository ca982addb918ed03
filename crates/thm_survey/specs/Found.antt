-- What a survey that finds a tree tells. Definitions alone.
use Rattle.std.specs.Prelude.{◌≡◌, List, ℕ, ◌+◌, ◌≤◌, ◌<◌}
use Rattle.block.specs.Block.{Area}
use Rattle.model.specs.Tree.{Tree}
use Rattle.model.specs.Render.{blocks_at, render, blocks, count, ShowsAll}
use Rattle.model.specs.Volume.{GoodTree}
use Rattle.thm_survey.specs.Survey.{Claimed}

-- From address a on, with the blocks `seen` claimed before, the tree and the claimed blocks c were found.
pub record Finds (A : Area) (I : List ℕ) (d a : ℕ) (seen : List ℕ) (c : Claimed (Tree d)) : Type 0 where
  -- W3, W4: names, sizes, chains' lengths; each directory's later blocks have entries, and its names are distinct
  pub good : GoodTree A.size d c.found
  -- every block of it stands in the image, with all its bytes
  pub shown : ShowsAll A.size I (render A.size d c.found)
  -- its first block is a
  pub root : blocks_at c.found ≡ a
  -- exactly its blocks were claimed
  pub claimed : (i : ℕ) → count i c.seen ≡ count i seen + count i (blocks A.size d c.found)
  -- W2: every claimed block lies in the data area
  pub range : (i : ℕ) → 1 ≤ count i (blocks A.size d c.found) → (A.first ≤ i) × (i < A.end)
  -- W2: no block was claimed twice
  pub once : (i : ℕ) → count i seen ≤ 1 → count i c.seen ≤ 1
