-- S12: two writes to two different files, in the one order and in the other. Definitions alone.
-- M is the mount. Of addresses nothing is said: the blocks that a write adds may be others.
use Rattle.std.specs.Prelude.{◌≡◌, List, ℕ, ◌^◌, ◌<◌}
use Rattle.std.proofs.Math.Option.{some}
use Rattle.model.specs.Answers.{accepted}
use Rattle.model.specs.Tree.{Name, Cell, Tree}
use Rattle.model.specs.Geometry.{Mount, geo_at, used_count}
use Rattle.model.specs.Volume.{WellFormed, max_depth}
use Rattle.model.specs.Calls.{file_at, contents}
use Rattle.handle.specs.declared.Handle.{Handle}
use Rattle.handle.specs.declared.CountedOut.{CountedOut}
use Rattle.handle.specs.Handles.{name_of}
use Rattle.call_change.specs.Changing.{Writes}
use Rattle.promises.specs.Work.{FileOf}
use Rattle.limits.specs.Says.{says}

-- One order: from the image I to J, the bytes x through the handle h at the time s, then y through k at t, with any work
-- buffers. Both are accepted.
pub record InTurn (M : Mount) (I : List ℕ) (h : Handle) (x : List ℕ) (s : ℕ) (k : Handle) (y : List ℕ) (t : ℕ) (J : List ℕ)
    : Type 0 where
  pub middle : List ℕ
  pub before₁ : List ℕ
  pub after₁ : List ℕ
  pub before₂ : List ℕ
  pub after₂ : List ℕ
  pub first : CountedOut
  pub second : CountedOut
  pub writes_first : Writes M I before₁ h x s first middle after₁
  pub writes_second : Writes M middle before₂ k y t second J after₂
  pub count₁ : ℕ
  pub count₂ : ℕ
  pub accepts_first : says first.answer ≡ accepted count₁
  pub accepts_second : says second.answer ≡ accepted count₂

-- The file at p, n has one size, one time and the same bytes in both trees.
pub record SameFile (p : List Name) (n : Name) (t u : Tree max_depth) : Type 0 where
  pub size : ℕ
  pub time : ℕ
  pub cells : List Cell
  pub others : List Cell
  pub in_one : file_at max_depth p n t ≡ some (size, time, cells)
  pub in_other : file_at max_depth p n u ≡ some (size, time, others)
  pub same_bytes : contents size others ≡ contents size cells

-- What the images J and L have in common: both are well-formed volumes, with those two files and one used count.
pub record Agree (M : Mount) (J L : List ℕ) (p : List Name) (n : Name) (q : List Name) (m : Name) : Type 0 where
  pub one : WellFormed M J
  pub other : WellFormed M L
  pub file₁ : SameFile p n one.tree other.tree
  pub file₂ : SameFile q m one.tree other.tree
  pub used : used_count (geo_at M L) L ≡ used_count (geo_at M J) J

-- The handles name two files that are there, in two directories or by two names. If both orders are accepted, they leave the same
-- of these, and each write answers the same count and handle in both.
pub record EitherOrder : Type 0 where
  pub agree : (M : Mount) (I : List ℕ) (w : WellFormed M I) (h k : Handle) (f : FileOf h w.tree) (g : FileOf k w.tree)
      → (f.path ≡ g.path → name_of h ≡ name_of k → ⊥)
      → (x y : List ℕ) (s t : ℕ) → s < 2 ^ 64 → t < 2 ^ 64 → (J L : List ℕ)
      → (a : InTurn M I h x s k y t J) (b : InTurn M I k y t h x s L)
      → Agree M J L f.path (name_of h) g.path (name_of k) × (b.second ≡ a.first) × (b.first ≡ a.second)
