-- S13: what a card still tells of a file that is gone, for one who gives cards away. Definitions alone.
-- Not wiped, and so not promised: what stands behind a file's end in a block that the file keeps (C12), and blocks that were free
-- before the call, with whatever an older library or another program left there.
use Rattle.std.specs.Prelude.{◌≡◌, ◌⊎◌, List, ℕ, ◌+◌, ◌^◌, ◌≤◌, ◌<◌, length, drop, Result}
use Rattle.std.proofs.Math.Option.{some}
use Rattle.model.specs.Answers.{accepted}
use Rattle.model.specs.Tree.{Cell}
use Rattle.model.specs.Render.{blocks, count, Wiped}
use Rattle.model.specs.Geometry.{Mount, code_size}
use Rattle.model.specs.Volume.{WellFormed, max_depth, blocks_for}
use Rattle.model.specs.Calls.{file_at, places}
use Rattle.handle.specs.declared.Handle.{Handle}
use Rattle.handle.specs.declared.CountedOut.{CountedOut}
use Rattle.call_change.specs.Changing.{Deletes, Writes}
use Rattle.thm_calls.specs.Named.{way_of, last_of}
use Rattle.promises.specs.Counter.{device_at}
use Rattle.promises.specs.Work.{FileOf}
use Rattle.limits.specs.Says.{says}
use Rattle.limits.specs.declared.Refusal.{Refusal}

-- M is the mount, I the image at a call's entry and J after it, W the work buffer before and Z after.
pub record FreedIsWiped : Type 0 where
  -- After an accepted delete every block that the file or the device at the path had is zero from its first byte to its last;
  pub delete : (M : Mount) (I W cwd p : List ℕ) (now : ℕ) (r : Result (Unit {0}) Refusal) (J Z : List ℕ)
      → Deletes M I W cwd p now r J Z
      → says r ≡ accepted tt → now < 2 ^ 64 → (w : WellFormed M I) (z k : ℕ) (cs : List Cell)
      → (file_at max_depth (way_of cwd p) (last_of cwd p) w.tree ≡ some (z, k, cs))
      ⊎ (device_at max_depth (way_of cwd p) (last_of cwd p) w.tree ≡ some (z, k, cs))
      → (b : ℕ) → 1 ≤ count b (places cs) → Wiped (code_size M.code) J b
  -- and so is every other block that was reached before it and is not after: a directory's, and one that it emptied.
  pub delete_all : (M : Mount) (I W cwd p : List ℕ) (now : ℕ) (r : Result (Unit {0}) Refusal) (J Z : List ℕ)
      → Deletes M I W cwd p now r J Z
      → says r ≡ accepted tt → now < 2 ^ 64 → (w : WellFormed M I) (v : WellFormed M J)
      → (b : ℕ) → 1 ≤ count b (blocks (code_size M.code) max_depth w.tree)
      → count b (blocks (code_size M.code) max_depth v.tree) ≡ 0 → Wiped (code_size M.code) J b
  -- After an accepted write that makes the file shorter, every block of it behind those that the new size needs is zero.
  pub write : (M : Mount) (I W : List ℕ) (h : Handle) (buf : List ℕ) (now : ℕ) (o : CountedOut) (J Z : List ℕ)
      → Writes M I W h buf now o J Z → (k : ℕ) → says o.answer ≡ accepted k → now < 2 ^ 64
      → (w : WellFormed M I) (f : FileOf h w.tree) (b : ℕ)
      → 1 ≤ count b (drop (blocks_for (code_size M.code) (h.position + length buf)) (places f.cells))
      → Wiped (code_size M.code) J b
