-- S14, S15: what a patch leaves alone, and a patch of whose blocks not all have arrived. Definitions alone.
-- M is the mount, I the image at the call's entry and J after it, W the work buffer before and Z after. A time has 8 bytes.
use Rattle.std.specs.Prelude.{◌≡◌, ◌⊎◌, List, ℕ, ◌+◌, ◌*◌, ◌^◌, ◌≤◌, ◌<◌, length}
use Rattle.std.proofs.Math.Option.{some}
use Rattle.block.specs.Block.{Kept}
use Rattle.model.specs.Answers.{accepted}
use Rattle.model.specs.Geometry.{Mount, block_size, geo_at, used_count}
use Rattle.model.specs.Tree.{Name, Cell}
use Rattle.model.specs.Render.{count, place_of}
use Rattle.model.specs.Volume.{WellFormed, max_depth}
use Rattle.model.specs.Calls.{file_at, places, overlaid}
use Rattle.handle.specs.declared.Handle.{Handle}
use Rattle.handle.specs.declared.CountedOut.{CountedOut}
use Rattle.handle.specs.Handles.{name_of}
use Rattle.handle.specs.OnTree.{OnFile}
use Rattle.patch_store.specs.Torn.{Arrived, Mixture}
use Rattle.call_patch.specs.Patches.{Patches}
use Rattle.promises.specs.Counter.{Untouched, Another}
use Rattle.promises.specs.Work.{FileOf}
use Rattle.limits.specs.Says.{says}

-- S15: of the file that a handle is on, the byte where its entry begins
abbrev pub entry_byte : (M : Mount) (I : List ℕ) (w : WellFormed M I) (h : Handle) → FileOf h w.tree → ℕ
entry_byte M I w h f = place_of (block_size (geo_at M I)) (name_of h) f.there.dir.1

-- What an accepted patch leaves alone:
pub record PatchStays : Type 0 where
  -- each handle that is on a file stays on it, those on the patched file too;
  pub handles : (M : Mount) (I W : List ℕ) (h : Handle) (buf : List ℕ) (now : ℕ) (o : CountedOut) (J Z : List ℕ)
      → Patches M I W h buf now o J Z → (k : ℕ) → says o.answer ≡ accepted k → now < 2 ^ 64
      → (w : WellFormed M I) (v : WellFormed M J) (j : Handle) → OnFile max_depth w.tree j → OnFile max_depth v.tree j
  -- no byte changes but data bytes of the file's blocks (their links are their first four bytes) and the eight of the time in its
  -- entry: so no chain, no bit of the bitmap and no byte of the superblock.
  pub bytes : (M : Mount) (I W : List ℕ) (h : Handle) (buf : List ℕ) (now : ℕ) (o : CountedOut) (J Z : List ℕ)
      → Patches M I W h buf now o J Z → (k : ℕ) → says o.answer ≡ accepted k
      → (w : WellFormed M I)
      → (f : FileOf h w.tree) × Kept (block_size (geo_at M I)) (λ b i. ((count b (places f.cells) ≡ 0) ⊎ (i < 4))
      × (entry_byte M I w h f + 9 ≤ block_size (geo_at M I) * b + i
      → block_size (geo_at M I) * b + i < entry_byte M I w h f + 17 → ⊥)) I J

-- S14: what L is, whose blocks are those of I or of J, whichever:
pub record Torn (M : Mount) (I W : List ℕ) (h : Handle) (buf : List ℕ) (now : ℕ) (o : CountedOut) (J Z : List ℕ)
    (w : WellFormed M I) (L : List ℕ)
    : Type 0 where
  -- a well-formed volume,
  pub well : WellFormed M L
  -- with the same used count,
  pub used : used_count (geo_at M L) L ≡ used_count (geo_at M I) I
  -- every other file and device untouched;
  pub others : (q : List Name) (m : Name) → Another max_depth w.tree h q m
      → Untouched (block_size (geo_at M I)) max_depth w.tree well.tree I L q m
  -- the file has its size and its blocks, each where it was, and the old time or the new one;
  pub file : FileOf h w.tree
  pub time : ℕ
  pub old_or_new : (time ≡ file.time) ⊎ (time ≡ now)
  pub cells : List Cell
  pub is : file_at max_depth file.path (name_of h) well.tree ≡ some (file.size, time, cells)
  pub same_blocks : places cells ≡ places file.cells
  -- each block has its old bytes where it did not arrive, and else the new ones.
  pub mixture : Mixture (block_size (geo_at M I)) I J L file.cells
      (overlaid (block_size (geo_at M I)) h.position buf file.cells) cells
  -- It is what a patch of as many bytes leaves.
  pub mixed : List ℕ
  pub long : length mixed ≡ length buf
  pub as_patch : Patches M I W h mixed time o L Z

-- So it is of every accepted patch.
abbrev pub TornPatch : Type 0
TornPatch =
    (M : Mount) (I W : List ℕ) (h : Handle) (buf : List ℕ) (now : ℕ) (o : CountedOut) (J Z : List ℕ)
    → Patches M I W h buf now o J Z → (k : ℕ) → says o.answer ≡ accepted k → now < 2 ^ 64
    → (w : WellFormed M I) (L : List ℕ) → Arrived (block_size (geo_at M I)) I J L → Torn M I W h buf now o J Z w L
