-- The promises of the public calls, in order; D1 stands in Once. Definitions alone: proofs/Promises.antt has the proof of each.
-- In all of them M is the mount (the superblock's block and the size code), I the image at a call's entry and J after it, W the
-- work buffer before and Z after.
use Rattle.std.specs.Prelude.{◌≡◌, false, List, ℕ, ◌+◌, ◌^◌, ◌≤◌, ◌<◌, length, Result}
use Rattle.model.specs.Answers.{accepted, refused}
use Rattle.model.specs.Tree.{Name, blank}
use Rattle.model.specs.Render.{blocks_at}
use Rattle.model.specs.Geometry.{Mount, block_size, data_at, geo_at, set_bits, used_count}
use Rattle.model.specs.Volume.{WellFormed, max_depth}
use Rattle.model.specs.Calls.{Vacant}
use Rattle.model.specs.Steps.{Restored, Bytes}
use Rattle.check_bitmap.specs.Tally.{mark_long}
use Rattle.handle.specs.declared.Handle.{Handle}
use Rattle.handle.specs.declared.CountedOut.{CountedOut}
use Rattle.handle.specs.Handles.{stale_fields}
use Rattle.handle.specs.OnTree.{OnFile, Stale}
use Rattle.call_read.specs.declared.OpenOut.{OpenOut}
use Rattle.call_read.specs.Reading.{open_says}
use Rattle.call_volume.specs.Format.{Formats}
use Rattle.call_volume.specs.Checking.{Checks}
use Rattle.call_change.specs.Changing.{CreatesFile, CreatesDir, Deletes, Writes}
use Rattle.call_patch.specs.Patches.{Patches}
use Rattle.promises.specs.Sequence.{Leads, Calls, UsedBy}
use Rattle.promises.specs.Counter.{Untouched, Another, StaleAtEntry}
use Rattle.limits.specs.Says.{says}
use Rattle.limits.specs.declared.Refusal.{Refusal}

-- ---- D2: `RefusalIsExact` and `RoomIsExact` stand in Refusals, and what accepted calls have done (S5) in Work

-- S1: an accepted format makes a well-formed volume, its root empty; each accepted changing call leaves one; and every one
-- passes the check, given a work buffer that is long enough.
pub record StaysWell : Type 0 where
  pub format : (M : Mount) (I : List ℕ) (r : Result (Unit {0}) Refusal) (J : List ℕ) → Formats M I r J → says r ≡ accepted tt
      → (w : WellFormed M J) × (w.tree ≡ blank max_depth (data_at (geo_at M J)))
  pub create_file : (M : Mount) (I W : List ℕ) (now : ℕ) (J Z : List ℕ) → Bytes I → now < 2 ^ 64 → (cwd p : List ℕ) (o : OpenOut)
      → CreatesFile M I W cwd p now o J Z → (a : Handle) → open_says o ≡ accepted a → WellFormed M J
  pub create_dir : (M : Mount) (I W : List ℕ) (now : ℕ) (J Z : List ℕ) → Bytes I → now < 2 ^ 64
      → (cwd p : List ℕ) (r : Result (Unit {0}) Refusal)
      → CreatesDir M I W cwd p now r J Z → says r ≡ accepted tt → WellFormed M J
  pub delete : (M : Mount) (I W : List ℕ) (now : ℕ) (J Z : List ℕ) → Bytes I → now < 2 ^ 64
      → (cwd p : List ℕ) (r : Result (Unit {0}) Refusal)
      → Deletes M I W cwd p now r J Z → says r ≡ accepted tt → WellFormed M J
  pub write : (M : Mount) (I W : List ℕ) (now : ℕ) (J Z : List ℕ) → Bytes I → now < 2 ^ 64
      → (h : Handle) (buf : List ℕ) (o : CountedOut)
      → (k : ℕ) → Writes M I W h buf now o J Z → says o.answer ≡ accepted k → WellFormed M J
  pub patch : (M : Mount) (I W : List ℕ) (now : ℕ) (J Z : List ℕ) → Bytes I → now < 2 ^ 64
      → (h : Handle) (buf : List ℕ) (o : CountedOut)
      → (k : ℕ) → Patches M I W h buf now o J Z → says o.answer ≡ accepted k → WellFormed M J
  pub check : (M : Mount) (I W Z : List ℕ) (r : Result (Unit {0}) Refusal)
      → Checks M I W r Z → WellFormed M I → mark_long (geo_at M I) ≤ length W
      → says r ≡ accepted tt

-- S2: the used count is D and the number of set bits,
abbrev pub UsedTrue : Mount → List ℕ → Type 0
UsedTrue M J = used_count (geo_at M J) J ≡ data_at (geo_at M J) + set_bits J (geo_at M J)

-- after every accepted call.
pub record UsedIsTrue : Type 0 where
  pub format : (M : Mount) (I : List ℕ) (r : Result (Unit {0}) Refusal) (J : List ℕ)
      → Formats M I r J → says r ≡ accepted tt → UsedTrue M J
  pub create_file : (M : Mount) (I W : List ℕ) (now : ℕ) (J Z : List ℕ) → Bytes I → now < 2 ^ 64 → (cwd p : List ℕ) (o : OpenOut)
      → CreatesFile M I W cwd p now o J Z → (a : Handle) → open_says o ≡ accepted a → UsedTrue M J
  pub create_dir : (M : Mount) (I W : List ℕ) (now : ℕ) (J Z : List ℕ) → Bytes I → now < 2 ^ 64
      → (cwd p : List ℕ) (r : Result (Unit {0}) Refusal)
      → CreatesDir M I W cwd p now r J Z → says r ≡ accepted tt → UsedTrue M J
  pub delete : (M : Mount) (I W : List ℕ) (now : ℕ) (J Z : List ℕ) → Bytes I → now < 2 ^ 64
      → (cwd p : List ℕ) (r : Result (Unit {0}) Refusal)
      → Deletes M I W cwd p now r J Z → says r ≡ accepted tt → UsedTrue M J
  pub write : (M : Mount) (I W : List ℕ) (now : ℕ) (J Z : List ℕ) → Bytes I → now < 2 ^ 64
      → (h : Handle) (buf : List ℕ) (o : CountedOut)
      → (k : ℕ) → Writes M I W h buf now o J Z → says o.answer ≡ accepted k → UsedTrue M J
  pub patch : (M : Mount) (I W : List ℕ) (now : ℕ) (J Z : List ℕ) → Bytes I → now < 2 ^ 64
      → (h : Handle) (buf : List ℕ) (o : CountedOut)
      → (k : ℕ) → Patches M I W h buf now o J Z → says o.answer ≡ accepted k → UsedTrue M J

-- ---- D3

-- From a well-formed volume and a path that names nothing in a directory that is there: whatever calls are made at that path,
-- the image stays well formed, and if nothing is there at the end, what D3 names is restored, what the calls used and gave back
-- is zero, and every other block is as it was.
pub record PathIsRestored : Type 0 where
  pub well : (M : Mount) (p : List Name) (n : Name) (I J : List ℕ) (w : WellFormed M I) (v : Vacant max_depth p n w.tree)
      → Calls M (blocks_at v.dir.1) p n I J → WellFormed M J
  pub restored : (M : Mount) (p : List Name) (n : Name) (I J : List ℕ) (w : WellFormed M I) (v : Vacant max_depth p n w.tree)
      → (c : Calls M (blocks_at v.dir.1) p n I J) → Bytes I → (u : WellFormed M J) → Vacant max_depth p n u.tree
      → Restored (geo_at M I) max_depth p I w.tree (λ b. UsedBy b c) J

-- ---- what a call leaves alone

-- S3: an accepted write or patch through a handle changes no byte of another file or device; nor does an accepted create or
-- delete, at a path that is not the call's own.
pub record OthersKept : Type 0 where
  pub write : (M : Mount) (I W : List ℕ) (h : Handle) (buf : List ℕ) (now : ℕ) (o : CountedOut) (J Z : List ℕ)
      → Writes M I W h buf now o J Z
      → (k : ℕ) → says o.answer ≡ accepted k → now < 2 ^ 64 → (w : WellFormed M I) (v : WellFormed M J)
      → (q : List Name) (m : Name) → Another max_depth w.tree h q m
      → Untouched (block_size (geo_at M I)) max_depth w.tree v.tree I J q m
  pub patch : (M : Mount) (I W : List ℕ) (h : Handle) (buf : List ℕ) (now : ℕ) (o : CountedOut) (J Z : List ℕ)
      → Patches M I W h buf now o J Z
      → (k : ℕ) → says o.answer ≡ accepted k → now < 2 ^ 64 → (w : WellFormed M I) (v : WellFormed M J)
      → (q : List Name) (m : Name) → Another max_depth w.tree h q m
      → Untouched (block_size (geo_at M I)) max_depth w.tree v.tree I J q m
  pub create_file : (M : Mount) (I W cwd p : List ℕ) (now : ℕ) (o : OpenOut) (J Z : List ℕ) → CreatesFile M I W cwd p now o J Z
      → (a : Handle) → open_says o ≡ accepted a → now < 2 ^ 64
      → (w : WellFormed M I) (v : WellFormed M J) (q : List Name) (m : Name)
      → (Leads q m cwd p → ⊥) → Untouched (block_size (geo_at M I)) max_depth w.tree v.tree I J q m
  pub create_dir : (M : Mount) (I W cwd p : List ℕ) (now : ℕ) (r : Result (Unit {0}) Refusal) (J Z : List ℕ)
      → CreatesDir M I W cwd p now r J Z
      → says r ≡ accepted tt → now < 2 ^ 64 → (w : WellFormed M I) (v : WellFormed M J) (q : List Name) (m : Name)
      → (Leads q m cwd p → ⊥) → Untouched (block_size (geo_at M I)) max_depth w.tree v.tree I J q m
  pub delete : (M : Mount) (I W cwd p : List ℕ) (now : ℕ) (r : Result (Unit {0}) Refusal) (J Z : List ℕ)
      → Deletes M I W cwd p now r J Z
      → says r ≡ accepted tt → now < 2 ^ 64 → (w : WellFormed M I) (v : WellFormed M J) (q : List Name) (m : Name)
      → (Leads q m cwd p → ⊥) → Untouched (block_size (geo_at M I)) max_depth w.tree v.tree I J q m

-- S4
pub record CounterIsSafe : Type 0 where
  -- A write through a handle that is stale at the call's entry changes neither image nor handle;
  pub stale_kept : (M : Mount) (I W : List ℕ) (h : Handle) (buf : List ℕ) (now : ℕ) (o : CountedOut) (J Z : List ℕ)
      → Writes M I W h buf now o J Z → Bytes I → StaleAtEntry M I h → (J ≡ I) × (o.handle ≡ h)
  -- on a well-formed volume, with a work buffer that is long enough and bytes to write, it gets 11.
  pub stale_answer : (M : Mount) (I W : List ℕ) (h : Handle) (buf : List ℕ) (now : ℕ) (o : CountedOut) (J Z : List ℕ)
      → Writes M I W h buf now o J Z → Bytes I → mark_long (geo_at M I) ≤ length W → 1 ≤ length buf
      → (w : WellFormed M I) → Stale max_depth w.tree h → says o.answer ≡ refused 11
  -- A handle can become current again (H3): when its directory has a file entry with its name, address and size, it is not stale.
  pub current_again : (M : Mount) (I : List ℕ) (w : WellFormed M I) (h : Handle) → stale_fields h ≡ false
      → OnFile max_depth w.tree h
      → Stale max_depth w.tree h → ⊥
