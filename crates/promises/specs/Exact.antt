-- What an accepted changing call does, on the tree, and what the check part of every changing call decides. Definitions alone.
-- M is the mount, I the image at a call's entry and J after it, W the work buffer before and Z after.
use Rattle.std.specs.Prelude.{◌≡◌, ◌↔◌, List, ℕ, ◌^◌, ◌≤◌, ◌<◌, Result}
use Rattle.model.specs.Answers.{accepted}
use Rattle.model.specs.Tree.{Name}
use Rattle.model.specs.Geometry.{Mount, geo_at}
use Rattle.model.specs.Volume.{WellFormed, max_depth}
use Rattle.model.specs.Calls.{DirAt, TreeCreatesFile, TreeCreatesDir, TreeDeletes, TreeWrites, TreePatches}
use Rattle.model.specs.Steps.{Bytes}
use Rattle.handle.specs.declared.Handle.{Handle}
use Rattle.handle.specs.declared.CountedOut.{CountedOut}
use Rattle.handle.specs.Handles.{name_of}
use Rattle.call_read.specs.declared.OpenOut.{OpenOut}
use Rattle.call_read.specs.Reading.{open_says}
use Rattle.call_volume.specs.Checking.{check_call, check_refusal}
use Rattle.call_change.specs.Changing.{CreatesFile, CreatesDir, Deletes, Writes}
use Rattle.call_patch.specs.Patches.{Patches}
use Rattle.thm_calls.specs.Named.{way_of, last_of}
use Rattle.limits.specs.Says.{says}
use Rattle.limits.specs.declared.Refusal.{Refusal}

-- S6: a changing call that is accepted found a well-formed volume, and what it made of the image is the model's call on that
-- volume's tree: the tree edited so, laid out in the image, and every byte around it as it was (C14). A time has 8 bytes.
pub record CallsAreExact : Type 0 where
  -- C9
  pub create_file : (M : Mount) (I W cwd p : List ℕ) (now : ℕ) (o : OpenOut) (J Z : List ℕ) → CreatesFile M I W cwd p now o J Z
      → Bytes I → now < 2 ^ 64 → (h : Handle) → open_says o ≡ accepted h
      → (w : WellFormed M I) × TreeCreatesFile (geo_at M I) max_depth (way_of cwd p) (last_of cwd p) now w.tree I J
  -- C10
  pub create_dir : (M : Mount) (I W cwd p : List ℕ) (now : ℕ) (r : Result (Unit {0}) Refusal) (J Z : List ℕ)
      → CreatesDir M I W cwd p now r J Z
      → Bytes I → now < 2 ^ 64 → says r ≡ accepted tt
      → (w : WellFormed M I) × TreeCreatesDir (geo_at M I) max_depth (way_of cwd p) (last_of cwd p) now w.tree I J
  -- C11
  pub delete : (M : Mount) (I W cwd p : List ℕ) (now : ℕ) (r : Result (Unit {0}) Refusal) (J Z : List ℕ)
      → Deletes M I W cwd p now r J Z
      → Bytes I → now < 2 ^ 64 → says r ≡ accepted tt
      → (w : WellFormed M I) × TreeDeletes (geo_at M I) max_depth (way_of cwd p) (last_of cwd p) now w.tree I J
  -- C12, H4: the handle's directory is the one that the path q leads to, and the file in it is the one that the handle names.
  pub write : (M : Mount) (I W : List ℕ) (h : Handle) (buf : List ℕ) (now : ℕ) (o : CountedOut) (J Z : List ℕ)
      → Writes M I W h buf now o J Z
      → Bytes I → now < 2 ^ 64 → (k : ℕ) → says o.answer ≡ accepted k
      → (w : WellFormed M I) × (q : List Name) × DirAt max_depth h.dir.0 q w.tree
      × TreeWrites (geo_at M I) max_depth q (name_of h) now h.position buf w.tree I J
  -- C19: the same of a patch.
  pub patch : (M : Mount) (I W : List ℕ) (h : Handle) (buf : List ℕ) (now : ℕ) (o : CountedOut) (J Z : List ℕ)
      → Patches M I W h buf now o J Z
      → Bytes I → now < 2 ^ 64 → (k : ℕ) → says o.answer ≡ accepted k
      → (w : WellFormed M I) × (q : List Name) × DirAt max_depth h.dir.0 q w.tree
      × TreePatches (geo_at M I) max_depth q (name_of h) now h.position buf w.tree I J

-- S7: what the check part of a changing call (`check_refusal`, with a work buffer of len bytes) gives for a list of bytes I.
-- `check_call` is 1, 2, 3 or 16, or 0 where none of them is given.
pub record CheckIsExact : Type 0 where
  -- It gives one of those where there is one,
  pub earlier : (M : Mount) (I : List ℕ) (len : ℕ) → 1 ≤ check_call M I len → check_refusal M I len ≡ check_call M I len
  -- else nothing exactly for a well-formed volume,
  pub passes : (M : Mount) (I : List ℕ) (len : ℕ) → Bytes I
      → (check_refusal M I len ≡ 0) ↔ ((check_call M I len ≡ 0) × WellFormed M I)
  -- and R17 exactly for what is none.
  pub damaged : (M : Mount) (I : List ℕ) (len : ℕ) → Bytes I
      → (check_refusal M I len ≡ 17) ↔ ((check_call M I len ≡ 0) × (WellFormed M I → ⊥))
