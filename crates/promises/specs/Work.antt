-- S5: what an accepted call has done. A library that answers success and does nothing breaks these. Definitions alone.
-- M is the mount, I the image at a call's entry and J after it, W the work buffer before and Z after. A time has 8
-- bytes.
use Rattle.std.specs.Prelude.{◌≡◌, false, List, [], ◌∷◌, ◌++◌, ℕ, ◌+◌, ◌-◌, ◌^◌, ◌≤◌, ◌<◌, min, length, take, drop, Result}
use Rattle.std.proofs.Math.Option.{some}
use Rattle.wire.specs.Be.{splice}
use Rattle.model.specs.Answers.{accepted}
use Rattle.model.specs.Tree.{Name, Cell, Tree, NoEntries}
use Rattle.model.specs.Geometry.{Mount, geo_at}
use Rattle.model.specs.Volume.{WellFormed, max_depth}
use Rattle.model.specs.Calls.{Vacant, Occupied, file_at, DirAt, empty_cell, contents, places}
use Rattle.path.specs.Path.{bad_path}
use Rattle.handle.specs.declared.Handle.{Handle}
use Rattle.handle.specs.declared.SeekFrom.TheVariants.{Start}
use Rattle.handle.specs.declared.Sought.{Sought}
use Rattle.handle.specs.declared.CountedOut.{CountedOut}
use Rattle.handle.specs.Handles.{name_of}
use Rattle.handle.specs.Post.{SoughtIs}
use Rattle.call_read.specs.declared.OpenOut.{OpenOut}
use Rattle.call_read.specs.Reading.{open_says, Opens, Reads}
use Rattle.call_change.specs.Changing.{CreatesFile, CreatesDir, Deletes, Writes}
use Rattle.call_patch.specs.Patches.{Patches}
use Rattle.thm_calls.specs.Handles.{HandleOf}
use Rattle.thm_calls.specs.Named.{way_of, last_of}
use Rattle.limits.specs.Says.{says}
use Rattle.limits.specs.declared.Refusal.{Refusal}

-- H1: the file that a handle names in the tree t. Its directory is the one at `path`, and the file is `size` bytes in the blocks
-- `cells`.
pub record FileOf (h : Handle) (t : Tree max_depth) : Type 0 where
  pub path : List Name
  pub there : DirAt max_depth h.dir.0 path t
  pub size : ℕ
  pub time : ℕ
  pub cells : List Cell
  pub file : file_at max_depth path (name_of h) t ≡ some (size, time, cells)

-- The n bytes l are read through the handle h from any position i on, in the image I: a seek there and a read after it are
-- accepted, and give as many of them as are asked for or as there are (C7, C8).
abbrev pub ReadsBack : Mount → List ℕ → Handle → ℕ → List ℕ → Type 0
ReadsBack M I h n l =
    (i : ℕ) → i ≤ n → (s : Sought) → SoughtIs h (Start i) s → (buf out : List ℕ) (r : CountedOut)
    → Reads M I s.handle buf out r
    → (says s.answer ≡ accepted tt) × (says r.answer ≡ accepted (min (length buf) (n - i)))
    × (out ≡ splice buf 0 (take (min (length buf) (n - i)) (drop i l)))

-- C19: the bytes l with buf over those from position c on
abbrev pub over : List ℕ → ℕ → List ℕ → List ℕ
over l c buf = take c l ++ (buf ++ drop (c + length buf) l)

pub record WorkIsDone : Type 0 where
  -- C12: the handle names a file, and after the write its bytes are the old ones before the position, then the buffer's. They are
  -- read through the handle that the write answers (a handle's name is an array of 255 bytes);
  pub write_then_read : (M : Mount) (I W : List ℕ) (h : Handle) (buf : List ℕ) (now : ℕ) (o : CountedOut) (J Z : List ℕ)
      → Writes M I W h buf now o J Z → (k : ℕ) → says o.answer ≡ accepted k → now < 2 ^ 64
      → length h.name ≡ 255 → (w : WellFormed M I)
      → (f : FileOf h w.tree)
      × ReadsBack M J o.handle (h.position + length buf) (take h.position (contents f.size f.cells) ++ buf)
  -- and they are what the file holds, with the call's time, in the tree of J.
  pub write_leaves : (M : Mount) (I W : List ℕ) (h : Handle) (buf : List ℕ) (now : ℕ) (o : CountedOut) (J Z : List ℕ)
      → Writes M I W h buf now o J Z → (k : ℕ) → says o.answer ≡ accepted k → now < 2 ^ 64
      → (w : WellFormed M I) (v : WellFormed M J)
      → (f : FileOf h w.tree) × (es : List Cell)
      × (file_at max_depth f.path (name_of h) v.tree ≡ some (h.position + length buf, now, es))
      × (contents (h.position + length buf) es ≡ take h.position (contents f.size f.cells) ++ buf)
  -- C19: after a patch they are the old ones, then the buffer's, then the old ones again to the same end,
  pub patch_then_read : (M : Mount) (I W : List ℕ) (h : Handle) (buf : List ℕ) (now : ℕ) (o : CountedOut) (J Z : List ℕ)
      → Patches M I W h buf now o J Z → (k : ℕ) → says o.answer ≡ accepted k → now < 2 ^ 64
      → length h.name ≡ 255 → (w : WellFormed M I)
      → (f : FileOf h w.tree) × ReadsBack M J o.handle f.size (over (contents f.size f.cells) h.position buf)
  -- and the file has its size and the blocks that it had, each where it was.
  pub patch_leaves : (M : Mount) (I W : List ℕ) (h : Handle) (buf : List ℕ) (now : ℕ) (o : CountedOut) (J Z : List ℕ)
      → Patches M I W h buf now o J Z → (k : ℕ) → says o.answer ≡ accepted k → now < 2 ^ 64
      → (w : WellFormed M I) (v : WellFormed M J)
      → (f : FileOf h w.tree) × (es : List Cell)
      × (file_at max_depth f.path (name_of h) v.tree ≡ some (f.size, now, es)) × (places es ≡ places f.cells)
      × (contents f.size es ≡ over (contents f.size f.cells) h.position buf)
  -- So they are read through a later open too: of a file of z bytes in the blocks cs an open gives a handle that reads its bytes.
  pub open_then_read : (M : Mount) (I : List ℕ) (w : WellFormed M I) (cwd p : List ℕ) → bad_path cwd p ≡ false
      → (z t : ℕ) (cs : List Cell)
      → file_at max_depth (way_of cwd p) (last_of cwd p) w.tree ≡ some (z, t, cs) → (o : OpenOut) → Opens M I cwd p o
      → ReadsBack M I o.handle z (contents z cs)
  -- C9: a file of 0 bytes with the call's time is there, one block of zeros, and the handle answered is on it, at position 0.
  pub create_file_leaves : (M : Mount) (I W cwd p : List ℕ) (now : ℕ) (o : OpenOut) (J Z : List ℕ)
      → CreatesFile M I W cwd p now o J Z
      → (h : Handle) → open_says o ≡ accepted h → now < 2 ^ 64 → WellFormed M I → (v : WellFormed M J)
      → (x : ℕ) × (a : ℕ)
      × (file_at max_depth (way_of cwd p) (last_of cwd p) v.tree ≡ some (0, now, empty_cell (geo_at M I) x ∷ []))
      × DirAt max_depth a (way_of cwd p) v.tree × HandleOf a (last_of cwd p) 0 (empty_cell (geo_at M I) x ∷ []) h
  -- C10: a directory with no entry is there, and its own entry has the call's time.
  pub create_dir_leaves : (M : Mount) (I W cwd p : List ℕ) (now : ℕ) (r : Result (Unit {0}) Refusal) (J Z : List ℕ)
      → CreatesDir M I W cwd p now r J Z
      → says r ≡ accepted tt → now < 2 ^ 64 → WellFormed M I → (v : WellFormed M J)
      → (x : ℕ) × (s : DirAt max_depth x (way_of cwd p ++ (last_of cwd p ∷ [])) v.tree) × NoEntries s.dir.1
      × (o : Occupied max_depth (way_of cwd p) (last_of cwd p) v.tree) × (o.entry.time ≡ now)
  pub create_changes : (M : Mount) (I W cwd p : List ℕ) (now : ℕ) (o : OpenOut) (J Z : List ℕ) → CreatesFile M I W cwd p now o J Z
      → (h : Handle) → open_says o ≡ accepted h → now < 2 ^ 64 → WellFormed M I → J ≡ I → ⊥
  -- C11: nothing is there any more.
  pub delete_leaves : (M : Mount) (I W cwd p : List ℕ) (now : ℕ) (r : Result (Unit {0}) Refusal) (J Z : List ℕ)
      → Deletes M I W cwd p now r J Z
      → says r ≡ accepted tt → now < 2 ^ 64 → WellFormed M I → (v : WellFormed M J)
      → Vacant max_depth (way_of cwd p) (last_of cwd p) v.tree
