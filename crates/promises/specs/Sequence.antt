-- D3: any number of calls at one path, each step the contract of a public call. Definitions alone.
use Rattle.std.specs.Prelude.{◌≡◌, ◌⊎◌, List, ℕ, ◌^◌, ◌≤◌, ◌<◌, Result}
use Rattle.model.specs.Geometry.{Mount, code_size}
use Rattle.model.specs.Tree.{Name}
use Rattle.model.specs.Render.{blocks, count}
use Rattle.model.specs.Volume.{WellFormed, max_depth}
use Rattle.model.specs.Steps.{Bytes}
use Rattle.handle.specs.declared.Handle.{Handle}
use Rattle.handle.specs.declared.SeekFrom.{SeekFrom}
use Rattle.handle.specs.declared.Sought.{Sought}
use Rattle.handle.specs.declared.CountedOut.{CountedOut}
use Rattle.handle.specs.Handles.{name_of}
use Rattle.handle.specs.Post.{SoughtIs}
use Rattle.call_read.specs.declared.OpenOut.{OpenOut}
use Rattle.call_read.specs.Reading.{Opens, Reads}
use Rattle.call_change.specs.Changing.{CreatesFile, Deletes, Writes}
use Rattle.call_patch.specs.Patches.{Patches}
use Rattle.thm_calls.specs.Named.{way_of, last_of}
use Rattle.limits.specs.declared.Refusal.{Refusal}

-- D3, any working directory and spelling that lead to the path: what is given has the directory names p and the last name n
-- (P3, P4).
pub record Leads (p : List Name) (n : Name) (cwd path : List ℕ) : Type 0 where
  pub way : way_of cwd path ≡ p
  pub last : last_of cwd path ≡ n

-- H7, a handle at the path, whose holding directory begins at a. Nothing is asked of its other fields, so that stale and
-- made-up ones are among them.
pub record HandleAt (a : ℕ) (n : Name) (h : Handle) : Type 0 where
  pub dir : h.dir.0 ≡ a
  pub name : name_of h ≡ n

-- D3, one call at the path, from the image I to J, accepted or refused, with any time (of 8 bytes), buffer (of bytes) and work
-- buffer. A create is create_file. Open, read and seek cannot write the image: J is I.
pub data Call (M : Mount) (a : ℕ) (p : List Name) (n : Name) (I J : List ℕ) : Type 0 where
  creates : (cwd path W Z : List ℕ) (time : ℕ) (o : OpenOut) → Leads p n cwd path → time < 2 ^ 64
      → CreatesFile M I W cwd path time o J Z → Call M a p n I J
  opens : (cwd path : List ℕ) (o : OpenOut) → Leads p n cwd path → Opens M I cwd path o → J ≡ I → Call M a p n I J
  reads : (h : Handle) (buf out : List ℕ) (o : CountedOut) → HandleAt a n h → Reads M I h buf out o → J ≡ I → Call M a p n I J
  seeks : (h : Handle) (from : SeekFrom) (s : Sought) → HandleAt a n h → SoughtIs h from s → J ≡ I → Call M a p n I J
  writes : (h : Handle) (buf W Z : List ℕ) (time : ℕ) (o : CountedOut) → HandleAt a n h → Bytes buf → time < 2 ^ 64
      → Writes M I W h buf time o J Z → Call M a p n I J
  patches : (h : Handle) (buf W Z : List ℕ) (time : ℕ) (o : CountedOut) → HandleAt a n h → Bytes buf → time < 2 ^ 64
      → Patches M I W h buf time o J Z → Call M a p n I J
  deletes : (cwd path W Z : List ℕ) (time : ℕ) (r : Result (Unit {0}) Refusal) → Leads p n cwd path → time < 2 ^ 64
      → Deletes M I W cwd path time r J Z → Call M a p n I J

-- D3, any number of them, each on the image that the one before left.
pub data Calls (M : Mount) (a : ℕ) (p : List Name) (n : Name) : List ℕ → List ℕ → Type 0 where
  done : {I : List ℕ} → Calls M a p n I I
  call : {I J L : List ℕ} → Call M a p n I J → Calls M a p n J L → Calls M a p n I L

-- D3, block b is reached in the image I.
pub record ReachedIn (M : Mount) (b : ℕ) (I : List ℕ) : Type 0 where
  pub well : WellFormed M I
  pub there : 1 ≤ count b (blocks (code_size M.code) max_depth well.tree)

-- D3, the calls used block b: it is reached in an image on the way, the first and the last among them.
unfoldable pub UsedBy : {M : Mount} {a : ℕ} {p : List Name} {n : Name} {I J : List ℕ} → ℕ → Calls M a p n I J → Type 0
UsedBy {M} {a} {p} {n} {I} {J} b done = ReachedIn M b I
UsedBy {M} {a} {p} {n} {I} {J} b (call c r) = ReachedIn M b I ⊎ UsedBy b r
