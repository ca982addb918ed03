-- D1, over the public calls. Definitions alone.
-- Every input gets an answer: no public function of `mfs` has a `requires`, so that each is proved to answer on all of them.
use Rattle.std.specs.Prelude.{◌≡◌, List, ℕ, Result}
use Rattle.model.specs.Geometry.{Mount}
use Rattle.model.specs.Answers.{refused}
use Rattle.handle.specs.declared.Handle.{Handle}
use Rattle.handle.specs.declared.SeekFrom.{SeekFrom}
use Rattle.handle.specs.declared.Sought.{Sought}
use Rattle.handle.specs.declared.CountedOut.{CountedOut}
use Rattle.handle.specs.Post.{SoughtIs}
use Rattle.call_room.specs.Room.{Asks}
use Rattle.call_volume.specs.declared.Space.{Space}
use Rattle.call_read.specs.declared.OpenOut.{OpenOut}
use Rattle.call_read.specs.declared.InfoOut.{InfoOut}
use Rattle.call_volume.specs.Format.{Formats, Uses}
use Rattle.call_read.specs.Reading.{no_handle, open_says, Opens, no_about, about_of, info_says, Informs, Lists, Reads}
use Rattle.call_volume.specs.Checking.{work_after, Checks}
use Rattle.call_change.specs.Changing.{CreatesFile, CreatesDir, Deletes, Writes}
use Rattle.call_patch.specs.Patches.{Patches}
use Rattle.limits.specs.Says.{says}
use Rattle.limits.specs.declared.Refusal.{Refusal}
use Rattle.read_dir.specs.declared.Listed.{Listed}
use Rattle.bitmap_room.specs.declared.Told.{Told}

-- D1: any two outcomes that a call's contract allows are equal, in answer, image, handle, work buffer and read buffer, refused
-- ones too.
pub record OneOutcome : Type 0 where
  pub formats : (M : Mount) (I : List ℕ) (r q : Result (Unit {0}) Refusal) (J L : List ℕ)
      → Formats M I r J → Formats M I q L → (r ≡ q) × (J ≡ L)
  pub uses : (M : Mount) (I : List ℕ) (r q : Result Space Refusal) → Uses M I r → Uses M I q → r ≡ q
  pub asks : (M : Mount) (I : List ℕ) (k : ℕ) (r q : Result Told Refusal) → Asks M I k r → Asks M I k q → r ≡ q
  pub checks : (M : Mount) (I W Z Y : List ℕ) (r q : Result (Unit {0}) Refusal)
      → Checks M I W r Z → Checks M I W q Y → (r ≡ q) × (Z ≡ Y)
  pub opens : (M : Mount) (I cwd p : List ℕ) (r q : OpenOut) → Opens M I cwd p r → Opens M I cwd p q → r ≡ q
  pub informs : (M : Mount) (I cwd p : List ℕ) (r q : InfoOut) → Informs M I cwd p r → Informs M I cwd p q → r ≡ q
  pub lists : (M : Mount) (I cwd p : List ℕ) (n : ℕ) (buf : List ℕ) (r q : Result Listed Refusal) (out end : List ℕ)
      → Lists M I cwd p n buf r out → Lists M I cwd p n buf q end → (r ≡ q) × (out ≡ end)
  pub reads : (M : Mount) (I : List ℕ) (h : Handle) (buf out end : List ℕ) (r q : CountedOut)
      → Reads M I h buf out r → Reads M I h buf end q → (r ≡ q) × (out ≡ end)
  pub seeks : (h : Handle) (from : SeekFrom) (r q : Sought) → SoughtIs h from r → SoughtIs h from q → r ≡ q
  pub creates_file : (M : Mount) (I W cwd p : List ℕ) (time : ℕ) (J L Z Y : List ℕ) (r q : OpenOut)
      → CreatesFile M I W cwd p time r J Z → CreatesFile M I W cwd p time q L Y → (r ≡ q) × (J ≡ L) × (Z ≡ Y)
  pub creates_dir : (M : Mount) (I W cwd p : List ℕ) (time : ℕ) (J L Z Y : List ℕ) (r q : Result (Unit {0}) Refusal)
      → CreatesDir M I W cwd p time r J Z → CreatesDir M I W cwd p time q L Y → (r ≡ q) × (J ≡ L) × (Z ≡ Y)
  pub deletes : (M : Mount) (I W cwd p : List ℕ) (time : ℕ) (J L Z Y : List ℕ) (r q : Result (Unit {0}) Refusal)
      → Deletes M I W cwd p time r J Z → Deletes M I W cwd p time q L Y → (r ≡ q) × (J ≡ L) × (Z ≡ Y)
  pub writes : (M : Mount) (I W : List ℕ) (h : Handle) (buf : List ℕ) (time : ℕ) (r q : CountedOut) (J L Z Y : List ℕ)
      → Writes M I W h buf time r J Z → Writes M I W h buf time q L Y → (r ≡ q) × (J ≡ L) × (Z ≡ Y)
  pub patches : (M : Mount) (I W : List ℕ) (h : Handle) (buf : List ℕ) (time : ℕ) (r q : CountedOut) (J L Z Y : List ℕ)
      → Patches M I W h buf time r J Z → Patches M I W h buf time q L Y → (r ≡ q) × (J ≡ L) × (Z ≡ Y)

-- D1, a refused call, whatever its number j: image, handle and read buffer are as they were, and the work buffer ends as C3 says.
-- I is the image before and J after, W the work buffer before and Z after. (Usage, room, open, info, list, read, seek and the
-- check cannot write the image. By H6 a refused open or create_file answers the empty handle, and info the empty entry.)
pub record RefusalKeeps : Type 0 where
  pub formats : (M : Mount) (I J : List ℕ) (r : Result (Unit {0}) Refusal) (j : ℕ) → Formats M I r J → says r ≡ refused j → J ≡ I
  pub checks : (M : Mount) (I W Z : List ℕ) (r : Result (Unit {0}) Refusal) (j : ℕ)
      → Checks M I W r Z → says r ≡ refused j → Z ≡ work_after M I W
  pub opens : (M : Mount) (I cwd p : List ℕ) (o : OpenOut) (j : ℕ) → Opens M I cwd p o → open_says o ≡ refused j
      → o.handle ≡ no_handle
  pub informs : (M : Mount) (I cwd p : List ℕ) (o : InfoOut) (j : ℕ) → Informs M I cwd p o → info_says o ≡ refused j
      → about_of o ≡ no_about
  pub lists : (M : Mount) (I cwd p : List ℕ) (n : ℕ) (buf out : List ℕ) (q : Result Listed Refusal) (j : ℕ)
      → Lists M I cwd p n buf q out
      → says q ≡ refused j → out ≡ buf
  pub reads : (M : Mount) (I : List ℕ) (h : Handle) (buf out : List ℕ) (o : CountedOut) (j : ℕ) → Reads M I h buf out o
      → says o.answer ≡ refused j → (o.handle ≡ h) × (out ≡ buf)
  pub seeks : (h : Handle) (from : SeekFrom) (s : Sought) (j : ℕ) → SoughtIs h from s → says s.answer ≡ refused j
      → s.handle ≡ h
  pub creates_file : (M : Mount) (I W cwd p : List ℕ) (time : ℕ) (J Z : List ℕ) (o : OpenOut) (j : ℕ)
      → CreatesFile M I W cwd p time o J Z → open_says o ≡ refused j → (J ≡ I) × (o.handle ≡ no_handle) × (Z ≡ work_after M I W)
  pub creates_dir : (M : Mount) (I W cwd p : List ℕ) (time : ℕ) (J Z : List ℕ) (r : Result (Unit {0}) Refusal) (j : ℕ)
      → CreatesDir M I W cwd p time r J Z → says r ≡ refused j → (J ≡ I) × (Z ≡ work_after M I W)
  pub deletes : (M : Mount) (I W cwd p : List ℕ) (time : ℕ) (J Z : List ℕ) (r : Result (Unit {0}) Refusal) (j : ℕ)
      → Deletes M I W cwd p time r J Z → says r ≡ refused j → (J ≡ I) × (Z ≡ work_after M I W)
  pub writes : (M : Mount) (I W : List ℕ) (h : Handle) (buf : List ℕ) (time : ℕ) (o : CountedOut) (J Z : List ℕ) (j : ℕ)
      → Writes M I W h buf time o J Z → says o.answer ≡ refused j → (J ≡ I) × (o.handle ≡ h) × (Z ≡ work_after M I W)
  pub patches : (M : Mount) (I W : List ℕ) (h : Handle) (buf : List ℕ) (time : ℕ) (o : CountedOut) (J Z : List ℕ) (j : ℕ)
      → Patches M I W h buf time o J Z → says o.answer ≡ refused j → (J ≡ I) × (o.handle ≡ h) × (Z ≡ work_after M I W)
