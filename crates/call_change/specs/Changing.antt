-- Create, delete and write on any image. Definitions alone.
-- The order (O8 to O11): 1, 2, 3, 16, 17, then create 4, 8, 5/6, 15, 7, 9; delete 4, 5/6, 14; write 13, 11, 10, 9.
use Rattle.std.specs.Prelude.{◌≡◌, List, [], ◌∷◌, ℕ, ◌≤◌, length, take, Result, Ok, Err}
use Rattle.model.specs.Answers.{Reply, accepted, and_then, first_of, settle, given}
use Rattle.model.specs.Geometry.{Mount, geo_at}
use Rattle.dir_entry.specs.declared.Kind.{Kind}
use Rattle.dir_entry.specs.declared.Kind.TheVariants.{Dir, File}
use Rattle.path.specs.Path.{path_limit, real_path, path_refusal, last_name}
use Rattle.create.specs.Creating.{Fresh, created_on, created_image}
use Rattle.delete.specs.Deleting.{deleted_on, deleted_image}
use Rattle.handle.specs.declared.Handle.{Handle}
use Rattle.handle.specs.Handles.{new_handle}
use Rattle.handle.specs.declared.CountedOut.{CountedOut}
use Rattle.write.specs.Writing.{Target, target_of, written_image, handle_after, count_of}
use Rattle.limits.specs.Refusals.{refusal_number}
use Rattle.limits.specs.Says.{says}
use Rattle.limits.specs.declared.Refusal.{Refusal}
use Rattle.super_block.specs.declared.SuperBlock.{SuperBlock}
use Rattle.super_block.specs.Super.{geo_of, Ready}
use Rattle.call_read.specs.declared.OpenOut.{OpenOut}
use Rattle.call_read.specs.Reading.{OpenIs}
use Rattle.call_volume.specs.Checking.{work_after, check_refusal}

-- O8, then 4: with a work buffer of len bytes
unfoldable pub change_call : Mount → List ℕ → ℕ → List ℕ → List ℕ → ℕ
change_call M I len cwd p = first_of (check_refusal M I len ∷ (path_refusal cwd p ∷ []))

-- What a change by a path begins with: none of these refuses it, s has the numbers of the image's volume, which is well formed,
-- and the full path stands in the first n bytes of l.
pub record Begins (M : Mount) (I W cwd p l : List ℕ) (s : SuperBlock) (n : ℕ) : Type 0 where
  pub good : change_call M I (length W) cwd p ≡ 0
  pub ready : Ready s I
  pub geo : geo_of s ≡ geo_at M I
  pub within : n ≤ path_limit
  pub path : take n l ≡ real_path cwd p

abbrev pub BeginIs : Mount → List ℕ → List ℕ → List ℕ → List ℕ → List ℕ → Result (SuperBlock × ℕ) Refusal → Type 0
BeginIs M I W cwd p l (Ok x) = Begins M I W cwd p l x.0 x.1
BeginIs M I W cwd p l (Err r) = change_call M I (length W) cwd p ≡ refusal_number r

-- ---- create

-- O9: what a create of that kind answers, and the image that it leaves.
unfoldable pub create_reply : Kind → Mount → List ℕ → ℕ → List ℕ → List ℕ → Reply Fresh
create_reply k M I len cwd p = given (change_call M I len cwd p) (created_on (geo_at M I) I k (real_path cwd p))

unfoldable pub create_image : Kind → Mount → List ℕ → ℕ → List ℕ → List ℕ → ℕ → List ℕ
create_image k M I len cwd p time = settle (change_call M I len cwd p) (created_image (geo_at M I) I k (real_path cwd p) time) I

-- H5: the handle on the new file x, of 0 bytes
abbrev pub fresh_handle : List ℕ → Fresh → Handle
fresh_handle x f = new_handle (record { 0 = f.dir }) x (record { 0 = f.block }) 0

-- C9: create a file at the path p, with the work buffer W: the answer o, the image J and the buffer Z.
pub record CreatesFile (M : Mount) (I W cwd p : List ℕ) (time : ℕ) (o : OpenOut) (J Z : List ℕ) : Type 0 where
  pub answer : OpenIs (and_then (create_reply File M I (length W) cwd p)
      (λ f. accepted (fresh_handle (last_name (real_path cwd p)) f))) o
  pub image : J ≡ create_image File M I (length W) cwd p time
  pub work : Z ≡ work_after M I W

-- C10: create a directory: plain success, without what a handle would hold.
abbrev pub plainly : Reply Fresh → Reply (Unit {0})
plainly r = and_then r (λ f. accepted tt)

pub record CreatesDir (M : Mount) (I W cwd p : List ℕ) (time : ℕ) (r : Result (Unit {0}) Refusal) (J Z : List ℕ) : Type 0 where
  pub answer : says r ≡ plainly (create_reply Dir M I (length W) cwd p)
  pub image : J ≡ create_image Dir M I (length W) cwd p time
  pub work : Z ≡ work_after M I W

-- ---- delete: C11

pub record Deletes (M : Mount) (I W cwd p : List ℕ) (time : ℕ) (r : Result (Unit {0}) Refusal) (J Z : List ℕ) : Type 0 where
  pub answer : says r ≡ given (change_call M I (length W) cwd p) (deleted_on (geo_at M I) I (real_path cwd p))
  pub image : J ≡ settle (change_call M I (length W) cwd p) (deleted_image (geo_at M I) I (real_path cwd p) time) I
  pub work : Z ≡ work_after M I W

-- ---- write

-- O11, C12: a write of the bytes buf through the handle h: the byte count and the new handle.
unfoldable pub write_reply : Mount → List ℕ → ℕ → Handle → ℕ → Reply Target
write_reply M I len h size = given (check_refusal M I len) (target_of (geo_at M I) I h size)

pub record Writes (M : Mount) (I W : List ℕ) (h : Handle) (buf : List ℕ) (time : ℕ) (o : CountedOut) (J Z : List ℕ) : Type 0 where
  pub answer : says o.answer ≡ count_of (length buf) (write_reply M I (length W) h (length buf))
  pub handle : o.handle ≡ handle_after h (length buf) (write_reply M I (length W) h (length buf))
  pub image : J ≡ settle (check_refusal M I (length W)) (written_image (geo_at M I) I h buf time) I
  pub work : Z ≡ work_after M I W
