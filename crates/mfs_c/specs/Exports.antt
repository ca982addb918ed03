-- C15: what each export tells its caller: a call of `mfs` was made, and 0 with its values in the out parameters, or its refusal
-- with every out parameter as it was. Definitions alone.
use Rattle.std.specs.Prelude.{◌≡◌, List, [], ◌∷◌, ℕ, get_or, Result}
use Rattle.wire.specs.Pick.{pick}
use Rattle.model.specs.Geometry.{Mount}
use Rattle.model.specs.Answers.{Reply, accepted, refused}
use Rattle.dir_entry.specs.Entry.{kind_byte}
use Rattle.handle.specs.declared.Handle.{Handle}
use Rattle.handle.specs.declared.SeekFrom.{SeekFrom}
use Rattle.handle.specs.declared.Sought.{Sought}
use Rattle.handle.specs.declared.CountedOut.{CountedOut}
use Rattle.handle.specs.Post.{SoughtIs}
use Rattle.bitmap_room.specs.declared.Told.{Told}
use Rattle.call_room.specs.Room.{Asks}
use Rattle.call_volume.specs.declared.Space.{Space}
use Rattle.call_read.specs.declared.OpenOut.{OpenOut}
use Rattle.call_read.specs.declared.InfoOut.{InfoOut}
use Rattle.call_volume.specs.Format.{Formats, Uses}
use Rattle.call_read.specs.declared.About.{About}
use Rattle.call_read.specs.Reading.{open_says, Opens, info_says, Informs, Lists, Reads}
use Rattle.call_volume.specs.Checking.{Checks}
use Rattle.call_change.specs.Changing.{CreatesFile, CreatesDir, Deletes, Writes}
use Rattle.call_patch.specs.Patches.{Patches}
use Rattle.limits.specs.Says.{says}
use Rattle.limits.specs.declared.Refusal.{Refusal}
use Rattle.read_dir.specs.declared.Listed.{Listed}

-- C17: the version of the exports: names, parameters and what these mean. It goes up by one where a program that was compiled
-- against the exports as they were could no longer call them as they are.
abbrev pub abi_version : ℕ
abi_version = 2

-- ---- how an answer is told

-- 0, or the number of the refusal
abbrev pub told : {A : Type 0} → Reply A → ℕ
told (accepted a) = 0
told (refused k) = k

-- an out parameter: what f makes of the answer's value, or what stood there where the call is refused
abbrev pub out_of : {A B : Type 0} → Reply A → (A → B) → B → B
out_of (accepted a) f old = f a
out_of (refused k) f old = old

-- H1: a handle of a caller in C: four numbers, in the order directory,
-- file, size, position, and a name of len bytes in an array of 255.
abbrev pub handle_of : List ℕ → List ℕ → ℕ → Handle
handle_of ns x len =
    record {
      dir = record { 0 = get_or ns 0 0 };
      name = x;
      len = len;
      addr = record { 0 = get_or ns 1 0 };
      size
          = get_or ns 2 0;
      position = get_or ns 3 0;
    }

abbrev pub numbers_of : Handle → List ℕ
numbers_of h = h.dir.0 ∷ (h.addr.0 ∷ (h.size ∷ (h.position ∷ [])))

-- ---- the exports: c is the number answered, J the image afterwards, Z the work buffer; an out parameter x is x' afterwards

pub record FormatsC (M : Mount) (I : List ℕ) (c : ℕ) (J : List ℕ) : Type 0 where
  pub answer : Result (Unit {0}) Refusal
  pub call : Formats M I answer J
  pub code : c ≡ told (says answer)

pub record UsesC (M : Mount) (I : List ℕ) (size used free c size' used' free' : ℕ) : Type 0 where
  pub answer : Result Space Refusal
  pub call : Uses M I answer
  pub code : c ≡ told (says answer)
  pub sizes : size' ≡ out_of (says answer) (λ (s : Space). s.size) size
  pub useds : used' ≡ out_of (says answer) (λ (s : Space). s.used) used
  pub frees : free' ≡ out_of (says answer) (λ (s : Space). s.free) free

-- yes is 1, no is 0
pub record AsksC (M : Mount) (I : List ℕ) (k enough bytes c enough' bytes' : ℕ) : Type 0 where
  pub answer : Result Told Refusal
  pub call : Asks M I k answer
  pub code : c ≡ told (says answer)
  pub enoughs : enough' ≡ out_of (says answer) (λ (t : Told). pick t.enough 1 0) enough
  pub reads : bytes' ≡ out_of (says answer) (λ (t : Told). t.bytes) bytes

pub record ChecksC (M : Mount) (I W : List ℕ) (c : ℕ) (Z : List ℕ) : Type 0 where
  pub answer : Result (Unit {0}) Refusal
  pub call : Checks M I W answer Z
  pub code : c ≡ told (says answer)

-- an answer with a handle: its four numbers, its name, the name's length
pub record HandleOut (r : Reply Handle) (ns x : List ℕ) (len c : ℕ) (ns' x' : List ℕ) (len' : ℕ) : Type 0 where
  pub code : c ≡ told r
  pub numbers : ns' ≡ out_of r numbers_of ns
  pub name : x' ≡ out_of r (λ (h : Handle). h.name) x
  pub long : len' ≡ out_of r (λ (h : Handle). h.len) len

pub record OpensC (M : Mount) (I cwd p ns x : List ℕ) (len c : ℕ) (ns' x' : List ℕ) (len' : ℕ) : Type 0 where
  pub answer : OpenOut
  pub call : Opens M I cwd p answer
  pub out : HandleOut (open_says answer) ns x len c ns' x' len'

pub record InformsC (M : Mount) (I cwd p : List ℕ) (kind size time : ℕ) (x : List ℕ) (len c kind' size' time' : ℕ) (x' : List ℕ)
    (len' : ℕ) : Type 0 where
  pub answer : InfoOut
  pub call : Informs M I cwd p answer
  pub code : c ≡ told (info_says answer)
  pub kinds : kind' ≡ out_of (info_says answer) (λ (a : About). kind_byte a.kind) kind
  pub sizes : size' ≡ out_of (info_says answer) (λ (a : About). a.size) size
  pub times : time' ≡ out_of (info_says answer) (λ (a : About). a.time) time
  pub name : x' ≡ out_of (info_says answer) (λ (a : About). a.name) x
  pub long : len' ≡ out_of (info_says answer) (λ (a : About). a.len) len

pub record ListsC (M : Mount) (I cwd p : List ℕ) (i : ℕ) (buf : List ℕ) (bytes next c : ℕ) (out : List ℕ)
    (bytes' next' : ℕ) : Type 0 where
  pub answer : Result Listed Refusal
  pub call : Lists M I cwd p i buf answer out
  pub code : c ≡ told (says answer)
  pub counts : bytes' ≡ out_of (says answer) (λ (n : Listed). n.bytes) bytes
  pub nexts : next' ≡ out_of (says answer) (λ (n : Listed). n.next) next

-- the byte count and the new handle's numbers: its name is the one given
pub record CountOut (r : Reply ℕ) (h : Handle) (ns : List ℕ) (bytes c : ℕ) (ns' : List ℕ) (bytes' : ℕ) : Type 0 where
  pub code : c ≡ told r
  pub numbers : ns' ≡ out_of r (λ (n : ℕ). numbers_of h) ns
  pub counts : bytes' ≡ out_of r (λ (n : ℕ). n) bytes

pub record ReadsC (M : Mount) (I ns x : List ℕ) (len : ℕ) (buf : List ℕ) (bytes c : ℕ) (ns' out : List ℕ)
    (bytes' : ℕ) : Type 0 where
  pub answer : CountedOut
  pub call : Reads M I (handle_of ns x len) buf out answer
  pub told : CountOut (says answer.answer) answer.handle ns bytes c ns' bytes'

pub record SeeksC (ns x : List ℕ) (len : ℕ) (from : SeekFrom) (c : ℕ) (ns' : List ℕ) : Type 0 where
  pub answer : Sought
  pub call : SoughtIs (handle_of ns x len) from answer
  pub code : c ≡ told (says answer.answer)
  pub numbers : ns' ≡ out_of (says answer.answer) (λ (u : Unit {0}). numbers_of answer.handle) ns

pub record CreatesFileC (M : Mount) (I W cwd p : List ℕ) (time : ℕ) (ns x : List ℕ) (len c : ℕ) (J Z ns' x' : List ℕ)
    (len' : ℕ) : Type 0 where
  pub answer : OpenOut
  pub call : CreatesFile M I W cwd p time answer J Z
  pub out : HandleOut (open_says answer) ns x len c ns' x' len'

pub record CreatesDirC (M : Mount) (I W cwd p : List ℕ) (time c : ℕ) (J Z : List ℕ) : Type 0 where
  pub answer : Result (Unit {0}) Refusal
  pub call : CreatesDir M I W cwd p time answer J Z
  pub code : c ≡ told (says answer)

pub record DeletesC (M : Mount) (I W cwd p : List ℕ) (time c : ℕ) (J Z : List ℕ) : Type 0 where
  pub answer : Result (Unit {0}) Refusal
  pub call : Deletes M I W cwd p time answer J Z
  pub code : c ≡ told (says answer)

pub record WritesC (M : Mount) (I W ns x : List ℕ) (len : ℕ) (buf : List ℕ) (time bytes c : ℕ) (J Z ns' : List ℕ)
    (bytes' : ℕ) : Type 0 where
  pub answer : CountedOut
  pub call : Writes M I W (handle_of ns x len) buf time answer J Z
  pub told : CountOut (says answer.answer) answer.handle ns bytes c ns' bytes'

-- C19
pub record PatchesC (M : Mount) (I W ns x : List ℕ) (len : ℕ) (buf : List ℕ) (time bytes c : ℕ) (J Z ns' : List ℕ)
    (bytes' : ℕ) : Type 0 where
  pub answer : CountedOut
  pub call : Patches M I W (handle_of ns x len) buf time answer J Z
  pub told : CountOut (says answer.answer) answer.handle ns bytes c ns' bytes'
