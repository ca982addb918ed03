-- What each export tells on each of its ways out: the call that it made, and the arm that its answer took.
use mathlib.Core.Path.{◌≡◌, refl, ◌∙◌, subst}
use mathlib.Core.Bool.{Bool, true, false}
use mathlib.Core.List.{List}
use Prim.Native.Nat.{ℕ}
use lib.IntN.{ℤ}
use mir.Syntax.{w32}
use mir.Val.{SFits, of_z, to_z, bool_byte}
use mir.Facts.{to_z-of_z}
use Rattle.wire.specs.Pick.{pick}
use Rattle.model.specs.Geometry.{Mount}
use Rattle.limits.specs.Refusals.{refusal_number}
use Rattle.limits.specs.declared.Refusal.{Refusal}
use Rattle.dir_entry.specs.Entry.{kind_byte}
use Rattle.handle.specs.declared.Handle.{Handle}
use Rattle.handle.specs.declared.SeekFrom.{SeekFrom}
use Rattle.handle.specs.declared.Sought.{Sought}
use Rattle.handle.specs.declared.CountedOut.{CountedOut}
use Rattle.handle.specs.Post.{SoughtIs}
use Rattle.bitmap_room.specs.declared.Told.{Told}
use Rattle.call_room.specs.Room.{Asks}
use Rattle.call_volume.specs.declared.Space.{Space}
use Rattle.call_read.specs.declared.OpenOut.{OpenOut}
use Rattle.call_read.specs.declared.InfoOut.{InfoOut}
use Rattle.call_volume.specs.Format.{Uses}
use Rattle.call_read.specs.Reading.{open_says, Informs, Lists, Reads}
use Rattle.call_change.specs.Changing.{Writes}
use Rattle.call_patch.specs.Patches.{Patches}
use Rattle.mfs_c.specs.Exports.{told, handle_of, numbers_of, UsesC, AsksC, HandleOut, InformsC, ListsC, CountOut, ReadsC, SeeksC, WritesC, PatchesC}
use Rattle.std.specs.Prelude.{Result, Ok, Err}
use Rattle.limits.specs.Says.{says}
use Rattle.read_dir.specs.declared.Listed.{Listed}

-- a plain answer that is refused
pub code_refused : (a : Result (Unit {0}) Refusal) (r : Refusal) (c : ℕ) → a ≡ Err r → c ≡ refusal_number r → c ≡ told (says a)
code_refused a r c e f = rw e f

-- ---- the values of an answer, each into its out parameter; a refusal leaves them

module _ (M : Mount) (I : List ℕ) (size used free : ℕ) (a : Result Space Refusal) (call : Uses M I a) where
  pub usage_refused : (r : Refusal) (c : ℕ) → a ≡ Err r → c ≡ refusal_number r → UsesC M I size used free c size used free
  usage_refused r c e f = record { answer = Err r; call = rw e at call; code = f; sizes = refl; useds = refl; frees = refl }

  pub usage_told : (s : Space) → a ≡ Ok s → UsesC M I size used free 0 s.size s.used s.free
  usage_told s e = record { answer = Ok s; call = rw e at call; code = refl; sizes = refl; useds = refl; frees = refl }

-- yes is 1, no is 0
flag_is : (b : Bool) → bool_byte b ≡ pick b 1 0
unfolding pick
flag_is true = refl
flag_is false = refl

module _ (M : Mount) (I : List ℕ) (k enough bytes : ℕ) (a : Result Told Refusal) (call : Asks M I k a) where
  pub room_refused : (r : Refusal) (c : ℕ) → a ≡ Err r → c ≡ refusal_number r → AsksC M I k enough bytes c enough bytes
  room_refused r c e f = record { answer = Err r; call = rw e at call; code = f; enoughs = refl; reads = refl }

  pub room_told : (t : Told) (n : ℕ) → a ≡ Ok t → n ≡ bool_byte t.enough → AsksC M I k enough bytes 0 n t.bytes
  room_told t n e f = record { answer = Ok t; call = rw e at call; code = refl; enoughs = f ∙ flag_is t.enough; reads = refl }

module _ (o : OpenOut) (ns x : List ℕ) (len : ℕ) where
  pub handle_refused : (r : Refusal) (c : ℕ) → o.answer ≡ Err r → c ≡ refusal_number r → HandleOut (open_says o) ns x len c ns x len
  handle_refused r c e f = rw e (record { code = f; numbers = refl; name = refl; long = refl })

  pub handle_given : (ms : List ℕ) → o.answer ≡ Ok tt → ms ≡ numbers_of o.handle → HandleOut (open_says o) ns x len 0 ms o.handle.name o.handle.len
  handle_given ms e f = rw e (record { code = refl; numbers = f; name = refl; long = refl })

module _ (M : Mount) (I cwd p : List ℕ) (kind size time : ℕ) (x : List ℕ) (len : ℕ) (o : InfoOut) (call : Informs M I cwd p o) where
  pub info_refused : (r : Refusal) (c : ℕ) → o.answer ≡ Err r → c ≡ refusal_number r → InformsC M I cwd p kind size time x len c kind size time x len
  info_refused r c e f =
      record {
        answer = o;
        call = call;
        code = rw e f;
        kinds = rw e refl;
        sizes = rw e refl;
        times = rw e refl;
        name = rw e refl;
        long = rw e refl;
      }

  pub info_told : (b : ℕ) → o.answer ≡ Ok tt → b ≡ kind_byte o.kind
      → InformsC M I cwd p kind size time x len 0 b o.size o.time o.name o.len
  info_told b e f =
      record {
        answer = o;
        call = call;
        code = rw e refl;
        kinds = rw e f;
        sizes = rw e refl;
        times = rw e refl;
        name = rw e refl;
        long = rw e refl;
      }

module _ (M : Mount) (I cwd p : List ℕ) (i : ℕ) (buf : List ℕ) (bytes next : ℕ) (a : Result Listed Refusal) (out : List ℕ) (call : Lists M I cwd p i buf a out) where
  pub list_refused : (r : Refusal) (c : ℕ) → a ≡ Err r → c ≡ refusal_number r → ListsC M I cwd p i buf bytes next c out bytes next
  list_refused r c e f = record { answer = a; call = call; code = rw e f; counts = rw e refl; nexts = rw e refl }

  pub list_told : (l : Listed) → a ≡ Ok l → ListsC M I cwd p i buf bytes next 0 out l.bytes l.next
  list_told l e = record { answer = a; call = call; code = rw e refl; counts = rw e refl; nexts = rw e refl }

module _ (o : CountedOut) (ns : List ℕ) (bytes : ℕ) where
  pub count_refused : (r : Refusal) (c : ℕ) → o.answer ≡ Err r → c ≡ refusal_number r → CountOut (says o.answer) o.handle ns bytes c ns bytes
  count_refused r c e f = rw e (record { code = f; numbers = refl; counts = refl })

  pub count_given : (ms : List ℕ) (b : ℕ) → o.answer ≡ Ok b → ms ≡ numbers_of o.handle → CountOut (says o.answer) o.handle ns bytes 0 ms b
  count_given ms b e f = rw e (record { code = refl; numbers = f; counts = refl })

-- ---- the calls through a handle, which is made of its numbers and its name

module _ (ns x : List ℕ) (len : ℕ) (h : Handle) (made : h ≡ handle_of ns x len) where
  pub reads_c : (M : Mount) (I buf : List ℕ) (bytes : ℕ) (o : CountedOut) (c : ℕ) (ms out : List ℕ) (b : ℕ)
      → Reads M I h buf out o → CountOut (says o.answer) o.handle ns bytes c ms b → ReadsC M I ns x len buf bytes c ms out b
  reads_c M I buf bytes o c ms out b call given = record { answer = o; call = rw made at call; told = given }

  pub writes_c : (M : Mount) (I W buf : List ℕ) (time bytes : ℕ) (o : CountedOut) (c : ℕ) (J Z ms : List ℕ) (b : ℕ)
      → Writes M I W h buf time o J Z → CountOut (says o.answer) o.handle ns bytes c ms b → WritesC M I W ns x len buf time bytes c J Z ms b
  writes_c M I W buf time bytes o c J Z ms b call given = record { answer = o; call = rw made at call; told = given }

  pub patches_c : (M : Mount) (I W buf : List ℕ) (time bytes : ℕ) (o : CountedOut) (c : ℕ) (J Z ms : List ℕ) (b : ℕ)
      → Patches M I W h buf time o J Z → CountOut (says o.answer) o.handle ns bytes c ms b → PatchesC M I W ns x len buf time bytes c J Z ms b
  patches_c M I W buf time bytes o c J Z ms b call given = record { answer = o; call = rw made at call; told = given }

  module _ (from : SeekFrom) (o : Sought) (call : SoughtIs h from o) where
    pub seek_refused : (r : Refusal) (c : ℕ) → o.answer ≡ Err r → c ≡ refusal_number r → SeeksC ns x len from c ns
    seek_refused r c e f = record { answer = o; call = rw made at call; code = rw e f; numbers = rw e refl }

    pub seek_moved : (ms : List ℕ) → o.answer ≡ Ok tt → ms ≡ numbers_of o.handle → SeeksC ns x len from 0 ms
    seek_moved ms e f = record { answer = o; call = rw made at call; code = rw e refl; numbers = rw e f }

-- A signed distance is handed on by its bits, from which the same number is read.
pub seek_by : (make : ℤ → SeekFrom) (by : ℤ) (ns x : List ℕ) (len c : ℕ) (ms : List ℕ)
    → SFits w32 by → SeeksC ns x len (make (to_z w32 (of_z w32 by))) c ms → SeeksC ns x len (make by) c ms
seek_by make by ns x len c ms fits given = subst (λ (z : ℤ). SeeksC ns x len (make z) c ms) (to_z-of_z {w = w32} fits) given
