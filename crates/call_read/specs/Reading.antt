-- Open, info, list, read and seek (C4 to C8) on any image. Definitions alone.
-- They are refused in the orders O5, O6 and O7.
use Rattle.std.specs.Prelude.{◌≡◌, List, [], ◌∷◌, ℕ, ◌≤◌, ltb, length, take, Result, Ok, Err}
use Rattle.wire.specs.Be.{zeros, splice}
use Rattle.wire.specs.Pick.{pick, same}
use Rattle.block.specs.Block.{Area}
use Rattle.model.specs.Answers.{Reply, accepted, refused, and_then, first_of, given}
use Rattle.limits.specs.Refusals.{refusal_number}
use Rattle.limits.specs.declared.Damage.{Damage}
use Rattle.limits.specs.declared.Refusal.{Refusal}
use Rattle.limits.specs.Says.{says}
use Rattle.super_block.specs.declared.SuperBlock.{SuperBlock}
use Rattle.super_block.specs.Super.{area_in, Fit}
use Rattle.model.specs.Render.{padded}
use Rattle.model.specs.Geometry.{Mount, block_size, area_of, geo_at, open_refusal}
use Rattle.model.specs.Volume.{file_limit}
use Rattle.dir_entry.specs.declared.Kind.{Kind}
use Rattle.dir_entry.specs.declared.Kind.TheVariants.{Dir}
use Rattle.dir_entry.specs.declared.DirEntry.{DirEntry}
use Rattle.dir_entry.specs.Entry.{is_file}
use Rattle.read_dir.specs.declared.Listed.{Listed}
use Rattle.read_dir.specs.Walk.{walk}
use Rattle.read_dir.specs.Finds.{sum_from, skip, list_from, records_from}
use Rattle.path.specs.Path.{slash, path_limit, real_path, path_refusal, last_name}
use Rattle.dir.specs.Resolve.{Held, entry_of, open_dir}
use Rattle.handle.specs.declared.Handle.{Handle}
use Rattle.handle.specs.declared.CountedOut.{CountedOut}
use Rattle.handle.specs.Handles.{new_handle}
use Rattle.file_read.specs.Read.{read_refusal, bytes_read}
use Rattle.file_read.specs.Post.{CountedIs}
use Rattle.call_read.specs.declared.OpenOut.{OpenOut}
use Rattle.call_read.specs.declared.InfoOut.{InfoOut}
use Rattle.call_read.specs.declared.About.{About}
use Rattle.call_read.specs.Says.{on_answer, IfRefused}

-- O5: 1, 2, 3, 4
unfoldable pub path_call : Mount → List ℕ → List ℕ → List ℕ → ℕ
path_call M I cwd p = first_of (open_refusal M I ∷ (path_refusal cwd p ∷ []))

-- F1, F3: the block size and the data area of the image's volume.
abbrev pub size : Mount → List ℕ → ℕ
size M I = block_size (geo_at M I)

abbrev pub area_at : Mount → List ℕ → Area
area_at M I = area_of (geo_at M I)

-- What a call by a path begins with: none of these refuses it, s has the numbers of the image's volume, and the full path
-- stands in the first n bytes of l.
pub record Starts (M : Mount) (I cwd p l : List ℕ) (s : SuperBlock) (n : ℕ) : Type 0 where
  pub good : path_call M I cwd p ≡ 0
  pub fit : Fit s I
  pub area : area_in s ≡ area_at M I
  pub within : n ≤ path_limit
  pub path : take n l ≡ real_path cwd p

abbrev pub StartIs : Mount → List ℕ → List ℕ → List ℕ → List ℕ → Result (SuperBlock × ℕ) Refusal → Type 0
StartIs M I cwd p l (Ok x) = Starts M I cwd p l x.0 x.1
StartIs M I cwd p l (Err r) = path_call M I cwd p ≡ refusal_number r

-- ---- open

-- H1, H5: of the directory at a, on the file whose entry is e
abbrev pub handle_for : ℕ → DirEntry → List ℕ → Handle
handle_for a e x = new_handle (record { 0 = a }) x e.addr e.size

-- H6: what a refused open gives
abbrev pub no_handle : Handle
no_handle = record { dir = record { 0 = 0 }; name = zeros 255; len = 0; addr = record { 0 = 0 }; size = 0; position = 0 }

-- C4, R6, R10: an entry that is a file's, and not too long
unfoldable pub open_entry : List ℕ → Held → Reply Handle
open_entry x h =
    pick (is_file h.entry.kind) (pick (ltb file_limit h.entry.size) (refused 10)
    (accepted (handle_for h.dir h.entry x))) (refused 6)

-- at the full path l
unfoldable pub open_on : Area → List ℕ → List ℕ → Reply Handle
open_on A I l = and_then (entry_of A I l) (open_entry (last_name l))

unfoldable pub open_reply : Mount → List ℕ → List ℕ → List ℕ → Reply Handle
open_reply M I cwd p = given (path_call M I cwd p) (open_on (area_at M I) I (real_path cwd p))

-- ---- info

-- C5: what info tells. The name stands in the first len bytes of an array of 255, zeros after it.
abbrev pub about : Kind → ℕ → ℕ → List ℕ → About
about k s t x = record { kind = k; size = s; time = t; len = length x; name = padded 255 x }

-- H6: what a refused info gives
abbrev pub no_about : About
no_about = record { kind = Dir; size = 0; time = 0; len = 0; name = zeros 255 }

abbrev pub about_entry : List ℕ → Held → Reply About
about_entry x h = accepted (about h.entry.kind h.entry.size h.entry.time x)

-- C5: the root has no entry of its own, so its size is summed up, its time is 0 and its name empty
abbrev pub about_root : Result ℕ Damage → Reply About
about_root (Ok s) = accepted (about Dir s 0 [])
about_root (Err d) = refused 17

-- P6: of the path p, whose full path is l; the root only where p is a slash and nothing else
unfoldable pub info_on : Area → List ℕ → List ℕ → List ℕ → Reply About
info_on A I l p = pick (same p (slash ∷ [])) (about_root (sum_from 0 (walk A I A.first)))
    (and_then (entry_of A I l) (about_entry (last_name l)))

unfoldable pub info_reply : Mount → List ℕ → List ℕ → List ℕ → Reply About
info_reply M I cwd p = given (path_call M I cwd p) (info_on (area_at M I) I (real_path cwd p) p)

-- ---- list

-- C6: the bytes of the records, and the number of the entry behind them
abbrev pub counts_of : Result Listed Damage → Reply Listed
counts_of (Ok l) = accepted l
counts_of (Err d) = refused 17

-- P5: all of the full path l leads to the directory; from entry number i on, into a buffer of cap bytes.
unfoldable pub list_on : Area → List ℕ → List ℕ → ℕ → ℕ → Reply Listed
list_on A I l i cap = and_then (open_dir A I l) (λ a. counts_of (list_from cap 0 i (skip i (walk A I a))))

unfoldable pub list_reply : Mount → List ℕ → List ℕ → List ℕ → ℕ → ℕ → Reply Listed
list_reply M I cwd p i cap = given (path_call M I cwd p) (list_on (area_at M I) I (real_path cwd p) i cap)

-- The bytes of the records, where the directory is found.
abbrev pub records_at : Area → List ℕ → ℕ → ℕ → Reply ℕ → List ℕ
records_at A I i cap (accepted a) = records_from cap 0 (skip i (walk A I a))
records_at A I i cap (refused k) = []

unfoldable pub records_on : Area → List ℕ → List ℕ → ℕ → ℕ → List ℕ
records_on A I l i cap = records_at A I i cap (open_dir A I l)

-- x where the call is accepted, else y
abbrev pub on_reply : {A B : Type 0} → Reply A → B → B → B
on_reply (accepted a) x y = x
on_reply (refused k) x y = y

-- ---- what the answers say

-- Open: the handle, and an empty one where it is refused.
abbrev pub open_says : OpenOut → Reply Handle
open_says o = on_answer o.answer o.handle

pub record OpenIs (r : Reply Handle) (o : OpenOut) : Type 0 where
  pub answer : open_says o ≡ r
  pub empty : IfRefused o.answer (o.handle ≡ no_handle)

abbrev pub Opens : Mount → List ℕ → List ℕ → List ℕ → OpenOut → Type 0
Opens M I cwd p o = OpenIs (open_reply M I cwd p) o

-- Info: likewise.
abbrev pub about_of : InfoOut → About
about_of o = record { kind = o.kind; size = o.size; time = o.time; len = o.len; name = o.name }

abbrev pub info_says : InfoOut → Reply About
info_says o = on_answer o.answer (about_of o)

pub record InfoIs (r : Reply About) (o : InfoOut) : Type 0 where
  pub answer : info_says o ≡ r
  pub empty : IfRefused o.answer (about_of o ≡ no_about)

abbrev pub Informs : Mount → List ℕ → List ℕ → List ℕ → InfoOut → Type 0
Informs M I cwd p o = InfoIs (info_reply M I cwd p) o

-- List, C6, D1: the answer q, and the buffer from buf to out, where rs are the records' bytes. A refusal leaves all of the
-- buffer.
pub record ListIs (r : Reply Listed) (rs buf out : List ℕ) (q : Result Listed Refusal) : Type 0 where
  pub answer : says q ≡ r
  pub buffer : out ≡ on_reply r (splice buf 0 rs) buf

abbrev pub Lists : Mount → List ℕ → List ℕ → List ℕ → ℕ → List ℕ → Result Listed Refusal → List ℕ → Type 0
Lists M I cwd p i buf q out =
    ListIs (list_reply M I cwd p i (length buf)) (records_on (area_at M I) I (real_path cwd p) i (length buf)) buf out q

-- C7, O6: 1, 2, 3, then what handle, directory and chain are refused by; the count, the handle and the buffer, from buf to out.
unfoldable pub read_call : Mount → List ℕ → Handle → ℕ → ℕ
read_call M I h len = first_of (open_refusal M I ∷ (read_refusal (area_at M I) I h len ∷ []))

abbrev pub Reads : Mount → List ℕ → Handle → List ℕ → List ℕ → CountedOut → Type 0
Reads M I h buf out o =
    CountedIs (read_call M I h (length buf)) h o.handle (bytes_read (area_at M I) I h (length buf)) buf out o.answer
