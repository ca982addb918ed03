-- Handles on any image: their own fields, where a seek goes, and the entry of a handle in its directory. Definitions alone.
use Rattle.std.specs.Prelude.{
  Bool,
  false,
  not,
  ◌||◌,
  ◌&&◌,
  List,
  [],
  ◌∷◌,
  ℕ,
  ltb,
  leb,
  eqb,
  ℤ,
  pos,
  negsuc,
  ◌+ℤ◌,
  length,
  take,
  Option,
  Some,
  None,
  Result,
  Ok,
  Err,
}
use Rattle.wire.specs.Pick.{pick, same}
use Rattle.block.specs.declared.Addr.{Addr}
use Rattle.model.specs.Answers.{when, first_of}
use Rattle.model.specs.Render.{padded}
use Rattle.model.specs.Volume.{file_limit}
use Rattle.dir_entry.specs.declared.DirEntry.{DirEntry}
use Rattle.dir_entry.specs.Entry.{is_file}
use Rattle.read_dir.specs.Walk.{Walk, item, finished, damaged}
use Rattle.handle.specs.declared.Handle.{Handle}
use Rattle.handle.specs.declared.SeekFrom.{SeekFrom}
use Rattle.handle.specs.declared.SeekFrom.TheVariants.{Start, Current, End}
use Rattle.limits.specs.Says.{damage}
use Rattle.limits.specs.declared.Damage.{Damage}
use Rattle.read_dir.specs.declared.Placed.{Placed}
use Rattle.read_dir.specs.Finds.{placed}

-- H1: the name is the first len bytes of an array.
abbrev pub name_of : Handle → List ℕ
name_of h = take h.len h.name

-- H1, H5: at position 0; the holding directory's first address, the name, the file's first address and size.
abbrev pub new_handle : Addr → List ℕ → Addr → ℕ → Handle
new_handle d x a size = record { dir = d; name = padded 255 x; len = length x; addr = a; size = size; position = 0 }

-- H2: no image is needed to see it
unfoldable pub stale_fields : Handle → Bool
stale_fields h = ltb h.size h.position || (ltb file_limit h.size || (eqb h.len 0 || ltb 255 h.len))

-- H5: the handle with another position.
abbrev pub moved : Handle → ℕ → Handle
moved h p = record { dir = h.dir; name = h.name; len = h.len; addr = h.addr; size = h.size; position = p }

-- ---- seek

-- C8: as a whole number, so that no sum wraps
unfoldable pub target : Handle → SeekFrom → ℤ
target h (Start k) = pos k
target h (Current i) = pos h.position +ℤ i
target h (End i) = pos h.size +ℤ i

-- C8, R12: from 0 to the size itself
abbrev pub within : ℕ → ℤ → Bool
within size (pos t) = leb t size
within size (negsuc t) = false

abbrev pub place_in : ℤ → ℕ
place_in (pos t) = t
place_in (negsuc t) = 0

-- O7
unfoldable pub seek_refusal : Handle → SeekFrom → ℕ
seek_refusal h f = first_of (when 11 (stale_fields h) ∷ (when 12 (not (within h.size (target h f))) ∷ []))

-- ---- the entry of a handle

-- H3, R11: the entry that makes a handle current. The walk ends there; 17 for damage before it, 11 where there is none.
unfoldable pub current : Handle → DirEntry → List ℕ → Bool
current h e x = (is_file e.kind && same x (name_of h)) && (eqb e.addr.0 h.addr.0 && eqb e.size h.size)

unfoldable pub held_in : Handle → Walk → ℕ
held_in h (item e a o x w) = pick (current h e x) 0 (held_in h w)
held_in h finished = 11
held_in h damaged = 17

-- H3: the entry of a handle in a walk
unfoldable pub current_in : Handle → Walk → Result (Option Placed) Damage
current_in h (item e a o x w) = pick (current h e x) (Ok (Some (record { entry = e; place = placed a o }))) (current_in h w)
current_in h finished = Ok None
current_in h damaged = Err damage
