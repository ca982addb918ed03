-- One directory entry: its fixed part, the rules by which a block's entries stop, and its bytes. B is the block size.
-- Definitions alone.
use Rattle.std.specs.Prelude.{Bool, true, false, List, [], ◌∷◌, ◌++◌, ℕ, ◌+◌, ◌-◌, ◌*◌, ltb, leb, eqb, get_or, take, drop, Option, Some, None}
use Rattle.wire.specs.Be.{be, bytes}
use Rattle.wire.specs.Pick.{pick}
use Rattle.dir_entry.specs.declared.Kind.{Kind}
use Rattle.dir_entry.specs.declared.Kind.TheVariants.{Dir, File, Device}
use Rattle.dir_entry.specs.declared.DirEntry.{DirEntry}

-- F9: the kind of a byte of at most 2, and the byte of a kind.
unfoldable pub kind_at : ℕ → Kind
kind_at b = pick (eqb b 0) Dir (pick (eqb b 1) File Device)

abbrev pub kind_byte : Kind → ℕ
kind_byte Dir = 0
kind_byte File = 1
kind_byte Device = 2

-- is it a directory's, a file's
abbrev pub is_dir : Kind → Bool
is_dir Dir = true
is_dir File = false
is_dir Device = false

abbrev pub is_file : Kind → Bool
is_file Dir = false
is_file File = true
is_file Device = false

-- F9: the bytes of an entry before its name: kind 1, address 4, size 4, time 8, the name's length 1.
abbrev pub header : ℕ
header = 18

-- The fixed part of the entry at byte `at` of the image.
unfoldable pub entry_at : List ℕ → ℕ → DirEntry
entry_at I at =
    record {
      kind = kind_at (get_or I at 0);
      addr = record { 0 = be 4 I (at + 1) };
      size = be 4 I (at + 5);
      time = be 8 I (at + 9);
      len = get_or I (at + 17) 0;
    }

-- Its bytes.
unfoldable pub head_bytes : DirEntry → List ℕ
head_bytes e = (kind_byte e.kind ∷ (bytes 4 e.addr.0 ++ bytes 4 e.size)) ++ (bytes 8 e.time ++ (e.len ∷ []))

-- F8: the byte of the image where offset o of block a's data stands, in blocks of B bytes.
abbrev pub place_at : ℕ → ℕ → ℕ → ℕ
place_at B a o = B * a + 4 + o

-- The name of an entry of n bytes at byte `at`.
abbrev pub name_at : List ℕ → ℕ → ℕ → List ℕ
name_at I at n = take n (drop (at + header) I)

-- F10: what stands at offset o of block a: a test for each reason to stop. By the last, all bytes of an entry are in the
-- block; by the first, those of its fixed part.
unfoldable pub slot_at : ℕ → List ℕ → ℕ → ℕ → Option DirEntry
slot_at B I a o =
    pick (leb (B - 22) o) None
    (pick (ltb 2 (get_or I (place_at B a o) 0)) None
    (pick (eqb (get_or I (place_at B a o + 17) 0) 0) None
    (pick (ltb (B - 5) (o + header + get_or I (place_at B a o + 17) 0)) None
    (Some (entry_at I (place_at B a o))))))
