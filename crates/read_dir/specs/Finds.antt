-- 3. What is asked of a walk: an entry by its name, the sum, a listing. None goes further than it must. Definitions alone.
use Rattle.std.specs.Prelude.{List, [], ◌∷◌, ◌++◌, ℕ, zero, suc, ◌+◌, ltb, Option, Some, None, Result, Ok, Err}
use Rattle.wire.specs.Be.{bytes, splice}
use Rattle.wire.specs.Pick.{pick, same}
use Rattle.dir_entry.specs.declared.DirEntry.{DirEntry}
use Rattle.dir_entry.specs.Entry.{kind_byte, header}
use Rattle.read_dir.specs.Walk.{Walk, item, finished, damaged}
use Rattle.read_dir.specs.declared.Place.{Place}
use Rattle.limits.specs.declared.Damage.{Damage}
use Rattle.limits.specs.Says.{damage}
use Rattle.read_dir.specs.declared.Placed.{Placed}
use Rattle.read_dir.specs.declared.Listed.{Listed}

-- The place of an entry.
abbrev pub placed : ℕ → ℕ → Place
placed a o = record { block = record { 0 = a }; offset = o }

-- O12: a lookup ends at the first entry of that name, so that damage behind it is not met.
unfoldable pub find_in : List ℕ → Walk → Result (Option Placed) Damage
find_in name (item e a o x w) = pick (same x name) (Ok (Some (record { entry = e; place = placed a o }))) (find_in name w)
find_in name finished = Ok None
find_in name damaged = Err damage

-- W4, C5: a directory's sum, s being that of the entries before
unfoldable pub sum_from : ℕ → Walk → Result ℕ Damage
sum_from s (item e a o x w) = sum_from (s + (header + e.len)) w
sum_from s finished = Ok s
sum_from s damaged = Err damage

-- C6: an entry's record: as its bytes on disk, without the address
unfoldable pub record_of : DirEntry → List ℕ → List ℕ
record_of e x = (kind_byte e.kind ∷ (bytes 4 e.size ++ bytes 8 e.time)) ++ (e.len ∷ x)

-- C6: a listing from entry number i on: without the first i entries. Past the last one nothing remains, and the number stays i.
unfoldable pub skip : ℕ → Walk → Walk
skip zero w = w
skip (suc i) (item e a o x w) = skip i w
skip (suc i) finished = finished
skip (suc i) damaged = damaged

-- C6: records go in while they are together strictly shorter than the buffer; cap is its length,
-- b the bytes so far and i the number reached. O12: it ends at the first record that does not fit.
unfoldable pub list_from : ℕ → ℕ → ℕ → Walk → Result Listed Damage
list_from cap b i (item e a o x w) = pick (ltb (b + (14 + e.len)) cap)
    (list_from cap (b + (14 + e.len)) (i + 1) w)
    (Ok (record { bytes = b; next = i }))
list_from cap b i finished = Ok (record { bytes = b; next = i })
list_from cap b i damaged = Err damage

-- The bytes of those records.
unfoldable pub records_from : ℕ → ℕ → Walk → List ℕ
records_from cap b (item e a o x w) =
    pick (ltb (b + (14 + e.len)) cap) (record_of e x ++ records_from cap (b + (14 + e.len)) w) []
records_from cap b finished = []
records_from cap b damaged = []

-- C6, D1: what is behind the records stays, and a refusal leaves all of it.
abbrev pub on_listed : Result Listed Damage → List ℕ → List ℕ → List ℕ
on_listed (Ok l) rs buf = splice buf 0 rs
on_listed (Err e) rs buf = buf
