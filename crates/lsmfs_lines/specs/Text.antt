-- The lines of a listing's records, and those of a walk's entries. Definitions alone.
use Rattle.std.specs.Prelude.{List, [], ◌++◌, ℕ, zero, suc, ◌+◌, ltb, leb, length, get_or, take, drop}
use Rattle.wire.specs.Be.{be}
use Rattle.wire.specs.Pick.{pick}
use Rattle.dir_entry.specs.Entry.{kind_at}
use Rattle.read_dir.specs.Walk.{Walk, item, finished, damaged}
use Rattle.lsmfs_lines.specs.Line.{line_of}

-- C6: where the record after the one at byte `at` begins, and the line of that one.
abbrev pub next_at : List ℕ → ℕ → ℕ
next_at l at = at + 14 + get_or l (at + 13) 0

unfoldable pub line_at : List ℕ → ℕ → List ℕ
line_at l at =
    line_of (kind_at (get_or l at 0)) (be 4 l (at + 1)) (be 8 l (at + 5)) (take (get_or l (at + 13) 0) (drop (at + 14) l))

-- The lines of the records from byte `at` on, as far as there are whole ones. (The first number bounds them: each has a byte at
-- least.)
unfoldable pub text_from : ℕ → List ℕ → ℕ → List ℕ
text_from zero l at = []
text_from (suc k) l at = pick (leb (next_at l at) (length l)) (line_at l at ++ text_from k l (next_at l at)) []

abbrev pub text_of : List ℕ → List ℕ
text_of l = text_from (length l) l 0

-- C16: the lines of a walk's entries, of those whose records a listing gives (`records_from`).
unfoldable pub lines_from : ℕ → ℕ → Walk → List ℕ
lines_from cap b (item e a o x w) = pick (ltb (b + (14 + e.len)) cap)
    (line_of e.kind e.size e.time x ++ lines_from cap (b + (14 + e.len)) w) []
lines_from cap b finished = []
lines_from cap b damaged = []
