-- A page of the listing: the lines of the root's entries, as many as have their records in a buffer of cap bytes. Definitions
-- alone.
use Rattle.std.specs.Prelude.{◌≡◌, List, [], ◌++◌, ℕ, length, Result, Ok, Err}
use Rattle.wire.specs.Be.{splice}
use Rattle.model.specs.Answers.{Reply, accepted, refused, given}
use Rattle.model.specs.Geometry.{Mount, open_refusal}
use Rattle.read_dir.specs.declared.Listed.{Listed}
use Rattle.read_dir.specs.Walk.{Walk, item, finished, damaged, walk}
use Rattle.read_dir.specs.Finds.{skip, list_from}
use Rattle.call_read.specs.Reading.{area_at, on_reply}
use Rattle.lsmfs_lines.specs.Line.{line_of}
use Rattle.lsmfs_lines.specs.Text.{lines_from}
use Rattle.limits.specs.Says.{says}
use Rattle.limits.specs.declared.Damage.{Damage}
use Rattle.limits.specs.declared.Refusal.{Refusal}

-- F11: the entries of the root, which begins in block D, from number i on.
abbrev pub root_from : Mount → List ℕ → ℕ → Walk
root_from M I i = skip i (walk (area_at M I) I (area_at M I).first)

-- C16: a line for each of them whose record a page has room for
unfoldable pub page_text : Mount → List ℕ → ℕ → ℕ → List ℕ
page_text M I i cap = lines_from cap 0 (root_from M I i)

-- all of them
unfoldable pub all_lines : Walk → List ℕ
all_lines (item e a o x w) = line_of e.kind e.size e.time x ++ all_lines w
all_lines finished = []
all_lines damaged = []

-- the bytes of the lines in place of those of the records
abbrev pub text_counts : Result Listed Damage → List ℕ → Reply Listed
text_counts (Ok l) t = accepted (record { bytes = length t; next = l.next })
text_counts (Err d) t = refused 17

unfoldable pub page_reply : Mount → List ℕ → ℕ → ℕ → Reply Listed
page_reply M I i cap = given (open_refusal M I) (text_counts (list_from cap 0 i (root_from M I i)) (page_text M I i cap))

-- The answer q: how many bytes of text, and the number of the entry after them; the text at the buffer's start, whose rest stays.
pub record Pages (M : Mount) (I : List ℕ) (i cap : ℕ) (buf out : List ℕ) (q : Result Listed Refusal) : Type 0 where
  pub answer : says q ≡ page_reply M I i cap
  pub buffer : out ≡ on_reply (page_reply M I i cap) (splice buf 0 (page_text M I i cap)) buf
