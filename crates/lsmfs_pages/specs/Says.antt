-- What the listing program writes of an image, one turn of it: a page of lines, or the line of a refusal. Definitions alone.
use Rattle.std.specs.Prelude.{Bool, true, false, ◌≡◌, List, [], ◌∷◌, ℕ, length}
use Rattle.wire.specs.Be.{splice}
use Rattle.model.specs.Geometry.{Mount}
use Rattle.model.specs.Answers.{Reply, accepted, refused, first_of}
use Rattle.model.specs.Volume.{WellFormed}
use Rattle.call_volume.specs.Checking.{check_call}
use Rattle.lsmfs_lines.specs.Line.{refused_line}
use Rattle.lsmfs_pages.specs.declared.Said.{Said}
use Rattle.lsmfs_pages.specs.Page.{page_text, page_reply}
use Rattle.read_dir.specs.declared.Listed.{Listed}

-- A text at the buffer's start, whose rest stays; its length, and the number of the entry after it.
abbrev pub Told : List ℕ → List ℕ → List ℕ → ℕ → Said → Type 0
Told buf out text next s = (out ≡ splice buf 0 text) × (s.len ≡ length text) × (s.next ≡ next)

-- What a page's answer makes the program write, where its text is that.
abbrev pub OnPage : Reply Listed → List ℕ → List ℕ → List ℕ → ℕ → Said → Type 0
OnPage (accepted c) buf out text i s = Told buf out text c.next s
OnPage (refused n) buf out text i s = Told buf out (refused_line n) i s

-- the number that the check refuses with
abbrev pub check_number : Mount → List ℕ → ℕ
check_number M I = first_of (check_call M I 16 ∷ (17 ∷ []))

-- C16: an input that goes on past the buffer is refused as no image, then what the whole check refuses is refused with its
-- number; a well-formed volume has its root listed, from entry number i on.
pub record Says (M : Mount) (I : List ℕ) (more : Bool) (i : ℕ) (buf out : List ℕ) (s : Said) : Type 0 where
  pub long : more ≡ true → Told buf out (refused_line 1) i s
  pub refuses : more ≡ false → (check_call M I 16 ≡ 0 → WellFormed M I → ⊥) → Told buf out (refused_line (check_number M I)) i s
  pub lists : more ≡ false → check_call M I 16 ≡ 0 → WellFormed M I
      → OnPage (page_reply M I i 1024) buf out (page_text M I i 1024) i s
