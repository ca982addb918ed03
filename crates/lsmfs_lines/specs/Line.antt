-- The listing program's lines as bytes. Definitions alone.
use Rattle.std.specs.Prelude.{List, [], ◌∷◌, ◌++◌, ℕ, zero, suc, ◌+◌, ◌/◌, ◌%◌, ltb}
use Rattle.wire.specs.Pick.{pick}
use Rattle.dir_entry.specs.declared.Kind.{Kind}
use Rattle.dir_entry.specs.declared.Kind.TheVariants.{Dir, File, Device}

-- The byte of a decimal below 10.
abbrev pub decimal : ℕ → ℕ
decimal d = 48 + d

-- A number in decimal: the digits of n / 10, where that is not 0, and then the last one. (The first number bounds them: n + 1 is
-- enough.)
unfoldable pub digits_within : ℕ → ℕ → List ℕ
digits_within zero n = []
digits_within (suc k) n = pick (ltb n 10) (decimal n ∷ []) (digits_within k (n / 10) ++ (decimal (n % 10) ∷ []))

unfoldable pub digits : ℕ → List ℕ
digits n = digits_within (suc n) n

abbrev pub space : ℕ
space = 32

abbrev pub newline : ℕ
newline = 10

-- C16: the letter of a kind.
abbrev pub letter : Kind → ℕ
letter Dir = 100
letter File = 102
letter Device = 118

-- A word and the byte that ends it.
unfoldable pub ended : List ℕ → ℕ → List ℕ
ended w b = w ++ (b ∷ [])

-- C16: the line of an entry. Each line ends with a newline.
unfoldable pub line_of : Kind → ℕ → ℕ → List ℕ → List ℕ
line_of k size time x = ended (letter k ∷ []) space ++
    (ended (digits size) space ++ (ended (digits time) space ++ ended x newline))

-- C16: the line of a refusal.
abbrev pub refused_word : List ℕ
refused_word = 114 ∷ 101 ∷ 102 ∷ 117 ∷ 115 ∷ 101 ∷ 100 ∷ []

unfoldable pub refused_line : ℕ → List ℕ
refused_line n = ended refused_word space ++ ended (digits n) newline
