-- Paths as lists of bytes. Definitions alone.
use Rattle.std.specs.Prelude.{Bool, true, false, not, ◌||◌, ◌&&◌, List, [], ◌∷◌, ◌++◌, ℕ, zero, suc, ltb, eqb, length, take, drop}
use Rattle.wire.specs.Pick.{pick, same}
use Rattle.text.specs.Text.{is_text}
use Rattle.model.specs.Answers.{when}
pub use Rattle.text.specs.Text.{slash}

-- F13, P2: a full path has up to 1,024 bytes, and they are text
abbrev pub path_limit : ℕ
path_limit = 1024

unfoldable pub starts_slash : List ℕ → Bool
starts_slash [] = false
starts_slash (c ∷ l) = eqb c slash

unfoldable pub ends_slash : List ℕ → Bool
ends_slash [] = false
ends_slash (c ∷ []) = eqb c slash
ends_slash (c ∷ d ∷ l) = ends_slash (d ∷ l)

-- P1: the full path of p, by the working directory where p is not full itself
unfoldable pub real_path : List ℕ → List ℕ → List ℕ
real_path cwd p = pick (starts_slash p) p (cwd ++ (pick (ends_slash cwd) [] (slash ∷ []) ++ p))

-- R4: the working directory is looked at only where the path needs it
unfoldable pub bad_path : List ℕ → List ℕ → Bool
bad_path cwd p = (not (starts_slash p) && not (starts_slash cwd))
    || (ltb path_limit (length (real_path cwd p)) || not (is_text (real_path cwd p)))

abbrev pub path_refusal : List ℕ → List ℕ → ℕ
path_refusal cwd p = when 4 (bad_path cwd p)

-- how many bytes are left of l without the slashes at its end
unfoldable pub untrailed : List ℕ → ℕ
untrailed [] = 0
untrailed (c ∷ l) = grown (untrailed l) (eqb c slash)
  where
    grown : ℕ → Bool → ℕ
    grown zero true = 0
    grown zero false = 1
    grown (suc k) b = suc (suc k)

-- P3: without its last slashes, so that `/a/` names `/a`; but a slash alone stays
unfoldable pub trimmed : List ℕ → List ℕ
trimmed l = pick (ltb 1 (length l)) (take (untrailed l) l) l

-- P3: how many bytes of l stand before its last name, the last slash among them
unfoldable pub before_name : List ℕ → ℕ
before_name [] = 0
before_name (c ∷ l) = behind (before_name l) (eqb c slash)
  where
    behind : ℕ → Bool → ℕ
    behind zero true = 1
    behind zero false = 0
    behind (suc k) b = suc (suc k)

unfoldable pub last_name : List ℕ → List ℕ
last_name l = drop (before_name (trimmed l)) (trimmed l)

-- P3: the directory part: without the last slash, but for a slash that is the first byte
unfoldable pub dir_part : List ℕ → List ℕ
dir_part l = take (kept (before_name (trimmed l))) (trimmed l)
  where
    kept : ℕ → ℕ
    kept zero = 0
    kept (suc zero) = 1
    kept (suc (suc k)) = suc k

-- P4: the pieces of l between its slashes
unfoldable pub split : List ℕ → List (List ℕ)
split [] = [] ∷ []
split (c ∷ l) = pick (eqb c slash) ([] ∷ split l) (on_head c (split l))
  where
    on_head : ℕ → List (List ℕ) → List (List ℕ)
    on_head c [] = (c ∷ []) ∷ []
    on_head c (x ∷ xs) = (c ∷ x) ∷ xs

-- P4: l without the slashes in front
unfoldable pub unled : List ℕ → List ℕ
unled [] = []
unled (c ∷ l) = pick (eqb c slash) (unled l) (c ∷ l)

-- P4: the names on the way from the root; none for the root itself.
unfoldable pub steps : List ℕ → List (List ℕ)
steps d = pick (same d (slash ∷ [])) [] (split (unled d))
