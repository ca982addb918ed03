-- What callers need of text: bytes around a `/`, which never stands inside a character.
use mathlib.Core.Path.{◌≡◌, refl, ap, ◌∙◌}
use mathlib.Core.Bool.{true, false, ◌&&◌}
use mathlib.Core.List.{List, [], ◌∷◌, ◌++◌}
use Prim.Native.Nat.{ℕ, zero, suc}
use native.Mathlib.Omega.{arith}
use Rattle.wire.specs.Pick.{pick}
use Rattle.wire.proofs.Picks.{pick_false, pick_case}
use Rattle.text.specs.Text.{Range, from_to, in_range, Row, row, table, never, begun, step, text_from, is_text, slash}
use Rattle.text.proofs.Rows.{range_high}

-- ---- around a slash

-- what is due has no room for a slash, so none stands inside a character
abbrev pub NoSlash : List Range → Type 0
NoSlash [] = Unit {0}
NoSlash (r ∷ rs) = (in_range r slash ≡ false) × NoSlash rs

abbrev NoSlashes : List Row → Type 0
NoSlashes [] = Unit {0}
NoSlashes (row r rs ∷ more) = NoSlash rs × NoSlashes more

never-slash : NoSlash never
unfolding in_range
never-slash = (refl, tt)

table-slash : NoSlashes table
unfolding in_range
table-slash = (
  tt,
  (
    (refl, tt),
    (
      (refl, (refl, tt)),
      (
        (refl, (refl, tt)),
        (
          (refl, (refl, tt)),
          (
            (refl, (refl, tt)),
            ((refl, (refl, (refl, tt))), ((refl, (refl, (refl, tt))), ((refl, (refl, (refl, tt))), tt))),
          ),
        ),
      ),
    ),
  ),
)

begun-slash : (t : List Row) (c : ℕ) → NoSlashes t → NoSlash (begun t c)
unfolding begun
begun-slash [] c h = never-slash
begun-slash (row r rs ∷ more) c h = pick_case NoSlash (in_range r c) rs (begun more c) (λ e. h.0) (λ e. begun-slash more c h.1)

pub step_slash : (rs : List Range) (c : ℕ) → NoSlash rs → NoSlash (step rs c)
unfolding step
step_slash [] c h = begun-slash table c table-slash
step_slash (r ∷ rs) c h = pick_case NoSlash (in_range r c) rs never (λ e. h.1) (λ e. never-slash)

-- nothing is text where a byte is due that there is not
pub never_text : (l : List ℕ) → text_from never l ≡ false
unfolding text_from step in_range
never_text [] = search
never_text (c ∷ l) = ap (λ (rs : List Range). text_from rs l) (pick_false _ _ (none c)) ∙ never_text l
  where
    none : (c : ℕ) → in_range (from_to 1 0) c ≡ false
    none zero = refl
    none (suc k) = range_high 1 0 (suc k) (omega arith)

slash_whole : begun table slash ≡ []
unfolding begun in_range pick
slash_whole = refl

pub from_slash : (rs : List Range) (l m : List ℕ) → NoSlash rs → text_from rs (l ++ (slash ∷ m)) ≡ text_from rs l && is_text m
unfolding text_from step
from_slash [] [] m h = ap (λ (rs : List Range). text_from rs m) slash_whole
from_slash (r ∷ rs) [] m h = ap (λ (qs : List Range). text_from qs m) (pick_false _ _ h.0) ∙ never_text m
from_slash rs (c ∷ l) m h = from_slash (step rs c) l m (step_slash rs c h)

pub text_none : is_text [] ≡ true
unfolding text_from
text_none = refl

-- THE LAW: bytes with a slash in them are text exactly if those before it and those behind it are.
pub text_slash : (l m : List ℕ) → is_text (l ++ (slash ∷ m)) ≡ is_text l && is_text m
text_slash l m = from_slash [] l m tt
