-- The lines of the stored case of `lsmfs`, and one of a refusal, computed from the definitions.
use mathlib.Core.Path.{◌≡◌, refl, sym}
use mathlib.Core.List.{[], ◌∷◌}
use native.Mathlib.Omega.{arith}
use Rattle.wire.specs.Pick.{pick}
use Rattle.dir_entry.specs.declared.Kind.TheVariants.{Dir, File}
use Rattle.lsmfs_lines.specs.Line.{digits_within, digits, ended, line_of, refused_line}
use Rattle.lsmfs_lines.proofs.Digits.{digits_within_lem}

-- `f 3 1700000000 m1`
pub line_m1 : line_of File 3 1700000000 (109 ∷ 49 ∷ []) ≡ 102 ∷ 32 ∷ 51 ∷ 32 ∷ 49 ∷ 55 ∷ 48 ∷ 48 ∷ 48 ∷ 48 ∷ 48 ∷ 48 ∷ 48 ∷ 48 ∷ 32 ∷ 109 ∷ 49 ∷ 10 ∷ []
unfolding line_of ended digits_within pick
line_m1 =
    let s : digits 3 ≡ 51 ∷ [] = sym (digits_within_lem 9 3 (omega arith)) in
    let t : digits 1700000000 ≡ 49 ∷ 55 ∷ 48 ∷ 48 ∷ 48 ∷ 48 ∷ 48 ∷ 48 ∷ 48 ∷ 48 ∷ [] = sym (digits_within_lem 19 1700000000 (omega arith)) in
    rw (s, t)

-- `d 0 1700000060 old`
pub line_old : line_of Dir 0 1700000060 (111 ∷ 108 ∷ 100 ∷ []) ≡ 100 ∷ 32 ∷ 48 ∷ 32 ∷ 49 ∷ 55 ∷ 48 ∷ 48 ∷ 48 ∷ 48 ∷ 48 ∷ 48 ∷ 54 ∷ 48 ∷ 32 ∷ 111 ∷ 108 ∷ 100 ∷ 10 ∷ []
unfolding line_of ended digits_within pick
line_old =
    let s : digits 0 ≡ 48 ∷ [] = sym (digits_within_lem 9 0 (omega arith)) in
    let t : digits 1700000060 ≡ 49 ∷ 55 ∷ 48 ∷ 48 ∷ 48 ∷ 48 ∷ 48 ∷ 48 ∷ 54 ∷ 48 ∷ [] = sym (digits_within_lem 19 1700000060 (omega arith)) in
    rw (s, t)

-- `refused 17`
pub line_17 : refused_line 17 ≡ 114 ∷ 101 ∷ 102 ∷ 117 ∷ 115 ∷ 101 ∷ 100 ∷ 32 ∷ 49 ∷ 55 ∷ 10 ∷ []
unfolding refused_line ended digits digits_within pick
line_17 = refl
