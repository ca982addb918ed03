-- The marked examples, each computed. Bytes: `.` 46, `/` 47, `a` 97, `b` 98, `d` 100, `l` 108, `o` 111, `x` 120.
use mathlib.Core.Path.{◌≡◌, refl}
use mathlib.Core.List.{[], ◌∷◌}
use Rattle.wire.specs.Pick.{pick, same}
use Rattle.path.specs.Path.{starts_slash, ends_slash, real_path, untrailed, trimmed, before_name, last_name, dir_part, split, unled, steps}

-- `//a`: in `/`, the name `a`
pub two_slashes : (dir_part (47 ∷ 47 ∷ 97 ∷ []) ≡ 47 ∷ []) × (last_name (47 ∷ 47 ∷ 97 ∷ []) ≡ 97 ∷ [])
unfolding pick untrailed trimmed before_name last_name dir_part
two_slashes = (refl, refl)

-- `/a//b`: in `/a/`, the name `b`; the way to `/a/` goes by `a` and then an empty name
pub empty_piece : (dir_part (47 ∷ 97 ∷ 47 ∷ 47 ∷ 98 ∷ []) ≡ 47 ∷ 97 ∷ 47 ∷ []) × (last_name (47 ∷ 97 ∷ 47 ∷ 47 ∷ 98 ∷ []) ≡ 98 ∷ []) × (steps (47 ∷ 97 ∷ 47 ∷ []) ≡ (97 ∷ []) ∷ [] ∷ [])
unfolding pick same untrailed trimmed before_name last_name dir_part split unled steps
empty_piece = (refl, refl, refl)

-- `/`: in `/`, the empty name
pub root_path : (dir_part (47 ∷ []) ≡ 47 ∷ []) × (last_name (47 ∷ []) ≡ [])
unfolding pick untrailed trimmed before_name last_name dir_part
root_path = (refl, refl)

-- `//`: the empty name
pub only_slashes : last_name (47 ∷ 47 ∷ []) ≡ []
unfolding pick untrailed trimmed before_name last_name
only_slashes = refl

-- `/old/` is trimmed to `/old`
pub trailing_slash : trimmed (47 ∷ 111 ∷ 108 ∷ 100 ∷ 47 ∷ []) ≡ 47 ∷ 111 ∷ 108 ∷ 100 ∷ []
unfolding pick untrailed trimmed
trailing_slash = refl

-- `a` from `/x` and from `/x/` is `/x/a`
pub from_directory : (real_path (47 ∷ 120 ∷ []) (97 ∷ []) ≡ 47 ∷ 120 ∷ 47 ∷ 97 ∷ []) × (real_path (47 ∷ 120 ∷ 47 ∷ []) (97 ∷ []) ≡ 47 ∷ 120 ∷ 47 ∷ 97 ∷ [])
unfolding pick starts_slash ends_slash real_path
from_directory = (refl, refl)

-- the empty path from `/` is `/`
pub empty_path : real_path (47 ∷ []) [] ≡ 47 ∷ []
unfolding pick starts_slash ends_slash real_path
empty_path = refl

-- `..` is a plain name: last in `/a/..`, and on the way to `/../a`
pub dots : (last_name (47 ∷ 97 ∷ 47 ∷ 46 ∷ 46 ∷ []) ≡ 46 ∷ 46 ∷ []) × (steps (47 ∷ 46 ∷ 46 ∷ 47 ∷ 97 ∷ []) ≡ (46 ∷ 46 ∷ []) ∷ (97 ∷ []) ∷ [])
unfolding pick same untrailed trimmed before_name last_name split unled steps
dots = (refl, refl)
