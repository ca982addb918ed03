-- W3: names are distinct in a directory. The names of a directory, and whether two are equal. Definitions alone.
use Rattle.std.specs.Prelude.{Bool, true, false, not, ◌&&◌, List, [], ◌∷◌}
use Rattle.wire.specs.Pick.{same}
use Rattle.model.specs.Tree.{Name, any}
use Rattle.read_dir.specs.Walk.{Walk, item, finished, damaged}

-- whether a name is one of these
unfoldable pub one_of : Name → List Name → Bool
one_of x ys = any (same x) ys

-- W3: no two are equal
unfoldable pub distinct : List Name → Bool
distinct [] = true
distinct (x ∷ xs) = not (one_of x xs) && distinct xs

-- The names of a directory in the order of its walk, and whether that walk ends without damage.
unfoldable pub names_in : Walk → List Name
names_in (item e a o x w) = x ∷ names_in w
names_in finished = []
names_in damaged = []

unfoldable pub ends : Walk → Bool
ends (item e a o x w) = ends w
ends finished = true
ends damaged = false
