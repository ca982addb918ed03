-- What the functions answer, as it is on paper. Definitions alone.
use Rattle.std.specs.Prelude.{ℕ}
use Rattle.block.specs.declared.Addr.{Addr}
use Rattle.dir.specs.Resolve.{Held}
use Rattle.dir.specs.Hold.{Hold}
use Rattle.dir.specs.declared.Located.{Located}
use Rattle.dir.specs.declared.Holding.{Holding}

abbrev pub number_of : Addr → ℕ
number_of a = a.0

abbrev pub located : Located → Held
located x = record { dir = x.dir.0; entry = x.entry }

abbrev pub hold_of : Holding → Hold
hold_of h = record { dir = h.dir.0; own = h.own; depth = h.depth }
