-- What the functions answer, as it is on paper. Definitions alone.
use Rattle.read_dir.specs.declared.Placed.{Placed}
use Rattle.dir.specs.declared.Holding.{Holding}
use Rattle.delete.specs.Deleting.{Doomed}

abbrev pub doomed : Holding × Placed → Doomed
doomed d = record { dir = d.0.dir.0; entry = d.1.entry; place = d.1.place; own = d.0.own }
