use Rattle.read_dir.proofs.Records.{record_copied}
use native.Mathlib.Omega.{arith}
use mathlib.Core.Path.{refl}
use Rattle.dir_list.proofs.put_record.Goals as goal

pub returns : goal.returns
returns c =
    let a = c.args in
    record_copied a.v.img.now a.buf.now _ _ _ _ _ a.at _ _ a.x.entry (omega arith) (omega (arith, c.requires.size_in_bounds, c.requires.len_bound)) c.name-name.ensures c.from.ensures refl c.put.ensures c.put-2.ensures c.copy.ensures
