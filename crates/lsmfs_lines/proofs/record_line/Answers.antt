use native.Mathlib.Omega.{arith}
use Rattle.lsmfs_lines.proofs.Texts.{name_short, record_lined}
use Rattle.lsmfs_lines.proofs.record_line.Goals as goal

pub returns : goal.returns
returns c =
    let a = c.args in
    let e = c.next-end.ensures in
    let t = c.line.ensures in record { out_after = record_lined a.records.now a.at _ e (omega arith) a.out.now _ a.to _ _ _ _ c.from-kind.ensures c.get32-size.ensures c.get-time.ensures.0 (t.out_after, t.value); upper_bound = omega (arith, t.upper_bound, name_short a.records.now a.at _ e (omega arith)) }
