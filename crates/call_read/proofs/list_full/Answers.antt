use mathlib.Core.Path.{◌≡◌, ap, sym}
use Rattle.std.specs.Prelude.{Result, Ok, Err}
use Rattle.model.specs.Answers.{accepted, refused}
use Rattle.limits.specs.declared.Damage.{Damage}
use Rattle.limits.proofs.Passed.{err_is}
use Rattle.read_dir.specs.declared.Listed.{Listed}
use Rattle.call_read.specs.Reading.{counts_of}
use Rattle.call_read.proofs.Opening.{list_lost, list_gave}
use Rattle.call_read.proofs.list_full.Goals as goal

listed_is : (f : Result Listed Damage) (l : Listed) → f ≡ Ok l → accepted l ≡ counts_of f
listed_is f l e = sym (ap counts_of e)

damaged_is : (f : Result Listed Damage) (d : Damage) → f ≡ Err d → refused 17 ≡ counts_of f
damaged_is f d e = sym (ap counts_of e)

pub returns-in_err-dir : goal.returns-in_err-dir
returns-in_err-dir c = rw (err_is c.from_residual.result c.from_residual.ensures.1) (list_lost _ _ _ _ _ c.in_err-dir.ensures _ _)

pub returns-in_err-listed : goal.returns-in_err-listed
returns-in_err-listed c =
    rw (err_is c.from_residual-in_err-listed.result c.from_residual-in_err-listed.ensures.1)
    (list_gave _ _ _ _ _ c.in_ok-dir.ensures _ _ _ c.list.ensures.value c.list.ensures.buf_after _ (search (damaged_is, c.in_err-listed.was)))

pub returns : goal.returns
returns c = list_gave _ _ _ _ _ c.in_ok-dir.ensures _ _ _ c.list.ensures.value c.list.ensures.buf_after _ (search (listed_is, c.in_ok-listed.was))
