-- S5 is kept: what an accepted call answers it has done.
use mathlib.Core.Path.{subst}
use mathlib.Core.List.{[], ◌∷◌}
use Rattle.model.specs.Geometry.{geo_at}
use Rattle.model.specs.Calls.{empty_cell}
use Rattle.thm_calls.specs.Handles.{HandleOf}
use Rattle.thm_calls.specs.Named.{last_of}
use Rattle.promises.specs.Work.{WorkIsDone}
use Rattle.promises.proofs.Answered.{value_said, value_is}
use Rattle.limits.proofs.Said.{said_ok}
use Rattle.promises.proofs.Done.{write_then_read, write_leaves}
use Rattle.promises.proofs.Patched.{patch_then_read, patch_leaves}
use Rattle.promises.proofs.Reopened.{open_then_read}
use Rattle.promises.proofs.CreateLeaves.{create_file_leaves, create_dir_leaves, create_changes}
use Rattle.promises.proofs.Gone.{delete_leaves}

pub work_is_done : WorkIsDone
work_is_done =
    record {
      write_then_read = λ M I W h buf now o J Z c k e clock name w. write_then_read M I W h buf now o J Z c k e clock w name;
      write_leaves = write_leaves;
      patch_then_read = λ M I W h buf now o J Z c k e clock name w.
          let r = patch_then_read M I W h buf now o J Z c k e w clock name in (
            r.0,
            λ i low s a rbuf out q b. let x = r.1 i low s a rbuf out q b in (x.0, search x.1, search x.2),
          );
      patch_leaves = λ M I W h buf now o J Z c k e clock w v.
          let r = patch_leaves M I W h buf now o J Z c k e w clock v in (r.0, r.1, search r.2, r.3, search r.4);
      open_then_read = open_then_read;
      create_file_leaves = λ M I W cwd p now o J Z c h e clock w v.
          let r = create_file_leaves M I W cwd p now o J Z c (value_said o.answer o.handle h e) clock w v in (
            r.0,
            r.1,
            r.2,
            r.3,
            subst (HandleOf r.1 (last_of cwd p) 0 (empty_cell (geo_at M I) r.0 ∷ []))
                (value_is o.answer o.handle h e) r.4,
          );
      create_dir_leaves = λ M I W cwd p now r J Z c e. create_dir_leaves M I W cwd p now r J Z c (said_ok r tt e);
      create_changes = λ M I W cwd p now o J Z c h e clock w. create_changes M I W cwd p now o J Z c w clock
          (value_said o.answer o.handle h e);
      delete_leaves = λ M I W cwd p now r J Z c e clock w. delete_leaves M I W cwd p now r J Z c w clock (said_ok r tt e);
    }
