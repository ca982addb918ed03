-- Every promise is kept.
use native.Mathlib.Omega.{arith}
use Rattle.promises.specs.Promises.{StaysWell, UsedIsTrue, PathIsRestored, OthersKept, CounterIsSafe}
use Rattle.promises.proofs.Answered.{value_said}
use Rattle.limits.proofs.Said.{said_ok}
use Rattle.promises.proofs.Path.{calls_well, calls_restore}
use Rattle.promises.proofs.Counter.{stale_kept, stale_answer, current_again}
use Rattle.promises.proofs.Patched.{patched_well, patch_used, patch_others}
use Rattle.promises.proofs.Kept.{write_others, create_file_others, create_dir_others, delete_others}
use Rattle.promises.proofs.Well.{format_well, file_well, dir_well, deleted_well, written_well, check_well}
use Rattle.promises.proofs.Well.{format_used, create_file_used, create_dir_used, delete_used, write_used}

-- D1 is `one_outcome` and `refusal_keeps`, of Once; S6 is `calls_are_exact`, of Called, and S7 `check_is_exact`, of Checks.
-- D2 is `refusal_is_exact` and `room_is_exact`, of Refusals, and S5 `work_is_done`, of Work.

-- S1.
pub stays_well : StaysWell
stays_well =
    record {
      format = format_well;
      create_file = file_well;
      create_dir = dir_well;
      delete = deleted_well;
      write = written_well;
      patch = patched_well;
      check = λ M I W Z r c w long. check_well M I W Z r c w (omega (arith, long));
    }

-- S2.
pub used_is_true : UsedIsTrue
used_is_true =
    record {
      format = format_used;
      create_file = create_file_used;
      create_dir = create_dir_used;
      delete = delete_used;
      write = write_used;
      patch = patch_used;
    }

-- D3.
pub path_is_restored : PathIsRestored
path_is_restored = record { well = calls_well; restored = calls_restore }

-- S3.
pub others_kept : OthersKept
others_kept =
    record {
      write = λ M I W h buf now o J Z c k e. write_others M I W h buf now o J Z c k (said_ok o.answer k e);
      patch = patch_others;
      create_file = λ M I W cwd p now o J Z c a e.
          create_file_others M I W cwd p now o J Z c (value_said o.answer o.handle a e);
      create_dir = λ M I W cwd p now r J Z c e. create_dir_others M I W cwd p now r J Z c (said_ok r tt e);
      delete = λ M I W cwd p now r J Z c e. delete_others M I W cwd p now r J Z c (said_ok r tt e);
    }

-- S4.
pub counter_is_safe : CounterIsSafe
counter_is_safe = record { stale_kept = stale_kept; stale_answer = stale_answer; current_again = current_again }
