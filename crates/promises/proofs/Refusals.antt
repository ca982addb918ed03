-- D2 is kept: the calls answer just what the tree says.
use native.Mathlib.Omega.{arith}
use Rattle.promises.specs.Refusals.{RefusalIsExact, RoomIsExact}
use Rattle.promises.proofs.Looks.{opens, informs, lists}
use Rattle.promises.proofs.Creates.{creates_file, creates_dir}
use Rattle.promises.proofs.Deletes.{deletes}
use Rattle.promises.proofs.Handles.{writes, reads}
use Rattle.promises.proofs.Patched.{patches}
use Rattle.promises.proofs.Rooms.{write_full, create_full, create_dir_full}

pub refusal_is_exact : RefusalIsExact
refusal_is_exact =
    record {
      opens = opens;
      informs = informs;
      lists = lists;
      creates_file = creates_file;
      creates_dir = creates_dir;
      deletes = λ M I W b w long. deletes M I W b w (omega (arith, long));
      writes = writes;
      patches = patches;
      reads = reads;
    }

pub room_is_exact : RoomIsExact
room_is_exact = record { write_full = write_full; create_full = create_full; create_dir_full = create_dir_full }
