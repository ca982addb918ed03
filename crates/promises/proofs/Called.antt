-- S6: each accepted changing call is the model's, on the tree of the well-formed volume that it found.
use Rattle.promises.specs.Exact.{CallsAreExact}
use Rattle.thm_calls.proofs.Changing.{create_file_before, create_file_tree, create_dir_before, create_dir_tree}
use Rattle.thm_calls.proofs.Changing.{delete_before, delete_tree, write_before, write_tree}
use Rattle.thm_calls.proofs.Patching.{patch_before, patch_tree}
use Rattle.promises.proofs.Answered.{value_said}
use Rattle.limits.proofs.Said.{said_ok}

pub calls_are_exact : CallsAreExact
calls_are_exact =
    record {
      create_file = λ M I W cwd p now o J Z c b clock h s.
          let e = value_said o.answer o.handle h s in
          let w = create_file_before M I W cwd p now J Z o c b e in
          (w, create_file_tree M I W cwd p now J Z o c w clock e);
      create_dir = λ M I W cwd p now r J Z c b clock s.
          let e = said_ok r tt s in
          let w = create_dir_before M I W cwd p now J Z r c b e in
          (w, create_dir_tree M I W cwd p now J Z r c w clock e);
      delete = λ M I W cwd p now r J Z c b clock s.
          let e = said_ok r tt s in
          let w = delete_before M I W cwd p now J Z r c b e in
          (w, delete_tree M I W cwd p now J Z r c w clock e);
      write = λ M I W h buf now o J Z c b clock k s.
          let e = said_ok o.answer k s in
          let w = write_before M I W h buf now o J Z c k b e in
          let m = write_tree M I W h buf now o J Z c k w clock e in
          (w, m.0, m.1, m.2);
      patch = λ M I W h buf now o J Z c b clock k s.
          let e = said_ok o.answer k s in
          let w = patch_before M I W h buf now o J Z c k b e in
          let n = patch_tree M I W h buf now o J Z c k w clock e in
          (w, n.0, n.1, n.2);
    }
