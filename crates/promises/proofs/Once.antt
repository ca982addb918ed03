-- D1: each call has one outcome, and a refusal keeps all.
use mathlib.Core.Path.{◌≡◌, refl, sym, ap, ◌∙◌, subst}
use mathlib.Core.List.{List}
use Prim.Native.Nat.{ℕ, zero, suc}
use native.Mathlib.Omega.{arith}
use lib.ListN.{length}
use Rattle.wire.specs.Be.{splice}
use Rattle.model.specs.Answers.{Reply, refused, reply, settle}
use Rattle.handle.specs.Post.{MovedIs}
use Rattle.file_read.specs.Post.{CountedIs}
use Rattle.call_read.specs.Says.{IfRefused}
use Rattle.call_read.specs.Reading.{no_handle, no_about, about_of, on_reply, area_at, records_on, read_call}
use Rattle.file_read.specs.Read.{bytes_read}
use Rattle.path.specs.Path.{real_path}
use Rattle.call_room.proofs.Means.{room_one}
use Rattle.mfs.proofs.Outcomes.{format_one, usage_one, open_one, info_one, list_one, read_one, seek_one, create_file_one, create_dir_one, delete-one, write_one, patch_one}
use Rattle.call_volume.proofs.Checked.{check_one}
use Rattle.thm_calls.proofs.Changing.{create_file_kept, create_dir_kept, delete_kept, write_kept}
use Rattle.thm_calls.proofs.Patching.{patch_kept}
use Rattle.promises.specs.Once.{OneOutcome, RefusalKeeps}
use Rattle.promises.proofs.Answered.{value_refused}
use Rattle.limits.proofs.Said.{said_err}
use Rattle.std.specs.Prelude.{Result}
use Rattle.limits.specs.declared.Refusal.{Refusal}
use Rattle.read_dir.specs.declared.Listed.{Listed}

-- D1. Each call has one outcome.
pub one_outcome : OneOutcome
one_outcome =
    record {
      formats = format_one;
      uses = usage_one;
      asks = room_one;
      checks = check_one;
      opens = open_one;
      informs = info_one;
      lists = list_one;
      reads = read_one;
      seeks = seek_one;
      creates_file = create_file_one;
      creates_dir = create_dir_one;
      deletes = delete-one;
      writes = write_one;
      patches = patch_one;
    }

-- a refused format
format_kept : (k j : ℕ) (x y : List ℕ) → ◌≡◌ {A = Reply (Unit {0})} (refused j) (reply k tt) → settle k x y ≡ y
unfolding reply settle
format_kept zero j x y e = let z : ◌≡◌ {A = ℕ} 0 1 = cc in absurd (omega arith)
format_kept (suc k) j x y e = refl

-- D1. A refusal keeps all.
pub refusal_keeps : RefusalKeeps
refusal_keeps =
    record {
      formats = λ M I J r j c e. c.image ∙ format_kept _ j _ I (sym e ∙ c.answer);
      checks = λ M I W Z r j c e. c.work;
      opens = λ M I cwd p o j c e.
          subst (λ (y : Result (Unit {0}) Refusal). IfRefused y (o.handle ≡ no_handle)) (value_refused o.answer o.handle j e).1 c.empty;
      informs = λ M I cwd p o j c e.
          subst (λ (y : Result (Unit {0}) Refusal). IfRefused y (about_of o ≡ no_about)) (value_refused o.answer (about_of o) j e).1 c.empty;
      lists = λ M I cwd p n buf out q j c e.
          let records : List ℕ = records_on (area_at M I) I (real_path cwd p) n (length buf) in
          c.buffer ∙ ap (λ (r : Reply Listed). on_reply r (splice buf 0 records) buf) (sym c.answer ∙ e);
      reads = λ M I h buf out o j c e.
          let vs : List ℕ = bytes_read (area_at M I) I h (length buf) in
          let x = said_err o.answer j e in
          let k = subst (CountedIs (read_call M I h (length buf)) h o.handle vs buf out) x.1 c in
          (k.handle, k.kept);
      seeks = λ h from s j c e. (subst (MovedIs h from s.handle) (said_err s.answer j e).1 c).1;
      creates_file = λ M I W cwd p time J Z o j c e.
          let x = value_refused o.answer o.handle j e in
          let k = create_file_kept M I W cwd p time J Z o c x.0 x.1 in
          (k.0, k.1, c.work);
      creates_dir = λ M I W cwd p time J Z r j c e.
          let x = said_err r j e in
          (create_dir_kept M I W cwd p time J Z r c x.0 x.1, c.work);
      deletes = λ M I W cwd p time J Z r j c e.
          let x = said_err r j e in
          (delete_kept M I W cwd p time J Z r c x.0 x.1, c.work);
      writes = λ M I W h buf time o J Z j c e.
          let x = said_err o.answer j e in
          let k = write_kept M I W h buf time o J Z c x.0 x.1 in
          (k.0, k.1, c.work);
      patches = λ M I W h buf time o J Z j c e.
          let x = said_err o.answer j e in
          let k = patch_kept M I W h buf time o J Z c x.0 x.1 in
          (k.0, k.1, c.work);
    }
