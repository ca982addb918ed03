-- S1, S2: what an accepted call leaves is a well-formed volume, which passes the check, and no used count is invented.
use mathlib.Core.Path.{◌≡◌, refl, sym, ap, ◌∙◌}
use mathlib.Core.List.{List}
use Prim.Native.Nat.{ℕ, ◌^◌, ◌≤◌, ◌<◌}
use lib.ListN.{length}
use Rattle.model.specs.Answers.{accepted}
use Rattle.model.specs.Tree.{blank}
use Rattle.model.specs.Render.{blocks_at}
use Rattle.model.specs.Geometry.{Mount, data_at, geo_at, format_geo}
use Rattle.model.specs.Volume.{WellFormed, max_depth}
use Rattle.model.specs.Steps.{Bytes}
use Rattle.model.proofs.OneVolume.{used_set}
use Rattle.check_bitmap.specs.Tally.{mark_long}
use Rattle.handle.specs.declared.Handle.{Handle}
use Rattle.handle.specs.declared.CountedOut.{CountedOut}
use Rattle.call_read.specs.declared.OpenOut.{OpenOut}
use Rattle.call_read.specs.Reading.{open_says}
use Rattle.call_volume.specs.Format.{Formats}
use Rattle.call_volume.specs.Checking.{Checks}
use Rattle.call_change.specs.Changing.{CreatesFile, CreatesDir, Deletes, Writes}
use Rattle.call_volume.proofs.Formatted.{format_well_formed}
use Rattle.thm_calls.proofs.Changing.{volume_at, create_file_well, create_dir_well, delete_well, write_well}
use Rattle.promises.specs.Promises.{UsedTrue}
use Rattle.promises.proofs.Answered.{value_said}
use Rattle.limits.proofs.Said.{said_ok}
use Rattle.promises.proofs.Checks.{long_reaches}
use Rattle.std.specs.Prelude.{Result, Ok, Err}
use Rattle.limits.specs.Says.{says}
use Rattle.limits.specs.declared.Refusal.{Refusal}

-- A formatted image is well formed, with an empty root: one block, with no entry.
pub format_well : (M : Mount) (I : List ℕ) (r : Result (Unit {0}) Refusal) (J : List ℕ) → Formats M I r J → says r ≡ accepted tt
    → (w : WellFormed M J) × (w.tree ≡ blank max_depth (data_at (geo_at M J)))
unfolding blank blocks_at
format_well M I r J f e =
    let w = format_well_formed M I r J f e in
    let first : data_at (format_geo M (length I)) ≡ data_at (geo_at M J)
    = sym (ap blocks_at w.1) ∙ (volume_at M J w.0).laid.root in
    (w.0, w.1 ∙ ap (blank max_depth) first)

-- A well-formed volume passes the check.
pub check_well : (M : Mount) (I W Z : List ℕ) (r : Result (Unit {0}) Refusal) → Checks M I W r Z → WellFormed M I → mark_long (geo_at M I) ≤ length W
    → says r ≡ accepted tt
check_well M I W Z (Ok u) c w long = refl
check_well M I W Z (Err x) c w long = absurd (c.answer.1 (long_reaches M I W w long) w)

-- W5, of any well-formed volume: the used count is D and the number of set bits.
used_true : (M : Mount) (J : List ℕ) → WellFormed M J → UsedTrue M J
used_true M J w = used_set (geo_at M J) J max_depth w.tree (volume_at M J w)

-- So it is after each accepted call.
pub format_used : (M : Mount) (I : List ℕ) (r : Result (Unit {0}) Refusal) (J : List ℕ) → Formats M I r J → says r ≡ accepted tt → UsedTrue M J
format_used M I r J f e = used_true M J (format_well M I r J f e).0

module _ (M : Mount) (I W : List ℕ) (now : ℕ) (J Z : List ℕ) (b : Bytes I) (clock : now < 2 ^ 64) where
  module _ (cwd p : List ℕ) (o : OpenOut) (c : CreatesFile M I W cwd p now o J Z) (a : Handle) (e : open_says o ≡ accepted a) where
    pub file_well : WellFormed M J
    file_well = create_file_well M I W cwd p now J Z o c b clock (value_said o.answer o.handle a e)

    pub create_file_used : UsedTrue M J
    create_file_used = used_true M J file_well

  module _ (cwd p : List ℕ) (r : Result (Unit {0}) Refusal) (c : CreatesDir M I W cwd p now r J Z) (e : says r ≡ accepted tt) where
    pub dir_well : WellFormed M J
    dir_well = create_dir_well M I W cwd p now J Z r c b clock (said_ok r tt e)

    pub create_dir_used : UsedTrue M J
    create_dir_used = used_true M J dir_well

  module _ (cwd p : List ℕ) (r : Result (Unit {0}) Refusal) (c : Deletes M I W cwd p now r J Z) (e : says r ≡ accepted tt) where
    pub deleted_well : WellFormed M J
    deleted_well = delete_well M I W cwd p now J Z r c b clock (said_ok r tt e)

    pub delete_used : UsedTrue M J
    delete_used = used_true M J deleted_well

  module _ (h : Handle) (buf : List ℕ) (o : CountedOut) (k : ℕ) (c : Writes M I W h buf now o J Z)
      (e : says o.answer ≡ accepted k) where
    pub written_well : WellFormed M J
    written_well = write_well M I W h buf now o J Z c k b clock (said_ok o.answer k e)

    pub write_used : UsedTrue M J
    write_used = used_true M J written_well
