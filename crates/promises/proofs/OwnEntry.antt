-- After the check and the walk the own entry of the holding directory is there.
use mathlib.Core.Path.{◌≡◌, refl}
use mathlib.Core.List.{List}
use Prim.Native.Nat.{ℕ}
use native.Mathlib.Omega.{arith}
use Rattle.model.specs.Answers.{accepted}
use Rattle.model.specs.Geometry.{Mount, geo_at, block_size, area_of}
use Rattle.model.specs.Volume.{max_depth}
use Rattle.model.specs.Steps.{Bytes}
use Rattle.limits.specs.Refusals.{refusal_number}
use Rattle.limits.specs.declared.Refusal.{Refusal}
use Rattle.limits.specs.declared.Refusal.TheVariants.{BadImage, NotMfs, BadCount, BadPath, NotFound, WrongKind, Exists, BadName, NoRoom, TooLarge, Stale, BadSeek, EmptyWrite, NotEmpty, TooDeep, ShortWork, Damaged, PastEnd}
use Rattle.super_block.specs.declared.SuperBlock.{SuperBlock}
use Rattle.super_block.specs.Super.{super_block}
use Rattle.super_block.proofs.Fits.{opened_fit}
use Rattle.own_entry.specs.Own.{OwnIn}
use Rattle.path.specs.Path.{real_path, dir_part}
use Rattle.dir.specs.Hold.{Hold, hold_dir}
use Rattle.dir.proofs.HoldLaws.{hold_inside}
use Rattle.thm_path.proofs.Holding.{own_there}
use Rattle.call_volume.specs.Checking.{check_refusal}
use Rattle.call_volume.proofs.Checked.{check_passed}
use Rattle.thm_calls.specs.Named.{way_of}
use Rattle.thm_calls.proofs.Changing.{volume_at}
use Rattle.promises.specs.OwnEntry.{OwnEntryThere}

own_inside : (M : Mount) (I : List ℕ) (len : ℕ) → Bytes I → check_refusal M I len ≡ 0 → (cwd p : List ℕ) (h : Hold)
    → hold_dir (area_of (geo_at M I)) I (dir_part (real_path cwd p)) ≡ accepted h → OwnIn (block_size (geo_at M I)) I h.own
own_inside M I len b e cwd p h q =
    let s : SuperBlock = super_block (geo_at M I) in
    hold_inside s I (opened_fit M I s (check_passed M I len b e).1 refl) (dir_part (real_path cwd p)) h q

-- The number 18 is not used.
not_18 : (r : Refusal) → refusal_number r ≡ 18 → ⊥
not_18 BadImage e = omega arith
not_18 NotMfs e = omega arith
not_18 BadCount e = omega arith
not_18 BadPath e = omega arith
not_18 NotFound e = omega arith
not_18 WrongKind e = omega arith
not_18 Exists e = omega arith
not_18 BadName e = omega arith
not_18 NoRoom e = omega arith
not_18 TooLarge e = omega arith
not_18 Stale e = omega arith
not_18 BadSeek e = omega arith
not_18 EmptyWrite e = omega arith
not_18 NotEmpty e = omega arith
not_18 TooDeep e = omega arith
not_18 ShortWork e = omega arith
not_18 Damaged e = omega arith
not_18 PastEnd e = omega arith

pub own_entry_there : OwnEntryThere
own_entry_there =
    record {
      inside = own_inside;
      there = λ M I w cwd p h q. own_there (geo_at M I) I max_depth w.tree _ (way_of cwd p) (volume_at M I w).laid h q;
      numbers = not_18;
    }
