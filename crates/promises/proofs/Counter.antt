-- The counter's safety: a stale handle.
use mathlib.Core.Path.{◌≡◌, sym, ap, ◌∙◌, subst}
use mathlib.Core.Logic.{◌⊎◌, inl, inr}
use mathlib.Core.Bool.{false}
use mathlib.Core.Option.{some}
use mathlib.Core.List.{List}
use Prim.Native.Nat.{ℕ, ◌≤◌}
use native.Mathlib.Omega.{arith}
use lib.ListN.{length}
use Rattle.wire.proofs.Picks.{not_both}
use Rattle.model.specs.Answers.{accepted, refused, and_then, given}
use Rattle.limits.specs.declared.Refusal.{Refusal}
use Rattle.model.specs.Tree.{Name, find}
use Rattle.model.specs.Geometry.{Mount, geo_at}
use Rattle.model.specs.Volume.{WellFormed, max_depth}
use Rattle.model.specs.Steps.{Bytes}
use Rattle.model.proofs.Paths.{laid_path}
use Rattle.model.proofs.Reached.{path_none}
use Rattle.check_bitmap.specs.Tally.{mark_long}
use Rattle.handle.specs.declared.Handle.{Handle}
use Rattle.handle.specs.declared.CountedOut.{CountedOut}
use Rattle.handle.specs.Handles.{stale_fields}
use Rattle.handle.specs.OnTree.{FileIn, OnFile, Stale}
use Rattle.write.specs.Writing.{target_of, count_of}
use Rattle.write.proofs.Targets.{accepted_is, stale_is}
use Rattle.call_volume.specs.Checking.{check_refusal}
use Rattle.call_change.specs.Changing.{Writes, write_reply}
use Rattle.model.proofs.Replies.{given_none}
use Rattle.thm_calls.proofs.Changing.{volume_at, write_passed, write_before, write_kept}
use Rattle.promises.specs.Counter.{StaleAtEntry}
use Rattle.limits.proofs.Said.{answer_is}
use Rattle.promises.proofs.Checks.{long_passes}
use Rattle.std.specs.Prelude.{Ok, Err}
use Rattle.limits.specs.Says.{says}

module _ (M : Mount) (I W : List ℕ) (h : Handle) (buf : List ℕ) (now : ℕ) (o : CountedOut) (J Z : List ℕ)
    (c : Writes M I W h buf now o J Z) where
  -- A write through a handle that is stale at its entry changes neither image nor handle.
  pub stale_kept : Bytes I → StaleAtEntry M I h → (J ≡ I) × (o.handle ≡ h)
  stale_kept b s = go (answer_is o.answer)
    where
      go : ((k : ℕ) × (o.answer ≡ Ok k)) ⊎ ((x : Refusal) × (o.answer ≡ Err x))
          → (J ≡ I) × (o.handle ≡ h)
      go (inl e) =
          let w = write_before M I W h buf now o J Z c e.0 b e.1 in
          let a = write_passed M I W h buf now o J Z c e.0 e.1 in
          let t = (accepted_is (geo_at M I) I w.tree (volume_at M I w) h (length buf)).0 a.1 a.2 in
          let r : refused 11 ≡ accepted a.1
          = sym ((stale_is (geo_at M I) I w.tree (volume_at M I w) h (length buf) t.some_bytes).1 (s w)) ∙ a.2 in
          let z : ◌≡◌ {A = ℕ} 0 1 = cc in
          absurd (omega arith)
      go (inr e) = write_kept M I W h buf now o J Z c e.0 e.1

  -- Where the volume is well formed, the work buffer long enough and there are bytes to write, a stale handle gets 11.
  pub stale_answer : Bytes I → mark_long (geo_at M I) ≤ length W → 1 ≤ length buf → (w : WellFormed M I)
      → Stale max_depth w.tree h
      → says o.answer ≡ refused 11
  unfolding write_reply count_of and_then
  stale_answer all long b w s =
      let z : check_refusal M I (length W) ≡ 0 = long_passes M I W w long all in
      let t : target_of (geo_at M I) I h (length buf) ≡ refused 11
      = (stale_is (geo_at M I) I w.tree (volume_at M I w) h (length buf) b).1 s in
      let r : given (check_refusal M I (length W)) (target_of (geo_at M I) I h (length buf)) ≡ refused 11
      = given_none _ z ∙ t in
      c.answer ∙ ap (count_of (length buf)) r

-- A handle that is whole by its own fields, and whose directory has now a file entry with its name, address and size, is not
-- stale, whatever happened between.
pub current_again : (M : Mount) (I : List ℕ) (w : WellFormed M I) (h : Handle) → stale_fields h ≡ false → OnFile max_depth w.tree h
    → Stale max_depth w.tree h → ⊥
current_again M I w h f q (inl s) = not_both s f
current_again M I w h f q (inr (inl n)) = path_none max_depth h.dir.0 w.tree n q.path q.there
current_again M I w h f q (inr (inr n)) =
    let e : n.0 ≡ q.path
    = laid_path (geo_at M I) I max_depth w.tree _ n.0 q.path n.1.dir q.there.dir (volume_at M I w).laid
    n.1.there q.there.there (n.1.starts ∙ sym q.there.starts) in
    let a : some q.there.dir ≡ some n.1.dir
    = sym q.there.there ∙ ap (λ (p : List Name). find max_depth p w.tree) (sym e) ∙ n.1.there in
    let d : q.there.dir ≡ n.1.dir = cc in
    n.2 (subst (FileIn h) d q.file)
