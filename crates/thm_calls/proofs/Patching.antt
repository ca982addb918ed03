-- The public patch and the tree: an accepted one is the model's, and leaves what a write of the buffer with the file's own bytes behind it
-- leaves; a refused one leaves all as it was.
use mathlib.Core.Path.{◌≡◌, sym, ap, ◌∙◌, subst}
use mathlib.Core.List.{List}
use Prim.Native.Nat.{ℕ, ◌+◌, ◌^◌, ◌<◌}
use lib.ListN.{length}
use Rattle.model.specs.Answers.{Reply, accepted, and_then, settle}
use Rattle.limits.specs.Refusals.{refusal_number}
use Rattle.limits.specs.declared.Refusal.{Refusal}
use Rattle.model.specs.Tree.{Name}
use Rattle.model.specs.Geometry.{Mount, geo_at}
use Rattle.model.specs.Volume.{WellFormed, max_depth}
use Rattle.model.specs.Steps.{Bytes}
use Rattle.model.specs.Calls.{DirAt, TreePatches}
use Rattle.model.proofs.Replies.{settle-none, given_none, given_accepted, then-accepted, first_refused, accepted-one}
use Rattle.handle.specs.declared.Handle.{Handle}
use Rattle.handle.specs.declared.CountedOut.{CountedOut}
use Rattle.handle.specs.Handles.{name_of, moved}
use Rattle.write.specs.Writing.{Target, target_of, grown_handle, handle_after, count_of}
use Rattle.patch.specs.Patching.{patch_target, patched_at, patched_image, handle_behind}
use Rattle.patch.specs.OnTree.{Patchable}
use Rattle.patch.proofs.Targets.{whole_of, accepted_is, patch_is, write_target, write_image}
use Rattle.call_volume.specs.Checking.{check_refusal}
use Rattle.call_change.specs.Changing.{write_reply, Writes}
use Rattle.call_patch.specs.Patches.{patch_reply, Patches}
use Rattle.call_volume.proofs.Checked.{check_passed}
use Rattle.thm_calls.proofs.Changing.{settle_kept, volume_at}
use Rattle.thm_calls.proofs.Stored.{bytes_patched}
use Rattle.std.specs.Prelude.{Ok, Err}
use Rattle.limits.specs.Says.{says}

module _ (M : Mount) (I W : List ℕ) (h : Handle) (buf : List ℕ) (now : ℕ) (o : CountedOut) (J Z : List ℕ) (c : Patches M I W h buf now o J Z) where
  patch_reply_lem : (k : ℕ) → o.answer ≡ Ok k → (τ : Target) × (patch_reply M I (length W) h (length buf) ≡ accepted τ)
  unfolding count_of
  patch_reply_lem k e =
      let b = then-accepted (patch_reply M I (length W) h (length buf)) _ k (sym (ap says (sym e) ∙ c.answer)) in
      (b.0, b.1)

  -- what it has passed
  pub patch_passed : (k : ℕ) → o.answer ≡ Ok k → (check_refusal M I (length W) ≡ 0) × (τ : Target) × (patch_target (geo_at M I) I h (length buf) ≡ accepted τ)
  unfolding patch_reply
  patch_passed k e =
      let b = patch_reply_lem k e in
      let a = given_accepted (check_refusal M I (length W)) _ b.0 b.1 in
      (a.0, b.0, a.1)

  -- An accepted patch: the image was well formed,
  pub patch_before : (k : ℕ) → Bytes I → o.answer ≡ Ok k → WellFormed M I
  patch_before k b e = (check_passed M I (length W) b (patch_passed k e).0).2

  pub patch_on : (k : ℕ) (w : WellFormed M I) → o.answer ≡ Ok k → Patchable max_depth w.tree h (length buf)
  patch_on k w e = let a = patch_passed k e in accepted_is (geo_at M I) I w.tree (volume_at M I w) h (length buf) a.1 a.2

  -- it is the model's patch on the file of the handle,
  pub patch_tree : (k : ℕ) (w : WellFormed M I) → now < 2 ^ 64 → o.answer ≡ Ok k
      → (q : List Name) × DirAt max_depth h.dir.0 q w.tree × TreePatches (geo_at M I) max_depth q (name_of h) now h.position buf w.tree I J
  patch_tree k w clock e =
      let a = patch_passed k e in
      subst (λ (X : List ℕ). (q : List Name) × DirAt max_depth h.dir.0 q w.tree × TreePatches (geo_at M I) max_depth q (name_of h) now h.position buf w.tree I X)
      (sym (c.image ∙ settle-none _ I a.0)) (patch_is (geo_at M I) I w.tree (volume_at M I w) h buf now a.1 clock a.2)

  -- the image afterwards is a list of bytes where what is patched in is one,
  pub patch_bytes : (k : ℕ) → Bytes I → Bytes buf → o.answer ≡ Ok k → Bytes J
  unfolding patched_image
  patch_bytes k b d e =
      let a = patch_passed k e in
      let t : Target = a.1 in
      subst Bytes (sym (c.image ∙ settle-none _ I a.0))
      (subst (λ (x : Reply Target). Bytes (patched_at (geo_at M I) I h buf now x)) (sym a.2)
      (bytes_patched (geo_at M I) I b t.entry t.place h.position buf d now))

  -- and the handle stands behind the buffer.
  pub patch_handle : (k : ℕ) → o.answer ≡ Ok k → (k ≡ length buf) × (o.handle ≡ moved h (h.position + length buf))
  unfolding count_of and_then
  patch_handle k e =
      let b = patch_reply_lem k e in
      let n : accepted k ≡ accepted (length buf) = ap says (sym e) ∙ c.answer ∙ ap (count_of (length buf)) b.1 in
      (accepted-one k (length buf) n, c.handle ∙ ap (handle_behind h (length buf)) b.1)

  -- A refused patch leaves the image, and answers the very handle.
  pub patch_kept : (x : Refusal) → o.answer ≡ Err x → (J ≡ I) × (o.handle ≡ h)
  unfolding count_of patch_reply patched_image
  patch_kept x e =
      let b = first_refused (patch_reply M I (length W) h (length buf)) (λ t. length buf) (refusal_number x) (sym (ap says (sym e) ∙ c.answer)) in
      (c.image ∙ settle_kept (check_refusal M I (length W)) _ (refusal_number x) _ I b (λ i f. ap (patched_at (geo_at M I) I h buf now) f), c.handle ∙ ap (handle_behind h (length buf)) b)

  -- ---- as a write

  -- It is accepted, and leaves the same image and work buffer.
  pub patch_writes : (k : ℕ) (w : WellFormed M I) (e : o.answer ≡ Ok k)
      → Writes M I W h (whole_of max_depth w.tree h buf (patch_on k w e).on_file) now
      (record { answer = Ok (length (whole_of max_depth w.tree h buf (patch_on k w e).on_file)); handle = grown_handle h (length (whole_of max_depth w.tree h buf (patch_on k w e).on_file)) }) J Z
  unfolding write_reply count_of and_then
  patch_writes k w e =
      let a = patch_on k w e in
      let v = volume_at M I w in
      let p = patch_passed k e in
      let vs : List ℕ = whole_of max_depth w.tree h buf a.on_file in
      let t = sym (given_none (target_of (geo_at M I) I h (length vs)) p.0 ∙ write_target (geo_at M I) I w.tree v h buf a) in
      record {
        answer = ap (count_of (length vs)) t;
        handle = ap (handle_after h (length vs)) t;
        image = c.image ∙ ap (λ (x : List ℕ). settle (check_refusal M I (length W)) x I) (write_image (geo_at M I) I w.tree v h buf a now);
        work = c.work;
      }
