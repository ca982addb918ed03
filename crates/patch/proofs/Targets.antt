-- On a well-formed volume: each answer of a patch, exactly where the tree says so, and that an accepted patch is the model's.
use mathlib.Core.Path.{◌≡◌, refl, sym, ap, ◌∙◌, subst}
use mathlib.Core.Bool.{true, false}
use mathlib.Core.Logic.{◌⊎◌, inl, inr}
use mathlib.Core.List.{List, ◌++◌}
use Prim.Native.Nat.{ℕ, ◌+◌, ◌^◌, ◌≤◌, ◌<◌}
use native.Mathlib.Decide.{dec_lt}
use native.Mathlib.Omega.{arith}
use lib.ListN.{length, length-append}
use borrow.Author.Tests.{lt-ltb, le-ltb}
use Rattle.wire.proofs.Picks.{either}
use Rattle.model.specs.Tree.{Name, Tree}
use Rattle.model.specs.Answers.{Reply, accepted, refused, and_then}
use Rattle.model.specs.Geometry.{Geo, block_size}
use Rattle.model.specs.Volume.{blocks_for, Volume, max_depth}
use Rattle.model.specs.Calls.{DirAt, TreePatches}
use Rattle.model.proofs.Replies.{not_accepted, accepted-one}
use Rattle.handle.specs.declared.Handle.{Handle}
use Rattle.handle.specs.Handles.{name_of, stale_fields}
use Rattle.handle.specs.OnTree.{OnFile, Lost, Stale}
use Rattle.handle.proofs.Seeks.{fresh}
use Rattle.write_store.proofs.Writes.{good_file}
use Rattle.write.specs.Writing.{Target, target_of, written_image}
use Rattle.write.proofs.Targets.{aimed, file_lost, stale_held, on_held, good_target, image_is}
use Rattle.patch_store.specs.Patch.{patched, CanPatch}
use Rattle.patch_store.proofs.Tails.{tail_from}
use Rattle.patch_store.proofs.Patches.{whole_end, can_patch_is, patched-wrote, patched_is}
use Rattle.patch.specs.Patching.{past_end, ends_at, patch_target, patched_at, patched_image}
use Rattle.patch.specs.OnTree.{Patchable}
use Rattle.patch.proofs.Aims.{ends-past, ends_in, aim_empty, aim_then}

-- the buffer with the file's own bytes behind it
abbrev pub whole_of : (d : ℕ) (t : Tree d) (h : Handle) → List ℕ → OnFile d t h → List ℕ
whole_of d t h buf q = buf ++ tail_from h.size q.file.cells (h.position + length buf)

module _ (g : Geo) (I : List ℕ) (t : Tree max_depth) (v : Volume g I max_depth t) (h : Handle) where
  -- ---- each answer

  module _ (len : ℕ) (some_bytes : 1 ≤ len) where
    nonzero : len ≡ 0 → ⊥
    nonzero e = omega arith

    stale_target : Stale max_depth t h → patch_target g I h len ≡ refused 11
    unfolding and_then
    stale_target s = aim_then g I h len nonzero ∙ ap (λ (x : Reply Target). and_then x (ends_at h len)) (stale_held g I t v h s)

    module _ (fields : stale_fields h ≡ false) (q : OnFile max_depth t h) where
      on_file : patch_target g I h len ≡ ends_at h len (aimed g I t v h q)
      unfolding and_then
      on_file = aim_then g I h len nonzero ∙ ap (λ (x : Reply Target). and_then x (ends_at h len)) (on_held g I t v h fields q)

      past-target : h.size < h.position + len → patch_target g I h len ≡ refused 19
      unfolding past_end
      past-target l = on_file ∙ sym (ends-past h len (aimed g I t v h q) true (sym (lt-ltb h.size (h.position + len) l)) refl)

      pub good_patch : h.position + len ≤ h.size → patch_target g I h len ≡ accepted (aimed g I t v h q)
      unfolding past_end aimed
      good_patch l = on_file ∙ sym (ends_in h len (aimed g I t v h q) false (sym (le-ltb h.size (h.position + len) l)) refl)

  -- Every patch has one of four answers.
  pub patch_cases : (len : ℕ) (P : Reply Target → Type 0) → (len ≡ 0 → P (refused 13)) → (1 ≤ len → Stale max_depth t h → P (refused 11))
      → (1 ≤ len → stale_fields h ≡ false → (q : OnFile max_depth t h) → h.size < h.position + len → P (refused 19))
      → ((a : Patchable max_depth t h len) → P (accepted (aimed g I t v h a.on_file)))
      → P (patch_target g I h len)
  patch_cases len P p13 p11 p19 p0 = go (dec_lt 0 len) (either (stale_fields h)) (file_lost g I t v h)
    where
      open_on_lem : (some_bytes : 1 ≤ len) → (fields : stale_fields h ≡ false) → (q : OnFile max_depth t h) → Dec (h.size < h.position + len) → P (patch_target g I h len)
      open_on_lem b f q (yes l) = subst P (sym (past-target len b f q l)) (p19 b f q l)
      open_on_lem b f q (no l) =
          let k : h.position + len ≤ h.size = omega arith in
          subst P (sym (good_patch len b f q k)) (p0 (record { some_bytes = b; fields = f; on_file = q; inside = k }))

      go : Dec (0 < len) → (stale_fields h ≡ true) ⊎ (stale_fields h ≡ false) → OnFile max_depth t h ⊎ Lost max_depth t h → P (patch_target g I h len)
      go (no z) f q = let e : len ≡ 0 = omega arith in subst P (aim_empty g I h len e) (p13 e)
      go (yes b) (inl f) q = subst P (sym (stale_target len b (inl f))) (p11 b (inl f))
      go (yes b) (inr f) (inr q) = subst P (sym (stale_target len b (inr q))) (p11 b (inr q))
      go (yes b) (inr f) (inl q) = open_on_lem b f q (dec_lt h.size (h.position + len))

  -- ---- an accepted patch

  -- It is none of the others,
  accepted_case : (len : ℕ) (Q : Target → Type 0) → ((a : Patchable max_depth t h len) → Q (aimed g I t v h a.on_file))
      → (τ : Target) → patch_target g I h len ≡ accepted τ → Q τ
  accepted_case len Q c =
      patch_cases len (λ r. (τ : Target) → r ≡ accepted τ → Q τ) (λ _ τ e. absurd (not_accepted 13 τ e)) (λ _ _ τ e. absurd (not_accepted 11 τ e))
      (λ _ _ _ _ τ e. absurd (not_accepted 19 τ e)) (λ a τ e. subst Q (accepted-one (aimed g I t v h a.on_file) τ e) (c a))

  pub accepted_is : (len : ℕ) (τ : Target) → patch_target g I h len ≡ accepted τ → Patchable max_depth t h len
  accepted_is len = accepted_case len (λ τ. Patchable max_depth t h len) (λ a. a)

  -- what `patch` requires holds there,
  pub accepted_can : (buf : List ℕ) (τ : Target) → patch_target g I h (length buf) ≡ accepted τ → CanPatch g I τ.entry τ.place h.position (length buf)
  unfolding aimed
  accepted_can buf =
      accepted_case (length buf) (λ τ. CanPatch g I τ.entry τ.place h.position (length buf))
      (λ a. let q = a.on_file in
      can_patch_is g I t q.path (name_of h) q.there.dir _ q.file.time h.size q.file.cells _ _ h.position buf v q.there.there q.file.held refl refl refl a.some_bytes a.inside)

  pub patched_at_lem : (buf : List ℕ) (now : ℕ) (τ : Target) → patch_target g I h (length buf) ≡ accepted τ → patched g I τ.entry τ.place h.position buf now ≡ patched_image g I h buf now
  unfolding patched_image
  patched_at_lem buf now τ e = sym (ap (patched_at g I h buf now) e)

  -- and it is the model's: of the file of the handle's name, in the directory of the handle's address.
  pub patch_is : (buf : List ℕ) (now : ℕ) (τ : Target) → now < 2 ^ 64 → patch_target g I h (length buf) ≡ accepted τ
      → (p : List Name) × DirAt max_depth h.dir.0 p t × TreePatches g max_depth p (name_of h) now h.position buf t I (patched_image g I h buf now)
  unfolding aimed
  patch_is buf now τ clock e =
      subst (λ (J : List ℕ). (p : List Name) × DirAt max_depth h.dir.0 p t × TreePatches g max_depth p (name_of h) now h.position buf t I J) (patched_at_lem buf now τ e)
      (accepted_case (length buf) (λ x. (p : List Name) × DirAt max_depth h.dir.0 p t × TreePatches g max_depth p (name_of h) now h.position buf t I (patched g I x.entry x.place h.position buf now))
      (λ a. let q = a.on_file in (
        q.path,
        q.there,
        patched_is g I t q.path (name_of h) q.there.dir _ q.file.time h.size q.file.cells _ _ h.position buf v q.there.there q.file.held refl refl refl a.some_bytes a.inside now clock,
      )) τ e)

  -- ---- as a write

  -- An accepted patch leaves what a write of the buffer and of the file's own bytes behind it leaves, and that write is accepted.
  module _ (buf : List ℕ) (a : Patchable max_depth t h (length buf)) where
    pub write_end : h.position + length (whole_of max_depth t h buf a.on_file) ≡ h.size
    write_end =
        whole_end g I t a.on_file.path (name_of h) a.on_file.there.dir _ a.on_file.file.time h.size a.on_file.file.cells _ _ h.position buf v a.on_file.there.there a.on_file.file.held refl refl refl
        a.some_bytes a.inside

    pub write_target : target_of g I h (length (whole_of max_depth t h buf a.on_file)) ≡ accepted (aimed g I t v h a.on_file)
    write_target =
        let vs : List ℕ = whole_of max_depth t h buf a.on_file in
        let f = fresh h a.fields in
        let few : blocks_for (block_size g) (h.position + length vs) ≡ length a.on_file.file.cells
        = ap (blocks_for (block_size g)) write_end
        ∙ sym (good_file g I max_depth t v a.on_file.path (name_of h) a.on_file.there.dir a.on_file.there.there a.on_file.file.time h.size a.on_file.file.cells a.on_file.file.held).long in
        good_target g I t v h (length vs) (omega (arith, a.some_bytes, length-append buf (tail_from h.size a.on_file.file.cells (h.position + length buf)))) a.fields a.on_file (omega (arith, write_end, f.limit)) (omega arith)

    pub write_image : (now : ℕ) → patched_image g I h buf now ≡ written_image g I h (whole_of max_depth t h buf a.on_file) now
    unfolding aimed
    write_image now =
        sym (patched_at_lem buf now (aimed g I t v h a.on_file) (good_patch (length buf) a.some_bytes a.fields a.on_file a.inside))
        ∙ patched-wrote g I t a.on_file.path (name_of h) a.on_file.there.dir _ a.on_file.file.time h.size a.on_file.file.cells _ _ h.position buf v a.on_file.there.there a.on_file.file.held refl refl refl
        a.some_bytes a.inside now
        ∙ image_is g I t v h (whole_of max_depth t h buf a.on_file) now (aimed g I t v h a.on_file) write_target
