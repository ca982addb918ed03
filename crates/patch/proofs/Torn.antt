-- S14, S15, of the image that an accepted patch leaves: what it keeps, and what it is where not all of its blocks have arrived.
use mathlib.Core.Path.{◌≡◌, refl, sym, ap, ◌∙◌, subst}
use mathlib.Core.Logic.{◌⊎◌, inl, inr}
use mathlib.Core.List.{List}
use Prim.Native.Nat.{ℕ, ◌+◌, ◌*◌, ◌^◌, ◌≤◌, ◌<◌}
use lib.ListN.{length}
use Rattle.block.specs.Block.{Kept}
use Rattle.model.specs.Tree.{Tree}
use Rattle.model.specs.Render.{count, place_of}
use Rattle.model.specs.Answers.{accepted}
use Rattle.model.specs.Geometry.{Geo, block_size}
use Rattle.model.specs.Volume.{Volume, max_depth}
use Rattle.model.specs.Calls.{places, overlaid}
use Rattle.handle.specs.declared.Handle.{Handle}
use Rattle.handle.specs.Handles.{name_of}
use Rattle.write.proofs.Targets.{aimed}
use Rattle.patch_store.specs.Patch.{patched}
use Rattle.patch_store.specs.Torn.{Arrived, Mixture}
use Rattle.patch_store.proofs.Torn.{patch_frame, torn_is, old_clock}
use Rattle.patch.specs.Patching.{patch_target, patched_image}
use Rattle.patch.specs.OnTree.{Patchable}
use Rattle.patch.proofs.Targets.{good_patch, patched_at_lem}

module _ (g : Geo) (I : List ℕ) (t : Tree max_depth) (v : Volume g I max_depth t) (h : Handle) (buf : List ℕ) (a : Patchable max_depth t h (length buf)) where
  -- Every buffer of that length goes to the same place.
  goes : (vs : List ℕ) → length vs ≡ length buf → patch_target g I h (length vs) ≡ accepted (aimed g I t v h a.on_file)
  goes vs e = ap (patch_target g I h) e ∙ good_patch g I t v h (length buf) a.some_bytes a.fields a.on_file a.inside

  stores : (vs : List ℕ) → length vs ≡ length buf → (now : ℕ)
      → patched g I (aimed g I t v h a.on_file).entry (aimed g I t v h a.on_file).place h.position vs now ≡ patched_image g I h vs now
  stores vs e now = patched_at_lem g I t v h vs now (aimed g I t v h a.on_file) (goes vs e)

  pub frame_is : (now : ℕ) → Kept (block_size g) (λ b i. ((count b (places a.on_file.file.cells) ≡ 0) ⊎ (i < 4))
      × (place_of (block_size g) (name_of h) a.on_file.there.dir.1 + 9 ≤ block_size g * b + i → block_size g * b + i < place_of (block_size g) (name_of h) a.on_file.there.dir.1 + 17 → ⊥))
      I (patched_image g I h buf now)
  unfolding aimed
  frame_is now =
      let q = a.on_file in
      subst (Kept (block_size g) (λ b i. ((count b (places q.file.cells) ≡ 0) ⊎ (i < 4))
      × (place_of (block_size g) (name_of h) q.there.dir.1 + 9 ≤ block_size g * b + i → block_size g * b + i < place_of (block_size g) (name_of h) q.there.dir.1 + 17 → ⊥)) I)
      (stores buf refl now)
      (patch_frame g I t q.path (name_of h) q.there.dir _ q.file.time h.size q.file.cells _ _ h.position buf v q.there.there q.file.held refl refl refl
      a.some_bytes a.inside now)

  -- What an image is that has some blocks of it.
  pub record TornImage (now : ℕ) (L : List ℕ) : Type 0 where
    pub buffer : List ℕ
    pub time : ℕ
    pub long : length buffer ≡ length buf
    pub old_or_new : (time ≡ a.on_file.file.time) ⊎ (time ≡ now)
    pub clock : time < 2 ^ 64
    pub image : L ≡ patched_image g I h buffer time
    pub mixture : Mixture (block_size g) I (patched_image g I h buf now) L a.on_file.file.cells
        (overlaid (block_size g) h.position buf a.on_file.file.cells) (overlaid (block_size g) h.position buffer a.on_file.file.cells)

  pub torn_image : (now : ℕ) (L : List ℕ) → now < 2 ^ 64 → Arrived (block_size g) I (patched_image g I h buf now) L → TornImage now L
  unfolding aimed
  torn_image now L clock r =
      let q = a.on_file in
      let T = torn_is g I t q.path (name_of h) q.there.dir _ q.file.time h.size q.file.cells _ _ h.position buf v q.there.there q.file.held refl refl refl
      a.some_bytes a.inside now L (subst (λ (J : List ℕ). Arrived (block_size g) I J L) (sym (stores buf refl now)) r) in
      let old : q.file.time < 2 ^ 64
      = old_clock g I t q.path (name_of h) q.there.dir _ q.file.time h.size q.file.cells _ _ h.position buf v q.there.there q.file.held refl refl refl
      a.some_bytes a.inside in
      record {
        buffer = T.buffer;
        time = T.time;
        long = T.long;
        old_or_new = T.old_or_new;
        clock = a_time T.time old T.old_or_new;
        image = T.image ∙ stores T.buffer T.long T.time;
        mixture = subst (λ (J : List ℕ). Mixture (block_size g) I J L q.file.cells (overlaid (block_size g) h.position buf q.file.cells)
            (overlaid (block_size g) h.position T.buffer q.file.cells)) (stores buf refl now) T.mixture;
      }
    where
      a_time : (τ : ℕ) → a.on_file.file.time < 2 ^ 64 → (τ ≡ a.on_file.file.time) ⊎ (τ ≡ now) → τ < 2 ^ 64
      a_time τ o (inl e) = subst (λ (x : ℕ). x < 2 ^ 64) (sym e) o
      a_time τ o (inr e) = subst (λ (x : ℕ). x < 2 ^ 64) (sym e) clock
