-- What the code of a delete needs and gives: one law for each place.
use mathlib.Core.Path.{◌≡◌, refl, sym, ap, ◌∙◌, subst}
use mathlib.Core.Bool.{Bool, true, false, not}
use mathlib.Core.List.{List}
use Prim.Native.Nat.{ℕ, zero, suc, ◌+◌, ◌-◌, ◌≤◌, ◌<◌}
use native.Mathlib.Omega.{arith}
use lib.Dec.{ltb, eqb}
use lib.ListN.{length}
use borrow.Author.Tests.{lt-ltb, ne_eqb, eqb-true, eqb-false}
use Rattle.model.specs.Answers.{accepted, refused, and_then}
use Rattle.model.specs.Geometry.{area_of}
use Rattle.model.proofs.Replies.{given_yes, given_no, and_then_ok, and_then_no}
use Rattle.block.specs.Block.{Area}
use Rattle.super_block.specs.declared.SuperBlock.{SuperBlock}
use Rattle.super_block.specs.Super.{area_in, geo_of, Fit, Ready}
use Rattle.super_block.proofs.Fits.{area_is}
use Rattle.read_dir.specs.Walk.{walk}
use Rattle.read_dir.specs.Finds.{find_in}
use Rattle.own_entry.specs.Own.{OwnIn}
use Rattle.delete_store.specs.Delete.{removed}
use Rattle.dir_entry.specs.Entry.{header}
use Rattle.read_dir.specs.declared.Placed.{Placed}
use Rattle.path.specs.Path.{last_name, dir_part}
use Rattle.dir.specs.Resolve.{on_placed}
use Rattle.dir.specs.Hold.{Hold, hold_dir}
use Rattle.dir.proofs.Answers.{name_empty, name_some, placed_then}
use Rattle.dir.proofs.HoldLaws.{hold_inside, hold_numbers}
use Rattle.delete.specs.Deleting.{Doomed, has_entries, doomed_at, doomed_in, doomed_of, deleted_on, image_at, deleted_image}
use Rattle.delete.proofs.Accepted.{Removable, doomed_by, doomed_ready}

-- ---- an entry that has entries

pub above_zero : (z : ℕ) → ltb 0 z ≡ not (eqb z 0)
above_zero zero = refl
above_zero (suc z) = lt-ltb 0 (suc z) (omega arith) ∙ sym (ap not (ne_eqb (suc z) 0 (λ e. omega arith)))

-- ---- the entry at a path

module _ (s : SuperBlock) (I full dir name : List ℕ) (f : Fit s I) (d : dir ≡ dir_part full) (n : name ≡ last_name full)
    (t : Bool) (e : t ≡ eqb (length name) 0) where
  pub mark_empty : t ≡ true → refused 5 ≡ doomed_of (geo_of s) I full
  unfolding doomed_of
  mark_empty h = name_empty (last_name full) _ (sym (ap length n) ∙ eqb-true (length name) 0 (sym e ∙ h))

  module _ (some : t ≡ false) where
    held_is : and_then (hold_dir (area_in s) I dir) (doomed_in (geo_of s) I name) ≡ doomed_of (geo_of s) I full
    unfolding doomed_of
    held_is =
        ap (λ (A : Area). and_then (hold_dir A I dir) (doomed_in (geo_of s) I name)) (area_is f)
        ∙ (λ i. and_then (hold_dir (area_of (geo_of s)) I (d i)) (doomed_in (geo_of s) I (n i)))
        ∙ sym (name_some (last_name full) _ (λ z. eqb-false (length name) 0 (sym e ∙ some) (ap length n ∙ z)))

    pub mark_unheld : (k : ℕ) → refused k ≡ hold_dir (area_in s) I dir → refused k ≡ doomed_of (geo_of s) I full
    mark_unheld k g = sym (and_then_no k (doomed_in (geo_of s) I name) (sym g)) ∙ held_is

    module _ (h : Hold) (g : accepted h ≡ hold_dir (area_in s) I dir) where
      looked : and_then (on_placed (find_in name (walk (area_in s) I h.dir)) accepted) (doomed_at h) ≡ doomed_of (geo_of s) I full
      unfolding doomed_in
      looked =
          placed_then (find_in name (walk (area_in s) I h.dir)) (doomed_at h)
          ∙ ap (λ (A : Area). on_placed (find_in name (walk A I h.dir)) (doomed_at h)) (area_is f)
          ∙ sym (and_then_ok h (doomed_in (geo_of s) I name) (sym g)) ∙ held_is

      pub mark_lost : (k : ℕ) → refused k ≡ on_placed (find_in name (walk (area_in s) I h.dir)) accepted → refused k ≡ doomed_of (geo_of s) I full
      mark_lost k q = sym (and_then_no k (doomed_at h) (sym q)) ∙ looked

      module _ (x : Placed) (q : accepted x ≡ on_placed (find_in name (walk (area_in s) I h.dir)) accepted) (b : Bool) (r : b ≡ has_entries x.entry) where
        there : doomed_at h x ≡ doomed_of (geo_of s) I full
        there = sym (and_then_ok x (doomed_at h) (sym q)) ∙ looked

        pub mark_full : b ≡ true → refused 14 ≡ doomed_of (geo_of s) I full
        unfolding doomed_at
        mark_full z = sym (given_yes 14 _ (omega arith) (sym r ∙ z)) ∙ there

        pub mark_bare : b ≡ false → accepted (record { dir = h.dir; entry = x.entry; place = x.place; own = h.own }) ≡ doomed_of (geo_of s) I full
        unfolding doomed_at
        mark_bare z = sym (given_no 14 _ (sym r ∙ z)) ∙ there

-- ---- the whole

module _ (s : SuperBlock) (I l : List ℕ) where
  -- what the stores ask of the entry to delete
  module _ (ok : Ready s I) (x : Doomed) (q : accepted x ≡ doomed_of (geo_of s) I l) where
    removable : Removable (geo_of s) I x
    removable = doomed_ready (geo_of s) I l _ (doomed_by (geo_of s) I l _ (sym q))

    pub begins_in : x.dir < s.blocks
    begins_in = removable.begins

    pub lies_from : s.area.0 ≤ x.place.block.0
    lies_from = rw ok.fit.area removable.lies.from

    pub lies_below : x.place.block.0 < s.blocks
    lies_below = removable.lies.below

    pub lies_ends : x.place.offset + header + x.entry.len ≤ s.size - 5
    lies_ends = rw ok.fit.size removable.lies.ends

    pub own_inside : OwnIn s.size I x.own
    own_inside =
        let b = doomed_by (geo_of s) I l _ (sym q) in
        subst (OwnIn s.size I) (sym b.own) (hold_inside s I ok.fit _ b.hold (hold_numbers s I ok.fit _ ∙ b.held))

    pub deleted_done : accepted tt ≡ deleted_on (geo_of s) I l
    unfolding deleted_on
    deleted_done = sym (and_then_ok _ (λ d. accepted tt) (sym q))

    pub image_done : (J : List ℕ) (time : ℕ) → J ≡ removed (geo_of s) I x.dir x.entry x.place x.own time → J ≡ deleted_image (geo_of s) I l time
    unfolding deleted_image
    image_done J time z = z ∙ ap (image_at (geo_of s) I time) q

  module _ (k : ℕ) (q : refused k ≡ doomed_of (geo_of s) I l) where
    pub deleted-refused : refused k ≡ deleted_on (geo_of s) I l
    unfolding deleted_on
    deleted-refused = sym (and_then_no k (λ d. accepted tt) (sym q))

    pub image_refused : (time : ℕ) → I ≡ deleted_image (geo_of s) I l time
    unfolding deleted_image
    image_refused time = ap (image_at (geo_of s) I time) q
