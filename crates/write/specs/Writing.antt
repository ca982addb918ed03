-- Writing by a handle, on an opened volume: the refusals in the order O11, the image and the handle. Definitions alone.
-- (Those of the check come before: O8.)
use Rattle.std.specs.Prelude.{Bool, not, List, ℕ, ◌+◌, ◌-◌, ltb, eqb, length, Option, Some, None, Result, Ok, Err}
use Rattle.model.specs.Answers.{Reply, accepted, refused, and_then, when, given}
use Rattle.model.specs.Geometry.{area_of, Geo, block_size, data_at}
use Rattle.model.specs.Volume.{file_limit, blocks_for, max_depth}
use Rattle.bitmap_block.specs.Bitmap.{clears}
use Rattle.limits.specs.declared.Damage.{Damage}
use Rattle.read_dir.specs.declared.Placed.{Placed}
use Rattle.read_dir.specs.Walk.{walk}
use Rattle.reached.specs.Reach.{reaches}
use Rattle.write_store.specs.Write.{wrote}
use Rattle.handle.specs.Handles.{stale_fields, current_in}
use Rattle.handle.specs.declared.Handle.{Handle}

-- Where a write goes: the entry of the handle's file, and its place.
abbrev pub Target : Type 0
Target = Placed

-- R11 where there is none; damage on the walk is 17
abbrev pub on_current : {A : Type 0} → Result (Option Placed) Damage → (Target → Reply A) → Reply A
on_current (Ok (Some t)) f = f t
on_current (Ok None) f = refused 11
on_current (Err e) f = refused 17

-- R10: with len bytes at the position
unfoldable pub too_long : Handle → ℕ → Bool
too_long h len = ltb file_limit (h.position + len)

-- C12: how many blocks a write of len bytes at the position takes
unfoldable pub blocks_to_add : ℕ → Handle → ℕ → ℕ
blocks_to_add B h len = blocks_for B (h.position + len) - blocks_for B h.size

module _ (g : Geo) (I : List ℕ) where
  -- H4: the handle's directory is none that is reached from the root
  unfoldable pub unreached : Handle → Bool
  unreached h = not (reaches (area_of g) I h.dir.0 max_depth (data_at g))

  -- R9
  unfoldable pub no_room : Handle → ℕ → Bool
  no_room h len = ltb (length (clears g I)) (blocks_to_add (block_size g) h len)

  -- H3, H4, R11: what follows for the entry of a handle that is current; 11 where its own fields refuse it, its directory is not
  -- reached or has no such entry
  abbrev pub where_held : {A : Type 0} → Handle → (Target → Reply A) → Reply A
  where_held h f =
      given (when 11 (stale_fields h))
      (given (when 11 (unreached h)) (on_current (current_in h (walk (area_of g) I h.dir.0)) f))

  -- that entry itself
  unfoldable pub held_at : Handle → Reply Target
  held_at h = where_held h (λ t. accepted t)

  -- O11, R13: a write of len bytes: 13, 11, 10, 9, or where it goes.
  unfoldable pub target_of : Handle → ℕ → Reply Target
  target_of h len =
      given (when 13 (eqb len 0))
      (where_held h
      (λ t. given (when 10 (too_long h len)) (given (when 9 (no_room h len)) (accepted t))))

  -- The image afterwards: the file is rewritten, or all is as it was.
  abbrev pub image_at : Handle → List ℕ → ℕ → Reply Target → List ℕ
  image_at h buf time (accepted t) = wrote g I t.entry t.place h.position buf time
  image_at h buf time (refused r) = I

  unfoldable pub written_image : Handle → List ℕ → ℕ → List ℕ
  written_image h buf time = image_at h buf time (target_of h (length buf))

-- H5: the handle after an accepted write of len bytes: the file ends at its position
abbrev pub grown_handle : Handle → ℕ → Handle
grown_handle h len =
    record { dir = h.dir; name = h.name; len = h.len; addr = h.addr; size = h.position + len; position = h.position + len }

-- C12, H6: the byte count and the new handle; a refused write hands back the very handle.
abbrev pub handle_after : {A : Type 0} → Handle → ℕ → Reply A → Handle
handle_after h len (accepted t) = grown_handle h len
handle_after h len (refused r) = h

unfoldable pub count_of : ℕ → Reply Target → Reply ℕ
count_of len r = and_then r (λ t. accepted len)
