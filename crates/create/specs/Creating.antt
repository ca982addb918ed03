-- Creating by a full path, on an opened volume: the refusals in the order O9, and the image. Definitions alone.
-- O9: 8, 5/6, 15, 7, 9 (4 comes before, with the path)
use Rattle.std.specs.Prelude.{Bool, ◌&&◌, ◌||◌, List, ℕ, ltb, leb, eqb, length, Option, Some, None, Result, Ok, Err}
use Rattle.model.specs.Answers.{Reply, accepted, refused, and_then, when, given}
use Rattle.model.specs.Geometry.{area_of, Geo}
use Rattle.model.specs.Volume.{max_depth}
use Rattle.bitmap_block.specs.Bitmap.{clears}
use Rattle.dir_entry.specs.declared.Kind.{Kind}
use Rattle.dir_entry.specs.Entry.{is_dir}
use Rattle.limits.specs.declared.Damage.{Damage}
use Rattle.read_dir.specs.declared.Placed.{Placed}
use Rattle.read_dir.specs.Walk.{walk}
use Rattle.read_dir.specs.Finds.{find_in}
use Rattle.own_entry.specs.Own.{Own}
use Rattle.create_store.specs.declared.Spot.{Spot}
use Rattle.create_store.specs.Create.{spot_for, needed, inserted, inserted_at}
use Rattle.path.specs.Path.{last_name, dir_part}
use Rattle.dir.specs.Hold.{Hold, hold_dir}

-- Where an entry is created: its directory's first address, its place there, and that directory's own entry.
pub record Site : Type 0 where
  pub dir : ℕ
  pub spot : Spot
  pub own : Own

-- The directory and the new entry's block, which a handle on it holds.
pub record Fresh : Type 0 where
  pub dir : ℕ
  pub block : ℕ

-- R8
unfoldable pub bad_name : List ℕ → Bool
bad_name x = eqb (length x) 0 || ltb 255 (length x)

-- R15: a directory in one that is at depth 16
unfoldable pub too_deep : Kind → Hold → Bool
too_deep k h = is_dir k && leb max_depth h.depth

-- R7; damage on the walk is 17
abbrev pub exists_number : Result (Option Placed) Damage → ℕ
exists_number (Ok (Some x)) = 7
exists_number (Ok None) = 0
exists_number (Err d) = 17

module _ (g : Geo) (I : List ℕ) where
  -- R9: k is the number of blocks that the create takes
  unfoldable pub no_room : ℕ → Bool
  no_room k = ltb (length (clears g I)) k

  -- In the directory h, for a name that goes to the spot p: 9, or the site; damage on the way to the spot is 17.
  unfoldable pub site_at : Hold → Result Spot Damage → Reply Site
  site_at h (Ok p) = given (when 9 (no_room (needed p))) (accepted (record { dir = h.dir; spot = p; own = h.own }))
  site_at h (Err d) = refused 17

  -- In the directory h, for the name x: 15, 7, then these.
  unfoldable pub site_in : Kind → List ℕ → Hold → Reply Site
  site_in k x h =
      given (when 15 (too_deep k h))
      (given (exists_number (find_in x (walk (area_of g) I h.dir)))
      (site_at h (spot_for (area_of g) I h.dir (length x))))

  -- At the full path l: 8, 5/6, then these.
  unfoldable pub site_of : Kind → List ℕ → Reply Site
  site_of k l = given (when 8 (bad_name (last_name l))) (and_then (hold_dir (area_of g) I (dir_part l)) (site_in k (last_name l)))

  -- What is answered: at a site, the blocks.
  unfoldable pub fresh_of : Reply Site → Reply Fresh
  fresh_of r = and_then r (λ s. accepted (record { dir = s.dir; block = inserted_at g I s.spot }))

  unfoldable pub created_on : Kind → List ℕ → Reply Fresh
  created_on k l = fresh_of (site_of k l)

  -- C9: the image afterwards: the entry is stored, or all is as it was.
  abbrev pub image_at : Kind → List ℕ → ℕ → Reply Site → List ℕ
  image_at k x time (accepted s) = inserted g I s.dir s.spot s.own k x time
  image_at k x time (refused r) = I

  unfoldable pub created_image : Kind → List ℕ → ℕ → List ℕ
  created_image k l time = image_at k (last_name l) time (site_of k l)
