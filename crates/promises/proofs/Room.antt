-- C18: room's answer, on every image and on a well-formed volume.
use mathlib.Core.Path.{◌≡◌, refl, sym, ap, ◌∙◌, subst}
use mathlib.Core.List.{List}
use Prim.Native.Nat.{ℕ, zero, suc, ◌≤◌}
use native.Mathlib.Omega.{arith}
use lib.ListN.{length}
use Rattle.model.specs.Answers.{accepted, refused, reply}
use Rattle.model.specs.Geometry.{Mount, Geo, geo_at, open_refusal}
use Rattle.model.specs.Volume.{Volume, WellFormed, max_depth}
use Rattle.model.specs.Calls.{free_blocks}
use Rattle.model.proofs.Replies.{reply-none, not_accepted}
use Rattle.model.proofs.OneVolume.{well_formed_geo}
use Rattle.limits.specs.Refusals.{refusal_number}
use Rattle.limits.specs.Says.{says}
use Rattle.bitmap_block.specs.Bitmap.{clears}
use Rattle.bitmap_block.proofs.Stores.{volume_clears}
use Rattle.bitmap_room.specs.declared.Told.{Told}
use Rattle.bitmap_room.specs.Search.{room_in}
use Rattle.call_room.specs.Room.{Asks}
use Rattle.call_room.proofs.Means.{room_enough, room_fewest, room_all}
use Rattle.promises.specs.Room.{RoomIsTold}
use Rattle.std.specs.Prelude.{Result, Ok, Err}
use Rattle.limits.specs.declared.Refusal.{Refusal}

-- a refusal's number
refusal_is : {A : Type 0} (k : ℕ) (a : A) (j : ℕ) → refused j ≡ reply k a → (1 ≤ j) × (k ≡ j)
unfolding reply
refusal_is zero a j e = let z : ◌≡◌ {A = ℕ} 0 1 = cc in absurd (omega arith)
refusal_is (suc k) a j e = let n : j ≡ suc k = cc in (omega arith, sym n)

-- none, and a value is answered
known_is : (M : Mount) (I : List ℕ) (k : ℕ) (r : Result Told Refusal) → Asks M I k r → open_refusal M I ≡ 0 → (t : Told) × (says r ≡ accepted t)
known_is M I k (Ok t) a z = (t, refl)
known_is M I k (Err x) a z = absurd (not_accepted (refusal_number x) (room_in (geo_at M I) I k) (a ∙ reply-none _ z))

-- the tree's free blocks are the clear ones
free_is : (M : Mount) (I : List ℕ) (w : WellFormed M I) → clears (geo_at M I) I ≡ free_blocks (geo_at M I) max_depth w.tree
free_is M I w =
    let v : Volume (geo_at M I) I max_depth w.tree =
    subst (λ (g : Geo). Volume g I max_depth w.tree) (well_formed_geo M I w) w.volume in
    volume_clears (geo_at M I) I max_depth w.tree v

pub room_is_told : RoomIsTold
room_is_told =
    record {
      enough = λ M I k r t a s. let q = room_enough M I k t (sym s ∙ a) in (λ e. omega (arith, q.0 e), λ h. q.1 (omega arith));
      fewest = λ M I k r t a s e.
          let q = room_fewest M I k t (sym s ∙ a) e in (omega (arith, q.0), λ m o. omega (arith, q.1 m (omega arith)));
      all = λ M I k r t a s e. room_all M I k t (sym s ∙ a) e;
      free = λ M I k r t a s w.
          let q = room_enough M I k t (sym s ∙ a) in
          let n = ap length (free_is M I w) in
          (λ e. omega (arith, q.0 e, n), λ h. q.1 (omega (arith, n)));
      refusal = λ M I k r j a e. refusal_is (open_refusal M I) (room_in (geo_at M I) I k) j (sym e ∙ a);
      known = known_is;
    }
