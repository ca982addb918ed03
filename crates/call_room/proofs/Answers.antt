-- What the code knows where it answers.
use mathlib.Core.Path.{◌≡◌, sym, ap, ◌∙◌}
use mathlib.Core.List.{List}
use Prim.Native.Nat.{ℕ}
use Rattle.std.specs.Prelude.{Ok, Err}
use Rattle.model.specs.Answers.{accepted}
use Rattle.model.specs.Geometry.{Mount, Geo}
use Rattle.model.proofs.Replies.{reply-none}
use Rattle.limits.specs.declared.Refusal.{Refusal}
use Rattle.limits.proofs.Numbers.{reply-refused}
use Rattle.super_block.specs.declared.SuperBlock.{SuperBlock}
use Rattle.super_block.specs.Super.{geo_of, Fit, OpenedIs}
use Rattle.super_block.proofs.Fits.{opened_fit, opened-geo}
use Rattle.bitmap_room.specs.declared.Told.{Told}
use Rattle.bitmap_room.specs.Search.{room_in}
use Rattle.call_room.specs.Room.{Asks}

module _ (M : Mount) (I : List ℕ) where
  module _ (s : SuperBlock) (o : OpenedIs M I (Ok s)) where
    pub room_opened : Fit s I
    room_opened = opened_fit M I s o.0 o.1

    pub room-known : (k : ℕ) (t : Told) → t ≡ room_in (geo_of s) I k → Asks M I k (Ok t)
    room-known k t q = ap accepted (q ∙ ap (λ (x : Geo). room_in x I k) (opened-geo M I s o.1)) ∙ sym (reply-none _ o.0)

  pub room_refused : (x : Refusal) → OpenedIs M I (Err x) → (k : ℕ) → Asks M I k (Err x)
  room_refused x f k = sym (reply-refused _ x f)
