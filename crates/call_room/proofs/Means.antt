-- What the answer means, with no code: the bytes are the fewest leading ones, or all; any two answers are equal.
use Rattle.std.specs.Prelude.{Result, Ok, Err}
use mathlib.Core.Path.{◌≡◌, sym, ap, ◌∙◌}
use mathlib.Core.List.{List}
use mathlib.Core.Bool.{true, false}
use mathlib.Core.Logic.{◌↔◌}
use Prim.Native.Nat.{ℕ, zero, suc, ◌*◌, ◌≤◌, ◌<◌}
use native.Mathlib.Decide.{dec_lt}
use native.Mathlib.Omega.{arith}
use lib.Dec.{leb}
use lib.ListN.{length}
use borrow.Author.Tests.{leb-true, leb-false, le-leb}
use Rattle.model.specs.Geometry.{Mount, geo_at, block_size, map_at, reach, open_refusal}
use Rattle.model.proofs.Replies.{accepted-one, reply-none, reply_zero}
use Rattle.limits.specs.Refusals.{refusal_number}
use Rattle.limits.proofs.Numbers.{number_one}
use Rattle.bitmap_block.specs.Bitmap.{clears}
use Rattle.bitmap_room.specs.declared.Told.{Told}
use Rattle.bitmap_room.specs.Search.{clear_in, bytes_read, bytes_for, room_in}
use Rattle.limits.specs.declared.Refusal.{Refusal}
use Rattle.limits.specs.Says.{says}
use Rattle.call_room.specs.Room.{Asks}
use Rattle.bitmap_room.proofs.Clear.{clear_mono, byte_read, byte_not, read_to, clear_reach}

-- ---- the bytes read

module _ (l : List ℕ) (from limit k : ℕ) where
  reads_le : (n : ℕ) → bytes_read l from limit k n ≤ n
  unfolding bytes_read
  reads_le zero = omega arith
  reads_le (suc n) = go (reads_le n) (dec_lt (clear_in l from limit n) k)
    where
      go : bytes_read l from limit k n ≤ n → Dec (clear_in l from limit n < k) → bytes_read l from limit k (suc n) ≤ suc n
      go r (yes p) = omega (arith, byte_read l from limit k n p)
      go r (no p) = omega (arith, byte_not l from limit k n (omega arith))

  -- fewer bytes have fewer clear bits than k,
  reads_short : (n m : ℕ) → m < bytes_read l from limit k n → clear_in l from limit m < k
  unfolding bytes_read
  reads_short zero m h = absurd (omega arith)
  reads_short (suc n) m h = go (reads_short n m) (dec_lt (clear_in l from limit n) k)
    where
      go : (m < bytes_read l from limit k n → clear_in l from limit m < k) → Dec (clear_in l from limit n < k)
          → clear_in l from limit m < k
      go r (yes p) = omega (arith, clear_mono l from limit m n (omega (arith, byte_read l from limit k n p, reads_le n)))
      go r (no p) = r (omega (arith, byte_not l from limit k n (omega arith)))

  -- and these have k, if all have
  reads_hold : (n : ℕ) → k ≤ clear_in l from limit n → k ≤ clear_in l from limit (bytes_read l from limit k n)
  unfolding bytes_read
  reads_hold zero h = h
  reads_hold (suc n) h = go (reads_hold n) (dec_lt (clear_in l from limit n) k)
    where
      go : (k ≤ clear_in l from limit n → k ≤ clear_in l from limit (bytes_read l from limit k n))
          → Dec (clear_in l from limit n < k) → k ≤ clear_in l from limit (bytes_read l from limit k (suc n))
      go r (yes p) =
          let e : bytes_read l from limit k (suc n) ≡ suc n = byte_read l from limit k n p
          ∙ ap suc (read_to l from limit k n (λ j q. omega (arith, clear_mono l from limit j n (omega arith)))) in
          omega (arith, ap (clear_in l from limit) e)
      go r (no p) = omega (arith, ap (clear_in l from limit) (byte_not l from limit k n (omega arith)), r (omega arith))

  -- all are read where they have fewer
  reads_all : (n : ℕ) → clear_in l from limit n < k → bytes_read l from limit k n ≡ n
  reads_all n h = read_to l from limit k n (λ j q. omega (arith, clear_mono l from limit j n (omega arith)))

-- ---- the answer

module _ (M : Mount) (I : List ℕ) (k : ℕ) (t : Told) (a : Asks M I k (Ok t)) where
  -- it is that of the bitmap
  room_is : t ≡ room_in (geo_at M I) I k
  room_is =
      let told : Told = room_in (geo_at M I) I k in
      accepted-one t told (a ∙ reply-none _ (reply_zero (open_refusal M I) told t (sym a)))

  enough_is : t.enough ≡ leb k (length (clears (geo_at M I) I))
  unfolding room_in
  enough_is = ap (λ (u : Told). u.enough) room_is

  bytes_is : t.bytes
      ≡ bytes_read I (block_size (geo_at M I) * map_at (geo_at M I)) (reach (geo_at M I)) k (bytes_for (reach (geo_at M I)))
  unfolding room_in
  bytes_is = ap (λ (u : Told). u.bytes) room_is

  -- yes is: at least k
  pub room_enough : (t.enough ≡ true) ↔ (k ≤ length (clears (geo_at M I) I))
  room_enough = (λ e. leb-true k _ (sym enough_is ∙ e), λ h. enough_is ∙ le-leb k _ h)

  -- then the bytes are the fewest leading ones that have k,
  pub room_fewest : t.enough ≡ true → (k ≤ clear_in I (block_size (geo_at M I) * map_at (geo_at M I)) (reach (geo_at M I)) t.bytes)
      × ((m : ℕ) → m < t.bytes → clear_in I (block_size (geo_at M I) * map_at (geo_at M I)) (reach (geo_at M I)) m < k)
  room_fewest e =
      let g = geo_at M I in
      let from : ℕ = block_size g * map_at g in
      let h : k ≤ clear_in I from (reach g) (bytes_for (reach g)) = omega (arith, room_enough.0 e, clear_reach g I) in (
        omega (arith, reads_hold I from (reach g) k (bytes_for (reach g)) h, ap (clear_in I from (reach g)) bytes_is),
        λ m o. reads_short I from (reach g) k (bytes_for (reach g)) m (omega (arith, bytes_is)),
      )

  -- and otherwise all
  pub room_all : t.enough ≡ false → t.bytes ≡ bytes_for (reach (geo_at M I))
  room_all e =
      let g = geo_at M I in
      let h : length (clears g I) < k = leb-false k _ (sym enough_is ∙ e) in
      bytes_is ∙ reads_all I (block_size g * map_at g) (reach g) k (bytes_for (reach g)) (omega (arith, clear_reach g I))

-- any two are equal
pub room_one : (M : Mount) (I : List ℕ) (k : ℕ) (r q : Result Told Refusal) → Asks M I k r → Asks M I k q → r ≡ q
room_one M I k r q a b = go r q (a ∙ sym b)
  where
    go : (r q : Result Told Refusal) → says r ≡ says q → r ≡ q
    go (Ok t) (Ok u) e = ap Ok (accepted-one t u e)
    go (Ok t) (Err y) e = let z : ◌≡◌ {A = ℕ} 0 1 = cc in absurd (omega arith)
    go (Err x) (Ok u) e = let z : ◌≡◌ {A = ℕ} 0 1 = cc in absurd (omega arith)
    go (Err x) (Err y) e = let n : refusal_number x ≡ refusal_number y = cc in ap Err (number_one x y n)
