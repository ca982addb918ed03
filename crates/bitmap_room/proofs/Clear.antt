-- The laws of the search: what each answer of the code needs.
use mathlib.Core.Path.{◌≡◌, refl, sym, ap, ◌∙◌}
use mathlib.Core.Bool.{Bool, true, false, not}
use mathlib.Core.List.{List}
use Prim.Native.Nat.{ℕ, zero, suc, ◌+◌, ◌-◌, ◌*◌, ◌≤◌, ◌<◌, min}
use native.Mathlib.Decide.{dec_lt}
use native.Mathlib.Numerals.{add-one}
use native.Mathlib.Omega.{arith}
use lib.Count as word
use lib.Dec.{leb, ltb}
use lib.ListN.{length, get_or}
use borrow.Author.Tests.{lt-ltb, le-ltb, le-leb, lt-leb}
use Rattle.std.specs.Bool.{MatchBool}
use Rattle.std.specs.List.{AllWithin, between}
use Rattle.std.proofs.lemmas.List.Edits.{length-between, get_or-between}
use Rattle.wire.proofs.Picks.{not_both, pick_true, pick_false}
use Rattle.bits.specs.Bit.{ones}
use Rattle.bits.proofs.Bits.{ones_none, ones-le, ones-more, bit-lt}
use Rattle.bits.proofs.Words.{byte_ones, ones_byte, ones_cut}
use Rattle.model.specs.Geometry.{Geo, block_size, map_at, data_at, reach}
use Rattle.model.proofs.Free.{clear_count}
use Rattle.super_block.specs.declared.SuperBlock.{SuperBlock}
use Rattle.super_block.specs.Super.{geo_of, Fit}
use Rattle.bitmap_block.specs.Bitmap.{mark, clears}
use Rattle.super_block.proofs.Fits.{from_is}
use Rattle.bitmap_room.specs.Search.{clear_in, bytes_read, bytes_for, Together, told_of, room_in}
use Rattle.bitmap_room.specs.declared.Told.{Told}

-- ---- full bytes

-- one more
full_more : (l : List ℕ) → ((i : ℕ) → get_or l i 0 < 256) → (at i : ℕ) → ones l at (8 * i) ≡ 8 * i → get_or l (at + i) 0 ≡ 255
    → ones l at (8 * (i + 1)) ≡ 8 * (i + 1)
unfolding word.ones
full_more l bytes at i h e =
    let c : word.ones 255 ≡ 8 = refl in
    omega (arith, h, byte_ones l bytes (at + i), ap word.ones e, ones_byte l at i)

-- eight, tested one by one
module _ (l : List ℕ) (at : ℕ) (bytes : (i : ℕ) → get_or l i 0 < 256) where
  full_to : AllWithin (λ b. b ≡ 255) (between at (at + 8) l) 0 8 → (i : ℕ) → i ≤ 8 → ones l at (8 * i) ≡ 8 * i
  full_to full zero h = ones_none l at
  full_to full (suc i) h =
      let e : get_or l (at + i) 0 ≡ 255 = sym (get_or-between l at (at + 8) i 0 (omega arith)) ∙ full i 0 (omega arith) (omega arith) in
      rw (← add-one i) (full_more l bytes at i (full_to full i (omega arith)) e)

  -- an answer of no says nothing
  pub full_all : (r : Bool) (Other : Type 0) → at + 8 ≤ length l
      → MatchBool r (AllWithin (λ b. b ≡ 255) (between at (at + 8) l) 0 (length (between at (at + 8) l))) Other → r ≡ true → ones l at 64 ≡ 64
  full_all true Other h full e =
      let k : length (between at (at + 8) l) ≡ 8 = length-between l at (at + 8) h ∙ omega arith in
      full_to (rw k at full) 8 (omega arith)
  full_all false Other h full e = absurd (not_both e refl)

-- ---- the clear bits of the first n

module _ (l : List ℕ) (from : ℕ) where
  -- set bits grow by no more than the bits
  ones_grow : (n m : ℕ) → ones l from (n + m) ≤ ones l from n + m
  ones_grow n zero = let e : n + 0 ≡ n = omega arith in rw e (omega arith)
  ones_grow n (suc m) =
      let e : n + suc m ≡ n + m + 1 = omega arith in
      rw e (omega (arith, ones-more l from (n + m), bit-lt l from (n + m), ones_grow n m))

  -- so a longer run has no fewer clear ones
  clear_grow : (n m : ℕ) → n ≤ m → n - ones l from n ≤ m - ones l from m
  clear_grow n m h =
      let e : n + (m - n) ≡ m = omega arith in
      let g : ones l from m ≤ ones l from n + (m - n) = rw e at (ones_grow n (m - n)) in
      omega (arith, g, ones-le l from n, ones-le l from m)

  module _ (limit : ℕ) where
    pub clear_mono : (n m : ℕ) → n ≤ m → clear_in l from limit n ≤ clear_in l from limit m
    unfolding clear_in
    clear_mono n m h = clear_grow (min (8 * n) limit) (min (8 * m) limit) (omega arith)

    -- none of them
    pub clear_none : (k : ℕ) → clear_in l from limit 0 + k ≡ k
    unfolding clear_in
    clear_none k = let e : min (8 * 0) limit ≡ 0 = omega arith in rw e (omega arith)

    -- all of them
    clear_all : (m : ℕ) → limit ≤ 8 * m → clear_in l from limit m + ones l from limit ≡ limit
    unfolding clear_in
    clear_all m h = let e : min (8 * m) limit ≡ limit = omega arith in rw e (omega (arith, ones-le l from limit))

    -- n bits more, from byte i on to the end of byte m or to the limit
    clear_cut : (i n m c : ℕ) → 8 * i ≤ limit → min (8 * m) limit ≡ 8 * i + n → c ≡ ones l (from + i) n
        → clear_in l from limit i + (n - c) ≡ clear_in l from limit m
    unfolding clear_in
    clear_cut i n m c h e q =
        let u : min (8 * i) limit ≡ 8 * i = omega arith in
        rw (e, u)
        (omega (arith, ones_cut l from i n, ones-le l from (8 * i), ones-le l (from + i) n))

    -- a last part of a byte, and a whole one
    pub clear_part : (i rest c : ℕ) → 8 * i < limit → rest ≡ limit - 8 * i → rest < 8 → c ≡ ones l (from + i) rest
        → clear_in l from limit i + (rest - c) ≡ clear_in l from limit (i + 1)
    clear_part i rest c h e p q = clear_cut i rest (i + 1) c (omega arith) (omega arith) q

    pub clear_byte : (i rest c : ℕ) → 8 * i < limit → rest ≡ limit - 8 * i → 8 ≤ rest → c ≡ ones l (from + i) 8
        → clear_in l from limit i + (8 - c) ≡ clear_in l from limit (i + 1)
    clear_byte i rest c h e p q = clear_cut i 8 (i + 1) c (omega arith) (omega arith) q

    -- what is looked at together
    module _ (i left : ℕ) (h : 8 * i < limit) where
      module _ (p : 64 ≤ limit - 8 * i) where
        pub eight_bytes : (c : ℕ) → 64 < left → c ≡ ones l (from + i) 64 → Together l from limit i left 8 (64 - c)
        eight_bytes c o q =
            (omega arith, omega arith, clear_cut i 64 (i + 8) c (omega arith) (omega arith) q, λ z. absurd (omega arith))

        pub eight_full : (b : Bool) → 0 < left → (b ≡ true → ones l (from + i) 64 ≡ 64) → b ≡ true → Together l from limit i left 8 0
        eight_full b o f t = (
          omega arith,
          omega arith,
          clear_cut i 64 (i + 8) 64 (omega arith) (omega arith) (sym (f t)),
          λ z. absurd (omega arith),
        )

    -- ---- the bytes read

    module _ (k : ℕ) where
      pub byte_read : (m : ℕ) → clear_in l from limit m < k → bytes_read l from limit k (suc m) ≡ suc (bytes_read l from limit k m)
      unfolding bytes_read
      byte_read m h =
          ap (λ (x : ℕ). bytes_read l from limit k m + x) (pick_true 1 0 (lt-ltb (clear_in l from limit m) k h)) ∙ omega arith

      pub byte_not : (m : ℕ) → k ≤ clear_in l from limit m → bytes_read l from limit k (suc m) ≡ bytes_read l from limit k m
      unfolding bytes_read
      byte_not m h =
          ap (λ (x : ℕ). bytes_read l from limit k m + x) (pick_false 1 0 (le-ltb (clear_in l from limit m) k h)) ∙ omega arith

      -- all of the first m, where each but the last leaves something to find
      pub read_to : (m : ℕ) → ((j : ℕ) → j < m → clear_in l from limit j < k) → bytes_read l from limit k m ≡ m
      unfolding bytes_read
      read_to zero h = refl
      read_to (suc m) h = byte_read m (h m (omega arith)) ∙ ap suc (read_to m (λ j p. h j (omega arith)))

      -- none after these, where they leave nothing
      read_no_more : (m n : ℕ) → k ≤ clear_in l from limit m → bytes_read l from limit k (m + n) ≡ bytes_read l from limit k m
      read_no_more m zero h = let e : m + 0 ≡ m = omega arith in ap (bytes_read l from limit k) e
      read_no_more m (suc n) h =
          let e : m + suc n ≡ suc (m + n) = omega arith in
          ap (bytes_read l from limit k) e ∙ byte_not (m + n) (omega (arith, clear_mono m (m + n) (omega arith)))
          ∙ read_no_more m n h

      -- the two answers
      told_yes : (m : ℕ) → m < bytes_for limit → clear_in l from limit m < k → k ≤ clear_in l from limit (m + 1)
          → ◌≡◌ {A = Told} (record { enough = true; bytes = m + 1 }) (told_of l from limit k)
      unfolding told_of
      told_yes m h p q =
          let all : ℕ = bytes_for limit in
          let e : m + 1 + (all - (m + 1)) ≡ all = omega arith in
          let b : bytes_read l from limit k all ≡ m + 1 =
          ap (bytes_read l from limit k) (sym e) ∙ read_no_more (m + 1) (all - (m + 1)) q
          ∙ read_to (m + 1) (λ j o. omega (arith, clear_mono j m (omega arith))) in
          let y : leb k (clear_in l from limit all) ≡ true =
          le-leb k (clear_in l from limit all) (omega (arith, clear_mono (m + 1) all (omega arith))) in
          λ i. record { enough = sym y i; bytes = sym b i }

      told_no : clear_in l from limit (bytes_for limit) < k
          → ◌≡◌ {A = Told} (record { enough = false; bytes = bytes_for limit }) (told_of l from limit k)
      unfolding told_of
      told_no h =
          let all : ℕ = bytes_for limit in
          let b : bytes_read l from limit k all ≡ all = read_to all (λ j o. omega (arith, clear_mono j all (omega arith))) in
          let y : leb k (clear_in l from limit all) ≡ false = lt-leb k (clear_in l from limit all) h in
          λ i. record { enough = sym y i; bytes = sym b i }

    -- and of none asked for
    told_none : ◌≡◌ {A = Told} (record { enough = true; bytes = 0 }) (told_of l from limit 0)
    unfolding told_of
    told_none =
        let all : ℕ = bytes_for limit in
        let e : 0 + all ≡ all = omega arith in
        let b : bytes_read l from limit 0 all ≡ 0 =
        ap (bytes_read l from limit 0) (sym e) ∙ read_no_more 0 0 all (omega arith) ∙ read_to 0 0 (λ j o. absurd (omega arith)) in
        let y : leb 0 (clear_in l from limit all) ≡ true = le-leb 0 (clear_in l from limit all) (omega arith) in
        λ i. record { enough = sym y i; bytes = sym b i }

-- ---- the answers, from what the code knows there

module _ (l : List ℕ) (from limit k i left : ℕ) (e : clear_in l from limit i + left ≡ k) (p : 0 < left) where
  pub found : (b c : ℕ) → i + b ≤ bytes_for limit → clear_in l from limit i + c ≡ clear_in l from limit (i + b) → (left ≤ c → b ≡ 1)
      → left ≤ c → ◌≡◌ {A = Told} (record { enough = true; bytes = i + 1 }) (told_of l from limit k)
  found b c h t o n =
      let w : b ≡ 1 = o n in
      let q : clear_in l from limit (i + b) ≡ clear_in l from limit (i + 1) = ap (λ (x : ℕ). clear_in l from limit (i + x)) w in
      told_yes l from limit k i (omega arith) (omega arith) (omega arith)

  pub missed : i ≤ bytes_for limit → bytes_for limit ≤ i
      → ◌≡◌ {A = Told} (record { enough = false; bytes = bytes_for limit }) (told_of l from limit k)
  missed h q =
      let z : bytes_for limit ≡ i = omega arith in
      let y : clear_in l from limit (bytes_for limit) ≡ clear_in l from limit i = ap (clear_in l from limit) z in
      told_no l from limit k (omega arith)

-- the ones of a few bits
pub ones_few : (l : List ℕ) (at n c : ℕ) → c ≡ ones l at n → c ≤ n
ones_few l at n c e = omega (arith, ones-le l at n)

module _ (l : List ℕ) (from limit k : ℕ) where
  pub none_asked : k ≡ 0 → ◌≡◌ {A = Told} (record { enough = true; bytes = 0 }) (told_of l from limit k)
  none_asked e = told_none l from limit ∙ ap (told_of l from limit) (sym e)

-- ---- an opened volume

-- all bytes have all the clear indexes in reach
pub clear_reach : (g : Geo) (I : List ℕ) → clear_in I (block_size g * map_at g) (reach g) (bytes_for (reach g)) ≡ length (clears g I)
unfolding clears mark
clear_reach g I =
    let from : ℕ = block_size g * map_at g in
    omega (arith, clear_all I from (reach g) (bytes_for (reach g)) (omega arith), clear_count I from (data_at g) (reach g))

module _ (s : SuperBlock) (I : List ℕ) (k : ℕ) where
  pub room_of : (at : ℕ) (r : Told) → Fit s I → at ≡ s.size * s.bitmap.0 → r ≡ told_of I at s.reach k → r ≡ room_in (geo_of s) I k
  unfolding told_of room_in
  room_of at r f e q =
      let g = geo_of s in
      q ∙ (λ i. told_of I (from_is f e i) (f.reach i) k)
      ∙ (λ i. record { enough = leb k (clear_reach g I i); bytes = bytes_read I (block_size g * map_at g) (reach g) k (bytes_for (reach g)) })

  pub lacks_of : (t : Told) → t ≡ room_in (geo_of s) I k → not t.enough ≡ ltb (length (clears (geo_of s) I)) k
  unfolding room_in
  lacks_of t q = ap (λ (u : Told). not u.enough) q ∙ go (length (clears (geo_of s) I)) (dec_lt (length (clears (geo_of s) I)) k)
    where
      go : (m : ℕ) → Dec (m < k) → not (leb k m) ≡ ltb m k
      go m (yes p) = ap not (lt-leb k m p) ∙ sym (lt-ltb m k p)
      go m (no p) = ap not (le-leb k m (omega arith)) ∙ sym (le-ltb m k (omega arith))
