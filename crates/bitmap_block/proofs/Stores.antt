-- What the readers of bitmap and used count see after each store, over all numbers that are sound for the image.
-- Index x has a block in the data and a bit where data_at g + x < bit_end g. Callers cite these and unfold none of the definitions.
use mathlib.Core.Path.{◌≡◌, refl, sym, ap, ◌∙◌, subst}
use mathlib.Core.Logic.{◌⊎◌, inl, inr, ◌≢◌}
use mathlib.Core.List.{List, [], ◌∷◌, ◌++◌}
use Prim.Native.Nat.{ℕ, ◌+◌, ◌-◌, ◌*◌, ◌/◌, ◌%◌, ◌^◌, ◌≤◌, ◌<◌}
use native.Mathlib.Nat.{mul-one, mul-add, mul_assoc, mul_comm, mul-le-mul_left, div-add-mod, mod-lt, div-lt_iff_lt-mul}
use native.Mathlib.Decide.{dec_lt}
use native.Mathlib.Omega.{arith}
use lib.ListN.{length, get_or, drop, length-append}
use Rattle.wire.specs.Be.{bytes, splice, zeros}
use Rattle.wire.proofs.Numbers.{length_bytes, be_put_same, splice-after}
use Rattle.bits.specs.Bit.{digit, bit, AllSet}
use Rattle.bits.proofs.Bits.{bit_ext, bit-lt, length_with, byte_with_other, bit_with_same, bit_with_other}
use Rattle.block.specs.Block.{cell, zeroed, Off, Kept}
use Rattle.block.proofs.Blocks.{block_below, kept_trans, kept_less, be_kept, splice_kept, zeroed_kept, cell-zeroed}
use Rattle.model.specs.Tree.{Tree}
use Rattle.model.specs.Render.{blocks, count, padded, Shows, Wiped}
use Rattle.model.specs.Geometry.{Geo, block_size, map_size, map_at, data_at, reach, map_bits, bit_end, signature, super_bytes, used_count, Sound}
use Rattle.model.specs.Volume.{Volume}
use Rattle.model.specs.Calls.{free_blocks}
use Rattle.model.proofs.Areas.{area, few, size_large, block_inside}
use Rattle.model.proofs.Counts.{count_append}
use Rattle.model.proofs.Free.{LowestClear, clear_ext, clear_lowest, clear_next, free_image, free_found, free_once}
use Rattle.model.proofs.Commit.{shows_both, shows_two, shows_stored, shows_before, shows_after}
use Rattle.model.proofs.Demand.{whole_super}
use Rattle.model.proofs.OneVolume.{top_reads, used_is}
use Rattle.model.proofs.Owns.{shows_kept}
use Rattle.model.proofs.Sums.{row}
use Rattle.super_block.specs.Super.{counted}
use Rattle.bitmap_block.specs.Bitmap.{mark, marked, clears, more, fewer, taken, freed, Room, fresh}

-- ---- places

-- F5, as the rule has it: first the bitmap block of index x, then the byte in that block, then the place in that byte.
pub mark_place : (g : Geo) (I : List ℕ) (x : ℕ) → mark g I x ≡ bit I (block_size g * (map_at g + x / map_size g)) (x % map_size g)
unfolding mark bit
mark_place g I x =
    let B : ℕ = block_size g in
    let q : ℕ = x / (8 * B) in
    let r : ℕ = x % (8 * B) in
    let w : 8 * (B * q) + r ≡ x = sym (ap (λ (z : ℕ). z + r) (mul_assoc 8 B q)) ∙ div-add-mod x (8 * B) in
    let e : B * map_at g + x / 8 ≡ B * (map_at g + q) + r / 8 = omega (arith, w, mul-add B (map_at g) q) in
    let f : x % 8 ≡ r % 8 = omega (arith, w) in
    λ i. digit (get_or I (e i) 0) (f i)

-- The bit that W5 speaks of.
pub mark_is : (g : Geo) (I : List ℕ) (x : ℕ) → mark g I x ≡ bit I (block_size g * map_at g) x
unfolding mark
mark_is g I x = refl

-- a bit of the k blocks from a on has its byte in them
byte_in : (B a k x : ℕ) → x < 8 * (B * k) → B * a + x / 8 < B * (a + k)
byte_in B a k x h = omega (arith, mul-add B a k)

-- a byte of the k blocks from a on is that of one of them
byte_kept : (B : ℕ) (P : ℕ → ℕ → Type 0) (I J : List ℕ) → Kept B P I J → (a k : ℕ) → 0 < B → ((b o : ℕ) → a ≤ b → b < a + k → P b o)
    → (j : ℕ) → j < B * k → get_or J (B * a + j) 0 ≡ get_or I (B * a + j) 0
unfolding cell
byte_kept B P I J c a k z f j q =
    let l : j / B < k = (div-lt_iff_lt-mul z).1 (omega (arith, mul_comm B k)) in
    let e : B * a + j ≡ B * (a + j / B) + j % B = omega (arith, mul-add B a (j / B), div-add-mod j B) in
    rw e (c.at (a + j / B) (j % B) (f (a + j / B) (j % B) (omega arith) (omega arith)) (mod-lt j z))

module _ (g : Geo) (len : ℕ) (s : Sound g len) where
  map_in : map_at g + (data_at g - map_at g) ≡ data_at g
  map_in = omega (arith, (area g len s).maps)

  -- the superblock, and a block of the data, are in the image
  super_in : block_size g * g.K + block_size g ≤ len
  super_in = block_inside g len s g.K (omega (arith, s.room))

  data_in : (x : ℕ) → data_at g + x < bit_end g → block_size g * (data_at g + x) + block_size g ≤ len
  data_in x h = block_inside g len s (data_at g + x) (omega arith)

  -- an index in the data with a bit has it in the bitmap, and one in reach is such an index
  pub index_in : (x : ℕ) → data_at g + x < bit_end g → x < map_bits g
  index_in x h = omega arith

  pub reach_in : (x : ℕ) → x < reach g → data_at g + x < bit_end g
  reach_in x h = omega (arith, (area g len s).reached, (area g len s).has_bits)

  -- whose byte is below the data, and in the image
  bit_below : (x : ℕ) → x < map_bits g → block_size g * map_at g + x / 8 < block_size g * data_at g
  bit_below x h =
      subst (λ (z : ℕ). block_size g * map_at g + x / 8 < block_size g * z) map_in (byte_in (block_size g) (map_at g) (data_at g - map_at g) x h)

  bit_in : (x : ℕ) → x < map_bits g → block_size g * map_at g + x / 8 < len
  bit_in x h =
      omega (arith, bit_below x h, block_inside g len s (data_at g) (area g len s).some_data)

-- ---- any store: where it keeps what a reader looks at

module _ (g : Geo) (I : List ℕ) (s : Sound g (length I)) (P : ℕ → ℕ → Type 0) (J : List ℕ) (c : Kept (block_size g) P I J) where
  pub sound_kept : Sound g (length J)
  sound_kept = subst (Sound g) (sym c.size) s

  pub used_kept : ((o : ℕ) → 14 ≤ o → o < 18 → P g.K o) → used_count g J ≡ used_count g I
  unfolding used_count
  used_kept f = be_kept (block_size g) P I J c 4 g.K 14 (omega (arith, size_large g)) f

  pub mark_kept : ((b o : ℕ) → map_at g ≤ b → b < data_at g → P b o) → (x : ℕ) → x < map_bits g → mark g J x ≡ mark g I x
  unfolding mark
  mark_kept f x h =
      bit_ext J I (block_size g * map_at g) (block_size g * map_at g) x
      (byte_kept (block_size g) P I J c (map_at g) (data_at g - map_at g) (omega (arith, size_large g))
      (λ b o p q. f b o p (omega (arith, map_in g (length I) s))) (x / 8) (omega arith))

  pub clears_kept : ((b o : ℕ) → map_at g ≤ b → b < data_at g → P b o) → clears g J ≡ clears g I
  unfolding clears
  clears_kept f =
      clear_ext (λ b. mark g J (b - data_at g)) (λ b. mark g I (b - data_at g)) (data_at g) (reach g) (λ b p q.
      let e : mark g J (b - data_at g) ≡ mark g I (b - data_at g)
      = mark_kept f (b - data_at g) (index_in g (length I) s (b - data_at g) (reach_in g (length I) s (b - data_at g) (omega arith))) in
      (λ z. sym e ∙ z, λ z. e ∙ z))

-- ---- a bit put in

module _ (g : Geo) (I : List ℕ) (s : Sound g (length I)) (x : ℕ) (h : data_at g + x < bit_end g) (v : ℕ) where
  -- its byte is in the image
  byte : block_size g * map_at g + x / 8 < length I
  byte = bit_in g (length I) s x (index_in g (length I) s x h)

  marked_kept : Kept (block_size g) (λ b o. (b < map_at g) ⊎ (data_at g ≤ b)) I (marked g I x v)
  unfolding marked cell
  marked_kept = record { size = length_with I (block_size g * map_at g) x v; at = λ b o p q. byte_with_other I (block_size g * map_at g) x v (block_size g * b + o) (go b o p q) }
    where
      go : (b o : ℕ) → (b < map_at g) ⊎ (data_at g ≤ b) → o < block_size g → block_size g * b + o ≢ block_size g * map_at g + x / 8
      go b o (inl l) q = omega (arith, block_below (block_size g) b (map_at g) o l q)
      go b o (inr l) q = omega (arith, mul-le-mul_left (block_size g) l, bit_below g (length I) s x (index_in g (length I) s x h))

  used_marked : used_count g (marked g I x v) ≡ used_count g I
  used_marked = used_kept g I s _ (marked g I x v) marked_kept (λ o _ _. inl (omega arith))

  mark-marked : v < 2 → mark g (marked g I x v) x ≡ v
  unfolding mark marked
  mark-marked p = bit_with_same I (block_size g * map_at g) x v byte p

  mark-marked_other : v < 2 → (y : ℕ) → y ≢ x → mark g (marked g I x v) y ≡ mark g I y
  unfolding mark marked
  mark-marked_other p y d = bit_with_other I (block_size g * map_at g) x v y byte p d

-- ---- the used count stored

module _ (g : Geo) (I : List ℕ) (s : Sound g (length I)) (v : ℕ) where
  counted_kept : Kept (block_size g) (Off g.K 14 4) I (counted g I v)
  unfolding counted
  counted_kept =
      rw (length_bytes 4 v) at (splice_kept (block_size g) I g.K 14 (bytes 4 v) (omega (arith, length_bytes 4 v, size_large g)) (super_in g (length I) s))

  used_counted : v < 2 ^ 32 → used_count g (counted g I v) ≡ v
  unfolding used_count counted
  used_counted p = be_put_same I (block_size g * g.K + 14) 4 v (omega (arith, size_large g, super_in g (length I) s)) p

  -- the bitmap is past it
  mark-counted : (x : ℕ) → mark g (counted g I v) x ≡ mark g I x
  unfolding mark counted
  mark-counted x =
      bit_ext (splice I (block_size g * g.K + 14) (bytes 4 v)) I (block_size g * map_at g) (block_size g * map_at g) x
      (splice-after I (block_size g * g.K + 14) (bytes 4 v) (omega (arith, length_bytes 4 v, size_large g, super_in g (length I) s)) (block_size g * map_at g + x / 8)
      (omega (arith, length_bytes 4 v, size_large g, mul-add (block_size g) g.K 2)))

  -- W1's superblock, with that count
  top_counted : (u : ℕ) → Shows I (block_size g * g.K) (super_bytes g u) → Shows (counted g I v) (block_size g * g.K) (super_bytes g v)
  unfolding super_bytes padded counted
  top_counted u t =
      let k : ℕ = block_size g * g.K in
      let m : List ℕ = signature ++ (g.version ∷ (g.code ∷ [])) in
      let n : List ℕ = bytes 4 g.n in
      let w : List ℕ = bytes 4 u in
      let w' : List ℕ = bytes 4 v in
      let J : List ℕ = splice I (k + 14) w' in
      let ln : length n ≡ 4 = length_bytes 4 g.n in
      let lu : length (m ++ (n ++ w)) ≡ 18 = omega (arith, length-append n w, length_bytes 4 u) in
      let lv : length (m ++ (n ++ w')) ≡ 18 = omega (arith, length-append n w', length_bytes 4 v) in
      let fits : k + 14 + length w' ≤ length I = omega (arith, length_bytes 4 v, size_large g, super_in g (length I) s) in
      let r = top_reads I k g u (unfold super_bytes padded in t) in
      let z : Shows I (k + length (m ++ (n ++ w))) (zeros (block_size g - length (m ++ (n ++ w)))) = shows_two I k (m ++ (n ++ w)) (zeros (block_size g - length (m ++ (n ++ w)))) t in
      let z' : Shows J (k + length (m ++ (n ++ w))) (zeros (block_size g - length (m ++ (n ++ w))))
      = shows_after I (k + 14) w' fits (k + length (m ++ (n ++ w))) (zeros (block_size g - length (m ++ (n ++ w)))) (omega (arith, length_bytes 4 v)) z in
      let e : length (m ++ (n ++ w)) ≡ length (m ++ (n ++ w')) = lu ∙ sym lv in
      let a : Shows J k m = shows_before I (k + 14) w' fits k m (omega arith) r.mark in
      let b : Shows J (k + 10) n = shows_before I (k + 14) w' fits (k + 10) n (omega arith) r.count in
      let c : Shows J (k + 14) w' = shows_stored I (k + 14) w' fits in
      let d : k + 10 + length n ≡ k + 14 = omega arith in
      shows_both J k (m ++ (n ++ w')) (zeros (block_size g - length (m ++ (n ++ w'))))
      (shows_both J k m (n ++ w') a (shows_both J (k + 10) n w' b (subst (λ (j : ℕ). Shows J j w') (sym d) c)))
      (subst (λ (j : ℕ). Shows J (k + j) (zeros (block_size g - j))) e z')

-- ---- what taking and freeing leave

-- Byte o of block b is neither of the used count nor of the bitmap.
pub record Aside (g : Geo) (b o : ℕ) : Type 0 where
  pub not_count : Off g.K 14 4 b o
  pub not_map : map_at g ≤ b → b < data_at g → ⊥

-- So are the bytes of the superblock but four, of all blocks besides superblock and bitmap, and so of the data.
aside_super : (g : Geo) (b o : ℕ) → b ≡ g.K → (o < 14) ⊎ (18 ≤ o) → Aside g b o
aside_super g b o e (inl l) = record { not_count = λ _ p q. omega arith; not_map = λ p q. omega arith }
aside_super g b o e (inr l) = record { not_count = λ _ p q. omega arith; not_map = λ p q. omega arith }

pub aside_other : (g : Geo) (b o : ℕ) → (b ≡ g.K → ⊥) → (map_at g ≤ b → b < data_at g → ⊥) → Aside g b o
aside_other g b o n m = record { not_count = λ e p q. n e; not_map = m }

pub aside_data : (g : Geo) (len : ℕ) → Sound g len → (b o : ℕ) → data_at g ≤ b → Aside g b o
aside_data g len s b o h = aside_other g b o (λ e. omega (arith, (area g len s).maps)) (λ p q. omega arith)

-- as a bit that is put in says it
off_map : (g : Geo) (b : ℕ) → (map_at g ≤ b → b < data_at g → ⊥) → (b < map_at g) ⊎ (data_at g ≤ b)
off_map g b f = go (dec_lt b (map_at g)) (dec_lt b (data_at g))
  where
    go : Dec (b < map_at g) → Dec (b < data_at g) → (b < map_at g) ⊎ (data_at g ≤ b)
    go (yes l) q = inl l
    go (no l) (yes q) = absurd (f (omega arith) q)
    go (no l) (no q) = inr (omega arith)

-- ---- a block zeroed, its bit and the used count stored: what taking a block and giving it back have in common

module _ (g : Geo) (I : List ℕ) (s : Sound g (length I)) (x : ℕ) (h : data_at g + x < bit_end g) where
  zero_of : List ℕ
  zero_of = zeroed (block_size g) I (data_at g + x) 1

  zero_kept : Kept (block_size g) (λ b o. (b < data_at g + x) ⊎ (data_at g + x + 1 ≤ b)) I zero_of
  unfolding zero_of
  zero_kept = zeroed_kept (block_size g) I (data_at g + x) 1 (rw mul-one (data_in g (length I) s x h))

  zero_sound : Sound g (length zero_of)
  zero_sound = sound_kept g I s _ zero_of zero_kept

  -- with v as its bit
  module _ (v : ℕ) where
    set_of : List ℕ
    set_of = marked g zero_of x v

    set_kept : Kept (block_size g) (λ b o. (b < map_at g) ⊎ (data_at g ≤ b)) zero_of set_of
    unfolding set_of
    set_kept = marked_kept g zero_of zero_sound x h v

    set_sound : Sound g (length set_of)
    set_sound = sound_kept g zero_of zero_sound _ set_of set_kept

    set_used : used_count g set_of ≡ used_count g I
    unfolding set_of
    set_used = used_marked g zero_of zero_sound x h v ∙ used_kept g I s _ zero_of zero_kept (λ o _ _. inl (omega (arith, (area g (length I) s).maps)))

    pub used_half : used_count g (marked g (zeroed (block_size g) I (data_at g + x) 1) x v) ≡ used_count g I
    unfolding set_of zero_of
    used_half = set_used

    -- and u as the used count
    module _ (u : ℕ) where
      put_of : List ℕ
      put_of = counted g set_of u

      last_kept : Kept (block_size g) (Off g.K 14 4) set_of put_of
      unfolding put_of
      last_kept = counted_kept g set_of set_sound u

      -- every other byte is as it was
      put_kept : Kept (block_size g) (λ b o. Aside g b o × (b ≡ data_at g + x → ⊥)) I put_of
      put_kept =
          kept_trans (kept_less (λ b o p. other b p.1 (dec_lt b (data_at g + x))) zero_kept)
          (kept_trans (kept_less (λ b o p. off_map g b p.0.not_map) set_kept) (kept_less (λ b o p. p.0.not_count) last_kept))
        where
          other : (b : ℕ) → (b ≡ data_at g + x → ⊥) → Dec (b < data_at g + x) → (b < data_at g + x) ⊎ (data_at g + x + 1 ≤ b)
          other b d (yes l) = inl l
          other b d (no l) = inr (omega arith)

      put_used : u < 2 ^ 32 → used_count g put_of ≡ u
      unfolding put_of
      put_used p = used_counted g set_of set_sound u p

      put_top : (w : ℕ) → Shows I (block_size g * g.K) (super_bytes g w) → Shows put_of (block_size g * g.K) (super_bytes g u)
      unfolding put_of
      put_top w t =
          let l : length (super_bytes g w) ≤ block_size g = omega (arith, whole_super g w) in
          let a = shows_kept (block_size g) _ I zero_of g.K (super_bytes g w) zero_kept (λ o _. inl (omega (arith, (area g (length I) s).maps))) l t in
          let b = shows_kept (block_size g) _ zero_of set_of g.K (super_bytes g w) set_kept (λ o _. inl (omega arith)) l a in
          top_counted g set_of set_sound u w b

      -- the marks
      put_mark : v < 2 → mark g put_of x ≡ v
      unfolding put_of set_of
      put_mark p = mark-counted g (unfold set_of in set_of) (unfold set_of in set_sound) u x ∙ mark-marked g zero_of zero_sound x h v p

      put_mark_other : v < 2 → (y : ℕ) → y < map_bits g → y ≢ x → mark g put_of y ≡ mark g I y
      unfolding put_of set_of
      put_mark_other p y q d =
          mark-counted g (unfold set_of in set_of) (unfold set_of in set_sound) u y
          ∙ mark-marked_other g zero_of zero_sound x h v p y d ∙ mark_kept g I s _ zero_of zero_kept (λ b o _ l. inl (omega arith)) y q

      -- the block's bytes are zero
      put_cell : (o : ℕ) → o < block_size g → cell (block_size g) put_of (data_at g + x) o ≡ 0
      unfolding zero_of
      put_cell o q =
          last_kept.at (data_at g + x) o (aside_data g (length I) s (data_at g + x) o (omega arith)).not_count q ∙ set_kept.at (data_at g + x) o (inr (omega arith)) q
          ∙ cell-zeroed (block_size g) I (data_at g + x) 1 (rw mul-one (data_in g (length I) s x h)) (data_at g + x) o (omega arith) (omega arith) q

  -- with no block zeroed, or with this one, the used count that is stored is what it was
  pub used_some : (k : ℕ) → k ≤ 1 → (v : ℕ) → used_count g (marked g (zeroed (block_size g) I (data_at g + x) k) x v) ≡ used_count g I
  used_some k few v =
      let Z : List ℕ = zeroed (block_size g) I (data_at g + x) k in
      let kept : Kept (block_size g) (λ b o. (b < data_at g + x) ⊎ (data_at g + x + k ≤ b)) I Z
      = zeroed_kept (block_size g) I (data_at g + x) k (omega (arith, data_in g (length I) s x h, mul-le-mul_left (block_size g) few)) in
      let sound : Sound g (length Z) = sound_kept g I s _ Z kept in
      used_marked g Z sound x h v ∙ used_kept g I s _ Z kept (λ o _ _. inl (omega (arith, (area g (length I) s).maps)))

-- ---- a block taken

module _ (g : Geo) (I : List ℕ) (s : Sound g (length I)) (x : ℕ) (h : data_at g + x < bit_end g) where
  taken_is : taken g I x ≡ put_of g I s x h 1 (used_count g I + 1)
  unfolding taken more put_of set_of zero_of
  taken_is = ap (λ (u : ℕ). counted g (marked g (zeroed (block_size g) I (data_at g + x) 1) x 1) (u + 1)) (used_half g I s x h 1)

  -- every other byte is as it was
  pub taken_kept : Kept (block_size g) (λ b o. Aside g b o × (b ≡ data_at g + x → ⊥)) I (taken g I x)
  taken_kept = subst (Kept (block_size g) (λ b o. Aside g b o × (b ≡ data_at g + x → ⊥)) I) (sym taken_is) (put_kept g I s x h 1 (used_count g I + 1))

  pub sound_taken : Sound g (length (taken g I x))
  sound_taken = sound_kept g I s _ (taken g I x) taken_kept

  -- the used count that is stored is one more than it was
  pub used_taken : used_count g I + 1 < 2 ^ 32 → used_count g (taken g I x) ≡ used_count g I + 1
  used_taken p = ap (used_count g) taken_is ∙ put_used g I s x h 1 (used_count g I + 1) p

  pub top_taken : (u : ℕ) → Shows I (block_size g * g.K) (super_bytes g u) → Shows (taken g I x) (block_size g * g.K) (super_bytes g (used_count g I + 1))
  top_taken u t =
      subst (λ (J : List ℕ). Shows J (block_size g * g.K) (super_bytes g (used_count g I + 1))) (sym taken_is) (put_top g I s x h 1 (used_count g I + 1) u t)

  -- the marks
  pub mark-taken : mark g (taken g I x) x ≡ 1
  mark-taken = ap (λ (J : List ℕ). mark g J x) taken_is ∙ put_mark g I s x h 1 (used_count g I + 1) (omega arith)

  pub mark-taken_other : (y : ℕ) → y < map_bits g → y ≢ x → mark g (taken g I x) y ≡ mark g I y
  mark-taken_other y q d = ap (λ (J : List ℕ). mark g J y) taken_is ∙ put_mark_other g I s x h 1 (used_count g I + 1) (omega arith) y q d

  -- its bytes are zero, so its chain ends with it
  pub cell-taken : (o : ℕ) → o < block_size g → cell (block_size g) (taken g I x) (data_at g + x) o ≡ 0
  cell-taken o q = ap (λ (J : List ℕ). cell (block_size g) J (data_at g + x) o) taken_is ∙ put_cell g I s x h 1 (used_count g I + 1) o q

-- ---- the lowest clear index, and what is left where that one is taken

module _ (g : Geo) (I : List ℕ) (s : Sound g (length I)) (x : ℕ) (others : List ℕ) (e : clears g I ≡ (data_at g + x) ∷ others) where
  lowest_is : LowestClear (λ b. mark g I (b - data_at g)) (data_at g) (reach g) (data_at g + x) others
  unfolding clears
  lowest_is = clear_lowest (λ b. mark g I (b - data_at g)) (data_at g) (reach g) (data_at g + x) others e

  -- the place of an index, of its address
  index_of : (y : ℕ) → data_at g + y - data_at g ≡ y
  index_of y = omega arith

  pub first_in : data_at g + x < bit_end g
  first_in = reach_in g (length I) s x (omega (arith, lowest_is.below))

  -- and clear, and all below it are set
  pub first_clear : mark g I x ≡ 0
  first_clear = ap (mark g I) (sym (index_of x)) ∙ lowest_is.clear

  first_lowest : (y : ℕ) → y < x → mark g I y ≡ 1
  unfolding mark
  first_lowest y q =
      let n : mark g I y ≡ 0 → ⊥ = λ z. lowest_is.lowest (data_at g + y) (omega arith) (omega arith) (ap (mark g I) (index_of y) ∙ z) in
      one (bit-lt I (block_size g * map_at g) y) n
    where
      one : {m : ℕ} → m < 2 → (m ≡ 0 → ⊥) → m ≡ 1
      one l n = omega arith

  -- the others are clear still
  pub clears-taken : clears g (taken g I x) ≡ others
  unfolding clears
  clears-taken =
      clear_next (λ b. mark g I (b - data_at g)) (λ b. mark g (taken g I x) (b - data_at g)) (data_at g) (reach g) (data_at g + x) others e
      (λ z. let m : mark g (taken g I x) x ≡ 0 = ap (mark g (taken g I x)) (sym (index_of x)) ∙ z in omega (arith, mark-taken g I s x first_in))
      (λ c p q d.
      let f : mark g (taken g I x) (c - data_at g) ≡ mark g I (c - data_at g)
      = mark-taken_other g I s x first_in (c - data_at g) (index_in g (length I) s (c - data_at g) (reach_in g (length I) s (c - data_at g) (omega arith))) (omega arith) in
      (λ z. sym f ∙ z, λ z. f ∙ z))

  -- all up to it are set, so the next search may begin above it
  pub set-taken : AllSet (taken g I x) (block_size g * map_at g) 0 (x + 1)
  unfolding mark
  set-taken y _ q = go (dec_lt y x)
    where
      go : Dec (y < x) → bit (taken g I x) (block_size g * map_at g) y ≡ 1
      go (yes l) =
          (unfold mark in mark-taken_other g I s x first_in y (index_in g (length I) s y (omega (arith, first_in))) (omega arith)) ∙ (unfold mark in first_lowest y l)
      go (no l) = let d : y ≡ x = omega arith in rw d (unfold mark in mark-taken g I s x first_in)

  -- room for one more is room for the others
  pub room_taken : (k : ℕ) → Room g I (k + 1) → Room g (taken g I x) k
  room_taken k r = record {
    clear = omega (arith, r.clear, ap length e, ap length clears-taken);
    count = omega (arith, r.count, used_taken g I s x first_in (omega (arith, r.count, few g (length I) s)));
  }

-- Where there is one, the first is the lowest.
pub clears_first : (g : Geo) (I : List ℕ) (x : ℕ) → 1 ≤ length (clears g I) → data_at g + x ≡ get_or (clears g I) 0 0 → clears g I ≡ (data_at g + x) ∷ drop 1 (clears g I)
clears_first g I x h e = go (clears g I) h e
  where
    go : (l : List ℕ) → 1 ≤ length l → data_at g + x ≡ get_or l 0 0 → l ≡ (data_at g + x) ∷ drop 1 l
    go [] h e = absurd (omega arith)
    go (a ∷ l) h e = ap (λ (b : ℕ). b ∷ l) (sym e)

-- What stands first among the clear ones is a block of the data,
module _ (g : Geo) (I : List ℕ) (h : 1 ≤ length (clears g I)) where
  pub fresh_low : data_at g ≤ fresh g I
  unfolding clears fresh
  fresh_low = go (clears g I) refl h
    where
      go : (c : List ℕ) → clears g I ≡ c → 1 ≤ length c → data_at g ≤ get_or c 0 0
      go [] e k = absurd (omega arith)
      go (a ∷ c) e k = (clear_lowest (λ b. mark g I (b - data_at g)) _ _ a c e).from

  pub fresh_index : data_at g + (fresh g I - data_at g) ≡ fresh g I
  fresh_index = omega (arith, fresh_low)

  pub fresh_first : clears g I ≡ (data_at g + (fresh g I - data_at g)) ∷ drop 1 (clears g I)
  unfolding fresh
  fresh_first = clears_first g I (fresh g I - data_at g) h (unfold fresh in fresh_index)

  pub fresh_head : clears g I ≡ fresh g I ∷ drop 1 (clears g I)
  fresh_head = fresh_first ∙ ap (λ (b : ℕ). b ∷ drop 1 (clears g I)) fresh_index

  -- and clear
  module _ (s : Sound g (length I)) where
    pub fresh_data : data_at g + (fresh g I - data_at g) < bit_end g
    fresh_data = first_in g I s (fresh g I - data_at g) (drop 1 (clears g I)) fresh_first

    pub fresh_end : fresh g I < bit_end g
    fresh_end = omega (arith, fresh_data, fresh_index)

    pub fresh_high : fresh g I < g.n
    fresh_high = omega (arith, fresh_end)

    pub fresh_clear : mark g I (fresh g I - data_at g) ≡ 0
    fresh_clear = first_clear g I s (fresh g I - data_at g) (drop 1 (clears g I)) fresh_first

-- ---- a block given back

module _ (g : Geo) (I : List ℕ) (s : Sound g (length I)) (x : ℕ) (h : data_at g + x < bit_end g) where
  freed_is : freed g I x ≡ put_of g I s x h 0 (used_count g I - 1)
  unfolding freed fewer put_of set_of zero_of
  freed_is = ap (λ (u : ℕ). counted g (marked g (zeroed (block_size g) I (data_at g + x) 1) x 0) (u - 1)) (used_half g I s x h 0)

  -- every other byte is as it was
  pub freed_kept : Kept (block_size g) (λ b o. Aside g b o × (b ≡ data_at g + x → ⊥)) I (freed g I x)
  freed_kept = subst (Kept (block_size g) (λ b o. Aside g b o × (b ≡ data_at g + x → ⊥)) I) (sym freed_is) (put_kept g I s x h 0 (used_count g I - 1))

  -- the used count that is stored is one fewer than it was
  pub used_freed : used_count g I < 2 ^ 32 → used_count g (freed g I x) ≡ used_count g I - 1
  used_freed p = ap (used_count g) freed_is ∙ put_used g I s x h 0 (used_count g I - 1) (omega arith)

  pub top_freed : (u : ℕ) → Shows I (block_size g * g.K) (super_bytes g u) → Shows (freed g I x) (block_size g * g.K) (super_bytes g (used_count g I - 1))
  top_freed u t =
      subst (λ (J : List ℕ). Shows J (block_size g * g.K) (super_bytes g (used_count g I - 1))) (sym freed_is) (put_top g I s x h 0 (used_count g I - 1) u t)

  -- the marks
  pub mark-freed : mark g (freed g I x) x ≡ 0
  mark-freed = ap (λ (J : List ℕ). mark g J x) freed_is ∙ put_mark g I s x h 0 (used_count g I - 1) (omega arith)

  pub mark-freed_other : (y : ℕ) → y < map_bits g → y ≢ x → mark g (freed g I x) y ≡ mark g I y
  mark-freed_other y q d = ap (λ (J : List ℕ). mark g J y) freed_is ∙ put_mark_other g I s x h 0 (used_count g I - 1) (omega arith) y q d

  -- its bytes are zero: nothing of what it held is left
  pub freed_wiped : Wiped (block_size g) (freed g I x) (data_at g + x)
  unfolding cell
  freed_wiped o q = ap (λ (J : List ℕ). get_or J (block_size g * (data_at g + x) + o) 0) freed_is ∙ put_cell g I s x h 0 (used_count g I - 1) o q

-- ---- on a volume

module _ (g : Geo) (I : List ℕ) (d : ℕ) (t : Tree d) (v : Volume g I d t) where
  -- the clear indexes are the free blocks
  pub volume_clears : clears g I ≡ free_blocks g d t
  unfolding clears mark
  volume_clears = sym (free_image g I d t v)

  -- what is reached and what is free are blocks of the data, none twice
  all_few : length (blocks (block_size g) d t) + length (free_blocks g d t) ≤ g.n - data_at g
  all_few =
      omega (
        arith,
        length-append (blocks (block_size g) d t) (free_blocks g d t),
        row (g.n - data_at g) (data_at g) (blocks (block_size g) d t ++ free_blocks g d t) (λ i. once i (dec_lt 0 (count i (free_blocks g d t)))) (λ i q. range i q (dec_lt 0 (count i (free_blocks g d t)))),
      )
    where
      once : (i : ℕ) → Dec (0 < count i (free_blocks g d t)) → count i (blocks (block_size g) d t ++ free_blocks g d t) ≤ 1
      once i (yes l) =
          omega (arith, count_append i (blocks (block_size g) d t) (free_blocks g d t), (free_found g d t (length I) v.laid.sound i l).2, free_once g d t i)
      once i (no l) = omega (arith, count_append i (blocks (block_size g) d t) (free_blocks g d t), v.laid.once i)

      range : (i : ℕ) → 1 ≤ count i (blocks (block_size g) d t ++ free_blocks g d t) → Dec (0 < count i (free_blocks g d t)) → (data_at g ≤ i) × (i < data_at g + (g.n - data_at g))
      range i q (yes l) = let r = free_found g d t (length I) v.laid.sound i l in (r.0, omega (arith, r.0, r.1))
      range i q (no l) =
          let r = v.laid.range i (omega (arith, count_append i (blocks (block_size g) d t) (free_blocks g d t))) in (r.0, omega (arith, r.0, r.1))

  -- so there is room for as many as are free
  pub volume_room : (k : ℕ) → k ≤ length (free_blocks g d t) → Room g I k
  volume_room k h = record {
    clear = rw volume_clears h;
    count = omega (arith, used_is g I d t v, all_few, (area g (length I) v.laid.sound).some_data);
  }
