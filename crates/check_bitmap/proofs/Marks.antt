-- W5's bits: the bitmap agrees with the marks exactly where each of its bits says how often the block of that index is reached.
use mathlib.Core.Path.{◌≡◌, refl, sym, ap, ◌∙◌, subst}
use mathlib.Core.Bool.{true}
use mathlib.Core.List.{List, []}
use Prim.Native.Nat.{ℕ, ◌+◌, ◌-◌, ◌*◌, ◌/◌, ◌≤◌, ◌<◌}
use native.Mathlib.Nat.{zero-add, mul-add, mul_comm, mul-le-mul_left}
use native.Mathlib.Decide.{dec_lt}
use native.Mathlib.Omega.{arith}
use lib.ListN.{length, get_or, take, drop, length-drop}
use lib.Seq.{length-take-le, get_or-take, get_or-drop}
use Rattle.wire.specs.Pick.{same, zero_from}
use Rattle.wire.proofs.Picks.{same_eq, same_agree, and_both, both_and}
use Rattle.wire.proofs.Zeros.{zeros_shown, zeros_pass}
use Rattle.bits.specs.Bit.{bit}
use Rattle.bits.proofs.Bits.{bit_ext, bit_zero}
use Rattle.model.specs.Geometry.{Geo, block_size, map_at, data_at, map_bits, Sound}
use Rattle.model.specs.Steps.{Bytes}
use Rattle.model.proofs.Areas.{area}
use Rattle.model.proofs.Demand.{byte_same}
use Rattle.check_bitmap.specs.Tally.{map_from, map_long, mark_long, both_long, agreed}

-- ---- bytes and bits of a part of a list

-- the list from byte `from` on has the bits from there on
bit-drop : (I : List ℕ) (from x : ℕ) → bit (drop from I) 0 x ≡ bit I from x
bit-drop I from x = bit_ext (drop from I) I 0 from x (get_or-drop from I (0 + x / 8) 0 ∙ ap (λ (j : ℕ). get_or I (from + j) 0) (zero-add (x / 8)))

bytes_drop : (I : List ℕ) (from : ℕ) → Bytes I → Bytes (drop from I)
bytes_drop I from b i = subst (λ (v : ℕ). v < 256) (sym (get_or-drop from I i 0)) (b (from + i))

-- bytes whose eight bits agree are equal
byte_agrees : (I W : List ℕ) (from i : ℕ) → Bytes I → Bytes W → ((k : ℕ) → k < 8 → bit I from (8 * i + k) ≡ bit W 0 (8 * i + k)) → get_or I (from + i) 0 ≡ get_or W i 0
byte_agrees I W from i b w h =
    sym (get_or-drop from I i 0)
    ∙ rw zero-add at (byte_same W (drop from I) 0 i w (bytes_drop I from b) (λ k q. bit-drop I from (8 * i + k) ∙ h k q))

-- a byte with no bit set is zero
no_bytes : Bytes []
no_bytes i = omega arith

byte_clear : (I : List ℕ) (from i : ℕ) → Bytes I → ((k : ℕ) → k < 8 → bit I from (8 * i + k) ≡ 0) → get_or I (from + i) 0 ≡ 0
byte_clear I from i b h = byte_agrees I [] from i b no_bytes (λ k q. h k q ∙ sym (bit_zero [] 0 (8 * i + k) refl))

-- ---- the places

-- the bitmap is in the image
module _ (g : Geo) (len : ℕ) (s : Sound g len) where
  map_inside : map_from g + map_long g ≤ len
  map_inside =
      let a = area g len s in
      let k : map_at g + (data_at g - map_at g) ≡ data_at g = omega (arith, a.maps) in
      let e : map_from g + map_long g ≡ block_size g * data_at g = sym (mul-add (block_size g) (map_at g) (data_at g - map_at g)) ∙ ap (λ (x : ℕ). block_size g * x) k in
      let l : data_at g ≤ g.n = omega (arith, a.some_data) in
      omega (arith, mul-le-mul_left (block_size g) l, mul_comm (block_size g) g.n, s.inside_image)

-- ---- W5: the bits are the marks, and clear past the data; W2: a block without a bit is not marked

-- f x is how often the block of index x is reached; W has the marks.
module _ (g : Geo) (I W : List ℕ) (s : Sound g (length I)) (room : mark_long g ≤ length W) (f : ℕ → ℕ)
    (marks : (x : ℕ) → x < 8 * mark_long g → bit W 0 x ≡ f x) (past : (x : ℕ) → g.n - data_at g ≤ x → f x ≡ 0) where
  part_at : (i : ℕ) → i < both_long g → get_or (take (both_long g) (drop (map_from g) I)) i 0 ≡ get_or I (map_from g + i) 0
  part_at i h = get_or-take (both_long g) (drop (map_from g) I) i 0 h ∙ get_or-drop (map_from g) I i 0

  -- the three tests
  record Agrees : Type 0 where
    same_bytes : same (take (both_long g) (drop (map_from g) I)) (take (both_long g) W) ≡ true
    marks_clear : zero_from W (both_long g) (mark_long g - both_long g) ≡ true
    bits_clear : zero_from I (map_from g + both_long g) (map_long g - both_long g) ≡ true

  all_three : agreed g I W ≡ true → Agrees
  unfolding agreed
  all_three e =
      let a = and_both _ _ e in
      let b = and_both _ _ a.1 in
      record { same_bytes = a.0; marks_clear = b.0; bits_clear = b.1 }

  pub agrees_sound : agreed g I W ≡ true → (x : ℕ) → x < map_bits g → bit I (block_size g * map_at g) x ≡ f x
  agrees_sound e x h = go (dec_lt (x / 8) (both_long g))
    where
      go : Dec (x / 8 < both_long g) → bit I (map_from g) x ≡ f x
      go (yes l) =
          bit_ext I W (map_from g) 0 x
          (sym (part_at (x / 8) l) ∙ ap (λ (v : List ℕ). get_or v (x / 8) 0) (same_eq _ _ (all_three e).same_bytes) ∙ get_or-take (both_long g) W (x / 8) 0 l
          ∙ ap (λ (j : ℕ). get_or W j 0) (sym (zero-add (x / 8))))
          ∙ marks x (omega arith)
      go (no l) =
          let j : map_from g + x / 8 ≡ map_from g + both_long g + (x / 8 - both_long g) = omega arith in
          bit_zero I (map_from g) x (ap (λ (v : ℕ). get_or I v 0) j ∙ zeros_shown I (map_from g + both_long g) (map_long g - both_long g) (all_three e).bits_clear (x / 8 - both_long g) (omega arith))
          ∙ sym (past x (omega arith))

  pub agrees_bits : agreed g I W ≡ true → (x : ℕ) → map_bits g ≤ x → f x ≡ 0
  agrees_bits e x h = go (dec_lt (x / 8) (mark_long g))
    where
      go : Dec (x / 8 < mark_long g) → f x ≡ 0
      go (yes l) =
          let j : 0 + x / 8 ≡ both_long g + (x / 8 - both_long g) = omega arith in
          sym (marks x (omega arith))
          ∙ bit_zero W 0 x (ap (λ (v : ℕ). get_or W v 0) j ∙ zeros_shown W (both_long g) (mark_long g - both_long g) (all_three e).marks_clear (x / 8 - both_long g) (omega arith))
      go (no l) = past x (omega arith)

  pub agrees_complete : Bytes I → Bytes W → ((x : ℕ) → x < map_bits g → bit I (block_size g * map_at g) x ≡ f x) → ((x : ℕ) → map_bits g ≤ x → f x ≡ 0)
      → agreed g I W ≡ true
  unfolding agreed
  agrees_complete b w h z = both_and first (both_and second third)
    where
      lw : length (take (both_long g) W) ≡ both_long g
      lw = length-take-le (both_long g) W (omega arith)

      li : length (take (both_long g) (drop (map_from g) I)) ≡ both_long g
      li = length-take-le (both_long g) (drop (map_from g) I) (rw length-drop (omega (arith, map_inside g (length I) s)))

      first : same (take (both_long g) (drop (map_from g) I)) (take (both_long g) W) ≡ true
      first =
          same_agree _ _ (li ∙ sym lw) (λ i q.
          let l : i < both_long g = omega (arith, lw) in
          part_at i l ∙ byte_agrees I W (map_from g) i b w (λ k r. h (8 * i + k) (omega arith) ∙ sym (marks (8 * i + k) (omega arith)))
          ∙ sym (get_or-take (both_long g) W i 0 l))

      second : zero_from W (both_long g) (mark_long g - both_long g) ≡ true
      second =
          zeros_pass W (mark_long g - both_long g) (both_long g) (λ j q.
          sym (ap (λ (v : ℕ). get_or W v 0) (zero-add (both_long g + j)))
          ∙ byte_clear W 0 (both_long g + j) w (λ k r. marks (8 * (both_long g + j) + k) (omega arith) ∙ z (8 * (both_long g + j) + k) (omega arith)))

      third : zero_from I (map_from g + both_long g) (map_long g - both_long g) ≡ true
      third =
          zeros_pass I (map_long g - both_long g) (map_from g + both_long g) (λ j q.
          let e : map_from g + both_long g + j ≡ map_from g + (both_long g + j) = omega arith in
          ap (λ (v : ℕ). get_or I v 0) e
          ∙ byte_clear I (map_from g) (both_long g + j) b (λ k r. h (8 * (both_long g + j) + k) (omega arith) ∙ past (8 * (both_long g + j) + k) (omega arith)))
