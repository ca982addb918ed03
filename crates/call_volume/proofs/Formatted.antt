-- An image that format accepts is a well-formed volume with an empty root.
use Rattle.std.specs.Prelude.{Result}
use mathlib.Core.Path.{◌≡◌, refl, sym, ap, ◌∙◌, subst}
use Rattle.model.proofs.Blank.{formatted as blank-volume}
use mathlib.Core.List.{List, [], ◌∷◌, ◌++◌}
use Prim.Native.Nat.{ℕ, suc, ◌+◌, ◌-◌, ◌*◌, ◌/◌, ◌≤◌, ◌<◌}
use native.Mathlib.Nat.{add-zero}
use native.Mathlib.Omega.{arith}
use native.Mathlib.Decide.{ℕ_discrete}
use lib.ListN.{length, get_or, length-append}
use Rattle.wire.specs.Be.{bytes}
use Rattle.wire.proofs.Numbers.{length_bytes}
use Rattle.bits.specs.Bit.{bit}
use Rattle.bits.proofs.Bits.{bit_zero}
use Rattle.block.specs.Block.{cell, zeroed}
use Rattle.block.proofs.Blocks.{byte_zeroed}
use Rattle.model.specs.Answers.{accepted}
use Rattle.model.specs.Tree.{blank}
use Rattle.model.specs.Render.{Shows, padded, count}
use Rattle.model.specs.Geometry.{Mount, Geo, block_size, map_at, data_at, map_bits, bit_end, format_geo, super_bytes, used_count, Sound, format_refusal}
use Rattle.model.specs.Volume.{Volume, WellFormed, max_depth}
use Rattle.model.proofs.Areas.{size_large}
use Rattle.model.proofs.Full.{length-padded, padded-none, zero_byte}
use Rattle.model.proofs.Counts.{count_same, count_other, count_none}
use Rattle.model.proofs.Opens.{format_sound}
use Rattle.model.proofs.Replies.{settle-none, reply_zero}
use Rattle.super_block.specs.declared.SuperBlock.{SuperBlock}
use Rattle.super_block.specs.Super.{super_block, super_written, Fit}
use Rattle.super_block.proofs.Fits.{fit_of}
use Rattle.bitmap_block.specs.Bitmap.{mark, taken}
use Rattle.bitmap_block.proofs.Stores.{mark_is, top_taken, mark-taken, mark-taken_other, cell-taken, sound_taken}
use Rattle.limits.specs.Says.{says}
use Rattle.limits.specs.declared.Refusal.{Refusal}
use Rattle.call_volume.specs.Format.{formatted, Formats}
use Rattle.call_volume.proofs.Answers.{bitmap_in, long-J, laid_fit, top-L, used-L, root_in}

-- a block of zeros, as an empty directory shows it
empty_byte : (k i : ℕ) → get_or (bytes 4 0 ++ padded k []) i 0 ≡ 0
empty_byte k i = ap (λ (l : List ℕ). get_or (bytes 4 0 ++ l) i 0) (padded-none k) ∙ zero_byte k i

zero_long : (B : ℕ) → 4 ≤ B → length (bytes 4 0 ++ padded (B - 4) []) ≡ B
zero_long B h = length-append (bytes 4 0) (padded (B - 4) []) ∙ omega (arith, length_bytes 4 0, length-padded (B - 4) [] (omega arith))

module _ (g : Geo) (I : List ℕ) (sound : Sound g (length I)) where
  abbrev s : SuperBlock
  s = super_block g

  fit : Fit s I
  fit = fit_of g I sound

  -- superblock and bitmap written, before block D is taken
  abbrev W : List ℕ
  W = super_written g I (data_at g)

  abbrev L : List ℕ
  L = zeroed (block_size g) W (map_at g) (data_at g - map_at g)

  sound-L : Sound g (length L)
  sound-L = (laid_fit s I fit W L refl refl).sound

  root : data_at g + 0 < bit_end g
  root = root_in s I fit

  used : used_count g L ≡ data_at g
  used = used-L s I fit W L refl refl

  -- a bit that is not D's
  clear-L : (x : ℕ) → x < map_bits g → mark g L x ≡ 0
  clear-L x h =
      mark_is g L x
      ∙ bit_zero L (block_size g * map_at g) x
      (byte_zeroed (block_size g) W (map_at g) (data_at g - map_at g) (bitmap_in s I fit W (long-J s I fit W L refl refl)) (x / 8) (omega arith))

  marks : (x : ℕ) → x < map_bits g → bit (taken g L 0) (block_size g * map_at g) x ≡ count (data_at g + x) (data_at g ∷ [])
  marks x h = sym (mark_is g (taken g L 0) x) ∙ go (ℕ_discrete x 0)
    where
      go : Dec (x ≡ 0) → mark g (taken g L 0) x ≡ count (data_at g + x) (data_at g ∷ [])
      go (yes e) =
          ap (mark g (taken g L 0)) e ∙ mark-taken g L sound-L 0 root
          ∙ sym (count_same (data_at g + x) (data_at g) [] (omega arith) ∙ ap suc (count_none (data_at g + x)))
      go (no e) =
          mark-taken_other g L sound-L 0 root x h e ∙ clear-L x h ∙ sym (count_other (data_at g + x) (data_at g) [] (omega arith) ∙ count_none (data_at g + x))

  -- block D is an empty directory's
  root-L : Shows (taken g L 0) (block_size g * data_at g) (bytes 4 0 ++ padded (block_size g - 4) [])
  unfolding cell
  root-L i h =
      let l : length (bytes 4 0 ++ padded (block_size g - 4) []) ≡ block_size g = zero_long (block_size g) (omega (arith, size_large g)) in
      rw add-zero at (cell-taken g L sound-L 0 root i (omega arith)) ∙ sym (empty_byte (block_size g - 4) i)

  -- The image that format's stores make has every bit, byte and count of the empty tree.
  format_volume : (d : ℕ) → Volume g (formatted g I) d (blank d (data_at g))
  unfolding formatted
  format_volume d =
      blank-volume g d (taken g L 0) (sound_taken g L sound-L 0 root)
      (subst (λ (u : ℕ). Shows (taken g L 0) (block_size g * g.K) (super_bytes g (u + 1))) used (top_taken g L sound-L 0 root (data_at g) (top-L s I fit W L refl refl)))
      root-L
      marks

-- An image that format accepts is well formed: the numbers are those of the whole image, and the tree is the empty one.
pub format_well_formed : (M : Mount) (I : List ℕ) (r : Result (Unit {0}) Refusal) (J : List ℕ) → Formats M I r J → says r ≡ accepted tt
    → (w : WellFormed M J) × (w.tree ≡ blank max_depth (data_at (format_geo M (length I))))
format_well_formed M I r J f e =
    let z : format_refusal M (length I) ≡ 0 = reply_zero _ tt tt (sym f.answer ∙ e) in
    let j : J ≡ formatted (format_geo M (length I)) I = f.image ∙ settle-none _ I z in (
      record {
        numbers = format_geo M (length I);
        here = refl;
        tree = blank max_depth (data_at (format_geo M (length I)));
        volume = subst (λ (x : List ℕ). Volume (format_geo M (length I)) x max_depth (blank max_depth (data_at (format_geo M (length I))))) (sym j) (format_volume (format_geo M (length I)) I (format_sound M (length I) z) max_depth);
      },
      refl,
    )
