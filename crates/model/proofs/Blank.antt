-- What format has to show: the volume with an empty root. (And so `Volume` is not empty.)
use mathlib.Core.Path.{◌≡◌, refl}
use mathlib.Core.List.{List, [], ◌∷◌, ◌++◌}
use Prim.Native.Nat.{ℕ, ◌+◌, ◌-◌, ◌*◌, ◌≤◌, ◌<◌}
use native.Mathlib.Omega.{arith}
use native.Mathlib.Decide.{ℕ_discrete}
use lib.ListN.{length}
use borrow.Author.Tests.{ne_eqb}
use Rattle.wire.specs.Be.{bytes}
use Rattle.wire.proofs.Picks.{pick_false}
use Rattle.bits.specs.Bit.{bit}
use Rattle.model.specs.Tree.{used, blank}
use Rattle.model.specs.Render.{padded, entries_bytes, entry_pieces, dir_pieces, render, ats, count, blocks, blocks_at, Shows}
use Rattle.model.specs.Geometry.{map_at, block_size, Geo, data_at, super_bytes, Sound, map_bits}
use Rattle.model.specs.Volume.{named_in, named, GoodTree, Volume}
use Rattle.model.proofs.Counts.{count_same, count_is}
use Rattle.model.proofs.Areas.{laid_volume, area}

blank-blocks : (B d a : ℕ) → blocks B d (blank d a) ≡ a ∷ []
unfolding blank render dir_pieces entry_pieces ats
blank-blocks B d a = refl

-- An empty directory is good, at every depth.
pub blank_good : (B d a : ℕ) → GoodTree B d (blank d a)
unfolding blank named_in named used
blank_good B d a = record { packed = tt; distinct = λ n. omega arith; all = (record { fits = omega arith; each = tt }, tt) }

count_one : (i a : ℕ) → count i (a ∷ []) ≤ 1
count_one i a = go (ℕ_discrete i a)
  where
    none : count i [] ≡ 0
    none = unfold count in refl

    go : Dec (i ≡ a) → count i (a ∷ []) ≤ 1
    go (yes e) = omega (arith, count_same i a [] e, none)
    go (no e) = unfold count in omega (arith, pick_false {A = ℕ} 1 0 (ne_eqb i a e))

pub formatted : (g : Geo) (d : ℕ) (I : List ℕ) → Sound g (length I)
    → Shows I (block_size g * g.K) (super_bytes g (data_at g + 1))
    → Shows I (block_size g * data_at g) (bytes 4 0 ++ padded (block_size g - 4) [])
    → ((x : ℕ) → x < map_bits g → bit I (block_size g * map_at g) x ≡ count (data_at g + x) (data_at g ∷ []))
    → Volume g I d (blank d (data_at g))
unfolding blank render dir_pieces entry_pieces blocks_at entries_bytes ats
formatted g d I s t z m = laid_volume g I d (blank d (data_at g)) (record {
  sound = s;
  top = t;
  root = refl;
  shown = (z, tt);
  once = λ i. count_one i (data_at g);
  range = λ i h. let e : i ≡ data_at g = count_is i (data_at g) h in (omega arith, omega (arith, (area g (length I) s).some_data));
  bits = λ i h. let e : i ≡ data_at g = count_is i (data_at g) h in omega (arith, (area g (length I) s).some_bits);
  good = blank_good (block_size g) d (data_at g);
}) m
