-- How deep the directory at a path is, and what a directory without entries is.
use mathlib.Core.Path.{◌≡◌, refl, sym, ap, subst}
use mathlib.Core.List.{List, [], ◌∷◌}
use Prim.Native.Nat.{ℕ, zero, suc, ◌+◌, ◌-◌, ◌^◌, ◌≤◌, ◌<◌}
use native.Mathlib.Omega.{arith}
use lib.ListN.{length}
use Rattle.model.specs.Tree.{Name, sub, Entry, Block, Tree, Absent, weight, used, sum, Filled, Packed, blank, NoEntries}
use Rattle.model.specs.Render.{blocks_at}
use Rattle.model.specs.Volume.{GoodName, GoodBelow, GoodTree}
use Rattle.model.specs.Calls.{dir_added}
use Rattle.model.proofs.Blank.{blank_good}
use Rattle.model.proofs.Good.{good_insert}

-- ---- depth

-- ---- directories without entries

module _ {X : Type 0} where
  pub used_none : (es : List (Entry X)) → used es ≡ 0 → es ≡ []
  unfolding used weight
  used_none [] h = refl
  used_none (e ∷ es) h = absurd (omega arith)

  filled_none : (bs : List (Block X)) → Filled bs → sum bs ≡ 0 → bs ≡ []
  unfolding sum
  filled_none [] f h = refl
  filled_none (b ∷ bs) f h = absurd (omega (arith, f.0, ap length (used_none b.entries (omega arith))))

  packed_bare : (bs : List (Block X)) → Packed bs → sum bs ≡ 0 → NoEntries bs × (length bs ≡ 1)
  unfolding sum
  packed_bare [] k h = absurd k
  packed_bare (b ∷ bs) k h =
      let r : bs ≡ [] = filled_none bs k (omega arith) in
      ((used_none b.entries (omega arith), subst (λ (l : List (Block X)). NoEntries l) (sym r) tt), ap (λ (l : List (Block X)). suc (length l)) r)

  -- The size of a directory without entries is 0.
  pub bare_sum : (bs : List (Block X)) → NoEntries bs → sum bs ≡ 0
  unfolding sum used
  bare_sum [] n = refl
  bare_sum (b ∷ bs) n = omega (arith, ap used n.0, bare_sum bs n.1)

-- A good directory without entries is an empty one: one block, where it starts.
pub bare_blank : (B d : ℕ) (t : Tree d) → GoodTree B d t → NoEntries t → t ≡ blank d (blocks_at t)
unfolding blank blocks_at
bare_blank B d [] g n = absurd g.packed
bare_blank B d (b ∷ bs) g n =
    let r : bs ≡ [] = filled_none bs g.packed (bare_sum bs n.1) in
    let e : b.entries ≡ [] = n.0 in
    λ i. record { at = b.at; entries = e i } ∷ r i

-- ---- a new directory

-- A directory with a new empty one in it is good.
pub good_dir_added : (B w x : ℕ) (n : Name) (now e : ℕ) (bs : Tree e) → GoodTree B e bs → Absent n bs → GoodName n → now < 2 ^ 64 → 18 + length n ≤ B - 5
    → GoodTree B e (dir_added (B - 5) w x n now e bs)
unfolding dir_added weight GoodBelow
good_dir_added B w x n now zero bs g a m k r = g
good_dir_added B w x n now (suc e) bs g a m k r =
    good_insert B (GoodBelow B (suc e)) w (record { name = n; time = now; node = sub (blank e x) })
    (record { good_name = m; clock = k; below = blank_good B e x }) r bs g a
