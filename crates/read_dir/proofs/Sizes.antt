-- How much a walk can hold: the bytes of its entries, and how many there are.
use Rattle.std.specs.Prelude.{Ok}
use mathlib.Core.Path.{◌≡◌, ap}
use mathlib.Core.List.{List}
use Prim.Native.Nat.{ℕ, zero, suc, ◌+◌, ◌-◌, ◌*◌, ◌^◌, ◌≤◌, ◌<◌}
use native.Mathlib.Nat.{mul-zero, zero-mul, mul-suc, add-mul, mul-le-mul_left}
use native.Mathlib.Decide.{dec_lt}
use native.Mathlib.Omega.{arith}
use lib.Dec.{eqb}
use Rattle.wire.proofs.Picks.{pick_case}
use Rattle.block.specs.Block.{Area}
use Rattle.dir_entry.specs.Entry.{header}
use Rattle.dir_entry.proofs.Slots.{slot_stands}
use Rattle.read_dir.specs.Walk.{Walk, item, finished, damaged, shown, entries_from, chain_from, walk}
use Rattle.read_dir.specs.Cursor.{items}
use Rattle.read_dir.specs.Finds.{sum_from, skip}
use Rattle.read_dir.proofs.Unroll.{entries_ind, chain_ind}

-- without its first i entries a walk has that many fewer, or none
skip_count : (i : ℕ) (w : Walk) → items (skip i w) ≡ items w - i
unfolding skip items
skip_count zero w = omega arith
skip_count (suc i) (item e a o x w) = omega (arith, skip_count i w)
skip_count (suc i) finished = omega arith
skip_count (suc i) damaged = omega arith

-- W4: the bytes of the entries, whether or not the walk ends
unfoldable pub weigh : Walk → ℕ
weigh (item e a o x w) = 18 + e.len + weigh w
weigh finished = 0
weigh damaged = 0

-- The sum of a directory, where there is one.
sum_weigh : (w : Walk) (s t : ℕ) → sum_from s w ≡ Ok t → t ≡ s + weigh w
unfolding sum_from weigh
sum_weigh (item e a o x w) s t p = omega (arith, sum_weigh w (s + (header + e.len)) t p)
sum_weigh finished s t p = let q : s ≡ t = cc in omega arith
sum_weigh damaged s t p = absurd (let z : ◌≡◌ {A = ℕ} 0 1 = cc in omega arith)

module _ (A : Area) (I : List ℕ) where
  -- the entries of a block from offset o on
  entries_weigh : (a : ℕ) (w : Walk) (f o : ℕ) → weigh (entries_from A I f a o w) ≤ (A.size - 5 - o) + weigh w
  unfolding shown weigh
  entries_weigh a w =
      entries_ind A I a w (λ o v. weigh v ≤ (A.size - 5 - o) + weigh w) (λ o. omega arith)
      (λ o e v p h.
      let l : o + 18 + e.len ≤ A.size - 5 = (slot_stands A.size I a o e p).ends in
      pick_case (λ (u : Walk). weigh u ≤ (A.size - 5 - o) + weigh w) (eqb e.addr.0 0) _ _ (λ _. omega arith) (λ _. omega arith))

  entries_count : (a : ℕ) (w : Walk) (f o : ℕ) → 19 * items (entries_from A I f a o w) ≤ (A.size - 5 - o) + 19 * items w
  unfolding shown items
  entries_count a w =
      entries_ind A I a w (λ o v. 19 * items v ≤ (A.size - 5 - o) + 19 * items w) (λ o. omega arith)
      (λ o e v p h.
      let s = slot_stands A.size I a o e p in
      let l : o + 18 + e.len ≤ A.size - 5 = s.ends in
      let m : 1 ≤ e.len = s.some in
      pick_case (λ (u : Walk). 19 * items u ≤ (A.size - 5 - o) + 19 * items w) (eqb e.addr.0 0) _ _ (λ _. omega arith) (λ _. omega arith))

  -- a chain of which k blocks may be read
  chain_weigh : (k a : ℕ) → weigh (chain_from A I k a) ≤ (A.size - 5) * k
  unfolding weigh
  chain_weigh =
      chain_ind A I (λ k a w. weigh w ≤ (A.size - 5) * k) (λ k a. omega arith)
      (λ k a h l z. omega (arith, entries_weigh a finished A.size 0, mul-suc (A.size - 5) k))
      (λ k a w h l z q. omega (arith, entries_weigh a w A.size 0, mul-suc (A.size - 5) k))

  chain_count : (k a : ℕ) → 19 * items (chain_from A I k a) ≤ (A.size - 5) * k
  unfolding items
  chain_count =
      chain_ind A I (λ k a w. 19 * items w ≤ (A.size - 5) * k) (λ k a. omega arith)
      (λ k a h l z. omega (arith, entries_count a finished A.size 0, mul-suc (A.size - 5) k))
      (λ k a w h l z q. omega (arith, entries_count a w A.size 0, mul-suc (A.size - 5) k))

-- five bytes of each block hold no entry, so of blocks that make 32 bits together the entries make fewer
pub bytes_fit : (B k n : ℕ) → k ≤ n → B * n ≤ 4294967296 → (B - 5) * k < 2 ^ 32
bytes_fit B zero n h l = omega (arith, mul-zero (B - 5))
bytes_fit B (suc k) n h l = go (dec_lt B 5)
  where
    go : Dec (B < 5) → (B - 5) * suc k < 2 ^ 32
    go (yes p) =
        let z : B - 5 ≡ 0 = omega arith in
        rw (z, zero-mul (suc k)) (omega arith)
    go (no p) =
        let z : B ≡ B - 5 + 5 = omega arith in
        omega (arith, mul-le-mul_left B h, ap (λ (x : ℕ). x * suc k) z, add-mul (B - 5) 5 (suc k))

-- so the numbers of a walk's entries fit 32 bits, and so does their sum.
module _ (A : Area) (I : List ℕ) (a : ℕ) (h : A.size * A.end ≤ 4294967296) where
  area_fits : (A.size - 5) * (A.end - A.first) < 2 ^ 32
  area_fits = bytes_fit A.size (A.end - A.first) A.end (omega arith) h

  pub count_fits : items (walk A I a) < 2 ^ 32
  count_fits = omega (arith, chain_count A I (A.end - A.first) a, area_fits)

  pub weigh_fits : weigh (walk A I a) < 2 ^ 32
  weigh_fits = omega (arith, chain_weigh A I (A.end - A.first) a, area_fits)

-- The numbers of the entries that a listing from i on shows: past the last entry there is none.
pub skip_fits : (i : ℕ) (w : Walk) → i < 2 ^ 32 → items w < 2 ^ 32 → i + items (skip i w) < 2 ^ 32
skip_fits i w h k = omega (arith, skip_count i w)
