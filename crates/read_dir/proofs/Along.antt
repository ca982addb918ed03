-- How lookup, sum, seek, measure and fill go along a walk, one step at a time.
use Rattle.std.specs.Prelude.{Option, Some, None, Result, Ok, Err}
use mathlib.Core.Path.{◌≡◌, refl, sym, ap, ◌∙◌, subst}
use mathlib.Core.Bool.{Bool, true, false}
use mathlib.Core.List.{List, [], ◌++◌, append_assoc, append-nil}
use Prim.Native.Nat.{ℕ, ◌+◌, ◌-◌, ◌*◌, ◌^◌, ◌≤◌, ◌<◌}
use native.Mathlib.Omega.{arith}
use lib.ListN.{length, take, drop}
use borrow.Author.Tests.{lt-ltb, le-ltb}
use Rattle.wire.specs.Be.{splice}
use Rattle.wire.specs.Pick.{same}
use Rattle.wire.proofs.Picks.{pick_true, pick_false}
use Rattle.block.specs.declared.Addr.{Addr}
use Rattle.block.specs.Block.{Area}
use Rattle.dir_entry.specs.Entry.{place_at, name_at}
use Rattle.super_block.specs.declared.SuperBlock.{SuperBlock}
use Rattle.super_block.specs.Super.{area_in, Fit}
use Rattle.super_block.proofs.Fits.{placed, fit_inside}
use Rattle.read_dir.specs.Walk.{Walk, finished, damaged, walk}
use Rattle.read_dir.specs.Cursor.{start, cursor_walk, on_step, StepIn, Lies, Stepped, items, Passed}
use Rattle.read_dir.specs.Finds.{find_in, sum_from, record_of, skip, list_from, records_from}
use Rattle.read_dir.specs.declared.ReadDir.{ReadDir}
use Rattle.read_dir.proofs.Unroll.{chain_rest}
use Rattle.read_dir.proofs.Names.{length_name}
use Rattle.read_dir.proofs.Records.{length_record, take_stored, drop_stored, drop_later, all_stored, skip_item, skip-none, skip_finished, skip_damaged}
use Rattle.read_dir.proofs.Sizes.{weigh, count_fits, weigh_fits, skip_fits}
use Rattle.limits.specs.declared.Damage.{Damage}
use Rattle.limits.proofs.Exits.{gave_some}
use Rattle.read_dir.specs.declared.Placed.{Placed}

-- A new cursor has the whole walk before it.
pub start-walk : (A : Area) (I : List ℕ) (c : ReadDir) (dir : Addr) → c ≡ start A dir → cursor_walk A I c ≡ walk A I dir.0
start-walk A I c dir b = ap (cursor_walk A I) b ∙ sym (chain_rest A I (A.end - A.first) dir.0)

-- An entry that a step gives lies in the image.
module _ (s : SuperBlock) (I : List ℕ) (c d : ReadDir) (m : Result (Option Placed) Damage) (f : Fit s I) (w : Stepped (area_in s) I c d m) (y : Placed)
    (g : m ≡ Ok (Some y)) where
  lies : Lies (area_in s) I y.entry y.place
  lies = subst (StepIn (area_in s) I d) g w.inside

  pub entry_inside : s.size * y.place.block.0 + s.size ≤ length I
  entry_inside = fit_inside s I I y.place.block.0 y.place.block.0 f refl refl lies.below

  pub entry_ends : y.place.offset + 18 + y.entry.len ≤ s.size - 5
  entry_ends = lies.ends

  pub entry_within : place_at s.size y.place.block.0 y.place.offset + 18 + y.entry.len ≤ length I
  entry_within = omega (arith, entry_inside, entry_ends)

module _ (A : Area) (I : List ℕ) (c d : ReadDir) (m : Result (Option Placed) Damage) (w : Stepped A I c d m) where
  gave : (z : Result (Option Placed) Damage) → m ≡ z → cursor_walk A I c ≡ on_step A I d z
  gave z g = w.walked ∙ ap (on_step A I d) g

  -- fewer entries are left
  match_less : (y : Placed) → m ≡ Ok (Some y) → items (cursor_walk A I d) < items (cursor_walk A I c)
  unfolding items
  match_less y g = omega (arith, ap items (gave (Ok (Some y)) g))

  pub step_less : (o : Option Placed) (y : Placed) → m ≡ Ok o → o ≡ Some y → items (cursor_walk A I d) < items (cursor_walk A I c)
  step_less o y p q = match_less y (gave_some p q)

  -- and fewer than before those that were passed over
  pub passed_less : {X : Type 0} (f : Walk → X) (c₁ : ReadDir) (o : Option Placed) (y : Placed) → Passed A I f c₁ c
      → m ≡ Ok o → o ≡ Some y → items (cursor_walk A I d) < items (cursor_walk A I c₁)
  passed_less f c₁ o y q p g = omega (arith, step_less o y p g, q.fewer)

  -- ---- lookup

  -- the step is made past entries of other names, which were passed over from c₁ on
  module _ (name : List ℕ) (c₀ c₁ : ReadDir) (q : Passed A I (find_in name) c₁ c)
      (inv : find_in name (cursor_walk A I c₁) ≡ find_in name (cursor_walk A I c₀)) where
    finds : (z : Result (Option Placed) Damage) → m ≡ z → find_in name (cursor_walk A I c₀) ≡ find_in name (on_step A I d z)
    finds z g = sym inv ∙ sym q.says ∙ ap (find_in name) (gave z g)

    pub find_again : (y : Placed) (t : Bool) → m ≡ Ok (Some y)
        → t ≡ same (name_at I (place_at A.size y.place.block.0 y.place.offset) y.entry.len) name → t ≡ false → find_in name (cursor_walk A I d) ≡ find_in name (cursor_walk A I c₀)
    unfolding find_in
    find_again y t g h k = sym (finds (Ok (Some y)) g ∙ pick_false _ _ (sym h ∙ k))

    module _ (dir : Addr) (b : c₀ ≡ start A dir) where
      whole : find_in name (cursor_walk A I c₀) ≡ find_in name (walk A I dir.0)
      whole = ap (find_in name) (start-walk A I c₀ dir b)

      pub find_hit : (y : Placed) (t : Bool) → m ≡ Ok (Some y)
          → t ≡ same (name_at I (place_at A.size y.place.block.0 y.place.offset) y.entry.len) name → t ≡ true → Ok (Some y) ≡ find_in name (walk A I dir.0)
      unfolding find_in
      find_hit y t g h k = sym (finds (Ok (Some y)) g ∙ pick_true _ _ (sym h ∙ k)) ∙ whole

      pub find_none : m ≡ Ok None → Ok None ≡ find_in name (walk A I dir.0)
      unfolding find_in
      find_none g = sym (finds (Ok None) g) ∙ whole

      pub find_bad : (v : Damage) → m ≡ Err v → Err v ≡ find_in name (walk A I dir.0)
      unfolding find_in
      find_bad v g = sym (finds (Err v) g) ∙ whole

  -- ---- sum

  module _ (total : ℕ) (c₀ : ReadDir) where
    pub sum_again : (y : Placed) → sum_from total (cursor_walk A I c) ≡ sum_from 0 (cursor_walk A I c₀) → m ≡ Ok (Some y)
        → sum_from (total + (18 + y.entry.len)) (cursor_walk A I d) ≡ sum_from 0 (cursor_walk A I c₀)
    unfolding sum_from
    sum_again y inv g = sym (ap (sum_from total) (gave (Ok (Some y)) g)) ∙ inv

    pub weigh_again : (y : Placed) → total + weigh (cursor_walk A I c) < 2 ^ 32 → m ≡ Ok (Some y)
        → total + (18 + y.entry.len) + weigh (cursor_walk A I d) < 2 ^ 32
    unfolding weigh
    weigh_again y h g = omega (arith, ap weigh (gave (Ok (Some y)) g))

    pub total_fits : (y : Placed) → total + weigh (cursor_walk A I c) < 2 ^ 32 → m ≡ Ok (Some y) → total + (18 + y.entry.len) < 2 ^ 32
    total_fits y h g = omega (arith, weigh_again y h g)

    module _ (dir : Addr) (inv : sum_from total (cursor_walk A I c) ≡ sum_from 0 (cursor_walk A I c₀)) (b : c₀ ≡ start A dir) where
      sums : (z : Result (Option Placed) Damage) → m ≡ z → sum_from total (on_step A I d z) ≡ sum_from 0 (walk A I dir.0)
      sums z g = sym (ap (sum_from total) (gave z g)) ∙ inv ∙ ap (sum_from 0) (start-walk A I c₀ dir b)

      pub sum_end : m ≡ Ok None → Ok total ≡ sum_from 0 (walk A I dir.0)
      unfolding sum_from
      sum_end g = sums (Ok None) g

      pub sum_bad : (v : Damage) → m ≡ Err v → Err v ≡ sum_from 0 (walk A I dir.0)
      unfolding sum_from
      sum_bad v g = sums (Err v) g

  -- ---- seek: j entries of i are passed

  module _ (c₀ : ReadDir) (i j : ℕ) (inv : skip (i - j) (cursor_walk A I c) ≡ skip i (cursor_walk A I c₀)) where
    pub seek_again : (o : Option Placed) (y : Placed) → m ≡ Ok o → o ≡ Some y → j < i → skip (i - (j + 1)) (cursor_walk A I d) ≡ skip i (cursor_walk A I c₀)
    seek_again o y p q h =
        let g : m ≡ Ok (Some y) = gave_some p q in
        let e : i - (j + 1) ≡ i - j - 1 = omega arith in
        rw e (sym (ap (skip (i - j)) (gave (Ok (Some y)) g) ∙ skip_item (i - j) y.entry y.place.block.0 y.place.offset _ _ (omega arith)) ∙ inv)

    module _ (dir : Addr) (b : c₀ ≡ start A dir) where
      pub seek_end : m ≡ Ok None → cursor_walk A I d ≡ skip i (walk A I dir.0)
      seek_end g =
          let q : cursor_walk A I c ≡ finished = gave (Ok None) g in
          subst (StepIn A I d) g w.inside ∙ sym (ap (skip (i - j)) q ∙ skip_finished (i - j)) ∙ inv ∙ ap (skip i) (start-walk A I c₀ dir b)

      pub seek_bad : (v : Damage) → m ≡ Err v → cursor_walk A I d ≡ skip i (walk A I dir.0)
      seek_bad v g =
          let q : cursor_walk A I c ≡ damaged = gave (Err v) g in
          subst (StepIn A I d) g w.inside ∙ sym (ap (skip (i - j)) q ∙ skip_damaged (i - j)) ∙ inv ∙ ap (skip i) (start-walk A I c₀ dir b)

  -- ---- measure

  module _ (c₀ : ReadDir) (cap used k i : ℕ) (inv : list_from cap used k (cursor_walk A I c) ≡ list_from cap 0 i (cursor_walk A I c₀)) where
    lists : (z : Result (Option Placed) Damage) → m ≡ z → list_from cap used k (on_step A I d z) ≡ list_from cap 0 i (cursor_walk A I c₀)
    lists z g = sym (ap (list_from cap used k) (gave z g)) ∙ inv

    pub list_again : (y : Placed) → m ≡ Ok (Some y) → 14 + y.entry.len < cap - used
        → list_from cap (used + (14 + y.entry.len)) (k + 1) (cursor_walk A I d) ≡ list_from cap 0 i (cursor_walk A I c₀)
    unfolding list_from
    list_again y g l = sym (pick_true _ _ (lt-ltb (used + (14 + y.entry.len)) cap (omega arith))) ∙ lists (Ok (Some y)) g

    pub list_full : (y : Placed) → m ≡ Ok (Some y) → cap - used ≤ 14 + y.entry.len → used ≤ cap → Ok (record { bytes = used; next = k }) ≡ list_from cap 0 i (cursor_walk A I c₀)
    unfolding list_from
    list_full y g l h = sym (pick_false _ _ (le-ltb (used + (14 + y.entry.len)) cap (omega arith))) ∙ lists (Ok (Some y)) g

    pub list_end : m ≡ Ok None → Ok (record { bytes = used; next = k }) ≡ list_from cap 0 i (cursor_walk A I c₀)
    unfolding list_from
    list_end g = lists (Ok None) g

    pub list_bad : (v : Damage) → m ≡ Err v → Err v ≡ list_from cap 0 i (cursor_walk A I c₀)
    unfolding list_from
    list_bad v g = lists (Err v) g

  module _ (k : ℕ) (o : Option Placed) (y : Placed) (h : k + items (cursor_walk A I c) < 2 ^ 32) (p : m ≡ Ok o) (q : o ≡ Some y) where
    pub count_again : k + 1 + items (cursor_walk A I d) < 2 ^ 32
    unfolding items
    count_again = omega (arith, ap items (gave (Ok (Some y)) (gave_some p q)))

    pub number_fits : k + 1 < 2 ^ 32
    number_fits = omega (arith, count_again)

  -- ---- fill: what is stored so far, and the records that follow

  module _ (c₀ : ReadDir) (b b₀ : List ℕ) (cap used : ℕ) (inv : take used b ++ records_from cap used (cursor_walk A I c) ≡ records_from cap 0 (cursor_walk A I c₀)) where
    fills : (z : Result (Option Placed) Damage) → m ≡ z → take used b ++ records_from cap used (on_step A I d z) ≡ records_from cap 0 (cursor_walk A I c₀)
    fills z g = sym (ap (λ (v : Walk). take used b ++ records_from cap used v) (gave z g)) ∙ inv

    pub fill_again : (y : Placed) (b₁ : List ℕ) → m ≡ Ok (Some y) → 14 + y.entry.len < cap - used → cap ≡ length b
        → b₁ ≡ splice b used (record_of y.entry (name_at I (place_at A.size y.place.block.0 y.place.offset) y.entry.len)) → place_at A.size y.place.block.0 y.place.offset + 18 + y.entry.len ≤ length I
        → take (used + (14 + y.entry.len)) b₁ ++ records_from cap (used + (14 + y.entry.len)) (cursor_walk A I d) ≡ records_from cap 0 (cursor_walk A I c₀)
    unfolding records_from
    fill_again y b₁ g l q f h =
        let x : List ℕ = name_at I (place_at A.size y.place.block.0 y.place.offset) y.entry.len in
        let r : List ℕ = record_of y.entry x in
        let k : length r ≡ 14 + y.entry.len = length_record y.entry x ∙ ap (λ (j : ℕ). 14 + j) (length_name I (place_at A.size y.place.block.0 y.place.offset) y.entry.len h) in
        let t : take (used + (14 + y.entry.len)) b₁ ≡ take used b ++ r = ap (take (used + (14 + y.entry.len))) f ∙ take_stored b used r (14 + y.entry.len) k (omega arith) in
        ap (λ (u : List ℕ). u ++ records_from cap (used + (14 + y.entry.len)) (cursor_walk A I d)) t
        ∙ append_assoc (take used b) r (records_from cap (used + (14 + y.entry.len)) (cursor_walk A I d))
        ∙ ap (λ (u : List ℕ). take used b ++ u) (sym (pick_true _ _ (lt-ltb (used + (14 + y.entry.len)) cap (omega arith))))
        ∙ fills (Ok (Some y)) g

    module _ (u : used ≤ length b) (r : drop used b ≡ drop used b₀) (q : cap ≡ length b) (q₀ : length b ≡ length b₀) where
      stops : (z : Result (Option Placed) Damage) → m ≡ z → records_from cap used (on_step A I d z) ≡ [] → b ≡ splice b₀ 0 (records_from (length b₀) 0 (cursor_walk A I c₀))
      stops z g n =
          let t : take used b ≡ records_from cap 0 (cursor_walk A I c₀) = sym (append-nil (take used b)) ∙ ap (λ (u : List ℕ). take used b ++ u) (sym n) ∙ fills z g in
          all_stored b b₀ used u r ∙ ap (splice b₀ 0) (t ∙ ap (λ (j : ℕ). records_from j 0 (cursor_walk A I c₀)) (q ∙ q₀))

      pub fill_full : (y : Placed) → m ≡ Ok (Some y) → cap - used ≤ 14 + y.entry.len
          → b ≡ splice b₀ 0 (records_from (length b₀) 0 (cursor_walk A I c₀))
      unfolding records_from
      fill_full y g l = stops (Ok (Some y)) g (pick_false _ _ (le-ltb (used + (14 + y.entry.len)) cap (omega arith)))

      pub fill_end : m ≡ Ok None → b ≡ splice b₀ 0 (records_from (length b₀) 0 (cursor_walk A I c₀))
      unfolding records_from
      fill_end g = stops (Ok None) g refl

      pub fill_bad : (v : Damage) → m ≡ Err v → b ≡ splice b₀ 0 (records_from (length b₀) 0 (cursor_walk A I c₀))
      unfolding records_from
      fill_bad v g = stops (Err v) g refl

-- and beyond them the buffer is as it was
pub rest_again : (B : ℕ) (I : List ℕ) (b b₀ b₁ : List ℕ) (used cap : ℕ) (y : Placed) → drop used b ≡ drop used b₀ → 14 + y.entry.len < cap - used → cap ≡ length b
    → b₁ ≡ splice b used (record_of y.entry (name_at I (place_at B y.place.block.0 y.place.offset) y.entry.len)) → place_at B y.place.block.0 y.place.offset + 18 + y.entry.len ≤ length I
    → drop (used + (14 + y.entry.len)) b₁ ≡ drop (used + (14 + y.entry.len)) b₀
rest_again B I b b₀ b₁ used cap y r l q f h =
    let x : List ℕ = name_at I (place_at B y.place.block.0 y.place.offset) y.entry.len in
    let k : length (record_of y.entry x) ≡ 14 + y.entry.len = length_record y.entry x ∙ ap (λ (j : ℕ). 14 + j) (length_name I (place_at B y.place.block.0 y.place.offset) y.entry.len h) in
    ap (drop (used + (14 + y.entry.len))) f ∙ drop_stored b used (record_of y.entry x) (14 + y.entry.len) k (omega arith) ∙ drop_later b b₀ used (14 + y.entry.len) r

-- ---- the ends that no step makes

-- before the first entry the sum is that of a whole walk
pub start_weigh : (s : SuperBlock) (I : List ℕ) (c : ReadDir) (dir : Addr) → Fit s I → c ≡ start (area_in s) dir
    → 0 + weigh (cursor_walk (area_in s) I c) < 2 ^ 32
start_weigh s I c dir f b =
    omega (arith, ap weigh (start-walk (area_in s) I c dir b), weigh_fits (area_in s) I dir.0 (placed f).bytes)

-- the entry number is reached
pub seek_at : (A : Area) (I : List ℕ) (c c₀ : ReadDir) (i j : ℕ) (dir : Addr) → skip (i - j) (cursor_walk A I c) ≡ skip i (cursor_walk A I c₀) → i ≤ j → c₀ ≡ start A dir
    → cursor_walk A I c ≡ skip i (walk A I dir.0)
seek_at A I c c₀ i j dir inv h b =
    let z : i - j ≡ 0 = omega arith in
    sym (skip-none (i - j) (cursor_walk A I c) z) ∙ inv ∙ ap (skip i) (start-walk A I c₀ dir b)

-- ---- listing: c is the cursor at entry number i

module _ (s : SuperBlock) (I : List ℕ) (c : ReadDir) (dir : Addr) (i : ℕ)
    (q : cursor_walk (area_in s) I c ≡ skip i (walk (area_in s) I dir.0)) where
  pub numbers_fit : Fit s I → i < 2 ^ 32 → i + items (cursor_walk (area_in s) I c) < 2 ^ 32
  numbers_fit f h =
      omega (arith, ap items q, skip_fits i (walk (area_in s) I dir.0) h (count_fits (area_in s) I dir.0 (placed f).bytes))
