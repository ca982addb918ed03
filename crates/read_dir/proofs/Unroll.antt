-- The walk unrolled, entry by entry and block by block: who cites these needs no fuel.
use Rattle.std.specs.Prelude.{Option, Some, None}
use mathlib.Core.Path.{◌≡◌, refl, sym, ap, ◌∙◌}
use mathlib.Core.Bool.{Bool, true, false, ◌&&◌}
use mathlib.Core.List.{List}
use Prim.Native.Nat.{ℕ, zero, suc, ◌+◌, ◌-◌, ◌≤◌, ◌<◌}
use native.Mathlib.Omega.{arith}
use lib.Dec.{leb, ltb, eqb}
use borrow.Author.Tests.{leb-true, ltb-true, eqb-true, eqb-false, lt-ltb, le-leb, eq-eqb, ne_eqb}
use Rattle.wire.specs.Pick.{pick}
use Rattle.wire.proofs.Picks.{not_both, pick_true, pick_false, pick_case}
use Rattle.block.specs.Block.{Area, next}
use Rattle.dir_entry.specs.declared.DirEntry.{DirEntry}
use Rattle.dir_entry.specs.Entry.{header, place_at, name_at, slot_at}
use Rattle.dir_entry.proofs.Slots.{stop_offset}
use Rattle.read_dir.specs.Walk.{Walk, item, finished, damaged, on_slot, in_area, shown, entries_from, chain_from}
use Rattle.read_dir.specs.Cursor.{rest_from}

-- ---- the area

module _ (A : Area) (I : List ℕ) (a : ℕ) where
  pub area_in_lem : A.first ≤ a → a < A.end → in_area A I a ≡ true
  area_in_lem h k = rw (le-leb _ _ h, lt-ltb _ _ k)

  pub area_true : in_area A I a ≡ true → (A.first ≤ a) × (a < A.end)
  area_true e = go (leb A.first a) (ltb a A.end) refl refl e
    where
      go : (t u : Bool) → leb A.first a ≡ t → ltb a A.end ≡ u → (t && u) ≡ true → (A.first ≤ a) × (a < A.end)
      go true true p q r = (leb-true _ _ p, ltb-true _ _ q)
      go true false p q r = absurd (not_both r refl)
      go false u p q r = absurd (not_both r refl)

-- ---- the entries of a block

on_entry_lem : (x : Option DirEntry) (e : DirEntry) (k : DirEntry → Walk) (w : Walk) → x ≡ Some e → on_slot x k w ≡ k e
unfolding on_slot
on_entry_lem x e k w p = rw p

on_stop : (x : Option DirEntry) (k : DirEntry → Walk) (w : Walk) → x ≡ None → on_slot x k w ≡ w
unfolding on_slot
on_stop x k w p = rw p

on_same : (x : Option DirEntry) (j k : DirEntry → Walk) (w : Walk) → ((e : DirEntry) → j e ≡ k e) → on_slot x j w ≡ on_slot x k w
unfolding on_slot
on_same (Some e) j k w h = h e
on_same None j k w h = refl

module _ (A : Area) (I : List ℕ) where
  shown_zero : (e : DirEntry) (a o : ℕ) (w : Walk) → e.addr.0 ≡ 0 → shown A I e a o w ≡ w
  unfolding shown
  shown_zero e a o w z = pick_true _ _ (eq-eqb _ _ z)

  shown_item : (e : DirEntry) (a o : ℕ) (w : Walk) → (e.addr.0 ≡ 0 → ⊥) → shown A I e a o w ≡ item e a o (name_at I (place_at A.size a o) e.len) w
  unfolding shown
  shown_item e a o w z = pick_false _ _ (ne_eqb _ _ z)

  past_end_lem : (f a o : ℕ) (w : Walk) → A.size ≤ o → entries_from A I f a o w ≡ w
  unfolding entries_from
  past_end_lem zero a o w h = refl
  past_end_lem (suc f) a o w h = on_stop (slot_at A.size I a o) _ w (stop_offset A.size I a o (omega arith))

  -- Any fuel from B - o on serves.
  enough : (f g a o : ℕ) (w : Walk) → A.size - o ≤ f → A.size - o ≤ g → entries_from A I f a o w ≡ entries_from A I g a o w
  unfolding entries_from
  enough zero g a o w p q = sym (past_end_lem g a o w (omega arith))
  enough (suc f) zero a o w p q = past_end_lem (suc f) a o w (omega arith)
  enough (suc f) (suc g) a o w p q =
      on_same (slot_at A.size I a o) _ _ w (λ e. ap (shown A I e a o) (enough f g a (o + header + e.len) w (omega arith) (omega arith)))

  entries_once : (a o : ℕ) (w : Walk)
      → entries_from A I A.size a o w ≡ on_slot (slot_at A.size I a o) (λ e. shown A I e a o (entries_from A I A.size a (o + header + e.len) w)) w
  unfolding entries_from
  entries_once a o w = enough A.size (suc A.size) a o w (omega arith) (omega arith)

  module _ (a o : ℕ) (w : Walk) where
    -- where the block's entries stop
    pub entries_stop : slot_at A.size I a o ≡ None → entries_from A I A.size a o w ≡ w
    entries_stop p = entries_once a o w ∙ on_stop (slot_at A.size I a o) _ w p

    -- at an entry; one with address 0 is passed over
    entries_entry : (e : DirEntry) → slot_at A.size I a o ≡ Some e → entries_from A I A.size a o w ≡ shown A I e a o (entries_from A I A.size a (o + header + e.len) w)
    entries_entry e p = entries_once a o w ∙ on_entry_lem (slot_at A.size I a o) e _ w p

    pub entries_over : (e : DirEntry) → slot_at A.size I a o ≡ Some e → e.addr.0 ≡ 0 → entries_from A I A.size a o w ≡ entries_from A I A.size a (o + header + e.len) w
    entries_over e p z = entries_entry e p ∙ shown_zero e a o _ z

    pub entries_item : (e : DirEntry) → slot_at A.size I a o ≡ Some e → (e.addr.0 ≡ 0 → ⊥)
        → entries_from A I A.size a o w ≡ item e a o (name_at I (place_at A.size a o) e.len) (entries_from A I A.size a (o + header + e.len) w)
    entries_item e p z = entries_entry e p ∙ shown_item e a o _ z

  -- ---- the blocks of a chain

  -- What follows the entries of block a, where k blocks may be read after it.
  abbrev pub onwards : ℕ → ℕ → Walk
  onwards k a = pick (eqb (next A.size I a) 0) finished (chain_from A I k (next A.size I a))

  pub onwards_end : (k a : ℕ) → next A.size I a ≡ 0 → onwards k a ≡ finished
  onwards_end k a z = pick_true _ _ (eq-eqb _ _ z)

  pub onwards_go : (k a : ℕ) → (next A.size I a ≡ 0 → ⊥) → onwards k a ≡ chain_from A I k (next A.size I a)
  onwards_go k a z = pick_false _ _ (ne_eqb _ _ z)

  -- A chain is what remains from its first offset.
  pub chain_rest : (k a : ℕ) → chain_from A I k a ≡ rest_from A I k a 0
  unfolding chain_from rest_from
  chain_rest zero a = refl
  chain_rest (suc k) a = refl

  pub rest_none : (k a o : ℕ) → k ≡ 0 → rest_from A I k a o ≡ damaged
  unfolding rest_from
  rest_none k a o z = rw z

  pub rest_in : (k a o : ℕ) → 0 < k → A.first ≤ a → a < A.end → rest_from A I k a o ≡ entries_from A I A.size a o (onwards (k - 1) a)
  unfolding rest_from
  rest_in zero a o h l m = absurd (omega arith)
  rest_in (suc k) a o h l m =
      let e : k ≡ suc k - 1 = omega arith in
      pick_true _ _ (area_in_lem A I a l m) ∙ ap (λ (j : ℕ). entries_from A I A.size a o (onwards j a)) e

  pub rest_out : (k a o : ℕ) → in_area A I a ≡ false → rest_from A I k a o ≡ damaged
  unfolding rest_from
  rest_out zero a o e = refl
  rest_out (suc k) a o e = pick_false _ _ e

  -- The same of a chain from its first block on.
  module _ (k a : ℕ) where
    pub chain_out : in_area A I a ≡ false → chain_from A I k a ≡ damaged
    chain_out e = chain_rest k a ∙ rest_out k a 0 e

-- ---- induction along a walk

-- P of an offset and the walk from there: it holds where the entries stop, and it passes from each entry to the one before.
module _ (A : Area) (I : List ℕ) (a : ℕ) (w : Walk) (P : ℕ → Walk → Type 0) (base : (o : ℕ) → P o w)
    (step : (o : ℕ) (e : DirEntry) (v : Walk) → slot_at A.size I a o ≡ Some e → P (o + header + e.len) v → P o (shown A I e a o v)) where
  on_case : (o : ℕ) (x : Option DirEntry) (k : DirEntry → Walk) → slot_at A.size I a o ≡ x → ((e : DirEntry) → P (o + header + e.len) (k e)) → P o (on_slot x (λ e. shown A I e a o (k e)) w)
  unfolding on_slot
  on_case o (Some e) k p h = step o e (k e) p (h e)
  on_case o None k p h = base o

  pub entries_ind : (f o : ℕ) → P o (entries_from A I f a o w)
  unfolding entries_from
  entries_ind zero o = base o
  entries_ind (suc f) o = on_case o (slot_at A.size I a o) (λ e. entries_from A I f a (o + header + e.len) w) refl (λ e. entries_ind f (o + header + e.len))

-- Q of the blocks that may be read, the first of them and its walk.
module _ (A : Area) (I : List ℕ) (Q : ℕ → ℕ → Walk → Type 0) (bad : (k a : ℕ) → Q k a damaged)
    (last : (k a : ℕ) → A.first ≤ a → a < A.end → next A.size I a ≡ 0 → Q (suc k) a (entries_from A I A.size a 0 finished))
    (more : (k a : ℕ) (w : Walk) → A.first ≤ a → a < A.end → (next A.size I a ≡ 0 → ⊥) → Q k (next A.size I a) w → Q (suc k) a (entries_from A I A.size a 0 w)) where
  pub chain_ind : (k a : ℕ) → Q k a (chain_from A I k a)
  unfolding chain_from
  chain_ind zero a = bad 0 a
  chain_ind (suc k) a =
      pick_case (Q (suc k) a) (in_area A I a) _ _
      (λ t.
      let q = area_true A I a t in
      pick_case (λ (w : Walk). Q (suc k) a (entries_from A I A.size a 0 w)) (eqb (next A.size I a) 0) _ _
      (λ z. last k a q.0 q.1 (eqb-true _ _ z))
      (λ z. more k a _ q.0 q.1 (eqb-false _ _ z) (chain_ind k (next A.size I a))))
      (λ _. bad (suc k) a)
