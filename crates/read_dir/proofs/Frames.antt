-- A walk depends on the bytes of the blocks that it reads, and on no others.
use Rattle.std.specs.Prelude.{Option, Some, None}
use mathlib.Core.Path.{◌≡◌, refl, sym, ap, ◌∙◌}
use mathlib.Core.Bool.{true, false}
use mathlib.Core.Logic.{◌⊎◌, inl, inr}
use mathlib.Core.List.{List}
use Prim.Native.Nat.{ℕ, zero, suc, ◌+◌, ◌-◌, ◌≤◌, ◌<◌}
use native.Mathlib.Omega.{arith}
use lib.Dec.{eqb}
use borrow.Author.Tests.{eqb-false}
use Rattle.wire.specs.Pick.{pick}
use Rattle.wire.proofs.Picks.{either, pick_true, pick_false}
use Rattle.block.specs.Block.{Area, next, Kept}
use Rattle.block.proofs.Blocks.{next_kept}
use Rattle.dir_entry.specs.declared.DirEntry.{DirEntry}
use Rattle.dir_entry.specs.Entry.{header, place_at, name_at, slot_at}
use Rattle.dir_entry.proofs.Slots.{slot_stands, slot_kept, name_kept}
use Rattle.read_dir.specs.Walk.{Walk, finished, damaged, on_slot, in_area, shown, entries_from, chain_from}
use Rattle.read_dir.proofs.Unroll.{area_true, onwards}

-- Q holds of each block that the chain from block a shows, of which k may be read.
unfoldable pub Through : Area → List ℕ → (ℕ → Type 0) → ℕ → ℕ → Type 0
Through A I Q zero a = Unit {0}
Through A I Q (suc k) a = A.first ≤ a → a < A.end → Q a × ((next A.size I a ≡ 0 → ⊥) → Through A I Q k (next A.size I a))

-- It holds where Q holds of the whole area.
through_all : (A : Area) (I : List ℕ) (Q : ℕ → Type 0) → ((b : ℕ) → A.first ≤ b → b < A.end → Q b) → (k a : ℕ) → Through A I Q k a
unfolding Through
through_all A I Q f zero a = tt
through_all A I Q f (suc k) a = λ h l. (f a h l, λ _. through_all A I Q f k (next A.size I a))

on_both : (x : Option DirEntry) (j k : DirEntry → Walk) (v w : Walk) → v ≡ w → ((e : DirEntry) → x ≡ Some e → j e ≡ k e) → on_slot x j v ≡ on_slot x k w
unfolding on_slot
on_both (Some e) j k v w p h = h e refl
on_both None j k v w p h = p

module _ (A : Area) (P : ℕ → ℕ → Type 0) (I J : List ℕ) (k : Kept A.size P I J) where
  -- all of block b is kept
  abbrev pub Same : ℕ → Type 0
  Same b = (p : ℕ) → p < A.size → P b p

  shown_kept : (e : DirEntry) (a o : ℕ) (v w : Walk) → Same a → slot_at A.size I a o ≡ Some e → v ≡ w → shown A J e a o v ≡ shown A I e a o w
  unfolding shown
  shown_kept e a o v w s p q =
      let l : o + 18 + e.len ≤ A.size - 5 = (slot_stands A.size I a o e p).ends in
      let x : name_at J (place_at A.size a o) e.len ≡ name_at I (place_at A.size a o) e.len = name_kept A.size P I J k a o e.len l (λ p _ m. s p (omega arith)) in
      rw (q, x)

  entries_kept : (f a o : ℕ) (v w : Walk) → Same a → v ≡ w → entries_from A J f a o v ≡ entries_from A I f a o w
  unfolding entries_from
  entries_kept zero a o v w s q = q
  entries_kept (suc f) a o v w s q =
      ap (λ (x : Option DirEntry). on_slot x (λ e. shown A J e a o (entries_from A J f a (o + header + e.len) v)) v) (slot_kept A.size P I J k a s o)
      ∙ on_both (slot_at A.size I a o) _ _ v w q (λ e p. shown_kept e a o _ _ s p (entries_kept f a (o + header + e.len) v w s q))

  onwards_kept : (m a : ℕ) → next A.size J a ≡ next A.size I a → ((next A.size I a ≡ 0 → ⊥) → chain_from A J m (next A.size I a) ≡ chain_from A I m (next A.size I a))
      → onwards A J m a ≡ onwards A I m a
  onwards_kept m a e f =
      ap (λ (b : ℕ). pick (eqb b 0) finished (chain_from A J m b)) e ∙ go (either (eqb (next A.size I a) 0))
    where
      go : (eqb (next A.size I a) 0 ≡ true) ⊎ (eqb (next A.size I a) 0 ≡ false)
          → pick (eqb (next A.size I a) 0) finished (chain_from A J m (next A.size I a)) ≡ pick (eqb (next A.size I a) 0) finished (chain_from A I m (next A.size I a))
      go (inl z) = pick_true _ _ z ∙ sym (pick_true _ _ z)
      go (inr z) = ap (pick (eqb (next A.size I a) 0) finished) (f (eqb-false _ _ z))

  module _ (four : 4 ≤ A.size) where
    -- A chain reads the same in an image that keeps its blocks.
    chain_kept : (m a : ℕ) → Through A I Same m a → chain_from A J m a ≡ chain_from A I m a
    unfolding chain_from Through
    chain_kept zero a t = refl
    chain_kept (suc m) a t = go (either (in_area A I a)) (λ u. chain_kept m (next A.size I a) u)
      where
        go : (in_area A I a ≡ true) ⊎ (in_area A I a ≡ false) → (Through A I Same m (next A.size I a) → chain_from A J m (next A.size I a) ≡ chain_from A I m (next A.size I a))
            → pick (in_area A I a) (entries_from A J A.size a 0 (pick (eqb (next A.size J a) 0) finished (chain_from A J m (next A.size J a)))) damaged
            ≡ pick (in_area A I a) (entries_from A I A.size a 0 (pick (eqb (next A.size I a) 0) finished (chain_from A I m (next A.size I a)))) damaged
        go (inl r) ih =
            let q = area_true A I a r in
            let s = t q.0 q.1 in
            pick_true _ _ r ∙ entries_kept A.size a 0 _ _ s.0 (onwards_kept m a (next_kept A.size P I J k a four (λ p l. s.0 p (omega arith))) (λ z. ih (s.1 z))) ∙ sym (pick_true _ _ r)
        go (inr r) ih = pick_false _ _ r ∙ sym (pick_false _ _ r)
