-- One move of the cursor: its ways out, what it leaves to be walked, and that moves come to an end.
use Rattle.std.specs.Prelude.{Option, Some, None, Ok, Err}
use mathlib.Core.Path.{◌≡◌, refl, sym, ap, ◌∙◌, subst}
use mathlib.Core.Bool.{Bool, true, false}
use mathlib.Core.Logic.{◌⊎◌, inl, inr}
use mathlib.Core.List.{List}
use Prim.Native.Nat.{ℕ, zero, suc, ◌+◌, ◌-◌, ◌*◌, ◌^◌, ◌≤◌, ◌<◌}
use native.Mathlib.Nat.{mul-suc}
use native.Mathlib.Decide.{dec_lt}
use native.Mathlib.Omega.{arith}
use lib.Dec.{eqb}
use borrow.Author.Tests.{eqb-true, eqb-false, eq-eqb, ne_eqb}
use Rattle.wire.proofs.Picks.{either, pick_true, pick_false, pick_case}
use Rattle.block.specs.Block.{Area, BlockSize, next}
use Rattle.block.specs.declared.Addr.{Addr}
use Rattle.dir_entry.specs.declared.DirEntry.{DirEntry}
use Rattle.dir_entry.specs.Entry.{header, place_at, name_at, slot_at}
use Rattle.dir_entry.proofs.Slots.{slot_stands}
use Rattle.read_dir.specs.Walk.{Walk, item, finished, damaged, in_area}
use Rattle.read_dir.specs.Cursor.{past, here, over_move, hop_move, on_decoded, move_at, cursor_walk, Lies, Stepped}
use Rattle.read_dir.specs.declared.ReadDir.{ReadDir}
use Rattle.read_dir.specs.declared.Move.{Move}
use Rattle.read_dir.specs.declared.Move.TheVariants as move
use Rattle.read_dir.proofs.Unroll.{area_true, entries_stop, entries_over, entries_item, onwards, onwards_end, onwards_go, chain_rest, rest_none, rest_in, rest_out}
use Rattle.limits.specs.declared.Damage.{Damage}
use Rattle.read_dir.specs.declared.Placed.{Placed}

-- ---- the ways out, as code has them

pub over_zero : (c : ReadDir) (e : DirEntry) → e.addr.0 ≡ 0 → move.Go (past c e) ≡ over_move c e
unfolding over_move
over_zero c e z = sym (pick_true _ _ (eq-eqb _ _ z))

pub over_entry : (c : ReadDir) (e : DirEntry) → (e.addr.0 ≡ 0 → ⊥) → move.Entry (record { entry = e; place = here c }) (past c e) ≡ over_move c e
unfolding over_move
over_entry c e z = sym (pick_false _ _ (ne_eqb _ _ z))

-- z and m are the size and the address of the linked block that code makes
module _ (B : ℕ) (I : List ℕ) (c : ReadDir) (z m : ℕ) (to : Addr) (r : z ≡ B) (p : m ≡ c.block.0) (q : to.0 ≡ next z I m) where
  to_next : to.0 ≡ next B I c.block.0
  to_next = q ∙ ap (λ (x : ℕ). next x I m) r ∙ ap (next B I) p

  pub hop_end : to.0 ≡ 0 → move.End ≡ hop_move B I c
  unfolding hop_move
  hop_end y = sym (pick_true _ _ (eq-eqb _ _ (sym to_next ∙ y)))

  pub hop_go : (to.0 ≡ 0 → ⊥) → move.Go (record { block = to; offset = 0; left = c.left - 1 }) ≡ hop_move B I c
  unfolding hop_move
  hop_go y =
      ap (λ (x : ℕ). move.Go (record { block = record { 0 = x }; offset = 0; left = c.left - 1 })) to_next
      ∙ sym (pick_false _ _ (ne_eqb _ _ (λ e. y (to_next ∙ e))))

module _ (A : Area) (I : List ℕ) (c : ReadDir) where
  pub move_spent : c.left ≡ 0 → move.Damaged ≡ move_at A I c
  unfolding move_at
  move_spent z = sym (pick_true _ _ (eq-eqb _ _ z))

  -- outside the area it is damage, whatever may be read
  move_out : in_area A I c.block.0 ≡ false → move.Damaged ≡ move_at A I c
  unfolding move_at
  move_out t = sym (pick_case (λ (m : Move). m ≡ move.Damaged) (eqb c.left 0) _ _ (λ _. refl) (λ _. pick_false _ _ t))

  pub move_not_had : (b : Bool) → b ≡ in_area A I c.block.0 → b ≡ false → move.Damaged ≡ move_at A I c
  move_not_had b e t = move_out (sym e ∙ t)

  move_in : (c.left ≡ 0 → ⊥) → in_area A I c.block.0 ≡ true → move_at A I c ≡ on_decoded A.size I c (slot_at A.size I c.block.0 c.offset)
  unfolding move_at
  move_in z h = pick_false _ _ (ne_eqb _ _ z) ∙ pick_true _ _ h

  -- x is what decoding gave, r what was made of it
  module _ (B m : ℕ) (x : Option DirEntry) (r : Move) (z : c.left ≡ 0 → ⊥) (b : Bool) (h : b ≡ in_area A I c.block.0) (l : b ≡ true)
      (k : B ≡ A.size) (f : m ≡ c.block.0) (p : x ≡ slot_at B I m c.offset) where
    decoded : move_at A I c ≡ on_decoded A.size I c x
    decoded =
        let g : x ≡ slot_at A.size I c.block.0 c.offset = p ∙ ap (λ (y : ℕ). slot_at y I m c.offset) k ∙ ap (λ (a : ℕ). slot_at A.size I a c.offset) f in
        move_in z (sym h ∙ l) ∙ ap (on_decoded A.size I c) (sym g)

    pub move_stop : x ≡ None → r ≡ hop_move A.size I c → r ≡ move_at A I c
    move_stop q g = g ∙ sym (decoded ∙ ap (on_decoded A.size I c) q)

    pub move_entry : (e : DirEntry) → x ≡ Some e → r ≡ over_move c e → r ≡ move_at A I c
    move_entry e q g = g ∙ sym (decoded ∙ ap (on_decoded A.size I c) q)

pub decoded_ends : (z : ℕ) {B : ℕ} (I : List ℕ) (a o : ℕ) (x : Option DirEntry) (e : DirEntry) → BlockSize B → z ≡ B → x ≡ slot_at z I a o → x ≡ Some e → o + 18 + e.len < 2 ^ 64
decoded_ends z I a o x e s r p q = omega (arith, (slot_stands z I a o e (sym p ∙ q)).ends, s.most)

-- ---- what a move leaves to be walked

module _ (A : Area) (I : List ℕ) where
  abbrev pub on_move : Move → Walk
  on_move (move.Entry x c) = item x.entry x.place.block.0 x.place.offset (name_at I (place_at A.size x.place.block.0 x.place.offset) x.entry.len) (cursor_walk A I c)
  on_move (move.Go c) = cursor_walk A I c
  on_move move.End = finished
  on_move move.Damaged = damaged

  -- an entry that a move reads lies in the area
  abbrev pub MoveIn : Move → Type 0
  MoveIn (move.Entry x c) = Lies A I x.entry x.place
  MoveIn (move.Go c) = Unit {0}
  MoveIn move.End = Unit {0}
  MoveIn move.Damaged = Unit {0}

  module _ (c : ReadDir) (z : 0 < c.left) (h : A.first ≤ c.block.0) (l : c.block.0 < A.end) where
    pub over_walks : (e : DirEntry) → slot_at A.size I c.block.0 c.offset ≡ Some e → cursor_walk A I c ≡ on_move (over_move c e)
    over_walks e p = go (either (eqb e.addr.0 0))
      where
        go : (eqb e.addr.0 0 ≡ true) ⊎ (eqb e.addr.0 0 ≡ false) → cursor_walk A I c ≡ on_move (over_move c e)
        go (inl t) =
            let y : e.addr.0 ≡ 0 = eqb-true _ _ t in
            rest_in A I c.left c.block.0 c.offset z h l
            ∙ entries_over A I c.block.0 c.offset (onwards A I (c.left - 1) c.block.0) e p y
            ∙ sym (rest_in A I c.left c.block.0 (c.offset + header + e.len) z h l)
            ∙ ap on_move (over_zero c e y)
        go (inr t) =
            let y : e.addr.0 ≡ 0 → ⊥ = eqb-false _ _ t in
            rest_in A I c.left c.block.0 c.offset z h l
            ∙ entries_item A I c.block.0 c.offset (onwards A I (c.left - 1) c.block.0) e p y
            ∙ ap (item e c.block.0 c.offset (name_at I (place_at A.size c.block.0 c.offset) e.len)) (sym (rest_in A I c.left c.block.0 (c.offset + header + e.len) z h l))
            ∙ ap on_move (over_entry c e y)

    hop_walks : slot_at A.size I c.block.0 c.offset ≡ None → cursor_walk A I c ≡ on_move (hop_move A.size I c)
    hop_walks p =
        rest_in A I c.left c.block.0 c.offset z h l
        ∙ entries_stop A I c.block.0 c.offset (onwards A I (c.left - 1) c.block.0) p
        ∙ go (either (eqb (next A.size I c.block.0) 0))
      where
        go : (eqb (next A.size I c.block.0) 0 ≡ true) ⊎ (eqb (next A.size I c.block.0) 0 ≡ false) → onwards A I (c.left - 1) c.block.0 ≡ on_move (hop_move A.size I c)
        go (inl t) =
            let y : next A.size I c.block.0 ≡ 0 = eqb-true _ _ t in
            onwards_end A I (c.left - 1) c.block.0 y
            ∙ ap on_move (hop_end A.size I c A.size c.block.0 (record { 0 = next A.size I c.block.0 }) refl refl refl y)
        go (inr t) =
            let y : next A.size I c.block.0 ≡ 0 → ⊥ = eqb-false _ _ t in
            onwards_go A I (c.left - 1) c.block.0 y
            ∙ chain_rest A I (c.left - 1) (next A.size I c.block.0)
            ∙ ap on_move (hop_go A.size I c A.size c.block.0 (record { 0 = next A.size I c.block.0 }) refl refl refl y)

    slot_walks : (x : Option DirEntry) → slot_at A.size I c.block.0 c.offset ≡ x → cursor_walk A I c ≡ on_move (on_decoded A.size I c x)
    slot_walks (Some e) p = over_walks e p
    slot_walks None p = hop_walks p

    slot_in : (x : Option DirEntry) → slot_at A.size I c.block.0 c.offset ≡ x → MoveIn (on_decoded A.size I c x)
    unfolding over_move hop_move
    slot_in (Some e) p =
        pick_case MoveIn (eqb e.addr.0 0) _ _ (λ _. tt) (λ _. record { from = h; below = l; ends = (slot_stands A.size I c.block.0 c.offset e p).ends })
    slot_in None p = pick_case MoveIn (eqb (next A.size I c.block.0) 0) _ _ (λ _. tt) (λ _. tt)

  -- What remains from a cursor is what its move says.
  unroll : (c : ReadDir) → cursor_walk A I c ≡ on_move (move_at A I c)
  unroll c = go (dec_lt 0 c.left) (either (in_area A I c.block.0))
    where
      go : Dec (0 < c.left) → (in_area A I c.block.0 ≡ true) ⊎ (in_area A I c.block.0 ≡ false) → cursor_walk A I c ≡ on_move (move_at A I c)
      go (no p) t =
          let z : c.left ≡ 0 = omega arith in
          rest_none A I c.left c.block.0 c.offset z ∙ ap on_move (move_spent A I c z)
      go (yes p) (inl t) =
          let q = area_true A I c.block.0 t in
          slot_walks c p q.0 q.1 (slot_at A.size I c.block.0 c.offset) refl ∙ ap on_move (sym (move_in A I c (omega arith) t))
      go (yes p) (inr t) = rest_out A I c.left c.block.0 c.offset t ∙ ap on_move (move_out A I c t)

  move_lies : (c : ReadDir) → MoveIn (move_at A I c)
  move_lies c = go (dec_lt 0 c.left) (either (in_area A I c.block.0))
    where
      go : Dec (0 < c.left) → (in_area A I c.block.0 ≡ true) ⊎ (in_area A I c.block.0 ≡ false) → MoveIn (move_at A I c)
      go (no p) t = let z : c.left ≡ 0 = omega arith in subst MoveIn (move_spent A I c z) tt
      go (yes p) (inl t) =
          let q = area_true A I c.block.0 t in
          subst MoveIn (sym (move_in A I c (omega arith) t)) (slot_in c p q.0 q.1 (slot_at A.size I c.block.0 c.offset) refl)
      go (yes p) (inr t) = subst MoveIn (move_out A I c t) tt

-- ---- moves come to an end

-- more moves than a cursor has left to make
unfoldable pub moves : Area → ReadDir → ℕ
moves A c = suc A.size * c.left + (A.size - c.offset)

block_less : (B k : ℕ) → 0 < k → suc B * (k - 1) + suc B ≡ suc B * k
block_less B zero h = absurd (omega arith)
block_less B (suc k) h =
    let e : suc k - 1 ≡ k = omega arith in
    rw e (sym (mul-suc (suc B) k))

abbrev Falls : Area → ℕ → Move → Type 0
Falls A b (move.Entry x c) = Unit {0}
Falls A b (move.Go c) = moves A c < b
Falls A b move.End = Unit {0}
Falls A b move.Damaged = Unit {0}

module _ (A : Area) (I : List ℕ) (c : ReadDir) where
  slot_falls : 0 < c.left → (x : Option DirEntry) → slot_at A.size I c.block.0 c.offset ≡ x → Falls A (moves A c) (on_decoded A.size I c x)
  unfolding over_move hop_move moves
  slot_falls z (Some e) p =
      let l : c.offset + 18 + e.len ≤ A.size - 5 = (slot_stands A.size I c.block.0 c.offset e p).ends in
      pick_case (Falls A (moves A c)) (eqb e.addr.0 0) _ _ (λ _. omega arith) (λ _. tt)
  slot_falls z None p = pick_case (Falls A (moves A c)) (eqb (next A.size I c.block.0) 0) _ _ (λ _. tt) (λ _. omega (arith, block_less A.size c.left z))

  move_falls : Falls A (moves A c) (move_at A I c)
  move_falls = go (dec_lt 0 c.left) (either (in_area A I c.block.0))
    where
      go : Dec (0 < c.left) → (in_area A I c.block.0 ≡ true) ⊎ (in_area A I c.block.0 ≡ false) → Falls A (moves A c) (move_at A I c)
      go (no p) t = let z : c.left ≡ 0 = omega arith in subst (Falls A (moves A c)) (move_spent A I c z) tt
      go (yes p) (inl t) =
          subst (Falls A (moves A c)) (sym (move_in A I c (omega arith) t)) (slot_falls p (slot_at A.size I c.block.0 c.offset) refl)
      go (yes p) (inr t) = subst (Falls A (moves A c)) (move_out A I c t) tt

-- how `next` goes along its moves: r is what the move from c gives, and what remains from c is what remained from c₀
module _ (A : Area) (I : List ℕ) (c₀ c : ReadDir) (r : Move) (e : r ≡ move_at A I c) where
  pub go_less : (d : ReadDir) → r ≡ move.Go d → moves A d < moves A c
  go_less d g = subst (Falls A (moves A c)) (sym e ∙ g) (move_falls A I c)

  module _ (i : cursor_walk A I c ≡ cursor_walk A I c₀) where
    made : cursor_walk A I c₀ ≡ on_move A I r
    made = sym i ∙ unroll A I c ∙ ap (on_move A I) (sym e)

    pub go_again : (d : ReadDir) → r ≡ move.Go d → cursor_walk A I d ≡ cursor_walk A I c₀
    go_again d g = sym (made ∙ ap (on_move A I) g)

    pub step_entry : (x : Placed) (d : ReadDir) → r ≡ move.Entry x d → Stepped A I c₀ d (Ok (Some x))
    step_entry x d g = record { walked = made ∙ ap (on_move A I) g; inside = subst (MoveIn A I) (sym e ∙ g) (move_lies A I c) }

    pub step_end : r ≡ move.End → Stepped A I c₀ c (Ok None)
    step_end g =
        let w : cursor_walk A I c₀ ≡ finished = made ∙ ap (on_move A I) g in
        record { walked = w; inside = i ∙ w }

    pub step_damaged : (d : Damage) → r ≡ move.Damaged → Stepped A I c₀ c (Err d)
    step_damaged d g =
        let w : cursor_walk A I c₀ ≡ damaged = made ∙ ap (on_move A I) g in
        record { walked = w; inside = i ∙ w }
