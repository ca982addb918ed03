-- Over entries that do not matter: the length of a name as code reads it, and that passing over them changes no answer.
use Rattle.std.specs.Prelude.{Option, Some, None}
use mathlib.Core.Bool.{Bool, true, false}
use mathlib.Core.Path.{◌≡◌, refl, sym, ap, ◌∙◌, subst}
use mathlib.Core.Bool.{false}
use mathlib.Core.Logic.{inl, inr}
use mathlib.Core.List.{List}
use Prim.Native.Nat.{ℕ, zero, suc, ◌+◌, ◌-◌, ◌^◌, ◌≤◌, ◌<◌}
use native.Mathlib.Decide.{dec_lt}
use native.Mathlib.Omega.{arith}
use lib.Dec.{eqb}
use lib.ListN.{get_or}
use Rattle.wire.specs.Pick.{same}
use Rattle.wire.proofs.Picks.{pick_false, pick_case}
use Rattle.block.specs.Block.{Area, BlockSize}
use Rattle.dir_entry.specs.declared.DirEntry.{DirEntry}
use Rattle.dir_entry.specs.Entry.{entry_at, place_at, name_at, slot_at}
use Rattle.dir_entry.proofs.Slots.{code_offset, code_kind, code_empty, code_long, code_entry, slot_stands}
use Rattle.read_dir.specs.Walk.{Walk, item, damaged, in_area}
use Rattle.read_dir.specs.Cursor.{past, at_offset, over_move, rest_from, cursor_walk, items, len_of, Passed, Strides, Over}
use Rattle.read_dir.specs.Finds.{find_in}
use Rattle.read_dir.specs.declared.ReadDir.{ReadDir}
use Rattle.read_dir.specs.declared.Move.{Move}
use Rattle.read_dir.proofs.Unroll.{area_in_lem, area_true, rest_none}
use Rattle.read_dir.proofs.Moves.{on_move, over_walks}

-- ---- the length of a name

-- As code has it: z is the size of the linked block that code makes, k its capacity, `at` the entry's byte and n its length byte.
module _ (B : ℕ) (I : List ℕ) (a o z k : ℕ) (r : z ≡ B) (c : k ≡ z - 4) where
  room : k ≡ B - 4
  room = c ∙ ap (λ (x : ℕ). x - 4) r

  pub len_offset : k - 18 ≤ o → 0 ≡ len_of (slot_at B I a o)
  len_offset h = ap len_of (code_offset B I a o k room h)

  module _ (at : ℕ) (e : at ≡ place_at B a o) (h : o < k - 18) where
    pub len_kind : 2 < get_or I at 0 → 0 ≡ len_of (slot_at B I a o)
    len_kind l = ap len_of (code_kind B I a o k room at 0 e h l)

    module _ (n : ℕ) (l : get_or I at 0 ≤ 2) (f : n ≡ get_or I (at + 17) 0) where
      pub len_long : k - 1 < o + 18 + n → 0 ≡ len_of (slot_at B I a o)
      len_long m = go (dec_lt 0 n)
        where
          go : Dec (0 < n) → 0 ≡ len_of (slot_at B I a o)
          go (yes p) = ap len_of (code_long B I a o k room at n e h l f (omega arith) m)
          go (no p) = ap len_of (code_empty B I a o k room at n e h l f (omega arith))

      byte_is : n ≡ (entry_at I at).len
      unfolding entry_at
      byte_is = f

      pub len_is : o + 18 + n ≤ k - 1 → n ≡ len_of (slot_at B I a o)
      len_is m = go (dec_lt 0 n)
        where
          go : Dec (0 < n) → n ≡ len_of (slot_at B I a o)
          go (yes p) = byte_is ∙ ap len_of (code_entry B I a o k room at n e h (entry_at I at) l f (omega arith) m refl)
          go (no p) = let y : n ≡ 0 = omega arith in y ∙ ap len_of (code_empty B I a o k room at n e h l f y)

-- The length at an offset of a volume's block, by that block's own numbers.
pub len_in_block : {B S a b n : ℕ} (I : List ℕ) (o : ℕ) → B ≡ S → a ≡ b → n ≡ len_of (slot_at B I a o) → n ≡ len_of (slot_at S I b o)
len_in_block I o e f h = h ∙ (λ i. len_of (slot_at (e i) I (f i) o))

-- A length that is not 0 is that of an entry.
module _ (B : ℕ) (I : List ℕ) (a o n : ℕ) (q : n ≡ len_of (slot_at B I a o)) (z : n ≡ 0 → ⊥) where
  len_entry : (e : DirEntry) × (slot_at B I a o ≡ Some e) × (n ≡ e.len)
  len_entry = go (slot_at B I a o) refl q
    where
      go : (x : Option DirEntry) → slot_at B I a o ≡ x → n ≡ len_of x → (e : DirEntry) × (slot_at B I a o ≡ Some e) × (n ≡ e.len)
      go (Some e) p h = (e, p, h)
      go None p h = absurd (z h)

  pub len_ends : o + 18 + n ≤ B - 5
  len_ends =
      let x = len_entry in
      let l : o + 18 + x.0.len ≤ B - 5 = (slot_stands B I a o x.0 x.1).ends in
      let m : n ≡ x.0.len = x.2 in
      omega arith

  pub len_fits : BlockSize B → o + 18 + n < 2 ^ 64
  len_fits s = omega (arith, len_ends, s.most)

  pub head_fits : BlockSize B → o + 18 < 2 ^ 64
  head_fits s = omega (arith, len_fits s)

  pub len_less : B - (o + 18 + n) < B - o
  len_less = omega (arith, len_ends)

-- ---- passing over entries

module _ (A : Area) (I : List ℕ) {X : Type 0} (f : Walk → X) where
  pass_none : (c : ReadDir) → Passed A I f c c
  pass_none c = record { says = refl; fewer = omega arith }

  pass_at : (c d : ReadDir) (o : ℕ) → d ≡ at_offset c o → Passed A I f c (at_offset c o) → Passed A I f c d
  pass_at c d o e p = subst (Passed A I f c) (sym e) p

  -- over one entry, of which f says no more than of what follows
  module _ (c : ReadDir) (h : A.first ≤ c.block.0) (l : c.block.0 < A.end) (e : DirEntry)
      (p : slot_at A.size I c.block.0 c.offset ≡ Some e)
      (g : (x : List ℕ) (w : Walk) → x ≡ name_at I (place_at A.size c.block.0 c.offset) e.len
      → f (item e c.block.0 c.offset x w) ≡ f w) where
    abbrev Kept : Walk → Type 0
    Kept v = (f (cursor_walk A I (past c e)) ≡ f v) × (items (cursor_walk A I (past c e)) ≤ items v)

    moved_kept : Kept (on_move A I (over_move c e))
    unfolding over_move items
    moved_kept =
        pick_case (λ (m : Move). Kept (on_move A I m)) (eqb e.addr.0 0) _ _ (λ _. (refl, omega arith))
        (λ _. (sym (g _ _ refl), omega arith))

    over_kept : Kept (cursor_walk A I c)
    over_kept = go (dec_lt 0 c.left)
      where
        go : Dec (0 < c.left) → Kept (cursor_walk A I c)
        go (yes z) = subst Kept (sym (over_walks A I c z h l e p)) moved_kept
        go (no z) =
            let y : c.left ≡ 0 = omega arith in
            let none : (o : ℕ) → rest_from A I c.left c.block.0 o ≡ damaged
            = λ o. rest_none A I c.left c.block.0 o y in
            let w : cursor_walk A I (past c e) ≡ cursor_walk A I c = none (c.offset + 18 + e.len) ∙ sym (none c.offset) in
            (ap f w, omega (arith, ap items w))

  -- and so one more: n is the length of its name
  pass_more : (c : ReadDir) (o n : ℕ) → Passed A I f c (at_offset c o) → A.first ≤ c.block.0 → c.block.0 < A.end
      → n ≡ len_of (slot_at A.size I c.block.0 o) → (n ≡ 0 → ⊥)
      → ((e : DirEntry) (x : List ℕ) (w : Walk) → e ≡ entry_at I (place_at A.size c.block.0 o)
      → x ≡ name_at I (place_at A.size c.block.0 o) n → f (item e c.block.0 o x w) ≡ f w)
      → Passed A I f c (at_offset c (o + 18 + n))
  pass_more c o n p h l q z g =
      let x = len_entry A.size I c.block.0 o n q z in
      let m : n ≡ x.0.len = x.2 in
      let u = (slot_stands A.size I c.block.0 o x.0 x.1).is in
      let k =
      over_kept (at_offset c o) h l x.0 x.1
      (λ y w r. g x.0 y w u (r ∙ ap (name_at I (place_at A.size c.block.0 o)) (sym m))) in
      let d : Passed A I f c (at_offset c (o + 18 + x.0.len))
      = record { says = k.0 ∙ p.says; fewer = omega (arith, k.1, p.fewer) } in
      subst (λ (j : ℕ). Passed A I f c (at_offset c (o + 18 + j))) (sym m) d

-- ---- over the entries of a block, as `pass` goes

not_both : true ≡ false → ⊥
not_both e = let z : ◌≡◌ {A = ℕ} 0 1 = cc in omega arith

module _ (A : Area) (I : List ℕ) (P : ℕ → ℕ → Type 0) (a : ℕ) where
  strides_more : (k o q n : ℕ) → Strides A I P k a o q → n ≡ len_of (slot_at A.size I a q) → (n ≡ 0 → ⊥) → P q n
      → Strides A I P (suc k) a o (q + 18 + n)
  strides_more zero o q n e l z p =
      (n, l ∙ ap (λ (x : ℕ). len_of (slot_at A.size I a x)) e, z, subst (λ (x : ℕ). P x n) e p, ap (λ (x : ℕ). x + 18 + n) e)
  strides_more (suc k) o q n s l z p = (s.0, s.1, s.2, s.3, strides_more k (o + 18 + s.0) q n s.4 l z p)

-- what is behind the cursor so far: k entries from its own offset to o
pub record Behind (A : Area) (I : List ℕ) (P : ℕ → ℕ → Type 0) (c : ReadDir) (o : ℕ) : Type 0 where
  pub count : ℕ
  pub strides : Strides A I P count c.block.0 c.offset o

module _ (A : Area) (I : List ℕ) (P : ℕ → ℕ → Type 0) (c : ReadDir) where
  pub behind_none : Behind A I P c c.offset
  behind_none = record { count = 0; strides = refl }

  pub behind_more : (o n : ℕ) → Behind A I P c o → n ≡ len_of (slot_at A.size I c.block.0 o) → (n ≡ 0 → ⊥) → P o n
      → Behind A I P c (o + 18 + n)
  behind_more o n b l z p =
      record { count = suc b.count; strides = strides_more A I P c.block.0 b.count c.offset o n b.strides l z p }

module _ (A : Area) (I : List ℕ) (P Q : ℕ → ℕ → Type 0) (c : ReadDir) where
  pub over_not_had : (b : Bool) → b ≡ in_area A I c.block.0 → b ≡ false → Over A I P Q c c
  over_not_had b e t =
      record {
        offset = c.offset;
        count = 0;
        moved = refl;
        strides = refl;
        inside = λ z. absurd (omega arith);
        stops = λ h l. absurd (let z : true ≡ false = sym (area_in_lem A I c.block.0 h l) ∙ sym e ∙ t in not_both z);
      }

  module _ (g : Bool) (f : g ≡ in_area A I c.block.0) (t : g ≡ true) (o n : ℕ) (d : ReadDir) (e : d ≡ at_offset c o) (b : Behind A I P c o)
      (q : n ≡ len_of (slot_at A.size I c.block.0 o)) where
    both : (A.first ≤ c.block.0) × (c.block.0 < A.end)
    both = area_true A I c.block.0 (sym f ∙ t)

    pub over_stop : n ≡ 0 → Over A I P Q c d
    over_stop z =
        record { offset = o; count = b.count; moved = e; strides = b.strides; inside = λ _. both; stops = λ _ _. inl (sym q ∙ z) }

    pub over_found : Q o n → Over A I P Q c d
    over_found p =
        record { offset = o; count = b.count; moved = e; strides = b.strides; inside = λ _. both; stops = λ _ _. inr (subst (Q o) q p) }

-- Where f says no more of an entry of which P holds than of what follows it, it says the same from the cursor behind them.
module _ (A : Area) (I : List ℕ) {X : Type 0} (f : Walk → X) (P Q : ℕ → ℕ → Type 0) (c : ReadDir)
    (law : (o n : ℕ) (e : DirEntry) (x : List ℕ) (w : Walk) → P o n → e ≡ entry_at I (place_at A.size c.block.0 o)
    → x ≡ name_at I (place_at A.size c.block.0 o) n → f (item e c.block.0 o x w) ≡ f w) where
  strides_pass : A.first ≤ c.block.0 → c.block.0 < A.end → (k o q : ℕ) → Passed A I f c (at_offset c o)
      → Strides A I P k c.block.0 o q → Passed A I f c (at_offset c q)
  strides_pass h l zero o q p s = subst (λ (x : ℕ). Passed A I f c (at_offset c x)) (sym s) p
  strides_pass h l (suc k) o q p s =
      strides_pass h l k (o + 18 + s.0) q (pass_more A I f c o s.0 p h l s.1 s.2 (λ e x w u v. law o s.0 e x w s.3 u v)) s.4

  pub over_passed : (d : ReadDir) → Over A I P Q c d → Passed A I f c d
  over_passed d v = go v.count v.strides v.inside
    where
      go : (k : ℕ) → Strides A I P k c.block.0 c.offset v.offset → (0 < k → (A.first ≤ c.block.0) × (c.block.0 < A.end)) → Passed A I f c d
      go zero s i = pass_at A I f c d v.offset v.moved (subst (λ (x : ℕ). Passed A I f c (at_offset c x)) (sym s) (pass_none A I f c))
      go (suc k) s i =
          let z : 0 < suc k = omega arith in
          pass_at A I f c d v.offset v.moved (strides_pass (i z).0 (i z).1 (suc k) c.offset v.offset (pass_none A I f c) s)

-- entries of other names are passed over by a lookup
pub over_others : (A : Area) (I name : List ℕ) (P Q : ℕ → ℕ → Type 0) (c d : ReadDir) → Over A I P Q c d
    → ((o n : ℕ) → P o n → false ≡ same (name_at I (place_at A.size c.block.0 o) n) name) → Passed A I (find_in name) c d
unfolding find_in
over_others A I name P Q c d v t =
    over_passed A I (find_in name) P Q c
    (λ o n e x w p u m. pick_false _ _ (ap (λ (y : List ℕ). same y name) m ∙ sym (t o n p))) d v
