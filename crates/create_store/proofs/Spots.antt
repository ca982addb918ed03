-- Where the entries of a block stop, and where a new entry goes: what the loops keep, and one law for each answer.
use mathlib.Core.Path.{◌≡◌, refl, sym, ap, ◌∙◌}
use mathlib.Core.Bool.{Bool, true, false}
use mathlib.Core.List.{List}
use Rattle.std.specs.Prelude.{Option, Some, None, Result, Ok, Err}
use Rattle.limits.specs.declared.Damage.{Damage}
use Rattle.limits.specs.Says.{damage}
use Prim.Native.Nat.{ℕ, zero, suc, ◌+◌, ◌-◌, ◌≤◌, ◌<◌}
use native.Mathlib.Omega.{arith}
use borrow.Author.Tests.{le-leb, lt-leb, lt-ltb, eq-eqb, ne_eqb}
use Rattle.wire.proofs.Picks.{pick_true, pick_false}
use Rattle.block.specs.declared.Addr.{Addr}
use Rattle.block.specs.Block.{Area, next}
use Rattle.dir_entry.specs.declared.DirEntry.{DirEntry}
use Rattle.dir_entry.specs.Entry.{header, slot_at}
use Rattle.dir_entry.proofs.Slots.{stop_offset, slot_stands}
use Rattle.read_dir.specs.Walk.{in_area}
use Rattle.read_dir.specs.Finds as finds
use Rattle.read_dir.proofs.Unroll.{area_true}
use Rattle.create_store.specs.declared.Spot.{Spot}
use Rattle.create_store.specs.declared.Spot.TheVariants.{In, After}
use Rattle.create_store.specs.Create.{stop_or, stop_from, used_at, spot_from}

-- ---- where a block's entries stop

module _ (B : ℕ) (I : List ℕ) (a : ℕ) where
  pub stop_here : (f o : ℕ) → slot_at B I a o ≡ None → stop_from B I f a o ≡ o
  unfolding stop_from
  stop_here zero o e = refl
  stop_here (suc f) o e = ap (λ (z : Option DirEntry). stop_or z (λ d. stop_from B I f a (o + header + d.len)) o) e

  pub stop_past : (f o : ℕ) (e : DirEntry) → slot_at B I a o ≡ Some e → stop_from B I (suc f) a o ≡ stop_from B I f a (o + header + e.len)
  unfolding stop_from
  stop_past f o e h = ap (λ (z : Option DirEntry). stop_or z (λ d. stop_from B I f a (o + header + d.len)) o) h

  -- any two bounds that the block's rest does not pass give the same
  stop_enough : (f h o : ℕ) → B ≤ o + f → B ≤ o + h → stop_from B I f a o ≡ stop_from B I h a o
  stop_enough zero h o p q = stop_here zero o (stop_offset B I a o (omega arith)) ∙ sym (stop_here h o (stop_offset B I a o (omega arith)))
  stop_enough (suc f) zero o p q = stop_here (suc f) o (stop_offset B I a o (omega arith)) ∙ sym (stop_here zero o (stop_offset B I a o (omega arith)))
  stop_enough (suc f) (suc h) o p q = go (slot_at B I a o) refl (λ k. stop_enough f h k)
    where
      go : (s : Option DirEntry) → slot_at B I a o ≡ s → ((k : ℕ) → B ≤ k + f → B ≤ k + h → stop_from B I f a k ≡ stop_from B I h a k) → stop_from B I (suc f) a o ≡ stop_from B I (suc h) a o
      go (Some e) m r = stop_past f o e m ∙ r (o + header + e.len) (omega arith) (omega arith) ∙ sym (stop_past h o e m)
      go None m r = stop_here (suc f) o m ∙ sym (stop_here (suc h) o m)

-- the loop before its first step
pub used_start : (B : ℕ) (I : List ℕ) (a : ℕ) → stop_from B I (B - 0) a 0 ≡ used_at B I a
used_start B I a = let z : B - 0 ≡ B = omega arith in ap (λ (k : ℕ). stop_from B I k a 0) z

-- the loop at offset o, with what is left of the block as its bound; z and b are the size and the address of the linked block
-- that code makes
module _ (B : ℕ) (I : List ℕ) (a o : ℕ) (inv : (o ≤ B - 5) × (stop_from B I (B - o) a o ≡ used_at B I a)) where
  module _ {r : Option DirEntry} (z b : ℕ) (v : z ≡ B) (w : b ≡ a) (e : r ≡ slot_at z I b o) where
    at_slot : (x : Option DirEntry) → r ≡ x → slot_at B I a o ≡ x
    at_slot x h = (λ i. slot_at (sym v i) I (sym w i) o) ∙ sym e ∙ h

    pub used_stop : r ≡ None → o ≡ used_at B I a
    used_stop h = sym (stop_here B I a (B - o) o (at_slot None h)) ∙ inv.1

    module _ (d : DirEntry) (h : r ≡ Some d) (n : ℕ) (len : n ≡ d.len) where
      pub used_ends : o + (18 + n) ≤ B - 5
      used_ends = omega (arith, (slot_stands B I a o d (at_slot (Some d) h)).ends)

      pub used_less : B - (o + (18 + n)) < B - o
      used_less = omega (arith, used_ends)

      pub used_again : stop_from B I (B - (o + (18 + n))) a (o + (18 + n)) ≡ used_at B I a
      used_again =
          let k : B - o ≡ suc (B - o - 1) = omega (arith, used_ends) in
          let m : o + (18 + n) ≡ o + header + d.len = omega arith in
          ap (λ (x : ℕ). stop_from B I (B - x) a x) m
          ∙ stop_enough B I a (B - (o + header + d.len)) (B - o - 1) (o + header + d.len) (omega arith) (omega arith)
          ∙ sym (stop_past B I a (B - o - 1) o d (at_slot (Some d) h)) ∙ ap (λ (x : ℕ). stop_from B I x a o) (sym k) ∙ inv.1

-- ---- where a new entry goes

module _ (A : Area) (I : List ℕ) (len : ℕ) where
  spot_over : (a : ℕ) → spot_from A I len 0 a ≡ Err damage
  unfolding spot_from
  spot_over a = refl

  module _ (k a : ℕ) where
    spot_out : in_area A I a ≡ false → spot_from A I len (suc k) a ≡ Err damage
    unfolding spot_from
    spot_out t = pick_false _ _ t

    module _ (h : A.first ≤ a) (q : a < A.end) where
      inside : in_area A I a ≡ true
      inside = rw (le-leb A.first a h, lt-ltb a A.end q)

      pub spot_in : used_at A.size I a + header + len ≤ A.size - 5 → spot_from A I len (suc k) a ≡ Ok (In (finds.placed a (used_at A.size I a)))
      unfolding spot_from
      spot_in r = pick_true _ _ inside ∙ pick_true _ _ (le-leb _ _ r)

      module _ (r : A.size - 5 < used_at A.size I a + header + len) where
        pub spot_after : next A.size I a ≡ 0 → spot_from A I len (suc k) a ≡ Ok (After (record { 0 = a }))
        unfolding spot_from
        spot_after e = pick_true _ _ inside ∙ pick_false _ _ (lt-leb _ _ r) ∙ pick_true _ _ (eq-eqb _ 0 e)

        pub spot_next : (next A.size I a ≡ 0 → ⊥) → spot_from A I len (suc k) a ≡ spot_from A I len k (next A.size I a)
        unfolding spot_from
        spot_next e = pick_true _ _ inside ∙ pick_false _ _ (lt-leb _ _ r) ∙ pick_false _ _ (ne_eqb _ 0 e)

-- the loop at block b after i of e rounds, which began at D: so many blocks may be read as rounds are left
module _ (A : Area) (I : List ℕ) (len e i : ℕ) (b : Addr) (whole : Result Spot Damage) (inv : spot_from A I len (e - i) b.0 ≡ whole) where
  pub left_over : e ≤ i → Err damage ≡ whole
  left_over h =
      let z : e - i ≡ 0 = omega arith in
      sym (spot_over A I len b.0) ∙ ap (λ (k : ℕ). spot_from A I len k b.0) (sym z) ∙ inv

  module _ (more : i < e) where
    one : spot_from A I len (suc (e - (i + 1))) b.0 ≡ whole
    one = let z : suc (e - (i + 1)) ≡ e - i = omega arith in ap (λ (k : ℕ). spot_from A I len k b.0) z ∙ inv

    module _ (g : Bool) (f : g ≡ in_area A I b.0) where
      pub left_out : g ≡ false → Err damage ≡ whole
      left_out t = sym (spot_out A I len (e - (i + 1)) b.0 (sym f ∙ t)) ∙ one

      module _ (t : g ≡ true) (u : ℕ) (w : u ≡ used_at A.size I b.0) where
        both : (A.first ≤ b.0) × (b.0 < A.end)
        both = area_true A I b.0 (sym f ∙ t)

        pub left_in : u + 18 + len ≤ A.size - 4 - 1 → Ok (In (record { block = b; offset = u })) ≡ whole
        left_in r =
            ap (λ (z : ℕ). let p : Result Spot Damage = Ok (In (finds.placed b.0 z)) in p) w
            ∙ sym (spot_in A I len (e - (i + 1)) b.0 both.0 both.1 (omega arith)) ∙ one

        module _ (r : A.size - 4 - 1 < u + 18 + len) (m : Addr) (to : m.0 ≡ next A.size I b.0) where
          pub left_after : m.0 ≡ 0 → Ok (After b) ≡ whole
          left_after z = sym (spot_after A I len (e - (i + 1)) b.0 both.0 both.1 (omega arith) (sym to ∙ z)) ∙ one

          pub left_again : (m.0 ≡ 0 → ⊥) → spot_from A I len (e - (i + 1)) m.0 ≡ whole
          left_again z =
              ap (spot_from A I len (e - (i + 1))) to
              ∙ sym (spot_next A I len (e - (i + 1)) b.0 both.0 both.1 (omega arith) (λ n. z (to ∙ n))) ∙ one
