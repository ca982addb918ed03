-- How code compares an entry with a handle, and goes along the handle's directory.
use Rattle.std.specs.Prelude.{Option, Some, None, Result, Ok, Err, IsErrAnd}
use mathlib.Core.Path.{◌≡◌, refl, sym, ap, ◌∙◌}
use mathlib.Core.Bool.{Bool, true, false}
use mathlib.Core.List.{List, ◌++◌}
use Prim.Native.Nat.{ℕ, ◌≤◌}
use native.Mathlib.Omega.{arith}
use lib.ListN.{length, take, drop}
use lib.Seq.{length-take-le}
use Rattle.wire.specs.Be.{zeros}
use Rattle.wire.specs.Pick.{pick}
use Rattle.wire.proofs.Numbers.{drop-zeros}
use Rattle.block.specs.declared.Addr.{Addr}
use Rattle.block.specs.Block.{Area}
use Rattle.model.specs.Render.{padded}
use Rattle.model.proofs.Opens.{refuses, passes, first_of_one}
use Rattle.read_dir.specs.Walk.{Walk, item, finished, damaged, walk}
use Rattle.read_dir.specs.Finds.{placed}
use Rattle.limits.specs.declared.Damage.{Damage}
use Rattle.limits.proofs.Exits.{gave_some}
use Rattle.limits.specs.declared.Refusal.TheVariants.{Damaged}
use Rattle.limits.specs.Refusals.{refusal_number}
use Rattle.read_dir.specs.declared.Placed.{Placed}
use Rattle.handle.specs.declared.Handle.{Handle}
use Rattle.limits.specs.declared.Refusal.{Refusal}
use Rattle.handle.specs.Handles.{new_handle, stale_fields, current, held_in, current_in}
use Rattle.handle.specs.Post.{answer_number, handle_refusal}

-- ---- the name

-- a name that was copied whole, over as many zeros
pub name_put : (x y : List ℕ) → y ≡ x → y ++ drop (length x) (zeros 255) ≡ padded 255 x
unfolding padded
name_put x y e = ap (λ (l : List ℕ). l ++ drop (length x) (zeros 255)) e ∙ ap (λ (l : List ℕ). x ++ l) (drop-zeros (length x) 255)

pub new_is : (d a : Addr) (size : ℕ) (x name : List ℕ) → name ≡ padded 255 x
    → record { dir = d; name = name; len = length x; addr = a; size = size; position = 0 } ≡ new_handle d x a size
new_is d a size x name e = λ i. record { dir = d; name = e i; len = length x; addr = a; size = size; position = 0 }

pub name_long : (h : Handle) → h.len ≤ 255 → length h.name ≡ 255 → h.len ≡ length (take h.len h.name)
name_long h l e = sym (length-take-le h.len h.name (omega arith))

-- ---- the handle's entry in its directory

-- 0 where it is there, 11 where it is not, 17 for damage
abbrev found_number : Result (Option Placed) Damage → ℕ
found_number (Ok (Some x)) = 0
found_number (Ok None) = 11
found_number (Err d) = 17

held_number : (h : Handle) (w : Walk) → found_number (current_in h w) ≡ held_in h w
unfolding held_in current_in pick
held_number h (item e a o x w) = go (current h e x) (held_number h w)
  where
    go : (b : Bool) → found_number (current_in h w) ≡ held_in h w
        → found_number (pick b (Ok (Some (record { entry = e; place = placed a o }))) (current_in h w)) ≡ pick b 0 (held_in h w)
    go true r = refl
    go false r = r
held_number h finished = refl
held_number h damaged = refl

-- ---- what refuses a handle: b is what its fields say

module _ (A : Area) (I : List ℕ) (h : Handle) (b : Bool) (e : b ≡ stale_fields h) where
  pub check_stale : b ≡ true → 11 ≡ handle_refusal A I h
  check_stale t = sym (refuses 11 _ (omega arith) (sym e ∙ t))

  -- and f what its directory holds
  module _ (n : b ≡ false) (f : Result (Option Placed) Damage) (q : f ≡ current_in h (walk A I h.dir.0)) where
    by_entry : (x : Result (Option Placed) Damage) → f ≡ x → found_number x ≡ handle_refusal A I h
    by_entry x g =
        ap found_number (sym g ∙ q) ∙ held_number h (walk A I h.dir.0)
        ∙ sym (passes 11 _ (sym e ∙ n) ∙ first_of_one (held_in h (walk A I h.dir.0)))

    pub check_held : (o : Option Placed) (x : Placed) → f ≡ Ok o → o ≡ Some x → 0 ≡ handle_refusal A I h
    check_held o x g r = by_entry (Ok (Some x)) (gave_some g r)

    pub check_missing : f ≡ Ok None → 11 ≡ handle_refusal A I h
    check_missing g = by_entry (Ok None) g

    -- t is what code answers then
    pub check_damaged : (d : Damage) (t : Result (Unit {0}) Refusal) → f ≡ Err d → IsErrAnd t (λ x. x ≡ Damaged) → answer_number t ≡ handle_refusal A I h
    check_damaged d (Ok x) g r = absurd r
    check_damaged d (Err x) g r = ap refusal_number r ∙ by_entry (Err d) g
