-- What the code knows where it answers, one law for each answer; then what callers need of a path's directory and entry.
use mathlib.Core.Path.{◌≡◌, refl, sym, ap, ◌∙◌}
use mathlib.Core.Bool.{Bool, true, false}
use mathlib.Core.Logic.{◌⊎◌, inl, inr}
use mathlib.Core.List.{List, [], ◌∷◌}
use Prim.Native.Nat.{ℕ, ◌+◌, ◌-◌, ◌≤◌}
use native.Mathlib.Omega.{arith}
use lib.Dec.{eqb}
use lib.ListN.{length, length-take}
use Rattle.std.specs.Prelude.{Option, Some, None, Result, Ok, Err}
use Rattle.std.specs.Result.{IsErrAnd}
use borrow.Author.Tests.{eqb-true, eqb-false}
use Rattle.wire.specs.Pick.{same}
use Rattle.wire.proofs.Picks.{either, same_eq, pick_false, pick_case}
use Rattle.model.specs.Answers.{Reply, accepted, refused, and_then}
use Rattle.limits.specs.Refusals.{refusal_number}
use Rattle.model.specs.Steps.{Bytes}
use Rattle.limits.specs.Says.{says, says_by}
use Rattle.limits.specs.declared.Damage.{Damage}
use Rattle.limits.specs.declared.Refusal.{Refusal}
use Rattle.read_dir.specs.declared.Placed.{Placed}
use Rattle.model.proofs.Replies.{and_then_ok, and_then_no}
use Rattle.block.specs.Block.{Area}
use Rattle.dir_entry.specs.declared.DirEntry.{DirEntry}
use Rattle.dir_entry.specs.Entry.{place_at, entry_at, slot_at}
use Rattle.dir_entry.proofs.Slots.{slot_stands}
use Rattle.read_dir.specs.Walk.{Walk, item, finished, damaged, shown, entries_from, walk}
use Rattle.read_dir.specs.Finds.{find_in}
use Rattle.read_dir.proofs.Unroll.{entries_ind, chain_ind}
use Rattle.path.specs.Path.{last_name, dir_part}
use Rattle.dir.specs.Resolve.{on_placed, on_name, Held, held, lookup_in, open_dir, entry_of}

-- ---- a name

pub name_empty : {A : Type 0} (x : List ℕ) (r : Reply A) → length x ≡ 0 → refused 5 ≡ on_name x r
name_empty [] r e = search
name_empty (c ∷ x) r e = absurd (omega arith)

pub name_some : {A : Type 0} (x : List ℕ) (r : Reply A) → (length x ≡ 0 → ⊥) → on_name x r ≡ r
name_some [] r h = absurd (h refl)
name_some (c ∷ x) r h = refl

-- ---- the error of a `?` is the callee's

pub passed_on : {A B : Type 0} (f : A → B) (r : Result A Refusal) (j : Refusal) → IsErrAnd r (λ e. e ≡ j) → says_by f r ≡ refused (refusal_number j)
passed_on f (Ok a) j h = absurd h
passed_on f (Err e) j h = ap (λ (z : Refusal). let r : Reply _ = refused (refusal_number z) in r) h

pub said_no : {A : Type 0} (r : Result A Refusal) (j : Refusal) → IsErrAnd r (λ e. e ≡ j) → says r ≡ refused (refusal_number j)
said_no (Ok a) j h = absurd h
said_no (Err e) j h = ap (λ (z : Refusal). let r : Reply _ = refused (refusal_number z) in r) h

-- ---- a lookup, and what is done with what is found

pub placed_then : {A : Type 0} (f : Result (Option Placed) Damage) (k : Placed → Reply A) → and_then (on_placed f accepted) k ≡ on_placed f k
placed_then (Ok (Some x)) k = and_then_ok x k refl
placed_then (Ok None) k = and_then_no 5 k refl
placed_then (Err d) k = and_then_no 17 k refl

-- ---- the entry at a path

module _ (A : Area) (I full dir name : List ℕ) (d : dir ≡ dir_part full) (n : name ≡ last_name full) (t : Bool) (e : t ≡ eqb (length name) 0) where
  pub entry_empty : t ≡ true → refused 5 ≡ entry_of A I full
  unfolding entry_of
  entry_empty h = name_empty (last_name full) _ (sym (ap length n) ∙ eqb-true (length name) 0 (sym e ∙ h))

  module _ (some : t ≡ false) where
    opens : and_then (open_dir A I dir) (λ a. lookup_in A I a name (λ x. accepted (held a x))) ≡ entry_of A I full
    unfolding entry_of
    opens =
        (λ i. and_then (open_dir A I (d i)) (λ a. lookup_in A I a (n i) (λ x. accepted (held a x))))
        ∙ sym (name_some (last_name full) _ (λ z. eqb-false (length name) 0 (sym e ∙ some) (ap length n ∙ z)))

    pub entry_no : (k : ℕ) → refused k ≡ open_dir A I dir → refused k ≡ entry_of A I full
    entry_no k g = sym (and_then_no k _ (sym g)) ∙ opens

    module _ (a : ℕ) (g : accepted a ≡ open_dir A I dir) where
      looks : and_then (on_placed (find_in name (walk A I a)) accepted) (λ x. accepted (held a x.entry)) ≡ entry_of A I full
      looks =
          placed_then (find_in name (walk A I a)) (λ x. accepted (held a x.entry))
          ∙ sym (and_then_ok a (λ b. lookup_in A I b name (λ x. accepted (held b x))) (sym g)) ∙ opens

      pub entry_lost : (k : ℕ) → refused k ≡ on_placed (find_in name (walk A I a)) accepted → refused k ≡ entry_of A I full
      entry_lost k h = sym (and_then_no k (λ x. accepted (held a x.entry)) (sym h)) ∙ looks

      pub entry_found : (x : Placed) → accepted x ≡ on_placed (find_in name (walk A I a)) accepted → accepted (held a x.entry) ≡ entry_of A I full
      entry_found x h = sym (and_then_ok x (λ y. accepted (held a y.entry)) (sym h)) ∙ looks

-- ---- a found name is short: its length is a byte

unfoldable ShortNames : Walk → Type 0
ShortNames (item e a o x w) = (length x ≤ 255) × ShortNames w
ShortNames finished = Unit {0}
ShortNames damaged = Unit {0}

in_short : (x : List ℕ) (w : Walk) (p : Placed) → ShortNames w → find_in x w ≡ Ok (Some p) → length x ≤ 255
unfolding find_in ShortNames
in_short x (item d a o y w) p s q = go (either (same y x)) (in_short x w p s.1)
  where
    go : (same y x ≡ true) ⊎ (same y x ≡ false) → (find_in x w ≡ Ok (Some p) → length x ≤ 255) → length x ≤ 255
    go (inl t) r = let z = same_eq y x t in omega (arith, ap length z, s.0)
    go (inr f) r = r (sym (pick_false _ _ f) ∙ q)
in_short x finished p s q = cc
in_short x damaged p s q = cc

module _ (A : Area) (I : List ℕ) (bytes : Bytes I) where
  len_byte : (a o : ℕ) (e : DirEntry) → slot_at A.size I a o ≡ Some e → e.len ≤ 255
  unfolding entry_at
  len_byte a o e p = omega (arith, ap (λ (d : DirEntry). d.len) (slot_stands A.size I a o e p).is, bytes (place_at A.size a o + 17))

  entries_short : (a : ℕ) (w : Walk) → ShortNames w → ShortNames (entries_from A I A.size a 0 w)
  unfolding ShortNames shown
  entries_short a w s =
      entries_ind A I a w (λ o v. ShortNames v) (λ o. s)
      (λ o e v p h. pick_case ShortNames (eqb e.addr.0 0) _ _ (λ _. h) (λ _. (rw length-take (omega (arith, len_byte a o e p)), h))) A.size 0

  walk_short : (a : ℕ) → ShortNames (walk A I a)
  unfolding ShortNames
  walk_short a =
      chain_ind A I (λ k a w. ShortNames w) (λ k a. tt) (λ k a _ _ _. entries_short a finished tt) (λ k a w _ _ _ s. entries_short a w s) (A.end - A.first) a

  found_short : (x : List ℕ) (a : ℕ) (p : Placed) → find_in x (walk A I a) ≡ Ok (Some p) → length x ≤ 255
  found_short x a p q = in_short x (walk A I a) p (walk_short a) q

  lookup_short : (x : List ℕ) (a : ℕ) (h : Held) → lookup_in A I a x (λ e. accepted (held a e)) ≡ accepted h → length x ≤ 255
  lookup_short x a h q = go (find_in x (walk A I a)) refl q
    where
      go : (f : Result (Option Placed) Damage) → find_in x (walk A I a) ≡ f → on_placed f (λ y. accepted (held a y.entry)) ≡ accepted h → length x ≤ 255
      go (Ok (Some p)) g z = found_short x a p g
      go (Ok None) g z = cc
      go (Err d) g z = cc

  name_short : (x : List ℕ) (r : Reply ℕ) (h : Held) → on_name x (and_then r (λ a. lookup_in A I a x (λ e. accepted (held a e)))) ≡ accepted h → length x ≤ 255
  unfolding and_then
  name_short [] r h q = omega arith
  name_short (c ∷ x) (accepted a) h q = lookup_short (c ∷ x) a h q
  name_short (c ∷ x) (refused k) h q = cc

  pub entry_short : (l : List ℕ) (h : Held) → entry_of A I l ≡ accepted h → length (last_name l) ≤ 255
  unfolding entry_of
  entry_short l h q = name_short (last_name l) (open_dir A I (dir_part l)) h q
