-- How code finds the entry of a handle along its directory: one law for each answer.
use mathlib.Core.Path.{◌≡◌, sym, ap, ◌∙◌}
use mathlib.Core.Bool.{Bool, true, false, ◌&&◌}
use mathlib.Core.Logic.{◌⊎◌, inl, inr}
use mathlib.Core.List.{List}
use Prim.Native.Nat.{ℕ, ◌+◌, ◌-◌, ◌*◌, ◌≤◌}
use native.Mathlib.Omega.{arith}
use lib.Dec.{eqb}
use lib.ListN.{length}
use borrow.Author.Tests.{eqb-true, eq-eqb}
use Rattle.wire.specs.Be.{be}
use Rattle.wire.specs.Pick.{same}
use Rattle.wire.proofs.Picks.{either, not_both, and_both, both_and, same_eq, pick_true, pick_false}
use Rattle.block.specs.Block.{Area}
use Rattle.dir_entry.specs.declared.DirEntry.{DirEntry}
use Rattle.dir_entry.specs.Entry.{is_file, entry_at, header, place_at, name_at}
use Rattle.std.specs.Prelude.{Option, Some, None, Result, Ok, Err}
use Rattle.limits.specs.declared.Damage.{Damage}
use Rattle.read_dir.specs.declared.Placed.{Placed}
use Rattle.read_dir.specs.declared.ReadDir.{ReadDir}
use Rattle.read_dir.specs.Walk.{walk}
use Rattle.read_dir.specs.Cursor.{start, cursor_walk, on_step, Stepped, Over, Passed}
use Rattle.read_dir.proofs.Names.{length_name}
use Rattle.read_dir.proofs.Passes.{over_passed}
use Rattle.read_dir.proofs.Along.{start-walk}
use Rattle.handle.specs.declared.Handle.{Handle}
use Rattle.handle.specs.Handles.{name_of, current, current_in}
use Rattle.handle.proofs.Handles.{name_long}

-- ---- entries that are not the handle's, by their length or their address

addr_at : (I : List ℕ) (at : ℕ) (e : DirEntry) → e ≡ entry_at I at → e.addr.0 ≡ be 4 I (at + 1)
unfolding entry_at
addr_at I at e u = ap (λ (d : DirEntry). d.addr.0) u

-- what code asks of an entry before it looks at the rest
abbrev alike : Handle → List ℕ → ℕ → ℕ → Bool
alike h I at n = eqb (length (name_at I at n)) h.len && eqb (be 4 I (at + 1)) h.addr.0

-- and what it finds, at offset o of block a: where the lengths are one, v is the entry's address
module _ (B : ℕ) (I : List ℕ) (a o n : ℕ) (h : Handle) (q : B * a + B ≤ length I) (l : o + header + n ≤ B - 5) where
  long : length (name_at I (place_at B a o) n) ≡ n
  long = length_name I (place_at B a o) n (omega arith)

  by_length : (b : Bool) → eqb n h.len ≡ b → (b && eqb (be 4 I (place_at B a o + 1)) h.addr.0) ≡ alike h I (place_at B a o) n
  by_length b e = ap (λ (t : Bool). t && eqb (be 4 I (place_at B a o + 1)) h.addr.0) (sym e ∙ ap (λ (k : ℕ). eqb k h.len) (sym long))

  pub alike_by_addr : (at v : ℕ) → at ≡ place_at B a o → v ≡ be 4 I (at + 1) → n ≡ h.len → eqb v h.addr.0 ≡ alike h I (place_at B a o) n
  alike_by_addr at v e r m = ap (λ (k : ℕ). eqb k h.addr.0) (r ∙ ap (λ (j : ℕ). be 4 I (j + 1)) e) ∙ by_length true (eq-eqb _ _ m)

  pub alike_by_length : (n ≡ h.len → ⊥) → eqb n h.len ≡ alike h I (place_at B a o) n
  alike_by_length z = go (either (eqb n h.len))
    where
      go : (eqb n h.len ≡ true) ⊎ (eqb n h.len ≡ false) → eqb n h.len ≡ alike h I (place_at B a o) n
      go (inl t) = absurd (z (eqb-true _ _ t))
      go (inr t) = t ∙ by_length false t

-- an entry that is the handle's has its length and its address
own_alike : (h : Handle) (I : List ℕ) (at n : ℕ) (e : DirEntry) (x : List ℕ) → h.len ≤ 255 → length h.name ≡ 255 → e ≡ entry_at I at → x ≡ name_at I at n
    → false ≡ alike h I at n → current h e x ≡ false
unfolding current
own_alike h I at n e x l q u m z = go (either (current h e x))
  where
    go : (current h e x ≡ true) ⊎ (current h e x ≡ false) → current h e x ≡ false
    go (inr t) = t
    go (inl t) =
        let y = and_both (is_file e.kind && same x (name_of h)) (eqb e.addr.0 h.addr.0 && eqb e.size h.size) t in
        let v : x ≡ name_of h = same_eq x (name_of h) (and_both (is_file e.kind) (same x (name_of h)) y.0).1 in
        let w : length (name_at I at n) ≡ h.len = ap length (sym m ∙ v) ∙ sym (name_long h l q) in
        let a : be 4 I (at + 1) ≡ h.addr.0 = sym (addr_at I at e u) ∙ eqb-true _ _ (and_both (eqb e.addr.0 h.addr.0) (eqb e.size h.size) y.1).0 in
        absurd (not_both (both_and (eq-eqb _ _ w) (eq-eqb _ _ a)) (sym z))

pub over_alike : (A : Area) (I : List ℕ) (h : Handle) (P Q : ℕ → ℕ → Type 0) (c d : ReadDir) → Over A I P Q c d → h.len ≤ 255 → length h.name ≡ 255
    → ((o n : ℕ) → P o n → false ≡ alike h I (place_at A.size c.block.0 o) n) → Passed A I (current_in h) c d
unfolding current_in
over_alike A I h P Q c d v l q t =
    over_passed A I (current_in h) P Q c
    (λ o n e x w p u m. pick_false _ _ (own_alike h I (place_at A.size c.block.0 o) n e x l q u m (t o n p))) d v

-- ---- along the directory

-- The step m from c to d is made past entries that are not the handle's, which were passed over from c₁ on. What is found from
-- c₁ on is what is found from c₀ on.
module _ (A : Area) (I : List ℕ) (h : Handle) (c₀ c₁ c d : ReadDir) (m : Result (Option Placed) Damage) (w : Stepped A I c d m)
    (v : Passed A I (current_in h) c₁ c) (inv : current_in h (cursor_walk A I c₁) ≡ current_in h (cursor_walk A I c₀)) where
  finds : (x : Result (Option Placed) Damage) → m ≡ x → current_in h (cursor_walk A I c₀) ≡ current_in h (on_step A I d x)
  finds x g = sym inv ∙ sym v.says ∙ ap (current_in h) (w.walked ∙ ap (on_step A I d) g)

  pub entry_again : (y : Placed) (t : Bool) → m ≡ Ok (Some y)
      → t ≡ current h y.entry (name_at I (place_at A.size y.place.block.0 y.place.offset) y.entry.len) → t ≡ false → current_in h (cursor_walk A I d) ≡ current_in h (cursor_walk A I c₀)
  unfolding current_in
  entry_again y t g q k = sym (finds (Ok (Some y)) g ∙ pick_false _ _ (sym q ∙ k))

  module _ (b : c₀ ≡ start A h.dir) where
    whole : current_in h (cursor_walk A I c₀) ≡ current_in h (walk A I h.dir.0)
    whole = ap (current_in h) (start-walk A I c₀ h.dir b)

    pub entry_hit : (y : Placed) (t : Bool) → m ≡ Ok (Some y)
        → t ≡ current h y.entry (name_at I (place_at A.size y.place.block.0 y.place.offset) y.entry.len) → t ≡ true → Ok (Some y) ≡ current_in h (walk A I h.dir.0)
    unfolding current_in
    entry_hit y t g q k = sym (pick_true _ _ (sym q ∙ k)) ∙ sym (finds (Ok (Some y)) g) ∙ whole

    pub entry_none : m ≡ Ok None → Ok None ≡ current_in h (walk A I h.dir.0)
    unfolding current_in
    entry_none g = sym (finds (Ok None) g) ∙ whole

    pub entry_bad : (e : Damage) → m ≡ Err e → Err e ≡ current_in h (walk A I h.dir.0)
    unfolding current_in
    entry_bad e g = sym (finds (Err e) g) ∙ whole
