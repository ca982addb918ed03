-- The lines of records: of one, of those that follow, and of records that a listing makes.
use mathlib.Core.Path.{◌≡◌, refl, sym, ap, ◌∙◌}
use mathlib.Core.Bool.{true, false}
use mathlib.Core.Logic.{◌⊎◌, inl, inr}
use mathlib.Core.List.{List, [], ◌++◌, append_assoc, append-nil}
use Prim.Native.Nat.{ℕ, zero, suc, ◌+◌, ◌-◌, ◌*◌, ◌≤◌, ◌<◌}
use native.Mathlib.Omega.{arith}
use lib.Dec.{leb}
use lib.ListN.{length, get_or, take, drop, length-take, length-drop}
use borrow.Author.Tests.{leb-true, leb-false, le-leb, lt-leb}
use Rattle.wire.specs.Be.{be, splice}
use Rattle.wire.proofs.Numbers.{splice-nil}
use Rattle.wire.proofs.Picks.{either, pick_true, pick_false}
use Rattle.dir_entry.specs.declared.Kind.{Kind}
use Rattle.dir_entry.specs.Entry.{kind_at}
use Rattle.lsmfs_lines.specs.Line.{line_of}
use Rattle.lsmfs_lines.specs.Text.{next_at, line_at, text_from, text_of}
use Rattle.lsmfs_lines.proofs.Words.{Stored, stored_both}

-- ---- as code tests and stores them

-- fewer bytes are left than the fixed part has
pub whole_short : (l : List ℕ) (at : ℕ) → length l - at < 14 → false ≡ leb (next_at l at) (length l)
whole_short l at h = sym (lt-leb (next_at l at) (length l) (omega arith))

-- the name's length k is tested against what is left
pub whole_room : (at k n : ℕ) → at + 14 ≤ n → leb k (n - at - 14) ≡ leb (at + 14 + k) n
whole_room at k n h = go (either (leb k (n - at - 14)))
  where
    go : (leb k (n - at - 14) ≡ true) ⊎ (leb k (n - at - 14) ≡ false) → leb k (n - at - 14) ≡ leb (at + 14 + k) n
    go (inl t) = t ∙ sym (le-leb (at + 14 + k) n (omega (arith, leb-true k (n - at - 14) t)))
    go (inr t) = t ∙ sym (lt-leb (at + 14 + k) n (omega (arith, leb-false k (n - at - 14) t)))

module _ (l : List ℕ) (at end : ℕ) (e : end ≡ next_at l at) (h : next_at l at ≤ length l) where
  name_taken : take (end - (at + 14)) (drop (at + 14) l) ≡ take (get_or l (at + 13) 0) (drop (at + 14) l)
  name_taken =
      let q : end - (at + 14) ≡ get_or l (at + 13) 0 = omega arith in
      ap (λ (k : ℕ). take k (drop (at + 14) l)) q

  pub name_short : length (take (end - (at + 14)) (drop (at + 14) l)) ≡ get_or l (at + 13) 0
  name_short = simp (length-take, length-drop) (omega arith)

  pub record_lined : (o o₁ : List ℕ) (to r size time : ℕ) (k : Kind) → k ≡ kind_at (get_or l at 0) → size ≡ be 4 l (at + 1) → time ≡ be 8 l (at + 5)
      → Stored o o₁ to (line_of k size time (take (end - (at + 14)) (drop (at + 14) l))) r → Stored o o₁ to (line_at l at) r
  unfolding line_at
  record_lined o o₁ to r size time k ek es et s = rw (ek, es, et, name_taken) at s

-- ---- one after the other

text_stop : (k : ℕ) (l : List ℕ) (at : ℕ) → leb (next_at l at) (length l) ≡ false → text_from k l at ≡ []
unfolding text_from
text_stop zero l at f = refl
text_stop (suc k) l at f = pick_false (line_at l at ++ text_from k l (next_at l at)) [] f

text_go : (k : ℕ) (l : List ℕ) (at : ℕ) → leb (next_at l at) (length l) ≡ true → text_from (suc k) l at ≡ line_at l at ++ text_from k l (next_at l at)
unfolding text_from
text_go k l at t = pick_true (line_at l at ++ text_from k l (next_at l at)) [] t

-- any bound does that reaches the end
text_same : (k m : ℕ) (l : List ℕ) (at : ℕ) → length l ≤ at + k → length l ≤ at + m → text_from k l at ≡ text_from m l at
text_same zero m l at p q =
    let f : leb (next_at l at) (length l) ≡ false = lt-leb (next_at l at) (length l) (omega arith) in
    text_stop zero l at f ∙ sym (text_stop m l at f)
text_same (suc k) zero l at p q =
    let f : leb (next_at l at) (length l) ≡ false = lt-leb (next_at l at) (length l) (omega arith) in
    text_stop (suc k) l at f ∙ sym (text_stop zero l at f)
text_same (suc k) (suc m) l at p q = go (either (leb (next_at l at) (length l))) (text_same k m l (next_at l at) (omega arith) (omega arith))
  where
    go : (leb (next_at l at) (length l) ≡ true) ⊎ (leb (next_at l at) (length l) ≡ false) → text_from k l (next_at l at) ≡ text_from m l (next_at l at)
        → text_from (suc k) l at ≡ text_from (suc m) l at
    go (inl t) i = text_go k l at t ∙ ap (λ (y : List ℕ). line_at l at ++ y) i ∙ sym (text_go m l at t)
    go (inr f) i = text_stop (suc k) l at f ∙ sym (text_stop (suc m) l at f)

-- the lines from byte `at` on
abbrev pub text_at : List ℕ → ℕ → List ℕ
text_at l at = text_from (length l - at) l at

pub text_end : (l : List ℕ) (at : ℕ) → leb (next_at l at) (length l) ≡ false → text_at l at ≡ []
text_end l at f = text_stop (length l - at) l at f

pub text_more : (l : List ℕ) (at : ℕ) → leb (next_at l at) (length l) ≡ true → text_at l at ≡ line_at l at ++ text_at l (next_at l at)
text_more l at t =
    let h : next_at l at ≤ length l = leb-true (next_at l at) (length l) t in
    let j : ℕ = length l - at - 1 in
    let e : length l - at ≡ suc j = omega arith in
    ap (λ (k : ℕ). text_from k l at) e ∙ text_go j l at t
    ∙ ap (λ (y : List ℕ). line_at l at ++ y) (text_same j (length l - next_at l at) l (next_at l at) (omega arith) (omega arith))

-- ---- the loop: what is stored, and what is left, make up the whole

pub record Done (o₀ o l : List ℕ) (at used : ℕ) : Type 0 where
  pub inside : at ≤ length l
  pub short : used ≤ 3 * at
  pub same : length o ≡ length o₀
  pub lines : List ℕ
  pub rest : lines ++ text_at l at ≡ text_of l
  pub stored : Stored o₀ o 0 lines used

pub done_none : (o l : List ℕ) → Done o o l 0 0
done_none o l =
    let z : length l - 0 ≡ length l = omega arith in
    record { inside = omega arith; short = omega arith; same = refl; lines = []; rest = ap (λ (k : ℕ). text_from k l 0) z; stored = (sym (splice-nil o 0), refl) }

pub done_more : (o₀ o o₁ l : List ℕ) (at used r p : ℕ) → 3 * length l ≤ length o₀ → Done o₀ o l at used → leb (next_at l at) (length l) ≡ true
    → length o₁ ≡ length o → Stored o o₁ used (line_at l at) r → r ≤ used + 3 * (14 + get_or l (at + 13) 0) → p ≡ next_at l at → Done o₀ o₁ l p r
done_more o₀ o o₁ l at used r p h d t k s b e =
    let n : next_at l at ≤ length l = leb-true (next_at l at) (length l) t in
    record {
      inside = omega arith;
      short = omega arith;
      same = k ∙ d.same;
      lines = d.lines ++ line_at l at;
      rest =
          append_assoc d.lines (line_at l at) (text_at l p) ∙ ap (λ (y : ℕ). d.lines ++ (line_at l at ++ text_at l y)) e
          ∙ ap (λ (y : List ℕ). d.lines ++ y) (sym (text_more l at t)) ∙ d.rest;
      stored = stored_both o₀ o o₁ 0 used r d.lines (line_at l at) (omega (arith, d.stored.1, s.1)) d.stored s;
    }

pub done_all : (o₀ o l : List ℕ) (at used : ℕ) → Done o₀ o l at used → leb (next_at l at) (length l) ≡ false
    → (o ≡ splice o₀ 0 (text_of l)) × ((used ≡ length (text_of l)) × (used ≤ 3 * length l))
done_all o₀ o l at used d f =
    let q : d.lines ≡ text_of l = sym (append-nil d.lines) ∙ ap (λ (y : List ℕ). d.lines ++ y) (sym (text_end l at f)) ∙ d.rest in
    (d.stored.0 ∙ ap (splice o₀ 0) q, (omega (arith, d.stored.1, ap length q), omega (arith, d.inside, d.short)))
