-- The record of an entry as code stores it; a buffer that is filled from its start; a walk without its first entries.
use mathlib.Core.Path.{◌≡◌, refl, sym, ap, ◌∙◌}
use mathlib.Core.List.{List, [], ◌∷◌, ◌++◌, append_assoc}
use Prim.Native.Nat.{ℕ, zero, suc, ◌+◌, ◌-◌, ◌≤◌, ◌<◌}
use native.Mathlib.Nat.{zero-add}
use native.Mathlib.Omega.{arith}
use lib.ListN.{length, take, drop, set, take-append-drop, length-append}
use Rattle.std.proofs.Math.Seq.{take-length}
use lib.Seq.{length-take-le, take_at, drop_at, drop-drop}
use Rattle.wire.specs.Be.{bytes, splice}
use Rattle.wire.proofs.Numbers.{length_bytes, length-splice, set-splice}
use Rattle.dir_entry.specs.declared.DirEntry.{DirEntry}
use Rattle.dir_entry.specs.Entry.{kind_byte, name_at}
use Rattle.dir_entry.proofs.Heads.{splice-then}
use Rattle.read_dir.specs.Walk.{Walk, item, finished, damaged}
use Rattle.read_dir.specs.Finds.{record_of, skip}
use Rattle.read_dir.proofs.Names.{length_name}

-- ---- one record

pub length_record : (e : DirEntry) (x : List ℕ) → length (record_of e x) ≡ 14 + length x
unfolding record_of
length_record e x =
    let s : List ℕ = bytes 4 e.size in
    let t : List ℕ = bytes 8 e.time in
    rw (length-append (kind_byte e.kind ∷ (s ++ t)) (e.len ∷ x)) (omega (arith, length-append s t, length_bytes 4 e.size, length_bytes 8 e.time))

-- code stores kind, size, time and length one after the other, then the name x
record_stored : (b b₁ b₂ b₃ b₄ : List ℕ) (at k : ℕ) (e : DirEntry) (x : List ℕ) → at + (14 + e.len) ≤ length b → k ≡ kind_byte e.kind → length x ≡ e.len
    → b₁ ≡ set b at k → b₂ ≡ splice b₁ (at + 1) (bytes 4 e.size) → b₃ ≡ splice b₂ (at + 5) (bytes 8 e.time) → b₄ ≡ splice (set b₃ (at + 13) e.len) (at + 14) x
    → b₄ ≡ splice b at (record_of e x)
unfolding record_of
record_stored b b₁ b₂ b₃ b₄ at k e x h q n e₁ e₂ e₃ e₄ =
    let K : List ℕ = kind_byte e.kind ∷ [] in
    let S : List ℕ = bytes 4 e.size in
    let T : List ℕ = bytes 8 e.time in
    let L : List ℕ = e.len ∷ [] in
    let ls : length S ≡ 4 = length_bytes 4 e.size in
    let lt : length T ≡ 8 = length_bytes 8 e.time in
    let lst : length (S ++ T) ≡ 12 = length-append S T ∙ omega arith in
    let lw : length ((K ++ (S ++ T)) ++ L) ≡ 14 = length-append (K ++ (S ++ T)) L ∙ omega arith in
    let a₁ : b₁ ≡ splice b at K = e₁ ∙ ap (set b at) q ∙ set-splice b at (kind_byte e.kind) (omega arith) in
    let a₂ : b₂ ≡ splice b at (K ++ S) = e₂ ∙ splice-then b b₁ at (at + 1) K S a₁ refl (omega arith) in
    let a₃ : b₃ ≡ splice b at (K ++ (S ++ T)) = e₃ ∙ splice-then b b₂ at (at + 5) (K ++ S) T a₂ (omega arith) (omega arith) in
    let l₃ : length b₃ ≡ length b = ap length a₃ ∙ length-splice b at (K ++ (S ++ T)) (omega arith) in
    let a₄ : set b₃ (at + 13) e.len ≡ splice b at ((K ++ (S ++ T)) ++ L)
    = set-splice b₃ (at + 13) e.len (omega arith) ∙ splice-then b b₃ at (at + 13) (K ++ (S ++ T)) L a₃ (omega arith) (omega arith) in
    e₄ ∙ splice-then b (set b₃ (at + 13) e.len) at (at + 14) ((K ++ (S ++ T)) ++ L) x a₄ (omega arith) (omega arith)
    ∙ ap (splice b at) (append_assoc (K ++ (S ++ T)) L x)

-- the name x is copied whole; its entry begins at byte q of the image
pub record_copied : (I b b₁ b₂ b₃ b₄ x : List ℕ) (at k q : ℕ) (e : DirEntry) → at + (14 + e.len) ≤ length b → q + 18 + e.len ≤ length I → x ≡ name_at I q e.len
    → k ≡ kind_byte e.kind → b₁ ≡ set b at k → b₂ ≡ splice b₁ (at + 1) (bytes 4 e.size) → b₃ ≡ splice b₂ (at + 5) (bytes 8 e.time)
    → b₄ ≡ splice (set b₃ (at + 13) e.len) (at + 14) (take (length x) (drop 0 x)) → b₄ ≡ splice b at (record_of e (name_at I q e.len))
record_copied I b b₁ b₂ b₃ b₄ x at k q e h l f g e₁ e₂ e₃ e₄ =
    record_stored b b₁ b₂ b₃ b₄ at k e (name_at I q e.len) h g (length_name I q e.len l) e₁ e₂ e₃
    (e₄ ∙ ap (splice (set b₃ (at + 13) e.len) (at + 14)) (take-length x ∙ f))

-- ---- a buffer that is filled from its start

-- with r stored after the first k bytes
module _ (b : List ℕ) (k : ℕ) (r : List ℕ) (j : ℕ) (l : length r ≡ j) (h : k + j ≤ length b) where
  front : length (take k b ++ r) ≡ k + j
  front = length-append (take k b) r ∙ omega (arith, length-take-le k b (omega arith))

  pub take_stored : take (k + j) (splice b k r) ≡ take k b ++ r
  unfolding splice
  take_stored = ap (take (k + j)) (sym (append_assoc (take k b) r (drop (k + length r) b))) ∙ take_at (take k b ++ r) (drop (k + length r) b) (k + j) front

  pub drop_stored : drop (k + j) (splice b k r) ≡ drop (k + j) b
  unfolding splice
  drop_stored =
      ap (drop (k + j)) (sym (append_assoc (take k b) r (drop (k + length r) b))) ∙ drop_at (take k b ++ r) (drop (k + length r) b) (k + j) front
      ∙ ap (λ (y : ℕ). drop (k + y) b) l

-- what lies beyond a later place is the same where it was beyond an earlier one
pub drop_later : (b b₀ : List ℕ) (k j : ℕ) → drop k b ≡ drop k b₀ → drop (k + j) b ≡ drop (k + j) b₀
drop_later b b₀ k j e = sym (drop-drop j k b) ∙ ap (drop j) e ∙ drop-drop j k b₀

pub all_stored : (b b₀ : List ℕ) (k : ℕ) → k ≤ length b → drop k b ≡ drop k b₀ → b ≡ splice b₀ 0 (take k b)
unfolding splice
all_stored b b₀ k h e =
    let l : length (take k b) ≡ k = length-take-le k b h in
    sym (take-append-drop k b) ∙ ap (λ (y : List ℕ). take k b ++ y) e ∙ ap (λ (y : ℕ). take k b ++ drop y b₀) (sym (zero-add (length (take k b)) ∙ l))

-- ---- without the first entries

pub skip_item : (i : ℕ) (e : DirEntry) (a o : ℕ) (x : List ℕ) (w : Walk) → 0 < i → skip i (item e a o x w) ≡ skip (i - 1) w
unfolding skip
skip_item zero e a o x w h = absurd (omega arith)
skip_item (suc i) e a o x w h =
    let q : i ≡ suc i - 1 = omega arith in
    ap (λ (j : ℕ). skip j w) q

pub skip-none : (i : ℕ) (w : Walk) → i ≡ 0 → skip i w ≡ w
unfolding skip
skip-none i w z = rw z

pub skip_finished : (i : ℕ) → skip i finished ≡ finished
unfolding skip
skip_finished zero = refl
skip_finished (suc i) = refl

pub skip_damaged : (i : ℕ) → skip i damaged ≡ damaged
unfolding skip
skip_damaged zero = refl
skip_damaged (suc i) = refl
