-- A block without one of its entries: what the image shows of it after the bytes are cut out, and what else stays.
use mathlib.Core.Path.{◌≡◌, sym, ap, ◌∙◌, subst}
use mathlib.Core.List.{List, ◌++◌, append_assoc}
use Prim.Native.Nat.{ℕ, ◌+◌, ◌-◌, ◌*◌, ◌≤◌, ◌<◌}
use native.Mathlib.Decide.{dec_lt}
use native.Mathlib.Omega.{arith}
use lib.ListN.{length, get_or, take, drop, replicate, length-append, length-take, length-drop, length-replicate, get_or-append}
use lib.Seq.{get_or-append-add}
use Rattle.wire.specs.Be.{bytes, splice, zeros}
use Rattle.wire.proofs.Numbers.{length_bytes, get_or-zeros, splice-append}
use Rattle.block.specs.Block.{next, Off, Kept}
use Rattle.block.proofs.Blocks.{kept_less, splice_kept, next_kept}
use Rattle.model.specs.Render.{padded, Shows}
use Rattle.model.proofs.Commit.{shows_both, shows_one, shows_two, shows_stored, shows_before}
use Rattle.model.proofs.OneVolume.{shown_part}
use Rattle.dir_entry.specs.Entry.{place_at}
use Rattle.delete_store.specs.Delete.{after, cut_out}

-- zeros after zeros
zeros_both : (k m i : ℕ) → get_or (zeros k ++ zeros m) i 0 ≡ 0
zeros_both k m i = go (dec_lt i k)
  where
    lk : length (zeros k) ≡ k
    lk = length-replicate k 0

    go : Dec (i < k) → get_or (zeros k ++ zeros m) i 0 ≡ 0
    go (yes h) = get_or-append (zeros k) (zeros m) 0 i (omega (arith, lk)) ∙ get_or-zeros k i
    go (no h) =
        let j : ℕ = i - length (zeros k) in
        let e : i ≡ length (zeros k) + j = omega (arith, lk) in
        ap (λ (x : ℕ). get_or (zeros k ++ zeros m) x 0) e ∙ get_or-append-add (zeros k) (zeros m) j 0 ∙ get_or-zeros m j

module _ (B : ℕ) (I : List ℕ) (a o w : ℕ) (h : o + w ≤ B - 4) (large : 4 ≤ B) (inside : B * a + B ≤ length I) where
  -- what moves down
  tail : List ℕ
  tail = take (after B o w) (drop (place_at B a o + w) I)

  tail_long : length tail ≡ after B o w
  unfolding tail
  tail_long = simp (length-take, length-drop) (omega arith)

  stored : List ℕ
  stored = tail ++ zeros w

  stored_long : length stored ≡ B - 4 - o
  unfolding stored
  stored_long = length-append tail (zeros w) ∙ omega (arith, tail_long, length-replicate {A = ℕ} w 0)

  tail_is : (l : List ℕ) → length l ≡ after B o w → Shows I (place_at B a o + w) l → tail ≡ l
  unfolding tail
  tail_is l e s = ap (λ (j : ℕ). take j (drop (place_at B a o + w) I)) (sym e) ∙ shown_part I (place_at B a o + w) l (omega arith) s

  stored_is : (l m : List ℕ) → tail ≡ l ++ m → stored ≡ l ++ (m ++ zeros w)
  unfolding stored
  stored_is l m e = ap (λ (x : List ℕ). x ++ zeros w) e ∙ append_assoc l m (zeros w)

  -- the two stores are one
  cut_one : cut_out B I a o w ≡ splice I (B * a + (4 + o)) stored
  unfolding cut_out stored tail
  cut_one =
      let l : length (take (after B o w) (drop (place_at B a o + w) I)) ≡ after B o w = unfold tail in tail_long in
      let z : length (zeros w) ≡ w = length-replicate w 0 in
      let e : place_at B a o ≡ B * a + (4 + o) = omega arith in
      ap (λ (x : ℕ). splice (splice I (place_at B a o) (take (after B o w) (drop (place_at B a o + w) I))) (place_at B a o + x) (zeros w)) (sym l)
      ∙ splice-append (take (after B o w) (drop (place_at B a o + w) I)) (zeros w) I (place_at B a o) (omega arith)
      ∙ ap (λ (x : ℕ). splice I x (take (after B o w) (drop (place_at B a o + w) I) ++ zeros w)) e

  -- No byte but those of this block's data changes,
  pub cut_kept : Kept B (Off a 4 (B - 4)) I (cut_out B I a o w)
  cut_kept =
      subst (Kept B (Off a 4 (B - 4)) I) (sym cut_one)
      (kept_less (λ b p n e x y. n e (omega arith) (omega (arith, stored_long))) (splice_kept B I a (4 + o) stored (omega (arith, stored_long)) inside))

  -- so every next address stays.
  pub cut_next : (b : ℕ) → next B (cut_out B I a o w) b ≡ next B I b
  cut_next b = next_kept B (Off a 4 (B - 4)) I (cut_out B I a o w) cut_kept b large (λ p q e x y. omega arith)

  -- The block's entry E is gone, and zeros fill the end.
  pub cut_shown : (z : ℕ) (low E high : List ℕ) → length low ≡ o → length E ≡ w → length (low ++ (E ++ high)) ≤ B - 4
      → Shows I (B * a) (bytes 4 z ++ padded (B - 4) (low ++ (E ++ high))) → Shows (cut_out B I a o w) (B * a) (bytes 4 z ++ padded (B - 4) (low ++ high))
  unfolding padded
  cut_shown z low E high lo le fits s =
      let A : List ℕ = bytes 4 z ++ low in
      let m : ℕ = B - 4 - (length low + (length E + length high)) in
      let Z : List ℕ = zeros m in
      let lz : length Z ≡ m = length-replicate m 0 in
      let lb : length (bytes 4 z) ≡ 4 = length_bytes 4 z in
      let la : length A ≡ 4 + o = length-append (bytes 4 z) low ∙ omega arith in
      let lf : length low + (length E + length high) ≤ B - 4 = simp length-append at fits in
      let parts : bytes 4 z ++ ((low ++ (E ++ high)) ++ replicate (B - 4 - length (low ++ (E ++ high))) 0) ≡ A ++ (E ++ (high ++ Z))
      = rw (length-append, length-append E high) (simp append_assoc) in
      let s₁ : Shows I (B * a) (A ++ (E ++ (high ++ Z))) = subst (Shows I (B * a)) parts s in
      let s₂ : Shows I (B * a + length A + length E) (high ++ Z) = shows_two I (B * a + length A) E (high ++ Z) (shows_two I (B * a) A (E ++ (high ++ Z)) s₁) in
      let p : B * a + length A + length E ≡ place_at B a o + w = omega arith in
      let s₃ : Shows I (place_at B a o + w) (high ++ Z) = subst (λ (j : ℕ). Shows I j (high ++ Z)) p s₂ in
      let lh : length (high ++ Z) ≡ after B o w = length-append high Z ∙ omega arith in
      let is : tail ≡ high ++ Z = tail_is (high ++ Z) lh s₃ in
      let all : stored ≡ high ++ (Z ++ zeros w) = stored_is high Z is in
      let J : List ℕ = splice I (B * a + (4 + o)) stored in
      let room : B * a + (4 + o) + length stored ≤ length I = omega (arith, stored_long) in
      let j₁ : Shows J (B * a) A = shows_before I (B * a + (4 + o)) stored room (B * a) A (omega arith) (shows_one I (B * a) A (E ++ (high ++ Z)) s₁) in
      let j₂ : Shows J (B * a + (4 + o)) (high ++ (Z ++ zeros w)) = subst (Shows J (B * a + (4 + o))) all (shows_stored I (B * a + (4 + o)) stored room) in
      let n : ℕ = B - 4 - (length low + length high) in
      let j₃ : Shows J (B * a + (4 + o)) high = shows_one J (B * a + (4 + o)) high (Z ++ zeros w) j₂ in
      let j₄ : Shows J (B * a + (4 + o) + length high) (Z ++ zeros w) = shows_two J (B * a + (4 + o)) high (Z ++ zeros w) j₂ in
      let lzz : length (Z ++ zeros w) ≡ n = length-append Z (zeros w) ∙ omega (arith, length-replicate {A = ℕ} w 0) in
      let ln : length (zeros n) ≡ n = length-replicate n 0 in
      let j₅ : Shows J (B * a + (4 + o) + length high) (zeros n) = λ i q. j₄ i (omega arith) ∙ zeros_both m w i ∙ sym (get_or-zeros n i) in
      let j₆ : Shows J (B * a + (4 + o)) (high ++ zeros n) = shows_both J (B * a + (4 + o)) high (zeros n) j₃ j₅ in
      let q : B * a + (4 + o) ≡ B * a + length A = omega arith in
      let j₇ : Shows J (B * a) (A ++ (high ++ zeros n)) = shows_both J (B * a) A (high ++ zeros n) j₁ (subst (λ (j : ℕ). Shows J j (high ++ zeros n)) q j₆) in
      let new : A ++ (high ++ zeros n) ≡ bytes 4 z ++ ((low ++ high) ++ replicate (B - 4 - length (low ++ high)) 0) = rw (length-append low high) (simp append_assoc) in
      subst (λ (K : List ℕ). Shows K (B * a) (bytes 4 z ++ ((low ++ high) ++ replicate (B - 4 - length (low ++ high)) 0))) (sym cut_one) (subst (Shows J (B * a)) new j₇)
