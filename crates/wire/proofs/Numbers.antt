-- The laws of `splice`, `be` and `bytes`, over the width. Callers cite these and unfold none of the three.
use mathlib.Core.Path.{◌≡◌, refl, sym, ap, ◌∙◌}
use mathlib.Core.List.{List, [], ◌∷◌, ◌++◌, append_assoc, append-nil}
use Prim.Native.Nat.{ℕ, zero, suc, ◌+◌, ◌-◌, ◌*◌, ◌/◌, ◌%◌, ◌^◌, ◌≤◌, ◌<◌}
use native.Mathlib.Nat.{add-zero, zero-add, add-suc, suc-add, add_assoc, pow-zero, pow-suc, pow-succ', div-one, div-lt_iff_lt-mul, div-div-eq-div-mul}
use native.Mathlib.Decide.{dec_lt}
use native.Mathlib.Omega.{arith}
use native.Mathlib.Numerals.{add-one}
use lib.Dec.{lit<}
use lib.ListN.{length, get_or, take, drop, set, take-append-drop, length-append, length-take, length-drop, get_or-append, get_or-eq_default, length-replicate, get_or-replicate}
use borrow.Rule.Slice.PartMut.{put_mid}
use Rattle.std.proofs.lemmas.Slice.{put_mid-paste}
use Rattle.std.proofs.lemmas.List.Edits.{paste_all}
use lib.Seq.{paste, sets, sets-eq, length-take-le, get_or-set_same, get_or-set_other, get_or-take, get_or-drop, get_or-append-add, get_or_at, ext_get_or, take-append-add, drop-append-add}
use Rattle.wire.specs.Be.{be, bytes, splice, zeros}

-- ---- zeros

-- zeros are zero at every place, and past their end
pub get_or-zeros : (k i : ℕ) → ◌≡◌ {A = ℕ} (get_or (zeros k) i 0) 0
get_or-zeros k i = go (dec_lt i k)
  where
    go : Dec (i < k) → ◌≡◌ {A = ℕ} (get_or (zeros k) i 0) 0
    go (yes h) = get_or-replicate k i 0 0 h
    go (no h) = get_or-eq_default (zeros k) 0 (rw length-replicate (omega arith))

pub drop-zeros : (k m : ℕ) → drop k (zeros m) ≡ zeros (m - k)
drop-zeros zero m = let e : m ≡ m - 0 = omega arith in ap zeros e
drop-zeros (suc k) zero = let e : ◌≡◌ {A = ℕ} 0 (0 - suc k) = omega arith in ap zeros e
drop-zeros (suc k) (suc m) = let e : m - k ≡ suc m - suc k = omega arith in drop-zeros k m ∙ ap zeros e

-- ---- splice

module _ (l : List ℕ) (at : ℕ) (vs : List ℕ) (h : at + length vs ≤ length l) where
  pub length-splice : length (splice l at vs) ≡ length l
  unfolding splice
  length-splice = simp (length-append, length-take, length-drop) (omega arith)

  pub splice_before : (j : ℕ) → j < at → get_or (splice l at vs) j 0 ≡ get_or l j 0
  unfolding splice
  splice_before j p =
      let e : length (take at l) ≡ at = length-take-le at l (omega arith) in
      get_or-append (take at l) (vs ++ drop (at + length vs) l) 0 j (omega arith) ∙ get_or-take at l j 0 p

  pub splice_in : (i : ℕ) → i < length vs → get_or (splice l at vs) (at + i) 0 ≡ get_or vs i 0
  unfolding splice
  splice_in i p =
      let e : length (take at l) ≡ at = length-take-le at l (omega arith) in
      ap (λ (k : ℕ). get_or (take at l ++ (vs ++ drop (at + length vs) l)) (k + i) 0) (sym e)
      ∙ get_or-append-add (take at l) (vs ++ drop (at + length vs) l) i 0
      ∙ get_or-append vs (drop (at + length vs) l) 0 i p

  pub splice-after : (j : ℕ) → at + length vs ≤ j → get_or (splice l at vs) j 0 ≡ get_or l j 0
  unfolding splice
  splice-after j p =
      let e : length (take at l) ≡ at = length-take-le at l (omega arith) in
      let q : j ≡ length (take at l) + (length vs + (j - (at + length vs))) = omega arith in
      let r : at + length vs + (j - (at + length vs)) ≡ j = omega arith in
      ap (λ (k : ℕ). get_or (take at l ++ (vs ++ drop (at + length vs) l)) k 0) q
      ∙ get_or-append-add (take at l) (vs ++ drop (at + length vs) l) (length vs + (j - (at + length vs))) 0
      ∙ get_or-append-add vs (drop (at + length vs) l) (j - (at + length vs)) 0
      ∙ get_or-drop (at + length vs) l (j - (at + length vs)) 0
      ∙ ap (λ (k : ℕ). get_or l k 0) r

-- a store over a part of a slice
pub splice_part : (l : List ℕ) (at n : ℕ) (vs : List ℕ) → length vs ≡ n → put_mid at (at + n - at) l vs ≡ splice l at vs
unfolding splice
splice_part l at n vs h =
    let e : length vs ≡ at + n - at = omega arith in
    put_mid-paste at (at + n - at) l vs vs (length vs) refl e refl ∙ paste_all l at vs (length vs) refl

-- a run of n bytes at `from` copied to `at`
pub splice_run : (l m : List ℕ) (at from n : ℕ) → from + n ≤ length m → paste l at (drop from m) n ≡ splice l at (take n (drop from m))
unfolding splice
splice_run l m at from n h =
    let e : length (take n (drop from m)) ≡ n = simp (length-take, length-drop) (omega arith) in
    rw (e, append_assoc (take at l) (take n (drop from m)) (drop (at + n) l))

-- ---- be

-- it speaks of its own n bytes alone
pub be_ext : (n : ℕ) (l m : List ℕ) (at bt : ℕ) → ((i : ℕ) → i < n → get_or l (at + i) 0 ≡ get_or m (bt + i) 0) → be n l at ≡ be n m bt
unfolding be
be_ext zero l m at bt h = refl
be_ext (suc n) l m at bt h =
    let p : be n l at ≡ be n m bt = be_ext n l m at bt (λ i q. h i (omega arith)) in
    let q : get_or l (at + n) 0 ≡ get_or m (bt + n) 0 = h n (omega arith) in
    omega arith

pub be-none : (l : List ℕ) (at : ℕ) → be 0 l at ≡ 0
unfolding be
be-none l at = refl

pub be-more : (n : ℕ) (l : List ℕ) (at : ℕ) → be (n + 1) l at ≡ be n l at * 256 + get_or l (at + n) 0
unfolding be
be-more n l at = rw add-one

-- a number of two parts side by side
be-add : (m n : ℕ) (l : List ℕ) (at : ℕ) → be (m + n) l at ≡ be m l at * 256 ^ n + be n l (at + m)
unfolding be
be-add m zero l at = rw (add-zero, pow-zero) (omega arith)
be-add m (suc n) l at =
    let e : at + (m + n) ≡ at + m + n = omega arith in
    rw (add-suc, pow-suc, be-add m n l at, e) (omega arith)

-- eight bytes of two halves
pub be_halves : (l : List ℕ) (at n a b : ℕ) → n ≡ 8 → (a ≡ be 4 l at) × (a < 256 ^ 4) → (b ≡ be 4 l (at + 4)) × (b < 256 ^ 4)
    → (a * 4294967296 + b ≡ be n l at) × (a * 4294967296 + b < 256 ^ n)
be_halves l at n a b e p q = rw e (omega (arith, be-add 4 4 l at), omega arith)

-- ---- bytes

pub length_bytes : (n v : ℕ) → length (bytes n v) ≡ n
unfolding bytes
length_bytes zero v = refl
length_bytes (suc n) v = rw length-append (omega (arith, length_bytes n (v / 256)))

bytes_add : (m n v : ℕ) → bytes (m + n) v ≡ bytes m (v / 256 ^ n) ++ bytes n v
unfolding bytes
bytes_add m zero v = rw (add-zero, div-one, append-nil)
bytes_add m (suc n) v = rw (add-suc, pow-succ', ← div-div-eq-div-mul, bytes_add m n (v / 256), append_assoc)

-- reading what was written
pub be_bytes : (n v : ℕ) → v < 256 ^ n → be n (bytes n v) 0 ≡ v
unfolding be bytes
be_bytes zero v h = omega arith
be_bytes (suc n) v h =
    let k : length (bytes n (v / 256)) ≡ n = length_bytes n (v / 256) in
    let ih : be n (bytes n (v / 256)) 0 ≡ v / 256 = be_bytes n (v / 256) ((div-lt_iff_lt-mul (lit< tt)).1 (rw pow-suc at h)) in
    let e : be n (bytes n (v / 256) ++ (v % 256) ∷ []) 0 ≡ be n (bytes n (v / 256)) 0
    = be_ext n _ _ 0 0 (λ i q. get_or-append (bytes n (v / 256)) ((v % 256) ∷ []) 0 (0 + i) (omega arith)) in
    let t : get_or (bytes n (v / 256) ++ (v % 256) ∷ []) (0 + n) 0 ≡ v % 256
    = get_or_at (bytes n (v / 256)) (v % 256) [] 0 (0 + n) (omega arith) in
    omega arith

-- ---- what is written and what is read

module _ (l : List ℕ) (at n v : ℕ) (h : at + n ≤ length l) where
  fits : at + length (bytes n v) ≤ length l
  fits = omega (arith, length_bytes n v)

  -- the number comes back
  pub be_put_same : v < 256 ^ n → be n (splice l at (bytes n v)) at ≡ v
  be_put_same q =
      be_ext n (splice l at (bytes n v)) (bytes n v) at 0
      (λ i p. splice_in l at (bytes n v) fits i (omega (arith, length_bytes n v)) ∙ ap (λ (k : ℕ). get_or (bytes n v) k 0) (sym (zero-add i)))
      ∙ be_bytes n v q

-- a run of single stores is a splice
sets_splice : (vs l : List ℕ) (i : ℕ) → i + length vs ≤ length l → sets l i vs ≡ splice l i vs
unfolding splice
sets_splice vs l i h = sets-eq vs l i h ∙ append_assoc (take i l) vs (drop (i + length vs) l)

sets_append : (a b l : List ℕ) (i : ℕ) → sets l i (a ++ b) ≡ sets (sets l i a) (i + length a) b
sets_append [] b l i = rw add-zero
sets_append (x ∷ a) b l i = rw (add-suc, ← suc-add) (sets_append a b (set l i x) (suc i))

-- two splices side by side are one
pub splice-append : (a b l : List ℕ) (at : ℕ) → at + (length a + length b) ≤ length l
    → splice (splice l at a) (at + length a) b ≡ splice l at (a ++ b)
splice-append a b l at h =
    let fa : at + length a ≤ length l = omega arith in
    let fb : at + length a + length b ≤ length (splice l at a) = rw (length-splice l at a fa) (omega arith) in
    let fab : at + length (a ++ b) ≤ length l = rw length-append h in
    sym (sets_splice b (splice l at a) (at + length a) fb)
    ∙ ap (λ (m : List ℕ). sets m (at + length a) b) (sym (sets_splice a l at fa))
    ∙ sym (sets_append a b l at)
    ∙ sets_splice (a ++ b) l at fab

pub splice-nil : (l : List ℕ) (at : ℕ) → splice l at [] ≡ l
unfolding splice
splice-nil l at = rw add-zero (take-append-drop at l)

-- a store past the first of two lists side by side
pub splice-past : (a m : List ℕ) (k : ℕ) (x : List ℕ) → splice (a ++ m) (length a + k) x ≡ a ++ splice m k x
unfolding splice
splice-past a m k x =
    rw (take-append-add a m k, add_assoc (length a) k (length x), drop-append-add a m (k + length x), append_assoc a (take k m) (x ++ drop (k + length x) m))

-- one store is a splice
pub set-splice : (l : List ℕ) (i b : ℕ) → i < length l → set l i b ≡ splice l i (b ∷ [])
set-splice l i b h = sets_splice (b ∷ []) l i (omega arith)

-- two splices apart may change places
pub splice_comm : (l : List ℕ) (p q : ℕ) (a b : List ℕ) → p + length a ≤ q → q + length b ≤ length l
    → splice (splice l p a) q b ≡ splice (splice l q b) p a
splice_comm l p q a b h k = ext_get_or 0 (splice (splice l p a) q b) (splice (splice l q b) p a) (el ∙ sym er) (λ j _. go j (dec_lt j p) (dec_lt j (p + length a)) (dec_lt j q) (dec_lt j (q + length b)))
  where
    la : length (splice l p a) ≡ length l
    la = length-splice l p a (omega arith)

    lb : length (splice l q b) ≡ length l
    lb = length-splice l q b k

    ha : p + length a ≤ length l
    ha = omega arith

    hb : q + length b ≤ length (splice l p a)
    hb = omega (arith, la)

    hc : p + length a ≤ length (splice l q b)
    hc = omega (arith, lb)

    el : length (splice (splice l p a) q b) ≡ length l
    el = length-splice (splice l p a) q b hb ∙ la

    er : length (splice (splice l q b) p a) ≡ length l
    er = length-splice (splice l q b) p a hc ∙ lb

    go : (j : ℕ) → Dec (j < p) → Dec (j < p + length a) → Dec (j < q) → Dec (j < q + length b)
        → get_or (splice (splice l p a) q b) j 0 ≡ get_or (splice (splice l q b) p a) j 0
    go j (yes x) y z w =
        splice_before (splice l p a) q b hb j (omega arith) ∙ splice_before l p a ha j x
        ∙ sym (splice_before (splice l q b) p a hc j x ∙ splice_before l q b k j (omega arith))
    go j (no x) (yes y) z w =
        let e : p + (j - p) ≡ j = omega arith in
        splice_before (splice l p a) q b hb j (omega arith) ∙ ap (λ (m : ℕ). get_or (splice l p a) m 0) (sym e) ∙ splice_in l p a ha (j - p) (omega arith)
        ∙ sym (ap (λ (m : ℕ). get_or (splice (splice l q b) p a) m 0) (sym e) ∙ splice_in (splice l q b) p a hc (j - p) (omega arith))
    go j (no x) (no y) (yes z) w =
        splice_before (splice l p a) q b hb j z ∙ splice-after l p a ha j (omega arith)
        ∙ sym (splice-after (splice l q b) p a hc j (omega arith) ∙ splice_before l q b k j z)
    go j (no x) (no y) (no z) (yes w) =
        let e : q + (j - q) ≡ j = omega arith in
        ap (λ (m : ℕ). get_or (splice (splice l p a) q b) m 0) (sym e) ∙ splice_in (splice l p a) q b hb (j - q) (omega arith)
        ∙ sym (splice-after (splice l q b) p a hc j (omega arith) ∙ ap (λ (m : ℕ). get_or (splice l q b) m 0) (sym e) ∙ splice_in l q b k (j - q) (omega arith))
    go j (no x) (no y) (no z) (no w) =
        splice-after (splice l p a) q b hb j (omega arith) ∙ splice-after l p a ha j (omega arith)
        ∙ sym (splice-after (splice l q b) p a hc j (omega arith) ∙ splice-after l q b k j (omega arith))

-- a number stored from its low end: one byte more in front
pub put_more : (l : List ℕ) (p m v : ℕ) → p + 1 + m ≤ length l
    → set (splice l (p + 1) (bytes m v)) p (v / 256 ^ m % 256) ≡ splice l p (bytes (1 + m) v)
unfolding bytes
put_more l p m v h =
    let b : ℕ = v / 256 ^ m % 256 in
    let k : length (bytes m v) ≡ m = length_bytes m v in
    let f : p < length (splice l (p + 1) (bytes m v)) = rw (length-splice l (p + 1) (bytes m v) (omega arith)) (omega arith) in
    set-splice (splice l (p + 1) (bytes m v)) p b f
    ∙ sym (splice_comm l p (p + 1) (b ∷ []) (bytes m v) (omega arith) (omega arith))
    ∙ splice-append (b ∷ []) (bytes m v) l p (omega arith)
    ∙ ap (splice l p) (sym (bytes_add 1 m v))

-- ---- copying: one byte more is alike
pub copied_more : (l m : List ℕ) (i : ℕ) → length l ≡ length m → i < length m → ((k : ℕ) → k < i → get_or l k 0 ≡ get_or m k 0)
    → (k : ℕ) → k < i + 1 → get_or (set l i (get_or m i 0)) k 0 ≡ get_or m k 0
copied_more l m i e h f k p = go (dec_lt k i)
  where
    go : Dec (k < i) → get_or (set l i (get_or m i 0)) k 0 ≡ get_or m k 0
    go (yes q) = get_or-set_other l i k (get_or m i 0) 0 (omega arith) ∙ f k q
    go (no n) = let z : k ≡ i = omega arith in rw (z, get_or-set_same l i (get_or m i 0) 0 (omega arith)) refl
