-- The bytes of an entry's fixed part: stored, then read; read, then stored.
use Rattle.std.specs.Prelude.{Some}
use mathlib.Core.Path.{◌≡◌, refl, sym, ap, ◌∙◌, subst}
use mathlib.Core.List.{List, [], ◌∷◌, ◌++◌, append_assoc}
use Prim.Native.Nat.{ℕ, zero, suc, ◌+◌, ◌-◌, ◌^◌, ◌≤◌, ◌<◌}
use native.Mathlib.Nat.{add-zero}
use native.Mathlib.Decide.{dec_lt}
use native.Mathlib.Omega.{arith}
use lib.ListN.{length, get_or, drop, set, length-append, length-take, length-drop}
use lib.Seq.{ext_get_or, get_or-take, get_or-drop}
use Rattle.wire.specs.Be.{be, bytes, splice}
use Rattle.wire.specs.Pick.{pick}
use Rattle.wire.proofs.Numbers.{length_bytes, length-splice, splice-append, splice_before, splice_in, splice-after, set-splice}
use Rattle.model.specs.Render.{Shows}
use Rattle.model.specs.Steps.{Bytes}
use Rattle.model.proofs.Commit.{shows_both, shows_one, shows_two}
use Rattle.model.proofs.Entries.{be_shown, bytes_shown}
use Rattle.dir_entry.specs.declared.Kind.{Kind}
use Rattle.dir_entry.specs.declared.Kind.TheVariants.{Dir, File, Device}
use Rattle.dir_entry.specs.declared.DirEntry.{DirEntry}
use Rattle.dir_entry.specs.Entry.{kind_at, kind_byte, entry_at, head_bytes, place_at, name_at, slot_at}
use Rattle.dir_entry.proofs.Slots.{slot_entry}

-- ---- kinds

pub kind_back : (k : Kind) → kind_at (kind_byte k) ≡ k
unfolding kind_at pick
kind_back Dir = refl
kind_back File = refl
kind_back Device = refl

kind_small : (k : Kind) → kind_byte k ≤ 2
kind_small Dir = omega arith
kind_small File = omega arith
kind_small Device = omega arith

byte_back : (b : ℕ) → b ≤ 2 → kind_byte (kind_at b) ≡ b
unfolding kind_at pick
byte_back zero h = refl
byte_back (suc zero) h = refl
byte_back (suc (suc zero)) h = refl
byte_back (suc (suc (suc b))) h = absurd (omega arith)

-- ---- a store, as code makes it

-- a splice after a splice that ends where it begins
pub splice-then : (I J : List ℕ) (at p : ℕ) (xs ys : List ℕ) → J ≡ splice I at xs → p ≡ at + length xs → at + (length xs + length ys) ≤ length I
    → splice J p ys ≡ splice I at (xs ++ ys)
splice-then I J at p xs ys e f h = rw (e, f) (splice-append xs ys I at h)

pub length_head : (e : DirEntry) → length (head_bytes e) ≡ 18
unfolding head_bytes
length_head e =
    let a : List ℕ = bytes 4 e.addr.0 in
    let s : List ℕ = bytes 4 e.size in
    let t : List ℕ = bytes 8 e.time in
    rw (length-append (kind_byte e.kind ∷ (a ++ s)) (t ++ (e.len ∷ [])), length-append t (e.len ∷ []))
    (omega (arith, length-append a s, length_bytes 4 e.addr.0, length_bytes 4 e.size, length_bytes 8 e.time))

pub head_stored : (I J₁ J₂ J₃ J₄ : List ℕ) (at k : ℕ) (e : DirEntry) → at + 18 ≤ length I → k ≡ kind_byte e.kind
    → J₁ ≡ set I at k → J₂ ≡ splice J₁ (at + 1) (bytes 4 e.addr.0) → J₃ ≡ splice J₂ (at + 5) (bytes 4 e.size)
    → J₄ ≡ splice J₃ (at + 9) (bytes 8 e.time) → set J₄ (at + 17) e.len ≡ splice I at (head_bytes e)
unfolding head_bytes
head_stored I J₁ J₂ J₃ J₄ at k e h q e₁ e₂ e₃ e₄ =
    let K : List ℕ = kind_byte e.kind ∷ [] in
    let A : List ℕ = bytes 4 e.addr.0 in
    let S : List ℕ = bytes 4 e.size in
    let T : List ℕ = bytes 8 e.time in
    let L : List ℕ = e.len ∷ [] in
    let la : length A ≡ 4 = length_bytes 4 e.addr.0 in
    let ls : length S ≡ 4 = length_bytes 4 e.size in
    let lt : length T ≡ 8 = length_bytes 8 e.time in
    let las : length (A ++ S) ≡ 8 = length-append A S ∙ omega arith in
    let lw : length ((K ++ (A ++ S)) ++ T) ≡ 17 = length-append (K ++ (A ++ S)) T ∙ omega arith in
    let a₁ : J₁ ≡ splice I at K = e₁ ∙ ap (set I at) q ∙ set-splice I at (kind_byte e.kind) (omega arith) in
    let a₂ : J₂ ≡ splice I at (K ++ A) = e₂ ∙ splice-then I J₁ at (at + 1) K A a₁ refl (omega arith) in
    let a₃ : J₃ ≡ splice I at (K ++ (A ++ S)) = e₃ ∙ splice-then I J₂ at (at + 5) (K ++ A) S a₂ (omega arith) (omega arith) in
    let a₄ : J₄ ≡ splice I at ((K ++ (A ++ S)) ++ T) = e₄ ∙ splice-then I J₃ at (at + 9) (K ++ (A ++ S)) T a₃ (omega arith) (omega arith) in
    let l₄ : length J₄ ≡ length I = ap length a₄ ∙ length-splice I at ((K ++ (A ++ S)) ++ T) (omega arith) in
    set-splice J₄ (at + 17) e.len (omega arith)
    ∙ splice-then I J₄ at (at + 17) ((K ++ (A ++ S)) ++ T) L a₄ (omega arith) (omega arith)
    ∙ ap (splice I at) (append_assoc (K ++ (A ++ S)) T L)

-- ---- stored, then read

-- The fixed part of which the image shows the bytes is the one that is read there.
entry_shown : (I : List ℕ) (at : ℕ) (e : DirEntry) → e.addr.0 < 2 ^ 32 → e.size < 2 ^ 32 → e.time < 2 ^ 64 → Shows I at (head_bytes e) → entry_at I at ≡ e
unfolding entry_at head_bytes
entry_shown I at e ha hs ht s =
    let K : List ℕ = kind_byte e.kind ∷ [] in
    let A : List ℕ = bytes 4 e.addr.0 in
    let S : List ℕ = bytes 4 e.size in
    let T : List ℕ = bytes 8 e.time in
    let L : List ℕ = e.len ∷ [] in
    let la : length A ≡ 4 = length_bytes 4 e.addr.0 in
    let ls : length S ≡ 4 = length_bytes 4 e.size in
    let lt : length T ≡ 8 = length_bytes 8 e.time in
    let las : length (A ++ S) ≡ 8 = length-append A S ∙ omega arith in
    let move : (p q : ℕ) (l : List ℕ) → p ≡ q → Shows I p l → Shows I q l = λ p q l r x. subst (λ (j : ℕ). Shows I j l) r x in
    let s₁ : Shows I at (K ++ (A ++ S)) = shows_one I at (K ++ (A ++ S)) (T ++ L) s in
    let s₂ : Shows I (at + 1) (A ++ S) = shows_two I at K (A ++ S) s₁ in
    let s₃ : Shows I (at + 5) S = move (at + 1 + length A) (at + 5) S (omega arith) (shows_two I (at + 1) A S s₂) in
    let s₄ : Shows I (at + 9) (T ++ L) = move (at + length (K ++ (A ++ S))) (at + 9) (T ++ L) (omega arith) (shows_two I at (K ++ (A ++ S)) (T ++ L) s) in
    let s₅ : Shows I (at + 17) L = move (at + 9 + length T) (at + 17) L (omega arith) (shows_two I (at + 9) T L s₄) in
    let k : get_or I at 0 ≡ kind_byte e.kind = ap (λ (j : ℕ). get_or I j 0) (sym (add-zero at)) ∙ s₁ 0 (omega arith) in
    let n : get_or I (at + 17) 0 ≡ e.len = ap (λ (j : ℕ). get_or I j 0) (sym (add-zero (at + 17))) ∙ s₅ 0 (omega arith) in
    let ek : kind_at (get_or I at 0) ≡ e.kind = ap kind_at k ∙ kind_back e.kind in
    let ea : be 4 I (at + 1) ≡ e.addr.0 = be_shown I (at + 1) 4 e.addr.0 ha (shows_one I (at + 1) A S s₂) in
    let es : be 4 I (at + 5) ≡ e.size = be_shown I (at + 5) 4 e.size hs s₃ in
    let et : be 8 I (at + 9) ≡ e.time = be_shown I (at + 9) 8 e.time ht (shows_one I (at + 9) T L s₄) in
    λ i. record { kind = ek i; addr = record { 0 = ea i }; size = es i; time = et i; len = n i }

head_first : (I : List ℕ) (at : ℕ) (e : DirEntry) → Shows I at (head_bytes e) → get_or I at 0 ≡ kind_byte e.kind
unfolding head_bytes
head_first I at e s = ap (λ (j : ℕ). get_or I j 0) (sym (add-zero at)) ∙ s 0 (omega arith)

-- Where the image shows it at a place of block a with room for its name, it is the entry of that place.
pub slot_shown : (B : ℕ) (I : List ℕ) (a o : ℕ) (e : DirEntry) → e.addr.0 < 2 ^ 32 → e.size < 2 ^ 32 → e.time < 2 ^ 64 → 1 ≤ e.len → o + 18 + e.len ≤ B - 5
    → Shows I (place_at B a o) (head_bytes e) → slot_at B I a o ≡ Some e
unfolding entry_at
slot_shown B I a o e ha hs ht n l s =
    let q : entry_at I (place_at B a o) ≡ e = entry_shown I (place_at B a o) e ha hs ht s in
    let m : get_or I (place_at B a o + 17) 0 ≡ e.len = ap (λ (x : DirEntry). x.len) q in
    let k : get_or I (place_at B a o) 0 ≡ kind_byte e.kind = head_first I (place_at B a o) e s in
    slot_entry B I a o (omega arith) (omega (arith, kind_small e.kind)) (omega arith) (omega arith) ∙ ap Some q

-- The name that the image shows there is the name that is read.
pub name_shown : (I : List ℕ) (at : ℕ) (x : List ℕ) → at + 18 + length x ≤ length I → Shows I (at + 18) x → name_at I at (length x) ≡ x
name_shown I at x h s =
    ext_get_or 0 (name_at I at (length x)) x (simp (length-take, length-drop) (omega arith))
    (λ i q.
    let m : i < length x = omega (arith, simp length-take at q) in
    rw (get_or-take (length x) (drop (at + 18) I) i 0 m, get_or-drop (at + 18) I i 0) (s i m))

-- ---- read, then stored

-- Where the kind byte is at most 2, the image shows the bytes of the fixed part that is read,
pub head_shown : (I : List ℕ) (at : ℕ) → Bytes I → get_or I at 0 ≤ 2 → Shows I at (head_bytes (entry_at I at))
unfolding entry_at head_bytes
head_shown I at b h =
    let K : List ℕ = kind_byte (kind_at (get_or I at 0)) ∷ [] in
    let A : List ℕ = bytes 4 (be 4 I (at + 1)) in
    let S : List ℕ = bytes 4 (be 4 I (at + 5)) in
    let T : List ℕ = bytes 8 (be 8 I (at + 9)) in
    let L : List ℕ = get_or I (at + 17) 0 ∷ [] in
    let la : length A ≡ 4 = length_bytes 4 (be 4 I (at + 1)) in
    let ls : length S ≡ 4 = length_bytes 4 (be 4 I (at + 5)) in
    let lt : length T ≡ 8 = length_bytes 8 (be 8 I (at + 9)) in
    let las : length (A ++ S) ≡ 8 = length-append A S ∙ omega arith in
    let move : (p q : ℕ) (l : List ℕ) → p ≡ q → Shows I p l → Shows I q l = λ p q l r x. subst (λ (j : ℕ). Shows I j l) r x in
    let one : (p v : ℕ) → get_or I p 0 ≡ v → Shows I p (v ∷ []) = λ p v e i q. let z : i ≡ 0 = omega arith in rw (z, add-zero) e in
    let s₁ : Shows I (at + 1) (A ++ S) = shows_both I (at + 1) A S (bytes_shown 4 I (at + 1) b) (move (at + 5) (at + 1 + length A) S (omega arith) (bytes_shown 4 I (at + 5) b)) in
    let s₂ : Shows I at (K ++ (A ++ S)) = shows_both I at K (A ++ S) (one at (kind_byte (kind_at (get_or I at 0))) (sym (byte_back (get_or I at 0) h))) s₁ in
    let s₃ : Shows I (at + 9) (T ++ L) = shows_both I (at + 9) T L (bytes_shown 8 I (at + 9) b) (move (at + 17) (at + 9 + length T) L (omega arith) (one (at + 17) (get_or I (at + 17) 0) refl)) in
    shows_both I at (K ++ (A ++ S)) (T ++ L) s₂ (move (at + 9) (at + length (K ++ (A ++ S))) (T ++ L) (omega arith) s₃)

-- what is stored where it is shown changes nothing
splice_shown : (I : List ℕ) (at : ℕ) (l : List ℕ) → at + length l ≤ length I → Shows I at l → splice I at l ≡ I
splice_shown I at l h s = ext_get_or 0 (splice I at l) I (length-splice I at l h) (λ j _. go j (dec_lt j at) (dec_lt j (at + length l)))
  where
    go : (j : ℕ) → Dec (j < at) → Dec (j < at + length l) → get_or (splice I at l) j 0 ≡ get_or I j 0
    go j (yes p) q = splice_before I at l h j p
    go j (no p) (yes q) =
        let e : at + (j - at) ≡ j = omega arith in
        let m : j - at < length l = omega arith in
        ap (λ (x : ℕ). get_or (splice I at l) x 0) (sym e) ∙ splice_in I at l h (j - at) m ∙ sym (s (j - at) m) ∙ ap (λ (x : ℕ). get_or I x 0) e
    go j (no p) (no q) = splice-after I at l h j (omega arith)
