-- Bytes laid into blocks, and bytes stored over them: lists alone.
use mathlib.Core.Path.{◌≡◌, refl, sym, ap, ◌∙◌}
use mathlib.Core.List.{List, [], ◌∷◌, ◌++◌, append_assoc, append-nil}
use Prim.Native.Nat.{ℕ, suc, ◌+◌, ◌-◌, ◌*◌, ◌≤◌, ◌<◌}
use native.Mathlib.Nat.{mul-zero, mul-suc}
use native.Mathlib.Decide.{dec_lt}
use native.Mathlib.Omega.{arith}
use lib.ListN.{length, take, drop, length-append, length-take, length-drop, take-append-drop, drop_of_length-le}
use lib.Seq.{length-take-le, take_all, take_at, drop_at, take-append-le, drop-append-le, drop-append-add, take-add}
use Rattle.wire.specs.Be.{splice}
use Rattle.wire.proofs.Numbers.{length-splice, splice-nil, splice-past}
use Rattle.model.specs.Tree.{Cell}
use Rattle.model.specs.Render.{cells_at}
use Rattle.model.specs.Volume.{All}
use Rattle.model.specs.Calls.{places, stream, chop}

-- ---- a store over two lists side by side

-- it ends in the first
splice-one : (A S : List ℕ) (o : ℕ) (vs : List ℕ) → o + length vs ≤ length A → splice (A ++ S) o vs ≡ splice A o vs ++ S
unfolding splice
splice-one A S o vs h =
    (λ i. take-append-le o A S (let q : o ≤ length A = omega arith in q) i ++ (vs ++ drop-append-le (o + length vs) A S h i))
    ∙ ap (λ (l : List ℕ). take o A ++ l) (sym (append_assoc vs (drop (o + length vs) A) S))
    ∙ sym (append_assoc (take o A) (vs ++ drop (o + length vs) A) S)

-- it goes from the first into the second
splice-over : (A S : List ℕ) (o : ℕ) (us vs : List ℕ) → o + length us ≡ length A → splice (A ++ S) o (us ++ vs) ≡ splice A o us ++ splice S 0 vs
unfolding splice
splice-over A S o us vs h =
    let l : length (us ++ vs) ≡ length us + length vs = length-append us vs in
    let e : o + length (us ++ vs) ≡ length A + (0 + length vs) = omega arith in
    let z : drop (o + length us) A ≡ [] = drop_of_length-le A (let q : length A ≤ o + length us = omega arith in q) in
    (λ i. take-append-le o A S (let q : o ≤ length A = omega arith in q) i ++ ((us ++ vs) ++ drop (e i) (A ++ S)))
    ∙ ap (λ (x : List ℕ). take o A ++ ((us ++ vs) ++ x)) (drop-append-add A S (0 + length vs))
    ∙ ap (λ (x : List ℕ). take o A ++ x) (append_assoc us vs (drop (0 + length vs) S))
    ∙ sym (append_assoc (take o A) us (vs ++ drop (0 + length vs) S))
    ∙ ap (λ (x : List ℕ). (take o A ++ x) ++ (vs ++ drop (0 + length vs) S)) (sym (append-nil us) ∙ ap (λ (x : List ℕ). us ++ x) (sym z))

-- either way: what has room goes into the first
splice_both : (w : ℕ) (A S : List ℕ) (o : ℕ) (vs : List ℕ) → length A ≡ w → o ≤ w → splice (A ++ S) o vs ≡ splice A o (take (w - o) vs) ++ splice S 0 (drop (w - o) vs)
splice_both w A S o vs a h = go (dec_lt (length vs) (w - o))
  where
    go : Dec (length vs < w - o) → splice (A ++ S) o vs ≡ splice A o (take (w - o) vs) ++ splice S 0 (drop (w - o) vs)
    go (yes l) =
        splice-one A S o vs (omega arith)
        ∙ ap (λ (x : List ℕ). splice A o x ++ S) (sym (take_all (w - o) vs (let q : length vs ≤ w - o = omega arith in q)))
        ∙ ap (λ (x : List ℕ). splice A o (take (w - o) vs) ++ x) (sym (ap (splice S 0) (drop_of_length-le vs (let q : length vs ≤ w - o = omega arith in q)) ∙ splice-nil S 0))
    go (no l) =
        ap (splice (A ++ S) o) (sym (take-append-drop (w - o) vs))
        ∙ splice-over A S o (take (w - o) vs) (drop (w - o) vs) (omega (arith, length-take-le (w - o) vs (omega arith)))

-- ---- bytes laid into blocks

-- the first block's bytes, then the others'
chop-cons : (w a : ℕ) (xs X Y : List ℕ) → length X ≡ w → chop w (a ∷ xs) (X ++ Y) ≡ record { at = a; body = X } ∷ chop w xs Y
unfolding chop
chop-cons w a xs X Y h = λ i. record { at = a; body = take_at X Y w h i } ∷ chop w xs (drop_at X Y w h i)

-- the blocks' own bytes give the blocks
pub chop_same : (w : ℕ) (cs : List Cell) → All (λ c. length c.body ≡ w) cs → chop w (places cs) (stream cs) ≡ cs
unfolding places stream
chop_same w [] g = unfold chop in refl
chop_same w (c ∷ cs) g = chop-cons w c.at (places cs) c.body (stream cs) g.0 ∙ ap (λ (l : List Cell). c ∷ l) (chop_same w cs g.1)

-- they begin where the addresses do
pub chop_starts : (w : ℕ) (cs : List Cell) (l : List ℕ) → cells_at (chop w (places cs) l) ≡ cells_at cs
unfolding chop places cells_at
chop_starts w [] l = refl
chop_starts w (c ∷ cs) l = refl

-- only as many bytes count as there is room for
chop-take : (w : ℕ) (xs l : List ℕ) → w * length xs ≤ length l → chop w xs (take (w * length xs) l) ≡ chop w xs l
unfolding chop
chop-take w [] l h = refl
chop-take w (a ∷ xs) l h =
    let e : w * suc (length xs) ≡ w + w * length xs = omega (arith, mul-suc w (length xs)) in
    let p : take (w * suc (length xs)) l ≡ take w l ++ take (w * length xs) (drop w l) = ap (λ (n : ℕ). take n l) e ∙ take-add w (w * length xs) l in
    let q : length (take w l) ≡ w = length-take-le w l (omega arith) in
    ap (chop w (a ∷ xs)) p ∙ chop-cons w a xs (take w l) (take (w * length xs) (drop w l)) q
    ∙ ap (λ (z : List Cell). let c : Cell = record { at = a; body = take w l } in c ∷ z) (chop-take w xs (drop w l) (omega (arith, length-drop w l)))

-- and a store within them may be made before or after
pub chop-splice : (w : ℕ) (xs l : List ℕ) (c : ℕ) (vs : List ℕ) → w * length xs ≤ length l → c + length vs ≤ w * length xs
    → chop w xs (splice (take (w * length xs) l) c vs) ≡ chop w xs (splice l c vs)
chop-splice w xs l c vs h k =
    let n : ℕ = w * length xs in
    let f : length (take n l) ≡ n = length-take-le n l h in
    let g : length (splice (take n l) c vs) ≡ n = length-splice (take n l) c vs (omega arith) ∙ f in
    let s : splice l c vs ≡ splice (take n l) c vs ++ drop n l
    = ap (λ (z : List ℕ). splice z c vs) (sym (take-append-drop n l)) ∙ splice-one (take n l) (drop n l) c vs (omega arith) in
    sym (ap (chop w xs) (take_at (splice (take n l) c vs) (drop n l) n g))
    ∙ ap (λ (z : List ℕ). chop w xs (take n z)) (sym s)
    ∙ chop-take w xs (splice l c vs) (omega (arith, ap length s, length-append (splice (take n l) c vs) (drop n l)))

-- blocks before the store stay
pub chop-past : (w : ℕ) (xs ys : List Cell) (o : ℕ) (vs : List ℕ) → All (λ c. length c.body ≡ w) xs
    → chop w (places (xs ++ ys)) (splice (stream (xs ++ ys)) (w * length xs + o) vs) ≡ xs ++ chop w (places ys) (splice (stream ys) o vs)
unfolding places stream
chop-past w [] ys o vs g = ap (λ (n : ℕ). chop w (places ys) (splice (stream ys) n vs)) (let e : w * 0 + o ≡ o = omega (arith, mul-zero w) in e)
chop-past w (x ∷ xs) ys o vs g =
    let e : w * suc (length xs) + o ≡ length x.body + (w * length xs + o) = omega (arith, mul-suc w (length xs), g.0) in
    ap (λ (n : ℕ). chop w (x.at ∷ places (xs ++ ys)) (splice (x.body ++ stream (xs ++ ys)) n vs)) e
    ∙ ap (chop w (x.at ∷ places (xs ++ ys))) (splice-past x.body (stream (xs ++ ys)) (w * length xs + o) vs)
    ∙ chop-cons w x.at (places (xs ++ ys)) x.body (splice (stream (xs ++ ys)) (w * length xs + o) vs) g.0
    ∙ ap (λ (z : List Cell). x ∷ z) (chop-past w xs ys o vs g.1)

-- a store that begins in the first block: its part there, and the rest
pub chop_first : (w : ℕ) (c : Cell) (cs : List Cell) (o : ℕ) (vs : List ℕ) → length c.body ≡ w → o ≤ w
    → chop w (places (c ∷ cs)) (splice (stream (c ∷ cs)) o vs)
    ≡ record { at = c.at; body = splice c.body o (take (w - o) vs) } ∷ chop w (places cs) (splice (stream cs) 0 (drop (w - o) vs))
unfolding places stream
chop_first w c cs o vs g h =
    ap (chop w (c.at ∷ places cs)) (splice_both w c.body (stream cs) o vs g h)
    ∙ chop-cons w c.at (places cs) (splice c.body o (take (w - o) vs)) (splice (stream cs) 0 (drop (w - o) vs))
    (length-splice c.body o (take (w - o) vs) (omega (arith, length-take (w - o) vs)) ∙ g)
