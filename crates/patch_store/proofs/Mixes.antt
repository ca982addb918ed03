-- Blocks of a file, each old or new: what an image shows of them, and which bytes they hold.
use mathlib.Core.Path.{◌≡◌, refl, sym, ap, ◌∙◌, subst}
use mathlib.Core.Logic.{◌⊎◌, inl, inr}
use mathlib.Core.List.{List, [], ◌∷◌, ◌++◌}
use Prim.Native.Nat.{ℕ, suc, ◌+◌, ◌-◌, ◌*◌, ◌≤◌, ◌<◌}
use native.Mathlib.Decide.{dec_lt, ℕ_discrete}
use native.Mathlib.Omega.{arith}
use lib.ListN.{length, get_or, take, drop, length-append, length-drop, get_or-append}
use lib.Seq.{length-take-le, get_or-take, get_or-drop, get_or-append-add, ext_get_or}
use Rattle.wire.specs.Be.{bytes, splice}
use Rattle.wire.proofs.Numbers.{length_bytes, length-splice, splice_before, splice_in, splice-after}
use Rattle.model.specs.Tree.{Cell}
use Rattle.model.specs.Render.{cells_at, cell_pieces, count, Shows, ShowsAll}
use Rattle.model.specs.Volume.{All, GoodCell}
use Rattle.model.specs.Calls.{stream, places, chop, overlaid}
use Rattle.model.proofs.Contents.{length-stream, length-places, stream-overlaid}
use Rattle.model.proofs.Counts.{count_none, count_other}
use Rattle.write_store.proofs.Chops.{chop_same}
use Rattle.patch_store.specs.Torn.{BlockAs, Mixture}

-- ---- lists

first_place : (cs : List Cell) → cells_at cs ≡ get_or (places cs) 0 0
unfolding cells_at places
first_place [] = refl
first_place (c ∷ cs) = refl

pub same_first : (cs ds : List Cell) → places cs ≡ places ds → cells_at cs ≡ cells_at ds
same_first cs ds e = first_place cs ∙ ap (λ (l : List ℕ). get_or l 0 0) e ∙ sym (first_place ds)

-- ---- the links

-- Two images that show chains at the same addresses have the same links in them.
pub next_same : (B : ℕ) (I J : List ℕ) (cs ds : List Cell) → places ds ≡ places cs → ShowsAll B I (cell_pieces cs) → ShowsAll B J (cell_pieces ds)
    → (b : ℕ) → 1 ≤ count b (places cs) → (i : ℕ) → i < 4 → get_or J (B * b + i) 0 ≡ get_or I (B * b + i) 0
unfolding places cell_pieces
next_same B I J [] ds e s r b m i h = absurd (omega (arith, count_none b))
next_same B I J (c ∷ cs) [] e s r b m i h = let z : suc (length (places cs)) ≡ 0 = sym (ap length e) in absurd (omega arith)
next_same B I J (c ∷ cs) (d ∷ ds) e s r b m i h = go (ℕ_discrete b c.at) (λ y. next_same B I J cs ds (ap (drop 1) e) s.1 r.1 b y i h)
  where
    at : d.at ≡ c.at
    at = ap (λ (l : List ℕ). get_or l 0 0) e

    first : cells_at ds ≡ cells_at cs
    first = same_first ds cs (ap (drop 1) e)

    link : (x : ℕ) (l : List ℕ) → get_or (bytes 4 x ++ l) i 0 ≡ get_or (bytes 4 x) i 0
    link x l = get_or-append (bytes 4 x) l 0 i (omega (arith, length_bytes 4 x))

    long : (x : ℕ) (l : List ℕ) → i < length (bytes 4 x ++ l)
    long x l = omega (arith, length-append (bytes 4 x) l, length_bytes 4 x)

    go : Dec (b ≡ c.at) → (1 ≤ count b (places cs) → get_or J (B * b + i) 0 ≡ get_or I (B * b + i) 0) → get_or J (B * b + i) 0 ≡ get_or I (B * b + i) 0
    go (yes q) f =
        rw q (ap (λ (a : ℕ). get_or J (B * a + i) 0) (sym at) ∙ r.0 i (long (cells_at ds) d.body) ∙ link (cells_at ds) d.body
        ∙ ap (λ (x : ℕ). get_or (bytes 4 x) i 0) first ∙ sym (s.0 i (long (cells_at cs) c.body) ∙ link (cells_at cs) c.body))
    go (no q) f = f (omega (arith, m, count_other b c.at (places cs) q))

-- ---- the mixture

-- Blocks at the addresses of cs, which L shows, each with the body of the one or of the other.
pub record Mixed (B : ℕ) (I J L : List ℕ) (cs ds : List Cell) : Type 0 where
  pub cells : List Cell
  pub spots : places cells ≡ places cs
  pub whole : All (GoodCell B) cells
  pub shown : ShowsAll B L (cell_pieces cells)
  pub mixture : Mixture B I J L cs ds cells
  pub bytes_of : (i : ℕ) → (get_or (stream cells) i 0 ≡ get_or (stream cs) i 0) ⊎ (get_or (stream cells) i 0 ≡ get_or (stream ds) i 0)

module _ (B : ℕ) (large : 4 ≤ B) (I J L : List ℕ) (each : (b : ℕ) → BlockAs B I L b ⊎ BlockAs B J L b) where
  -- what two images show of one block, if it is the same block
  body_one : (X : List ℕ) (b x y : ℕ) (l m : List ℕ) → length l ≡ B - 4 → length m ≡ B - 4 → Shows L (B * b) (bytes 4 x ++ l) → Shows X (B * b) (bytes 4 y ++ m)
      → BlockAs B X L b → l ≡ m
  body_one X b x y l m el em s r q = ext_get_or 0 l m (el ∙ sym em) (λ i h.
      let k : 4 + i < B = omega (arith, el) in
      let ll : length (bytes 4 x ++ l) ≡ B = length-append (bytes 4 x) l ∙ omega (arith, length_bytes 4 x) in
      let lm : length (bytes 4 y ++ m) ≡ B = length-append (bytes 4 y) m ∙ omega (arith, length_bytes 4 y) in
      let behind : (z : ℕ) (n : List ℕ) → get_or (bytes 4 z ++ n) (4 + i) 0 ≡ get_or n i 0
      = λ z n. ap (λ (j : ℕ). get_or (bytes 4 z ++ n) (j + i) 0) (sym (length_bytes 4 z)) ∙ get_or-append-add (bytes 4 z) n i 0 in
      sym (behind x l) ∙ sym (s (4 + i) (omega arith)) ∙ q (4 + i) (omega (arith, k)) ∙ r (4 + i) (omega arith) ∙ behind y m)

  pub mixed : (cs ds : List Cell) → places ds ≡ places cs → All (GoodCell B) cs → All (GoodCell B) ds → ShowsAll B I (cell_pieces cs) → ShowsAll B J (cell_pieces ds)
      → Mixed B I J L cs ds
  unfolding places cell_pieces stream
  mixed [] ds e g h s r = record { cells = []; spots = refl; whole = tt; shown = tt; mixture = refl; bytes_of = λ i. inl refl }
  mixed (c ∷ cs) [] e g h s r = let z : ◌≡◌ {A = ℕ} 0 1 = ap (λ (l : List ℕ). at_least l) e in absurd (omega arith)
    where
      at_least : List ℕ → ℕ
      at_least [] = 0
      at_least (x ∷ xs) = 1
  mixed (c ∷ cs) (d ∷ ds) e g h s r = by (each c.at) (mixed cs ds (ap (drop 1) e) g.1 h.1 s.1 r.1)
    where
      at : d.at ≡ c.at
      at = ap (λ (l : List ℕ). get_or l 0 0) e

      J-shows : Shows J (B * c.at) (bytes 4 (cells_at ds) ++ d.body)
      J-shows = subst (λ (a : ℕ). Shows J (B * a) (bytes 4 (cells_at ds) ++ d.body)) at r.0

      -- a block of L that is X's shows what that shows
      L-shows : (X : List ℕ) (z : ℕ) (l : List ℕ) → length l ≡ B - 4 → Shows X (B * c.at) (bytes 4 z ++ l) → BlockAs B X L c.at → Shows L (B * c.at) (bytes 4 z ++ l)
      L-shows X z l k x q i j = q i (omega (arith, length-append (bytes 4 z) l, length_bytes 4 z, k)) ∙ x i j

      built : (l : List ℕ) → length l ≡ B - 4 → (m : Mixed B I J L cs ds) → Shows L (B * c.at) (bytes 4 (cells_at m.cells) ++ l)
          → ((i : ℕ) → (get_or l i 0 ≡ get_or c.body i 0) ⊎ (get_or l i 0 ≡ get_or d.body i 0)) → Mixed B I J L (c ∷ cs) (d ∷ ds)
      built l k m x p =
          record {
            cells = record { at = c.at; body = l } ∷ m.cells;
            spots = ap (λ (y : List ℕ). c.at ∷ y) m.spots;
            whole = (record { whole = k }, m.whole);
            shown = (x, m.shown);
            mixture = (
              (
                λ q. search (body_one I c.at (cells_at m.cells) (cells_at cs) l c.body k g.0.whole x s.0 q),
                λ q. search (body_one J c.at (cells_at m.cells) (cells_at ds) l d.body k h.0.whole x J-shows q),
              ),
              m.mixture,
            );
            bytes_of = three l c.body d.body (stream m.cells) (stream cs) (stream ds) (k ∙ sym g.0.whole) (k ∙ sym h.0.whole) p m.bytes_of;
          }
        where
          three : (a b d xa bs ds : List ℕ) → length a ≡ length b → length a ≡ length d → ((i : ℕ) → (get_or a i 0 ≡ get_or b i 0) ⊎ (get_or a i 0 ≡ get_or d i 0))
              → ((i : ℕ) → (get_or xa i 0 ≡ get_or bs i 0) ⊎ (get_or xa i 0 ≡ get_or ds i 0)) → (i : ℕ)
              → (get_or (a ++ xa) i 0 ≡ get_or (b ++ bs) i 0) ⊎ (get_or (a ++ xa) i 0 ≡ get_or (d ++ ds) i 0)
          three a b d xa bs ds e f p q i = go (dec_lt i (length a))
            where
              past : (x xs : List ℕ) → length a ≡ length x → length a ≤ i → get_or (x ++ xs) i 0 ≡ get_or xs (i - length a) 0
              past x xs u v = ap (λ (k : ℕ). get_or (x ++ xs) k 0) (let r : i ≡ length x + (i - length a) = omega arith in r) ∙ get_or-append-add x xs (i - length a) 0

              near : (x xs : List ℕ) → length a ≡ length x → i < length a → get_or (x ++ xs) i 0 ≡ get_or x i 0
              near x xs u v = get_or-append x xs 0 i (omega arith)

              go : Dec (i < length a) → (get_or (a ++ xa) i 0 ≡ get_or (b ++ bs) i 0) ⊎ (get_or (a ++ xa) i 0 ≡ get_or (d ++ ds) i 0)
              go (yes h) = to (p i)
                where
                  to : (get_or a i 0 ≡ get_or b i 0) ⊎ (get_or a i 0 ≡ get_or d i 0) → (get_or (a ++ xa) i 0 ≡ get_or (b ++ bs) i 0) ⊎ (get_or (a ++ xa) i 0 ≡ get_or (d ++ ds) i 0)
                  to (inl x) = inl (near a xa refl h ∙ x ∙ sym (near b bs e h))
                  to (inr x) = inr (near a xa refl h ∙ x ∙ sym (near d ds f h))
              go (no h) = to (q (i - length a))
                where
                  low : length a ≤ i
                  low = omega arith

                  to : (get_or xa (i - length a) 0 ≡ get_or bs (i - length a) 0) ⊎ (get_or xa (i - length a) 0 ≡ get_or ds (i - length a) 0)
                      → (get_or (a ++ xa) i 0 ≡ get_or (b ++ bs) i 0) ⊎ (get_or (a ++ xa) i 0 ≡ get_or (d ++ ds) i 0)
                  to (inl x) = inl (past a xa refl low ∙ x ∙ sym (past b bs e low))
                  to (inr x) = inr (past a xa refl low ∙ x ∙ sym (past d ds f low))

      by : BlockAs B I L c.at ⊎ BlockAs B J L c.at → Mixed B I J L cs ds → Mixed B I J L (c ∷ cs) (d ∷ ds)
      by (inl q) m =
          built c.body g.0.whole m
          (subst (λ (z : ℕ). Shows L (B * c.at) (bytes 4 z ++ c.body)) (sym (same_first m.cells cs m.spots)) (L-shows I (cells_at cs) c.body g.0.whole s.0 q)) (λ i. inl refl)
      by (inr q) m =
          built d.body h.0.whole m
          (subst (λ (z : ℕ). Shows L (B * c.at) (bytes 4 z ++ d.body)) (sym (same_first m.cells ds (m.spots ∙ sym (ap (drop 1) e)))) (L-shows J (cells_at ds) d.body h.0.whole J-shows q)) (λ i. inr refl)

-- ---- its bytes

-- Blocks whose bytes are those of cs or of the patched ones are themselves the patched ones, of another buffer.
module _ (B : ℕ) (cs es : List Cell) (c : ℕ) (buf : List ℕ) (spots : places es ≡ places cs) (old : All (GoodCell B) cs) (new : All (GoodCell B) es)
    (inside : c + length buf ≤ (B - 4) * length cs)
    (bytes_of : (i : ℕ) → (get_or (stream es) i 0 ≡ get_or (stream cs) i 0) ⊎ (get_or (stream es) i 0 ≡ get_or (stream (overlaid B c buf cs)) i 0)) where
  -- the bytes that they have in the buffer's place
  abbrev pub mixed_bytes : List ℕ
  mixed_bytes = take (length buf) (drop c (stream es))

  count_same : length es ≡ length cs
  count_same = sym (length-places es) ∙ ap length spots ∙ length-places cs

  long_old : length (stream cs) ≡ (B - 4) * length cs
  long_old = length-stream B cs old

  long_new : length (stream es) ≡ (B - 4) * length cs
  long_new = length-stream B es new ∙ ap (λ (k : ℕ). (B - 4) * k) count_same

  pub long_mixed : length (take (length buf) (drop c (stream es))) ≡ length buf
  long_mixed = length-take-le (length buf) (drop c (stream es)) (omega (arith, length-drop c (stream es), long_new))

  over_is : stream (overlaid B c buf cs) ≡ splice (stream cs) c buf
  over_is = stream-overlaid B c buf cs long_old inside

  -- outside the buffer's place they are the old ones
  outside : (i : ℕ) → get_or (splice (stream cs) c buf) i 0 ≡ get_or (stream cs) i 0 → get_or (stream es) i 0 ≡ get_or (stream cs) i 0
  outside i s = go (bytes_of i)
    where
      go : (get_or (stream es) i 0 ≡ get_or (stream cs) i 0) ⊎ (get_or (stream es) i 0 ≡ get_or (stream (overlaid B c buf cs)) i 0) → get_or (stream es) i 0 ≡ get_or (stream cs) i 0
      go (inl x) = x
      go (inr x) = x ∙ ap (λ (l : List ℕ). get_or l i 0) over_is ∙ s

  fits : c + length buf ≤ length (stream cs)
  fits = omega (arith, long_old)

  fits_mixed : c + length mixed_bytes ≤ length (stream cs)
  fits_mixed = omega (arith, long_mixed, long_old)

  all_bytes : splice (stream cs) c (take (length buf) (drop c (stream es))) ≡ stream es
  all_bytes = ext_get_or 0 _ _ (length-splice (stream cs) c mixed_bytes fits_mixed ∙ long_old ∙ sym long_new) (λ i h. go i (dec_lt i c) (dec_lt i (c + length buf)))
    where
      go : (i : ℕ) → Dec (i < c) → Dec (i < c + length buf) → get_or (splice (stream cs) c (take (length buf) (drop c (stream es)))) i 0 ≡ get_or (stream es) i 0
      go i (yes a) b = splice_before (stream cs) c mixed_bytes fits_mixed i a ∙ sym (outside i (splice_before (stream cs) c buf fits i a))
      go i (no a) (yes b) =
          let j : ℕ = i - c in
          let e : c + j ≡ i = omega arith in
          ap (λ (x : ℕ). get_or (splice (stream cs) c mixed_bytes) x 0) (sym e)
          ∙ splice_in (stream cs) c mixed_bytes fits_mixed j (omega (arith, long_mixed))
          ∙ get_or-take (length buf) (drop c (stream es)) j 0 (omega arith) ∙ get_or-drop c (stream es) j 0 ∙ ap (λ (x : ℕ). get_or (stream es) x 0) e
      go i (no a) (no b) =
          splice-after (stream cs) c mixed_bytes fits_mixed i (omega (arith, long_mixed)) ∙ sym (outside i (splice-after (stream cs) c buf fits i (omega arith)))

  pub mixed_is : overlaid B c (take (length buf) (drop c (stream es))) cs ≡ es
  unfolding overlaid
  mixed_is =
      (let e : places cs ≡ places es = sym spots in λ i. chop (B - 4) (e i) (all_bytes i)) ∙ chop_same (B - 4) es (bodies es new)
    where
      bodies : (ds : List Cell) → All (GoodCell B) ds → All (λ d. length d.body ≡ B - 4) ds
      bodies [] a = tt
      bodies (d ∷ ds) a = (a.0.whole, bodies ds a.1)
