-- The blocks of a file as a list: their places, their front and their rest, and what an image shows of them.
use mathlib.Core.Path.{◌≡◌, refl, sym, ap, ◌∙◌, subst}
use mathlib.Core.List.{List, [], ◌∷◌, ◌++◌}
use Prim.Native.Nat.{ℕ, zero, suc, ◌+◌, ◌-◌, ◌*◌, ◌≤◌, ◌<◌}
use native.Mathlib.Omega.{arith}
use lib.ListN.{length, length-append, length-replicate}
use Rattle.wire.specs.Be.{bytes, splice}
use Rattle.wire.proofs.Numbers.{length_bytes}
use Rattle.block.specs.Block.{linked}
use Rattle.model.specs.Tree.{Cell}
use Rattle.model.specs.Render.{cells_at, cell_pieces, count, Shows, ShowsAll}
use Rattle.model.specs.Geometry.{Geo, block_size}
use Rattle.model.specs.Volume.{All, GoodCell}
use Rattle.model.specs.Calls.{places, empty_cell}
use Rattle.model.proofs.Commit.{shows_both, shows_two, shows_stored, shows_after}
use Rattle.model.proofs.Counts.{count_same, count_cons, count_append, count_none}
use Rattle.model.proofs.Frame.{SameBlock}

-- ---- places

pub places-append : (xs ys : List Cell) → places (xs ++ ys) ≡ places xs ++ places ys
unfolding places
places-append [] ys = refl
places-append (x ∷ xs) ys = ap (λ (l : List ℕ). x.at ∷ l) (places-append xs ys)

pub count_places : (i : ℕ) (xs ys : List Cell) → count i (places (xs ++ ys)) ≡ count i (places xs) + count i (places ys)
count_places i xs ys = ap (count i) (places-append xs ys) ∙ count_append i (places xs) (places ys)

pub count_cell : (i : ℕ) (c : Cell) (cs : List Cell) → count i (places (c ∷ cs)) ≡ count i (c.at ∷ []) + count i (places cs)
unfolding places
count_cell i c cs = count_cons i c.at (places cs)

pub count_no_cell : (i : ℕ) → count i (places []) ≡ 0
unfolding places
count_no_cell i = count_none i

-- the last of a chain
pub count_last : (i : ℕ) (xs : List Cell) (c : Cell) → count i (places (xs ++ (c ∷ []))) ≡ count i (places xs) + count i (c.at ∷ [])
count_last i xs c = count_places i xs (c ∷ []) ∙ omega (arith, count_cell i c [], count_no_cell i)

-- ---- a list cut in two

pub record Front (k : ℕ) (cs : List Cell) : Type 0 where
  pub front : List Cell
  pub cell : Cell
  pub back : List Cell
  pub is : cs ≡ front ++ (cell ∷ back)
  pub long : length front ≡ k

pub front_of : (k : ℕ) (cs : List Cell) → k < length cs → Front k cs
front_of k [] h = absurd (omega arith)
front_of zero (c ∷ cs) h = record { front = []; cell = c; back = cs; is = refl; long = refl }
front_of (suc k) (c ∷ cs) h =
    let r = front_of k cs (omega arith) in
    record { front = c ∷ r.front; cell = r.cell; back = r.back; is = ap (λ (l : List Cell). c ∷ l) r.is; long = ap suc r.long }

-- ---- what an image shows

-- a block's bytes: its next address and its data
pub block_long : (B : ℕ) → 4 ≤ B → (c : Cell) (z : ℕ) → GoodCell B c → length (bytes 4 z ++ c.body) ≡ B
block_long B h c z g = length-append (bytes 4 z) c.body ∙ omega (arith, length_bytes 4 z, g.whole)

at_append : (xs ys zs : List Cell) → cells_at ys ≡ cells_at zs → cells_at (xs ++ ys) ≡ cells_at (xs ++ zs)
unfolding cells_at
at_append [] ys zs e = e
at_append (x ∷ xs) ys zs e = refl

-- The rest of a chain is another, which begins at the same block: the front is as it was.
pub tail_shows : (B : ℕ) (I J : List ℕ) → 4 ≤ B → (xs ys zs : List Cell) → All (GoodCell B) xs → ((b : ℕ) → 1 ≤ count b (places xs) → SameBlock B I J b) → cells_at zs ≡ cells_at ys
    → ShowsAll B I (cell_pieces (xs ++ ys)) → ShowsAll B J (cell_pieces zs) → ShowsAll B J (cell_pieces (xs ++ zs))
unfolding cell_pieces places
tail_shows B I J h [] ys zs w s e a b = b
tail_shows B I J h (x ∷ xs) ys zs w s e a b = (
  subst (λ (z : ℕ). Shows J (B * x.at) (bytes 4 z ++ x.body)) (at_append xs ys zs (sym e))
      (λ i q. s x.at (omega (arith, count_same x.at x.at (places xs) refl)) i (omega (arith, block_long B h x (cells_at (xs ++ ys)) w.0)) ∙ a.0 i q),
  tail_shows B I J h xs ys zs w.1 (λ c k. s c (omega (arith, count_cons c x.at (places xs)))) e a.1 b,
)

-- The rest is shown as the whole is.
pub back_shows : (B : ℕ) (I : List ℕ) (xs ys : List Cell) → ShowsAll B I (cell_pieces (xs ++ ys)) → ShowsAll B I (cell_pieces ys)
unfolding cell_pieces
back_shows B I [] ys a = a
back_shows B I (x ∷ xs) ys a = back_shows B I xs ys a.1

-- A block with another next address.
pub relinked : (B : ℕ) (I : List ℕ) (a z v : ℕ) (body : List ℕ) → 4 ≤ B → B * a + B ≤ length I → Shows I (B * a) (bytes 4 z ++ body) → Shows (linked B I a v) (B * a) (bytes 4 v ++ body)
unfolding linked
relinked B I a z v body h k s =
    let lz : length (bytes 4 z) ≡ 4 = length_bytes 4 z in
    let lv : length (bytes 4 v) ≡ 4 = length_bytes 4 v in
    let f : B * a + length (bytes 4 v) ≤ length I = omega arith in
    let e : B * a + length (bytes 4 z) ≡ B * a + length (bytes 4 v) = omega arith in
    shows_both (splice I (B * a) (bytes 4 v)) (B * a) (bytes 4 v) body (shows_stored I (B * a) (bytes 4 v) f)
    (shows_after I (B * a) (bytes 4 v) f (B * a + length (bytes 4 v)) body (omega arith) (subst (λ (x : ℕ). Shows I x body) e (shows_two I (B * a) (bytes 4 z) body s)))

-- ---- new blocks

-- F6: a block that was just taken is zero
unfoldable pub empties : Geo → List ℕ → List Cell
empties g [] = []
empties g (w ∷ ws) = empty_cell g w ∷ empties g ws

pub places_empties : (g : Geo) (ws : List ℕ) → places (empties g ws) ≡ ws
unfolding places empties
places_empties g [] = refl
places_empties g (w ∷ ws) = ap (λ (l : List ℕ). w ∷ l) (places_empties g ws)

pub empty_good : (g : Geo) (w : ℕ) → GoodCell (block_size g) (empty_cell g w)
empty_good g w = record { whole = length-replicate {A = ℕ} (block_size g - 4) 0 }
