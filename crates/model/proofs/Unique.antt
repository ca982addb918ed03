-- An image shows one good tree at most from an address.
use mathlib.Core.Path.{◌≡◌, refl, sym, ap, ◌∙◌, subst}
use mathlib.Core.List.{List, [], ◌∷◌, ◌++◌, append_assoc}
use Prim.Native.Nat.{ℕ, zero, suc, ◌-◌, ◌*◌, ◌≤◌, ◌<◌, ◌^◌}
use native.Mathlib.Omega.{arith}
use lib.ListN.{length, get_or, take, drop, length-append}
use lib.Seq.{take_at, drop_at, ext_get_or, get_or_at}
use Rattle.wire.specs.Be.{zeros, be, bytes}
use Rattle.wire.proofs.Numbers.{get_or-zeros, length_bytes, be_bytes}
use Rattle.model.specs.Tree.{Cell, Node, file, device, sub, Entry, Block, Below, Tree}
use Rattle.model.specs.Render.{Piece, View, blocks_at, cells_at, padded, kind_of, address_of, size_of, entry_bytes, entries_bytes, cell_pieces, node_pieces, entry_pieces, dir_pieces, view, render, ShowsAll, Shows, ats, count}
use Rattle.model.specs.Geometry.{Geo, block_size}
use Rattle.model.specs.Volume.{All, GoodCell, GoodNode, GoodEntry, GoodBlock, GoodBelow, GoodTree, Laid}
use Rattle.model.proofs.Counts.{count_same, count_cons}
use Rattle.model.proofs.Areas.{few, area, size_large}
use Rattle.model.proofs.Frame.{shows_left, shows_right}
use Rattle.model.proofs.Full.{length_entries, length-padded}
use Rattle.model.proofs.Lists.{all_left, all_right}

-- ---- lists and numbers

append_inj : {A : Type 0} (a a' b b' : List A) → length a ≡ length a' → a ++ b ≡ a' ++ b' → (a ≡ a') × (b ≡ b')
append_inj {A} a a' b b' k e = (
  sym (take_at a b (length a) refl) ∙ ap (take (length a)) e ∙ take_at a' b' (length a) (sym k),
  sym (drop_at a b (length a) refl) ∙ ap (drop (length a)) e ∙ drop_at a' b' (length a) (sym k),
)

bytes_inj : (n v w : ℕ) → v < 256 ^ n → w < 256 ^ n → bytes n v ≡ bytes n w → v ≡ w
bytes_inj n v w h k e = sym (be_bytes n v h) ∙ ap (λ (l : List ℕ). be n l 0) e ∙ be_bytes n w k

-- two lists that the image has at one place
shown_one : (I : List ℕ) (k : ℕ) (l m : List ℕ) → length l ≡ length m → Shows I k l → Shows I k m → l ≡ m
shown_one I k l m e a b = ext_get_or 0 l m e (λ i h. sym (a i h) ∙ b i (omega arith))

-- addresses that four bytes hold, none of them 0
abbrev pub Small : Piece → Type 0
Small x = (1 ≤ x.at) × (x.at < 2 ^ 32)

-- ---- chains

cells_small : (cs : List Cell) → All Small (cell_pieces cs) → cells_at cs < 2 ^ 32
unfolding cell_pieces cells_at
cells_small [] a = omega arith
cells_small (c ∷ cs) a = a.0.1

module _ (B : ℕ) (I : List ℕ) where
  cells_one : (cs ds : List Cell) → All (GoodCell B) cs → All (GoodCell B) ds → All Small (cell_pieces cs) → All Small (cell_pieces ds)
      → ShowsAll B I (cell_pieces cs) → ShowsAll B I (cell_pieces ds) → cells_at cs ≡ cells_at ds → cs ≡ ds
  unfolding cell_pieces cells_at
  cells_one [] [] g h s u a b e = refl
  cells_one [] (d ∷ ds) g h s u a b e = absurd (omega (arith, u.0.0))
  cells_one (c ∷ cs) [] g h s u a b e = absurd (omega (arith, s.0.0))
  cells_one (c ∷ cs) (d ∷ ds) g h s u a b e =
      let lc = length_bytes 4 (cells_at cs) in
      let ld = length_bytes 4 (cells_at ds) in
      let full = shown_one I (B * c.at) (bytes 4 (cells_at cs) ++ c.body) (bytes 4 (cells_at ds) ++ d.body)
      (rw (length-append, length-append) (omega (arith, lc, ld, g.0.whole, h.0.whole))) a.0 (subst (λ (z : ℕ). Shows I (B * z) (bytes 4 (cells_at ds) ++ d.body)) (sym e) b.0) in
      let parts = append_inj (bytes 4 (cells_at cs)) (bytes 4 (cells_at ds)) c.body d.body (lc ∙ sym ld) full in
      let next = bytes_inj 4 (cells_at cs) (cells_at ds) (cells_small cs s.1) (cells_small ds u.1) parts.0 in
      let rest = cells_one cs ds g.1 h.1 s.1 u.1 a.1 b.1 next in
      cell-cons c d cs ds e parts.1 rest
    where
      cell-cons : (c d : Cell) (cs ds : List Cell) → c.at ≡ d.at → c.body ≡ d.body → cs ≡ ds → c ∷ cs ≡ d ∷ ds
      cell-cons c d cs ds p q r = λ i. record { at = p i; body = q i } ∷ r i

-- ---- the entries of a block

-- Two entries whose bytes are equal.
pub record Twin {X : Type 0} (v : View X) (e f : Entry X) : Type 0 where
  pub names : e.name ≡ f.name
  pub times : e.time ≡ f.time
  pub kinds : kind_of e.node ≡ kind_of f.node
  pub addresses : bytes 4 (address_of v e.node) ≡ bytes 4 (address_of v f.node)
  pub sizes : bytes 4 (size_of v e.node) ≡ bytes 4 (size_of v f.node)

abbrev pub Twins : {X : Type 0} → View X → List (Entry X) → List (Entry X) → Type 0
Twins v [] [] = Unit {0}
Twins v [] (f ∷ fs) = ⊥
Twins v (e ∷ es) [] = ⊥
Twins v (e ∷ es) (f ∷ fs) = Twin v e f × Twins v es fs

head_eq : (a b : ℕ) (l m : List ℕ) → a ∷ l ≡ b ∷ m → a ≡ b
head_eq a b l m e = cc

tail_eq : (a b : ℕ) (l m : List ℕ) → a ∷ l ≡ b ∷ m → l ≡ m
tail_eq a b l m e = cc

unpad : (n : ℕ) (l m : List ℕ) → padded n l ≡ padded n m → l ++ zeros (n - length l) ≡ m ++ zeros (n - length m)
unfolding padded
unpad n l m e = e

module _ {X : Type 0} (B : ℕ) (S : X → Type 0) (v : View X) where
  front : Entry X → List ℕ
  front e = kind_of e.node ∷ (bytes 4 (address_of v e.node) ++ bytes 4 (size_of v e.node))

  length_front : (e : Entry X) → length (front e) ≡ 9
  unfolding front
  length_front e = rw length-append (omega (arith, length_bytes 4 (address_of v e.node), length_bytes 4 (size_of v e.node)))

  entry_form : (e : Entry X) (r : List ℕ) → entry_bytes v e ++ r ≡ front e ++ (bytes 8 e.time ++ (length e.name ∷ (e.name ++ r)))
  unfolding entry_bytes front
  entry_form e r =
      append_assoc (front e) (bytes 8 e.time ++ (length e.name ∷ e.name)) r
      ∙ ap (λ (l : List ℕ). front e ++ l) (append_assoc (bytes 8 e.time) (length e.name ∷ e.name) r)

  front_eq : (e f : Entry X) → front e ≡ front f
      → (kind_of e.node ≡ kind_of f.node) × (bytes 4 (address_of v e.node) ≡ bytes 4 (address_of v f.node)) × (bytes 4 (size_of v e.node) ≡ bytes 4 (size_of v f.node))
  unfolding front
  front_eq e f q =
      let d = append_inj (bytes 4 (address_of v e.node)) (bytes 4 (address_of v f.node)) (bytes 4 (size_of v e.node)) (bytes 4 (size_of v f.node))
      (length_bytes 4 (address_of v e.node) ∙ sym (length_bytes 4 (address_of v f.node))) (tail_eq _ _ _ _ q) in
      (head_eq _ _ _ _ q, d.0, d.1)

  -- the byte of the name's length
  name_byte : (e : Entry X) (r : List ℕ) → get_or (entry_bytes v e ++ r) 17 0 ≡ length e.name
  name_byte e r =
      ap (λ (l : List ℕ). get_or l 17 0) (entry_form e r ∙ sym (append_assoc (front e) (bytes 8 e.time) (length e.name ∷ (e.name ++ r))))
      ∙ get_or_at (front e ++ bytes 8 e.time) (length e.name) (e.name ++ r) 0 17 (rw length-append (omega (arith, length_front e, length_bytes 8 e.time)))

  twin_of : (e f : Entry X) (r s : List ℕ) → e.time < 2 ^ 64 → f.time < 2 ^ 64 → entry_bytes v e ++ r ≡ entry_bytes v f ++ s → Twin v e f × (r ≡ s)
  twin_of e f r s he hf q =
      let a = append_inj (front e) (front f) _ _ (length_front e ∙ sym (length_front f)) (sym (entry_form e r) ∙ q ∙ entry_form f s) in
      let b = append_inj (bytes 8 e.time) (bytes 8 f.time) _ _ (length_bytes 8 e.time ∙ sym (length_bytes 8 f.time)) a.1 in
      let c = append_inj e.name f.name r s (head_eq _ _ _ _ b.1) (tail_eq _ _ _ _ b.1) in
      let d = front_eq e f a.0 in
      (record { names = c.0; times = bytes_inj 8 e.time f.time he hf b.0; kinds = d.0; addresses = d.1; sizes = d.2 }, c.1)

  twins : (es fs : List (Entry X)) (k j : ℕ) → All (GoodEntry B S) es → All (GoodEntry B S) fs
      → entries_bytes v es ++ zeros k ≡ entries_bytes v fs ++ zeros j → Twins v es fs
  unfolding entries_bytes
  twins [] [] k j g h q = tt
  twins [] (f ∷ fs) k j g h q =
      let q₁ : zeros k ≡ entry_bytes v f ++ (entries_bytes v fs ++ zeros j) = q ∙ append_assoc (entry_bytes v f) (entries_bytes v fs) (zeros j) in
      let z : 0 ≡ length f.name = sym (get_or-zeros k 17) ∙ ap (λ (l : List ℕ). get_or l 17 0) q₁ ∙ name_byte f _ in
      absurd (omega (arith, h.0.good_name.some_bytes, z))
  twins (e ∷ es) [] k j g h q =
      let q₁ : entry_bytes v e ++ (entries_bytes v es ++ zeros k) ≡ zeros j = sym (append_assoc (entry_bytes v e) (entries_bytes v es) (zeros k)) ∙ q in
      let z : 0 ≡ length e.name = sym (get_or-zeros j 17) ∙ ap (λ (l : List ℕ). get_or l 17 0) (sym q₁) ∙ name_byte e _ in
      absurd (omega (arith, g.0.good_name.some_bytes, z))
  twins (e ∷ es) (f ∷ fs) k j g h q =
      let t = twin_of e f (entries_bytes v es ++ zeros k) (entries_bytes v fs ++ zeros j) g.0.clock h.0.clock
      (sym (append_assoc (entry_bytes v e) (entries_bytes v es) (zeros k)) ∙ q ∙ append_assoc (entry_bytes v f) (entries_bytes v fs) (zeros j)) in
      (t.0, twins es fs k j g.1 h.1 t.1)

-- ---- directories, where what is below one is unique

module _ {X : Type 0} (B : ℕ) (large : 5 ≤ B) (I : List ℕ) (S : X → Type 0) (v : View X)
    (from_small : (x : X) → All Small (v.pieces x) → v.from x < 2 ^ 32)
    (below_one : (x y : X) → S x → S y → All Small (v.pieces x) → All Small (v.pieces y) → ShowsAll B I (v.pieces x) → ShowsAll B I (v.pieces y) → v.from x ≡ v.from y → x ≡ y) where
  different : {A : Type 0} (m n : ℕ) → m ≡ n → (m ≡ n → ⊥) → A
  different m n e d = absurd (d e)

  node_one : (x y : Node X) → GoodNode B S x → GoodNode B S y → All Small (node_pieces v x) → All Small (node_pieces v y)
      → ShowsAll B I (node_pieces v x) → ShowsAll B I (node_pieces v y)
      → kind_of x ≡ kind_of y → bytes 4 (address_of v x) ≡ bytes 4 (address_of v y) → bytes 4 (size_of v x) ≡ bytes 4 (size_of v y) → x ≡ y
  unfolding node_pieces kind_of address_of size_of
  node_one (file z cs) (file w ds) g h s u a b k p q =
      let e = cells_one B I cs ds g.cells h.cells s u a b (bytes_inj 4 _ _ (cells_small cs s) (cells_small ds u) p) in
      let f = bytes_inj 4 z w (omega (arith, g.limit)) (omega (arith, h.limit)) q in
      λ i. file (f i) (e i)
  node_one (file z cs) (device w ds) g h s u a b k p q = absurd (omega arith)
  node_one (file z cs) (sub y) g h s u a b k p q = absurd (omega arith)
  node_one (device z cs) (file w ds) g h s u a b k p q = absurd (omega arith)
  node_one (device z cs) (device w ds) g h s u a b k p q =
      let e = cells_one B I cs ds g.cells h.cells s u a b (bytes_inj 4 _ _ (cells_small cs s) (cells_small ds u) p) in
      let f = bytes_inj 4 z w g.limit h.limit q in
      λ i. device (f i) (e i)
  node_one (device z cs) (sub y) g h s u a b k p q = absurd (omega arith)
  node_one (sub x) (file w ds) g h s u a b k p q = absurd (omega arith)
  node_one (sub x) (device w ds) g h s u a b k p q = absurd (omega arith)
  node_one (sub x) (sub y) g h s u a b k p q =
      let e = below_one x y g h s u a b (bytes_inj 4 (v.from x) (v.from y) (from_small x s) (from_small y u) p) in
      λ i. sub (e i)

  entries_one : (es fs : List (Entry X)) → Twins v es fs → All (GoodEntry B S) es → All (GoodEntry B S) fs → All Small (entry_pieces v es) → All Small (entry_pieces v fs)
      → ShowsAll B I (entry_pieces v es) → ShowsAll B I (entry_pieces v fs) → es ≡ fs
  unfolding entry_pieces
  entries_one [] [] t g h s u a b = refl
  entries_one [] (f ∷ fs) t g h s u a b = absurd t
  entries_one (e ∷ es) [] t g h s u a b = absurd t
  entries_one (e ∷ es) (f ∷ fs) t g h s u a b =
      let n = node_pieces v e.node in
      let m = node_pieces v f.node in
      let x = node_one e.node f.node g.0.below h.0.below (all_left Small n (entry_pieces v es) s) (all_left Small m (entry_pieces v fs) u)
      (shows_left B I n (entry_pieces v es) a) (shows_left B I m (entry_pieces v fs) b) t.0.kinds t.0.addresses t.0.sizes in
      let r = entries_one es fs t.1 g.1 h.1 (all_right Small n (entry_pieces v es) s) (all_right Small m (entry_pieces v fs) u)
      (shows_right B I n (entry_pieces v es) a) (shows_right B I m (entry_pieces v fs) b) in
      cons_eq e f es fs t.0.names t.0.times x r
    where
      cons_eq : (e f : Entry X) (es fs : List (Entry X)) → e.name ≡ f.name → e.time ≡ f.time → e.node ≡ f.node → es ≡ fs → e ∷ es ≡ f ∷ fs
      cons_eq e f es fs p q r s = λ i. record { name = p i; time = q i; node = r i } ∷ s i

  blocks_small : (bs : List (Block X)) → All Small (dir_pieces B v bs) → blocks_at bs < 2 ^ 32
  unfolding dir_pieces blocks_at
  blocks_small [] s = omega arith
  blocks_small (b ∷ bs) s = s.0.1

  dir_one : (bs cs : List (Block X)) → All (GoodBlock B S) bs → All (GoodBlock B S) cs → All Small (dir_pieces B v bs) → All Small (dir_pieces B v cs)
      → ShowsAll B I (dir_pieces B v bs) → ShowsAll B I (dir_pieces B v cs) → blocks_at bs ≡ blocks_at cs → bs ≡ cs
  unfolding dir_pieces blocks_at
  dir_one [] [] g h s u a b e = refl
  dir_one [] (c ∷ cs) g h s u a b e = absurd (omega (arith, u.0.0))
  dir_one (x ∷ bs) [] g h s u a b e = absurd (omega (arith, s.0.0))
  dir_one (x ∷ bs) (y ∷ cs) g h s u a b e =
      let p = entries_bytes v x.entries in
      let q = entries_bytes v y.entries in
      let lp : length (padded (B - 4) p) ≡ B - 4 = length-padded (B - 4) p (omega (arith, length_entries v x.entries, g.0.fits)) in
      let lq : length (padded (B - 4) q) ≡ B - 4 = length-padded (B - 4) q (omega (arith, length_entries v y.entries, h.0.fits)) in
      let lb = length_bytes 4 (blocks_at bs) in
      let lc = length_bytes 4 (blocks_at cs) in
      let full = shown_one I (B * x.at) (bytes 4 (blocks_at bs) ++ padded (B - 4) p) (bytes 4 (blocks_at cs) ++ padded (B - 4) q)
      (rw (length-append, length-append) (omega (arith, lb, lc, lp, lq))) a.0 (subst (λ (z : ℕ). Shows I (B * z) (bytes 4 (blocks_at cs) ++ padded (B - 4) q)) (sym e) b.0) in
      let parts = append_inj (bytes 4 (blocks_at bs)) (bytes 4 (blocks_at cs)) (padded (B - 4) p) (padded (B - 4) q) (lb ∙ sym lc) full in
      let ex = entry_pieces v x.entries in
      let ey = entry_pieces v y.entries in
      let sx = all_right Small ex (dir_pieces B v bs) s.1 in
      let sy = all_right Small ey (dir_pieces B v cs) u.1 in
      let next = bytes_inj 4 (blocks_at bs) (blocks_at cs) (blocks_small bs sx) (blocks_small cs sy) parts.0 in
      let es = entries_one x.entries y.entries (twins B S v x.entries y.entries (B - 4 - length p) (B - 4 - length q) g.0.each h.0.each (unpad (B - 4) p q parts.1)) g.0.each h.0.each
      (all_left Small ex (dir_pieces B v bs) s.1) (all_left Small ey (dir_pieces B v cs) u.1) (shows_left B I ex (dir_pieces B v bs) a.1) (shows_left B I ey (dir_pieces B v cs) b.1) in
      let rest = dir_one bs cs g.1 h.1 sx sy (shows_right B I ex (dir_pieces B v bs) a.1) (shows_right B I ey (dir_pieces B v cs) b.1) next in
      cons_eq x y bs cs e es rest
    where
      cons_eq : (x y : Block X) (bs cs : List (Block X)) → x.at ≡ y.at → x.entries ≡ y.entries → bs ≡ cs → x ∷ bs ≡ y ∷ cs
      cons_eq x y bs cs p q r = λ i. record { at = p i; entries = q i } ∷ r i

-- ---- every depth

from_small : (B d : ℕ) (x : Below d) → All Small ((view B d).pieces x) → (view B d).from x < 2 ^ 32
unfolding view dir_pieces blocks_at
from_small B zero x s = absurd x
from_small B (suc d) [] s = omega arith
from_small B (suc d) (b ∷ bs) s = s.0.1

below_one : (B : ℕ) → 5 ≤ B → (I : List ℕ) (d : ℕ) (x y : Below d) → GoodBelow B d x → GoodBelow B d y → All Small ((view B d).pieces x) → All Small ((view B d).pieces y)
    → ShowsAll B I ((view B d).pieces x) → ShowsAll B I ((view B d).pieces y) → (view B d).from x ≡ (view B d).from y → x ≡ y
unfolding view GoodBelow
below_one B l I zero x y g h s u a b e = absurd x
below_one B l I (suc d) x y g h s u a b e =
    dir_one B l I (GoodBelow B d) (view B d) (from_small B d) (below_one B l I d) x y g.all h.all s u a b e

tree_one : (B : ℕ) → 5 ≤ B → (I : List ℕ) (d : ℕ) (t u : Tree d) → GoodTree B d t → GoodTree B d u → All Small (render B d t) → All Small (render B d u)
    → ShowsAll B I (render B d t) → ShowsAll B I (render B d u) → blocks_at t ≡ blocks_at u → t ≡ u
unfolding render
tree_one B l I d t u g h s r a b e = dir_one B l I (GoodBelow B d) (view B d) (from_small B d) (below_one B l I d) t u g.all h.all s r a b e

-- what the counts say of each piece
all_counted : (P : ℕ → Type 0) (xs : List Piece) → ((b : ℕ) → 1 ≤ count b (ats xs) → P b) → All (λ x. P x.at) xs
unfolding ats
all_counted P [] s = tt
all_counted P (x ∷ xs) s =
    (s x.at (omega (arith, count_same x.at x.at (ats xs) refl)), all_counted P xs (λ b h. s b (omega (arith, count_cons b x.at (ats xs)))))

-- The image lays out one tree at most with these numbers, whatever its used count is said to be.
pub laid_one : (g : Geo) (I : List ℕ) (d : ℕ) (t t' : Tree d) (u w : ℕ) → Laid g I d t u → Laid g I d t' w → t ≡ t'
laid_one g I d t t' u w l m =
    tree_one (block_size g) (omega (arith, size_large g)) I d t t' l.good m.good (small t u l) (small t' w m) l.shown m.shown (l.root ∙ sym m.root)
  where
    small : (x : Tree d) (k : ℕ) → Laid g I d x k → All Small (render (block_size g) d x)
    small x k v =
        all_counted (λ b. (1 ≤ b) × (b < 2 ^ 32)) (render (block_size g) d x)
        (λ b h. let r = v.range b h in (omega (arith, (area g (length I) v.sound).maps), omega (arith, few g (length I) v.sound)))
