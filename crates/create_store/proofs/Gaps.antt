-- Where a new entry goes in a directory of the tree, and what the directory becomes: a block with room, or none has it. And the bytes of a
-- block with one entry more.
use mathlib.Core.Path.{◌≡◌, refl, sym, ap, ◌∙◌}
use mathlib.Core.Bool.{true, false}
use mathlib.Core.Logic.{◌⊎◌, inl, inr}
use mathlib.Core.List.{List, [], ◌∷◌, ◌++◌, append_assoc}
use Prim.Native.Nat.{ℕ, ◌+◌, ◌-◌, ◌≤◌}
use native.Mathlib.Omega.{arith}
use lib.Dec.{leb}
use lib.ListN.{length, length-append}
use lib.Seq.{take-append_seam, drop-append-add, drop_at}
use borrow.Author.Tests.{leb-true}
use Rattle.wire.specs.Be.{bytes, splice, zeros}
use Rattle.wire.proofs.Numbers.{length_bytes, drop-zeros, splice-past}
use Rattle.wire.proofs.Picks.{either, pick_true, pick_false}
use Rattle.model.specs.Tree.{Name, Entry, Block, any, weight, used, fill, insert}
use Rattle.model.specs.Render.{padded}
use Rattle.model.specs.Calls.{has_room}
use Rattle.model.proofs.Full.{padded-none, zero_block}
use Rattle.read_dir.specs.Finds.{placed}
use Rattle.create_store.specs.declared.Spot.TheVariants.{In, After}
use Rattle.create_store.specs.Create.{spot_on}

module _ {X : Type 0} (cap : ℕ) (n : Name) where
  -- A block has room, and it is the first that has.
  pub record Gap (z : ℕ) (bs : List (Block X)) : Type 0 where
    pub earlier : List (Block X)
    pub block : Block X
    pub later : List (Block X)
    pub is : bs ≡ earlier ++ (block ∷ later)
    pub room : used block.entries + (18 + length n) ≤ cap
    pub spot : spot_on cap n z bs ≡ In (placed block.at (used block.entries))
    pub becomes : (w : ℕ) (e : Entry X) → e.name ≡ n → insert cap w e bs ≡ earlier ++ (fill (λ es. es ++ (e ∷ [])) block ∷ later)
    pub some : any (has_room cap n) bs ≡ true

  -- No block has room.
  pub record Full (z : ℕ) (bs : List (Block X)) : Type 0 where
    pub earlier : List (Block X)
    pub last : Block X
    pub is : bs ≡ earlier ++ (last ∷ [])
    pub spot : spot_on cap n z bs ≡ After (record { 0 = last.at })
    pub becomes : (w : ℕ) (e : Entry X) → e.name ≡ n → insert cap w e bs ≡ earlier ++ (last ∷ (record { at = w; entries = e ∷ [] } ∷ []))
    pub none : any (has_room cap n) bs ≡ false

  -- the test of an insert is the one that code makes
  same_test : (b : Block X) (e : Entry X) → e.name ≡ n → leb (used b.entries + weight e) cap ≡ has_room cap n b
  unfolding weight has_room
  same_test b e k = ap (λ (m : Name). leb (used b.entries + (18 + length m)) cap) k

  gap_here : (z : ℕ) (b : Block X) (bs : List (Block X)) → has_room cap n b ≡ true → Gap z (b ∷ bs)
  unfolding spot_on insert any has_room
  gap_here z b bs c = record {
    earlier = [];
    block = b;
    later = bs;
    is = refl;
    room = leb-true _ _ c;
    spot = pick_true _ _ c;
    becomes = λ w e k. pick_true _ _ ((unfold has_room in same_test b e k) ∙ c);
    some = pick_true _ _ c;
  }

  gap_there : (z : ℕ) (b : Block X) (bs : List (Block X)) → has_room cap n b ≡ false → Gap b.at bs → Gap z (b ∷ bs)
  unfolding spot_on insert any
  gap_there z b bs c g = record {
    earlier = b ∷ g.earlier;
    block = g.block;
    later = g.later;
    is = ap (λ (l : List (Block X)). b ∷ l) g.is;
    room = g.room;
    spot = pick_false _ _ c ∙ g.spot;
    becomes = λ w e k. pick_false _ _ (same_test b e k ∙ c) ∙ ap (λ (l : List (Block X)). b ∷ l) (g.becomes w e k);
    some = pick_false _ _ c ∙ g.some;
  }

  full_one : (z : ℕ) (b : Block X) → has_room cap n b ≡ false → Full z (b ∷ [])
  unfolding spot_on insert any
  full_one z b c = record {
    earlier = [];
    last = b;
    is = refl;
    spot = pick_false _ _ c;
    becomes = λ w e k. pick_false _ _ (same_test b e k ∙ c);
    none = pick_false _ _ c;
  }

  full_there : (z : ℕ) (b : Block X) (bs : List (Block X)) → has_room cap n b ≡ false → Full b.at bs → Full z (b ∷ bs)
  unfolding spot_on insert any
  full_there z b bs c g = record {
    earlier = b ∷ g.earlier;
    last = g.last;
    is = ap (λ (l : List (Block X)). b ∷ l) g.is;
    spot = pick_false _ _ c ∙ g.spot;
    becomes = λ w e k. pick_false _ _ (same_test b e k ∙ c) ∙ ap (λ (l : List (Block X)). b ∷ l) (g.becomes w e k);
    none = pick_false _ _ c ∙ g.none;
  }

  -- One or the other.
  pub gap : (z : ℕ) (b : Block X) (bs : List (Block X)) → Gap z (b ∷ bs) ⊎ Full z (b ∷ bs)
  gap z b [] = go (either (has_room cap n b))
    where
      go : (has_room cap n b ≡ true) ⊎ (has_room cap n b ≡ false) → Gap z (b ∷ []) ⊎ Full z (b ∷ [])
      go (inl c) = inl (gap_here z b [] c)
      go (inr c) = inr (full_one z b c)
  gap z b (x ∷ bs) = go (either (has_room cap n b)) (gap b.at x bs)
    where
      go : (has_room cap n b ≡ true) ⊎ (has_room cap n b ≡ false) → Gap b.at (x ∷ bs) ⊎ Full b.at (x ∷ bs) → Gap z (b ∷ (x ∷ bs)) ⊎ Full z (b ∷ (x ∷ bs))
      go (inl c) r = inl (gap_here z b (x ∷ bs) c)
      go (inr c) (inl r) = inl (gap_there z b (x ∷ bs) c r)
      go (inr c) (inr r) = inr (full_there z b (x ∷ bs) c r)

-- ---- the bytes of a block

-- a store where the zeros begin
splice_end : (l x : List ℕ) (k : ℕ) → splice (l ++ zeros k) (length l) x ≡ l ++ (x ++ zeros (k - length x))
unfolding splice
splice_end l x k = rw (take-append_seam l (zeros k), drop-append-add l (zeros k) (length x), drop-zeros (length x) k)

-- A block with x stored after its last entry.
pub block_more : (c z : ℕ) (l x : List ℕ) → splice (bytes 4 z ++ padded c l) (4 + length l) x ≡ bytes 4 z ++ padded c (l ++ x)
unfolding padded
block_more c z l x =
    let e : 4 + length l ≡ length (bytes 4 z) + length l = omega (arith, length_bytes 4 z) in
    let f : c - length l - length x ≡ c - length (l ++ x) = omega (arith, length-append l x) in
    ap (λ (k : ℕ). splice (bytes 4 z ++ (l ++ zeros (c - length l))) k x) e
    ∙ splice-past (bytes 4 z) (l ++ zeros (c - length l)) (length l) x
    ∙ ap (λ (y : List ℕ). bytes 4 z ++ y) (splice_end l x (c - length l) ∙ sym (append_assoc l x (zeros (c - length l - length x))) ∙ ap (λ (k : ℕ). (l ++ x) ++ zeros k) f)

-- A block with another next address.
pub block_linked : (z w : ℕ) (m : List ℕ) → splice (bytes 4 z ++ m) 0 (bytes 4 w) ≡ bytes 4 w ++ m
unfolding splice
block_linked z w m =
    let e : length (bytes 4 z) ≡ 0 + length (bytes 4 w) = omega (arith, length_bytes 4 z, length_bytes 4 w) in
    ap (λ (y : List ℕ). bytes 4 w ++ y) (drop_at (bytes 4 z) m (0 + length (bytes 4 w)) e)

-- A new block is one that ends its chain and has no entry.
pub new_block : (B : ℕ) → 4 ≤ B → zeros B ≡ bytes 4 0 ++ padded (B - 4) []
new_block B h = zero_block B h ∙ ap (λ (l : List ℕ). bytes 4 0 ++ l) (sym (padded-none (B - 4)))
