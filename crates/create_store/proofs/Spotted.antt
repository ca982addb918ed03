-- Where a new entry goes on a volume is where it goes in the tree.
use mathlib.Core.Path.{◌≡◌, sym, ap, ◌∙◌}
use mathlib.Core.Bool.{true, false}
use mathlib.Core.Logic.{◌⊎◌, inl, inr}
use mathlib.Core.Option.{some}
use mathlib.Core.List.{List, [], ◌∷◌}
use Prim.Native.Nat.{ℕ, zero, suc, ◌+◌, ◌-◌, ◌≤◌, ◌<◌}
use native.Mathlib.Nat.{add-zero}
use native.Mathlib.Omega.{arith}
use lib.ListN.{length}
use borrow.Author.Tests.{leb-true, leb-false}
use Rattle.wire.proofs.Picks.{either, pick_true, pick_false}
use Rattle.block.specs.Block.{next}
use Rattle.model.specs.Tree.{Name, Entry, Block, Below, Tree, weight, used, Some, find}
use Rattle.model.specs.Render.{View, blocks_at, padded, entries_bytes, dir_pieces, view, render, Shows}
use Rattle.model.specs.Geometry.{area_of, Geo, block_size, data_at, Sound}
use Rattle.model.specs.Volume.{All, GoodBlock, GoodBelow, Laid}
use Rattle.model.specs.Calls.{entry_room, has_room, to_create}
use Rattle.model.proofs.Areas.{area}
use Rattle.model.proofs.Sums.{chain_long}
use Rattle.dir_entry.specs.Entry.{header, place_at}
use Rattle.dir_entry.specs.Shown.{head_of}
use Rattle.dir_entry.proofs.Shown.{Legible, head_weight, first_shown, block_stops, slot_is}
use Rattle.read_dir.specs.Finds.{placed}
use Rattle.thm_walk.proofs.Parts.{Stored, Part, laid_part, part_find, stored_few, entries_legible, block_data, chain-after, below_stored, block_next, block_shown}
use Rattle.std.specs.Prelude.{Result, Ok}
use Rattle.limits.specs.declared.Damage.{Damage}
use Rattle.create_store.specs.declared.Spot.{Spot}
use Rattle.create_store.specs.declared.Spot.TheVariants.{In}
use Rattle.create_store.specs.Create.{stop_from, used_at, spot_from, spot_for, spot_on, needed}
use Rattle.create_store.proofs.Gaps.{Gap, Full, gap}
use Rattle.create_store.proofs.Spots.{stop_here, stop_past, spot_in, spot_after, spot_next}

-- a spot that is found
abbrev ok : Spot → Result Spot Damage
ok p = Ok p

-- ---- where a block's entries stop

module _ {X : Type 0} (B : ℕ) (I : List ℕ) (v : View X) (a : ℕ) where
  -- they stop where those of the tree end
  entries_stop : (es : List (Entry X)) (f o : ℕ) → B ≤ o + f → o + used es ≤ B - 5 → All (Legible v) es
      → Shows I (place_at B a o) (padded (B - 4 - o) (entries_bytes v es)) → stop_from B I f a o ≡ o + used es
  unfolding used entries_bytes
  entries_stop [] f o k h l s = stop_here B I a f o (block_stops B I v a o (omega arith) (unfold entries_bytes in s)) ∙ sym (add-zero o)
  entries_stop (e ∷ es) zero o k h l s = let y : 18 ≤ weight e = unfold weight in omega arith in absurd (omega arith)
  entries_stop (e ∷ es) (suc f) o k h l s =
      let q = first_shown B I v a o e es (unfold entries_bytes in s) in
      let w : 18 ≤ weight e = unfold weight in omega arith in
      let m : stop_from B I f a (o + weight e) ≡ o + weight e + used es = entries_stop es f (o + weight e) (omega arith) (omega arith) l.1 q.1 in
      stop_past B I a f o (head_of v e) (slot_is B I v a o e l.0 (omega arith) q.0)
      ∙ ap (stop_from B I f a) (head_weight v o e) ∙ m ∙ omega arith

module _ (g : Geo) (I : List ℕ) (sound : Sound g (length I)) (d : ℕ) where
  abbrev shows : View (Below d)
  shows = view (block_size g) d

  -- The bytes that a block's entries use on the image.
  block_used : (b : Block (Below d)) (bs : Tree d) → GoodBlock (block_size g) (GoodBelow (block_size g) d) b → Stored g I (dir_pieces (block_size g) shows (b ∷ bs))
      → used_at (block_size g) I b.at ≡ used b.entries
  block_used b bs a s =
      let e : All (Legible shows) b.entries = entries_legible g I sound d b.entries a.each (below_stored g I shows b bs s) in
      entries_stop (block_size g) I shows b.at b.entries (block_size g) 0 (omega arith) (omega (arith, a.fits)) e (block_shown g I shows b bs s) ∙ omega arith

  -- one block
  room_here : (n : Name) (b : Block (Below d)) (bs : Tree d) (k z : ℕ) → GoodBlock (block_size g) (GoodBelow (block_size g) d) b → Stored g I (dir_pieces (block_size g) shows (b ∷ bs))
      → has_room (entry_room g) n b ≡ true → spot_from (area_of g) I (length n) (suc k) b.at ≡ Ok (spot_on (entry_room g) n z (b ∷ bs))
  unfolding spot_on has_room
  room_here n b bs k z a s c =
      let r = block_data g I shows b bs s in
      let e = block_used b bs a s in
      spot_in (area_of g) I (length n) k b.at r.0 r.1 (omega (arith, e, leb-true (used b.entries + (18 + length n)) (entry_room g) c))
      ∙ ap (λ (u : ℕ). let r : Result Spot Damage = Ok (In (placed b.at u)) in r) e ∙ ap ok (sym (pick_true _ _ c))

  no_room_lem : (n : Name) (b : Block (Below d)) (bs : Tree d) → GoodBlock (block_size g) (GoodBelow (block_size g) d) b → Stored g I (dir_pieces (block_size g) shows (b ∷ bs))
      → has_room (entry_room g) n b ≡ false → block_size g - 5 < used_at (block_size g) I b.at + header + length n
  unfolding has_room
  no_room_lem n b bs a s c = omega (arith, block_used b bs a s, leb-false (used b.entries + (18 + length n)) (entry_room g) c)

  chain_spot : (n : Name) (b : Block (Below d)) (bs : Tree d) (k z : ℕ) → length bs ≤ k → All (GoodBlock (block_size g) (GoodBelow (block_size g) d)) (b ∷ bs)
      → Stored g I (dir_pieces (block_size g) shows (b ∷ bs)) → spot_from (area_of g) I (length n) (suc k) b.at ≡ Ok (spot_on (entry_room g) n z (b ∷ bs))
  unfolding spot_on blocks_at
  chain_spot n b [] k z h a s = go (either (has_room (entry_room g) n b))
    where
      go : (has_room (entry_room g) n b ≡ true) ⊎ (has_room (entry_room g) n b ≡ false)
          → spot_from (area_of g) I (length n) (suc k) b.at ≡ Ok (spot_on (entry_room g) n z (b ∷ []))
      go (inl c) = room_here n b [] k z a.0 s c
      go (inr c) =
          let r = block_data g I shows b [] s in
          spot_after (area_of g) I (length n) k b.at r.0 r.1 (no_room_lem n b [] a.0 s c) (block_next g I shows sound b [] s) ∙ ap ok (sym (pick_false _ _ c))
  chain_spot n b (x ∷ bs) zero z h a s = absurd (omega arith)
  chain_spot n b (x ∷ bs) (suc k) z h a s = go (either (has_room (entry_room g) n b)) (chain_spot n x bs k b.at (omega arith) a.1 (chain-after g I shows b (x ∷ bs) s))
    where
      go : (has_room (entry_room g) n b ≡ true) ⊎ (has_room (entry_room g) n b ≡ false)
          → spot_from (area_of g) I (length n) (suc k) x.at ≡ Ok (spot_on (entry_room g) n b.at (x ∷ bs))
          → spot_from (area_of g) I (length n) (suc (suc k)) b.at ≡ Ok (spot_on (entry_room g) n z (b ∷ (x ∷ bs)))
      go (inl c) r = room_here n b (x ∷ bs) (suc k) z a.0 s c
      go (inr c) r =
          let q = block_data g I shows b (x ∷ bs) s in
          let m : next (block_size g) I b.at ≡ x.at = block_next g I shows sound b (x ∷ bs) s in
          let w = block_data g I shows x bs (chain-after g I shows b (x ∷ bs) s) in
          spot_next (area_of g) I (length n) (suc k) b.at q.0 q.1 (no_room_lem n b (x ∷ bs) a.0 s c) (λ y. omega (arith, y, m, w.0, (area g (length I) sound).maps))
          ∙ ap (spot_from (area_of g) I (length n) (suc k)) m ∙ r ∙ ap ok (sym (pick_false _ _ c))

-- The spot in a directory that the image holds.
part_spot : (g : Geo) (I : List ℕ) (d : ℕ) (t : Tree d) (n : Name) → Part g I d t
    → spot_for (area_of g) I (blocks_at t) (length n) ≡ Ok (spot_on (entry_room g) n 0 t)
unfolding blocks_at render
part_spot g I d [] n p = absurd p.good.packed
part_spot g I d (b ∷ bs) n p =
    let h : length (b ∷ bs) ≤ g.n - data_at g = omega (arith, chain_long (block_size g) (view (block_size g) d) (b ∷ bs), stored_few g I _ p.stored) in
    let e : g.n - data_at g ≡ suc (g.n - data_at g - 1) = omega arith in
    ap (λ (k : ℕ). spot_from (area_of g) I (length n) k b.at) e
    ∙ chain_spot g I p.sound d n b bs (g.n - data_at g - 1) 0 (omega arith) p.good.all p.stored

-- The spot in a directory of a volume: its first block with room, where its entries end, or after its last one where none has room.
pub spot_is : (g : Geo) (I : List ℕ) (d : ℕ) (t : Tree d) (u : ℕ) (p : List Name) (n : Name) (s : Some) → Laid g I d t u → find d p t ≡ some s
    → spot_for (area_of g) I (blocks_at s.1) (length n) ≡ Ok (spot_on (entry_room g) n 0 s.1)
spot_is g I d t u p n s l f = part_spot g I s.0 s.1 n (part_find g I d p t s (laid_part g I d t u l) f)

-- ---- how many blocks a create adds

pub spot_needs : {X : Type 0} (cap : ℕ) (n : Name) (z : ℕ) (b : Block X) (bs : List (Block X)) → needed (spot_on cap n z (b ∷ bs)) ≡ to_create cap n (b ∷ bs)
unfolding to_create
spot_needs {X} cap n z b bs = go (gap cap n z b bs)
  where
    go : Gap cap n z (b ∷ bs) ⊎ Full cap n z (b ∷ bs) → needed (spot_on cap n z (b ∷ bs)) ≡ to_create cap n (b ∷ bs)
    go (inl r) = ap needed r.spot ∙ sym (pick_true {A = ℕ} 1 2 r.some)
    go (inr r) = ap needed r.spot ∙ sym (pick_false {A = ℕ} 1 2 r.none)
