-- What an insert does to the blocks that a directory reaches: the entry's own come, and a new directory block if none had room. It begins where it did.
use mathlib.Core.Path.{◌≡◌, ap}
use mathlib.Core.Bool.{true, false}
use mathlib.Core.Logic.{◌⊎◌, inl, inr}
use mathlib.Core.List.{List, [], ◌∷◌, ◌++◌}
use Prim.Native.Nat.{ℕ, ◌+◌}
use native.Mathlib.Omega.{arith}
use lib.Dec.{leb}
use Rattle.wire.proofs.Picks.{either, pick_true, pick_false}
use Rattle.model.specs.Tree.{Entry, Block, weight, used, fill, Packed, insert}
use Rattle.model.specs.Render.{View, blocks_at, node_pieces, entry_pieces}
use Rattle.model.proofs.Counts.{tally, tally_append}

module _ {X : Type 0} (B cap w : ℕ) (v : View X) (e : Entry X) (i : ℕ) where
  entries_last : (es : List (Entry X)) → tally i (entry_pieces v (es ++ (e ∷ []))) ≡ tally i (entry_pieces v es) + tally i (node_pieces v e.node)
  unfolding entry_pieces
  entries_last [] = omega (arith, tally_append i (node_pieces v e.node) [], tally_append i [] [])
  entries_last (x ∷ es) = omega (arith, tally_append i (node_pieces v x.node) (entry_pieces v (es ++ (e ∷ []))), tally_append i (node_pieces v x.node) (entry_pieces v es), entries_last es)

-- The first block stays.
pub insert_at : {X : Type 0} (cap w : ℕ) (e : Entry X) (bs : List (Block X)) → Packed bs → blocks_at (insert cap w e bs) ≡ blocks_at bs
unfolding insert blocks_at
insert_at cap w e [] p = absurd p
insert_at {X} cap w e (b ∷ bs) p = go (either (leb (used b.entries + weight e) cap))
  where
    go : (leb (used b.entries + weight e) cap ≡ true) ⊎ (leb (used b.entries + weight e) cap ≡ false) → blocks_at (insert cap w e (b ∷ bs)) ≡ b.at
    go (inl c) = ap blocks_at (pick_true (fill (λ es. es ++ (e ∷ [])) b ∷ bs) (b ∷ insert cap w e bs) c)
    go (inr c) = ap blocks_at (pick_false (fill (λ es. es ++ (e ∷ [])) b ∷ bs) (b ∷ insert cap w e bs) c)
