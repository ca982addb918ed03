-- What a deleted entry stands for is one chain: a file's or a device's blocks, or the one block of a directory without entries.
use mathlib.Core.Path.{◌≡◌, refl, sym, ap, subst}
use mathlib.Core.List.{List, [], ◌∷◌, ◌++◌}
use Prim.Native.Nat.{ℕ, zero, suc, ◌-◌}
use Rattle.wire.specs.Be.{bytes}
use Rattle.model.specs.Tree.{Cell, Node, file, device, sub, Below, Tree, blank, Bare, NoEntries}
use Rattle.model.specs.Render.{Piece, cells_at, blocks_at, address_of, padded, entries_bytes, cell_pieces, node_pieces, entry_pieces, dir_pieces, view}
use Rattle.model.specs.Volume.{GoodNode, GoodBelow, GoodTree}
use Rattle.model.proofs.Levels.{bare_blank}
use Rattle.delete_store.proofs.Frees.{first_at, Chained}

-- the pieces are a chain that begins at address a
abbrev pub ChainAt : List Piece → ℕ → Type 0
ChainAt xs a = Chained xs × (first_at xs ≡ a)

cells_first : (cs : List Cell) → first_at (cell_pieces cs) ≡ cells_at cs
unfolding first_at cell_pieces cells_at
cells_first [] = refl
cells_first (c ∷ cs) = refl

cells_chained : (cs : List Cell) → Chained (cell_pieces cs)
unfolding cell_pieces
cells_chained [] = tt
cells_chained (c ∷ cs) = ((c.body, ap (λ (z : ℕ). bytes 4 z ++ c.body) (sym (cells_first cs))), cells_chained cs)

blank_chained : (B d a : ℕ) → ChainAt (dir_pieces B (view B d) (blank d a)) a
unfolding blank dir_pieces entry_pieces first_at blocks_at
blank_chained B d a = (((padded (B - 4) (entries_bytes (view B d) []), refl), tt), refl)

sub_chained : (B d : ℕ) (t : Tree d) → GoodTree B d t → NoEntries t → ChainAt (dir_pieces B (view B d) t) (blocks_at t)
sub_chained B d t g n = subst (λ (z : Tree d). ChainAt (dir_pieces B (view B d) z) (blocks_at t)) (sym (bare_blank B d t g n)) (blank_chained B d (blocks_at t))

pub node_chained : (B d : ℕ) (x : Node (Below d)) → GoodNode B (GoodBelow B d) x → Bare d x → ChainAt (node_pieces (view B d) x) (address_of (view B d) x)
unfolding node_pieces address_of view GoodBelow
node_chained B zero (file s cs) g b = (cells_chained cs, cells_first cs)
node_chained B zero (device s cs) g b = (cells_chained cs, cells_first cs)
node_chained B zero (sub x) g b = absurd b
node_chained B (suc d) (file s cs) g b = (cells_chained cs, cells_first cs)
node_chained B (suc d) (device s cs) g b = (cells_chained cs, cells_first cs)
node_chained B (suc d) (sub x) g b = sub_chained B d x g b
