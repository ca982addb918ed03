-- What a changing call makes of an image is one image; each accepted call is a step; and what no call touches.
use mathlib.Core.Path.{◌≡◌, refl, sym, ap, ◌∙◌, subst}
use mathlib.Core.Logic.{◌⊎◌, inl, inr}
use mathlib.Core.Option.{Option, some}
use mathlib.Core.List.{List, [], ◌∷◌}
use Prim.Native.Nat.{ℕ, ◌+◌, ◌≤◌, ◌<◌}
use native.Mathlib.Omega.{arith}
use native.Mathlib.Decide.{dec_lt}
use lib.ListN.{length}
use Rattle.block.specs.Block.{cell, Kept}
use Rattle.block.proofs.Blocks.{kept_refl, kept_less}
use Rattle.model.specs.Tree.{Below, Name, Cell, Entry, Tree, then, lookup, Some, find}
use Rattle.model.specs.Render.{blocks, count}
use Rattle.model.specs.Geometry.{Geo, block_size, map_at, data_at}
use Rattle.model.specs.Volume.{Volume}
use Rattle.model.specs.Calls.{file_of, free_blocks, entry_room, entry_block, dir_block, file_entry, created, created_dir, empty_cell, deleted, rewrite, rewritten, Outside, Makes, TreeCreatesFile, TreeCreatesDir, TreeDeletes, TreeWrites}
use Rattle.model.specs.Steps.{Step, quiet, create, write, remove, Bytes}
use Rattle.model.proofs.Areas.{area}
use Rattle.model.proofs.Exact.{image_one}
use Rattle.model.proofs.Lists.{then_some}

-- ---- one image

-- What a call makes of an image is one image.
pub makes_one : (g : Geo) (d : ℕ) (t u : Tree d) (I J J' : List ℕ) → Bytes J → Bytes J' → Makes g d t u I J → Makes g d t u I J' → J ≡ J'
unfolding cell
makes_one g d t u I J J' x y m m' =
    sym (image_one g d u J J' m.volume m'.volume x y (record {
      size = m'.frame.size ∙ sym m.frame.size;
      at = λ b o out h. go b o out h (dec_lt 0 (count b (blocks (block_size g) d t)));
    }))
  where
    go : (b o : ℕ) → Outside g d u b → o < block_size g → Dec (0 < count b (blocks (block_size g) d t)) → cell (block_size g) J' b o ≡ cell (block_size g) J b o
    go b o out h (yes c) = m'.wiped b c out.not_reached o h ∙ sym (m.wiped b c out.not_reached o h)
    go b o out h (no c) = m'.frame.at b o (out, omega arith) h ∙ sym (m.frame.at b o (out, omega arith) h)

-- ---- one outcome

-- there is one directory at a path
dir_one : (d : ℕ) (p : List Name) (t : Tree d) (s r : Some) → find d p t ≡ some s → find d p t ≡ some r → s ≡ r
dir_one d p t s r a b = cc

-- and in it one file of a name
abbrev pub file_in : Name → Some → Option (ℕ × ℕ × List Cell)
file_in n s = then (lookup n s.1) (λ e. file_of e.time e.node)

file_in_lem : (g : Geo) (d : ℕ) (p : List Name) (n : Name) (now c : ℕ) (buf : List ℕ) (t : Tree d) (I J : List ℕ) (w : TreeWrites g d p n now c buf t I J)
    → file_in n w.occupied.dir ≡ some (w.size, w.time, w.cells)
unfolding file_of file_entry
file_in_lem g d p n now c buf t I J w =
    then_some (λ e. file_of e.time e.node) w.occupied.held ∙ ap (λ (e : Entry (Below w.occupied.dir.0)). file_of e.time e.node) w.is_file

cells_one : (o : Option (ℕ × ℕ × List Cell)) (s k s' k' : ℕ) (cs cs' : List Cell) → o ≡ some (s, k, cs) → o ≡ some (s', k', cs') → cs' ≡ cs
cells_one o s k s' k' cs cs' a b =
    let e : ◌≡◌ {A = ℕ × ℕ × List Cell} (s', k', cs') (s, k, cs) = cc in
    ap (λ (z : ℕ × ℕ × List Cell). z.2) e

-- Each accepted call gives one image.
module _ (g : Geo) (d : ℕ) (p : List Name) (n : Name) (now : ℕ) (t : Tree d) (I J J' : List ℕ) (x : Bytes J) (y : Bytes J') where
  pub creates_file_one : TreeCreatesFile g d p n now t I J → TreeCreatesFile g d p n now t I J' → J ≡ J'
  creates_file_one c c' =
      let e : c'.vacant.dir ≡ c.vacant.dir = dir_one d p t _ _ c'.vacant.there c.vacant.there in
      makes_one g d t _ I J J' x y c.makes
      (subst (λ (s : Some). Makes g d t (created d (entry_room g) p n now (dir_block (free_blocks g d t)) 0 (empty_cell g (entry_block g n s.1 (free_blocks g d t)) ∷ []) t) I J') e c'.makes)

  pub creates_dir_one : TreeCreatesDir g d p n now t I J → TreeCreatesDir g d p n now t I J' → J ≡ J'
  creates_dir_one c c' =
      let e : c'.vacant.dir ≡ c.vacant.dir = dir_one d p t _ _ c'.vacant.there c.vacant.there in
      makes_one g d t _ I J J' x y c.makes
      (subst (λ (s : Some). Makes g d t (created_dir d (entry_room g) p n now (dir_block (free_blocks g d t)) (entry_block g n s.1 (free_blocks g d t)) t) I J') e c'.makes)

  pub deletes_one : TreeDeletes g d p n now t I J → TreeDeletes g d p n now t I J' → J ≡ J'
  deletes_one c c' = makes_one g d t _ I J J' x y c.makes c'.makes

  pub writes_one : (c : ℕ) (buf : List ℕ) → TreeWrites g d p n now c buf t I J → TreeWrites g d p n now c buf t I J' → J ≡ J'
  writes_one c buf w w' =
      let e : w'.occupied.dir ≡ w.occupied.dir = dir_one d p t _ _ w'.occupied.there w.occupied.there in
      let k : w'.cells ≡ w.cells
      = cells_one _ _ _ _ _ _ _ (file_in_lem g d p n now c buf t I J w) (ap (file_in n) (sym e) ∙ file_in_lem g d p n now c buf t I J' w') in
      makes_one g d t _ I J J' x y w.makes
      (subst (λ (cs : List Cell). Makes g d t (rewritten d p n now (c + length buf) (rewrite (block_size g) (free_blocks g d t) c buf cs) t) I J') k w'.makes)

-- ---- each accepted call is a step

module _ (g : Geo) (d : ℕ) (p : List Name) (n : Name) (now : ℕ) (t : Tree d) (I J : List ℕ) where
  pub creates_file_step : (c : TreeCreatesFile g d p n now t I J)
      → Step g d p n I t J (created d (entry_room g) p n now (dir_block (free_blocks g d t)) 0 (empty_cell g (entry_block g n c.vacant.dir.1 (free_blocks g d t)) ∷ []) t)
  creates_file_step c = create now _ 0 _ c.vacant refl c.makes

  pub deletes_step : TreeDeletes g d p n now t I J → Step g d p n I t J (deleted d p n now t)
  deletes_step c = remove now c.occupied refl c.makes

  pub writes_step : (c : ℕ) (buf : List ℕ) (w : TreeWrites g d p n now c buf t I J)
      → Step g d p n I t J (rewritten d p n now (c + length buf) (rewrite (block_size g) (free_blocks g d t) c buf w.cells) t)
  writes_step c buf w = write now _ _ w.occupied refl w.makes

-- ---- what no call touches

-- Block b is below the superblock, or the one after it, or past the volume's last.
abbrev pub Elsewhere : Geo → ℕ → Type 0
Elsewhere g b = (b < g.K) ⊎ ((b ≡ g.K + 1) ⊎ (g.n ≤ b))

-- a block that a volume's tree reaches is a data block
none_in : (g : Geo) (I : List ℕ) (d : ℕ) (t : Tree d) → Volume g I d t → (b : ℕ) → (data_at g ≤ b → b < g.n → ⊥) → count b (blocks (block_size g) d t) ≡ 0
none_in g I d t v b z = go (dec_lt 0 (count b (blocks (block_size g) d t)))
  where
    go : Dec (0 < count b (blocks (block_size g) d t)) → count b (blocks (block_size g) d t) ≡ 0
    go (yes q) = let r = v.laid.range b q in absurd (z r.0 r.1)
    go (no q) = omega arith

-- Blocks that are no part of the volume stay.
elsewhere_kept : (g : Geo) (d : ℕ) (t u : Tree d) (I J : List ℕ) → Volume g I d t → Makes g d t u I J → Kept (block_size g) (λ b o. Elsewhere g b) I J
elsewhere_kept g d t u I J v m = kept_less (λ b o e. out b e) m.frame
  where
    outside : (b : ℕ) → (b ≡ g.K → ⊥) → (map_at g ≤ b → b < g.n → ⊥) → Outside g d u b × (count b (blocks (block_size g) d t) ≡ 0)
    outside b h k =
        let a = area g (length J) m.volume.laid.sound in
        let apart : data_at g ≤ b → b < g.n → ⊥ = λ x y. k (omega arith) y in
        (record { not_super = h; not_map = λ x y. k x (omega arith); not_reached = none_in g J d u m.volume b apart }, none_in g I d t v b apart)

    out : (b : ℕ) → Elsewhere g b → Outside g d u b × (count b (blocks (block_size g) d t) ≡ 0)
    out b (inl e) = outside b (λ k. omega arith) (λ x y. omega arith)
    out b (inr (inl e)) = outside b (λ k. omega arith) (λ x y. omega arith)
    out b (inr (inr e)) = outside b (λ k. omega arith) (λ x y. omega arith)

-- No call at a path touches a block that is no part of the volume.
pub step_elsewhere : (g : Geo) (d : ℕ) (p : List Name) (n : Name) (I J : List ℕ) (t u : Tree d) → Volume g I d t → Step g d p n I t J u → Kept (block_size g) (λ b o. Elsewhere g b) I J
step_elsewhere g d p n I J t u v (quiet e k) = subst (Kept (block_size g) (λ b o. Elsewhere g b) I) (sym e) (kept_refl I)
step_elsewhere g d p n I J t u v (create now w s cs o e m) = elsewhere_kept g d t u I J v m
step_elsewhere g d p n I J t u v (write now s cs o e m) = elsewhere_kept g d t u I J v m
step_elsewhere g d p n I J t u v (remove now o e m) = elsewhere_kept g d t u I J v m
