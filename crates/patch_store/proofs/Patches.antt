-- The stores of a patch are the edit of the model: every byte of the image that they leave, on every well-formed volume.
use mathlib.Core.Path.{◌≡◌, sym, ap, ◌∙◌, subst}
use mathlib.Core.Option.{some}
use mathlib.Core.List.{List, ◌++◌}
use Prim.Native.Nat.{ℕ, ◌+◌, ◌-◌, ◌^◌, ◌≤◌, ◌<◌}
use native.Mathlib.Omega.{arith}
use lib.ListN.{length, length-append}
use Rattle.model.specs.Tree.{Name, Cell, Entry, Below, Tree, lookup, Some, find}
use Rattle.model.specs.Render.{cells_at, address_of, size_of, view}
use Rattle.model.specs.Geometry.{Geo, block_size}
use Rattle.model.specs.Volume.{blocks_for, GoodFile, Volume, max_depth}
use Rattle.model.specs.Calls.{free_blocks, file_entry, rewrite, rewritten, Makes, overlaid, TreePatches}
use Rattle.model.proofs.Areas.{size_large}
use Rattle.model.proofs.Contents.{blocks-some}
use Rattle.dir_entry.specs.declared.DirEntry.{DirEntry}
use Rattle.dir_entry.specs.Shown.{head_of}
use Rattle.read_dir.specs.declared.Place.{Place}
use Rattle.thm_walk.specs.Shown.{spot_of}
use Rattle.std.specs.declared.option.Option.TheVariants as option
use Rattle.own_entry.specs.Own.{own_renewed}
use Rattle.write_store.specs.Write.{resized, spread, wrote, HeldCells, CanWrite}
use Rattle.write_store.proofs.Resizes.{resized_same}
use Rattle.write_store.proofs.Writes.{good_file, file_held, can_write_is, wrote_makes}
use Rattle.patch_store.specs.Patch.{patched, CanPatch}
use Rattle.patch_store.proofs.Tails.{tail_from, tail_end, tail-chain, tail-spread}

module _ (g : Geo) (I : List ℕ) (t : Tree max_depth) (p : List Name) (n : Name) (s : Some) (x : Entry (Below s.0)) (k z : ℕ) (cs : List Cell) (e : DirEntry) (at : Place) (c : ℕ) (buf : List ℕ)
    (v : Volume g I max_depth t) (there : find max_depth p t ≡ some s) (l : lookup n s.1 ≡ some x) (is : x ≡ file_entry n k z cs) (head : e ≡ head_of (view (block_size g) s.0) x) (spot : at ≡ spot_of n s.1)
    (some_bytes : 1 ≤ length buf) (inside : c + length buf ≤ z) where
  abbrev B : ℕ
  B = block_size g

  abbrev vs : List ℕ
  vs = buf ++ tail_from z cs (c + length buf)

  found : lookup n s.1 ≡ some (file_entry n k z cs)
  found = l ∙ ap some is

  good : GoodFile (block_size g) z cs
  good = good_file g I max_depth t v p n s there k z cs found

  held : HeldCells g I cs
  held = file_held g I max_depth t v p n s there k z cs found

  five : 5 ≤ block_size g
  five = omega (arith, size_large g)

  -- ---- that write is one of a whole file

  pub whole_end : c + length (buf ++ tail_from z cs (c + length buf)) ≡ z
  whole_end = tail_end B z cs five good c buf inside

  whole_some : 1 ≤ length vs
  whole_some = omega (arith, length-append buf (tail_from z cs (c + length buf)))

  whole_room : blocks_for (block_size g) (c + length vs) - length cs ≤ length (free_blocks g max_depth t)
  whole_room = omega (arith, ap (blocks_for B) whole_end, good.long)

  head_size : e.size ≡ z
  unfolding head_of size_of file_entry
  head_size = ap (λ (y : DirEntry). y.size) head ∙ ap (λ (y : Entry (Below s.0)). size_of (view (block_size g) s.0) y.node) is

  head_addr : e.addr.0 ≡ cells_at cs
  unfolding head_of address_of file_entry
  head_addr = ap (λ (y : DirEntry). y.addr.0) head ∙ ap (λ (y : Entry (Below s.0)). address_of (view (block_size g) s.0) y.node) is

  can : CanWrite g I e at c (length vs)
  can = can_write_is g I t p n s x k z cs e at c vs v there l is head spot whole_some (omega arith) (omega (arith, whole_end, good.limit)) whole_room

  -- What `patch` requires holds there.
  pub can_patch_is : CanPatch g I e at c (length buf)
  can_patch_is = record {
    some_bytes = some_bytes;
    inside = omega (arith, head_size);
    limit = omega (arith, head_size, good.limit);
    chain = can.size.chain;
    entry = can.entry;
  }

  -- ---- the image

  -- An entry is renewed alike with the same size over the same bytes.
  renewed_as : (now : ℕ) (X Y : List ℕ) (y z : ℕ) → X ≡ Y → y ≡ z → own_renewed (block_size g) X (option.Some at) y now ≡ own_renewed (block_size g) Y (option.Some at) z now
  renewed_as now X Y y z a b = λ i. own_renewed (block_size g) (a i) (option.Some at) (b i) now

  -- The stores of a patch are those of a write of the buffer and of the file's own bytes behind it.
  pub patched-wrote : (now : ℕ) → patched g I e at c buf now ≡ wrote g I e at c (buf ++ tail_from z cs (c + length buf)) now
  unfolding patched wrote
  patched-wrote now =
      let m : ℕ = blocks_for B (c + length vs) in
      let same : blocks_for B e.size ≡ m = ap (blocks_for B) (head_size ∙ sym whole_end) in
      let old : I ≡ resized g I e.addr.0 (blocks_for B e.size) m
      = resized_same g I v.laid.sound e.addr.0 (blocks_for B e.size) m can.size.chain (blocks-some B five e.size) same in
      let bytes : spread B I e.addr.0 c buf (blocks_for B (c + length buf)) ≡ spread B I e.addr.0 c vs m
      = ap (λ (a : ℕ). spread B I a c buf (blocks_for B (c + length buf))) head_addr
      ∙ sym (tail-spread g I v.laid.sound z cs good held c buf some_bytes inside)
      ∙ ap (λ (a : ℕ). spread B I a c vs m) (sym head_addr) in
      renewed_as now _ _ _ _ bytes (omega (arith, head_size, whole_end))
      ∙ ap (λ (J : List ℕ). own_renewed B (spread B J e.addr.0 c vs m) (option.Some at) (c + length vs) now) old

  -- C19: for every well-formed volume and every file in it, the image that `patch` leaves (its contract) is that of `TreePatches`.
  pub patched_is : (now : ℕ) → now < 2 ^ 64 → TreePatches g max_depth p n now c buf t I (patched g I e at c buf now)
  patched_is now clock =
      record {
        size = z;
        time = k;
        cells = cs;
        occupied = record { dir = s; there = there; entry = x; held = l };
        is_file = is;
        some_bytes = some_bytes;
        inside = inside;
        makes = subst (Makes g max_depth t (rewritten max_depth p n now z (overlaid B c buf cs) t) I) (sym (patched-wrote now))
            (subst (λ (u : Tree max_depth). Makes g max_depth t u I (wrote g I e at c vs now)) same_tree
            (wrote_makes g I t p n s x k z cs e at c vs now v there l is head spot whole_some (omega arith) (omega (arith, whole_end, good.limit)) whole_room clock));
      }
    where
      same_tree : rewritten max_depth p n now (c + length vs) (rewrite (block_size g) (free_blocks g max_depth t) c vs cs) t ≡ rewritten max_depth p n now z (overlaid (block_size g) c buf cs) t
      same_tree = λ i. rewritten max_depth p n now (whole_end i) (tail-chain B z cs five good c buf inside (free_blocks g max_depth t) i) t
