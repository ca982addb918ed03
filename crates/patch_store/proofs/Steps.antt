-- What the code of a patch needs, and where it ends.
use mathlib.Core.Path.{◌≡◌, ap, ◌∙◌}
use mathlib.Core.List.{List}
use Prim.Native.Nat.{ℕ, ◌+◌, ◌-◌, ◌*◌, ◌/◌, ◌≤◌}
use native.Mathlib.Nat.{div-le_of_le-mul}
use native.Mathlib.Omega.{arith}
use lib.ListN.{length}
use Rattle.model.specs.Geometry.{block_size}
use Rattle.model.specs.Volume.{blocks_for}
use Rattle.model.proofs.Contents.{blocks-some, blocks_enough, blocks_least}
use Rattle.super_block.specs.declared.SuperBlock.{SuperBlock}
use Rattle.super_block.specs.Super.{geo_of, Fit}
use Rattle.dir_entry.specs.declared.DirEntry.{DirEntry}
use Rattle.read_dir.specs.declared.Place.{Place}
use Rattle.std.specs.declared.option.Option.TheVariants as option
use Rattle.own_entry.specs.Own.{own_renewed}
use Rattle.write_store.specs.Write.{Along, spread}
use Rattle.write_store.proofs.Hops.{along_less}
use Rattle.write_store.proofs.Loops.{chain_along}
use Rattle.patch_store.specs.Patch.{patched, CanPatch}

module _ (s : SuperBlock) (I : List ℕ) (f : Fit s I) (e : DirEntry) (p : Place) (c len : ℕ) (w : CanPatch (geo_of s) I e p c len)
    (m : ℕ) (n : m ≡ blocks_for s.size (c + len)) where
  five : 5 ≤ s.size
  five = omega (arith, f.known.least)

  pub first_block : c / (s.size - 4) ≤ m
  first_block =
      div-le_of_le-mul (s.size - 4) (omega (arith, blocks_enough s.size five (c + len), ap (λ (x : ℕ). (s.size - 4) * x) n))

  -- no block behind the file's is needed
  few_blocks : m ≤ blocks_for (block_size (geo_of s)) e.size
  few_blocks =
      let k : ℕ = blocks_for s.size e.size in
      let q : blocks_for s.size (c + len) ≤ k
      = blocks_least s.size five (c + len) k (blocks-some s.size five e.size)
      (omega (arith, blocks_enough s.size five e.size, w.inside)) in
      omega (arith, n, q, ap (λ (B : ℕ). blocks_for B e.size) f.size)

  pub patch_along : Along (geo_of s) I e.addr.0 m
  patch_along = along_less (geo_of s) I e.addr.0 (blocks_for (block_size (geo_of s)) e.size) m few_blocks
      (chain_along (geo_of s) I e.addr.0 (blocks_for (block_size (geo_of s)) e.size) f.sound w.chain)

-- the stores, one after the other
pub patch_is : (s : SuperBlock) (I J L : List ℕ) (e : DirEntry) (p : Place) (c : ℕ) (vs : List ℕ) (time m : ℕ)
    → Fit s I → m ≡ blocks_for s.size (c + length vs) → J ≡ spread s.size I e.addr.0 c vs m
    → L ≡ own_renewed s.size J (option.Some p) e.size time → L ≡ patched (geo_of s) I e p c vs time
unfolding patched
patch_is s I J L e p c vs time m f n j l =
    let y : m ≡ blocks_for (block_size (geo_of s)) (c + length vs) = n ∙ ap (λ (B : ℕ). blocks_for B (c + length vs)) f.size in
    l ∙ (λ i. own_renewed (f.size i) (j i) (option.Some p) e.size time)
    ∙ (λ i. own_renewed (block_size (geo_of s)) (spread (f.size i) I e.addr.0 c vs (y i)) (option.Some p) e.size time)
