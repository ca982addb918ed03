-- What the code of a delete needs and gives: one law for each place.
use mathlib.Core.Path.{◌≡◌, sym, ap, ◌∙◌}
use mathlib.Core.Bool.{Bool, true, false}
use mathlib.Core.Logic.{◌⊎◌, inl, inr}
use mathlib.Core.List.{List}
use Rattle.std.specs.Prelude.{Some, None}
use Prim.Native.Nat.{ℕ, suc, ◌+◌, ◌-◌, ◌*◌, ◌≤◌, ◌<◌}
use native.Mathlib.Nat.{add-zero}
use native.Mathlib.Omega.{arith}
use lib.ListN.{length, take, drop}
use borrow.Author.Tests.{eq-eqb, ne_eqb, le-leb, lt-leb}
use Rattle.wire.specs.Be.{splice, zeros}
use Rattle.wire.specs.Pick.{zero_from}
use Rattle.wire.proofs.Picks.{pick_true, pick_false}
use Rattle.block.specs.Block.{next, linked}
use Rattle.model.specs.Geometry.{block_size, data_at}
use Rattle.super_block.specs.declared.SuperBlock.{SuperBlock}
use Rattle.super_block.specs.Super.{geo_of, Fit}
use Rattle.super_block.proofs.Fits.{fit_long}
use Rattle.dir_entry.specs.declared.DirEntry.{DirEntry}
use Rattle.dir_entry.specs.Entry.{header, place_at}
use Rattle.read_dir.specs.declared.Place.{Place}
use Rattle.own_entry.specs.Own.{Own, OwnIn, sum_renewed}
use Rattle.chain_store.specs.Chain.{released, chain_freed}
use Rattle.delete_store.specs.Delete.{cut_out, before_from, unlinked, less_bare, entry_gone, removed}

-- ---- what calls ask

pub own_still : (B : ℕ) (I J L : List ℕ) (o : Own) → OwnIn B I o → length J ≡ length I → length L ≡ length J → OwnIn B L o
own_still B I J L None h e f = tt
own_still B I J L (Some p) h e f = (omega (arith, h.0), h.1)

pub fit_twice : (s : SuperBlock) (I J L : List ℕ) → Fit s I → length J ≡ length I → length L ≡ length J → Fit s L
fit_twice s I J L f d e = fit_long (e ∙ d) f

-- ---- the block before: after i of e rounds, which began at D, what is left to walk is what was to be walked

module _ (B n : ℕ) (I : List ℕ) (e i a b r : ℕ) (v : before_from B n I (e - i) a b ≡ r) where
  pub before_end : e ≤ i → a ≡ r
  unfolding before_from
  before_end h = let z : e - i ≡ 0 = omega arith in sym (ap (λ (k : ℕ). before_from B n I k a b) z) ∙ v

  module _ (more : i < e) (to : ℕ) (x : to ≡ next B I a) where
    one : before_from B n I (e - i) a b ≡ before_from B n I (suc (e - (i + 1))) a b
    one = let z : e - i ≡ suc (e - (i + 1)) = omega arith in ap (λ (j : ℕ). before_from B n I j a b) z

    reads : next B I a ≡ to
    reads = sym x

    pub before_stop : (to ≡ b) ⊎ ((to ≡ b → ⊥) × (n ≤ to)) → a ≡ r
    unfolding before_from
    before_stop (inl q) = sym (one ∙ pick_true _ _ (eq-eqb (next B I a) b (reads ∙ q))) ∙ v
    before_stop (inr (q, h)) =
        sym (one ∙ pick_false _ _ (ne_eqb (next B I a) b (λ w. q (sym reads ∙ w)))
        ∙ pick_true _ _ (le-leb n (next B I a) (omega (arith, reads)))) ∙ v

    pub before_more : (to ≡ b → ⊥) → to < n → before_from B n I (e - (i + 1)) to b ≡ r
    unfolding before_from
    before_more q h =
        ap (λ (z : ℕ). before_from B n I (e - (i + 1)) z b) (sym reads)
        ∙ sym (one ∙ pick_false _ _ (ne_eqb (next B I a) b (λ w. q (sym reads ∙ w)))
        ∙ pick_false _ _ (lt-leb n (next B I a) (omega (arith, reads)))) ∙ v

-- ---- a block that is emptied

-- In the laws below z and m are the size and the address of the linked block that code makes.

pub unlink_is : (s : SuperBlock) (I J L : List ℕ) (dir b to last z m : ℕ) → Fit s I → to ≡ next s.size I b
    → last ≡ before_from s.size s.blocks I (s.blocks - s.area.0) dir b → z ≡ s.size → m ≡ last → J ≡ linked z I m to
    → L ≡ released (geo_of s) J b → L ≡ unlinked (geo_of s) I dir b
unfolding unlinked
unlink_is s I J L dir b to last z m f x y v w j l =
    let B : ℕ = block_size (geo_of s) in
    let p : last ≡ before_from B s.blocks I (s.blocks - data_at (geo_of s)) dir b
    = y ∙ (λ i. before_from (f.size i) s.blocks I (s.blocks - f.area i) dir b) in
    let q : to ≡ next B I b = x ∙ ap (λ (k : ℕ). next k I b) f.size in
    l ∙ ap (λ (K : List ℕ). released (geo_of s) K b) (j ∙ (λ i. linked ((v ∙ f.size) i) I ((w ∙ p) i) (q i)))

module _ (s : SuperBlock) (I : List ℕ) (dir b : ℕ) where
  pub bare_first : b ≡ dir → I ≡ less_bare (geo_of s) I dir b
  unfolding less_bare
  bare_first e = sym (pick_true _ _ (eq-eqb b dir e))

  module _ (f : Fit s I) (z m at k : ℕ) (r : Bool) (n : b ≡ dir → ⊥) (v : z ≡ s.size) (w : m ≡ b)
      (p : at ≡ place_at z m 0) (c : k ≡ z - 4) (q : r ≡ zero_from I at k) where
    tested : zero_from I (block_size (geo_of s) * b + 4) (block_size (geo_of s) - 4) ≡ r
    tested =
        let x : at ≡ s.size * b + 4 = rw (v, w, add-zero) at p in
        let y : k ≡ s.size - 4 = rw v at c in
        sym (q ∙ (λ i. zero_from I (x i) (y i)) ∙ ap (λ (B : ℕ). zero_from I (B * b + 4) (B - 4)) f.size)

    pub bare_kept : r ≡ false → I ≡ less_bare (geo_of s) I dir b
    unfolding less_bare
    bare_kept e = sym (pick_false _ _ (ne_eqb b dir n) ∙ pick_false _ _ (tested ∙ e))

    pub bare_gone : r ≡ true → (J : List ℕ) → J ≡ unlinked (geo_of s) I dir b → J ≡ less_bare (geo_of s) I dir b
    unfolding less_bare
    bare_gone e J h = h ∙ sym (pick_false _ _ (ne_eqb b dir n) ∙ pick_true _ _ (tested ∙ e))

-- ---- the whole

-- the bytes that move down and the zeros behind them, as code stores them
pub cut_is : (B : ℕ) (I J L : List ℕ) (a o w at k : ℕ) → at ≡ place_at B a o → k ≡ B - 4
    → J ≡ splice I at (take (k - (o + w)) (drop (at + w) I))
    → L ≡ splice J (at + (k - (o + w))) (zeros w) → L ≡ cut_out B I a o w
unfolding cut_out
cut_is B I J L a o w at k e c h j =
    j ∙ ap (λ (K : List ℕ). splice K (at + (k - (o + w))) (zeros w)) h
    ∙ (λ i. splice (splice I (e i) (take (c i - (o + w)) (drop (e i + w) I))) (e i + (c i - (o + w))) (zeros w))

pub gone_is : (s : SuperBlock) (I J L : List ℕ) (dir : ℕ) (e : DirEntry) (p : Place) (z m : ℕ) → Fit s I → z ≡ s.size
    → m ≡ p.block.0 → J ≡ cut_out z I m p.offset (18 + e.len) → L ≡ less_bare (geo_of s) J dir p.block.0
    → L ≡ entry_gone (geo_of s) I dir e p
unfolding entry_gone
gone_is s I J L dir e p z m f v w x y =
    y ∙ ap (λ (K : List ℕ). less_bare (geo_of s) K dir p.block.0)
    (x ∙ (λ i. cut_out ((v ∙ f.size) i) I (w i) p.offset (header + e.len)))

pub removed_in : (s : SuperBlock) (I J L M : List ℕ) (dir : ℕ) (e : DirEntry) (p : Place) (own : Own) (time : ℕ) → Fit s I → J ≡ entry_gone (geo_of s) I dir e p
    → L ≡ chain_freed (geo_of s) J (s.blocks - s.area.0) e.addr.0 → M ≡ sum_renewed (geo_of s) L dir own time → M ≡ removed (geo_of s) I dir e p own time
unfolding removed
removed_in s I J L M dir e p own time f x y z =
    z ∙ ap (λ (K : List ℕ). sum_renewed (geo_of s) K dir own time)
    (y ∙ (λ i. chain_freed (geo_of s) (x i) (s.blocks - f.area i) e.addr.0))
