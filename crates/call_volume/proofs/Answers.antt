-- What the public functions know where they answer: one law for each answer.
use Rattle.std.specs.Prelude.{Result, Ok, Err}
use mathlib.Core.Path.{◌≡◌, sym, ap, ◌∙◌, subst}
use mathlib.Core.List.{List, [], ◌∷◌}
use mathlib.Core.Logic.{◌⊎◌, inl}
use Prim.Native.Nat.{ℕ, ◌+◌, ◌-◌, ◌*◌, ◌≤◌, ◌<◌}
use native.Mathlib.Omega.{arith}
use lib.ListN.{length}
use borrow.Author.Tests.{lt-ltb, le-ltb}
use Rattle.wire.proofs.Numbers.{length-splice}
use Rattle.block.specs.Block.{BlockSize, zeroed, Kept}
use Rattle.block.proofs.Blocks.{zeroed_kept}
use Rattle.model.specs.Render.{Shows}
use Rattle.model.proofs.Areas.{block_inside}
use Rattle.model.proofs.Commit.{shows_stored}
use Rattle.model.proofs.Demand.{whole_super}
use Rattle.model.proofs.Entries.{be_shown}
use Rattle.model.proofs.OneVolume.{top_reads}
use Rattle.model.proofs.Owns.{shows_kept}
use Rattle.model.specs.Answers.{accepted, refused, first_of, reply}
use Rattle.limits.specs.Refusals.{refusal_number}
use Rattle.limits.specs.declared.Refusal.{Refusal}
use Rattle.limits.specs.declared.Refusal.TheVariants.{Damaged}
use Rattle.model.specs.Geometry.{Mount, Geo, super_bytes, block_size, map_at, data_at, bit_end, geo_at, used_count, open_refusal}
use Rattle.model.proofs.Opens.{when_true, when_false, first_of_head, first_of_tail, first_of_one}
use Rattle.model.proofs.Replies.{reply-none, settle-none}
use Rattle.limits.proofs.Numbers.{reply-refused, settle-refused, number_some}
use Rattle.super_block.specs.declared.SuperBlock.{SuperBlock}
use Rattle.super_block.specs.Super.{geo_of, Fit, OpenedIs, MadeIs, super_written}
use Rattle.super_block.proofs.Fits.{placed, opened_fit, opened-geo, made_fit, made_geo, fit_long}
use Rattle.bitmap_block.specs.Bitmap.{taken}
use Rattle.limits.specs.Says.{says}
use Rattle.call_volume.specs.declared.Space.{Space}
use Rattle.call_volume.specs.Format.{formatted, Formats, overused, usage_refusal, sizes_of, Uses}

-- ---- an opened volume

module _ (M : Mount) (I : List ℕ) where
  module _ (s : SuperBlock) (o : OpenedIs M I (Ok s)) where
    pub opened_at : Fit s I
    opened_at = opened_fit M I s o.0 o.1

    -- usage, from the answer that the numbers and the count give
    pub usage_sized : (u : ℕ) (q : Result Space Refusal) → u ≡ used_count (geo_of s) I
        → says q ≡ reply (overused (geo_of s) u) (sizes_of (geo_of s) u) → Uses M I q
    unfolding usage_refusal
    usage_sized u q f h =
        let g : geo_of s ≡ geo_at M I = opened-geo M I s o.1 in
        let v : u ≡ used_count (geo_at M I) I = f ∙ ap (λ (x : Geo). used_count x I) g in
        let t : overused (geo_of s) u ≡ overused (geo_at M I) (used_count (geo_at M I) I) = ap (λ (x : Geo). overused x u) g ∙ ap (overused (geo_at M I)) v in
        let z : sizes_of (geo_of s) u ≡ sizes_of (geo_at M I) (used_count (geo_at M I) I) = ap (λ (x : Geo). sizes_of x u) g ∙ ap (sizes_of (geo_at M I)) v in
        let w : first_of (open_refusal M I ∷ (overused (geo_at M I) (used_count (geo_at M I) I) ∷ [])) ≡ overused (geo_at M I) (used_count (geo_at M I) I)
        = first_of_tail _ _ o.0 ∙ first_of_one (overused (geo_at M I) (used_count (geo_at M I) I)) in
        h ∙ ap (λ (k : ℕ). reply k (sizes_of (geo_of s) u)) (t ∙ sym w) ∙ ap (reply _) z

  pub usage_refused : (x : Refusal) → OpenedIs M I (Err x) → Uses M I (Err x)
  unfolding usage_refusal
  usage_refused x f =
      let h : first_of (open_refusal M I ∷ (overused (geo_at M I) (used_count (geo_at M I) I) ∷ [])) ≡ refusal_number x
      = first_of_head _ _ (omega (arith, f, number_some x)) ∙ f in
      sym (reply-refused _ x h)

-- ---- usage, by the count

pub sizes_over : (g : Geo) (u : ℕ) → g.n < u → refused 17 ≡ reply (overused g u) (sizes_of g u)
unfolding overused
sizes_over g u h = sym (reply-refused (sizes_of g u) Damaged (when_true 17 (lt-ltb g.n u h)))

pub sizes_in : (s : SuperBlock) (u a t : ℕ) → s.size ≡ block_size (geo_of s) → u ≤ s.blocks → a ≡ s.blocks * s.size → t ≡ u * s.size
    → accepted (record { size = a; used = t; free = a - t }) ≡ reply (overused (geo_of s) u) (sizes_of (geo_of s) u)
unfolding overused sizes_of
sizes_in s u a t e h p q =
    let told : reply (overused (geo_of s) u) (sizes_of (geo_of s) u) ≡ accepted (sizes_of (geo_of s) u) = reply-none _ (when_false 17 (le-ltb s.blocks u h)) in
    rw (p, q, e) (search (sym told))

-- ---- format

module _ (M : Mount) (I : List ℕ) where
  pub format_refused : (x : Refusal) → MadeIs M (length I) (Err x) → Formats M I (Err x) I
  format_refused x f = record { answer = sym (reply-refused tt x f); image = sym (settle-refused _ I x f) }

  module _ (s : SuperBlock) (makes : MadeIs M (length I) (Ok s)) where
    pub made_at : Fit s I
    made_at = made_fit M I s makes.0 makes.1

    pub format_made : (J : List ℕ) → J ≡ formatted (geo_of s) I → Formats M I (Ok tt) J
    format_made J h =
        record {
          answer = sym (reply-none tt makes.0);
          image = h ∙ ap (λ (g : Geo). formatted g I) (made_geo M (length I) s makes.1) ∙ sym (settle-none _ I makes.0);
        }

-- ---- the stores of a format: the superblock, then the bitmap, then block D taken

module _ (s : SuperBlock) (I : List ℕ) (f : Fit s I) where
  pub maps_le : s.bitmap.0 ≤ s.area.0
  maps_le = let p = placed f in omega arith

  pub size_in : BlockSize s.size
  size_in = f.known

  pub bitmap_in : (J : List ℕ) → length J ≡ length I → s.size * s.bitmap.0 + s.size * (s.area.0 - s.bitmap.0) ≤ length J
  bitmap_in J e = omega (arith, (placed f).map)

  pub root_in : s.area.0 + 0 < bit_end (geo_of s)
  root_in = let p = placed f in omega (arith, f.area, f.bits)

  top_in : block_size (geo_of s) * s.addr.0 + block_size (geo_of s) ≤ length I
  top_in = let p = placed f in block_inside (geo_of s) (length I) f.sound s.addr.0 (omega arith)

  written_long : length (super_written (geo_of s) I s.area.0) ≡ length I
  unfolding super_written
  written_long = length-splice I _ _ (omega (arith, top_in, whole_super (geo_of s) s.area.0))

  module _ (J L : List ℕ) (p : J ≡ super_written (geo_of s) I s.area.0) (q : L ≡ zeroed s.size J s.bitmap.0 (s.area.0 - s.bitmap.0)) where
    pub long-J : length J ≡ length I
    long-J = ap length p ∙ written_long

    kept-L : Kept (block_size (geo_of s)) (λ b o. (b < s.bitmap.0) ⊎ (s.bitmap.0 + (s.area.0 - s.bitmap.0) ≤ b)) J L
    kept-L =
        subst (λ (B : ℕ). Kept B (λ b o. (b < s.bitmap.0) ⊎ (s.bitmap.0 + (s.area.0 - s.bitmap.0) ≤ b)) J L) f.size
        (subst (Kept s.size _ J) (sym q) (zeroed_kept s.size J s.bitmap.0 (s.area.0 - s.bitmap.0) (bitmap_in J long-J)))

    pub laid_fit : Fit s L
    laid_fit = fit_long (kept-L.size ∙ long-J) f

    -- the superblock stands in both
    top-J : Shows J (block_size (geo_of s) * s.addr.0) (super_bytes (geo_of s) s.area.0)
    unfolding super_written
    top-J = rw p (shows_stored I _ _ (omega (arith, top_in, whole_super (geo_of s) s.area.0)))

    pub top-L : Shows L (block_size (geo_of s) * s.addr.0) (super_bytes (geo_of s) s.area.0)
    top-L =
        let h = placed f in
        shows_kept (block_size (geo_of s)) _ J L s.addr.0 (super_bytes (geo_of s) s.area.0) kept-L (λ o _. inl (omega arith))
        (omega (arith, whole_super (geo_of s) s.area.0)) top-J

    pub used-L : used_count (geo_of s) L ≡ s.area.0
    unfolding used_count
    used-L = let h = placed f in be_shown L _ 4 s.area.0 (omega arith) (top_reads L _ (geo_of s) s.area.0 top-L).used

    pub laid_used : used_count (geo_of s) L < s.blocks
    laid_used = let h = placed f in omega (arith, used-L)

    pub laid_is : (R : List ℕ) → R ≡ taken (geo_of s) L 0 → R ≡ formatted (geo_of s) I
    unfolding formatted
    laid_is R e =
        let x : J ≡ super_written (geo_of s) I (data_at (geo_of s)) = p ∙ ap (super_written (geo_of s) I) f.area in
        let y : L ≡ zeroed (block_size (geo_of s)) (super_written (geo_of s) I (data_at (geo_of s))) (map_at (geo_of s)) (data_at (geo_of s) - map_at (geo_of s))
        = q ∙ ap (λ (x : List ℕ). zeroed s.size x s.bitmap.0 (s.area.0 - s.bitmap.0)) x ∙ rw (f.size, f.area, f.bitmap) in
        search (e ∙ ap (λ (x : List ℕ). taken (geo_of s) x 0) y)
