-- What the code's loops need and give, one law for each place. An address or a count that code holds is a variable with an equation.
use mathlib.Core.Path.{◌≡◌, refl, sym, ap, ◌∙◌, subst}
use mathlib.Core.List.{List, ◌++◌}
use Prim.Native.Nat.{ℕ, suc, ◌+◌, ◌-◌, ◌*◌, ◌/◌, ◌%◌, ◌≤◌, ◌<◌, min}
use native.Mathlib.Nat.{mod-lt, div-le_of_le-mul}
use native.Mathlib.Decide.{dec_lt}
use native.Mathlib.Omega.{arith}
use borrow.Author.Tests.{lt-ltb, le-ltb}
use borrow.Rule.Slice.PartMut.{put_mid}
use lib.ListN.{length, get_or, take, drop, length-take, drop_of_length-le}
use lib.Seq.{take_all, drop-drop}
use Rattle.wire.specs.Be.{splice}
use Rattle.wire.proofs.Picks.{pick_true, pick_false}
use Rattle.bits.specs.Bit.{AllSet}
use Rattle.block.specs.Block.{next, linked}
use Rattle.block.proofs.Blocks.{next_kept, splice_kept}
use Rattle.model.specs.Render.{cells_at}
use Rattle.model.specs.Geometry.{Geo, block_size, map_at, data_at, Sound}
use Rattle.model.specs.Volume.{blocks_for}
use Rattle.super_block.specs.declared.SuperBlock.{SuperBlock}
use Rattle.super_block.specs.Super.{geo_of, Fit}
use Rattle.super_block.proofs.Fits.{placed, fit_long, fit_inside}
use Rattle.bitmap_block.specs.Bitmap.{clears, taken, Room, fresh}
use Rattle.bitmap_block.proofs.Answers.{found_in}
use Rattle.bitmap_block.proofs.Stores.{fresh_high}
use Rattle.chain_store.specs.Chain.{chain_freed}
use Rattle.dir_entry.specs.declared.DirEntry.{DirEntry}
use Rattle.read_dir.specs.declared.Place.{Place}
use Rattle.model.proofs.Contents.{blocks_enough}
use Rattle.std.specs.declared.option.Option.TheVariants as option
use Rattle.own_entry.specs.Own.{own_renewed}
use Rattle.write_store.specs.Write.{hop, Along, grown, extended, cut_after, resized, poured, spread, wrote, Chained, Resizable, CanWrite}
use Rattle.write_store.proofs.Hops.{hop-none, hop-more, along_here, along_next, along_less, along_drop, along_kept, along_cells, SameNext}
use Rattle.write_store.proofs.Resizes.{Outcome, resized_is, resized_same}
use Rattle.write_store.proofs.Grows.{grown_kept, grown_room, grown-set}

-- ---- along a chain: b is the block, left are to be passed, and fewer behind it

module _ (s : SuperBlock) (I : List ℕ) (b left fewer : ℕ) (f : Fit s I) (h : left ≡ suc fewer) (w : Along (geo_of s) I b left) where
  pub chain_next : (to : ℕ) → to ≡ next s.size I b → Along (geo_of s) I to fewer
  chain_next to q =
      subst (λ (x : ℕ). Along (geo_of s) I x fewer) (sym (q ∙ λ i. next (f.size i) I b))
      (along_next (geo_of s) I b fewer (subst (Along (geo_of s) I b) h w))

-- the block is one of the volume's,
pub chain_below : (s : SuperBlock) (I : List ℕ) (b left : ℕ) → 0 < left → Along (geo_of s) I b left → b < s.blocks
chain_below s I b left h w = (along_here (geo_of s) I b left w h).1

-- and lies in the image, which keeps its length
pub chain_inside : (s : SuperBlock) (L I : List ℕ) (b left : ℕ) → Fit s L → length I ≡ length L → 0 < left → Along (geo_of s) I b left
    → s.size * b + s.size ≤ length I
chain_inside s L I b left f e h w = fit_inside s L I b b f e refl (along_here (geo_of s) I b left w h).1

module _ (B : ℕ) (I : List ℕ) (a k b left : ℕ) where
  pub follow_more : hop B I left b ≡ hop B I k a → (fewer : ℕ) → left ≡ suc fewer → (to : ℕ) → to ≡ next B I b
      → hop B I fewer to ≡ hop B I k a
  follow_more r fewer h to q =
      ap (hop B I fewer) q
      ∙ sym (hop-more B I fewer b) ∙ ap (λ (x : ℕ). hop B I x b) (sym h) ∙ r

  pub follow_ends : hop B I left b ≡ hop B I k a → left ≤ 0 → b ≡ hop B I k a
  follow_ends r h = let e : 0 ≡ left = omega arith in sym (hop-none B I b) ∙ ap (λ (x : ℕ). hop B I x b) e ∙ r

-- ---- a block added

module _ (s : SuperBlock) (I : List ℕ) (x : ℕ) (f : Fit s I) (e : data_at (geo_of s) + x ≡ get_or (clears (geo_of s) I) 0 0) where
  pub grow_addr : Room (geo_of s) I 1 → (d : ℕ) → d ≡ s.area.0 → d + x < 4294967296
  grow_addr r d q = omega (arith, found_in x f r.clear e, (placed f).few)

  pub grow_is : (T J : List ℕ) (last z m a d : ℕ) → T ≡ taken (geo_of s) I x → z ≡ s.size → m ≡ last → d ≡ s.area.0 → a ≡ d + x
      → J ≡ linked z T m a → J ≡ grown (geo_of s) I last
  unfolding grown fresh
  grow_is T J last z m a d t u p q r j =
      let i : x ≡ get_or (clears (geo_of s) I) 0 0 - data_at (geo_of s) = omega arith in
      let v : a ≡ get_or (clears (geo_of s) I) 0 0 = omega (arith, f.area) in
      j ∙ (λ k. linked ((u ∙ f.size) k) (t k) (p k) (v k))
      ∙ ap (λ (y : ℕ). linked (block_size (geo_of s)) (taken (geo_of s) I y) last (get_or (clears (geo_of s) I) 0 0)) i

  pub grow_fresh : data_at (geo_of s) + x ≡ fresh (geo_of s) I
  unfolding fresh
  grow_fresh = e

-- ---- blocks added: left are to be added after b, and fewer after the next one

-- the room of one, and that no bit is below 0
pub room_one : (g : Geo) (I : List ℕ) (left : ℕ) → Room g I left → 0 < left → Room g I 1
room_one g I left r h = record { clear = omega (arith, r.clear); count = omega (arith, r.count) }

module _ (s : SuperBlock) (I : List ℕ) (b left fewer : ℕ) (f : Fit s I) (r : Room (geo_of s) I left) (h : left ≡ suc fewer) (x : ℕ) (e : data_at (geo_of s) + x ≡ fresh (geo_of s) I) where
  one : 1 ≤ length (clears (geo_of s) I)
  one = omega (arith, r.clear)

  pub extend_addr : (d : ℕ) → d ≡ s.area.0 → d + x < 4294967296
  extend_addr d q = omega (arith, fresh_high (geo_of s) I one f.sound, f.area, (placed f).few)

  pub extend_index : x + 1 < 4294967296
  extend_index = omega (arith, fresh_high (geo_of s) I one f.sound, (placed f).few)

  pub extend_low : (a d : ℕ) → d ≡ s.area.0 → a ≡ d + x → data_at (geo_of s) ≤ a
  extend_low a d q p = omega (arith, f.area)

  pub extend_high : (a d : ℕ) → d ≡ s.area.0 → a ≡ d + x → a < s.blocks
  extend_high a d q p = omega (arith, fresh_high (geo_of s) I one f.sound, f.area)

  module _ (low : (data_at (geo_of s) ≤ b) × (b < s.blocks)) (J : List ℕ) (j : J ≡ grown (geo_of s) I b) where
    long : length J ≡ length I
    long = ap length j ∙ (grown_kept (geo_of s) I f.sound one b low.0 low.1).size

    pub extend_fit : Fit s J
    extend_fit = fit_long long f

    pub extend_long : (L : List ℕ) → length I ≡ length L → length J ≡ length L
    extend_long L q = long ∙ q

    pub extend_room : Room (geo_of s) J fewer
    extend_room =
        let q : left ≡ fewer + 1 = omega arith in
        subst (λ (z : List ℕ). Room (geo_of s) z fewer) (sym j)
        (grown_room (geo_of s) I f.sound one b low.0 low.1 fewer (subst (Room (geo_of s) I) q r))

    pub extend_set : AllSet J (block_size (geo_of s) * map_at (geo_of s)) 0 (x + 1)
    extend_set =
        let q : fresh (geo_of s) I - data_at (geo_of s) + 1 ≡ x + 1 = omega arith in
        subst (λ (z : List ℕ). AllSet z (block_size (geo_of s) * map_at (geo_of s)) 0 (x + 1)) (sym j)
        (subst (AllSet (grown (geo_of s) I b) (block_size (geo_of s) * map_at (geo_of s)) 0) q (grown-set (geo_of s) I f.sound one b low.0 low.1))

    pub extend_more : (L : List ℕ) (last k a d : ℕ) → d ≡ s.area.0 → a ≡ d + x → extended (geo_of s) I b left ≡ extended (geo_of s) L last k → extended (geo_of s) J a fewer ≡ extended (geo_of s) L last k
    unfolding extended
    extend_more L last k a d q p t =
        let z : a ≡ fresh (geo_of s) I = omega (arith, f.area) in
        (λ i. extended (geo_of s) (j i) (z i) fewer) ∙ sym (ap (extended (geo_of s) I b) h) ∙ t

pub extend_ends : (g : Geo) (I L : List ℕ) (b left last k : ℕ) → extended g I b left ≡ extended g L last k → left ≤ 0 → I ≡ extended g L last k
unfolding extended
extend_ends g I L b left last k t h = let e : 0 ≡ left = omega arith in ap (extended g I b) e ∙ t

-- ---- the bytes: left blocks are to be filled from b on with the bytes vs

-- bytes copied over a part as long
put-splice : (a k : ℕ) (I us : List ℕ) → k ≡ length us → put_mid a k I us ≡ splice I a us
unfolding splice
put-splice a k I us e = ap (λ (l : List ℕ). take a I ++ (us ++ l)) (drop-drop k a I ∙ ap (λ (j : ℕ). drop (a + j) I) e)

-- a run of a block has as many bytes as are left, or as the n that the block has room for; k is its capacity
module _ (vs : List ℕ) (B at k r : ℕ) (c : k ≡ B - 4) (e : r ≡ min (length vs) (k - at)) where
  abbrev n : ℕ
  n = B - 4 - at

  run_same : (take r vs ≡ take n vs) × (drop r vs ≡ drop n vs)
  run_same = go (dec_lt (length vs) n)
    where
      go : Dec (length vs < n) → (take r vs ≡ take n vs) × (drop r vs ≡ drop n vs)
      go (yes p) =
          let z : length vs ≤ r = omega arith in
          let y : length vs ≤ n = omega arith in
          (take_all r vs z ∙ sym (take_all n vs y), drop_of_length-le vs z ∙ sym (drop_of_length-le vs y))
      go (no p) = let z : r ≡ n = omega arith in (ap (λ (x : ℕ). take x vs) z, ap (λ (x : ℕ). drop x vs) z)

  pub run_dropped : (ws : List ℕ) → ws ≡ drop r vs → ws ≡ drop n vs
  run_dropped ws q = q ∙ run_same.1

  -- us is the run, and zs what was copied
  pub run_stored : (I us zs : List ℕ) (a p : ℕ) → us ≡ take r vs → zs ≡ us → a ≡ p → put_mid a (a + length us - a) I zs ≡ splice I p (take n vs)
  run_stored I us zs a p q z w =
      let k : a + length us - a ≡ length us = omega arith in
      let l : zs ≡ take n vs = z ∙ q ∙ run_same.0 in
      put-splice a (a + length us - a) I zs (k ∙ sym (ap length z)) ∙ λ i. splice I (w i) (l i)

-- after a run of one block every next address is what it was
module _ (s : SuperBlock) (I : List ℕ) (f : Fit s I) (b at : ℕ) (vs : List ℕ) (l : at < s.size - 4) (high : b < s.blocks)
    (few : at + length vs ≤ s.size - 4) where
  run_kept : SameNext (geo_of s) I (splice I (s.size * b + 4 + at) vs)
  run_kept c _ q =
      let e : s.size * b + 4 + at ≡ s.size * b + (4 + at) = omega arith in
      let four : 4 ≤ s.size = omega (arith, f.known.least) in
      let k = splice_kept s.size I b (4 + at) vs (omega arith) (fit_inside s I I b b f refl refl high) in
      subst (λ (B : ℕ). next B (splice I (s.size * b + 4 + at) vs) c ≡ next B I c) f.size
      (rw e (next_kept s.size _ I (splice I (s.size * b + (4 + at)) vs) k c four (λ o m _ p _. omega arith)))

module _ (s : SuperBlock) (L vs I : List ℕ) (b at left fewer : ℕ) (h : left ≡ suc fewer) (l : at < s.size - 4) (to : ℕ) (J : List ℕ)
    (et : to ≡ next s.size I b) (z m : ℕ) (ez : z ≡ s.size) (em : m ≡ b)
    (filled : J ≡ splice I (z * m + 4 + at) (take (z - 4 - at) vs)) where
  stored : J ≡ splice I (s.size * b + 4 + at) (take (s.size - 4 - at) vs)
  stored = rw (ez, em) at filled

  pub pour_along : Fit s L → length I ≡ length L → Along (geo_of s) I b left → Along (geo_of s) J to fewer
  pour_along f long w =
      let g : Fit s I = fit_long long f in
      let n : Along (geo_of s) I to fewer = chain_next s I b left fewer g h w to et in
      let us : List ℕ = take (s.size - 4 - at) vs in
      let few : at + length us ≤ s.size - 4 = omega (arith, length-take (s.size - 4 - at) vs) in
      subst (λ (y : List ℕ). Along (geo_of s) y to fewer) (sym stored)
      (along_kept (geo_of s) I (splice I (s.size * b + 4 + at) us)
      (run_kept s I g b at us l (along_here (geo_of s) I b left w (omega arith)).1 few) fewer to n)

  pub pour_more : (a k o : ℕ) (us ws : List ℕ) → ws ≡ drop (z - 4 - at) vs
      → poured s.size I b at vs left ≡ poured s.size L a o us k → poured s.size J to 0 ws fewer ≡ poured s.size L a o us k
  unfolding poured
  pour_more a k o us ws er t =
      let rest : ws ≡ drop (s.size - 4 - at) vs = rw ez at er in
      (λ j. poured s.size (stored j) (et j) 0 (rest j) fewer) ∙ sym (ap (poured s.size I b at vs) h) ∙ t

pub pour_ends : (B : ℕ) (L : List ℕ) (a k o : ℕ) (us I : List ℕ) (b at : ℕ) (vs : List ℕ) (left : ℕ)
    → poured B I b at vs left ≡ poured B L a o us k → left ≤ 0 → I ≡ poured B L a o us k
unfolding poured
pour_ends B L a k o us I b at vs left t h = let e : 0 ≡ left = omega arith in ap (poured B I b at vs) e ∙ t

-- ---- the chain cut

-- y and p are the linked block that is stored in
pub cut_is : (s : SuperBlock) (I J L : List ℕ) (last k a y p v : ℕ) → Fit s I → a ≡ next s.size I last
    → J ≡ chain_freed (geo_of s) I k a → y ≡ s.size → p ≡ last → v ≡ 0 → L ≡ linked y J p v → L ≡ cut_after (geo_of s) I last k
unfolding cut_after
cut_is s I J L last k a y p v f ea ej ey ep ev el =
    el ∙ (λ i. linked ((ey ∙ f.size) i) (ej i) (ep i) (ev i))
    ∙ ap (λ (x : ℕ). linked (block_size (geo_of s)) (chain_freed (geo_of s) I k x) last 0) (ea ∙ λ i. next (f.size i) I last)

-- ---- the chain resized

pub chain_along : (g : Geo) (I : List ℕ) (a k : ℕ) → Sound g (length I) → Chained g I a k → Along g I a k
chain_along g I a k s c =
    subst (λ (x : ℕ). Along g I x k) c.starts (subst (Along g I (cells_at c.cells)) c.long (along_cells g I s c.cells c.held.range c.held.shown))

module _ (s : SuperBlock) (I : List ℕ) (a old new : ℕ) (f : Fit s I) (r : Resizable (geo_of s) I a old new) where
  whole : Along (geo_of s) I a old
  whole = chain_along (geo_of s) I a old f.sound r.chain

  hops : (k : ℕ) → hop s.size I k a ≡ hop (block_size (geo_of s)) I k a
  hops k = ap (λ (B : ℕ). hop B I k a) f.size

  pub resize_old : Along (geo_of s) I a (old - 1)
  resize_old = along_less (geo_of s) I a old (old - 1) (omega arith) whole

  pub resize_new : new ≤ old → Along (geo_of s) I a (new - 1)
  resize_new h = along_less (geo_of s) I a old (new - 1) (omega arith) whole

  pub grows_low : (last : ℕ) → last ≡ hop s.size I (old - 1) a → data_at (geo_of s) ≤ last
  grows_low last e = omega (arith, hops (old - 1), whole.at (old - 1) (omega (arith, r.some_old)))

  pub grows_high : (last : ℕ) → last ≡ hop s.size I (old - 1) a → last < s.blocks
  grows_high last e = omega (arith, hops (old - 1), whole.at (old - 1) (omega (arith, r.some_old)))

  pub grows_is : (last : ℕ) (J : List ℕ) → last ≡ hop s.size I (old - 1) a → J ≡ extended (geo_of s) I last (new - old) → old < new
      → J ≡ resized (geo_of s) I a old new
  unfolding resized
  grows_is last J e j h =
      j ∙ ap (λ (x : ℕ). extended (geo_of s) I x (new - old)) (e ∙ hops (old - 1)) ∙ sym (pick_true _ _ (lt-ltb old new h))

  module _ (h : new ≤ old) (last : ℕ) (e : last ≡ hop s.size I (new - 1) a) where
    pub cuts_high : last < s.blocks
    cuts_high = omega (arith, hops (new - 1), whole.at (new - 1) (omega (arith, r.some_new)))

    pub cuts_is : (J : List ℕ) → J ≡ cut_after (geo_of s) I last (old - new) → J ≡ resized (geo_of s) I a old new
    unfolding resized
    cuts_is J j =
        j ∙ ap (λ (x : ℕ). cut_after (geo_of s) I x (old - new)) (e ∙ hops (new - 1)) ∙ sym (pick_false _ _ (le-ltb old new h))

  pub stays_is : old ≡ new → I ≡ resized (geo_of s) I a old new
  stays_is e = resized_same (geo_of s) I f.sound a old new r.chain r.some_old e

-- ---- the buffer put in from byte c on

module _ (s : SuperBlock) (I : List ℕ) (c : ℕ) (f : Fit s I) where
  put_from : c % (s.size - 4) < s.size - 4
  put_from = mod-lt c (omega (arith, f.known.least))

module _ (s : SuperBlock) (I : List ℕ) (a m q : ℕ) (h : q ≤ m) (w : Along (geo_of s) I a m) where
  pub put_along : (b : ℕ) → Fit s I → b ≡ hop s.size I q a → Along (geo_of s) I b (m - q)
  put_along b f e =
      subst (λ (x : ℕ). Along (geo_of s) I x (m - q)) (sym (e ∙ ap (λ (B : ℕ). hop B I q a) f.size))
      (along_drop (geo_of s) I a m q h w)

pub put_is : (B : ℕ) (I J vs : List ℕ) (a c m b : ℕ) → b ≡ hop B I (c / (B - 4)) a
    → J ≡ poured B I b (c % (B - 4)) vs (m - c / (B - 4)) → J ≡ spread B I a c vs m
unfolding spread
put_is B I J vs a c m b e j = j ∙ ap (λ (x : ℕ). poured B I x (c % (B - 4)) vs (m - c / (B - 4))) e

-- ---- a write

module _ (s : SuperBlock) (I : List ℕ) (f : Fit s I) (a old new : ℕ) (r : Resizable (geo_of s) I a old new) (J : List ℕ) (j : J ≡ resized (geo_of s) I a old new) where
  outcome : Outcome (geo_of s) I J r.chain.cells new
  outcome =
      let n : length r.chain.cells ≡ old = r.chain.long in
      subst (λ (L : List ℕ). Outcome (geo_of s) I L r.chain.cells new) (sym (j ∙ sym (λ i. resized (geo_of s) I (r.chain.starts i) (n i) new)))
      (resized_is (geo_of s) I f.sound r.chain.cells new r.chain.held (omega (arith, r.some_old)) r.some_new
      (subst (λ (z : ℕ). Room (geo_of s) I (new - z)) (sym n) r.room) (omega (arith, r.enough)))

  resized_fit : Fit s J
  resized_fit = fit_long outcome.is.kept.size f

  pub resized_along : Along (geo_of s) J a new
  resized_along =
      let o = outcome.is in
      subst (λ (x : ℕ). Along (geo_of s) J x new) (o.starts ∙ r.chain.starts)
      (subst (Along (geo_of s) J (cells_at outcome.cells)) o.long (along_cells (geo_of s) J resized_fit.sound outcome.cells o.held.range o.held.shown))

module _ (s : SuperBlock) (I : List ℕ) (f : Fit s I) (e : DirEntry) (p : Place) (c len : ℕ) (w : CanWrite (geo_of s) I e p c len)
    (size new : ℕ) (z : size ≡ c + len) (n : new ≡ blocks_for s.size size) where
  pub write_resizable : (old : ℕ) → old ≡ blocks_for s.size e.size → Resizable (geo_of s) I e.addr.0 old new
  write_resizable old o =
      let x : old ≡ blocks_for (block_size (geo_of s)) e.size = o ∙ ap (λ (B : ℕ). blocks_for B e.size) f.size in
      let y : new ≡ blocks_for (block_size (geo_of s)) (c + len) = n ∙ λ i. blocks_for (f.size i) (z i) in
      subst (λ (i : ℕ). Resizable (geo_of s) I e.addr.0 i new) (sym x)
      (subst (Resizable (geo_of s) I e.addr.0 (blocks_for (block_size (geo_of s)) e.size)) (sym y) w.size)

  pub write_first : c / (s.size - 4) ≤ new
  write_first =
      let five : 5 ≤ s.size = omega (arith, f.known.least) in
      div-le_of_le-mul (s.size - 4) (omega (arith, blocks_enough s.size five size, ap (λ (x : ℕ). (s.size - 4) * x) n))

-- the stores, one after the other
pub write_is : (s : SuperBlock) (I J L M : List ℕ) (e : DirEntry) (p : Place) (c : ℕ) (vs : List ℕ) (time size old new : ℕ)
    → Fit s I → size ≡ c + length vs → old ≡ blocks_for s.size e.size → new ≡ blocks_for s.size size → J ≡ resized (geo_of s) I e.addr.0 old new
    → L ≡ spread s.size J e.addr.0 c vs new → M ≡ own_renewed s.size L (option.Some p) size time
    → M ≡ wrote (geo_of s) I e p c vs time
unfolding wrote
write_is s I J L M e p c vs time size old new f z o n j l m =
    let x : old ≡ blocks_for (block_size (geo_of s)) e.size = o ∙ ap (λ (B : ℕ). blocks_for B e.size) f.size in
    let y : new ≡ blocks_for (block_size (geo_of s)) (c + length vs) = n ∙ λ i. blocks_for (f.size i) (z i) in
    let count : ℕ = blocks_for (block_size (geo_of s)) (c + length vs) in
    let stored : List ℕ → List ℕ = λ J. own_renewed (block_size (geo_of s)) J (option.Some p) (c + length vs) time in
    m ∙ (λ i. own_renewed (f.size i) (l i) (option.Some p) (z i) time)
    ∙ (λ i. stored (spread (f.size i) (j i) e.addr.0 c vs (y i)))
    ∙ (λ i. stored (spread (block_size (geo_of s)) (resized (geo_of s) I e.addr.0 (x i) (y i)) e.addr.0 c vs count))
