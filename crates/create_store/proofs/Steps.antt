-- The steps of a create, over all numbers that are sound for the image: a block taken, a block linked, an entry stored. And what the code
-- of each step needs and gives.
use mathlib.Core.Path.{◌≡◌, refl, sym, ap, ◌∙◌, subst}
use mathlib.Core.List.{List, ◌++◌}
use Prim.Native.Nat.{ℕ, ◌+◌, ◌-◌, ◌*◌, ◌^◌, ◌≤◌, ◌<◌}
use native.Mathlib.Omega.{arith}
use lib.ListN.{length, get_or, take, drop, length-append}
use lib.Seq.{take_all}
use Rattle.wire.specs.Be.{splice}
use Rattle.wire.proofs.Numbers.{length-splice}
use Rattle.block.specs.declared.Addr.{Addr}
use Rattle.block.specs.Block.{Area, linked, Off, Kept}
use Rattle.block.proofs.Blocks.{linked_kept}
use Rattle.model.specs.Tree.{Name}
use Rattle.model.specs.Geometry.{area_of, Geo, block_size, data_at, Sound}
use Rattle.model.proofs.Areas.{area, size_large, block_inside}
use Rattle.super_block.specs.declared.SuperBlock.{SuperBlock}
use Rattle.super_block.specs.Super.{area_in, geo_of, Fit}
use Rattle.super_block.proofs.Fits.{placed, area_is, fit_long, fit_inside}
use Rattle.bitmap_block.specs.Bitmap.{clears, taken, Room, fresh}
use Rattle.bitmap_block.proofs.Answers.{found_in}
use Rattle.bitmap_block.proofs.Stores.{Aside, sound_kept, used_kept, clears_kept, taken_kept, room_taken, fresh_low, fresh_index, fresh_first, fresh_data, fresh_high}
use Rattle.dir_entry.specs.declared.Kind.{Kind}
use Rattle.dir_entry.specs.declared.DirEntry.{DirEntry}
use Rattle.dir_entry.specs.Entry.{head_bytes, place_at}
use Rattle.dir_entry.proofs.Heads.{length_head, splice-then}
use Rattle.read_dir.specs.declared.Place.{Place}
use Rattle.read_dir.specs.Finds as finds
use Rattle.std.specs.Prelude.{Some, None}
use Rattle.own_entry.specs.Own.{Own, OwnIn, sum_renewed}
use Rattle.create_store.specs.declared.Spot.{Spot}
use Rattle.create_store.specs.declared.Spot.TheVariants.{In, After}
use Rattle.create_store.specs.Create.{needed, SpotIn, block_taken, opened, place_in, new_head, entered, inserted, inserted_at}

-- ---- a block taken

module _ (g : Geo) (I : List ℕ) (h : 1 ≤ length (clears g I)) (s : Sound g (length I)) where
  -- every byte but the used count, the bitmap and the new block's is as it was
  grown_kept : Kept (block_size g) (λ b o. Aside g b o × (b ≡ fresh g I → ⊥)) I (block_taken g I)
  unfolding block_taken
  grown_kept =
      let k = taken_kept g I s (fresh g I - data_at g) (fresh_data g I h s) in
      record { size = k.size; at = λ b o p q. k.at b o (p.0, λ e. p.1 (e ∙ fresh_index g I h)) q }

  length-grown : length (block_taken g I) ≡ length I
  length-grown = grown_kept.size

  sound_grown : Sound g (length (block_taken g I))
  sound_grown = sound_kept g I s _ (block_taken g I) grown_kept

  room_grown : (k : ℕ) → Room g I (k + 1) → Room g (block_taken g I) k
  unfolding block_taken
  room_grown k r = room_taken g I s (fresh g I - data_at g) (drop 1 (clears g I)) (fresh_first g I h) k r

-- a store in a data block leaves the room
room_kept : (g : Geo) (I : List ℕ) → Sound g (length I) → (P : ℕ → ℕ → Type 0) (J : List ℕ) → Kept (block_size g) P I J → ((b o : ℕ) → b < data_at g → P b o) → (k : ℕ) → Room g I k → Room g J k
room_kept g I s P J c f k r =
    let m = (area g (length I) s).maps in
    record {
      clear = subst (λ (l : List ℕ). k ≤ length l) (sym (clears_kept g I s P J c (λ b o _ q. f b o q))) r.clear;
      count = omega (arith, r.count, used_kept g I s P J c (λ o _ _. f g.K o (omega arith)));
    }

-- ---- the place of the entry

module _ (g : Geo) (I : List ℕ) (s : Sound g (length I)) (len : ℕ) where
  -- where a new block is linked, the image has its length, and room for one less
  linked_in : (a : ℕ) → data_at g ≤ a → a < g.n → Room g I 2 → Kept (block_size g) (Off a 0 4) (block_taken g I) (linked (block_size g) (block_taken g I) a (fresh g I))
  linked_in a l h r =
      linked_kept (block_size g) (block_taken g I) a (omega (arith, size_large g))
      (block_inside g (length (block_taken g I)) (sound_grown g I (omega (arith, r.clear)) s) a h) (fresh g I)

  opened_long : (t : Spot) → SpotIn (area_of g) len t → Room g I (needed t) → length (opened g I t) ≡ length I
  opened_long (In p) q r = refl
  opened_long (After a) q r = (linked_in a.0 q.0 q.1 r).size ∙ length-grown g I (omega (arith, r.clear)) s

  opened_room : (t : Spot) → SpotIn (area_of g) len t → Room g I (needed t) → Room g (opened g I t) 1
  opened_room (In p) q r = r
  opened_room (After a) q r =
      let h : 1 ≤ length (clears g I) = omega (arith, r.clear) in
      room_kept g (block_taken g I) (sound_grown g I h s) (Off a.0 0 4) _ (linked_in a.0 q.0 q.1 r) (λ b o k e _ _. omega (arith, q.0)) 1 (room_grown g I h s 1 r)

  place_data : (t : Spot) → SpotIn (area_of g) len t → Room g I (needed t) → (data_at g ≤ (place_in g I t).block.0) × ((place_in g I t).block.0 < g.n)
  place_data (In p) q r = (q.0, q.1)
  place_data (After a) q r = let h : 1 ≤ length (clears g I) = omega (arith, r.clear) in (fresh_low g I h, fresh_high g I h s)

  place_room : (t : Spot) → SpotIn (area_of g) len t → len ≤ 255 → (place_in g I t).offset + 18 + len ≤ block_size g - 5
  place_room (In p) q r = omega (arith, q.2)
  place_room (After a) q r = omega (arith, size_large g)

-- ---- the entry stored

length-entered : (g : Geo) (I : List ℕ) → Sound g (length I) → Room g I 1 → (p : Place) (k : Kind) (name : Name) (time : ℕ)
    → block_size g * p.block.0 + block_size g ≤ length I → p.offset + 18 + length name ≤ block_size g - 5 → length (entered g I p k name time) ≡ length I
unfolding entered
length-entered g I s r p k name time h q =
    let E : List ℕ = head_bytes (new_head k (fresh g I) time (length name)) ++ name in
    let l : length (block_taken g I) ≡ length I = length-grown g I (omega (arith, r.clear)) s in
    let m : length E ≡ length (head_bytes (new_head k (fresh g I) time (length name))) + length name = length-append (head_bytes (new_head k (fresh g I) time (length name))) name in
    length-splice (block_taken g I) (place_at (block_size g) p.block.0 p.offset) E (omega (arith, length_head (new_head k (fresh g I) time (length name)), size_large g)) ∙ l

-- ==== what the code needs and gives

module _ {s : SuperBlock} {I : List ℕ} (f : Fit s I) where
  -- take_block
  pub take_small : (x : ℕ) → Room (geo_of s) I 1 → data_at (geo_of s) + x ≡ get_or (clears (geo_of s) I) 0 0 → s.area.0 + x < 2 ^ 32
  take_small x r e = omega (arith, found_in x f r.clear e, (placed f).few)

  pub take_image : (x : ℕ) {J : List ℕ} → data_at (geo_of s) + x ≡ get_or (clears (geo_of s) I) 0 0 → J ≡ taken (geo_of s) I x → J ≡ block_taken (geo_of s) I
  unfolding block_taken fresh
  take_image x e j = let k : x ≡ get_or (clears (geo_of s) I) 0 0 - data_at (geo_of s) = omega arith in j ∙ ap (taken (geo_of s) I) k

  pub take_block : (x : ℕ) {a : ℕ} → data_at (geo_of s) + x ≡ get_or (clears (geo_of s) I) 0 0 → a ≡ s.area.0 + x → a ≡ fresh (geo_of s) I
  unfolding fresh
  take_block x e j = j ∙ ap (λ (z : ℕ). z + x) f.area ∙ e

  -- the spot, by the struct's own numbers
  in_data : (t : Spot) (len : ℕ) → SpotIn (area_in s) len t → SpotIn (area_of (geo_of s)) len t
  in_data t len q = subst (λ (A : Area). SpotIn A len t) (area_is f) q

  -- insert: what the second step finds
  module _ (t : Spot) (len : ℕ) {J : List ℕ} (q : SpotIn (area_in s) len t) (r : Room (geo_of s) I (needed t)) (j : J ≡ opened (geo_of s) I t) where
    open_long : length J ≡ length I
    open_long = ap length j ∙ opened_long (geo_of s) I f.sound len t (in_data t len q) r

    pub open_fit : Fit s J
    open_fit = fit_long open_long f

    pub open_room : Room (geo_of s) J 1
    open_room = subst (λ (z : List ℕ). Room (geo_of s) z 1) (sym j) (opened_room (geo_of s) I f.sound len t (in_data t len q) r)

    module _ {p : Place} (e : p ≡ place_in (geo_of s) I t) where
      pub open_inside : s.size * p.block.0 + s.size ≤ length J
      open_inside =
          let w = place_data (geo_of s) I f.sound len t (in_data t len q) r in
          let k : p.block.0 ≡ (place_in (geo_of s) I t).block.0 = ap (λ (z : Place). z.block.0) e in
          fit_inside s I J p.block.0 (place_in (geo_of s) I t).block.0 f open_long k w.1

      pub open_fits : len ≤ 255 → p.offset + 18 + len ≤ s.size - 5
      open_fits h =
          let k : p.offset ≡ (place_in (geo_of s) I t).offset = ap (λ (z : Place). z.offset) e in
          omega (arith, k, f.size, place_room (geo_of s) I f.sound len t (in_data t len q) h)

      -- and the third
      module _ {L : List ℕ} (k : Kind) (name : Name) (time : ℕ) (n : length name ≡ len) (h : len ≤ 255) (l : L ≡ entered (geo_of s) J p k name time) where
        enter_long : length L ≡ length I
        enter_long =
            let i : block_size (geo_of s) * p.block.0 + block_size (geo_of s) ≤ length J
            = subst (λ (B : ℕ). B * p.block.0 + B ≤ length J) f.size open_inside in
            ap length l
            ∙ length-entered (geo_of s) J open_fit.sound open_room p k name time i (omega (arith, f.size, open_fits h))
            ∙ open_long

        pub enter_fit : Fit s L
        enter_fit = fit_long enter_long f

        pub enter_own : (o : Own) → OwnIn s.size I o → OwnIn s.size L o
        enter_own None x = tt
        enter_own (Some y) x = (omega (arith, x.0, enter_long), x.1)

-- grow
pub grow_image : (B : ℕ) (g : Geo) (I J L : List ℕ) (a z b c last : ℕ) → J ≡ block_taken g I → a ≡ fresh g I → c ≡ a → z ≡ B
    → b ≡ last → L ≡ linked z J b c → L ≡ linked B (block_taken g I) last (fresh g I)
grow_image B g I J L a z b c last j e d v f l = l ∙ (λ i. linked (v i) (j i) (f i) ((d ∙ e) i))

-- open_place
module _ (g : Geo) (I : List ℕ) (t : Spot) where
  pub in_image : (p : Place) → t ≡ In p → I ≡ opened g I t
  in_image p e = ap (opened g I) (sym e)

  pub in_place : (p : Place) → t ≡ In p → p ≡ place_in g I t
  in_place p e = ap (place_in g I) (sym e)

  pub after_place : (a b : Addr) → t ≡ After a → b.0 ≡ fresh g I → ◌≡◌ {A = Place} (record { block = b; offset = 0 }) (place_in g I t)
  after_place a b e f = (λ i. finds.placed (f i) 0) ∙ ap (place_in g I) (sym e)

pub after_image : (s : SuperBlock) (I J : List ℕ) (t : Spot) (a : Addr) → Fit s I → t ≡ After a
    → J ≡ linked s.size (block_taken (geo_of s) I) a.0 (fresh (geo_of s) I) → J ≡ opened (geo_of s) I t
after_image s I J t a f e j =
    j ∙ ap (λ (B : ℕ). linked B (block_taken (geo_of s) I) a.0 (fresh (geo_of s) I)) f.size ∙ ap (opened (geo_of s) I) (sym e)

-- store_entry
pub entry_stored : (B : ℕ) (I J L : List ℕ) (at a o : ℕ) (e : DirEntry) (name : Name) → B * a + B ≤ length I → o + 18 + length name ≤ B - 5
    → at ≡ place_at B a o → J ≡ splice I at (head_bytes e) → L ≡ splice J (at + 18) (take (length name) (drop 0 name))
    → L ≡ splice I (place_at B a o) (head_bytes e ++ name)
entry_stored B I J L at a o e name h w f j l =
    let q : ℕ = place_at B a o in
    let k : q + 18 ≡ q + length (head_bytes e) = omega (arith, length_head e) in
    l ∙ (λ i. splice J (f i + 18) (take_all (length name) name (omega arith) i))
    ∙ splice-then I J q (q + 18) (head_bytes e) name (j ∙ ap (λ (z : ℕ). splice I z (head_bytes e)) f) k (omega (arith, length_head e))

-- enter: z and m are the size and the address of the linked block that it stores in, n the length that the entry says
pub enter_image : (s : SuperBlock) (I J L : List ℕ) (p : Place) (z m n : ℕ) (k : Kind) (a : Addr) (name : Name) (time : ℕ) (e : DirEntry)
    → Fit s I → z ≡ s.size → m ≡ p.block.0 → J ≡ block_taken (geo_of s) I → a.0 ≡ fresh (geo_of s) I
    → n ≡ length name → e ≡ record { kind = k; addr = a; size = 0; time = time; len = n }
    → L ≡ splice J (place_at z m p.offset) (head_bytes e ++ name) → L ≡ entered (geo_of s) I p k name time
unfolding entered
enter_image s I J L p z m n k a name time e fit g h j f q d l =
    let at : ℕ → ℕ = λ B. place_at B p.block.0 p.offset in
    l ∙ (λ i. splice (j i) (place_at (g i) (h i) p.offset) (head_bytes (d i) ++ name))
    ∙ (λ i. splice (block_taken (geo_of s) I) (at (fit.size i)) (head_bytes (new_head k (f i) time (q i)) ++ name))

-- insert
pub insert_image : (s : SuperBlock) (I J L M : List ℕ) (dir : ℕ) (t : Spot) (own : Own) (k : Kind) (name : Name) (time : ℕ) (p : Place)
    → J ≡ opened (geo_of s) I t → p ≡ place_in (geo_of s) I t → L ≡ entered (geo_of s) J p k name time → M ≡ sum_renewed (geo_of s) L dir own time
    → M ≡ inserted (geo_of s) I dir t own k name time
unfolding inserted
insert_image s I J L M dir t own k name time p j e l m =
    m ∙ ap (λ (z : List ℕ). sum_renewed (geo_of s) z dir own time) (l ∙ (λ i. entered (geo_of s) (j i) (e i) k name time))

pub insert_block : (s : SuperBlock) (I J : List ℕ) (t : Spot) (a : ℕ) → J ≡ opened (geo_of s) I t → a ≡ fresh (geo_of s) J → a ≡ inserted_at (geo_of s) I t
unfolding inserted_at
insert_block s I J t a j e = e ∙ ap (fresh (geo_of s)) j
