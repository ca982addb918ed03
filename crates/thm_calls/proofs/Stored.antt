-- The stores keep an image a list of bytes: each of them stores bytes.
use Rattle.std.specs.Prelude.{Some, None, Result, Ok, Err}
use Rattle.limits.specs.declared.Damage.{Damage}
use mathlib.Core.Path.{◌≡◌}
use Rattle.create_store.specs.Create.{block_taken as with_fresh}
use mathlib.Core.Bool.{Bool, true, false, not}
use mathlib.Core.List.{List, [], ◌∷◌, ◌++◌}
use Prim.Native.Nat.{ℕ, zero, suc, ◌+◌, ◌-◌, ◌*◌, ◌/◌, ◌%◌, ◌<◌}
use native.Mathlib.Omega.{arith}
use lib.Dec.{eqb, ltb}
use lib.ListN.{length, get_or, take, drop, set}
use Rattle.wire.specs.Be.{bytes, splice, zeros}
use Rattle.wire.specs.Pick.{pick, zero_from}
use Rattle.wire.proofs.Numbers.{get_or-zeros}
use Rattle.bits.specs.Bit.{digit, with_digit, with_bit}
use Rattle.block.specs.Block.{linked, zeroed, next}
use Rattle.model.specs.Tree.{Name}
use Rattle.model.specs.Geometry.{area_of, Geo, block_size, map_at, data_at, used_count}
use Rattle.wire.proofs.Picks.{and_both}
use Rattle.text.specs.Text.{is_text, is_name, has_byte, slash}
use Rattle.thm_text.proofs.Small.{text_bytes}
use Rattle.model.specs.Volume.{GoodName, blocks_for}
use Rattle.model.specs.Steps.{Bytes}
use Rattle.super_block.specs.Super.{counted}
use Rattle.bitmap_block.specs.Bitmap.{marked, more, fewer, taken, freed, fresh}
use Rattle.dir_entry.specs.declared.Kind.{Kind}
use Rattle.dir_entry.specs.declared.Kind.TheVariants.{Dir, File, Device}
use Rattle.dir_entry.specs.declared.DirEntry.{DirEntry}
use Rattle.dir_entry.specs.Entry.{header, kind_byte, head_bytes, place_at}
use Rattle.read_dir.specs.declared.Place.{Place}
use Rattle.read_dir.specs.Walk.{in_area, walk}
use Rattle.read_dir.specs.Finds.{sum_from}
use Rattle.own_entry.specs.Own.{Own, own_summed, sum_renewed}
use Rattle.create_store.specs.declared.Spot.{Spot}
use Rattle.create_store.specs.declared.Spot.TheVariants as spot
use Rattle.create_store.specs.Create.{new_head, opened, place_in, entered, inserted}
use Rattle.delete_store.specs.Delete.{after, cut_out, before_from, unlinked, less_bare, entry_gone, removed}
use Rattle.chain_store.specs.Chain.{released, chain_freed}
use Rattle.write_store.specs.Write.{hop, grown, extended, cut_after, resized, poured, spread, wrote}
use Rattle.patch_store.specs.Patch.{patched}

-- ---- lists

bytes_append : (xs ys : List ℕ) → Bytes xs → Bytes ys → Bytes (xs ++ ys)
bytes_append [] ys a b i = b i
bytes_append (x ∷ xs) ys a b zero = a 0
bytes_append (x ∷ xs) ys a b (suc i) = bytes_append xs ys (λ j. a (suc j)) b i

bytes_nil : Bytes []
bytes_nil i = omega arith

bytes_more : (x : ℕ) (xs : List ℕ) → x < 256 → Bytes xs → Bytes (x ∷ xs)
bytes_more x xs h b zero = h
bytes_more x xs h b (suc i) = b i

bytes_take : (n : ℕ) (l : List ℕ) → Bytes l → Bytes (take n l)
bytes_take zero l b i = omega arith
bytes_take (suc n) [] b i = omega arith
bytes_take (suc n) (x ∷ l) b zero = b 0
bytes_take (suc n) (x ∷ l) b (suc i) = bytes_take n l (λ j. b (suc j)) i

bytes_drop : (n : ℕ) (l : List ℕ) → Bytes l → Bytes (drop n l)
bytes_drop zero l b i = b i
bytes_drop (suc n) [] b i = omega arith
bytes_drop (suc n) (x ∷ l) b i = bytes_drop n l (λ j. b (suc j)) i

bytes_set : (l : List ℕ) (k v : ℕ) → v < 256 → Bytes l → Bytes (set l k v)
bytes_set [] k v h b i = b i
bytes_set (x ∷ l) zero v h b zero = h
bytes_set (x ∷ l) zero v h b (suc i) = b (suc i)
bytes_set (x ∷ l) (suc k) v h b zero = b 0
bytes_set (x ∷ l) (suc k) v h b (suc i) = bytes_set l k v h (λ j. b (suc j)) i

bytes_zeros : (n : ℕ) → Bytes (zeros n)
bytes_zeros n i = omega (arith, get_or-zeros n i)

bytes_splice : (l : List ℕ) (at : ℕ) (vs : List ℕ) → Bytes l → Bytes vs → Bytes (splice l at vs)
unfolding splice
bytes_splice l at vs b c =
    bytes_append (take at l) (vs ++ drop (at + length vs) l) (bytes_take at l b)
    (bytes_append vs (drop (at + length vs) l) c (bytes_drop (at + length vs) l b))

-- a number's bytes
bytes_number : (n v : ℕ) → Bytes (bytes n v)
unfolding bytes
bytes_number zero v = bytes_nil
bytes_number (suc n) v =
    bytes_append (bytes n (v / 256)) ((v % 256) ∷ []) (bytes_number n (v / 256)) (bytes_more (v % 256) [] (omega arith) bytes_nil)

bytes_pick : (t : Bool) (I J : List ℕ) → Bytes I → Bytes J → Bytes (pick t I J)
unfolding pick
bytes_pick true I J a b = a
bytes_pick false I J a b = b

-- ---- blocks, bits and the used count

-- a byte with another digit in one of its eight places
digit_small : (n k v : ℕ) → n < 256 → k < 8 → v < 2 → with_digit n k v < 256
unfolding with_digit digit
digit_small n zero v h q e = omega arith
digit_small n (suc zero) v h q e = omega arith
digit_small n (suc (suc zero)) v h q e = omega arith
digit_small n (suc (suc (suc zero))) v h q e = omega arith
digit_small n (suc (suc (suc (suc zero)))) v h q e = omega arith
digit_small n (suc (suc (suc (suc (suc zero))))) v h q e = omega arith
digit_small n (suc (suc (suc (suc (suc (suc zero)))))) v h q e = omega arith
digit_small n (suc (suc (suc (suc (suc (suc (suc zero))))))) v h q e = omega arith
digit_small n (suc (suc (suc (suc (suc (suc (suc (suc k)))))))) v h q e = absurd (omega arith)

module _ (g : Geo) where
  module _ (I : List ℕ) (b : Bytes I) where
    bytes_linked : (a v : ℕ) → Bytes (linked (block_size g) I a v)
    unfolding linked
    bytes_linked a v = bytes_splice I (block_size g * a) (bytes 4 v) b (bytes_number 4 v)

    bytes_zeroed : (a k : ℕ) → Bytes (zeroed (block_size g) I a k)
    unfolding zeroed
    bytes_zeroed a k = bytes_splice I (block_size g * a) (zeros (block_size g * k)) b (bytes_zeros (block_size g * k))

    bytes_counted : (v : ℕ) → Bytes (counted g I v)
    unfolding counted
    bytes_counted v = bytes_splice I (block_size g * g.K + 14) (bytes 4 v) b (bytes_number 4 v)

    bytes_marked : (x v : ℕ) → v < 2 → Bytes (marked g I x v)
    unfolding marked with_bit
    bytes_marked x v h =
        let i : ℕ = block_size g * map_at g + x / 8 in
        bytes_set I i (with_digit (get_or I i 0) (x % 8) v) (digit_small (get_or I i 0) (x % 8) v (b i) (omega arith) h) b

  bytes_taken : (I : List ℕ) → Bytes I → (x : ℕ) → Bytes (taken g I x)
  unfolding taken more
  bytes_taken I b x =
      let J : List ℕ = zeroed (block_size g) I (data_at g + x) 1 in
      let L : List ℕ = marked g J x 1 in
      bytes_counted L (bytes_marked J (bytes_zeroed I b (data_at g + x) 1) x 1 (omega arith)) (used_count g L + 1)

  bytes_freed : (I : List ℕ) → Bytes I → (x : ℕ) → Bytes (freed g I x)
  unfolding freed fewer
  bytes_freed I b x =
      let J : List ℕ = zeroed (block_size g) I (data_at g + x) 1 in
      let L : List ℕ = marked g J x 0 in
      bytes_counted L (bytes_marked J (bytes_zeroed I b (data_at g + x) 1) x 0 (omega arith)) (used_count g L - 1)

  -- ---- an entry

  bytes_sized : (I : List ℕ) → Bytes I → (p q z k : ℕ) → Bytes (splice (splice I p (bytes 4 z)) q (bytes 8 k))
  bytes_sized I b p q z k =
      bytes_splice (splice I p (bytes 4 z)) q (bytes 8 k) (bytes_splice I p (bytes 4 z) b (bytes_number 4 z)) (bytes_number 8 k)

  bytes_renewed : (I : List ℕ) → Bytes I → (dir : ℕ) (o : Own) (time : ℕ) → Bytes (sum_renewed g I dir o time)
  unfolding sum_renewed
  bytes_renewed I b dir o time = summed_bytes o (sum_from 0 (walk (area_of g) I dir))
    where
      summed_bytes : (o : Own) (s : Result ℕ Damage) → Bytes (own_summed (block_size g) I o time s)
      summed_bytes None (Ok z) = b
      summed_bytes (Some p) (Ok z) = bytes_sized I b _ _ z time
      summed_bytes o (Err d) = b

  -- ---- create

  bytes_fresh : (I : List ℕ) → Bytes I → Bytes (with_fresh g I)
  unfolding with_fresh
  bytes_fresh I b = bytes_taken I b (fresh g I - data_at g)

  bytes_opened : (I : List ℕ) → Bytes I → (s : Spot) → Bytes (opened g I s)
  bytes_opened I b (spot.In p) = b
  bytes_opened I b (spot.After a) = bytes_linked (with_fresh g I) (bytes_fresh I b) a.0 (fresh g I)

  bytes_name : (n : Name) → is_name n ≡ true → Bytes n
  unfolding is_name
  bytes_name n h = text_bytes n (and_both (is_text n) (not (has_byte slash n)) h).0

  bytes_head : (e : DirEntry) → e.len < 256 → Bytes (head_bytes e)
  unfolding head_bytes
  bytes_head e h =
      bytes_append (kind_byte e.kind ∷ (bytes 4 e.addr.0 ++ bytes 4 e.size)) (bytes 8 e.time ++ (e.len ∷ []))
      (bytes_more (kind_byte e.kind) (bytes 4 e.addr.0 ++ bytes 4 e.size) (kind_small e.kind)
      (bytes_append (bytes 4 e.addr.0) (bytes 4 e.size) (bytes_number 4 e.addr.0) (bytes_number 4 e.size)))
      (bytes_append (bytes 8 e.time) (e.len ∷ []) (bytes_number 8 e.time) (bytes_more e.len [] h bytes_nil))
    where
      kind_small : (k : Kind) → kind_byte k < 256
      kind_small Dir = omega arith
      kind_small File = omega arith
      kind_small Device = omega arith

  bytes_entered : (I : List ℕ) → Bytes I → (p : Place) (k : Kind) (n : Name) → GoodName n → (time : ℕ)
      → Bytes (entered g I p k n time)
  unfolding entered
  bytes_entered I b p k n good time =
      let e : DirEntry = new_head k (fresh g I) time (length n) in
      bytes_splice (with_fresh g I) (place_at (block_size g) p.block.0 p.offset) (head_bytes e ++ n) (bytes_fresh I b)
      (bytes_append (head_bytes e) n (bytes_head e (omega (arith, good.few_bytes))) (bytes_name n good.allowed))

  pub bytes_inserted : (I : List ℕ) → Bytes I → (dir : ℕ) (s : Spot) (o : Own) (k : Kind) (n : Name) → GoodName n → (time : ℕ)
      → Bytes (inserted g I dir s o k n time)
  unfolding inserted
  bytes_inserted I b dir s o k n good time =
      bytes_renewed (entered g (opened g I s) (place_in g I s) k n time)
      (bytes_entered (opened g I s) (bytes_opened I b s) (place_in g I s) k n good time) dir o time

  -- ---- delete

  bytes_cut : (I : List ℕ) → Bytes I → (a o w : ℕ) → Bytes (cut_out (block_size g) I a o w)
  unfolding cut_out
  bytes_cut I b a o w =
      let B : ℕ = block_size g in
      let moved : List ℕ = take (after B o w) (drop (place_at B a o + w) I) in
      bytes_splice (splice I (place_at B a o) moved) (place_at B a o + after B o w) (zeros w)
      (bytes_splice I (place_at B a o) moved b
      (bytes_take (after B o w) (drop (place_at B a o + w) I) (bytes_drop (place_at B a o + w) I b)))
      (bytes_zeros w)

  bytes_released : (I : List ℕ) → Bytes I → (a : ℕ) → Bytes (released g I a)
  unfolding released
  bytes_released I b a = bytes_pick _ I (freed g I (a - data_at g)) b (bytes_freed I b (a - data_at g))

  bytes_chain : (k : ℕ) (I : List ℕ) → Bytes I → (a : ℕ) → Bytes (chain_freed g I k a)
  unfolding chain_freed
  bytes_chain zero I b a = b
  bytes_chain (suc k) I b a =
      bytes_pick (in_area (area_of g) I a) (chain_freed g (released g I a) k (next (block_size g) I a)) I
      (bytes_chain k (released g I a) (bytes_released I b a) (next (block_size g) I a)) b

  bytes_bare : (I : List ℕ) → Bytes I → (dir a : ℕ) → Bytes (less_bare g I dir a)
  unfolding less_bare unlinked
  bytes_bare I b dir a =
      let B : ℕ = block_size g in
      let J : List ℕ = linked B I (before_from B g.n I (g.n - data_at g) dir a) (next B I a) in
      bytes_pick (eqb a dir) I (pick (zero_from I (B * a + 4) (B - 4)) (released g J a) I) b
      (bytes_pick (zero_from I (B * a + 4) (B - 4)) (released g J a) I
      (bytes_released J (bytes_linked I b (before_from B g.n I (g.n - data_at g) dir a) (next B I a)) a) b)

  pub bytes_removed : (I : List ℕ) → Bytes I → (dir : ℕ) (e : DirEntry) (p : Place) (o : Own) (time : ℕ)
      → Bytes (removed g I dir e p o time)
  unfolding removed entry_gone
  bytes_removed I b dir e p o time =
      let J : List ℕ = cut_out (block_size g) I p.block.0 p.offset (header + e.len) in
      let L : List ℕ = less_bare g J dir p.block.0 in
      bytes_renewed (chain_freed g L (g.n - data_at g) e.addr.0)
      (bytes_chain (g.n - data_at g) L
      (bytes_bare J (bytes_cut I b p.block.0 p.offset (header + e.len)) dir p.block.0) e.addr.0) dir o time

  -- ---- write

  bytes_grown : (I : List ℕ) → Bytes I → (last : ℕ) → Bytes (grown g I last)
  unfolding grown
  bytes_grown I b last = bytes_linked (taken g I (fresh g I - data_at g)) (bytes_taken I b (fresh g I - data_at g)) last (fresh g I)

  bytes_extended : (k : ℕ) (I : List ℕ) → Bytes I → (last : ℕ) → Bytes (extended g I last k)
  unfolding extended
  bytes_extended zero I b last = b
  bytes_extended (suc k) I b last = bytes_extended k (grown g I last) (bytes_grown I b last) (fresh g I)

  bytes_resized : (I : List ℕ) → Bytes I → (a old new : ℕ) → Bytes (resized g I a old new)
  unfolding resized cut_after
  bytes_resized I b a old new =
      let B : ℕ = block_size g in
      let last : ℕ = hop B I (new - 1) a in
      bytes_pick (ltb old new) (extended g I (hop B I (old - 1) a) (new - old))
      (linked B (chain_freed g I (old - new) (next B I last)) last 0)
      (bytes_extended (new - old) I b (hop B I (old - 1) a))
      (bytes_linked (chain_freed g I (old - new) (next B I last)) (bytes_chain (old - new) I b (next B I last)) last 0)

  bytes_poured : (k : ℕ) (I : List ℕ) → Bytes I → (a o : ℕ) (vs : List ℕ) → Bytes vs → Bytes (poured (block_size g) I a o vs k)
  unfolding poured
  bytes_poured zero I b a o vs c = b
  bytes_poured (suc k) I b a o vs c =
      let B : ℕ = block_size g in
      bytes_poured k (splice I (place_at B a o) (take (B - 4 - o) vs))
      (bytes_splice I (place_at B a o) (take (B - 4 - o) vs) b (bytes_take (B - 4 - o) vs c)) (next B I a) 0 (drop (B - 4 - o) vs)
      (bytes_drop (B - 4 - o) vs c)

  pub bytes_wrote : (I : List ℕ) → Bytes I → (e : DirEntry) (p : Place) (c : ℕ) (vs : List ℕ) → Bytes vs → (time : ℕ)
      → Bytes (wrote g I e p c vs time)
  unfolding wrote spread
  bytes_wrote I b e p c vs d time =
      let B : ℕ = block_size g in
      let m : ℕ = blocks_for B (c + length vs) in
      let J : List ℕ = resized g I e.addr.0 (blocks_for B e.size) m in
      let at : ℕ = hop B J (c / (B - 4)) e.addr.0 in
      bytes_sized (poured B J at (c % (B - 4)) vs (m - c / (B - 4)))
      (bytes_poured (m - c / (B - 4)) J (bytes_resized I b e.addr.0 (blocks_for B e.size) m) at (c % (B - 4)) vs d)
      (place_at B p.block.0 p.offset + 5) (place_at B p.block.0 p.offset + 9) (c + length vs) time

  pub bytes_patched : (I : List ℕ) → Bytes I → (e : DirEntry) (p : Place) (c : ℕ) (vs : List ℕ) → Bytes vs → (time : ℕ)
      → Bytes (patched g I e p c vs time)
  unfolding patched spread
  bytes_patched I b e p c vs d time =
      let B : ℕ = block_size g in
      let m : ℕ = blocks_for B (c + length vs) in
      let at : ℕ = hop B I (c / (B - 4)) e.addr.0 in
      bytes_sized (poured B I at (c % (B - 4)) vs (m - c / (B - 4)))
      (bytes_poured (m - c / (B - 4)) I b at (c % (B - 4)) vs d)
      (place_at B p.block.0 p.offset + 5) (place_at B p.block.0 p.offset + 9) e.size time
