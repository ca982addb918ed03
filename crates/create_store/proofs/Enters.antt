-- A directory after the stores of a create, its own entry aside: it shows the tree's insert, and the blocks are those that were free.
use mathlib.Core.Path.{◌≡◌, refl, sym, ap, ◌∙◌, subst}
use mathlib.Core.Logic.{◌⊎◌, inl, inr}
use mathlib.Core.List.{List, [], ◌∷◌, ◌++◌, append_assoc, append-nil}
use Prim.Native.Nat.{ℕ, ◌+◌, ◌-◌, ◌*◌, ◌≤◌}
use native.Mathlib.Nat.{add-zero}
use native.Mathlib.Omega.{arith}
use lib.ListN.{length, get_or, drop, length-append}
use Rattle.wire.specs.Be.{bytes, splice, zeros}
use Rattle.wire.proofs.Numbers.{length_bytes}
use Rattle.wire.proofs.Picks.{pick_true, pick_false}
use Rattle.block.specs.Block.{linked}
use Rattle.model.specs.Tree.{Name, Entry, Block, Tree, used, fill, insert}
use Rattle.model.specs.Render.{Piece, View, blocks_at, padded, entry_bytes, entries_bytes, node_pieces, entry_pieces, dir_pieces, ats, count, blocks}
use Rattle.model.specs.Geometry.{Geo, block_size, data_at}
use Rattle.model.specs.Volume.{Volume}
use Rattle.model.specs.Calls.{entry_room, to_create, entry_block, dir_block}
use Rattle.model.proofs.Areas.{size_large}
use Rattle.model.proofs.Cuts.{up_to, dir_split, entries_split, bytes_split}
use Rattle.model.proofs.Full.{length_entries}
use Rattle.bitmap_block.specs.Bitmap.{clears, fresh}
use Rattle.bitmap_block.proofs.Stores.{fresh_index}
use Rattle.dir_entry.specs.declared.Kind.{Kind}
use Rattle.dir_entry.specs.Entry.{head_bytes}
use Rattle.dir_entry.proofs.Heads.{length_head}
use Rattle.read_dir.specs.Finds.{placed}
use Rattle.create_store.specs.declared.Spot.{Spot}
use Rattle.create_store.specs.Create.{spot_on, block_taken, opened, place_in, new_head, entered, inserted_at}
use Rattle.create_store.proofs.Gaps.{Gap, Full, gap, block_more, block_linked, new_block}
use Rattle.create_store.proofs.Stages.{zero_piece, stored, Stage, stage_taken, stage_stored, stage_move}

-- A new entry at block x: the bytes of its fixed part and its name, and one block of zeros.
pub record NewEntry {X : Type 0} (g : Geo) (v : View X) (k : Kind) (n : Name) (now x : ℕ) (e : Entry X) : Type 0 where
  pub named : e.name ≡ n
  pub bytes_are : entry_bytes v e ≡ head_bytes (new_head k x now (length n)) ++ n
  pub block : node_pieces v e.node ≡ zero_piece (block_size g) x ∷ []

-- the first of a list, and the first two
first_of : (l : List ℕ) → 1 ≤ length l → l ≡ get_or l 0 0 ∷ drop 1 l
first_of [] h = absurd (omega arith)
first_of (a ∷ l) h = refl

first_two : (l : List ℕ) → 2 ≤ length l → l ≡ get_or l 0 0 ∷ (get_or l 1 0 ∷ drop 2 l)
first_two [] h = absurd (omega arith)
first_two (a ∷ []) h = absurd (omega arith)
first_two (a ∷ (b ∷ l)) h = refl

module _ (g : Geo) (I : List ℕ) (d : ℕ) (t : Tree d) (us : List Piece) (vol : Volume g I d t) (part : (i : ℕ) → count i (ats us) ≤ count i (blocks (block_size g) d t)) where
  fresh_is : (J : List ℕ) (xs : List Piece) (x : ℕ) (free : List ℕ) → Stage g I d t us J xs (x ∷ free) → fresh g J ≡ x
  unfolding fresh
  fresh_is J xs x free s = ap (λ (l : List ℕ). get_or l 0 0) s.clear

  -- a block taken, as code takes it
  stage_grown : (J : List ℕ) (xs : List Piece) (x : ℕ) (free : List ℕ) → Stage g I d t us J xs (x ∷ free) → Stage g I d t us (block_taken g J) (zero_piece (block_size g) x ∷ xs) free
  unfolding block_taken
  stage_grown J xs x free s =
      let h : 1 ≤ length (clears g J) = omega (arith, ap length s.clear) in
      let e : data_at g + (fresh g J - data_at g) ≡ x = fresh_index g J h ∙ fresh_is J xs x free s in
      subst (λ (z : ℕ). Stage g I d t us (block_taken g J) (zero_piece (block_size g) z ∷ xs) free) e
      (stage_taken g I d t us vol part J xs (fresh g J - data_at g) free (subst (λ (z : ℕ). Stage g I d t us J xs (z ∷ free)) (sym e) s))

  module _ {X : Type 0} (v : View X) (k : Kind) (n : Name) (now : ℕ) (few : length n ≤ 255) (x : ℕ) (e : Entry X) (new : NewEntry g v k n now x e) where
    -- the bytes that are stored
    abbrev text : List ℕ
    text = head_bytes (new_head k x now (length n)) ++ n

    length_text : length text ≡ 18 + length n
    length_text = length-append (head_bytes (new_head k x now (length n))) n ∙ ap (λ (z : ℕ). z + length n) (length_head (new_head k x now (length n)))

    -- an entry stored at offset o of block a
    entered_is : (J : List ℕ) (a o : ℕ) → fresh g J ≡ x → splice (block_taken g J) (block_size g * a + (4 + o)) text ≡ entered g J (placed a o) k n now
    unfolding entered
    entered_is J a o f =
        let p : block_size g * a + (4 + o) ≡ block_size g * a + 4 + o = omega arith in
        λ i. splice (block_taken g J) (p i) (head_bytes (new_head k (sym f i) now (length n)) ++ n)

    -- the bytes of a block with the entry after those of es
    text_bytes : (es : List (Entry X)) → entries_bytes v es ++ text ≡ entries_bytes v (es ++ (e ∷ []))
    unfolding entries_bytes
    text_bytes es =
        ap (λ (l : List ℕ). entries_bytes v es ++ l) (sym new.bytes_are ∙ sym (append-nil (entry_bytes v e)))
        ∙ sym (bytes_split (block_size g) v es e [])

    block_entered : (z : ℕ) (es : List (Entry X)) → splice (bytes 4 z ++ padded (block_size g - 4) (entries_bytes v es)) (4 + used es) text
        ≡ bytes 4 z ++ padded (block_size g - 4) (entries_bytes v (es ++ (e ∷ [])))
    block_entered z es =
        ap (λ (u : ℕ). splice (bytes 4 z ++ padded (block_size g - 4) (entries_bytes v es)) (4 + u) text) (sym (length_entries v es))
        ∙ block_more (block_size g - 4) z (entries_bytes v es) text
        ∙ ap (λ (l : List ℕ). bytes 4 z ++ padded (block_size g - 4) l) (text_bytes es)

    -- ---- into a block with room

    module _ (bs : List (Block X)) (J : List ℕ) (free : List ℕ) (s : Stage g I d t us J (dir_pieces (block_size g) v bs) (x ∷ free)) (r : Gap (entry_room g) n 0 bs) where
      abbrev B : ℕ
      B = block_size g

      abbrev es : List (Entry X)
      es = r.block.entries

      abbrev front : List Piece
      front = up_to B v r.block.at r.earlier

      abbrev here : List (Entry X) → Piece
      here l = record { at = r.block.at; full = bytes 4 (blocks_at r.later) ++ padded (B - 4) (entries_bytes v l) }

      before : dir_pieces B v bs ≡ front ++ (here es ∷ (entry_pieces v es ++ dir_pieces B v r.later))
      unfolding dir_pieces
      before = ap (dir_pieces B v) r.is ∙ dir_split B v r.earlier r.block r.later

      after : (w : ℕ) → (front ++ (here (es ++ (e ∷ [])) ∷ entry_pieces v es)) ++ (zero_piece B x ∷ dir_pieces B v r.later) ≡ dir_pieces B v (insert (entry_room g) w e bs)
      unfolding dir_pieces entry_pieces
      after w =
          let m : entry_pieces v (es ++ (e ∷ [])) ≡ entry_pieces v es ++ (zero_piece B x ∷ [])
          = entries_split B v es e [] ∙ ap (λ (l : List Piece). entry_pieces v es ++ (l ++ [])) new.block in
          append_assoc front (here (es ++ (e ∷ [])) ∷ entry_pieces v es) (zero_piece B x ∷ dir_pieces B v r.later)
          ∙ ap (λ (l : List Piece). front ++ (here (es ++ (e ∷ [])) ∷ l)) (sym (append_assoc (entry_pieces v es) (zero_piece B x ∷ []) (dir_pieces B v r.later)))
          ∙ ap (λ (l : List Piece). front ++ (here (es ++ (e ∷ [])) ∷ (l ++ dir_pieces B v r.later))) (sym m)
          ∙ sym (dir_split B v r.earlier (fill (λ l. l ++ (e ∷ [])) r.block) r.later)
          ∙ ap (dir_pieces B v) (sym (r.becomes w e new.named))

      fits : 4 + used es + length text ≤ B
      fits = omega (arith, length_text, r.room, size_large g)

      gap_stage : (w : ℕ) → Stage g I d t us (entered g J (placed r.block.at (used es)) k n now) (dir_pieces B v (insert (entry_room g) w e bs)) free
      gap_stage w =
          let s₁ : Stage g I d t us (block_taken g J) (zero_piece B x ∷ (front ++ (here es ∷ (entry_pieces v es ++ dir_pieces B v r.later)))) free
          = subst (λ (l : List Piece). Stage g I d t us (block_taken g J) (zero_piece B x ∷ l) free) before (stage_grown J (dir_pieces B v bs) x free s) in
          let s₂ : Stage g I d t us (splice (block_taken g J) (B * r.block.at + (4 + used es)) text) (zero_piece B x ∷ (front ++ (stored (here es) (4 + used es) text ∷ (entry_pieces v es ++ dir_pieces B v r.later)))) free
          = stage_stored g I d t us vol part (block_taken g J) (zero_piece B x ∷ front) (here es) (entry_pieces v es ++ dir_pieces B v r.later) free s₁ (4 + used es) text fits in
          let p : stored (here es) (4 + used es) text ≡ here (es ++ (e ∷ [])) = λ i. record { at = r.block.at; full = block_entered (blocks_at r.later) es i } in
          let q : front ++ (stored (here es) (4 + used es) text ∷ (entry_pieces v es ++ dir_pieces B v r.later))
          ≡ (front ++ (here (es ++ (e ∷ [])) ∷ entry_pieces v es)) ++ dir_pieces B v r.later
          = ap (λ (y : Piece). front ++ (y ∷ (entry_pieces v es ++ dir_pieces B v r.later))) p ∙ sym (append_assoc front (here (es ++ (e ∷ [])) ∷ entry_pieces v es) (dir_pieces B v r.later)) in
          let s₃ = stage_move g I d t us vol part _ (zero_piece B x) (front ++ (here (es ++ (e ∷ [])) ∷ entry_pieces v es)) (dir_pieces B v r.later) free
          (subst (λ (l : List Piece). Stage g I d t us (splice (block_taken g J) (B * r.block.at + (4 + used es)) text) (zero_piece B x ∷ l) free) q s₂) in
          subst (λ (l : List Piece). Stage g I d t us (entered g J (placed r.block.at (used es)) k n now) l free) (after w)
          (subst (λ (L : List ℕ). Stage g I d t us L ((front ++ (here (es ++ (e ∷ [])) ∷ entry_pieces v es)) ++ (zero_piece B x ∷ dir_pieces B v r.later)) free) (entered_is J r.block.at (used es) (fresh_is J (dir_pieces B v bs) x free s)) s₃)

    -- ---- into a new block

    module _ (bs : List (Block X)) (J : List ℕ) (w : ℕ) (free : List ℕ) (s : Stage g I d t us J (dir_pieces (block_size g) v bs) (w ∷ (x ∷ free))) (r : Full (entry_room g) n 0 bs) where
      abbrev C : ℕ
      C = block_size g

      abbrev old : List (Entry X)
      old = r.last.entries

      abbrev head : List Piece
      head = up_to C v r.last.at r.earlier

      abbrev tail : ℕ → Piece
      tail z = record { at = r.last.at; full = bytes 4 z ++ padded (C - 4) (entries_bytes v old) }

      -- the new block, with its one entry
      abbrev one : Piece
      one = record { at = w; full = bytes 4 0 ++ padded (C - 4) (entries_bytes v (e ∷ [])) }

      -- the image where the new block is linked
      abbrev link : List ℕ
      link = linked C (block_taken g J) r.last.at (fresh g J)

      rest_is : dir_pieces C v bs ≡ head ++ (tail 0 ∷ entry_pieces v old)
      unfolding dir_pieces blocks_at
      rest_is =
          ap (dir_pieces C v) r.is ∙ dir_split C v r.earlier r.last []
          ∙ ap (λ (l : List Piece). head ++ (tail 0 ∷ l)) (append-nil (entry_pieces v old))

      all_is : (head ++ (tail w ∷ entry_pieces v old)) ++ (one ∷ (zero_piece C x ∷ [])) ≡ dir_pieces C v (insert (entry_room g) w e bs)
      unfolding dir_pieces blocks_at entry_pieces
      all_is =
          append_assoc head (tail w ∷ entry_pieces v old) (one ∷ (zero_piece C x ∷ []))
          ∙ ap (λ (l : List Piece). head ++ (tail w ∷ (entry_pieces v old ++ (one ∷ ((l ++ []) ++ []))))) (sym new.block)
          ∙ sym (dir_split C v r.earlier r.last (record { at = w; entries = e ∷ [] } ∷ []))
          ∙ ap (dir_pieces C v) (sym (r.becomes w e new.named))

      link_stage : Stage g I d t us link (zero_piece C w ∷ (head ++ (tail w ∷ entry_pieces v old))) (x ∷ free)
      unfolding linked
      link_stage =
          let s₁ : Stage g I d t us (block_taken g J) (zero_piece C w ∷ (head ++ (tail 0 ∷ entry_pieces v old))) (x ∷ free)
          = subst (λ (l : List Piece). Stage g I d t us (block_taken g J) (zero_piece C w ∷ l) (x ∷ free)) rest_is (stage_grown J (dir_pieces C v bs) w (x ∷ free) s) in
          let s₂ : Stage g I d t us (splice (block_taken g J) (C * r.last.at + 0) (bytes 4 w)) (zero_piece C w ∷ (head ++ (stored (tail 0) 0 (bytes 4 w) ∷ entry_pieces v old))) (x ∷ free)
          = stage_stored g I d t us vol part (block_taken g J) (zero_piece C w ∷ head) (tail 0) (entry_pieces v old) (x ∷ free) s₁ 0 (bytes 4 w) (omega (arith, length_bytes 4 w, size_large g)) in
          let p : stored (tail 0) 0 (bytes 4 w) ≡ tail w = λ i. record { at = r.last.at; full = block_linked 0 w (padded (C - 4) (entries_bytes v old)) i } in
          let q : splice (block_taken g J) (C * r.last.at + 0) (bytes 4 w) ≡ link
          = λ i. splice (block_taken g J) (add-zero (C * r.last.at) i) (bytes 4 (sym (fresh_is J (dir_pieces C v bs) w (x ∷ free) s) i)) in
          subst (λ (L : List ℕ). Stage g I d t us L (zero_piece C w ∷ (head ++ (tail w ∷ entry_pieces v old))) (x ∷ free)) q
          (subst (λ (y : Piece). Stage g I d t us (splice (block_taken g J) (C * r.last.at + 0) (bytes 4 w)) (zero_piece C w ∷ (head ++ (y ∷ entry_pieces v old))) (x ∷ free)) p s₂)

      one_is : stored (zero_piece C w) (4 + 0) text ≡ one
      unfolding entries_bytes
      one_is =
          let m : zeros C ≡ bytes 4 0 ++ padded (C - 4) [] = new_block C (omega (arith, size_large g)) in
          let f : splice (zeros C) (4 + 0) text ≡ bytes 4 0 ++ padded (C - 4) (entries_bytes v (e ∷ []))
          = ap (λ (l : List ℕ). splice l (4 + 0) text) m ∙ block_more (C - 4) 0 [] text
          ∙ ap (λ (l : List ℕ). bytes 4 0 ++ padded (C - 4) l) (sym new.bytes_are ∙ sym (append-nil (entry_bytes v e))) in
          λ i. record { at = w; full = f i }

      full_stage : Stage g I d t us (entered g link (placed w 0) k n now) (dir_pieces C v (insert (entry_room g) w e bs)) free
      full_stage =
          let Q : List Piece = head ++ (tail w ∷ entry_pieces v old) in
          let s₁ : Stage g I d t us (block_taken g link) (zero_piece C x ∷ (zero_piece C w ∷ Q)) free = stage_grown link (zero_piece C w ∷ Q) x free link_stage in
          let s₂ : Stage g I d t us (splice (block_taken g link) (C * w + (4 + 0)) text) (zero_piece C x ∷ (stored (zero_piece C w) (4 + 0) text ∷ Q)) free
          = stage_stored g I d t us vol part (block_taken g link) (zero_piece C x ∷ []) (zero_piece C w) Q free s₁ (4 + 0) text (omega (arith, length_text, size_large g)) in
          let s₃ : Stage g I d t us (splice (block_taken g link) (C * w + (4 + 0)) text) (zero_piece C x ∷ ((one ∷ Q) ++ [])) free
          = subst (λ (l : List Piece). Stage g I d t us (splice (block_taken g link) (C * w + (4 + 0)) text) (zero_piece C x ∷ l) free) (ap (λ (y : Piece). y ∷ Q) one_is ∙ sym (append-nil (one ∷ Q))) s₂ in
          let s₄ = stage_move g I d t us vol part _ one Q (zero_piece C x ∷ []) free (stage_move g I d t us vol part _ (zero_piece C x) (one ∷ Q) [] free s₃) in
          subst (λ (l : List Piece). Stage g I d t us (entered g link (placed w 0) k n now) l free) all_is
          (subst (λ (L : List ℕ). Stage g I d t us L (Q ++ (one ∷ (zero_piece C x ∷ []))) free) (entered_is link w 0 (fresh_is link (zero_piece C w ∷ Q) x free link_stage)) s₄)

      full_block : fresh g link ≡ x
      full_block = fresh_is link (zero_piece C w ∷ (head ++ (tail w ∷ entry_pieces v old))) x free link_stage

    -- ---- in either case

    abbrev spot : List (Block X) → Spot
    spot bs = spot_on (entry_room g) n 0 bs

    -- The image before the own entry is renewed, at its stage, and the entry's block.
    pub record Entered (J : List ℕ) (bs : List (Block X)) (free : List ℕ) : Type 0 where
      pub left : List ℕ
      pub stage : Stage g I d t us (entered g (opened g J (spot bs)) (place_in g J (spot bs)) k n now) (dir_pieces (block_size g) v (insert (entry_room g) (dir_block free) e bs)) left
      pub block : inserted_at g J (spot bs) ≡ x

    module _ (J : List ℕ) (bs : List (Block X)) (free : List ℕ) (is : x ≡ entry_block g n bs free) (enough : to_create (entry_room g) n bs ≤ length free)
        (s : Stage g I d t us J (dir_pieces (block_size g) v bs) free) where
      gap_entered : Gap (entry_room g) n 0 bs → Entered J bs free
      unfolding to_create inserted_at
      gap_entered r =
          let c : to_create (entry_room g) n bs ≡ 1 = pick_true {A = ℕ} 1 2 r.some in
          let q : x ≡ get_or free 0 0 = is ∙ ap (λ (z : ℕ). get_or free (z - 1) 0) c in
          let f : free ≡ x ∷ drop 1 free = first_of free (omega arith) ∙ ap (λ (z : ℕ). z ∷ drop 1 free) (sym q) in
          let s' : Stage g I d t us J (dir_pieces (block_size g) v bs) (x ∷ drop 1 free) = subst (Stage g I d t us J (dir_pieces (block_size g) v bs)) f s in
          record {
            left = drop 1 free;
            stage = subst (λ (z : Spot). Stage g I d t us (entered g (opened g J z) (place_in g J z) k n now) (dir_pieces (block_size g) v (insert (entry_room g) (dir_block free) e bs)) (drop 1 free)) (sym r.spot)
                (gap_stage bs J (drop 1 free) s' r (dir_block free));
            block = ap (λ (z : Spot). fresh g (opened g J z)) r.spot ∙ fresh_is J (dir_pieces (block_size g) v bs) x (drop 1 free) s';
          }

      full_entered : Full (entry_room g) n 0 bs → Entered J bs free
      unfolding to_create inserted_at
      full_entered r =
          let c : to_create (entry_room g) n bs ≡ 2 = pick_false {A = ℕ} 1 2 r.none in
          let q : x ≡ get_or free 1 0 = is ∙ ap (λ (z : ℕ). get_or free (z - 1) 0) c in
          let w : ℕ = get_or free 0 0 in
          let f : free ≡ w ∷ (x ∷ drop 2 free) = first_two free (omega arith) ∙ ap (λ (z : ℕ). w ∷ (z ∷ drop 2 free)) (sym q) in
          let s' : Stage g I d t us J (dir_pieces (block_size g) v bs) (w ∷ (x ∷ drop 2 free)) = subst (Stage g I d t us J (dir_pieces (block_size g) v bs)) f s in
          let h : fresh g J ≡ w = fresh_is J (dir_pieces (block_size g) v bs) w (x ∷ drop 2 free) s' in
          let at-fresh : Stage g I d t us (entered g (linked (block_size g) (block_taken g J) r.last.at (fresh g J)) (placed (fresh g J) 0) k n now) (dir_pieces (block_size g) v (insert (entry_room g) w e bs)) (drop 2 free)
          = subst (λ (z : ℕ). Stage g I d t us (entered g (linked (block_size g) (block_taken g J) r.last.at (fresh g J)) (placed z 0) k n now) (dir_pieces (block_size g) v (insert (entry_room g) w e bs)) (drop 2 free)) (sym h)
          (full_stage bs J w (drop 2 free) s' r) in
          record {
            left = drop 2 free;
            stage = subst (λ (z : Spot). Stage g I d t us (entered g (opened g J z) (place_in g J z) k n now) (dir_pieces (block_size g) v (insert (entry_room g) w e bs)) (drop 2 free)) (sym r.spot) at-fresh;
            block = ap (λ (z : Spot). fresh g (opened g J z)) r.spot ∙ full_block bs J w (drop 2 free) s' r;
          }

    pub insert-entered : (J : List ℕ) (b : Block X) (bs : List (Block X)) (free : List ℕ) → x ≡ entry_block g n (b ∷ bs) free → to_create (entry_room g) n (b ∷ bs) ≤ length free
        → Stage g I d t us J (dir_pieces (block_size g) v (b ∷ bs)) free → Entered J (b ∷ bs) free
    insert-entered J b bs free is h s = go (gap (entry_room g) n 0 b bs)
      where
        go : Gap (entry_room g) n 0 (b ∷ bs) ⊎ Full (entry_room g) n 0 (b ∷ bs) → Entered J (b ∷ bs) free
        go (inl r) = gap_entered J (b ∷ bs) free is h s r
        go (inr r) = full_entered J (b ∷ bs) free is h s r
