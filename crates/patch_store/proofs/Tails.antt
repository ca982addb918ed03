-- A patch is a write of the buffer with the file's own bytes behind it: the same stores, the same chain.
use mathlib.Core.Path.{◌≡◌, refl, sym, ap, ◌∙◌, subst}
use mathlib.Core.List.{List, [], ◌++◌, append_assoc, append-nil}
use Prim.Native.Nat.{ℕ, ◌+◌, ◌-◌, ◌*◌, ◌/◌, ◌%◌, ◌≤◌, ◌<◌}
use native.Mathlib.Nat.{mul-zero, div-add-mod, mod-lt}
use native.Mathlib.Decide.{dec_lt}
use native.Mathlib.Omega.{arith}
use lib.ListN.{length, get_or, take, drop, length-append, length-drop, take-append-drop}
use lib.Seq.{length-take-le, take_at, drop-append-le, ext_get_or}
use Rattle.wire.specs.Be.{splice, zeros}
use Rattle.block.specs.Block.{cell}
use Rattle.model.specs.Tree.{Cell}
use Rattle.model.specs.Render.{cells_at, cell_pieces, count}
use Rattle.model.specs.Geometry.{Geo, block_size, Sound}
use Rattle.model.specs.Volume.{All, blocks_for, GoodCell, GoodFile}
use Rattle.model.specs.Calls.{contents, stream, places, chop, rewrite, overlaid}
use Rattle.model.proofs.Alike.{alike_refl}
use Rattle.model.proofs.Areas.{size_large}
use Rattle.model.proofs.Contents.{blocks-some, blocks_enough, blocks_least, length-stream, length-places, rewrite_good, contents-rewrite, places-overlaid}
use Rattle.model.proofs.Counts.{ats_cells}
use Rattle.model.proofs.Demand.{shown_near}
use Rattle.model.proofs.Full.{whole_cells}
use Rattle.write_store.specs.Write.{spread, HeldCells}
use Rattle.write_store.proofs.Fills.{Row, Filled, spread_part}

-- ---- two images with one chain

-- What the blocks show, and what is kept around them, is the whole image.
filled_one : (g : Geo) (I J L : List ℕ) (cs ds : List Cell) → All (GoodCell (block_size g)) ds → places ds ≡ places cs → Filled g I J cs ds → Filled g I L cs ds
    → J ≡ L
unfolding cell
filled_one g I J L cs ds good spots p q = ext_get_or 0 J L (p.kept.size ∙ sym q.kept.size) (λ j h.
    let k : B * (j / B) + j % B ≡ j = div-add-mod j B in
    ap (λ (z : ℕ). get_or J z 0) (sym k) ∙ at_block (j / B) (j % B) (mod-lt j (omega (arith, size_large g))) ∙ ap (λ (z : ℕ). get_or L z 0) k)
  where
    B : ℕ
    B = block_size g

    at_block : (b i : ℕ) → i < block_size g → get_or J (block_size g * b + i) 0 ≡ get_or L (block_size g * b + i) 0
    at_block b i h = go (dec_lt 0 (count b (places cs)))
      where
        go : Dec (0 < count b (places cs)) → get_or J (block_size g * b + i) 0 ≡ get_or L (block_size g * b + i) 0
        go (yes m) =
            shown_near (λ _. ⊥) (block_size g) L J (cell_pieces ds) (cell_pieces ds) (alike_refl (λ _. ⊥) (block_size g) (cell_pieces ds))
            (whole_cells (block_size g) (omega (arith, size_large g)) ds good) q.shown p.shown b i (omega (arith, ap (count b) (ats_cells ds ∙ spots))) h (λ z. z)
        go (no m) = p.kept.at b i (omega arith) h ∙ sym (q.kept.at b i (omega arith) h)

-- ---- the bytes behind the buffer

-- the file's own bytes from position q on
abbrev pub tail_from : ℕ → List Cell → ℕ → List ℕ
tail_from z cs q = drop q (contents z cs)

module _ (B z : ℕ) (cs : List Cell) (five : 5 ≤ B) (good : GoodFile B z cs) where
  wide : z ≤ length (stream cs)
  wide = omega (arith, length-stream B cs good.cells, blocks_enough B five z, ap (λ (x : ℕ). (B - 4) * x) good.long)

  length-contents : length (contents z cs) ≡ z
  unfolding contents
  length-contents = length-take-le z (stream cs) wide

  module _ (c : ℕ) (buf : List ℕ) (inside : c + length buf ≤ z) where
    abbrev whole : List ℕ
    whole = buf ++ tail_from z cs (c + length buf)

    -- With them the buffer ends where the file does.
    pub tail_end : c + length (buf ++ tail_from z cs (c + length buf)) ≡ z
    tail_end =
        omega (
          arith,
          length-append buf (tail_from z cs (c + length buf)),
          length-drop (c + length buf) (contents z cs),
          length-contents,
        )

    -- They are there already.
    tail-over : splice (stream cs) c (buf ++ tail_from z cs (c + length buf)) ≡ splice (stream cs) c buf
    unfolding splice contents
    tail-over =
        let l : List ℕ = stream cs in
        let q : ℕ = c + length buf in
        let few : q ≤ length (take z l) = omega (arith, length-take-le z l wide) in
        let rest : drop q (take z l) ++ drop z l ≡ drop q l
        = sym (drop-append-le q (take z l) (drop z l) few) ∙ ap (drop q) (take-append-drop z l) in
        ap (λ (x : ℕ). take c l ++ ((buf ++ drop q (take z l)) ++ drop x l)) tail_end
        ∙ ap (λ (x : List ℕ). take c l ++ x) (append_assoc buf (drop q (take z l)) (drop z l))
        ∙ ap (λ (x : List ℕ). take c l ++ (buf ++ x)) rest

    -- So the chain of that write is the patch's.
    pub tail-chain : (free : List ℕ) → rewrite B free c (buf ++ tail_from z cs (c + length buf)) cs ≡ overlaid B c buf cs
    unfolding rewrite overlaid
    tail-chain free =
        let w : ℕ = B - 4 in
        let m : blocks_for B (c + length whole) ≡ length cs = ap (blocks_for B) tail_end ∙ sym good.long in
        let none : w * (length cs - length cs) ≡ 0 = ap (λ (x : ℕ). w * x) (let e : length cs - length cs ≡ 0 = omega arith in e) ∙ mul-zero w in
        (λ i. chop w (take (m i) (places cs ++ free)) (splice (stream cs ++ zeros (w * (m i - length cs))) c whole))
        ∙ (λ i. chop w (take_at (places cs) free (length cs) (length-places cs) i) (splice (stream cs ++ zeros (none i)) c whole))
        ∙ ap (λ (x : List ℕ). chop w (places cs) (splice x c whole)) (append-nil (stream cs))
        ∙ ap (chop w (places cs)) tail-over

    -- Its blocks are at the addresses that they had, and they are a file of the same size.
    whole_room : blocks_for B (c + length (buf ++ tail_from z cs (c + length buf))) - length cs ≤ 0
    whole_room = omega (arith, ap (blocks_for B) tail_end, good.long)

    pub overlaid-places : places (overlaid B c buf cs) ≡ places cs
    overlaid-places = places-overlaid B c buf cs

    pub overlaid_good : GoodFile B z (overlaid B c buf cs)
    overlaid_good =
        subst (λ (x : ℕ). GoodFile B x (overlaid B c buf cs)) tail_end
        (subst (GoodFile B (c + length whole)) (tail-chain []) (rewrite_good B z c [] whole cs five good (omega arith) whole_room (omega (arith, tail_end, good.limit))))

    -- Its bytes are the old ones with the buffer over them.
    pub overlaid-contents : contents z (overlaid B c buf cs) ≡ take c (contents z cs) ++ (buf ++ drop (c + length buf) (contents z cs))
    overlaid-contents =
        ap (λ (x : ℕ). contents x (overlaid B c buf cs)) (sym tail_end) ∙ ap (contents (c + length whole)) (sym (tail-chain []))
        ∙ contents-rewrite B z c [] whole cs five good (omega arith) whole_room

-- ---- the stores

module _ (g : Geo) (I : List ℕ) (sound : Sound g (length I)) (z : ℕ) (cs : List Cell) (good : GoodFile (block_size g) z cs) (held : HeldCells g I cs) (c : ℕ) (buf : List ℕ)
    (some_bytes : 1 ≤ length buf) (inside : c + length buf ≤ z) where
  abbrev B : ℕ
  B = block_size g

  abbrev w : ℕ
  w = block_size g - 4

  five : 5 ≤ block_size g
  five = omega (arith, size_large g)

  row : Row g I cs
  row = record { shown = held.shown; whole = held.whole; once = held.once; range = held.range }

  -- a buffer that ends in the file, into the blocks up to its last byte
  pub filled : (vs : List ℕ) → 1 ≤ length vs → c + length vs ≤ z
      → Filled g I (spread (block_size g) I (cells_at cs) c vs (blocks_for (block_size g) (c + length vs))) cs (overlaid (block_size g) c vs cs)
  unfolding overlaid
  filled vs some k =
      let m : ℕ = blocks_for B (c + length vs) in
      let few : m ≤ length cs
      = blocks_least B five (c + length vs) (length cs) (omega (arith, good.long, blocks-some B five z))
      (omega (arith, blocks_enough B five z, ap (λ (x : ℕ). w * x) good.long)) in
      spread_part g I sound cs row c vs some m few (blocks_enough B five (c + length vs))

  -- The stores of that write and of the patch leave one image.
  pub tail-spread : spread (block_size g) I (cells_at cs) c (buf ++ tail_from z cs (c + length buf)) (blocks_for (block_size g) (c + length (buf ++ tail_from z cs (c + length buf))))
      ≡ spread (block_size g) I (cells_at cs) c buf (blocks_for (block_size g) (c + length buf))
  tail-spread =
      let vs : List ℕ = buf ++ tail_from z cs (c + length buf) in
      let e : c + length vs ≡ z = tail_end B z cs five good c buf inside in
      let a = filled vs (omega (arith, length-append buf (tail_from z cs (c + length buf)))) (omega arith) in
      let b = filled buf some_bytes inside in
      filled_one g I _ _ cs (overlaid B c buf cs) (overlaid_good B z cs five good c buf inside).cells (overlaid-places B z cs five good c buf inside)
      (subst (Filled g I (spread B I (cells_at cs) c vs (blocks_for B (c + length vs))) cs) (same_chain vs refl) a) b
    where
      same_chain : (vs : List ℕ) → vs ≡ buf ++ tail_from z cs (c + length buf) → overlaid (block_size g) c vs cs ≡ overlaid (block_size g) c buf cs
      same_chain vs q = unfold overlaid in ap (λ (x : List ℕ). chop w (places cs) (splice (stream cs) c x)) q ∙ ap (chop w (places cs)) (tail-over B z cs five good c buf inside)
