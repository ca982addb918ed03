-- What the lines of a listing's records are: those of the entries that it lists.
use mathlib.Core.Path.{◌≡◌, sym, ap, ◌∙◌, subst}
use mathlib.Core.Bool.{true, false}
use mathlib.Core.Logic.{◌⊎◌, inl, inr}
use mathlib.Core.List.{List, [], ◌∷◌, ◌++◌}
use Prim.Native.Nat.{ℕ, zero, suc, ◌+◌, ◌-◌, ◌*◌, ◌^◌, ◌≤◌, ◌<◌}
use native.Mathlib.Nat.{add-zero, zero-add}
use native.Mathlib.Omega.{arith}
use lib.Dec.{ltb}
use lib.ListN.{length, get_or, take, drop, length-append, length-take, length-drop}
use lib.Seq.{ext_get_or, get_or-take, get_or-drop}
use borrow.Author.Tests.{le-leb, lt-leb}
use Rattle.wire.specs.Be.{be, bytes}
use Rattle.wire.specs.Pick.{pick}
use Rattle.wire.proofs.Numbers.{length_bytes}
use Rattle.wire.proofs.Picks.{either, pick_true, pick_false}
use Rattle.block.specs.Block.{Area}
use Rattle.model.specs.Render.{Shows}
use Rattle.model.specs.Steps.{Bytes}
use Rattle.model.proofs.Areas.{row_inside}
use Rattle.model.proofs.Commit.{shows_one, shows_two}
use Rattle.model.proofs.Entries.{be_shown, be_fits}
use Rattle.dir_entry.specs.declared.DirEntry.{DirEntry}
use Rattle.dir_entry.specs.Entry.{kind_at, kind_byte, entry_at, place_at}
use Rattle.dir_entry.proofs.Heads.{kind_back}
use Rattle.dir_entry.proofs.Slots.{slot_stands}
use Rattle.read_dir.specs.Walk.{Walk, item, finished, damaged, walk}
use Rattle.read_dir.specs.Finds.{record_of, skip, records_from}
use Rattle.read_dir.proofs.Records.{length_record}
use Rattle.read_dir.proofs.Names.{length_name}
use Rattle.read_dir.proofs.Items.{Each, Item, chain_each}
use Rattle.lsmfs_lines.specs.Line.{line_of}
use Rattle.lsmfs_lines.specs.Text.{next_at, line_at, text_from, text_of, lines_from}
use Rattle.lsmfs_lines.proofs.Texts.{text_at, text_end, text_more}

-- An entry whose numbers fit their fields, under its whole name.
pub record Plain (e : DirEntry) (x : List ℕ) : Type 0 where
  pub len : length x ≡ e.len
  pub short : e.len < 256
  pub size : e.size < 2 ^ 32
  pub time : e.time < 2 ^ 64

-- Where its record stands, the line is the entry's, and the next record begins after the name.
module _ (l : List ℕ) (at : ℕ) (e : DirEntry) (x : List ℕ) (p : Plain e x) (h : at + (14 + length x) ≤ length l) (s : Shows l at (record_of e x)) where
  len_shown : get_or l (at + 13) 0 ≡ e.len
  unfolding record_of
  len_shown =
      let F : List ℕ = kind_byte e.kind ∷ (bytes 4 e.size ++ bytes 8 e.time) in
      let k : length F ≡ 13 = ap suc (length-append (bytes 4 e.size) (bytes 8 e.time) ∙ omega (arith, length_bytes 4 e.size, length_bytes 8 e.time)) in
      let q : at + 13 ≡ at + length F + 0 = omega arith in
      ap (λ (j : ℕ). get_or l j 0) q ∙ shows_two l at F (e.len ∷ x) s 0 (omega arith)

  next_record : next_at l at ≡ at + (14 + length x)
  next_record = omega (arith, len_shown, p.len)

  name_shown : take e.len (drop (at + 14) l) ≡ x
  unfolding record_of
  name_shown =
      let F : List ℕ = kind_byte e.kind ∷ (bytes 4 e.size ++ bytes 8 e.time) in
      let k : length F ≡ 13 = ap suc (length-append (bytes 4 e.size) (bytes 8 e.time) ∙ omega (arith, length_bytes 4 e.size, length_bytes 8 e.time)) in
      let q : at + length F + 1 ≡ at + 14 = omega arith in
      let n : Shows l (at + length F) (e.len ∷ x) = shows_two l at F (e.len ∷ x) s in
      let m : Shows l (at + 14) x = subst (λ (j : ℕ). Shows l j x) q (shows_two l (at + length F) (e.len ∷ []) x n) in
      ext_get_or 0 (take e.len (drop (at + 14) l)) x (simp (length-take, length-drop) (omega (arith, p.len)))
      (λ i r.
      let b : i < length x = omega (arith, p.len, simp length-take at r) in
      let c : i < e.len = omega (arith, p.len) in
      get_or-take e.len (drop (at + 14) l) i 0 c ∙ get_or-drop (at + 14) l i 0 ∙ m i b)

  line_record : line_at l at ≡ line_of e.kind e.size e.time x
  unfolding record_of line_at
  line_record =
      let K : List ℕ = kind_byte e.kind ∷ [] in
      let S : List ℕ = bytes 4 e.size in
      let T : List ℕ = bytes 8 e.time in
      let ls : length S ≡ 4 = length_bytes 4 e.size in
      let s₁ : Shows l at (K ++ (S ++ T)) = shows_one l at (K ++ (S ++ T)) (e.len ∷ x) s in
      let s₂ : Shows l (at + 1) (S ++ T) = shows_two l at K (S ++ T) s₁ in
      let q : at + 1 + length S ≡ at + 5 = omega arith in
      let s₃ : Shows l (at + 5) T = subst (λ (j : ℕ). Shows l j T) q (shows_two l (at + 1) S T s₂) in
      let k : get_or l at 0 ≡ kind_byte e.kind = ap (λ (j : ℕ). get_or l j 0) (sym (add-zero at)) ∙ s₁ 0 (omega arith) in
      let ek : kind_at (get_or l at 0) ≡ e.kind = ap kind_at k ∙ kind_back e.kind in
      let es : be 4 l (at + 1) ≡ e.size = be_shown l (at + 1) 4 e.size p.size (shows_one l (at + 1) S T s₂) in
      let et : be 8 l (at + 5) ≡ e.time = be_shown l (at + 5) 8 e.time p.time s₃ in
      rw (ek, es, et, len_shown, name_shown)

-- A list of bytes that ends with the records of a listing has the lines of its entries there.
text_listed : (l : List ℕ) (at cap b : ℕ) (w : Walk) → Each (λ e a o x. Plain e x) w → at + length (records_from cap b w) ≡ length l → Shows l at (records_from cap b w)
    → text_at l at ≡ lines_from cap b w
unfolding records_from lines_from
text_listed l at cap b (item e a o x w) p k s = go (either (ltb (b + (14 + e.len)) cap)) (text_listed l (next_at l at) cap (b + (14 + e.len)) w p.1) k s
  where
    rest : List ℕ
    rest = records_from cap (b + (14 + e.len)) w

    go : (ltb (b + (14 + e.len)) cap ≡ true) ⊎ (ltb (b + (14 + e.len)) cap ≡ false)
        → (next_at l at + length rest ≡ length l → Shows l (next_at l at) rest → text_at l (next_at l at) ≡ lines_from cap (b + (14 + e.len)) w)
        → at + length (pick (ltb (b + (14 + e.len)) cap) (record_of e x ++ rest) []) ≡ length l
        → Shows l at (pick (ltb (b + (14 + e.len)) cap) (record_of e x ++ rest) [])
        → text_at l at ≡ pick (ltb (b + (14 + e.len)) cap) (line_of e.kind e.size e.time x ++ lines_from cap (b + (14 + e.len)) w) []
    go (inl t) i k s =
        let r : List ℕ = record_of e x in
        let line : List ℕ = line_of e.kind e.size e.time x in
        let more : List ℕ = lines_from cap (b + (14 + e.len)) w in
        let pt : pick (ltb (b + (14 + e.len)) cap) (r ++ rest) [] ≡ r ++ rest = pick_true (r ++ rest) [] t in
        let k₁ : at + (length r + length rest) ≡ length l = omega (arith, k, ap length pt, length-append r rest) in
        let lr : length r ≡ 14 + length x = length_record e x in
        let h : at + (14 + length x) ≤ length l = omega arith in
        let s₁ : Shows l at (r ++ rest) = subst (λ (y : List ℕ). Shows l at y) pt s in
        let one : Shows l at r = shows_one l at r rest s₁ in
        let n : next_at l at ≡ at + (14 + length x) = next_record l at e x p.0 h one in
        let q : at + length r ≡ next_at l at = omega arith in
        let s₂ : Shows l (next_at l at) rest = subst (λ (j : ℕ). Shows l j rest) q (shows_two l at r rest s₁) in
        text_more l at (le-leb (next_at l at) (length l) (omega arith))
        ∙ ap (λ (y : List ℕ). y ++ text_at l (next_at l at)) (line_record l at e x p.0 h one)
        ∙ ap (λ (y : List ℕ). line ++ y) (i (omega arith) s₂)
        ∙ sym (pick_true (line ++ more) [] t)
    go (inr f) i k s =
        let pf : pick (ltb (b + (14 + e.len)) cap) (record_of e x ++ rest) [] ≡ [] = pick_false (record_of e x ++ rest) [] f in
        text_end l at (lt-leb (next_at l at) (length l) (omega (arith, k, ap length pf)))
        ∙ sym (pick_false (line_of e.kind e.size e.time x ++ lines_from cap (b + (14 + e.len)) w) [] f)
text_listed l at cap b finished p k s = text_end l at (lt-leb (next_at l at) (length l) (omega arith))
text_listed l at cap b damaged p k s = text_end l at (lt-leb (next_at l at) (length l) (omega arith))

-- The text of a listing's records is the lines of its entries.
text_records : (cap b : ℕ) (w : Walk) → Each (λ e a o x. Plain e x) w → text_of (records_from cap b w) ≡ lines_from cap b w
text_records cap b w p =
    let l : List ℕ = records_from cap b w in
    let z : length l ≡ length l - 0 = omega arith in
    ap (λ (k : ℕ). text_from k l 0) z ∙ text_listed l 0 cap b w p (zero-add (length l)) (λ i q. ap (λ (j : ℕ). get_or l j 0) (zero-add i))

-- ---- the entries of a directory are such

item_plain : (A : Area) (I : List ℕ) → Bytes I → A.end * A.size ≤ length I → (e : DirEntry) (a o : ℕ) (x : List ℕ) → Item A I e a o x → Plain e x
unfolding entry_at
item_plain A I b h e a o x i =
    let t = slot_stands A.size I a o e i.stands in
    let q : ℕ = place_at A.size a o in
    record {
      len = ap length i.name ∙ length_name I q e.len (omega (arith, row_inside A.size A.end (length I) a h i.below, t.ends));
      short = subst (λ (v : ℕ). v < 256) (ap (λ (y : DirEntry). y.len) (sym t.is)) (b (q + 17));
      size = subst (λ (v : ℕ). v < 2 ^ 32) (ap (λ (y : DirEntry). y.size) (sym t.is)) (be_fits 4 I (q + 5) b);
      time = subst (λ (v : ℕ). v < 2 ^ 64) (ap (λ (y : DirEntry). y.time) (sym t.is)) (be_fits 8 I (q + 9) b);
    }

each_map : (P Q : DirEntry → ℕ → ℕ → List ℕ → Type 0) → ((e : DirEntry) (a o : ℕ) (x : List ℕ) → P e a o x → Q e a o x) → (w : Walk) → Each P w → Each Q w
each_map P Q f (item e a o x w) p = (f e a o x p.0, each_map P Q f w p.1)
each_map P Q f finished p = tt
each_map P Q f damaged p = tt

each_skip : (P : DirEntry → ℕ → ℕ → List ℕ → Type 0) (i : ℕ) (w : Walk) → Each P w → Each P (skip i w)
unfolding skip
each_skip P zero w p = p
each_skip P (suc i) (item e a o x w) p = each_skip P i w p.1
each_skip P (suc i) finished p = tt
each_skip P (suc i) damaged p = tt

pub directory_plain : (A : Area) (I : List ℕ) (dir i : ℕ) → Bytes I → A.end * A.size ≤ length I → Each (λ e a o x. Plain e x) (skip i (walk A I dir))
directory_plain A I dir i b h =
    each_skip (λ e a o x. Plain e x) i (walk A I dir)
    (each_map (Item A I) (λ e a o x. Plain e x) (item_plain A I b h) (walk A I dir) (chain_each A I (A.end - A.first) dir))

-- So the text of the records that a listing gives of any directory, from entry number i on, is the lines of these entries.
pub text_directory : (A : Area) (I : List ℕ) (dir i cap : ℕ) → Bytes I → A.end * A.size ≤ length I
    → text_of (records_from cap 0 (skip i (walk A I dir))) ≡ lines_from cap 0 (skip i (walk A I dir))
text_directory A I dir i cap b h = text_records cap 0 (skip i (walk A I dir)) (directory_plain A I dir i b h)
