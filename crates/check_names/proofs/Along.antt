-- How `earlier`, `tested` and `forget` go along a walk, one step at a time.
use Rattle.std.specs.Prelude.{Option, Some, None, Result, Ok, Err}
use mathlib.Core.Path.{◌≡◌, refl, sym, ap, ◌∙◌, subst}
use mathlib.Core.Bool.{Bool, true, false, not, ◌&&◌}
use mathlib.Core.List.{List, [], ◌∷◌, ◌++◌, append-nil}
use Prim.Native.Nat.{ℕ, ◌+◌, ◌-◌, ◌^◌, ◌≤◌, ◌<◌}
use native.Mathlib.Omega.{arith}
use lib.ListN.{take, drop, take-append-drop}
use lib.Seq.{take-add, drop-drop}
use borrow.Author.Tests.{not-true, not-false}
use Rattle.wire.specs.Pick.{same}
use Rattle.block.specs.declared.Addr.{Addr}
use Rattle.block.specs.Block.{Area}
use Rattle.dir_entry.specs.Entry.{place_at, name_at}
use Rattle.super_block.specs.declared.SuperBlock.{SuperBlock}
use Rattle.super_block.specs.Super.{area_in, Fit}
use Rattle.super_block.proofs.Fits.{placed}
use Rattle.model.specs.Tree.{Name}
use Rattle.read_dir.specs.Walk.{Walk, walk}
use Rattle.read_dir.specs.Cursor.{start, cursor_walk, on_step, Stepped, items}
use Rattle.read_dir.specs.declared.ReadDir.{ReadDir}
use Rattle.read_dir.specs.declared.Placed.{Placed}
use Rattle.limits.specs.declared.Damage.{Damage}
use Rattle.read_dir.proofs.Along.{start-walk, count_again}
use Rattle.read_dir.proofs.Sizes.{count_fits}
use Rattle.check_names.specs.Names.{one_of, names_in, ends}
use Rattle.name_filter.specs.Bits.{hash_of, wiped}
use Rattle.check_names.specs.Filter.{met_in, distinct_in, clear, noted_in, CoversPart, Only}
use Rattle.check_names.proofs.Among.{search_hit, search_miss, search_end, search_none, and_false}
use Rattle.check_names.proofs.Parts.{part_hit, part_more}
use Rattle.check_names.proofs.Marks.{clear_covers, clear_within, covers_more, within_more, within_all, within_wiped, within_none}

-- ---- what the test has met: the first i names of the walk w, of which v is left

pub record Met (F : List ℕ) (m k i : ℕ) (w v : Walk) : Type 0 where
  pub left : names_in v ≡ drop i (names_in w)
  pub ending : ends v ≡ ends w
  pub apart : distinct_in m k (take i (names_in w)) ≡ true
  pub covers : CoversPart F (take i (names_in w)) m k
  pub within : Only F (take i (names_in w))
  pub few : i + items v < 2 ^ 32

pub met_within : (F : List ℕ) (m k i : ℕ) (w v : Walk) → Met F m k i w v → Only F (names_in w)
met_within F m k i w v d = within_all F i (names_in w) d.within

pub met_start : (s : SuperBlock) (I F : List ℕ) (m k : ℕ) (c : ReadDir) (dir : Addr)
    → Fit s I → F ≡ clear → c ≡ start (area_in s) dir → Met F m k 0 (walk (area_in s) I dir.0) (cursor_walk (area_in s) I c)
unfolding distinct_in
met_start s I F m k c dir f e b =
    let q : cursor_walk (area_in s) I c ≡ walk (area_in s) I dir.0 = start-walk (area_in s) I c dir b in
    record {
      left = ap names_in q;
      ending = ap ends q;
      apart = refl;
      covers = clear_covers F m k;
      within = clear_within F [] e;
      few = omega (arith, ap items q, count_fits (area_in s) I dir.0 (placed f).bytes);
    }

-- ---- one step

module _ (A : Area) (I : List ℕ) (c d : ReadDir) (m : Result (Option Placed) Damage) (g : Stepped A I c d m) where
  gave : (x : Result (Option Placed) Damage) → m ≡ x → cursor_walk A I c ≡ on_step A I d x
  gave x e = g.walked ∙ ap (on_step A I d) e

  names_end : m ≡ Ok None → names_in (cursor_walk A I c) ≡ []
  unfolding names_in
  names_end e = ap names_in (gave (Ok None) e)

  names_bad : (v : Damage) → m ≡ Err v → names_in (cursor_walk A I c) ≡ []
  unfolding names_in
  names_bad v e = ap names_in (gave (Err v) e)

  names_item : (y : Placed) → m ≡ Ok (Some y)
      → names_in (cursor_walk A I c) ≡ name_at I (place_at A.size y.place.block.0 y.place.offset) y.entry.len ∷ names_in (cursor_walk A I d)
  unfolding names_in
  names_item y q = ap names_in (gave (Ok (Some y)) q)

  ends_item : (y : Placed) → m ≡ Ok (Some y) → ends (cursor_walk A I c) ≡ ends (cursor_walk A I d)
  unfolding ends
  ends_item y q = ap ends (gave (Ok (Some y)) q)

  -- ---- earlier: what is left to search is what was to be searched

  module _ (x : Name) (c₀ : ReadDir) (i j : ℕ) (inv : one_of x (take (i - j) (names_in (cursor_walk A I c))) ≡ one_of x (take i (names_in (cursor_walk A I c₀)))) where
    looked : (ys : List Name) → names_in (cursor_walk A I c) ≡ ys → one_of x (take (i - j) ys) ≡ one_of x (take i (names_in (cursor_walk A I c₀)))
    looked ys q = sym (ap (λ (zs : List Name). one_of x (take (i - j) zs)) q) ∙ inv

    pub earlier_again : (y : Placed) (t : Bool) → m ≡ Ok (Some y) → j < i
        → t ≡ same (name_at I (place_at A.size y.place.block.0 y.place.offset) y.entry.len) x → t ≡ false
        → one_of x (take (i - (j + 1)) (names_in (cursor_walk A I d))) ≡ one_of x (take i (names_in (cursor_walk A I c₀)))
    earlier_again y t q h a f =
        let n : Name = name_at I (place_at A.size y.place.block.0 y.place.offset) y.entry.len in
        let e : i - (j + 1) ≡ i - j - 1 = omega arith in
        rw e (sym (search_miss x (i - j) n (names_in (cursor_walk A I d)) (omega arith) (sym a ∙ f)) ∙ looked (n ∷ names_in (cursor_walk A I d)) (names_item y q))

    module _ (dir : Addr) (b : c₀ ≡ start A dir) where
      whole : one_of x (take i (names_in (cursor_walk A I c₀))) ≡ one_of x (take i (names_in (walk A I dir.0)))
      whole = ap (λ (v : Walk). one_of x (take i (names_in v))) (start-walk A I c₀ dir b)

      pub earlier_hit : (y : Placed) (t : Bool) → m ≡ Ok (Some y) → j < i
          → t ≡ same (name_at I (place_at A.size y.place.block.0 y.place.offset) y.entry.len) x → t ≡ true → true ≡ one_of x (take i (names_in (walk A I dir.0)))
      earlier_hit y t q h a f =
          let n : Name = name_at I (place_at A.size y.place.block.0 y.place.offset) y.entry.len in
          sym (search_hit x (i - j) n (names_in (cursor_walk A I d)) (omega arith) (sym a ∙ f)) ∙ looked (n ∷ names_in (cursor_walk A I d)) (names_item y q) ∙ whole

      pub earlier_end : m ≡ Ok None → false ≡ one_of x (take i (names_in (walk A I dir.0)))
      earlier_end q = sym (search_end x (i - j)) ∙ looked [] (names_end q) ∙ whole

      pub earlier_bad : (v : Damage) → m ≡ Err v → false ≡ one_of x (take i (names_in (walk A I dir.0)))
      earlier_bad v q = sym (search_end x (i - j)) ∙ looked [] (names_bad v q) ∙ whole

  -- ---- tested

  module _ (F : List ℕ) (n k i : ℕ) (w : Walk) (v : Met F n k i w (cursor_walk A I c)) where
    -- all names are met
    at_end_lem : names_in (cursor_walk A I c) ≡ [] → distinct_in n k (names_in w) ≡ true
    at_end_lem z =
        let t : take i (names_in w) ≡ names_in w
        = sym (append-nil (take i (names_in w))) ∙ ap (λ (ys : List Name). take i (names_in w) ++ ys) (sym z ∙ v.left) ∙ take-append-drop i (names_in w) in
        ap (distinct_in n k) (sym t) ∙ v.apart

    pub tested_end : m ≡ Ok None → true ≡ (ends w && distinct_in n k (names_in w))
    unfolding ends
    tested_end q =
        let t : ends w ≡ true = sym v.ending ∙ ap ends (gave (Ok None) q) in
        sym (ap (λ (b : Bool). b && distinct_in n k (names_in w)) t ∙ at_end_lem (names_end q))

    pub tested_bad : (u : Damage) → m ≡ Err u → false ≡ (ends w && distinct_in n k (names_in w))
    unfolding ends
    tested_bad u q =
        let t : ends w ≡ false = sym v.ending ∙ ap ends (gave (Err u) q) in
        sym (ap (λ (b : Bool). b && distinct_in n k (names_in w)) t)

    -- at a name, after which the filter is G
    module _ (y : Placed) (x : Name) (G : List ℕ) (q : m ≡ Ok (Some y))
        (a : x ≡ name_at I (place_at A.size y.place.block.0 y.place.offset) y.entry.len) (f : G ≡ noted_in F x n k) where
      rest : drop i (names_in w) ≡ x ∷ names_in (cursor_walk A I d)
      rest = sym v.left ∙ names_item y q ∙ ap (λ (y : Name). y ∷ names_in (cursor_walk A I d)) (sym a)

      parts : take i (names_in w) ++ (x ∷ names_in (cursor_walk A I d)) ≡ names_in w
      parts = ap (λ (ys : List Name). take i (names_in w) ++ ys) (sym rest) ∙ take-append-drop i (names_in w)

      one_more : take (i + 1) (names_in w) ≡ take i (names_in w) ++ (x ∷ [])
      one_more = take-add i 1 (names_in w) ∙ ap (λ (ys : List Name). take i (names_in w) ++ take 1 ys) rest

      next_covers : CoversPart G (take (i + 1) (names_in w)) n k
      next_covers =
          subst (λ (ys : List Name). CoversPart G ys n k) (sym one_more)
          (subst (λ (H : List ℕ). CoversPart H (take i (names_in w) ++ (x ∷ [])) n k) (sym f)
          (covers_more F (take i (names_in w)) x n k v.within.long v.covers))

      next_within : Only G (take (i + 1) (names_in w))
      next_within =
          subst (Only G) (sym one_more)
          (subst (λ (H : List ℕ). Only H (take i (names_in w) ++ (x ∷ []))) (sym f)
          (within_more F (take i (names_in w)) x n k v.within))

      pub tested_within : Only G (names_in w)
      tested_within = within_all G (i + 1) (names_in w) next_within

      module _ (t : Bool) (o : t ≡ not (met_in n k x (take i (names_in w)))) where
        pub tested_hit : t ≡ false → false ≡ (ends w && distinct_in n k (names_in w))
        tested_hit z =
            let u : met_in n k x (take i (names_in w)) ≡ true = not-false (met_in n k x (take i (names_in w))) (sym o ∙ z) in
            sym (and_false (ends w) (distinct_in n k (names_in w))
            (ap (distinct_in n k) (sym parts) ∙ part_hit n k (take i (names_in w)) x (names_in (cursor_walk A I d)) u))

        pub tested_again : t ≡ true → Met G n k (i + 1) w (cursor_walk A I d)
        tested_again z =
            let u : met_in n k x (take i (names_in w)) ≡ false = not-true (met_in n k x (take i (names_in w))) (sym o ∙ z) in
            record {
              left = sym (ap (drop 1) rest) ∙ drop-drop 1 i (names_in w);
              ending = sym (ends_item y q) ∙ v.ending;
              apart = ap (distinct_in n k) one_more ∙ part_more n k (take i (names_in w)) x v.apart u;
              covers = next_covers;
              within = next_within;
              few = count_again A I c d m g i (Some y) y v.few q refl;
            }

  -- ---- forget

  module _ (F : List ℕ) (v : Only F (names_in (cursor_walk A I c))) where
    pub forget_again : (y : Placed) (x : Name) (h : ℕ) (G : List ℕ) → m ≡ Ok (Some y) → x ≡ name_at I (place_at A.size y.place.block.0 y.place.offset) y.entry.len
        → h ≡ hash_of x → G ≡ wiped F h → Only G (names_in (cursor_walk A I d))
    forget_again y x h G q a u f =
        let t : names_in (cursor_walk A I c) ≡ x ∷ names_in (cursor_walk A I d) = names_item y q ∙ ap (λ (y : Name). y ∷ names_in (cursor_walk A I d)) (sym a) in
        let z : G ≡ wiped F (hash_of x) = f ∙ ap (wiped F) u in
        subst (λ (y : List ℕ). Only y (names_in (cursor_walk A I d))) (sym z) (within_wiped F x (names_in (cursor_walk A I d)) (subst (Only F) t v))

    pub forget_end : m ≡ Ok None → F ≡ clear
    forget_end q = within_none F (subst (Only F) (names_end q) v)

    pub forget_bad : (u : Damage) → m ≡ Err u → F ≡ clear
    forget_bad u q = within_none F (subst (Only F) (names_bad u q) v)

-- ---- the ends that no step makes

-- no name is left to search
pub earlier_none : (A : Area) (I : List ℕ) (x : Name) (c c₀ : ReadDir) (i j : ℕ) (dir : Addr)
    → one_of x (take (i - j) (names_in (cursor_walk A I c))) ≡ one_of x (take i (names_in (cursor_walk A I c₀))) → i ≤ j → c₀ ≡ start A dir
    → false ≡ one_of x (take i (names_in (walk A I dir.0)))
earlier_none A I x c c₀ i j dir inv h b =
    sym (search_none x (i - j) (names_in (cursor_walk A I c)) (omega arith)) ∙ inv ∙ ap (λ (v : Walk). one_of x (take i (names_in v))) (start-walk A I c₀ dir b)

-- every name is still to be forgotten
pub forget_start : (A : Area) (I F : List ℕ) (c : ReadDir) (dir : Addr) → Only F (names_in (walk A I dir.0)) → c ≡ start A dir
    → Only F (names_in (cursor_walk A I c))
forget_start A I F c dir w b = subst (λ (v : Walk). Only F (names_in v)) (sym (start-walk A I c dir b)) w
