-- R1 to R3: the laws of a list of tests, what each test says, and that a call passes them exactly where the numbers are sound.
use mathlib.Core.Path.{◌≡◌, refl, sym, ap, ◌∙◌}
use mathlib.Core.Bool.{Bool, true, false, not, ◌||◌, ◌&&◌}
use mathlib.Core.Logic.{◌⊎◌, inl, inr}
use mathlib.Core.List.{List, [], ◌∷◌}
use Prim.Native.Nat.{ℕ, zero, suc, ◌+◌, ◌*◌, ◌/◌, ◌%◌, ◌≤◌, ◌<◌}
use native.Mathlib.Nat.{one-le-pow, div-le_self, le-div_iff_mul-le}
use native.Mathlib.Omega.{arith}
use lib.Dec.{lit<, ltb, eqb}
use lib.ListN.{length, take, drop}
use borrow.Author.Tests.{ltb-false, leb-false, eqb-true, eqb-false, not-false, le-ltb, lt-ltb, lt-leb, eq-eqb, ne_eqb}
use Rattle.wire.specs.Pick.{pick, same}
use Rattle.wire.proofs.Picks.{either, not_both, and_both, pick_true, pick_false}
use Rattle.model.specs.Answers.{when, first_of}
use Rattle.model.specs.Geometry.{Mount, Geo, block_size, code_size, last_code, signature, bad_code, map_size, rest, numbered, geo_at, format_geo, version_at, code_at, count_at, image_limit, Known, Sound, bad_image, bad_version, bad_mark, bad_count, open_refusal, format_refusal}

-- ---- tests

-- Of two tests neither holds exactly where the two do not.
pub or_false : (a b : Bool) → (a || b) ≡ false → (a ≡ false) × (b ≡ false)
or_false true b e = absurd (not_both refl e)
or_false false b e = (refl, e)

pub false_or : {a b : Bool} → a ≡ false → b ≡ false → (a || b) ≡ false
false_or {a} {b} p q = rw p q

-- A test's refusal is k where it holds, and none where it does not.
pub when_true : (k : ℕ) {b : Bool} → b ≡ true → when k b ≡ k
unfolding when
when_true k e = pick_true k 0 e

pub when_false : (k : ℕ) {b : Bool} → b ≡ false → when k b ≡ 0
unfolding when
when_false k e = pick_false k 0 e

pub when-none : (k : ℕ) (b : Bool) → 1 ≤ k → when k b ≡ 0 → b ≡ false
when-none k b h e = go (either b)
  where
    go : (b ≡ true) ⊎ (b ≡ false) → b ≡ false
    go (inl t) = absurd (omega (arith, when_true k t))
    go (inr f) = f

-- ---- the first refusal of a list

pub first_of_none : first_of [] ≡ 0
unfolding first_of
first_of_none = refl

-- A refusal at the head is the answer, and where there is none the tail answers.
pub first_of_head : (k : ℕ) (ks : List ℕ) → 1 ≤ k → first_of (k ∷ ks) ≡ k
unfolding first_of
first_of_head zero ks h = absurd (omega arith)
first_of_head (suc k) ks h = refl

pub first_of_tail : (k : ℕ) (ks : List ℕ) → k ≡ 0 → first_of (k ∷ ks) ≡ first_of ks
unfolding first_of
first_of_tail k ks e = rw e refl

pub first_of_one : (k : ℕ) → first_of (k ∷ []) ≡ k
unfolding first_of
first_of_one zero = refl
first_of_one (suc k) = refl

-- There is no refusal exactly where none is in the list.
pub first_of_zero : (k : ℕ) (ks : List ℕ) → first_of (k ∷ ks) ≡ 0 → (k ≡ 0) × (first_of ks ≡ 0)
unfolding first_of
first_of_zero zero ks e = (refl, e)
first_of_zero (suc k) ks e = absurd (omega arith)

-- The same of a test at the head: it holds and its number is the answer; it does not and the rest answers; and no refusal.
pub refuses : (k : ℕ) {b : Bool} (ks : List ℕ) → 1 ≤ k → b ≡ true → first_of (when k b ∷ ks) ≡ k
refuses k {b} ks h e = first_of_head (when k b) ks (omega (arith, when_true k e)) ∙ when_true k e

pub passes : (k : ℕ) {b : Bool} (ks : List ℕ) → b ≡ false → first_of (when k b ∷ ks) ≡ first_of ks
passes k {b} ks e = first_of_tail (when k b) ks (when_false k e)

pub passed : (k : ℕ) (b : Bool) (ks : List ℕ) → 1 ≤ k → first_of (when k b ∷ ks) ≡ 0 → (b ≡ false) × (first_of ks ≡ 0)
passed k b ks h e = let z = first_of_zero (when k b) ks e in (when-none k b h z.0, z.1)

-- ---- what the tests say

-- The size code is known exactly where 2 does not hold of it.
good_code : (M : Mount) → bad_code M ≡ false → M.code ≤ last_code
unfolding bad_code
good_code M e = ltb-false last_code M.code e

pub code_good : (M : Mount) → M.code ≤ last_code → bad_code M ≡ false
unfolding bad_code
code_good M e = le-ltb last_code M.code e

code_bad : (M : Mount) → last_code < M.code → bad_code M ≡ true
unfolding bad_code
code_bad M h = lt-ltb last_code M.code h

-- a block has bytes, whatever its size code
some_size : (c : ℕ) → 0 < code_size c
some_size c = omega (arith, one-le-pow c 2 (lit< tt))

-- 1 does not hold: the image has bytes, in whole blocks, within the limit, and a block after K+1.
pub good_image : (M : Mount) (len : ℕ) → bad_image M len ≡ false → (1 ≤ len) × (len % code_size M.code ≡ 0) × (len ≤ image_limit) × (M.K + 2 < len / code_size M.code)
unfolding bad_image
good_image M len e =
    let a = or_false _ _ e in
    let b = or_false _ _ a.1 in
    let c = or_false _ _ b.1 in
    let n : len ≡ 0 → ⊥ = eqb-false len 0 a.0 in
    (some_bytes len n, eqb-true _ _ (not-false _ b.0), ltb-false _ _ c.0, leb-false _ _ c.1)
  where
    some_bytes : (k : ℕ) → (k ≡ 0 → ⊥) → 1 ≤ k
    some_bytes zero h = absurd (h refl)
    some_bytes (suc k) h = omega arith

pub image_good : (M : Mount) (len : ℕ) → len % code_size M.code ≡ 0 → len ≤ image_limit → M.K + 2 < len / code_size M.code
    → bad_image M len ≡ false
unfolding bad_image
image_good M len w l b =
    false_or (ne_eqb len 0 (λ z. omega (arith, b, div-le_self len (code_size M.code))))
    (false_or (ap not (eq-eqb (len % code_size M.code) 0 w)) (false_or (le-ltb image_limit len l) (lt-leb (len / code_size M.code) (M.K + 2) b)))

-- The version is known exactly where 2 does not hold of it.
good_version : (M : Mount) (v n : ℕ) → bad_code M ≡ false → bad_version v M.code ≡ false → Known (numbered M v n)
unfolding bad_version
good_version M v n z e = go (either (eqb v 2))
  where
    go : (eqb v 2 ≡ true) ⊎ (eqb v 2 ≡ false) → Known (numbered M v n)
    go (inl t) = inr (eqb-true v 2 t, good_code M z)
    go (inr f) =
        let w : (eqb v 2 || (eqb v 1 && eqb M.code 0)) ≡ true = not-false _ e in
        let h = and_both (eqb v 1) (eqb M.code 0) (sym (ap (λ (b : Bool). b || (eqb v 1 && eqb M.code 0)) f) ∙ w) in
        inl (eqb-true v 1 h.0, eqb-true M.code 0 h.1)

version_good : (g : Geo) → Known g → bad_version g.version g.code ≡ false
unfolding bad_version
version_good g (inl k) = let e = k.0 in let z = k.1 in rw (e, z)
version_good g (inr k) = let e = k.0 in rw e

known_code : (g : Geo) → Known g → g.code ≤ last_code
known_code g (inl k) = omega (arith, k.1)
known_code g (inr k) = k.1

-- 2 does not hold: the signature and the mount's size code stand at block M, and the version between them is known.
pub record Marked (M : Mount) (I : List ℕ) : Type 0 where
  pub letters : same (take 8 (drop (code_size M.code * M.K) I)) signature ≡ true
  pub code : code_at M I ≡ M.code

good_mark : (M : Mount) (I : List ℕ) → bad_mark M I ≡ false → Marked M I × (bad_version (version_at M I) M.code ≡ false)
unfolding bad_mark
good_mark M I e =
    let a = or_false _ _ e in
    let b = or_false _ _ a.1 in
    (record { letters = not-false _ a.0; code = eqb-true _ _ (not-false _ b.0) }, b.1)

pub mark_good : (M : Mount) (I : List ℕ) → Marked M I → bad_version (version_at M I) M.code ≡ false → bad_mark M I ≡ false
unfolding bad_mark
mark_good M I m v = false_or (ap not m.letters) (false_or (ap not (eq-eqb _ _ m.code)) v)

-- 3 does not hold: n is inside the image, and N is large enough for the version: that of one bitmap block and its bits, or 2 with a
-- remainder that is not 1.
record Counted (g : Geo) (len : ℕ) : Type 0 where
  inside : g.n ≤ len / block_size g
  room : 2 ≤ rest g
  one_map : g.version ≡ 1 → map_size g + 1 ≤ rest g
  remainder : (g.version ≡ 1 → ⊥) → rest g % (map_size g + 1) ≡ 1 → ⊥

good_count : (g : Geo) (len : ℕ) → bad_count g len ≡ false → Counted g len
unfolding bad_count
good_count g len e = go (either (eqb g.version 1))
  where
    both : (ltb (len / block_size g) g.n ≡ false)
        × (pick (eqb g.version 1) (ltb (rest g) (map_size g + 1)) (ltb (rest g) 2 || eqb (rest g % (map_size g + 1)) 1) ≡ false)
    both = or_false _ _ e

    go : (eqb g.version 1 ≡ true) ⊎ (eqb g.version 1 ≡ false) → Counted g len
    go (inl t) =
        let h : map_size g + 1 ≤ rest g = ltb-false _ _ (sym (pick_true _ _ t) ∙ both.1) in
        record {
          inside = ltb-false _ _ both.0;
          room = omega (arith, h, some_size g.code);
          one_map = λ _. h;
          remainder = λ n. absurd (n (eqb-true _ _ t));
        }
    go (inr f) =
        let h = or_false _ _ (sym (pick_false (ltb (rest g) (map_size g + 1)) _ f) ∙ both.1) in
        record {
          inside = ltb-false _ _ both.0;
          room = ltb-false _ _ h.0;
          one_map = λ n. absurd (eqb-false _ _ f n);
          remainder = λ _. eqb-false _ _ h.1;
        }

count_good : (g : Geo) (len : ℕ) → Counted g len → bad_count g len ≡ false
unfolding bad_count
count_good g len c = false_or (le-ltb _ _ c.inside) (go (either (eqb g.version 1)))
  where
    go : (eqb g.version 1 ≡ true) ⊎ (eqb g.version 1 ≡ false)
        → pick (eqb g.version 1) (ltb (rest g) (map_size g + 1)) (ltb (rest g) 2 || eqb (rest g % (map_size g + 1)) 1) ≡ false
    go (inl t) = pick_true _ _ t ∙ le-ltb _ _ (c.one_map (eqb-true _ _ t))
    go (inr f) = pick_false _ _ f ∙ false_or (le-ltb _ _ c.room) (ne_eqb _ _ (c.remainder (eqb-false _ _ f)))

-- ---- opening: which refusal, by the tests

-- A size code that is not known is refused before anything of the image is looked at, by every call and so by format.
pub open_code : (M : Mount) (I : List ℕ) → last_code < M.code → open_refusal M I ≡ 2
unfolding open_refusal
open_code M I h = refuses 2 _ (omega arith) (code_bad M h)

pub format_code : (M : Mount) (len : ℕ) → last_code < M.code → format_refusal M len ≡ 2
unfolding format_refusal
format_code M len h = refuses 2 _ (omega arith) (code_bad M h)

module _ (M : Mount) (I : List ℕ) (z : bad_code M ≡ false) where
  pub open_1 : bad_image M (length I) ≡ true → open_refusal M I ≡ 1
  unfolding open_refusal
  open_1 a = passes 2 _ z ∙ refuses 1 _ (omega arith) a

  pub open_2 : bad_image M (length I) ≡ false → bad_mark M I ≡ true → open_refusal M I ≡ 2
  unfolding open_refusal
  open_2 a b = passes 2 _ z ∙ passes 1 _ a ∙ refuses 2 _ (omega arith) b

  pub open_3 : bad_image M (length I) ≡ false → bad_mark M I ≡ false → bad_count (geo_at M I) (length I) ≡ true → open_refusal M I ≡ 3
  unfolding open_refusal
  open_3 a b c = passes 2 _ z ∙ passes 1 _ a ∙ passes 2 _ b ∙ refuses 3 _ (omega arith) c

  pub open_0 : bad_image M (length I) ≡ false → bad_mark M I ≡ false → bad_count (geo_at M I) (length I) ≡ false → open_refusal M I ≡ 0
  unfolding open_refusal
  open_0 a b c = passes 2 _ z ∙ passes 1 _ a ∙ passes 2 _ b ∙ passes 3 _ c ∙ first_of_none

-- None of the four tests holds where there is no refusal.
record Passed (M : Mount) (I : List ℕ) : Type 0 where
  code : bad_code M ≡ false
  image : bad_image M (length I) ≡ false
  mark : bad_mark M I ≡ false
  count : bad_count (geo_at M I) (length I) ≡ false

opened : (M : Mount) (I : List ℕ) → open_refusal M I ≡ 0 → Passed M I
unfolding open_refusal
opened M I e =
    let z = passed 2 _ _ (omega arith) e in
    let a = passed 1 _ _ (omega arith) z.1 in
    let b = passed 2 _ _ (omega arith) a.1 in
    let c = passed 3 _ _ (omega arith) b.1 in
    record { code = z.0; image = a.0; mark = b.0; count = c.0 }

-- ---- sound numbers

-- The tests of the numbers pass exactly where the numbers are sound.
tests_sound : (M : Mount) (v n len : ℕ) → bad_code M ≡ false → bad_image M len ≡ false → bad_version v M.code ≡ false
    → bad_count (numbered M v n) len ≡ false → Sound (numbered M v n) len
tests_sound M v n len z a w b =
    let i = good_image M len a in
    let c = good_count (numbered M v n) len b in
    record {
      known = good_version M v n z w;
      whole = i.1;
      limit = i.2;
      inside_image = (le-div_iff_mul-le (some_size M.code)).0 c.inside;
      room = c.room;
      one_map = c.one_map;
      remainder = c.remainder;
    }

sound_inside : (M : Mount) (v n len : ℕ) → Sound (numbered M v n) len → n ≤ len / code_size M.code
sound_inside M v n len s = (le-div_iff_mul-le (some_size M.code)).1 s.inside_image

sound_image : (M : Mount) (v n len : ℕ) → Sound (numbered M v n) len → bad_image M len ≡ false
sound_image M v n len s = image_good M len s.whole s.limit (omega (arith, sound_inside M v n len s, s.room))

sound_count : (M : Mount) (v n len : ℕ) → Sound (numbered M v n) len → bad_count (numbered M v n) len ≡ false
sound_count M v n len s =
    count_good (numbered M v n) len
    (record { inside = sound_inside M v n len s; room = s.room; one_map = s.one_map; remainder = s.remainder })

-- A call on a volume gives none of 1, 2, 3 exactly where the numbers of the mount are sound and the mark stands there.
pub opens_sound : (M : Mount) (I : List ℕ) → open_refusal M I ≡ 0 → Sound (geo_at M I) (length I) × Marked M I
opens_sound M I e =
    let t = opened M I e in
    let m = good_mark M I t.mark in
    (tests_sound M (version_at M I) (count_at M I) (length I) t.code t.image m.1 t.count, m.0)

pub sound_opens : (M : Mount) (I : List ℕ) → Sound (geo_at M I) (length I) → Marked M I → open_refusal M I ≡ 0
sound_opens M I s m =
    open_0 M I (code_good M (known_code (geo_at M I) s.known)) (sound_image M (version_at M I) (count_at M I) (length I) s)
    (mark_good M I m (version_good (geo_at M I) s.known)) (sound_count M (version_at M I) (count_at M I) (length I) s)

-- ---- format

module _ (M : Mount) (len : ℕ) where
  module _ (z : bad_code M ≡ false) where
    pub format_1 : bad_image M len ≡ true → format_refusal M len ≡ 1
    unfolding format_refusal
    format_1 a = passes 2 _ z ∙ refuses 1 _ (omega arith) a

    pub format_3 : bad_image M len ≡ false → bad_count (format_geo M len) len ≡ true → format_refusal M len ≡ 3
    unfolding format_refusal
    format_3 a b = passes 2 _ z ∙ passes 1 _ a ∙ refuses 3 _ (omega arith) b

    pub format_0 : bad_image M len ≡ false → bad_count (format_geo M len) len ≡ false → format_refusal M len ≡ 0
    unfolding format_refusal
    format_0 a b = passes 2 _ z ∙ passes 1 _ a ∙ passes 3 _ b ∙ first_of_none

  -- None of the three tests holds where there is no refusal.
  format_passed : format_refusal M len ≡ 0 → (bad_code M ≡ false) × (bad_image M len ≡ false) × (bad_count (format_geo M len) len ≡ false)
  unfolding format_refusal
  format_passed e =
      let z = passed 2 _ _ (omega arith) e in
      let a = passed 1 _ _ (omega arith) z.1 in
      let b = passed 3 _ _ (omega arith) a.1 in
      (z.0, a.0, b.0)

  -- Format gives no refusal exactly where the numbers that it writes are sound.
  pub format_sound : format_refusal M len ≡ 0 → Sound (format_geo M len) len
  format_sound e =
      let t = format_passed e in
      tests_sound M 2 (len / code_size M.code) len t.0 t.1 (version_good (format_geo M len) (inr (refl, good_code M t.0))) t.2
