-- The tests of refusals 1 to 3 as code makes them; the stores of a superblock.
use mathlib.Core.Path.{◌≡◌, refl, sym, ap, ◌∙◌, subst}
use mathlib.Core.Bool.{Bool, true, false, not}
use mathlib.Core.List.{List, [], ◌∷◌, ◌++◌, append_assoc}
use Prim.Native.Nat.{ℕ, ◌+◌, ◌-◌, ◌*◌, ◌/◌, ◌%◌, ◌^◌, ◌≤◌, ◌<◌, min}
use native.Mathlib.Nat.{one-le-pow, mul_assoc, mul-suc, mul-div-le, mul-le-mul_left, mul-le-mul_right}
use native.Mathlib.Omega.{arith}
use lib.Dec.{lit<, leb, ltb, eqb}
use lib.ListN.{length, get_or, take, drop, length-append, length-replicate}
use borrow.Author.Tests.{eq-eqb, ne_eqb, lt-ltb, le-ltb, not-true, not-false}
use Rattle.wire.specs.Be.{be, bytes, splice, zeros}
use Rattle.wire.specs.Pick.{pick, same}
use Rattle.wire.proofs.Numbers.{splice-append, length_bytes}
use Rattle.wire.proofs.Picks.{pick_true, pick_false}
use Rattle.block.specs.Block.{BlockSize}
use Rattle.model.specs.Geometry.{Geo, block_size, code_size, last_code, mount, numbered, geo_at, version_at, code_at, count_at, open_refusal, format_refusal, format_geo, map_size, map_at, map_blocks, data_at, map_bits, reach, image_limit, bad_image, bad_version, bad_mark, bad_count, signature, super_bytes}
use Rattle.model.specs.Render.{padded}
use Rattle.model.proofs.Areas.{area, few, size_known}
use Rattle.model.proofs.Opens.{code_good, good_image, open_1, open_2, open_3, open_0, open_code, opens_sound, format_1, format_3, format_0, format_code, format_sound}
use Rattle.super_block.specs.declared.SuperBlock.{SuperBlock}
use Rattle.super_block.specs.Super.{geo_of, super_block, Fair, Fit, super_written}

-- ---- refusals 1, 2 and 3: z is the block size that code has

module _ (K c len : ℕ) where
  pub image_empty : len ≡ 0 → true ≡ bad_image (mount K c) len
  unfolding bad_image
  image_empty e = simp (eq-eqb _ _ e)

  module _ {z : ℕ} (q : z ≡ code_size c) where
    pub image_odd : (len ≡ 0 → ⊥) → (len % z ≡ 0 → ⊥) → true ≡ bad_image (mount K c) len
    unfolding bad_image
    image_odd a b = subst (λ (y : ℕ). (len % y ≡ 0 → ⊥) → true ≡ bad_image (mount K c) len) (sym q) (λ h. simp (ne_eqb _ _ a, ne_eqb _ _ h)) b

    pub image_over : (len ≡ 0 → ⊥) → len % z ≡ 0 → image_limit < len → true ≡ bad_image (mount K c) len
    unfolding bad_image
    image_over a b l =
        subst (λ (y : ℕ). len % y ≡ 0 → true ≡ bad_image (mount K c) len) (sym q) (λ h. simp (ne_eqb _ _ a, eq-eqb _ _ h, lt-ltb _ _ l)) b

    pub image_last : (len ≡ 0 → ⊥) → len % z ≡ 0 → len ≤ image_limit → leb (len / z) (K + 2) ≡ bad_image (mount K c) len
    unfolding bad_image
    image_last a b l =
        subst (λ (y : ℕ). len % y ≡ 0 → leb (len / y) (K + 2) ≡ bad_image (mount K c) len) (sym q)
        (λ h. simp (ne_eqb _ _ a, eq-eqb _ _ h, le-ltb _ _ l)) b

-- the version
module _ (v c : ℕ) where
  pub version_new : v ≡ 2 → false ≡ bad_version v c
  unfolding bad_version
  version_new e = simp (eq-eqb _ _ e)

  pub version_none : (v ≡ 2 → ⊥) → (v ≡ 1 → ⊥) → true ≡ bad_version v c
  unfolding bad_version
  version_none a b = simp (ne_eqb _ _ a, ne_eqb _ _ b)

  pub version_old : (v ≡ 2 → ⊥) → v ≡ 1 → not (eqb c 0) ≡ bad_version v c
  unfolding bad_version
  version_old a b = simp (ne_eqb _ _ a, eq-eqb _ _ b)

-- the mark, where the superblock begins at byte `at`
module _ (K c : ℕ) (I : List ℕ) {z at : ℕ} (q : z ≡ code_size c) (w : at ≡ z * K) where
  at_is : at ≡ code_size c * K
  at_is = w ∙ ap (λ (y : ℕ). y * K) q

  letters_is : same (take 8 (drop at I)) signature ≡ same (take 8 (drop (code_size c * K) I)) signature
  letters_is = ap (λ (y : ℕ). same (take 8 (drop y I)) signature) at_is

  code_is : get_or I (at + 9) 0 ≡ code_at (mount K c) I
  unfolding code_at
  code_is = ap (λ (y : ℕ). get_or I (y + 9) 0) at_is

  version_is : get_or I (at + 8) 0 ≡ version_at (mount K c) I
  unfolding version_at
  version_is = ap (λ (y : ℕ). get_or I (y + 8) 0) at_is

  count_is : {n : ℕ} → n ≡ be 4 I (at + 10) → n ≡ count_at (mount K c) I
  unfolding count_at
  count_is e = e ∙ ap (λ (y : ℕ). be 4 I (y + 10)) at_is

  pub mark_letters : {b : Bool} → b ≡ same (take 8 (drop at I)) signature → not b ≡ true → true ≡ bad_mark (mount K c) I
  unfolding bad_mark
  mark_letters {b} e h = sym (simp (sym letters_is, sym e, not-true b h))

  pub mark_code : {b : Bool} → b ≡ same (take 8 (drop at I)) signature → not b ≡ false → {x : ℕ} → x ≡ get_or I (at + 9) 0 → (x ≡ c → ⊥) → not (eqb x c) ≡ bad_mark (mount K c) I
  unfolding bad_mark
  mark_code {b} e h {x} f d = ap not (ne_eqb x c d) ∙ sym (simp (sym letters_is, sym e, not-false b h, ne_eqb (code_at (mount K c) I) c (λ y. d (f ∙ code_is ∙ y))))

  pub mark_version : {b r : Bool} → b ≡ same (take 8 (drop at I)) signature → not b ≡ false → {x : ℕ} → x ≡ get_or I (at + 9) 0 → x ≡ c
      → r ≡ bad_version (get_or I (at + 8) 0) c → r ≡ bad_mark (mount K c) I
  unfolding bad_mark
  mark_version {b} {r} e h x d f =
      f ∙ ap (λ (y : ℕ). bad_version y c) version_is
      ∙ sym (simp (sym letters_is, sym e, not-false b h, eq-eqb (code_at (mount K c) I) c (sym code_is ∙ sym x ∙ d)))

-- the count: r is N, and u one more than the bits of a bitmap block, as code computes them
module _ (K c v n len : ℕ) {z : ℕ} (q : z ≡ code_size c) where
  abbrev told_count : Bool
  told_count = bad_count (numbered (mount K c) v n) len

  pub count_over : len / z < n → true ≡ told_count
  unfolding bad_count
  count_over a = subst (λ (y : ℕ). len / y < n → true ≡ bad_count (numbered (mount K c) v n) len) (sym q) (λ h. simp (lt-ltb _ _ h)) a

  inside : n ≤ len / z → n ≤ len / code_size c
  inside a = subst (λ (y : ℕ). n ≤ len / y) q a

  pub count_few : n ≤ len / z → {r : ℕ} → r ≡ n - (K + 2) → (v ≡ 1 → ⊥) → r < 2 → true ≡ told_count
  unfolding bad_count pick
  count_few a e o h = simp (le-ltb _ _ (inside a), ne_eqb v 1 o, lt-ltb (n - (K + 2)) 2 (omega arith))

  module _ (a : n ≤ len / z) {r u : ℕ} (e : r ≡ n - (K + 2)) (f : u ≡ 8 * z + 1) where
    unit_is : u ≡ 8 * code_size c + 1
    unit_is = f ∙ ap (λ (y : ℕ). 8 * y + 1) q

    pub count_old : v ≡ 1 → ltb r u ≡ told_count
    unfolding bad_count pick
    count_old o = rw (e, unit_is) (simp (le-ltb _ _ (inside a), eq-eqb v 1 o))

    pub count_last : (v ≡ 1 → ⊥) → 2 ≤ r → eqb (r % u) 1 ≡ told_count
    unfolding bad_count pick
    count_last o h = rw (e, unit_is) (simp (le-ltb _ _ (inside a), ne_eqb v 1 o, le-ltb (n - (K + 2)) 2 (omega arith)))

-- what a test says, by the bool that code has of it
told : {a b c : Bool} → a ≡ b → a ≡ c → b ≡ c
told p q = sym p ∙ q

-- ---- the numbers of n blocks at K

pub maps_old : (v x y : ℕ) → v ≡ 1 → x ≡ pick (eqb v 1) x y
maps_old v x y e = sym (pick_true x y (eq-eqb v 1 e))

pub maps_new : (v x y : ℕ) → (v ≡ 1 → ⊥) → y ≡ pick (eqb v 1) x y
maps_new v x y e = sym (pick_false x y (ne_eqb v 1 e))

module _ (K c v n : ℕ) (f : Fair (numbered (mount K c) v n)) where
  abbrev g : Geo
  g = numbered (mount K c) v n

  n_few : n ≤ 8388608
  n_few = few g f.image f.sound

  -- p bits for a bitmap block, b of them
  module _ {z p a b : ℕ} (ez : z ≡ code_size c) (ep : p ≡ 8 * z) (ea : a ≡ K + 2)
      (eb : b ≡ pick (eqb v 1) ((n - a) / (p + 1)) ((n - a + p) / (p + 1))) where
    span_is : p ≡ map_size g
    span_is = ep ∙ ap (λ (y : ℕ). 8 * y) ez

    maps_is : b ≡ map_blocks g
    unfolding map_blocks
    maps_is = eb ∙ (λ i. pick (eqb v 1) ((n - ea i) / (span_is i + 1)) ((n - ea i + span_is i) / (span_is i + 1)))

    data_is : a + b ≡ data_at g
    unfolding data_at
    data_is = λ i. ea i + maps_is i

    bits_is : p * b ≡ map_bits g
    unfolding data_at
    bits_is =
        let e : data_at g - map_at g ≡ map_blocks g = omega arith in
        (λ i. span_is i * maps_is i) ∙ mul_assoc 8 (block_size g) (map_blocks g) ∙ ap (λ (y : ℕ). 8 * (block_size g * y)) (sym e)

    pub data_fits : a + b < 2 ^ 32
    data_fits = omega (arith, data_is, (area g f.image f.sound).some_data, n_few)

    pub data_below : {d : ℕ} → d ≡ a + b → d ≤ n
    data_below e = omega (arith, data_is, (area g f.image f.sound).some_data)

    pub bits_fit : p * b < 2 ^ 32
    bits_fit = omega (arith, bits_is, (area g f.image f.sound).few_bits, n_few, (size_known g f.image f.sound).most)

    reach_is : {d w l r : ℕ} → d ≡ a + b → w ≡ p * (n / p) → l ≡ min (n - d) w → r ≡ min l (p * b) → r ≡ reach g
    unfolding reach
    reach_is ed ew el er =
        let whole = ew ∙ (λ i. span_is i * (n / span_is i)) in
        er ∙ (λ i. min ((el ∙ (λ j. min (n - (ed ∙ data_is) j) (whole j))) i) (span_is i * maps_is i))

    pub made : {d w l r : ℕ} → d ≡ a + b → w ≡ p * (n / p) → l ≡ min (n - d) w → r ≡ min l (p * b)
        → ◌≡◌ {A = SuperBlock}
        (record {
          addr = record { 0 = K };
          blocks = n;
          size = z;
          version = v;
          code = c;
          bitmap = record { 0 = a };
          area = record { 0 = d };
          bits = p * b;
          reach = r;
        }) (super_block g)
    made {d} {w} {l} {r} ed ew el er = λ i.
        record {
          addr = record { 0 = K };
          blocks = n;
          size = ez i;
          version = v;
          code = c;
          bitmap = record { 0 = ea i };
          area = record { 0 = (ed ∙ data_is) i };
          bits = bits_is i;
          reach = reach_is ed ew el er i;
        }

-- ---- reading and making

module _ (K c len : ℕ) {a : Bool} (p : a ≡ bad_image (mount K c) len) (q : a ≡ false) where
  abbrev image : (1 ≤ len) × (len % code_size c ≡ 0) × (len ≤ image_limit) × (K + 2 < len / code_size c)
  image = good_image (mount K c) len (told p q)

  top_in : code_size c * K + code_size c ≤ len
  top_in =
      let h : K + 1 ≤ len / code_size c = omega (arith, image.3) in
      omega (arith, mul-le-mul_left (code_size c) h, mul-div-le len (code_size c), mul-suc (code_size c) K)

  pub mark_in : code_size c * K + 10 ≤ len
  mark_in = omega (arith, top_in, one-le-pow c 2 (lit< tt))

  pub blocks_fit : {z : ℕ} → BlockSize z → len / z < 2 ^ 32
  blocks_fit {z} h = omega (arith, mul-div-le len z, mul-le-mul_right (len / z) h.least, image.2)

  module _ {z at : ℕ} (e : z ≡ code_size c) (w : at ≡ z * K) where
    at_in : at + 14 ≤ len
    at_in = omega (arith, at_is K c [] e w, top_in, one-le-pow c 2 (lit< tt))

    pub byte_in : at + 8 < len
    byte_in = omega (arith, at_in)

    pub count_in : at + 10 + 4 ≤ len
    count_in = omega (arith, at_in)

module _ (K c : ℕ) (I : List ℕ) (h : c ≤ last_code) {a : Bool} (p : a ≡ bad_image (mount K c) (length I)) where
  pub read_1 : a ≡ true → open_refusal (mount K c) I ≡ 1
  read_1 q = open_1 (mount K c) I (code_good (mount K c) h) (told p q)

  module _ (q : a ≡ false) {b : Bool} (r : b ≡ bad_mark (mount K c) I) where
    pub read_2 : b ≡ true → open_refusal (mount K c) I ≡ 2
    read_2 s = open_2 (mount K c) I (code_good (mount K c) h) (told p q) (told r s)

    module _ (s : b ≡ false) {z at v n : ℕ} (e : z ≡ code_size c) (w : at ≡ z * K) (ev : v ≡ get_or I (at + 8) 0) (en : n ≡ be 4 I (at + 10))
        {d : Bool} (t : d ≡ bad_count (numbered (mount K c) v n) (length I)) where
      geo_read : numbered (mount K c) v n ≡ geo_at (mount K c) I
      geo_read = λ i. numbered (mount K c) ((ev ∙ version_is K c I e w) i) (count_is K c I e w en i)

      count_read : d ≡ bad_count (geo_at (mount K c) I) (length I)
      count_read = t ∙ ap (λ (x : Geo). bad_count x (length I)) geo_read

      pub read_3 : d ≡ true → open_refusal (mount K c) I ≡ 3
      read_3 u = open_3 (mount K c) I (code_good (mount K c) h) (told p q) (told r s) (told count_read u)

      module _ (u : d ≡ false) where
        opens : open_refusal (mount K c) I ≡ 0
        opens = open_0 (mount K c) I (code_good (mount K c) h) (told p q) (told r s) (told count_read u)

        pub read_fair : Fair (numbered (mount K c) v n)
        read_fair = subst Fair (sym geo_read) (record { image = length I; sound = (opens_sound (mount K c) I opens).0 })

        pub read_0 : {x : SuperBlock} → x ≡ super_block (numbered (mount K c) v n)
            → (open_refusal (mount K c) I ≡ 0) × (x ≡ super_block (geo_at (mount K c) I))
        read_0 y = (opens, y ∙ ap super_block geo_read)

module _ (K c len : ℕ) (h : c ≤ last_code) {a : Bool} (p : a ≡ bad_image (mount K c) len) where
  pub make_1 : a ≡ true → format_refusal (mount K c) len ≡ 1
  make_1 q = format_1 (mount K c) len (code_good (mount K c) h) (told p q)

  module _ (q : a ≡ false) {z n : ℕ} (e : z ≡ code_size c) (en : n ≡ len / z) {d : Bool} (t : d ≡ bad_count (numbered (mount K c) 2 n) len) where
    geo_made : numbered (mount K c) 2 n ≡ format_geo (mount K c) len
    geo_made = λ i. numbered (mount K c) 2 ((en ∙ ap (λ (y : ℕ). len / y) e) i)

    count_made : d ≡ bad_count (format_geo (mount K c) len) len
    count_made = t ∙ ap (λ (x : Geo). bad_count x len) geo_made

    pub make_3 : d ≡ true → format_refusal (mount K c) len ≡ 3
    make_3 u = format_3 (mount K c) len (code_good (mount K c) h) (told p q) (told count_made u)

    module _ (u : d ≡ false) where
      makes : format_refusal (mount K c) len ≡ 0
      makes = format_0 (mount K c) len (code_good (mount K c) h) (told p q) (told count_made u)

      pub make_fair : Fair (numbered (mount K c) 2 n)
      make_fair = subst Fair (sym geo_made) (record { image = len; sound = format_sound (mount K c) len makes })

      pub make_0 : {x : SuperBlock} → x ≡ super_block (numbered (mount K c) 2 n)
          → (format_refusal (mount K c) len ≡ 0) × (x ≡ super_block (format_geo (mount K c) len))
      make_0 y = (makes, y ∙ ap super_block geo_made)

-- a size code above the last is refused first
pub read_code : (K c : ℕ) (I : List ℕ) → last_code < c → open_refusal (mount K c) I ≡ 2
read_code K c I h = open_code (mount K c) I h

pub made_code : (K c len : ℕ) → last_code < c → format_refusal (mount K c) len ≡ 2
made_code K c len h = format_code (mount K c) len h

-- ---- the stores

-- the four stores of a superblock, side by side, are one; M is its first ten bytes
super_stored : (g : Geo) (I M : List ℕ) (v at m : ℕ) → at ≡ block_size g * g.K → m ≡ block_size g - 18 → M ≡ signature ++ (g.version ∷ (g.code ∷ []))
    → block_size g * g.K + block_size g ≤ length I → 18 ≤ block_size g
    → splice (splice (splice (splice I at M) (at + 10) (bytes 4 g.n)) (at + 14) (bytes 4 v)) (at + 18) (zeros m) ≡ splice I (block_size g * g.K) (super_bytes g v)
unfolding super_bytes padded
super_stored g I M v at m eat em eM h large =
    let N : List ℕ = bytes 4 g.n in
    let U : List ℕ = bytes 4 v in
    let lm : length M ≡ 10 = ap length eM in
    let ln : length N ≡ 4 = length_bytes 4 g.n in
    let lv : length U ≡ 4 = length_bytes 4 v in
    let a : splice (splice I at M) (at + length M) N ≡ splice I at (M ++ N) = splice-append M N I at (omega arith) in
    let a' : splice (splice I at M) (at + 10) N ≡ splice I at (M ++ N) = subst (λ (x : ℕ). splice (splice I at M) (at + x) N ≡ splice I at (M ++ N)) lm a in
    let lmn : length (M ++ N) ≡ 14 = rw length-append (omega arith) in
    let b : splice (splice I at (M ++ N)) (at + length (M ++ N)) U ≡ splice I at ((M ++ N) ++ U) = splice-append (M ++ N) U I at (omega arith) in
    let b' : splice (splice I at (M ++ N)) (at + 14) U ≡ splice I at ((M ++ N) ++ U) = subst (λ (x : ℕ). splice (splice I at (M ++ N)) (at + x) U ≡ splice I at ((M ++ N) ++ U)) lmn b in
    let lmv : length ((M ++ N) ++ U) ≡ 18 = rw length-append (omega arith) in
    let lz : length (zeros m) ≡ m = length-replicate {A = ℕ} m 0 in
    let c : splice (splice I at ((M ++ N) ++ U)) (at + length ((M ++ N) ++ U)) (zeros m) ≡ splice I at (((M ++ N) ++ U) ++ zeros m) = splice-append ((M ++ N) ++ U) (zeros m) I at (omega arith) in
    let c' : splice (splice I at ((M ++ N) ++ U)) (at + 18) (zeros m) ≡ splice I at (((M ++ N) ++ U) ++ zeros m)
    = subst (λ (x : ℕ). splice (splice I at ((M ++ N) ++ U)) (at + x) (zeros m) ≡ splice I at (((M ++ N) ++ U) ++ zeros m)) lmv c in
    let e : (M ++ N) ++ U ≡ M ++ (N ++ U) = append_assoc M N U in
    let w : block_size g - length (M ++ (N ++ U)) ≡ m = omega (arith, ap length e) in
    ap (λ (L : List ℕ). splice (splice L (at + 14) U) (at + 18) (zeros m)) a' ∙ ap (λ (L : List ℕ). splice L (at + 18) (zeros m)) b' ∙ c'
    ∙ ap (splice I at) (ap (λ (l : List ℕ). l ++ zeros m) e ∙ ap (λ (k : ℕ). (M ++ (N ++ U)) ++ zeros k) (sym w))
    ∙ ap (λ (j : ℕ). splice I j ((M ++ (N ++ U)) ++ zeros (block_size g - length (M ++ (N ++ U))))) eat
    ∙ ap (λ (X : List ℕ). splice I (block_size g * g.K) ((X ++ (N ++ U)) ++ zeros (block_size g - length (X ++ (N ++ U))))) eM

-- as code makes them, one after the other
pub super_steps : (s : SuperBlock) (I J₀ J₁ J₂ J₃ J₄ : List ℕ) (v at : ℕ) → Fit s I → at ≡ s.size * s.addr.0
    → J₀ ≡ splice I at signature → J₁ ≡ splice J₀ (at + 8) (s.version ∷ (s.code ∷ [])) → J₂ ≡ splice J₁ (at + 10) (bytes 4 s.blocks)
    → J₃ ≡ splice J₂ (at + 14) (bytes 4 v) → J₄ ≡ splice J₃ (at + 18) (zeros (s.size - 18)) → J₄ ≡ super_written (geo_of s) I v
unfolding super_written
super_steps s I J₀ J₁ J₂ J₃ J₄ v at f eat e₀ e₁ e₂ e₃ e₄ =
    let e = f.size in
    let i : at + 10 ≤ length I = omega (arith, f.top, f.known.least) in
    let m : J₁ ≡ splice I at (signature ++ (s.version ∷ (s.code ∷ [])))
    = e₁ ∙ ap (λ (L : List ℕ). splice L (at + 8) (s.version ∷ (s.code ∷ []))) e₀ ∙ splice-append signature (s.version ∷ (s.code ∷ [])) I at i in
    e₄ ∙ ap (λ (L : List ℕ). splice L (at + 18) (zeros (s.size - 18))) (e₃ ∙ ap (λ (L : List ℕ). splice L (at + 14) (bytes 4 v)) (e₂ ∙ ap (λ (L : List ℕ). splice L (at + 10) (bytes 4 s.blocks)) m))
    ∙ super_stored (geo_of s) I _ v at (s.size - 18) (eat ∙ ap (λ (z : ℕ). z * s.addr.0) e) (ap (λ (z : ℕ). z - 18) e) refl
    (subst (λ (z : ℕ). z * s.addr.0 + z ≤ length I) e (omega (arith, f.top))) (omega (arith, f.known.least, e))
