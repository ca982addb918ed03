-- What the code knows where it answers: one law for each answer.
use mathlib.Core.Path.{◌≡◌, refl, sym, ap, ◌∙◌, subst}
use mathlib.Core.Bool.{Bool, true, false, ◌&&◌, ◌||◌}
use mathlib.Core.List.{List}
use Prim.Native.Nat.{ℕ, zero, suc, ◌+◌, ◌-◌, ◌≤◌}
use native.Mathlib.Omega.{arith}
use lib.Dec.{ltb, leb, eqb}
use lib.ListN.{length}
use borrow.Author.Tests.{leb-true, ltb-false, eqb-false}
use Rattle.std.specs.Prelude.{Option, Some, None, Result, Ok, Err, IfOk}
use Rattle.std.specs.Option.{is_some}
use Rattle.wire.proofs.Picks.{not_both, pick_case}
use Rattle.limits.specs.declared.Damage.{Damage}
use Rattle.read_dir.specs.declared.Placed.{Placed}
use Rattle.model.specs.Answers.{Reply, accepted, refused, and_then, when, given}
use Rattle.model.specs.Geometry.{Geo}
use Rattle.model.specs.Volume.{max_depth}
use Rattle.model.proofs.Opens.{when_true, when_false, or_false}
use Rattle.model.proofs.Replies.{given_none, given_some, and_then_ok, and_then_no}
use Rattle.block.specs.Block.{Area, next}
use Rattle.super_block.specs.declared.SuperBlock.{SuperBlock}
use Rattle.super_block.specs.Super.{area_in, geo_of, Ready}
use Rattle.super_block.proofs.Fits.{area_is, ready_volume}
use Rattle.bitmap_block.specs.Bitmap.{clears, Room}
use Rattle.bitmap_block.proofs.Stores.{volume_clears, volume_room}
use Rattle.dir_entry.specs.declared.Kind.{Kind}
use Rattle.dir_entry.specs.Entry.{header, is_dir}
use Rattle.read_dir.specs.Walk.{in_area, walk}
use Rattle.read_dir.specs.Finds.{find_in}
use Rattle.read_dir.proofs.Unroll.{area_true}
use Rattle.create_store.specs.declared.Spot.{Spot}
use Rattle.create_store.specs.Create.{used_at, spot_from, spot_for, needed, SpotIn, inserted, inserted_at}
use Rattle.path.specs.Path.{last_name, dir_part}
use Rattle.dir.specs.Hold.{Hold, hold_dir}
use Rattle.create.specs.Creating.{Site, Fresh, bad_name, too_deep, exists_number, no_room, site_at, site_in, site_of, fresh_of, created_on, image_at, created_image}
use Rattle.create.specs.Post.{sited}

-- ---- the tests of name and depth

module _ (x : List ℕ) where
  module _ (t : Bool) (e : t ≡ eqb (length x) 0) where
    pub name_empty : t ≡ true → t ≡ bad_name x
    unfolding bad_name
    name_empty h = h ∙ sym (ap (λ (b : Bool). b || ltb 255 (length x)) (sym e ∙ h))

    pub name_long : t ≡ false → ltb 255 (length x) ≡ bad_name x
    unfolding bad_name
    name_long h = sym (ap (λ (b : Bool). b || ltb 255 (length x)) (sym e ∙ h))

  -- a name that passes
  pub name_short : bad_name x ≡ false → (1 ≤ length x) × (length x ≤ 255)
  unfolding bad_name
  name_short e =
      let q = or_false (eqb (length x) 0) (ltb 255 (length x)) e in
      let z = eqb-false (length x) 0 q.0 in
      (omega arith, ltb-false 255 (length x) q.1)

-- ---- a spot

module _ (A : Area) (I : List ℕ) (len : ℕ) where
  abbrev Lies : Result Spot Damage → Type 0
  Lies r = IfOk r (SpotIn A len)

  spot_lies : (k a : ℕ) → Lies (spot_from A I len k a)
  unfolding spot_from
  spot_lies zero a = tt
  spot_lies (suc k) a =
      pick_case Lies (in_area A I a) _ _
      (λ t. pick_case Lies (leb (used_at A.size I a + header + len) (A.size - 5)) _ _
      (λ r. ((area_true A I a t).0, (area_true A I a t).1, leb-true _ _ r))
      (λ _. pick_case Lies (eqb (next A.size I a) 0) _ _ (λ _. area_true A I a t) (λ _. spot_lies k (next A.size I a))))
      (λ _. tt)

module _ (s : SuperBlock) (I : List ℕ) (p : Spot) where
  pub spot_in : (a len : ℕ) → Ok p ≡ spot_for (area_in s) I a len → SpotIn (area_in s) len p
  spot_in a len e = subst (Lies (area_in s) I len) (sym e) (spot_lies (area_in s) I len (s.blocks - s.area.0) a)

  pub spot_room : (k : ℕ) → k ≡ needed p → (b : Bool) → Ready s I → b ≡ ltb (length (clears (geo_of s) I)) k → b ≡ false → Room (geo_of s) I (needed p)
  spot_room k needs b w q h =
      let t = w.well.tree in
      let v = ready_volume s I w in
      let r = ltb-false (length (clears (geo_of s) I)) k (sym q ∙ h) in
      volume_room (geo_of s) I max_depth t v (needed p) (subst (λ (l : List ℕ). needed p ≤ length l) (volume_clears (geo_of s) I max_depth t v) (omega arith))

-- ---- the site at a spot: what was looked for is S

module _ (s : SuperBlock) (I : List ℕ) (h : Hold) (S : Result Spot Damage) where
  pub site_damaged : (d : Damage) → Err d ≡ S → refused 17 ≡ site_at (geo_of s) I h S
  unfolding site_at
  site_damaged d e = ap (site_at (geo_of s) I h) e

  module _ (p : Spot) (e : Ok p ≡ S) (k : ℕ) (needs : k ≡ needed p) (b : Bool) (is : b ≡ ltb (length (clears (geo_of s) I)) k) where
    at_spot : given (when 9 b) (accepted (sited h p)) ≡ site_at (geo_of s) I h S
    unfolding site_at no_room
    at_spot =
        ap (λ (t : Bool). given (when 9 t) (accepted (sited h p))) (is ∙ ap (ltb (length (clears (geo_of s) I))) needs)
        ∙ ap (site_at (geo_of s) I h) e

    pub site_full : b ≡ true → refused 9 ≡ site_at (geo_of s) I h S
    site_full l = sym (given_some 9 (accepted (sited h p)) (omega arith) (when_true 9 l)) ∙ at_spot

    pub site_free : b ≡ false → accepted (sited h p) ≡ site_at (geo_of s) I h S
    site_free l = sym (given_none (accepted (sited h p)) (when_false 9 l)) ∙ at_spot

-- ---- the site in a directory

module _ (s : SuperBlock) (I : List ℕ) (ok : Ready s I) (h : Hold) (k : Kind) (x : List ℕ) (b : Bool) (t : b ≡ (is_dir k && leb max_depth h.depth)) where
  pub in_deep : b ≡ true → refused 15 ≡ site_in (geo_of s) I k x h
  unfolding site_in too_deep
  in_deep y = sym (given_some 15 _ (omega arith) (when_true 15 (sym t ∙ y)))

  module _ (f : Result (Option Placed) Damage) (shallow : b ≡ false) (q : f ≡ find_in x (walk (area_in s) I h.dir)) where
    looked : site_in (geo_of s) I k x h ≡ given (exists_number f) (site_at (geo_of s) I h (spot_for (area_in s) I h.dir (length x)))
    unfolding site_in too_deep
    looked =
        given_none _ (when_false 15 (sym t ∙ shallow))
        ∙ ap (λ (A : Area). given (exists_number (find_in x (walk A I h.dir)))
        (site_at (geo_of s) I h (spot_for A I h.dir (length x)))) (sym (area_is ok.fit))
        ∙ ap (λ (y : Result (Option Placed) Damage). given (exists_number y) (site_at (geo_of s) I h (spot_for (area_in s) I h.dir (length x)))) (sym q)

    pub in_damaged : (d : Damage) → f ≡ Err d → refused 17 ≡ site_in (geo_of s) I k x h
    in_damaged d g = sym (looked ∙ given_some 17 _ (omega arith) (ap exists_number g))

    module _ (o : Option Placed) (g : f ≡ Ok o) where
      pub in_exists : is_some o ≡ true → refused 7 ≡ site_in (geo_of s) I k x h
      in_exists e = sym (looked ∙ given_some 7 _ (omega arith) (ap exists_number g ∙ go o e))
        where
          go : (y : Option Placed) → is_some y ≡ true → exists_number (Ok y) ≡ 7
          go (Some z) w = refl
          go None w = absurd (not_both w refl)

      pub in_free : is_some o ≡ false → (len : ℕ) → len ≡ length x → (r : Reply Site)
          → r ≡ site_at (geo_of s) I h (spot_for (area_in s) I h.dir len) → r ≡ site_in (geo_of s) I k x h
      in_free e len l r z = z ∙ ap (λ (n : ℕ). site_at (geo_of s) I h (spot_for (area_in s) I h.dir n)) l ∙ sym (looked ∙ given_none _ (ap exists_number g ∙ go o e))
        where
          go : (y : Option Placed) → is_some y ≡ false → exists_number (Ok y) ≡ 0
          go (Some v) w = absurd (not_both refl w)
          go None w = refl

-- ---- the stores at a site

module _ (g : Geo) (I : List ℕ) (S : Reply Site) where
  pub create_refused : (j : ℕ) → refused j ≡ S → refused j ≡ fresh_of g I S
  unfolding fresh_of
  create_refused j e = sym (and_then_no j _ (sym e))

  pub create_leaves : (k : Kind) (x : List ℕ) (time j : ℕ) → refused j ≡ S → I ≡ image_at g I k x time S
  create_leaves k x time j e = ap (image_at g I k x time) e

  module _ (h : Hold) (p : Spot) (e : accepted (sited h p) ≡ S) where
    pub create_block : (a : ℕ) → a ≡ inserted_at g I p → accepted (record { dir = h.dir; block = a }) ≡ fresh_of g I S
    unfolding fresh_of
    create_block a w =
        ap (λ (b : ℕ). let z : Reply Fresh = accepted (record { dir = h.dir; block = b }) in z) w
        ∙ sym (and_then_ok (sited h p) (λ y. accepted (record { dir = y.dir; block = inserted_at g I y.spot })) (sym e))

    pub create_stores : (k : Kind) (x : List ℕ) (time : ℕ) (J : List ℕ)
        → J ≡ inserted g I h.dir p h.own k x time → J ≡ image_at g I k x time S
    create_stores k x time J w = w ∙ ap (image_at g I k x time) e

-- ---- at a path

pub short_name : (b : Bool) (x : List ℕ) → b ≡ bad_name x → b ≡ false → length x ≤ 255
short_name b x t y = (name_short x (sym t ∙ y)).1

module _ (s : SuperBlock) (I : List ℕ) (k : Kind) (full dir name : List ℕ) (time : ℕ) (d : dir ≡ dir_part full) (n : name ≡ last_name full)
    (b : Bool) (t : b ≡ bad_name name) where
  named : b ≡ bad_name (last_name full)
  named = t ∙ ap bad_name n

  bad : b ≡ true → site_of (geo_of s) I k full ≡ refused 8
  unfolding site_of
  bad y = given_some 8 _ (omega arith) (when_true 8 (sym named ∙ y))

  pub path_bad : b ≡ true → refused 8 ≡ created_on (geo_of s) I k full
  unfolding created_on fresh_of
  path_bad y = sym (and_then_no 8 _ (bad y))

  pub path_bad_leaves : b ≡ true → I ≡ created_image (geo_of s) I k full time
  unfolding created_image
  path_bad_leaves y = ap (image_at (geo_of s) I k (last_name full) time) (sym (bad y))

  module _ (ok : Ready s I) (good : b ≡ false) where
    site_held : site_of (geo_of s) I k full ≡ and_then (hold_dir (area_in s) I dir) (site_in (geo_of s) I k name)
    unfolding site_of
    site_held =
        given_none _ (when_false 8 (sym named ∙ good))
        ∙ ap (λ (A : Area). and_then (hold_dir A I (dir_part full)) (site_in (geo_of s) I k (last_name full))) (sym (area_is ok.fit))
        ∙ λ i. and_then (hold_dir (area_in s) I (sym d i)) (site_in (geo_of s) I k (sym n i))

    module _ (j : ℕ) (held : refused j ≡ hold_dir (area_in s) I dir) where
      no_site : site_of (geo_of s) I k full ≡ refused j
      no_site = site_held ∙ and_then_no j _ (sym held)

      pub path_refused : refused j ≡ created_on (geo_of s) I k full
      unfolding created_on fresh_of
      path_refused = sym (and_then_no j _ no_site)

      pub path_leaves : I ≡ created_image (geo_of s) I k full time
      unfolding created_image
      path_leaves = ap (image_at (geo_of s) I k (last_name full) time) (sym no_site)

    module _ (h : Hold) (held : accepted h ≡ hold_dir (area_in s) I dir) where
      a_site : site_of (geo_of s) I k full ≡ site_in (geo_of s) I k name h
      a_site = site_held ∙ and_then_ok h (site_in (geo_of s) I k name) (sym held)

      pub path_done : (r : Reply Fresh) → r ≡ fresh_of (geo_of s) I (site_in (geo_of s) I k name h) → r ≡ created_on (geo_of s) I k full
      unfolding created_on
      path_done r e = e ∙ ap (fresh_of (geo_of s) I) (sym a_site)

      pub path_stored : (J : List ℕ) → J ≡ image_at (geo_of s) I k name time (site_in (geo_of s) I k name h) → J ≡ created_image (geo_of s) I k full time
      unfolding created_image
      path_stored J e =
          e ∙ ap (λ (x : List ℕ). image_at (geo_of s) I k x time (site_in (geo_of s) I k name h)) n
          ∙ ap (image_at (geo_of s) I k (last_name full) time) (sym a_site)
