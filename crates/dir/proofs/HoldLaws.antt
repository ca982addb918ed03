-- The way along a path to a holding directory and its own entry: what the code knows where it answers, one law for each answer.
use mathlib.Core.Path.{◌≡◌, refl, sym, ap, ◌∙◌, subst}
use mathlib.Core.Bool.{Bool, true, false}
use mathlib.Core.Logic.{◌⊎◌, inl, inr}
use mathlib.Core.List.{List, [], ◌∷◌}
use Prim.Native.Nat.{ℕ, suc, ◌+◌, ◌≤◌, ◌<◌}
use denote.Ref.{Bor}
use native.Mathlib.Omega.{arith}
use lib.ListN.{length}
use Rattle.std.specs.Prelude.{Option, Some, None, Result, Ok, Err, IfSome, option_copied}
use Rattle.wire.specs.Pick.{pick}
use Rattle.wire.proofs.Picks.{pick_true, pick_false}
use Rattle.block.specs.Block.{Area}
use Rattle.model.specs.Answers.{Reply, accepted, refused, and_then}
use Rattle.limits.specs.declared.Damage.{Damage}
use Rattle.model.specs.Geometry.{area_of}
use Rattle.model.proofs.Replies.{not_accepted, accepted-one, and_then_ok, and_then_no, then-accepted}
use Rattle.super_block.specs.declared.SuperBlock.{SuperBlock}
use Rattle.super_block.specs.Super.{area_in, geo_of, Fit}
use Rattle.super_block.proofs.Fits.{fit_inside, area_is}
use Rattle.dir_entry.specs.declared.Kind.TheVariants.{Dir, File, Device}
use Rattle.dir_entry.specs.Entry.{is_dir}
use Rattle.dir_entry.proofs.Slots.{slot_stands}
use Rattle.read_dir.specs.declared.Place.{Place}
use Rattle.read_dir.specs.declared.Placed.{Placed}
use Rattle.read_dir.specs.Walk.{walk}
use Rattle.read_dir.specs.Finds.{find_in}
use Rattle.read_dir.proofs.Items.{found_item}
use Rattle.own_entry.specs.Own.{OwnIn}
use Rattle.path.specs.Path.{split}
use Rattle.path.specs.Post.{pieces}
use Rattle.dir.specs.Resolve.{on_placed, resolve, open_dir}
use Rattle.dir.specs.Hold.{Hold, root_hold, hold_at, entered, hold_from, hold_dir}

-- ---- the directory that an entry stands for

-- the directory at a whose own entry stands at p, in one at depth k
abbrev pub below : ℕ → Place → ℕ → Hold
below k p a = record { dir = a; own = Some p; depth = k + 1 }

module _ (x : Placed) (k : ℕ) where
  pub directory_dir : x.entry.kind ≡ Dir → accepted (below k x.place x.entry.addr.0) ≡ hold_at k x
  directory_dir q = sym (pick_true _ _ (ap is_dir q))

  pub directory_other : (x.entry.kind ≡ File) ⊎ (x.entry.kind ≡ Device) → refused 6 ≡ hold_at k x
  directory_other (inl q) = sym (pick_false _ _ (ap is_dir q))
  directory_other (inr q) = sym (pick_false _ _ (ap is_dir q))

-- ---- name after name

module _ (A : Area) (I : List ℕ) where
  pub hold_none : (h : Hold) → hold_from A I [] h ≡ accepted h
  unfolding hold_from
  hold_none h = refl

  pub hold_step : (x : List ℕ) (xs : List (List ℕ)) (h : Hold) → hold_from A I (x ∷ xs) h ≡ and_then (entered A I h x) (hold_from A I xs)
  unfolding hold_from
  hold_step x xs h = refl

  abbrev dir_of : Reply Hold → Reply ℕ
  dir_of r = and_then r (λ h. accepted h.dir)

  -- It is the same way as to the directory alone.
  pub hold_resolve : (xs : List (List ℕ)) (h : Hold) → and_then (hold_from A I xs h) (λ r. accepted r.dir) ≡ resolve A I xs h.dir
  unfolding and_then hold_from resolve pick
  hold_resolve [] h = refl
  hold_resolve (x ∷ xs) h = name x (hold_resolve xs)
    where
      entry : ((r : Hold) → dir_of (hold_from A I xs r) ≡ resolve A I xs r.dir) → (y : Placed) (b : Bool)
          → dir_of (and_then (pick b (accepted (below h.depth y.place y.entry.addr.0)) (refused 6)) (hold_from A I xs)) ≡ pick b (resolve A I xs y.entry.addr.0) (refused 6)
      entry ih y true = ih (below h.depth y.place y.entry.addr.0)
      entry ih y false = refl

      placed_in : ((r : Hold) → dir_of (hold_from A I xs r) ≡ resolve A I xs r.dir) → (f : Result (Option Placed) Damage)
          → dir_of (and_then (on_placed f (hold_at h.depth)) (hold_from A I xs))
          ≡ on_placed f (λ y. pick (is_dir y.entry.kind) (resolve A I xs y.entry.addr.0) (refused 6))
      placed_in ih (Ok (Some y)) = entry ih y (is_dir y.entry.kind)
      placed_in ih (Ok None) = refl
      placed_in ih (Err d) = refl

      name : (y : List ℕ) → ((r : Hold) → dir_of (hold_from A I xs r) ≡ resolve A I xs r.dir)
          → dir_of (and_then (entered A I h y) (hold_from A I xs)) ≡ resolve A I (y ∷ xs) h.dir
      name [] ih = refl
      name (c ∷ y) ih = placed_in ih (find_in (c ∷ y) (walk A I h.dir))

-- ---- what is left of the way

-- from depth k it leads no deeper than n, the bytes of the whole way
abbrev pub Room : ℕ → Option (List ℕ) → ℕ → Type 0
Room n None k = Unit {0}
Room n (Some l) k = k + length l ≤ n

-- how many bytes of it are left, and one for there being any
abbrev pub bytes_left : Option (List ℕ) → ℕ
bytes_left None = 0
bytes_left (Some l) = suc (length l)

module _ (rest : Option (Bor (List ℕ))) where
  pub room_start : (n : ℕ) (h : Hold) (D : ℕ) → h ≡ root_hold D → IfSome rest (λ w. length w.now ≤ n) → Room n (option_copied rest) h.depth
  room_start n h D r i = go rest i
    where
      go : (o : Option (Bor (List ℕ))) → IfSome o (λ w. length w.now ≤ n) → Room n (option_copied o) h.depth
      go None j = tt
      go (Some w) j = omega (arith, ap (λ (x : Hold). x.depth) r)

  module _ (way : Bor (List ℕ)) (is : rest ≡ Some way) where
    pub room_some : (n k : ℕ) → Room n (option_copied rest) k → k + length way.now ≤ n
    room_some n k r = subst (λ (o : Option (Bor (List ℕ))). Room n (option_copied o) k) is r

    module _ (more : Option (Bor (List ℕ))) (less : IfSome more (λ w. length w.now < length way.now)) where
      pub room_on : (n k j : ℕ) → Room n (option_copied rest) k → j ≡ k + 1 → Room n (option_copied more) j
      room_on n k j r e = go more less
        where
          go : (o : Option (Bor (List ℕ))) → IfSome o (λ w. length w.now < length way.now) → Room n (option_copied o) j
          go None h = tt
          go (Some w) h = let q = room_some n k r in omega arith

      pub fewer_left : bytes_left (option_copied more) < bytes_left (option_copied rest)
      fewer_left =
          subst (λ (o : Option (Bor (List ℕ))). bytes_left (option_copied more) < bytes_left (option_copied o)) (sym is) (go more less)
        where
          go : (o : Option (Bor (List ℕ))) → IfSome o (λ w. length w.now < length way.now) → bytes_left (option_copied o) < suc (length way.now)
          go None h = omega arith
          go (Some w) h = omega arith

-- ---- the way from the directory h, of which this much is left

module _ (A : Area) (I : List ℕ) (h : Hold) (rest : Option (Bor (List ℕ))) (whole : Reply Hold)
    (inv : hold_from A I (pieces (option_copied rest)) h ≡ whole) where
  left_is : (o : Option (Bor (List ℕ))) → rest ≡ o → hold_from A I (pieces (option_copied o)) h ≡ whole
  left_is o e = ap (λ (x : Option (Bor (List ℕ))). hold_from A I (pieces (option_copied x)) h) (sym e) ∙ inv

  pub way_done : rest ≡ None → accepted h ≡ whole
  way_done e = sym (hold_none A I h) ∙ left_is None e

  pub way_on : (way : Bor (List ℕ)) → rest ≡ Some way → hold_from A I (split way.now) h ≡ whole
  way_on way e = left_is (Some way) e

-- one piece of it; what is behind the piece is the rest of the way

module _ (A : Area) (I : List ℕ) (h : Hold) (way name : List ℕ) (more : List (List ℕ)) (whole : Reply Hold)
    (s : split way ≡ name ∷ more) (inv : hold_from A I (split way) h ≡ whole) where
  step_on : and_then (entered A I h name) (hold_from A I more) ≡ whole
  step_on = sym (hold_step A I name more h) ∙ ap (λ (ys : List (List ℕ)). hold_from A I ys h) (sym s) ∙ inv

  pub piece_on : (b : Hold) → accepted b ≡ entered A I h name → hold_from A I more b ≡ whole
  piece_on b g = sym (and_then_ok b (hold_from A I more) (sym g)) ∙ step_on

  pub piece_refused : (k : ℕ) → refused k ≡ entered A I h name → refused k ≡ whole
  piece_refused k g = sym (and_then_no k (hold_from A I more) (sym g)) ∙ step_on

-- a directory that is entered is one deeper
pub entered_deep : (A : Area) (I : List ℕ) (h : Hold) (name : List ℕ) (b : Hold) → accepted b ≡ entered A I h name → b.depth ≡ h.depth + 1
unfolding pick
entered_deep A I h name b g = empty name g
  where
    entry : (y : Placed) (t : Bool) → accepted b ≡ pick t (accepted (below h.depth y.place y.entry.addr.0)) (refused 6) → b.depth ≡ h.depth + 1
    entry y true z = ap (λ (x : Hold). x.depth) (accepted-one b (below h.depth y.place y.entry.addr.0) z)
    entry y false z = absurd (not_accepted 6 b (sym z))

    looked_at : (f : Result (Option Placed) Damage) → accepted b ≡ on_placed f (hold_at h.depth) → b.depth ≡ h.depth + 1
    looked_at (Ok (Some y)) z = entry y (is_dir y.entry.kind) z
    looked_at (Ok None) z = absurd (not_accepted 5 b (sym z))
    looked_at (Err d) z = absurd (not_accepted 17 b (sym z))

    empty : (x : List ℕ) → accepted b ≡ entered A I h x → b.depth ≡ h.depth + 1
    empty [] z = absurd (not_accepted 5 b (sym z))
    empty (c ∷ x) z = looked_at (find_in (c ∷ x) (walk A I h.dir)) z

-- ---- the directory of a path

module _ (A : Area) (I d : List ℕ) where
  opens : and_then (hold_dir A I d) (λ h. accepted h.dir) ≡ open_dir A I d
  opens = hold_resolve A I _ (root_hold A.first)

  pub open_held : (h : Hold) → accepted h ≡ hold_dir A I d → accepted h.dir ≡ open_dir A I d
  open_held h g = sym (and_then_ok h (λ x. accepted x.dir) (sym g)) ∙ opens

  pub open_unheld : (k : ℕ) → refused k ≡ hold_dir A I d → refused k ≡ open_dir A I d
  open_unheld k g = sym (and_then_no k (λ x. accepted x.dir) (sym g)) ∙ opens

-- ---- the own entry

-- An entry that is found lies in the image.
found_inside : (s : SuperBlock) (I x : List ℕ) (a : ℕ) (y : Placed) → Fit s I → find_in x (walk (area_in s) I a) ≡ Ok (Some y)
    → OwnIn s.size I (Some y.place)
found_inside s I x a y fit q =
    let i = found_item (area_in s) I a x y q in
    let t = slot_stands s.size I y.place.block.0 y.place.offset y.entry i.stands in
    (fit_inside s I I y.place.block.0 y.place.block.0 fit refl refl i.below, omega (arith, t.ends))

module _ (s : SuperBlock) (I : List ℕ) (fit : Fit s I) where
  entered_inside : (h r : Hold) (x : List ℕ) → entered (area_in s) I h x ≡ accepted r → OwnIn s.size I r.own
  unfolding pick
  entered_inside h r [] q = absurd (not_accepted 5 r q)
  entered_inside h r (c ∷ x) q = looked_at (find_in (c ∷ x) (walk (area_in s) I h.dir)) refl q
    where
      entry : (y : Placed) (t : Bool) → OwnIn s.size I (Some y.place) → pick t (accepted (below h.depth y.place y.entry.addr.0)) (refused 6) ≡ accepted r → OwnIn s.size I r.own
      entry y true i z = subst (λ (b : Hold). OwnIn s.size I b.own) (accepted-one (below h.depth y.place y.entry.addr.0) r z) i
      entry y false i z = absurd (not_accepted 6 r z)

      looked_at : (f : Result (Option Placed) Damage) → find_in (c ∷ x) (walk (area_in s) I h.dir) ≡ f → on_placed f (hold_at h.depth) ≡ accepted r
          → OwnIn s.size I r.own
      looked_at (Ok (Some y)) g z = entry y (is_dir y.entry.kind) (found_inside s I (c ∷ x) h.dir y fit g) z
      looked_at (Ok None) g z = absurd (not_accepted 5 r z)
      looked_at (Err d) g z = absurd (not_accepted 17 r z)

  from_inside : (xs : List (List ℕ)) (h r : Hold) → OwnIn s.size I h.own → hold_from (area_in s) I xs h ≡ accepted r → OwnIn s.size I r.own
  from_inside [] h r i q = subst (λ (y : Hold). OwnIn s.size I y.own) (accepted-one h r (sym (hold_none (area_in s) I h) ∙ q)) i
  from_inside (x ∷ xs) h r i q =
      let w = then-accepted _ _ r (sym (hold_step (area_in s) I x xs h) ∙ q) in
      from_inside xs w.0 r (entered_inside h w.0 x w.1) w.2

  -- The own entry of a directory that a path leads to lies in the image.
  pub hold_inside : (d : List ℕ) (h : Hold) → hold_dir (area_in s) I d ≡ accepted h → OwnIn s.size I h.own
  hold_inside d h q = from_inside _ (root_hold s.area.0) h tt q

  -- ---- the numbers of the rules for the struct's

  pub hold_numbers : (d : List ℕ) → hold_dir (area_in s) I d ≡ hold_dir (area_of (geo_of s)) I d
  hold_numbers d = ap (λ (A : Area). hold_dir A I d) (area_is fit)
