-- The holding directory of a path is the tree's directory there, and its own entry stands where the tree has it.
use mathlib.Core.Path.{◌≡◌, refl, sym, ap, ◌∙◌, subst}
use mathlib.Core.Logic.{◌⊎◌, inl, inr}
use mathlib.Core.Option.{none, some}
use mathlib.Core.List.{List, [], ◌∷◌}
use Prim.Native.Nat.{ℕ, zero, suc, ◌+◌}
use native.Mathlib.Omega.{arith}
use lib.ListN.{length}
use Rattle.wire.specs.Pick.{pick}
use Rattle.model.specs.Answers.{Reply, accepted, refused, and_then}
use Rattle.model.specs.Tree.{Name, Node, file, device, sub, Entry, Below, Tree, Absent, lookup, inside, Some, find}
use Rattle.model.specs.Render.{View, blocks_at, address_of, view, own_time}
use Rattle.model.specs.Geometry.{area_of, Geo, block_size, data_at}
use Rattle.model.specs.Volume.{Laid}
use Rattle.model.proofs.Lists.{not_some, then_some}
use Rattle.model.proofs.Replies.{not_accepted, accepted-one, then-accepted}
use Rattle.dir_entry.specs.Entry.{is_dir}
use Rattle.dir_entry.specs.Shown.{kind_is, head_of}
use Rattle.std.specs.declared.option.Option.TheVariants as option
use Rattle.read_dir.specs.declared.Place.{Place}
use Rattle.read_dir.specs.Walk.{walk}
use Rattle.read_dir.specs.Finds.{find_in}
use Rattle.own_entry.specs.Own.{Own, OwnOf}
use Rattle.dir.specs.Resolve.{on_placed, on_name}
use Rattle.dir.specs.Hold.{Hold, root_hold, hold_at, entered, hold_from}
use Rattle.dir.proofs.HoldLaws.{below, hold_none, hold_step, hold_resolve}
use Rattle.thm_walk.specs.Shown.{spot_of}
use Rattle.thm_walk.proofs.Parts.{Part, laid_part, part_sub}
use Rattle.thm_walk.proofs.Walks.{part_walk, spot_place}
use Rattle.thm_path.specs.Held.{HeldAt}
use Rattle.thm_path.proofs.Finds.{Looked, lookup_or, walk_finds, walk_misses}
use Rattle.thm_path.proofs.Resolves.{unresolved_is}

-- ---- one name

-- an entry that is entered is a subdirectory's
enters_node : {X : Type 0} (v : View X) (x : Node X) (k : ℕ) (p : Place) (r : Hold)
    → pick (is_dir (kind_is x)) (accepted (below k p (address_of v x))) (refused 6) ≡ accepted r → (y : X) × (x ≡ sub y) × (below k p (v.from y) ≡ r)
unfolding pick address_of
enters_node v (file z cs) k p r e = absurd (not_accepted 6 r e)
enters_node v (device z cs) k p r e = absurd (not_accepted 6 r e)
enters_node v (sub y) k p r e = (y, refl, accepted-one (below k p (v.from y)) r e)

enters_entry : {X : Type 0} (v : View X) (n : Name) (x : Entry X) (k : ℕ) (p : Place) (r : Hold) → on_name n (hold_at k (record { entry = head_of v x; place = p })) ≡ accepted r
    → (y : X) × (x.node ≡ sub y) × (below k p (v.from y) ≡ r)
unfolding head_of
enters_entry v [] x k p r e = absurd (not_accepted 5 r e)
enters_entry v (c ∷ n) x k p r e = enters_node v x.node k p r e

module _ (g : Geo) (I : List ℕ) where
  -- the directory of that name in the directory h
  abbrev inside_of : Hold → Name → Reply Hold
  inside_of h n = entered (area_of g) I h n

  entered_finds : (d : ℕ) (t : Tree d) (h : Hold) (n : Name) (e : Entry (Below d)) → Part g I d t → h.dir ≡ blocks_at t → lookup n t ≡ some e
      → inside_of h n ≡ on_name n (hold_at h.depth (record { entry = head_of (view (block_size g) d) e; place = spot_of n t }))
  entered_finds d t h [] e a s l = refl
  entered_finds d t h (c ∷ n) e a s l =
      ap (λ (r : Looked). on_placed r (hold_at h.depth))
      (ap (λ (b : ℕ). find_in (c ∷ n) (walk (area_of g) I b)) s ∙ ap (find_in (c ∷ n)) (part_walk g I d t a)
      ∙ walk_finds (c ∷ n) (view (block_size g) d) t e l)

  entered_misses : (d : ℕ) (t : Tree d) (h : Hold) (n : Name) → Part g I d t → h.dir ≡ blocks_at t → Absent n t → inside_of h n ≡ refused 5
  entered_misses d t h [] a s l = refl
  entered_misses d t h (c ∷ n) a s l =
      ap (λ (r : Looked). on_placed r (hold_at h.depth))
      (ap (λ (b : ℕ). find_in (c ∷ n) (walk (area_of g) I b)) s ∙ ap (find_in (c ∷ n)) (part_walk g I d t a)
      ∙ walk_misses (c ∷ n) (view (block_size g) d) t l)

  -- A directory that is entered is one of the tree, and its own entry stands where the tree has it.
  abbrev Enters : (d : ℕ) → Tree d → Hold → Name → Hold → Type 0
  Enters d t h n r =
      (e : Entry (Below d)) × (y : Below d) × (lookup n t ≡ some e) × (e.node ≡ sub y)
      × (below h.depth (spot_of n t) ((view (block_size g) d).from y) ≡ r)

  enters : (d : ℕ) (t : Tree d) (h : Hold) (n : Name) (r : Hold) → Part g I d t → h.dir ≡ blocks_at t → inside_of h n ≡ accepted r → Enters d t h n r
  enters d t h n r a s q = go (lookup_or n t)
    where
      go : ((e : Entry (Below d)) × (lookup n t ≡ some e)) ⊎ Absent n t → Enters d t h n r
      go (inl x) =
          let w = enters_entry (view (block_size g) d) n x.0 h.depth (spot_of n t) r (sym (entered_finds d t h n x.0 a s x.1) ∙ q) in
          (x.0, w.0, x.1, w.1, w.2)
      go (inr x) = absurd (not_accepted 5 r (sym (entered_misses d t h n a s x) ∙ q))

-- ---- name after name

-- the way down into a subdirectory
module _ (d : ℕ) (t : Tree (suc d)) (n : Name) (e : Entry (Tree d)) (y : Tree d) (l : lookup n t ≡ some e) (k : e.node ≡ sub y) where
  find_down : (p : List Name) → find (suc d) (n ∷ p) t ≡ find d p y
  unfolding find inside
  find_down p = then_some (λ (x : Entry (Tree d)). inside (find d p) x.node) l ∙ ap (inside (find d p)) k

  time_down : (B : ℕ) (m : Name) (p : List Name) → own_time B (suc d) (n ∷ m ∷ p) t ≡ own_time B d (m ∷ p) y
  unfolding own_time inside
  time_down B m p = then_some (λ (x : Entry (Tree d)). inside (own_time B d (m ∷ p)) x.node) l ∙ ap (inside (own_time B d (m ∷ p))) k

  own_here : (B : ℕ) → OwnOf B (suc d) (n ∷ []) t (option.Some (spot_of n t))
  unfolding own_time
  own_here B = ap (λ (j : ℕ). some (j + 9)) (sym (spot_place B n t e l))

  own_down : (B : ℕ) (m : Name) (p : List Name) (o : Own) → OwnOf B d (m ∷ p) y o → OwnOf B (suc d) (n ∷ m ∷ p) t o
  own_down B m p option.None x = absurd (omega (arith, ap length x))
  own_down B m p (option.Some q) x = time_down B m p ∙ x

-- its own entry: that of the directory itself where there are no names
abbrev Past : ℕ → (d : ℕ) → List Name → Tree d → Hold → Hold → Type 0
Past B d [] t h r = r ≡ h
Past B d (n ∷ p) t h r = OwnOf B d (n ∷ p) t r.own

-- the names p lead from h, which is t, to r
record Led (B d : ℕ) (p : List Name) (t : Tree d) (h r : Hold) : Type 0 where
  pub there : Some
  pub found : find d p t ≡ some there
  pub starts : blocks_at there.1 ≡ r.dir
  pub deep : r.depth ≡ h.depth + length p
  pub levels : there.0 + length p ≡ d
  pub past : Past B d p t h r

module _ (B : ℕ) where
  led_none : (d : ℕ) (t : Tree d) (h r : Hold) → find d [] t ≡ some (d, t) → h.dir ≡ blocks_at t → h ≡ r → Led B d [] t h r
  led_none d t h r f s e = record {
    there = (d, t);
    found = f;
    starts = sym s ∙ ap (λ (x : Hold). x.dir) e;
    deep = omega (arith, ap (λ (x : Hold). x.depth) e);
    levels = omega arith;
    past = sym e;
  }

  led_step : (d : ℕ) (t : Tree (suc d)) (n : Name) (p : List Name) (e : Entry (Tree d)) (y : Tree d) (h r : Hold) (a : ℕ)
      → lookup n t ≡ some e → e.node ≡ sub y → Led B d p y (below h.depth (spot_of n t) a) r → Led B (suc d) (n ∷ p) t h r
  led_step d t n p e y h r a l k z = record {
    there = z.there;
    found = find_down d t n e y l k p ∙ z.found;
    starts = z.starts;
    deep = omega (arith, z.deep);
    levels = omega (arith, z.levels);
    past = go p z.past;
  }
    where
      go : (q : List Name) → Past B d q y (below h.depth (spot_of n t) a) r → OwnOf B (suc d) (n ∷ q) t r.own
      go [] x = subst (λ (w : Hold). OwnOf B (suc d) (n ∷ []) t w.own) (sym x) (own_here d t n e y l k B)
      go (m ∷ q) x = own_down d t n e y l k B m q r.own x

module _ (g : Geo) (I : List ℕ) where
  -- from any directory that the image holds
  led : (d : ℕ) (p : List Name) (t : Tree d) (h r : Hold) → Part g I d t → h.dir ≡ blocks_at t
      → hold_from (area_of g) I p h ≡ accepted r → Led (block_size g) d p t h r
  unfolding find view
  led zero [] t h r a s q = led_none (block_size g) zero t h r refl s (accepted-one h r (sym (hold_none (area_of g) I h) ∙ q))
  led (suc d) [] t h r a s q = led_none (block_size g) (suc d) t h r refl s (accepted-one h r (sym (hold_none (area_of g) I h) ∙ q))
  led zero (n ∷ p) t h r a s q =
      let w = then-accepted _ _ r (sym (hold_step (area_of g) I n p h) ∙ q) in
      let z = enters g I zero t h n w.0 a s w.1 in
      absurd z.1
  led (suc d) (n ∷ p) t h r a s q =
      let w = then-accepted _ _ r (sym (hold_step (area_of g) I n p h) ∙ q) in
      let z = enters g I (suc d) t h n w.0 a s w.1 in
      let under : Hold = below h.depth (spot_of n t) (blocks_at z.1) in
      led_step (block_size g) d t n p z.0 z.1 h r (blocks_at z.1) z.2 z.3
      (led d p z.1 under r (part_sub g I d t n z.0 z.1 a z.2 z.3) refl
      (ap (hold_from (area_of g) I p) z.4 ∙ w.2))

-- ---- on a volume

module _ (g : Geo) (I : List ℕ) (d : ℕ) (t : Tree d) (u : ℕ) (p : List Name) (l : Laid g I d t u) where
  -- The holding directory that is found at these names is the tree's.
  pub hold_is : (h : Hold) → hold_from (area_of g) I p (root_hold (data_at g)) ≡ accepted h → HeldAt (block_size g) d p t h
  hold_is h q =
      let z = led g I d p t (root_hold (data_at g)) h (laid_part g I d t u l) (sym l.root) q in
      record { there = z.there; found = z.found; starts = z.starts; deep = omega (arith, z.deep); levels = z.levels; own = go p z.past }
    where
      go : (q : List Name) → Past (block_size g) d q t (root_hold (data_at g)) h → OwnOf (block_size g) d q t h.own
      go [] x = subst (λ (w : Hold). OwnOf (block_size g) d [] t w.own) (sym x) refl
      go (n ∷ q) x = x

  -- So on a volume the own entry of every directory that a path leads to is there, and it is the tree's.
  pub own_there : (h : Hold) → hold_from (area_of g) I p (root_hold (data_at g)) ≡ accepted h → OwnOf (block_size g) d p t h.own
  own_there h q = (hold_is h q).own

  -- Names that stop give 5 or 6, never 17, and there is no directory there.
  pub hold_refused : (k : ℕ) → hold_from (area_of g) I p (root_hold (data_at g)) ≡ refused k → (find d p t ≡ none) × ((k ≡ 5) ⊎ (k ≡ 6))
  unfolding and_then
  hold_refused k q =
      unresolved_is g I d t u p l k
      (sym (hold_resolve (area_of g) I p (root_hold (data_at g))) ∙ ap (λ (y : Reply Hold). and_then y (λ r. accepted r.dir)) q)

  -- Where the tree has a directory, one is found.
  pub hold_some : (s : Some) → find d p t ≡ some s → (h : Hold) × (hold_from (area_of g) I p (root_hold (data_at g)) ≡ accepted h)
  hold_some s f = go (hold_from (area_of g) I p (root_hold (data_at g))) refl
    where
      go : (r : Reply Hold) → hold_from (area_of g) I p (root_hold (data_at g)) ≡ r
          → (h : Hold) × (hold_from (area_of g) I p (root_hold (data_at g)) ≡ accepted h)
      go (accepted h) q = (h, q)
      go (refused k) q = absurd (not_some (hold_refused k q).0 f)
