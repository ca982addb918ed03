-- S5: what an accepted create leaves at its path, so that a version that answers success and does nothing breaks the contract.
use mathlib.Core.Path.{◌≡◌, refl, sym, ap, ◌∙◌, subst}
use mathlib.Core.Bool.{false}
use mathlib.Core.Option.{Option, none, some}
use mathlib.Core.List.{List, [], ◌∷◌, ◌++◌}
use Prim.Native.Nat.{ℕ, zero, suc, ◌^◌, ◌≤◌, ◌<◌}
use native.Mathlib.Omega.{arith}
use lib.ListN.{length}
use lib.Seq.{take-append_seam}
use Rattle.model.specs.Answers.{Reply, accepted, refused, and_then}
use Rattle.model.specs.Tree.{Name, Cell, Node, file, device, sub, Entry, Below, Tree, then, lookup, Absent, insert, inside, Some, find, blank, NoEntries}
use Rattle.model.specs.Render.{blocks_at, cells_at, padded}
use Rattle.model.specs.Geometry.{Mount, block_size, geo_at}
use Rattle.model.specs.Volume.{WellFormed, max_depth}
use Rattle.model.specs.Calls.{Occupied, file_of, file_at, DirAt, free_blocks, entry_room, entry_block, dir_block, file_entry, empty_cell, created, dir_added, created_dir}
use Rattle.model.proofs.Edits.{find-edit}
use Rattle.model.proofs.Full.{good_find}
use Rattle.model.proofs.Replies.{given_accepted, not_accepted}
use Rattle.model.proofs.Lists.{not_some, then_some}
use Rattle.model.proofs.OneVolume.{well_formed_one}
use Rattle.model.proofs.Opens.{when-none, first_of_zero, first_of_one}
use Rattle.dir_entry.specs.declared.Kind.TheVariants as kind
use Rattle.path.specs.Path.{real_path, bad_path}
use Rattle.path.proofs.FullPaths.{real_bytes}
use Rattle.create.specs.Creating.{Fresh, site_of, fresh_of, created_on}
use Rattle.create.proofs.Trees.{created_block}
use Rattle.thm_path.proofs.Resolves.{absent_none}
use Rattle.call_read.specs.declared.OpenOut.{OpenOut}
use Rattle.call_read.specs.Says.{on_answer}
use Rattle.call_change.specs.Changing.{change_call, create_reply, fresh_handle, CreatesFile, CreatesDir}
use Rattle.thm_calls.specs.Handles.{HandleOf}
use Rattle.thm_calls.specs.Named.{way_of, last_of}
use Rattle.thm_calls.proofs.Changing.{volume_at, tree_after, create_file_tree, create_dir_tree}
use Rattle.promises.proofs.Files.{file_at_lem}
use Rattle.promises.proofs.Lookups.{called_own, lookup-inserted}
use Rattle.promises.proofs.Path.{created_there}
use Rattle.std.specs.Prelude.{Result, Ok}
use Rattle.limits.specs.declared.Refusal.{Refusal}

-- ---- answers that are accepted

then-accepted : {A B : Type 0} (r : Reply A) (f : A → B) (b : B) → and_then r (λ a. accepted (f a)) ≡ accepted b → (a : A) × (r ≡ accepted a) × (f a ≡ b)
unfolding and_then
then-accepted (accepted a) f b e = (a, refl, cc)
then-accepted (refused k) f b e = absurd (not_accepted k b e)

-- ---- a file

module _ (M : Mount) (I W cwd p : List ℕ) (now : ℕ) (o : OpenOut) (J Z : List ℕ) (c : CreatesFile M I W cwd p now o J Z) where
  -- the blocks that the handle holds
  handle_is : (w : WellFormed M I) → o.answer ≡ Ok tt → (s : Some) → find max_depth (way_of cwd p) w.tree ≡ some s
      → o.handle ≡ fresh_handle (last_of cwd p) (record { dir = blocks_at s.1; block = entry_block (geo_at M I) (last_of cwd p) s.1 (free_blocks (geo_at M I) max_depth w.tree) })
  unfolding create_reply created_on fresh_of change_call
  handle_is w e s f =
      let said : accepted o.handle ≡ and_then (create_reply kind.File M I (length W) cwd p) (λ y. accepted (fresh_handle (last_of cwd p) y))
      = ap (λ (y : Result (Unit {0}) Refusal). on_answer y o.handle) (sym e) ∙ c.answer.answer in
      let a = then-accepted (create_reply kind.File M I (length W) cwd p) (fresh_handle (last_of cwd p)) o.handle (sym said) in
      let b = given_accepted (change_call M I (length W) cwd p) _ a.0 a.1 in
      let site = then-accepted (site_of (geo_at M I) I kind.File (real_path cwd p)) _ a.0 b.1 in
      let good : bad_path cwd p ≡ false = when-none 4 _ (omega arith) (sym (first_of_one _) ∙ (first_of_zero _ _ b.0).1) in
      let new = created_block (geo_at M I) I w.tree (volume_at M I w) kind.File (real_path cwd p) (real_bytes cwd p good) site.0 site.1 s f in
      sym a.2 ∙ ap (fresh_handle (last_of cwd p)) (one _ _ (sym b.1 ∙ new))
    where
      one : (x y : Fresh) → accepted x ≡ accepted y → x ≡ y
      one x y z = cc

  pub create_file_leaves : o.answer ≡ Ok tt → now < 2 ^ 64 → WellFormed M I → (v : WellFormed M J)
      → (x : ℕ) × (a : ℕ) × (file_at max_depth (way_of cwd p) (last_of cwd p) v.tree ≡ some (0, now, empty_cell (geo_at M I) x ∷ []))
      × DirAt max_depth a (way_of cwd p) v.tree × HandleOf a (last_of cwd p) 0 (empty_cell (geo_at M I) x ∷ []) o.handle
  unfolding created file_entry file_of cells_at padded
  create_file_leaves e clock w v =
      let m = create_file_tree M I W cwd p now J Z o c w clock e in
      let n : Name = last_of cwd p in
      let s : Some = m.vacant.dir in
      let free : List ℕ = free_blocks (geo_at M I) max_depth w.tree in
      let x : ℕ = entry_block (geo_at M I) n s.1 free in
      let cs : List Cell = empty_cell (geo_at M I) x ∷ [] in
      let new : Entry (Below s.0) = file_entry n now 0 cs in
      let tree : v.tree ≡ created max_depth (entry_room (geo_at M I)) (way_of cwd p) n now (dir_block free) 0 cs w.tree = tree_after M I J w _ _ m.makes v in
      let at = find-edit max_depth (way_of cwd p) (λ _. now) (λ _ bs. insert (entry_room (geo_at M I)) (dir_block free) (file_entry n now 0 cs) bs) w.tree s m.vacant.there in
      let old : DirAt max_depth (blocks_at s.1) (way_of cwd p) w.tree = record { dir = s; there = m.vacant.there; starts = refl } in
      let packed = (good_find (block_size (geo_at M I)) max_depth (way_of cwd p) w.tree s (volume_at M I w).laid.good m.vacant.there).packed in
      let handle = handle_is w e s m.vacant.there in (
        x,
        blocks_at s.1,
        ap (file_at max_depth (way_of cwd p) n) tree
            ∙ file_at_lem max_depth (way_of cwd p) n _ _ at
            ∙ then_some (λ y. file_of y.time y.node) (lookup-inserted (entry_room (geo_at M I)) (dir_block free) n new (called_own n new refl) s.1 m.vacant.free),
        subst (DirAt max_depth (blocks_at s.1) (way_of cwd p)) (sym tree) (created_there max_depth (blocks_at s.1) (way_of cwd p) w.tree old (entry_room (geo_at M I)) n now (dir_block free) 0 cs packed),
        subst (HandleOf (blocks_at s.1) n 0 cs) (sym handle) (record { dir = refl; name = take-append_seam n _; letters = refl; addr = refl; size = refl; position = omega arith }),
      )

  -- So an accepted create changes the image.
  pub create_changes : WellFormed M I → now < 2 ^ 64 → o.answer ≡ Ok tt → J ≡ I → ⊥
  unfolding then
  create_changes w clock e j =
      let m = create_file_tree M I W cwd p now J Z o c w clock e in
      let v : WellFormed M J = subst (WellFormed M) (sym j) w in
      let same : v.tree ≡ w.tree = subst (λ (X : List ℕ). (u : WellFormed M X) → u.tree ≡ w.tree) (sym j) (λ u. (well_formed_one M I u w).1) v in
      let before : file_at max_depth (way_of cwd p) (last_of cwd p) w.tree ≡ none
      = file_at_lem max_depth (way_of cwd p) (last_of cwd p) w.tree m.vacant.dir m.vacant.there
      ∙ ap (λ (y : Option (Entry (Below m.vacant.dir.0))). then y (λ z. file_of z.time z.node)) (absent_none (last_of cwd p) m.vacant.dir.1 m.vacant.free) in
      not_some before (ap (file_at max_depth (way_of cwd p) (last_of cwd p)) (sym same) ∙ (create_file_leaves e clock w v).2)

-- ---- a directory

-- a path that goes on from a directory
find_on : (d : ℕ) (p q : List Name) (t : Tree d) (s : Some) → find d p t ≡ some s → find d (p ++ q) t ≡ find s.0 q s.1
unfolding find then inside
find_on zero [] q t s f = let k : (zero, t) ≡ s = cc in ap (λ (x : Some). find x.0 q x.1) k
find_on (suc d) [] q t s f = let k : (suc d, t) ≡ s = cc in ap (λ (x : Some). find x.0 q x.1) k
find_on zero (a ∷ p) q t s f = absurd (not_some refl f)
find_on (suc d) (a ∷ p) q t s f = go (lookup a t) f (λ y. find_on d p q y s)
  where
    into : (x : Node (Tree d)) → inside (find d p) x ≡ some s → ((y : Tree d) → find d p y ≡ some s → find d (p ++ q) y ≡ find s.0 q s.1)
        → inside (find d (p ++ q)) x ≡ find s.0 q s.1
    into (file z cs) h r = absurd (not_some refl h)
    into (device z cs) h r = absurd (not_some refl h)
    into (sub y) h r = r y h

    go : (o : Option (Entry (Tree d))) → then o (λ e. inside (find d p) e.node) ≡ some s → ((y : Tree d) → find d p y ≡ some s → find d (p ++ q) y ≡ find s.0 q s.1)
        → then o (λ e. inside (find d (p ++ q)) e.node) ≡ find s.0 q s.1
    go none h r = absurd (not_some refl h)
    go (some e) h r = into e.node h r

-- The new directory in its holding directory: at the end of the path, with no entry, and with the time in its own entry.
dir_found : (cap w x now : ℕ) (n : Name) (d : ℕ) (t : Tree d) → 1 ≤ d → Absent n t
    → ((e : ℕ) × (find d (n ∷ []) (dir_added cap w x n now d t) ≡ some (e, blank e x))) × ((y : Entry (Below d)) × (lookup n (dir_added cap w x n now d t) ≡ some y) × (y.time ≡ now))
unfolding dir_added find inside
dir_found cap w x now n zero t h a = absurd (omega arith)
dir_found cap w x now n (suc d) t h a =
    let new : Entry (Tree d) = record { name = n; time = now; node = sub (blank d x) } in
    let here : lookup n (insert cap w new t) ≡ some new = lookup-inserted cap w n new (called_own n new refl) t a in
    ((d, then_some (λ e. inside (find d []) e.node) here ∙ end d (blank d x)), (new, here, refl))
  where
    end : (k : ℕ) (y : Tree k) → find k [] y ≡ some (k, y)
    end zero y = refl
    end (suc k) y = refl

module _ (M : Mount) (I W cwd p : List ℕ) (now : ℕ) (r : Result (Unit {0}) Refusal) (J Z : List ℕ) (c : CreatesDir M I W cwd p now r J Z) where
  pub create_dir_leaves : r ≡ Ok tt → now < 2 ^ 64 → WellFormed M I → (v : WellFormed M J)
      → (x : ℕ) × (s : DirAt max_depth x (way_of cwd p ++ (last_of cwd p ∷ [])) v.tree) × NoEntries s.dir.1
      × (o : Occupied max_depth (way_of cwd p) (last_of cwd p) v.tree) × (o.entry.time ≡ now)
  unfolding created_dir blank blocks_at
  create_dir_leaves e clock w v =
      let m = create_dir_tree M I W cwd p now J Z r c w clock e in
      let n : Name = last_of cwd p in
      let s : Some = m.vacant.dir in
      let cap : ℕ = entry_room (geo_at M I) in
      let free : List ℕ = free_blocks (geo_at M I) max_depth w.tree in
      let b : ℕ = dir_block free in
      let x : ℕ = entry_block (geo_at M I) n s.1 free in
      let u : Some = (s.0, dir_added cap b x n now s.0 s.1) in
      let tree : v.tree ≡ created_dir max_depth cap (way_of cwd p) n now b x w.tree = tree_after M I J w _ _ m.makes v in
      let at : find max_depth (way_of cwd p) v.tree ≡ some u
      = ap (find max_depth (way_of cwd p)) tree ∙ find-edit max_depth (way_of cwd p) (λ _. now) (dir_added cap b x n now) w.tree s m.vacant.there in
      let new = dir_found cap b x now n s.0 s.1 m.shallow m.vacant.free in (
        x,
        record { dir = (new.0.0, blank new.0.0 x); there = find_on max_depth (way_of cwd p) (n ∷ []) v.tree u at ∙ new.0.1; starts = refl },
        (refl, tt),
        record { dir = u; there = at; entry = new.1.0; held = new.1.1 },
        new.1.2,
      )
