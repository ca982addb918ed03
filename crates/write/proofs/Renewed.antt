-- After an accepted write the handle that it answers is on the file, in the image that it left.
use mathlib.Core.Path.{◌≡◌, refl, sym, ap, ◌∙◌}
use mathlib.Core.Bool.{false}
use mathlib.Core.Option.{Option, none, some}
use mathlib.Core.List.{List, [], ◌∷◌, ◌++◌}
use Prim.Native.Nat.{ℕ, zero, suc, ◌+◌, ◌-◌, ◌^◌, ◌≤◌, ◌<◌}
use native.Mathlib.Omega.{arith}
use lib.ListN.{length, get_or, take}
use borrow.Author.Tests.{le-ltb, ne_eqb}
use Rattle.model.specs.Tree.{Name, Cell, Node, file, device, sub, Entry, Below, Tree, lookup, change, Some, find}
use Rattle.model.specs.Render.{cells_at, blocks_at}
use Rattle.model.specs.Answers.{accepted}
use Rattle.model.specs.Geometry.{area_of, Geo, block_size}
use Rattle.model.specs.Volume.{file_limit, blocks_for, GoodFile, Volume, max_depth}
use Rattle.model.specs.Calls.{DirAt, free_blocks, file_entry, places, rewrite, refiled, rewritten, TreeWrites}
use Rattle.model.proofs.Alike.{change_at}
use Rattle.model.proofs.Areas.{size_large}
use Rattle.model.proofs.Contents.{blocks-some, length-places, rewrite-places}
use Rattle.model.proofs.Dirs.{lookup-change}
use Rattle.model.proofs.Edits.{find-edit, refiled_name}
use Rattle.model.proofs.Opens.{false_or}
use Rattle.model.proofs.Reached.{path_is}
use Rattle.handle.proofs.Currents.{found_at}
use Rattle.read_dir.specs.Walk.{walk}
use Rattle.write_store.proofs.Writes.{good_file}
use Rattle.handle.specs.declared.Handle.{Handle}
use Rattle.handle.specs.Handles.{name_of, stale_fields, current_in}
use Rattle.write.specs.Writing.{Target, target_of, written_image, grown_handle}
use Rattle.handle.specs.OnTree.{OnFile}
use Rattle.handle.proofs.Seeks.{fresh}
use Rattle.write.proofs.Targets.{accepted_is, found_there, written_is}

-- ---- its fields

grown_fields : (h : Handle) (len : ℕ) → stale_fields h ≡ false → h.position + len ≤ file_limit → stale_fields (grown_handle h len) ≡ false
unfolding stale_fields
grown_fields h len f k =
    let r = fresh h f in
    false_or (le-ltb (h.position + len) (h.position + len) (omega arith))
    (false_or (le-ltb file_limit (h.position + len) k) (false_or (ne_eqb h.len 0 (λ e. omega (arith, r.some_name))) (le-ltb 255 h.len r.few)))

-- ---- its address: a write keeps the first block

first_place : (cs : List Cell) → cells_at cs ≡ get_or (places cs) 0 0
unfolding cells_at places
first_place [] = refl
first_place (c ∷ cs) = refl

first_take : (k : ℕ) (l m : List ℕ) → 1 ≤ k → 1 ≤ length l → get_or (take k (l ++ m)) 0 0 ≡ get_or l 0 0
first_take zero l m a b = absurd (omega arith)
first_take (suc k) [] m a b = absurd (omega arith)
first_take (suc k) (x ∷ l) m a b = refl

first_kept : (B z c : ℕ) (free buf : List ℕ) (cs : List Cell) → 5 ≤ B → GoodFile B z cs → c ≤ z → blocks_for B (c + length buf) - length cs ≤ length free
    → cells_at (rewrite B free c buf cs) ≡ cells_at cs
first_kept B z c free buf cs five good position room =
    first_place (rewrite B free c buf cs)
    ∙ ap (λ (l : List ℕ). get_or l 0 0) (rewrite-places B z c free buf cs five good position room)
    ∙ first_take (blocks_for B (c + length buf)) (places cs) free (blocks-some B five (c + length buf))
    (omega (arith, length-places cs, good.long, blocks-some B five z))
    ∙ sym (first_place cs)

-- the first block of the file that a name gives in a directory
abbrev node_from : {X : Type 0} → Node X → ℕ
node_from (file z cs) = cells_at cs
node_from (device z cs) = 0
node_from (sub x) = 0

abbrev entry_from : {X : Type 0} → Option (Entry X) → ℕ
entry_from none = 0
entry_from (some e) = node_from e.node

abbrev file_from : Name → Option Some → ℕ
file_from n none = 0
file_from n (some s) = entry_from (lookup n s.1)

file_from_lem : (n : Name) (o : Option Some) (s : Some) (k z : ℕ) (cs : List Cell) → o ≡ some s → lookup n s.1 ≡ some (file_entry n k z cs) → file_from n o ≡ cells_at cs
unfolding file_entry
file_from_lem n o s k z cs a l = ap (file_from n) a ∙ ap entry_from l

-- ---- the tree after a write

module _ (g : Geo) (I J : List ℕ) (t : Tree max_depth) (v : Volume g I max_depth t) (h : Handle) (now : ℕ) (buf : List ℕ) (p : List Name) (s : DirAt max_depth h.dir.0 p t)
    (w : TreeWrites g max_depth p (name_of h) now h.position buf t I J) (q : OnFile max_depth t h) where
  abbrev dir : Some
  dir = w.occupied.dir

  abbrev es : List Cell
  es = rewrite (block_size g) (free_blocks g max_depth t) h.position buf w.cells

  held : lookup (name_of h) w.occupied.dir.1 ≡ some (file_entry (name_of h) w.time w.size w.cells)
  held = w.occupied.held ∙ ap some w.is_file

  -- the file before the write
  pub was_good : GoodFile (block_size g) w.size w.cells
  was_good = good_file g I max_depth t v p (name_of h) dir w.occupied.there w.time w.size w.cells held

  abbrev renew : Entry (Below w.occupied.dir.0) → Entry (Below w.occupied.dir.0)
  renew x = refiled now (h.position + length buf) es x.name x.time x.node

  abbrev dir' : Some
  dir' = (w.occupied.dir.0, change (name_of h) renew w.occupied.dir.1)

  abbrev u : Tree max_depth
  u = rewritten max_depth p (name_of h) now (h.position + length buf) es t

  -- the directory in the new tree: it is at its path, and begins where it did
  pub there_after : find max_depth p u ≡ some dir'
  unfolding rewritten
  there_after = find-edit max_depth p (λ k. k) (λ e bs. change (name_of h) (λ x. refiled now (h.position + length buf) es x.name x.time x.node) bs) t dir w.occupied.there

  same_dir : s.dir ≡ w.occupied.dir
  same_dir = let a : some s.dir ≡ some w.occupied.dir = sym s.there ∙ w.occupied.there in cc

  pub starts_after : blocks_at dir'.1 ≡ h.dir.0
  starts_after = change_at (name_of h) renew dir.1 ∙ sym (ap (λ (x : Some). blocks_at x.1) same_dir) ∙ s.starts

  -- and the file there, which begins where it did too
  pub held_after : lookup (name_of h) (change (name_of h) renew w.occupied.dir.1) ≡ some (file_entry (name_of h) now (h.position + length buf) es)
  unfolding file_entry refiled
  held_after = lookup-change (name_of h) renew (λ x. refiled_name now (h.position + length buf) es x.name x.time x.node) dir.1 (file_entry (name_of h) w.time w.size w.cells) held

  -- the handle's path is the only one to its directory
  same_path : p ≡ q.path
  same_path =
      let a : some p ≡ some q.path = sym (path_is g I max_depth t _ h.dir.0 p v.laid s) ∙ path_is g I max_depth t _ h.dir.0 q.path v.laid q.there in
      cc

  from_is : cells_at w.cells ≡ h.addr.0
  from_is =
      sym (file_from_lem (name_of h) (find max_depth p t) dir w.time w.size w.cells w.occupied.there held)
      ∙ ap (λ (x : List Name). file_from (name_of h) (find max_depth x t)) same_path
      ∙ file_from_lem (name_of h) (find max_depth q.path t) q.there.dir q.file.time h.size q.file.cells q.there.there q.file.held
      ∙ q.file.starts

  pub from_after : cells_at es ≡ h.addr.0
  from_after = first_kept (block_size g) w.size h.position (free_blocks g max_depth t) buf w.cells (omega (arith, size_large g)) was_good w.position w.room ∙ from_is

  -- The handle is on the file of the new tree.
  renewed_on : OnFile max_depth (rewritten max_depth p (name_of h) now (h.position + length buf) (rewrite (block_size g) (free_blocks g max_depth t) h.position buf w.cells) t) (grown_handle h (length buf))
  renewed_on = record {
    path = p;
    there = record { dir = dir'; there = there_after; starts = starts_after };
    file = record { time = now; cells = es; held = held_after; starts = from_after };
  }

-- ---- the theorem

module _ (g : Geo) (I : List ℕ) (t : Tree max_depth) (v : Volume g I max_depth t) (h : Handle) (buf : List ℕ) (now : ℕ) (τ : Target) (clock : now < 2 ^ 64)
    (e : target_of g I h (length buf) ≡ accepted τ) where
  -- The handle that an accepted write answers is not stale by its fields,
  pub still_fresh : stale_fields (grown_handle h (length buf)) ≡ false
  still_fresh = let a = (accepted_is g I t v h (length buf)).0 τ e in grown_fields h (length buf) a.fields a.limit

  -- it is on a file of the tree that the new image lays out,
  pub still_on : (u : Tree max_depth) × Volume g (written_image g I h buf now) max_depth u × OnFile max_depth u (grown_handle h (length buf))
  still_on =
      let a = (accepted_is g I t v h (length buf)).0 τ e in
      let r = written_is g I t v h buf now τ clock e in
      (_, r.2.makes.volume, renewed_on g I (written_image g I h buf now) t v h now buf r.0 r.1 r.2 a.on_file)

  -- and its entry is found in the new image.
  pub still_current : (x : Target) × (current_in (grown_handle h (length buf)) (walk (area_of g) (written_image g I h buf now) h.dir.0) ≡ found_at x.entry x.place)
  still_current = let r = still_on in found_there g (written_image g I h buf now) r.0 r.1 (grown_handle h (length buf)) r.2
