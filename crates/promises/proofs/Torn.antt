-- S14, S15: what an accepted patch leaves alone, and what is there where not all of its blocks have arrived.
use mathlib.Core.Path.{◌≡◌, refl, sym, ap, ◌∙◌, subst}
use mathlib.Core.Logic.{◌⊎◌, inl, inr}
use mathlib.Core.Option.{some}
use mathlib.Core.List.{List}
use Prim.Native.Nat.{ℕ, ◌+◌, ◌*◌, ◌^◌, ◌≤◌, ◌<◌}
use native.Mathlib.Decide.{ℕ_discrete}
use native.Mathlib.Omega.{arith}
use lib.ListN.{length}
use Rattle.block.specs.Block.{Kept}
use Rattle.model.specs.Answers.{accepted}
use Rattle.model.specs.Tree.{Name, Cell, Some, find}
use Rattle.model.specs.Render.{cells_at, blocks_at, count, place_of}
use Rattle.model.specs.Geometry.{Mount, block_size, geo_at, used_count}
use Rattle.model.specs.Volume.{WellFormed, max_depth, blocks_for}
use Rattle.model.specs.Calls.{file_at, DirAt, places, rewritten, overlaid, TreePatches}
use Rattle.model.proofs.Areas.{size_large}
use Rattle.model.proofs.Contents.{file_written}
use Rattle.model.proofs.Others.{name_or, other_file}
use Rattle.model.proofs.Replies.{settle-none}
use Rattle.handle.specs.declared.Handle.{Handle}
use Rattle.handle.specs.declared.CountedOut.{CountedOut}
use Rattle.handle.specs.Handles.{name_of}
use Rattle.handle.specs.OnTree.{FileIn, OnFile}
use Rattle.write_store.proofs.Writes.{good_file}
use Rattle.write.specs.Writing.{count_of}
use Rattle.patch_store.specs.Torn.{Arrived, Mixture}
use Rattle.patch_store.proofs.Mixes.{same_first}
use Rattle.patch_store.proofs.Tails.{overlaid-places}
use Rattle.patch.specs.Patching.{patched_image, handle_behind}
use Rattle.patch.specs.OnTree.{Patchable}
use Rattle.patch.proofs.Torn.{frame_is, TornImage, torn_image}
use Rattle.patch.proofs.Targets.{whole_of, write_end}
use Rattle.call_patch.specs.Patches.{patch_reply, Patches}
use Rattle.thm_calls.proofs.Changing.{volume_at, tree_after, write_tree}
use Rattle.thm_calls.proofs.Patching.{patch_passed, patch_on, patch_tree, patch_writes}
use Rattle.promises.specs.Torn.{entry_byte, PatchStays, Torn, TornPatch}
use Rattle.promises.specs.Work.{FileOf}
use Rattle.limits.proofs.Said.{said_ok}
use Rattle.promises.proofs.Done.{file_of_lem}
use Rattle.promises.proofs.EitherOrder.{path_one, OneFile, file_one}
use Rattle.promises.proofs.Files.{file_there}
use Rattle.promises.proofs.Handles.{in_file, file_entry_lem}
use Rattle.promises.proofs.Patched.{file_patched, patch_others}
use Rattle.promises.proofs.Starts.{dir_stays}
use Rattle.promises.proofs.UsedMoves.{used_moves}
use Rattle.std.specs.Prelude.{Ok}
use Rattle.limits.specs.Says.{says}

-- ---- a handle and its file

one_dir : (s r : Some) → some s ≡ some r → s ≡ r
one_dir s r e = cc

one_file : (f j : ℕ × ℕ × List Cell) → some f ≡ some j → f ≡ j
one_file f j e = cc

-- A file of the handle's size that begins at its address is the handle's.
on_from : (M : Mount) (J : List ℕ) (v : WellFormed M J) (j : Handle) (q : List Name) → DirAt max_depth j.dir.0 q v.tree → (k : ℕ) (cs : List Cell)
    → file_at max_depth q (name_of j) v.tree ≡ some (j.size, k, cs) → cells_at cs ≡ j.addr.0 → OnFile max_depth v.tree j
on_from M J v j q s k cs f e =
    let o = file_there max_depth q (name_of j) v.tree j.size k cs f in
    let d : o.0.dir ≡ s.dir = one_dir o.0.dir s.dir (sym o.0.there ∙ s.there) in
    let there : DirAt max_depth j.dir.0 q v.tree
    = record { dir = o.0.dir; there = o.0.there; starts = ap (λ (y : Some). blocks_at y.1) d ∙ s.starts } in
    let m : FileIn j o.0.dir = record {
      time = o.0.entry.time;
      cells = cs;
      held = o.0.held ∙ ap some (file_entry_lem (geo_at M J) J v.tree (volume_at M J v) j q j.size k cs f o.0 o.1 refl);
      starts = e;
    } in
    record { path = q; there = there; file = m }

-- ---- S15

module _ (M : Mount) (I W : List ℕ) (h : Handle) (buf : List ℕ) (now : ℕ) (o : CountedOut) (J Z : List ℕ) (c : Patches M I W h buf now o J Z) (k : ℕ)
    (said : says o.answer ≡ accepted k) where
  counts : o.answer ≡ Ok k
  counts = said_ok o.answer k said

  module _ (w : WellFormed M I) where
    abbrev able : Patchable max_depth w.tree h (length buf)
    able = patch_on M I W h buf now o J Z c k w counts

    abbrev on_file : FileOf h w.tree
    on_file = record {
      path = able.on_file.path;
      there = able.on_file.there;
      size = h.size;
      time = able.on_file.file.time;
      cells = able.on_file.file.cells;
      file = in_file (geo_at M I) I w.tree (volume_at M I w) h able.on_file.path able.on_file.there able.on_file.file;
    }

    left : J ≡ patched_image (geo_at M I) I h buf now
    left = c.image ∙ settle-none _ I (patch_passed M I W h buf now o J Z c k counts).0

    bytes_stay : (f : FileOf h w.tree) × Kept (block_size (geo_at M I)) (λ b i. ((count b (places f.cells) ≡ 0) ⊎ (i < 4))
        × (entry_byte M I w h f + 9 ≤ block_size (geo_at M I) * b + i → block_size (geo_at M I) * b + i < entry_byte M I w h f + 17 → ⊥)) I J
    bytes_stay = (
      on_file,
      subst (Kept (block_size (geo_at M I)) (λ b i. ((count b (places able.on_file.file.cells) ≡ 0) ⊎ (i < 4))
          × (place_of (block_size (geo_at M I)) (name_of h) able.on_file.there.dir.1 + 9 ≤ block_size (geo_at M I) * b + i
          → block_size (geo_at M I) * b + i < place_of (block_size (geo_at M I)) (name_of h) able.on_file.there.dir.1 + 17 → ⊥)) I) (sym left)
          (frame_is (geo_at M I) I w.tree (volume_at M I w) h buf able now),
    )

    module _ (clock : now < 2 ^ 64) (v : WellFormed M J) (j : Handle) (on : OnFile max_depth w.tree j) where
      abbrev done : (q : List Name) × DirAt max_depth h.dir.0 q w.tree × TreePatches (geo_at M I) max_depth q (name_of h) now h.position buf w.tree I J
      done = patch_tree M I W h buf now o J Z c k w clock counts

      abbrev m : TreePatches (geo_at M I) max_depth done.0 (name_of h) now h.position buf w.tree I J
      m = done.2

      was : file_at max_depth on.path (name_of j) w.tree ≡ some (j.size, on.file.time, on.file.cells)
      was = in_file (geo_at M I) I w.tree (volume_at M I w) j on.path on.there on.file

      tree_is : v.tree ≡ rewritten max_depth done.0 (name_of h) now m.size (overlaid (block_size (geo_at M I)) h.position buf m.cells) w.tree
      tree_is = tree_after M I J w _ _ m.makes v

      there_still : DirAt max_depth j.dir.0 on.path v.tree
      there_still =
          subst (DirAt max_depth j.dir.0 on.path) (sym tree_is) (dir_stays max_depth j.dir.0 done.0 on.path (name_of h) now m.size _ w.tree on.there)

      -- the patched file itself
      same : done.0 ≡ on.path → name_of h ≡ name_of j → OnFile max_depth v.tree j
      same e n =
          let old : file_at max_depth on.path (name_of j) w.tree ≡ some (m.size, m.time, m.cells)
          = (λ i. file_at max_depth (sym e i) (sym n i) w.tree) ∙ file_patched (geo_at M I) done.0 (name_of h) now h.position buf w.tree I J m in
          let y : ◌≡◌ {A = ℕ × ℕ × List Cell} (m.size, m.time, m.cells) (j.size, on.file.time, on.file.cells) = one_file _ _ (sym old ∙ was) in
          let size : m.size ≡ j.size = ap (λ (x : ℕ × ℕ × List Cell). x.0) y in
          let cells : m.cells ≡ on.file.cells = ap (λ (x : ℕ × ℕ × List Cell). x.2) y in
          let five : 5 ≤ block_size (geo_at M I) = omega (arith, size_large (geo_at M I)) in
          let held = m.occupied.held ∙ ap some m.is_file in
          let good = good_file (geo_at M I) I max_depth w.tree (volume_at M I w) done.0 (name_of h) m.occupied.dir m.occupied.there m.time m.size m.cells held in
          let es : List Cell = overlaid (block_size (geo_at M I)) h.position buf m.cells in
          let spots : places es ≡ places m.cells = overlaid-places (block_size (geo_at M I)) m.size m.cells five good h.position buf m.inside in
          let new : file_at max_depth done.0 (name_of h) v.tree ≡ some (m.size, now, es)
          = ap (file_at max_depth done.0 (name_of h)) tree_is
          ∙ file_written max_depth done.0 (name_of h) now m.size m.time m.size m.cells es w.tree (file_patched (geo_at M I) done.0 (name_of h) now h.position buf w.tree I J m) in
          on_from M J v j on.path there_still now es
          ((λ i. file_at max_depth (sym e i) (sym n i) v.tree) ∙ new ∙ ap (λ (x : ℕ). let f : ℕ × ℕ × List Cell = (x, now, es) in some f) size)
          (same_first es m.cells spots ∙ ap cells_at cells ∙ on.file.starts)

      -- any other
      other : (done.0 ≡ on.path → name_of h ≡ name_of j → ⊥) → OnFile max_depth v.tree j
      other x =
          on_from M J v j on.path there_still on.file.time on.file.cells
          (ap (file_at max_depth on.path (name_of j)) tree_is
          ∙ other_file max_depth done.0 on.path (name_of h) (name_of j) now m.size _ w.tree x ∙ was) on.file.starts

      handle_stays : OnFile max_depth v.tree j
      handle_stays = go (ℕ_discrete h.dir.0 j.dir.0) (name_or (name_of h) (name_of j))
        where
          starts : (q p : List Name) (a b : ℕ) → DirAt max_depth a q w.tree → DirAt max_depth b p w.tree → q ≡ p → a ≡ b
          starts q p a b s r e =
              sym s.starts ∙ ap (λ (y : Some). blocks_at y.1) (one_dir s.dir r.dir (sym s.there ∙ ap (λ (x : List Name). find max_depth x w.tree) e ∙ r.there)) ∙ r.starts

          go : Dec (h.dir.0 ≡ j.dir.0) → (name_of h ≡ name_of j) ⊎ (name_of h ≡ name_of j → ⊥) → OnFile max_depth v.tree j
          go (yes d) (inl n) = same (path_one M I w j.dir.0 done.0 on.path (subst (λ (a : ℕ). DirAt max_depth a done.0 w.tree) d done.1) on.there) n
          go (yes d) (inr n) = other (λ _ y. n y)
          go (no d) y = other (λ e _. d (starts done.0 on.path h.dir.0 j.dir.0 done.1 on.there e))

    -- ---- S14

    module _ (clock : now < 2 ^ 64) (L : List ℕ) (r : Arrived (block_size (geo_at M I)) I J L) where
      abbrev T : TornImage (geo_at M I) I w.tree (volume_at M I w) h buf able now L
      T = torn_image (geo_at M I) I w.tree (volume_at M I w) h buf able now L clock (subst (λ (X : List ℕ). Arrived (block_size (geo_at M I)) I X L) left r)

      -- L is left by a patch of as many bytes,
      as_patch : Patches M I W h T.buffer T.time o L Z
      as_patch =
          record {
            answer = c.answer ∙ ap (λ (n : ℕ). count_of n (patch_reply M I (length W) h n)) (sym T.long);
            handle = c.handle ∙ ap (λ (n : ℕ). handle_behind h n (patch_reply M I (length W) h n)) (sym T.long);
            image = T.image ∙ sym (settle-none _ I (patch_passed M I W h buf now o J Z c k counts).0);
            work = c.work;
          }

      abbrev made : (q : List Name) × DirAt max_depth h.dir.0 q w.tree × TreePatches (geo_at M I) max_depth q (name_of h) T.time h.position T.buffer w.tree I L
      made = patch_tree M I W h T.buffer T.time o L Z as_patch k w T.clock counts

      abbrev well : WellFormed M L
      well = record { numbers = geo_at M I; here = refl; tree = rewritten max_depth made.0 (name_of h) T.time made.2.size (overlaid (block_size (geo_at M I)) h.position T.buffer made.2.cells) w.tree; volume = made.2.makes.volume }

      abbrev on_torn : FileOf h w.tree
      on_torn = record {
        path = made.0;
        there = made.1;
        size = made.2.size;
        time = made.2.time;
        cells = made.2.cells;
        file = file_patched (geo_at M I) made.0 (name_of h) T.time h.position T.buffer w.tree I L made.2;
      }

      one : OneFile made.0 able.on_file.path made.2.size h.size made.2.cells able.on_file.file.cells
      one = file_one M I w h on_torn on_file

      -- so its file has its size and its blocks,
      file_torn : file_at max_depth able.on_file.path (name_of h) well.tree
          ≡ some (h.size, T.time, overlaid (block_size (geo_at M I)) h.position T.buffer able.on_file.file.cells)
      file_torn =
          let B : ℕ = block_size (geo_at M I) in
          subst (λ (p : List Name). file_at max_depth p (name_of h) well.tree ≡ some (h.size, T.time, overlaid B h.position T.buffer able.on_file.file.cells)) one.path
          (subst (λ (cs : List Cell). file_at max_depth made.0 (name_of h) well.tree ≡ some (h.size, T.time, overlaid B h.position T.buffer cs)) one.cells
          (subst (λ (z : ℕ). file_at max_depth made.0 (name_of h) well.tree ≡ some (z, T.time, overlaid B h.position T.buffer made.2.cells)) one.size
          (file_written max_depth made.0 (name_of h) T.time made.2.size made.2.time made.2.size made.2.cells _ w.tree on_torn.file)))

      spots_torn : places (overlaid (block_size (geo_at M I)) h.position T.buffer able.on_file.file.cells) ≡ places able.on_file.file.cells
      spots_torn =
          let q = able.on_file in
          overlaid-places (block_size (geo_at M I)) h.size q.file.cells (omega (arith, size_large (geo_at M I)))
          (good_file (geo_at M I) I max_depth w.tree (volume_at M I w) q.path (name_of h) q.there.dir q.there.there q.file.time h.size q.file.cells q.file.held)
          h.position T.buffer (omega (arith, T.long, able.inside))

      -- and the used count is what it was.
      used_torn : used_count (geo_at M L) L ≡ used_count (geo_at M I) I
      used_torn =
          let a = patch_on M I W h T.buffer T.time o L Z as_patch k w counts in
          let vs : List ℕ = whole_of max_depth w.tree h T.buffer a.on_file in
          let d = write_tree M I W h vs T.time _ L Z (patch_writes M I W h T.buffer T.time o L Z as_patch k w counts) (length vs) w T.clock refl in
          let f : FileOf h w.tree = record {
            path = d.0;
            there = d.1;
            size = d.2.size;
            time = d.2.time;
            cells = d.2.cells;
            file = file_of_lem (geo_at M I) d.0 (name_of h) T.time h.position vs w.tree I L d.2;
          } in
          let e : d.2.size ≡ h.size = (file_one M I w h f on_file).size in
          let y : h.position + length vs ≡ h.size = write_end (geo_at M I) I w.tree (volume_at M I w) h T.buffer a in
          let u = used_moves M I L w d.0 (name_of h) T.time h.position vs d.2 in
          let B : ℕ = block_size (geo_at M I) in
          omega (arith, u, ap (blocks_for B) e, ap (blocks_for B) y)

      torn : Torn M I W h buf now o J Z w L
      torn =
          record {
            well = well;
            used = omega (arith, used_torn);
            others = λ q m x. patch_others M I W h T.buffer T.time o L Z as_patch k said T.clock w well q m x;
            file = on_file;
            time = T.time;
            old_or_new = T.old_or_new;
            cells = overlaid (block_size (geo_at M I)) h.position T.buffer able.on_file.file.cells;
            is = search file_torn;
            same_blocks = spots_torn;
            mixture = subst (λ (X : List ℕ). Mixture (block_size (geo_at M I)) I X L able.on_file.file.cells
                (overlaid (block_size (geo_at M I)) h.position buf able.on_file.file.cells)
                (overlaid (block_size (geo_at M I)) h.position T.buffer able.on_file.file.cells)) (sym left) T.mixture;
            mixed = T.buffer;
            long = T.long;
            as_patch = as_patch;
          }

-- ---- the promises

pub patch_stays : PatchStays
patch_stays =
    record {
      handles = λ M I W h buf now o J Z c k said clock w v j on. handle_stays M I W h buf now o J Z c k said w clock v j (search on);
      bytes = λ M I W h buf now o J Z c k said w.
          let r = bytes_stay M I W h buf now o J Z c k said w in
          (r.0, record { size = r.1.size; at = λ b i m l. r.1.at b i (search m.0, m.1) l });
    }

pub torn_patch : TornPatch
torn_patch M I W h buf now o J Z c k said clock w L r = torn M I W h buf now o J Z c k said w clock L r
