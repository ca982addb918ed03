-- S5: an accepted write has done its work, so that a version that answers success and does nothing breaks the contract.
use mathlib.Core.Path.{◌≡◌, ap, ◌∙◌, subst}
use mathlib.Core.Option.{some}
use mathlib.Core.List.{List, ◌++◌}
use Prim.Native.Nat.{ℕ, ◌+◌, ◌^◌, ◌≤◌, ◌<◌}
use native.Mathlib.Omega.{arith}
use lib.ListN.{length, take}
use Rattle.model.specs.Answers.{accepted}
use Rattle.model.specs.Tree.{Name, Cell, Tree, Entry}
use Rattle.model.specs.Geometry.{Mount, Geo, block_size, geo_at}
use Rattle.model.specs.Volume.{WellFormed, max_depth}
use Rattle.model.specs.Calls.{file_of, file_at, DirAt, free_blocks, file_entry, contents, rewrite, TreeWrites}
use Rattle.model.proofs.Contents.{file_written}
use Rattle.model.proofs.Lists.{then_some}
use Rattle.handle.specs.declared.Handle.{Handle}
use Rattle.handle.specs.declared.CountedOut.{CountedOut}
use Rattle.handle.specs.Handles.{name_of}
use Rattle.write.proofs.Targets.{accepted_is}
use Rattle.call_read.specs.Reading.{Reads}
use Rattle.call_change.specs.Changing.{Writes}
use Rattle.thm_calls.proofs.Changing.{volume_at, tree_after, write_passed, write_tree}
use Rattle.thm_calls.proofs.ReadsBack.{bytes_written, write_seek, write_read}
use Rattle.promises.specs.Work.{FileOf, ReadsBack}
use Rattle.limits.proofs.Said.{said_ok}
use Rattle.promises.proofs.Files.{file_at_lem}
use Rattle.std.specs.Prelude.{Ok}
use Rattle.limits.specs.Says.{says}

-- the file that a write is on
pub file_of_lem : (g : Geo) (p : List Name) (n : Name) (now c : ℕ) (buf : List ℕ) (t : Tree max_depth) (I J : List ℕ)
    (m : TreeWrites g max_depth p n now c buf t I J)
    → file_at max_depth p n t ≡ some (m.size, m.time, m.cells)
unfolding file_entry file_of
file_of_lem g p n now c buf t I J m =
    file_at_lem max_depth p n t m.occupied.dir m.occupied.there
    ∙ then_some (λ e. file_of e.time e.node) m.occupied.held
    ∙ ap (λ (e : Entry _). file_of e.time e.node) m.is_file

module _ (M : Mount) (I W : List ℕ) (h : Handle) (buf : List ℕ) (now : ℕ) (o : CountedOut) (J Z : List ℕ)
    (c : Writes M I W h buf now o J Z) (k : ℕ)
    (said : says o.answer ≡ accepted k) (clock : now < 2 ^ 64) where
  counts : o.answer ≡ Ok k
  counts = said_ok o.answer k said

  module _ (w : WellFormed M I) where
    done : (q : List Name) × DirAt max_depth h.dir.0 q w.tree
        × TreeWrites (geo_at M I) max_depth q (name_of h) now h.position buf w.tree I J
    done = write_tree M I W h buf now o J Z c k w clock counts

    -- The handle names a file,
    file_before : FileOf h w.tree
    file_before =
        record {
          path = done.0;
          there = done.1;
          size = done.2.size;
          time = done.2.time;
          cells = done.2.cells;
          file = file_of_lem (geo_at M I) done.0 (name_of h) now h.position buf w.tree I J done.2;
        }

    -- which has after the write the position and the buffer's length as its size, the call's time, and the old bytes before the
    -- position, then the buffer's. So an image that is left as it was had them already.
    pub write_leaves : (v : WellFormed M J)
        → (f : FileOf h w.tree) × (es : List Cell)
        × (file_at max_depth f.path (name_of h) v.tree ≡ some (h.position + length buf, now, es))
        × (contents (h.position + length buf) es ≡ take h.position (contents f.size f.cells) ++ buf)
    unfolding file_before
    write_leaves v =
        let q : List Name = done.0 in
        let m = done.2 in
        let p = write_passed M I W h buf now o J Z c k counts in
        let on = ((accepted_is (geo_at M I) I w.tree (volume_at M I w) h (length buf)).0 p.1 p.2).on_file in (
          file_before,
          rewrite (block_size (geo_at M I)) (free_blocks (geo_at M I) max_depth w.tree) h.position buf m.cells,
          ap (file_at max_depth q (name_of h)) (tree_after M I J w _ _ m.makes v)
              ∙ file_written max_depth q (name_of h) now m.size m.time (h.position + length buf) m.cells _ w.tree
              file_before.file,
          bytes_written M I J w h now buf q done.1 m on,
        )

    -- A seek and a read through the handles answered give those bytes.
    pub write_then_read : length h.name ≡ 255
        → (f : FileOf h w.tree) × ReadsBack M J o.handle (h.position + length buf)
        (take h.position (contents f.size f.cells) ++ buf)
    unfolding file_before
    write_then_read name = (
      file_before,
      λ i low s a rbuf out r b.
          let inside : i ≤ h.position + length buf = omega (arith, low) in
          let y = write_seek M I W h buf now o J Z c k counts clock name w done.0 done.1 done.2 i inside s a in
          let v = write_read M I W h buf now o J Z c k counts clock name w done.0 done.1 done.2 i inside rbuf out r
          (subst (λ (g : Handle). Reads M J g rbuf out r) y.1 b) in
          (ap says y.0, ap says v.0, v.1),
    )
