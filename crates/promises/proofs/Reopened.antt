-- S5: what a file holds is read through a handle that an open gives.
use mathlib.Core.Path.{◌≡◌, sym, ap, ◌∙◌, subst}
use mathlib.Core.Bool.{false}
use mathlib.Core.Option.{some}
use mathlib.Core.List.{List}
use Prim.Native.Nat.{ℕ, ◌-◌, ◌≤◌, min}
use native.Mathlib.Omega.{arith}
use lib.ListN.{length}
use Rattle.wire.specs.Be.{splice}
use Rattle.model.specs.Geometry.{Mount}
use Rattle.model.specs.Answers.{accepted}
use Rattle.model.specs.Tree.{Name, Cell, file}
use Rattle.model.specs.Render.{blocks_at}
use Rattle.model.specs.Volume.{WellFormed, max_depth}
use Rattle.model.specs.Calls.{Occupied, file_at, contents}
use Rattle.model.proofs.Opens.{when-none, first_of_zero, first_of_one}
use Rattle.path.specs.Path.{bad_path}
use Rattle.handle.specs.declared.Handle.{Handle}
use Rattle.handle.specs.Handles.{stale_fields, moved}
use Rattle.file_read.specs.Read.{read_refusal}
use Rattle.call_read.specs.declared.OpenOut.{OpenOut}
use Rattle.call_read.specs.Reading.{Opens, read_call, Reads}
use Rattle.thm_calls.specs.Handles.{HandleOf}
use Rattle.thm_calls.specs.Named.{way_of, last_of}
use Rattle.thm_calls.proofs.Calls.{open_file, open_handle, read_file, read_bytes}
use Rattle.thm_calls.proofs.ReadsBack.{seek_inside, reads_given}
use Rattle.promises.specs.Work.{ReadsBack}
use Rattle.promises.proofs.Answered.{value_is}
use Rattle.promises.proofs.Files.{file_there}
use Rattle.limits.specs.Says.{says}

-- A handle of a file, z bytes in the blocks cs: a seek to any position in the file and a read from there.
module _ (M : Mount) (I : List ℕ) (w : WellFormed M I) (q : List Name) (n : Name) (z : ℕ) (cs : List Cell)
    (o : Occupied max_depth q n w.tree) (f : o.entry.node ≡ file z cs)
    (h : Handle) (a : HandleOf (blocks_at o.dir.1) n z cs h) where
  handle_whole : stale_fields h ≡ false
  unfolding read_refusal
  handle_whole =
      let r = (first_of_zero _ _ (read_file M I w q o.dir o.there n o.entry o.held z cs f h a 0)).1 in
      when-none 11 _ (omega arith) (first_of_zero _ _ (sym (first_of_one _) ∙ r)).0

  handle_reads : ReadsBack M I h z (contents z cs)
  unfolding read_call
  handle_reads i low s m rbuf out r b =
      let inside : i ≤ z = omega (arith, low) in
      let y = seek_inside h i s handle_whole (omega (arith, a.size, inside)) m in
      let at : HandleOf (blocks_at o.dir.1) n z cs (moved h i)
      = record { dir = a.dir; name = a.name; letters = a.letters; addr = a.addr; size = a.size; position = inside } in
      let c = subst (λ (g : Handle). Reads M I g rbuf out r) y.1 b in
      let d = reads_given _ (moved h i) r.handle _ rbuf out r.answer
      (read_file M I w q o.dir o.there n o.entry o.held z cs f (moved h i) at (length rbuf)) c in (
        ap says y.0,
        ap says d.0 ∙ ap (λ (k : ℕ). accepted (min (length rbuf) (k - i))) a.size,
        d.1 ∙ ap (splice rbuf 0) (read_bytes M I w q o.dir o.there n o.entry o.held z cs f (moved h i) at
            (length rbuf)),
      )

-- ---- open

-- Open of a file is accepted, with a handle of that file at position 0.
open_succeeds : (M : Mount) (I : List ℕ) (w : WellFormed M I) (cwd p : List ℕ) → bad_path cwd p ≡ false → (o : OpenOut)
    → Opens M I cwd p o
    → (z t : ℕ) (cs : List Cell) → file_at max_depth (way_of cwd p) (last_of cwd p) w.tree ≡ some (z, t, cs)
    → (x : Occupied max_depth (way_of cwd p) (last_of cwd p) w.tree) × (x.entry.node ≡ file z cs)
    × HandleOf (blocks_at x.dir.1) (last_of cwd p) z cs o.handle
open_succeeds M I w cwd p good o c z t cs f =
    let y = file_there max_depth (way_of cwd p) (last_of cwd p) w.tree z t cs f in
    let x = y.0 in
    let e = c.answer ∙ open_file M I w cwd p good x.dir x.there x.entry x.held z cs y.1 in
    let h = open_handle M I w cwd p good x.dir x.there x.entry x.held z cs y.1 in
    (x, y.1, subst (HandleOf (blocks_at x.dir.1) (last_of cwd p) z cs) (sym (value_is o.answer o.handle _ e)) h)

-- What is written is read through a later open too.
pub open_then_read : (M : Mount) (I : List ℕ) (w : WellFormed M I) (cwd p : List ℕ) → bad_path cwd p ≡ false
    → (z t : ℕ) (cs : List Cell)
    → file_at max_depth (way_of cwd p) (last_of cwd p) w.tree ≡ some (z, t, cs) → (o : OpenOut) → Opens M I cwd p o
    → ReadsBack M I o.handle z (contents z cs)
open_then_read M I w cwd p good z t cs f o c =
    let x = open_succeeds M I w cwd p good o c z t cs f in
    handle_reads M I w (way_of cwd p) (last_of cwd p) z cs x.0 x.1 o.handle x.2
