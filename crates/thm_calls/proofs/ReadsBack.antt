-- After an accepted write a seek and a read through the handle that it answered give the file's old bytes before the position, then what was written.
use mathlib.Core.Path.{◌≡◌, refl, sym, ap, ◌∙◌, subst}
use mathlib.Core.Bool.{false, not}
use mathlib.Core.Option.{some}
use mathlib.Core.List.{List, [], ◌++◌}
use Prim.Native.Nat.{ℕ, ◌+◌, ◌-◌, ◌^◌, ◌≤◌, ◌<◌, min}
use native.Mathlib.Omega.{arith}
use lib.ListN.{length, take, drop}
use lib.Seq.{length-take-le}
use borrow.Author.Tests.{le-leb}
use Rattle.wire.specs.Be.{splice}
use Rattle.model.specs.Tree.{Name, Cell, Tree, lookup, change, Some, find}
use Rattle.model.specs.Render.{blocks_at}
use Rattle.model.specs.Geometry.{Mount, Geo, block_size, geo_at}
use Rattle.model.specs.Volume.{WellFormed, max_depth}
use Rattle.model.specs.Calls.{DirAt, free_blocks, file_entry, contents, rewrite, rewritten, refiled, TreeWrites}
use Rattle.model.proofs.Areas.{size_large}
use Rattle.model.proofs.Contents.{contents-rewrite}
use Rattle.model.proofs.Opens.{passes, first_of_none}
use Rattle.limits.proofs.Numbers.{number_some}
use Rattle.handle.specs.declared.Handle.{Handle}
use Rattle.handle.specs.declared.SeekFrom.TheVariants.{Start}
use Rattle.handle.specs.declared.Sought.{Sought}
use Rattle.handle.specs.declared.CountedOut.{CountedOut}
use Rattle.handle.specs.Handles.{name_of, stale_fields, moved, target, seek_refusal}
use Rattle.file_read.specs.Read.{to_read, bytes_read}
use Rattle.handle.specs.Post.{MovedIs, SoughtIs}
use Rattle.file_read.specs.Post.{CountedIs}
use Rattle.write.specs.Writing.{grown_handle}
use Rattle.handle.specs.OnTree.{OnFile}
use Rattle.handle.proofs.Seeks.{fresh}
use Rattle.write.proofs.Targets.{accepted_is}
use Rattle.write.proofs.Renewed.{still_fresh, was_good, there_after, starts_after, held_after, from_after}
use Rattle.call_read.specs.Reading.{area_at, read_call, Reads}
use Rattle.call_change.specs.Changing.{Writes}
use Rattle.thm_calls.specs.Handles.{HandleOf}
use Rattle.thm_calls.proofs.Calls.{read_file, read_bytes}
use Rattle.thm_calls.proofs.Changing.{volume_at, write_passed, write_handle}
use Rattle.std.specs.Prelude.{Result, Ok, Err}
use Rattle.limits.specs.declared.Refusal.{Refusal}

-- ---- the file after a write

module _ (M : Mount) (I J : List ℕ) (w : WellFormed M I) (h : Handle) (now : ℕ) (buf : List ℕ) (q : List Name) (s : DirAt max_depth h.dir.0 q w.tree)
    (m : TreeWrites (geo_at M I) max_depth q (name_of h) now h.position buf w.tree I J) (on : OnFile max_depth w.tree h) where
  abbrev g : Geo
  g = geo_at M I

  -- the file's new size and blocks, and the new tree
  abbrev long : ℕ
  long = h.position + length buf

  abbrev es : List Cell
  es = rewrite (block_size g) (free_blocks g max_depth w.tree) h.position buf m.cells

  abbrev u : Tree max_depth
  u = rewritten max_depth q (name_of h) now long es w.tree

  -- what becomes of the file's directory
  abbrev dir' : Some
  dir' = (m.occupied.dir.0, change (name_of h) (λ x. refiled now long es x.name x.time x.node) m.occupied.dir.1)

  abbrev after : WellFormed M J
  after = record { numbers = geo_at M I; here = refl; tree = u; volume = m.makes.volume }

  there : find max_depth q u ≡ some dir'
  there = there_after g I J w.tree (volume_at M I w) h now buf q s m on

  held : lookup (name_of h) dir'.1 ≡ some (file_entry (name_of h) now long es)
  held = held_after g I J w.tree (volume_at M I w) h now buf q s m on

  -- The bytes of the file are the old ones before the position, then the buffer.
  pub bytes_written : contents long es ≡ take h.position (contents m.size m.cells) ++ buf
  bytes_written =
      contents-rewrite (block_size g) m.size h.position (free_blocks g max_depth w.tree) buf m.cells (omega (arith, size_large g))
      (was_good g I J w.tree (volume_at M I w) h now buf q s m on) m.position m.room

  module _ (name : length h.name ≡ 255) (few : h.len ≤ 255) (i : ℕ) (inside : i ≤ long) where
    abbrev at : Handle
    at = moved (grown_handle h (length buf)) i

    handle_of_lem : HandleOf (blocks_at dir'.1) (name_of h) long es at
    handle_of_lem =
        record {
          dir = sym (starts_after g I J w.tree (volume_at M I w) h now buf q s m on);
          name = refl;
          letters = sym (length-take-le h.len h.name (omega arith));
          addr = sym (from_after g I J w.tree (volume_at M I w) h now buf q s m on);
          size = refl;
          position = inside;
        }

    module _ (len : ℕ) where
      -- A read through the answered handle, moved to a position in the file, is accepted,
      reads_back : read_call M J (moved (grown_handle h (length buf)) i) len ≡ 0
      unfolding file_entry read_call
      reads_back = read_file M J after q dir' there (name_of h) (file_entry (name_of h) now long es) held long es refl at handle_of_lem len

      -- and gives those bytes from there on: as many as are asked for, or as there are.
      bytes_back : bytes_read (area_at M J) J (moved (grown_handle h (length buf)) i) len
          ≡ take (min len (h.position + length buf - i)) (drop i (take h.position (contents m.size m.cells) ++ buf))
      unfolding file_entry
      bytes_back =
          read_bytes M J after q dir' there (name_of h) (file_entry (name_of h) now long es) held long es refl at handle_of_lem len
          ∙ ap (λ (l : List ℕ). take (min len (long - i)) (drop i l)) bytes_written

-- ---- the calls

-- A read that is not refused counts its bytes and stores them.
pub reads_given : (k : ℕ) (h f : Handle) (vs l m : List ℕ) (c : Result ℕ Refusal) → k ≡ 0 → CountedIs k h f vs l m c → (c ≡ Ok (to_read h (length l))) × (m ≡ splice l 0 vs)
reads_given k h f vs l m (Ok j) z a = (ap Ok a.count, a.stored)
reads_given k h f vs l m (Err x) z a = absurd (omega (arith, a.refused, number_some x))

-- A seek from the start to a position in the file moves there.
pub seek_inside : (h : Handle) (i : ℕ) (r : Sought) → stale_fields h ≡ false → i ≤ h.size → SoughtIs h (Start i) r → (r.answer ≡ Ok tt) × (r.handle ≡ moved h i)
seek_inside h i r f b a = go r.answer a
  where
    none-refused : seek_refusal h (Start i) ≡ 0
    none-refused = unfold seek_refusal target in passes 11 _ f ∙ passes 12 [] (ap not (le-leb i h.size b)) ∙ first_of_none

    go : (c : Result (Unit {0}) Refusal) → MovedIs h (Start i) r.handle c → (c ≡ Ok tt) × (r.handle ≡ moved h i)
    go (Ok u) a = (refl, a.1 ∙ (unfold target in refl))
    go (Err x) a = absurd (omega (arith, a.0, none-refused, number_some x))

module _ (M : Mount) (I W : List ℕ) (h : Handle) (buf : List ℕ) (now : ℕ) (o : CountedOut) (J Z : List ℕ) (c : Writes M I W h buf now o J Z) (k : ℕ)
    (e : o.answer ≡ Ok k) (clock : now < 2 ^ 64) (name : length h.name ≡ 255) (w : WellFormed M I) (q : List Name)
    (s : DirAt max_depth h.dir.0 q w.tree) (m : TreeWrites (geo_at M I) max_depth q (name_of h) now h.position buf w.tree I J) (i : ℕ)
    (inside : i ≤ h.position + length buf) where
  -- After an accepted write a seek to any position of the file is accepted,
  pub write_seek : (r : Sought) → SoughtIs o.handle (Start i) r → (r.answer ≡ Ok tt) × (r.handle ≡ moved o.handle i)
  write_seek r a =
      let p = write_passed M I W h buf now o J Z c k e in
      let g : o.handle ≡ grown_handle h (length buf) = (write_handle M I W h buf now o J Z c k e).1 in
      seek_inside o.handle i r (ap stale_fields g ∙ still_fresh (geo_at M I) I w.tree (volume_at M I w) h buf now p.1 clock p.2) (omega (arith, ap (λ (x : Handle). x.size) g, inside)) a

  -- and a read from there gives the old bytes before the write's position, then the written ones.
  pub write_read : (rbuf out : List ℕ) (r : CountedOut) → Reads M J (moved o.handle i) rbuf out r
      → (r.answer ≡ Ok (min (length rbuf) (h.position + length buf - i)))
      × (out ≡ splice rbuf 0 (take (min (length rbuf) (h.position + length buf - i)) (drop i (take h.position (contents m.size m.cells) ++ buf))))
  write_read rbuf out r a =
      let p = write_passed M I W h buf now o J Z c k e in
      let g : o.handle ≡ grown_handle h (length buf) = (write_handle M I W h buf now o J Z c k e).1 in
      let t = (accepted_is (geo_at M I) I w.tree (volume_at M I w) h (length buf)).0 p.1 p.2 in
      let few : h.len ≤ 255 = (fresh h t.fields).few in
      let b : Reads M J (moved (grown_handle h (length buf)) i) rbuf out r = subst (λ (x : Handle). Reads M J (moved x i) rbuf out r) g a in
      let d = reads_given _ (moved (grown_handle h (length buf)) i) r.handle _ rbuf out r.answer (reads_back M I J w h now buf q s m t.on_file name few i inside (length rbuf)) b in
      (d.0, d.1 ∙ ap (splice rbuf 0) (bytes_back M I J w h now buf q s m t.on_file name few i inside (length rbuf)))
