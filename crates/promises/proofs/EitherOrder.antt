-- S12: two writes to two different files leave the same in either order.
use mathlib.Core.Path.{◌≡◌, refl, sym, ap, ◌∙◌, subst}
use mathlib.Core.Option.{some}
use mathlib.Core.List.{List, ◌++◌}
use Prim.Native.Nat.{ℕ, ◌+◌, ◌^◌, ◌<◌}
use native.Mathlib.Omega.{arith}
use lib.ListN.{length, take}
use Rattle.model.specs.Answers.{accepted}
use Rattle.model.specs.Tree.{Name, Cell, Tree}
use Rattle.model.specs.Geometry.{Mount, block_size, geo_at, used_count}
use Rattle.model.specs.Volume.{WellFormed, max_depth, blocks_for}
use Rattle.model.specs.Calls.{file_at, DirAt, contents, TreeWrites}
use Rattle.model.proofs.Reached.{path_is}
use Rattle.handle.specs.declared.Handle.{Handle}
use Rattle.handle.specs.declared.CountedOut.{CountedOut}
use Rattle.handle.specs.Handles.{name_of}
use Rattle.write.specs.Writing.{grown_handle}
use Rattle.call_change.specs.Changing.{Writes}
use Rattle.thm_calls.proofs.Changing.{volume_at, tree_after, write_tree, write_handle}
use Rattle.promises.specs.Work.{FileOf}
use Rattle.promises.specs.EitherOrder.{InTurn, SameFile, EitherOrder}
use Rattle.limits.proofs.Said.{said_ok}
use Rattle.promises.proofs.Done.{file_of_lem, write_leaves}
use Rattle.promises.proofs.Kept.{write_others}
use Rattle.promises.proofs.Starts.{dir_stays}
use Rattle.promises.proofs.UsedMoves.{used_moves}
use Rattle.std.specs.Prelude.{Ok}
use Rattle.limits.specs.Says.{says}

-- ---- a handle names one file

same_some : {A : Type 0} (a b : A) → some a ≡ some b → a ≡ b
same_some a b e = cc

pub path_one : (M : Mount) (I : List ℕ) (w : WellFormed M I) (a : ℕ) (p q : List Name) → DirAt max_depth a p w.tree
    → DirAt max_depth a q w.tree → p ≡ q
path_one M I w a p q r s =
    let l = (volume_at M I w).laid in
    same_some p q (sym (path_is (geo_at M I) I max_depth w.tree _ a p l r) ∙ path_is (geo_at M I) I max_depth w.tree _ a q l s)

-- its path, its size, its blocks
pub record OneFile (p q : List Name) (z y : ℕ) (cs ds : List Cell) : Type 0 where
  pub path : p ≡ q
  pub size : z ≡ y
  pub cells : cs ≡ ds

pub file_one : (M : Mount) (I : List ℕ) (w : WellFormed M I) (h : Handle) (f g : FileOf h w.tree)
    → OneFile f.path g.path f.size g.size f.cells g.cells
file_one M I w h f g =
    let p : f.path ≡ g.path = path_one M I w h.dir.0 f.path g.path f.there g.there in
    let e : ◌≡◌ {A = ℕ × ℕ × List Cell} (f.size, f.time, f.cells) (g.size, g.time, g.cells)
    = same_some (f.size, f.time, f.cells) (g.size, g.time, g.cells)
    (sym f.file ∙ ap (λ (x : List Name). file_at max_depth x (name_of h) w.tree) p ∙ g.file) in
    record { path = p; size = ap (λ x. x.0) e; cells = ap (λ x. x.2) e }

-- ---- one accepted write

-- What it leaves of its file: the bytes before the position, then the buffer.
record Left (h : Handle) (buf : List ℕ) (now : ℕ) (p : List Name) (z : ℕ) (cs : List Cell) (u : Tree max_depth) : Type 0 where
  cells : List Cell
  is : file_at max_depth p (name_of h) u ≡ some (h.position + length buf, now, cells)
  bytes : contents (h.position + length buf) cells ≡ take h.position (contents z cs) ++ buf

-- The call and its answer.
record Accepted (M : Mount) (I : List ℕ) (h : Handle) (buf : List ℕ) (now : ℕ) (o : CountedOut) (J : List ℕ) : Type 0 where
  work : List ℕ
  after : List ℕ
  call : Writes M I work h buf now o J after
  count : ℕ
  said : says o.answer ≡ accepted count

module _ (M : Mount) (I : List ℕ) (h : Handle) (buf : List ℕ) (now : ℕ) (o : CountedOut) (J : List ℕ)
    (c : Accepted M I h buf now o J) (clock : now < 2 ^ 64) (w : WellFormed M I) where
  counts : o.answer ≡ Ok c.count
  counts = said_ok o.answer c.count c.said

  on : (q : List Name) × DirAt max_depth h.dir.0 q w.tree
      × TreeWrites (geo_at M I) max_depth q (name_of h) now h.position buf w.tree I J
  on = write_tree M I c.work h buf now o J c.after c.call c.count w clock counts

  well : WellFormed M J
  well = record { numbers = geo_at M I; here = refl; tree = _; volume = on.2.makes.volume }

  -- the answer
  answered : o ≡ record { answer = Ok (length buf); handle = grown_handle h (length buf) }
  answered =
      let a = write_handle M I c.work h buf now o J c.after c.call c.count counts in
      let e : o.answer ≡ Ok (length buf) = counts ∙ ap Ok a.0 in
      let g : o.handle ≡ grown_handle h (length buf) = a.1 in
      λ i. record { answer = e i; handle = g i }

  left : (f : FileOf h w.tree) → Left h buf now f.path f.size f.cells well.tree
  left f =
      let r = write_leaves M I c.work h buf now o J c.after c.call c.count c.said clock w well in
      let e = file_one M I w h r.0 f in
      record {
        cells = r.1;
        is = subst (λ (p : List Name). file_at max_depth p (name_of h) well.tree ≡ some (h.position + length buf, now, r.1))
            e.path r.2;
        bytes = r.3 ∙ ap (λ (l : List ℕ). take h.position l ++ buf) (λ i. contents (e.size i) (e.cells i));
      }

  used : (f : FileOf h w.tree) → used_count (geo_at M J) J + blocks_for (block_size (geo_at M I)) f.size
      ≡ used_count (geo_at M I) I + blocks_for (block_size (geo_at M I)) (h.position + length buf)
  used f =
      let m = on.2 in
      let g : FileOf h w.tree
      = record {
        path = on.0;
        there = on.1;
        size = m.size;
        time = m.time;
        cells = m.cells;
        file = file_of_lem (geo_at M I) on.0 (name_of h) now h.position buf w.tree I J m;
      } in
      ap (λ (z : ℕ). used_count (geo_at M J) J + blocks_for (block_size (geo_at M I)) z) (sym (file_one M I w h g f).size)
      ∙ used_moves M I J w on.0 (name_of h) now h.position buf m

  -- Another file stays, and a handle that names it names it still.
  kept : (f : FileOf h w.tree) (q : List Name) (m : Name) → (f.path ≡ q → name_of h ≡ m → ⊥)
      → file_at max_depth q m well.tree ≡ file_at max_depth q m w.tree
  kept f q m x =
      (write_others M I c.work h buf now o J c.after c.call c.count counts clock w well q m
      (λ y z. x (path_one M I w h.dir.0 f.path q f.there y) z)).same_file

  still : (f : FileOf h w.tree) (j : Handle) (g : FileOf j w.tree) → (f.path ≡ g.path → name_of h ≡ name_of j → ⊥)
      → FileOf j well.tree
  unfolding well
  still f j g x =
      record {
        path = g.path;
        there = subst (DirAt max_depth j.dir.0 g.path) (sym (tree_after M I J w _ _ on.2.makes well))
            (dir_stays max_depth j.dir.0 on.0 g.path (name_of h) now _ _ w.tree g.there);
        size = g.size;
        time = g.time;
        cells = g.cells;
        file = kept f g.path (name_of j) x ∙ g.file;
      }

-- ---- two accepted writes, one after the other

-- What they leave: a well-formed volume, both files, and the used count moved by the blocks of both.
record Both (M : Mount) (I : List ℕ) (t : Tree max_depth) (h : Handle) (x : List ℕ) (r : ℕ) (f : FileOf h t)
    (k : Handle) (y : List ℕ) (s : ℕ) (g : FileOf k t) (J : List ℕ) : Type 0 where
  end : WellFormed M J
  file₁ : Left h x r f.path f.size f.cells end.tree
  file₂ : Left k y s g.path g.size g.cells end.tree
  moved : used_count (geo_at M J) J + (blocks_for (block_size (geo_at M I)) f.size + blocks_for (block_size (geo_at M I)) g.size)
      ≡ used_count (geo_at M I) I
      + (blocks_for (block_size (geo_at M I)) (h.position + length x) + blocks_for (block_size (geo_at M I)) (k.position + length y))

module _ (M : Mount) (I : List ℕ) (w : WellFormed M I) (h k : Handle) (f : FileOf h w.tree) (g : FileOf k w.tree)
    (apart : f.path ≡ g.path → name_of h ≡ name_of k → ⊥) (x y : List ℕ) (r s : ℕ) (clock₁ : r < 2 ^ 64) (clock₂ : s < 2 ^ 64)
    (J : List ℕ) (a : InTurn M I h x r k y s J) where
  one : Accepted M I h x r a.first a.middle
  one = record { work = a.before₁; after = a.after₁; call = a.writes_first; count = a.count₁; said = a.accepts_first }

  two : Accepted M a.middle k y s a.second J
  two = record { work = a.before₂; after = a.after₂; call = a.writes_second; count = a.count₂; said = search a.accepts_second }

  between : WellFormed M a.middle
  between = well M I h x r a.first a.middle one clock₁ w

  later : FileOf k between.tree
  unfolding between
  later = still M I h x r a.first a.middle one clock₁ w f k g apart

  both : Both M I w.tree h x r f k y s g J
  unfolding between later still
  both =
      let l = left M I h x r a.first a.middle one clock₁ w f in
      let u = used M I h x r a.first a.middle one clock₁ w f in
      let v = used M a.middle k y s a.second J two clock₂ between later in
      record {
        end = well M a.middle k y s a.second J two clock₂ between;
        file₁ = record {
          cells = l.cells;
          is = kept M a.middle k y s a.second J two clock₂ between later f.path (name_of h) (λ e d. apart (sym e) (sym d))
              ∙ l.is;
          bytes = l.bytes;
        };
        file₂ = left M a.middle k y s a.second J two clock₂ between later;
        moved = omega (arith, u, v);
      }

  first_answered : a.first ≡ record { answer = Ok (length x); handle = grown_handle h (length x) }
  first_answered = answered M I h x r a.first a.middle one clock₁ w

  second_answered : a.second ≡ record { answer = Ok (length y); handle = grown_handle k (length y) }
  second_answered = answered M a.middle k y s a.second J two clock₂ between

-- ---- in either order

same_file : (h : Handle) (buf : List ℕ) (now : ℕ) (p : List Name) (z : ℕ) (cs : List Cell) (t u : Tree max_depth)
    → Left h buf now p z cs t → Left h buf now p z cs u → SameFile p (name_of h) t u
same_file h buf now p z cs t u a b =
    record {
      size = h.position + length buf;
      time = now;
      cells = a.cells;
      others = b.cells;
      in_one = a.is;
      in_other = search b.is;
      same_bytes = b.bytes ∙ sym a.bytes;
    }

pub either_order : EitherOrder
either_order =
    record {
      agree = λ M I w h k f g apart x y r s clock₁ clock₂ J L a b.
          let one = both M I w h k f g apart x y r s clock₁ clock₂ J a in
          let swapped : g.path ≡ f.path → name_of k ≡ name_of h → ⊥ = λ e d. apart (sym e) (sym d) in
          let other = both M I w k h g f swapped y x s r clock₂ clock₁ L b in (
            record {
              one = one.end;
              other = other.end;
              file₁ = same_file h x r f.path f.size f.cells _ _ one.file₁ other.file₂;
              file₂ = same_file k y s g.path g.size g.cells _ _ one.file₂ other.file₁;
              used = omega (arith, one.moved, other.moved);
            },
            second_answered M I w k h g f swapped y x s r clock₂ clock₁ L b
                ∙ sym (first_answered M I w h k f g apart x y r s clock₁ clock₂ J a),
            first_answered M I w k h g f swapped y x s r clock₂ clock₁ L b
                ∙ sym (second_answered M I w h k f g apart x y r s clock₁ clock₂ J a),
          );
    }
