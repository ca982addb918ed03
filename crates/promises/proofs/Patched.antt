-- What a patch keeps of the promises: it leaves what a write of its buffer and of the file's own bytes behind it leaves, so that its
-- promises are that write's; and it answers what the tree says.
use mathlib.Core.Path.{◌≡◌, refl, sym, ap, ◌∙◌, subst}
use mathlib.Core.Bool.{true, false, ◌||◌}
use mathlib.Core.Logic.{◌⊎◌, inl, inr}
use mathlib.Core.Option.{some}
use mathlib.Core.List.{List, [], ◌∷◌, ◌++◌}
use Prim.Native.Nat.{ℕ, ◌+◌, ◌-◌, ◌^◌, ◌≤◌, ◌<◌, min}
use native.Mathlib.Omega.{arith}
use lib.Dec.{ltb, eqb}
use lib.ListN.{length, take, drop}
use borrow.Author.Tests.{lt-ltb, le-ltb, eq-eqb, ne_eqb}
use Rattle.wire.specs.Be.{splice}
use Rattle.wire.proofs.Picks.{either, not_both}
use Rattle.model.specs.Answers.{Reply, accepted, refused, and_then, when, first_of, reply}
use Rattle.model.specs.Tree.{Name, Cell, Tree, Entry}
use Rattle.model.specs.Geometry.{Mount, Geo, block_size, geo_at}
use Rattle.model.specs.Volume.{WellFormed, max_depth, file_limit}
use Rattle.model.specs.Calls.{file_of, file_at, DirAt, file_entry, contents, places, TreeWrites, overlaid, TreePatches}
use Rattle.model.specs.Steps.{Bytes}
use Rattle.model.proofs.Areas.{size_large}
use Rattle.model.proofs.Contents.{file_written}
use Rattle.model.proofs.Lists.{then_some}
use Rattle.model.proofs.Opens.{or_false, false_or, refuses, passes, first_of_none, first_of_head, first_of_tail}
use Rattle.model.proofs.Replies.{given_none, and_then_no, reply-none, reply_suc}
use Rattle.check_bitmap.specs.Tally.{mark_long}
use Rattle.handle.specs.declared.Handle.{Handle}
use Rattle.handle.specs.declared.SeekFrom.TheVariants.{Start}
use Rattle.handle.specs.declared.Sought.{Sought}
use Rattle.handle.specs.declared.CountedOut.{CountedOut}
use Rattle.handle.specs.Handles.{name_of, stale_fields, moved}
use Rattle.handle.specs.OnTree.{OnFile, Lost, Stale}
use Rattle.handle.specs.Post.{SoughtIs}
use Rattle.write_store.proofs.Writes.{good_file}
use Rattle.write.specs.Writing.{Target, grown_handle, count_of}
use Rattle.patch_store.proofs.Tails.{overlaid-places, overlaid-contents}
use Rattle.patch.specs.Patching.{past_end, patch_target}
use Rattle.patch.specs.OnTree.{Patchable}
use Rattle.patch.proofs.Targets.{patch_cases, write_end}
use Rattle.call_read.specs.Reading.{Reads}
use Rattle.call_change.specs.Changing.{Writes}
use Rattle.call_patch.specs.Patches.{patch_reply, Patches}
use Rattle.thm_calls.proofs.Changing.{volume_at, tree_after, write_tree}
use Rattle.thm_calls.proofs.Patching.{patch_before, patch_on, patch_tree, patch_handle, patch_writes}
use Rattle.thm_calls.proofs.ReadsBack.{seek_inside, write_read}
use Rattle.promises.specs.Counter.{Untouched, Another}
use Rattle.promises.specs.Promises.{UsedTrue}
use Rattle.promises.specs.Refusals.{file_by, stale_by, patch_number}
use Rattle.promises.specs.Work.{FileOf, ReadsBack, over}
use Rattle.limits.proofs.Said.{said_ok}
use Rattle.promises.proofs.Checks.{long_passes}
use Rattle.promises.proofs.Counter.{current_again}
use Rattle.promises.proofs.Done.{file_of_lem}
use Rattle.promises.proofs.EitherOrder.{file_one}
use Rattle.promises.proofs.Files.{file_at_lem}
use Rattle.promises.proofs.Handles.{numbered, in_file}
use Rattle.promises.proofs.Kept.{write_others}
use Rattle.promises.proofs.Well.{written_well, write_used}
use Rattle.std.specs.Prelude.{Ok}
use Rattle.limits.specs.Says.{says}

-- ---- S1, S2: as after that write

module _ (M : Mount) (I W : List ℕ) (now : ℕ) (J Z : List ℕ) (b : Bytes I) (clock : now < 2 ^ 64) (h : Handle) (buf : List ℕ) (o : CountedOut) (k : ℕ)
    (c : Patches M I W h buf now o J Z) (e : says o.answer ≡ accepted k) where
  pub patched_well : WellFormed M J
  patched_well =
      let s = said_ok o.answer k e in
      let w = patch_before M I W h buf now o J Z c k b s in
      written_well M I W now J Z b clock h _ _ _ (patch_writes M I W h buf now o J Z c k w s) refl

  pub patch_used : UsedTrue M J
  patch_used =
      let s = said_ok o.answer k e in
      let w = patch_before M I W h buf now o J Z c k b s in
      write_used M I W now J Z b clock h _ _ _ (patch_writes M I W h buf now o J Z c k w s) refl

-- ---- S3

pub patch_others : (M : Mount) (I W : List ℕ) (h : Handle) (buf : List ℕ) (now : ℕ) (o : CountedOut) (J Z : List ℕ) → Patches M I W h buf now o J Z
    → (k : ℕ) → says o.answer ≡ accepted k → now < 2 ^ 64 → (w : WellFormed M I) (v : WellFormed M J) (q : List Name) (m : Name)
    → Another max_depth w.tree h q m → Untouched (block_size (geo_at M I)) max_depth w.tree v.tree I J q m
patch_others M I W h buf now o J Z c k e clock w v q m =
    write_others M I W h _ now _ J Z (patch_writes M I W h buf now o J Z c k w (said_ok o.answer k e)) _ refl clock w v q m

-- ---- S5

-- the file that a patch is on
pub file_patched : (g : Geo) (p : List Name) (n : Name) (now c : ℕ) (buf : List ℕ) (t : Tree max_depth) (I J : List ℕ) (m : TreePatches g max_depth p n now c buf t I J)
    → file_at max_depth p n t ≡ some (m.size, m.time, m.cells)
unfolding file_entry file_of
file_patched g p n now c buf t I J m =
    file_at_lem max_depth p n t m.occupied.dir m.occupied.there
    ∙ then_some (λ e. file_of e.time e.node) m.occupied.held
    ∙ ap (λ (e : Entry _). file_of e.time e.node) m.is_file

-- a handle moved in its file is as good as it was
moved_fresh : (h : Handle) (i : ℕ) → stale_fields h ≡ false → i ≤ h.size → stale_fields (moved h i) ≡ false
unfolding stale_fields
moved_fresh h i f l =
    false_or (le-ltb h.size i l)
    (or_false (ltb h.size h.position) (ltb file_limit h.size || (eqb h.len 0 || ltb 255 h.len)) f).1

module _ (M : Mount) (I W : List ℕ) (h : Handle) (buf : List ℕ) (now : ℕ) (o : CountedOut) (J Z : List ℕ) (c : Patches M I W h buf now o J Z) (k : ℕ)
    (said : says o.answer ≡ accepted k) (w : WellFormed M I) where
  counts : o.answer ≡ Ok k
  counts = said_ok o.answer k said

  abbrev able : Patchable max_depth w.tree h (length buf)
  able = patch_on M I W h buf now o J Z c k w counts

  abbrev on : OnFile max_depth w.tree h
  on = able.on_file

  -- The handle names a file, whose size it has,
  abbrev file_before : FileOf h w.tree
  file_before = record {
    path = on.path;
    there = on.there;
    size = h.size;
    time = on.file.time;
    cells = on.file.cells;
    file = in_file (geo_at M I) I w.tree (volume_at M I w) h on.path on.there on.file;
  }

  abbrev old : List ℕ
  old = contents h.size on.file.cells

  abbrev whole : List ℕ
  whole = buf ++ drop (h.position + length buf) (contents h.size on.file.cells)

  end : h.position + length whole ≡ h.size
  end = write_end (geo_at M I) I w.tree (volume_at M I w) h buf able

  as_write : Writes M I W h whole now (record { answer = Ok (length whole); handle = grown_handle h (length whole) }) J Z
  as_write = patch_writes M I W h buf now o J Z c k w counts

  module _ (clock : now < 2 ^ 64) where
    abbrev done : (q : List Name) × DirAt max_depth h.dir.0 q w.tree × TreeWrites (geo_at M I) max_depth q (name_of h) now h.position whole w.tree I J
    done = write_tree M I W h whole now _ J Z as_write (length whole) w clock refl

    same_bytes : contents done.2.size done.2.cells ≡ contents h.size on.file.cells
    same_bytes =
        let f : FileOf h w.tree = record {
          path = done.0;
          there = done.1;
          size = done.2.size;
          time = done.2.time;
          cells = done.2.cells;
          file = file_of_lem (geo_at M I) done.0 (name_of h) now h.position whole w.tree I J done.2;
        } in
        let e = file_one M I w h f file_before in
        λ j. contents (e.size j) (e.cells j)

    -- and a read through the handle that the patch answers, sent to i, is a read through that write's.
    read_at_lem : length h.name ≡ 255 → (i : ℕ) → i ≤ h.size → (s : Sought) → SoughtIs o.handle (Start i) s → (rbuf out : List ℕ) (r : CountedOut) → Reads M J s.handle rbuf out r
        → (says s.answer ≡ accepted tt) × (says r.answer ≡ accepted (min (length rbuf) (h.size - i)))
        × (out ≡ splice rbuf 0 (take (min (length rbuf) (h.size - i)) (drop i (over old h.position buf))))
    read_at_lem name i low s a rbuf out r b =
        let g : o.handle ≡ moved h (h.position + length buf) = (patch_handle M I W h buf now o J Z c k counts).1 in
        let f : stale_fields o.handle ≡ false = ap stale_fields g ∙ moved_fresh h (h.position + length buf) able.fields able.inside in
        let y = seek_inside o.handle i s f (omega (arith, low, ap (λ (x : Handle). x.size) g)) a in
        let to : s.handle ≡ moved (grown_handle h (length whole)) i
        = y.1 ∙ ap (λ (x : Handle). moved x i) g
        ∙ ap (λ (z : ℕ). let x : Handle = record { dir = h.dir; name = h.name; len = h.len; addr = h.addr; size = z; position = i } in x) (sym end) in
        let v = write_read M I W h whole now _ J Z as_write (length whole) refl clock name w done.0 done.1 done.2 i (omega (arith, low, end)) rbuf out r
        (subst (λ (x : Handle). Reads M J x rbuf out r) to b) in
        let long : h.position + length whole - i ≡ h.size - i = omega (arith, end) in (
          ap says y.0,
          ap says v.0 ∙ ap (λ (z : ℕ). accepted (min (length rbuf) z)) long,
          v.1 ∙ (λ j. splice rbuf 0 (take (min (length rbuf) (long j)) (drop i (take h.position (same_bytes j) ++ whole)))),
        )

    pub patch_then_read : length h.name ≡ 255
        → (f : FileOf h w.tree) × ReadsBack M J o.handle f.size (over (contents f.size f.cells) h.position buf)
    patch_then_read name = (file_before, λ i low s a rbuf out r b. read_at_lem name i (omega (arith, low)) s a rbuf out r b)

    -- It has its size, its blocks and the call's time, and the buffer over its bytes.
    pub patch_leaves : (v : WellFormed M J)
        → (f : FileOf h w.tree) × (es : List Cell)
        × (file_at max_depth f.path (name_of h) v.tree ≡ some (f.size, now, es)) × (places es ≡ places f.cells)
        × (contents f.size es ≡ over (contents f.size f.cells) h.position buf)
    patch_leaves v =
        let p = patch_tree M I W h buf now o J Z c k w clock counts in
        let m = p.2 in
        let B : ℕ = block_size (geo_at M I) in
        let five : 5 ≤ B = omega (arith, size_large (geo_at M I)) in
        let held = m.occupied.held ∙ ap some m.is_file in
        let good = good_file (geo_at M I) I max_depth w.tree (volume_at M I w) p.0 (name_of h) m.occupied.dir m.occupied.there m.time m.size m.cells held in
        let file = file_patched (geo_at M I) p.0 (name_of h) now h.position buf w.tree I J m in (
          record { path = p.0; there = p.1; size = m.size; time = m.time; cells = m.cells; file = file },
          overlaid B h.position buf m.cells,
          ap (file_at max_depth p.0 (name_of h)) (tree_after M I J w _ _ m.makes v)
              ∙ file_written max_depth p.0 (name_of h) now m.size m.time m.size m.cells _ w.tree file,
          overlaid-places B m.size m.cells five good h.position buf m.inside,
          overlaid-contents B m.size m.cells five good h.position buf m.inside,
        )

-- ---- D2

-- what the tree says of a handle's file
module _ (M : Mount) (I : List ℕ) (w : WellFormed M I) (h : Handle) (fields : stale_fields h ≡ false) where
  on_number : OnFile max_depth w.tree h → stale_by h (file_by h w.tree) ≡ 0
  on_number q = go (numbered (geo_at M I) I w.tree (volume_at M I w) h)
    where
      go : (OnFile max_depth w.tree h × (stale_by h (file_by h w.tree) ≡ 0)) ⊎ (Lost max_depth w.tree h × (stale_by h (file_by h w.tree) ≡ 11))
          → stale_by h (file_by h w.tree) ≡ 0
      go (inl n) = n.1
      go (inr n) = absurd (current_again M I w h fields q (inr n.0))

  lost_number : Lost max_depth w.tree h → stale_by h (file_by h w.tree) ≡ 11
  lost_number q = go (numbered (geo_at M I) I w.tree (volume_at M I w) h)
    where
      go : (OnFile max_depth w.tree h × (stale_by h (file_by h w.tree) ≡ 0)) ⊎ (Lost max_depth w.tree h × (stale_by h (file_by h w.tree) ≡ 11))
          → stale_by h (file_by h w.tree) ≡ 11
      go (inl n) = absurd (current_again M I w h fields n.0 (inr q))
      go (inr n) = n.1

module _ (M : Mount) (I W : List ℕ) (b : Bytes I) (w : WellFormed M I) (long : mark_long (geo_at M I) ≤ length W) (h : Handle) (buf : List ℕ) (now : ℕ) (o : CountedOut)
    (J Z : List ℕ) (c : Patches M I W h buf now o J Z) where
  abbrev len : ℕ
  len = length buf

  abbrev number : ℕ
  number = patch_number h (length buf) w.tree

  -- the answer by its number
  refused_as : (k : ℕ) → 1 ≤ k → number ≡ k → (r : Reply Target) → r ≡ refused k → and_then r (λ t. accepted (length buf)) ≡ reply number (length buf)
  refused_as k least e r q = and_then_no k (λ t. accepted (length buf)) q ∙ sym (ap (λ (j : ℕ). reply j (length buf)) e ∙ reply_suc k (length buf) least)

  accepted_as : (t : Target) → number ≡ 0 → and_then (accepted t) (λ t. accepted (length buf)) ≡ reply number (length buf)
  unfolding and_then
  accepted_as t e = sym (reply-none (length buf) e)

  stale_number : 1 ≤ length buf → Stale max_depth w.tree h → number ≡ 11
  unfolding patch_number
  stale_number least s = passes 13 _ (ne_eqb len 0 (λ e. omega (arith, e))) ∙ go s (either (stale_fields h))
    where
      go : Stale max_depth w.tree h → (stale_fields h ≡ true) ⊎ (stale_fields h ≡ false)
          → first_of (when 11 (stale_fields h) ∷ (stale_by h (file_by h w.tree) ∷ (when 19 (past_end h (length buf)) ∷ []))) ≡ 11
      go s (inl f) = refuses 11 _ (omega arith) f
      go (inl s) (inr f) = absurd (not_both s f)
      go (inr s) (inr f) = let n = lost_number M I w h f s in passes 11 _ f ∙ first_of_head _ _ (omega (arith, n)) ∙ n

  -- A patch is refused by 13, 11 and 19 just where the tree says, and else answers the buffer's length.
  pub patches : says o.answer ≡ reply (patch_number h (length buf) w.tree) (length buf)
  unfolding patch_reply count_of
  patches =
      c.answer
      ∙ ap (λ (r : Reply Target). and_then r (λ t. accepted (length buf))) (given_none (patch_target (geo_at M I) I h (length buf)) (long_passes M I W w long b))
      ∙ patch_cases (geo_at M I) I w.tree (volume_at M I w) h (length buf) (λ r. and_then r (λ t. accepted (length buf)) ≡ reply (patch_number h (length buf) w.tree) (length buf))
      (λ e. refused_as 13 (omega arith) (empty e) _ refl)
      (λ least s. refused_as 11 (omega arith) (stale_number least s) _ refl)
      (λ least f q l. refused_as 19 (omega arith) (past least f q l) _ refl)
      (λ a. accepted_as _ (good a))
    where
      empty : length buf ≡ 0 → number ≡ 13
      empty e = unfold patch_number in refuses 13 _ (omega arith) (eq-eqb (length buf) 0 e)

      past : 1 ≤ length buf → stale_fields h ≡ false → OnFile max_depth w.tree h → h.size < h.position + length buf → number ≡ 19
      past least f q l = unfold patch_number past_end in
          passes 13 _ (ne_eqb (length buf) 0 (λ e. omega (arith, e))) ∙ passes 11 _ f ∙ first_of_tail _ _ (on_number M I w h f q)
          ∙ refuses 19 [] (omega arith) (lt-ltb h.size (h.position + length buf) l)

      good : Patchable max_depth w.tree h (length buf) → number ≡ 0
      good a = unfold patch_number past_end in
          passes 13 _ (ne_eqb (length buf) 0 (λ e. omega (arith, e, a.some_bytes))) ∙ passes 11 _ a.fields ∙ first_of_tail _ _ (on_number M I w h a.fields a.on_file)
          ∙ passes 19 [] (le-ltb h.size (h.position + length buf) a.inside) ∙ first_of_none
