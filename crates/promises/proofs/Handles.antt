-- D2: on a well-formed volume a write and a read answer what the tree says of their handle's file.
use mathlib.Core.Path.{◌≡◌, refl, sym, ap, ◌∙◌, subst}
use mathlib.Core.Bool.{true, false, not, ◌&&◌}
use mathlib.Core.Logic.{◌⊎◌, inl, inr}
use mathlib.Core.Option.{Option, none, some}
use mathlib.Core.List.{List, []}
use Prim.Native.Nat.{ℕ, ◌+◌, ◌-◌, ◌≤◌, ◌<◌}
use native.Mathlib.Omega.{arith}
use lib.Dec.{ltb, eqb}
use lib.ListN.{length}
use lib.Seq.{length-take-le}
use borrow.Author.Tests.{eqb-true, eqb-false, eq-eqb, ltb-true, ltb-false}
use Rattle.wire.specs.Be.{splice}
use Rattle.wire.proofs.Picks.{either, not_both, and_both, both_and}
use Rattle.model.specs.Answers.{Reply, accepted, refused, and_then, when, reply, settle}
use Rattle.model.specs.Tree.{Name, Cell, Node, file, Below, Tree, Some}
use Rattle.model.specs.Render.{cells_at, blocks_at}
use Rattle.model.specs.Geometry.{Mount, Geo, block_size, geo_at}
use Rattle.model.specs.Volume.{blocks_for, file_limit, GoodBelow, Volume, WellFormed, max_depth}
use Rattle.model.specs.Calls.{Occupied, file_of, file_at, DirAt, path_to, free_blocks, file_entry}
use Rattle.model.specs.Steps.{Bytes}
use Rattle.model.proofs.Full.{good_lookup, good_find}
use Rattle.model.proofs.Lists.{not_some, then_some, then-none}
use Rattle.model.proofs.OneVolume.{well_formed_opens}
use Rattle.model.proofs.Opens.{when_true, when_false, refuses, passes, first_of_none, first_of_one, first_of_head, first_of_tail}
use Rattle.model.proofs.Reached.{path_found, path_is}
use Rattle.model.proofs.Replies.{given_none, and_then_ok, and_then_no, reply-none, reply_suc, settle-none, settle_suc}
use Rattle.limits.proofs.Numbers.{number_some}
use Rattle.check_bitmap.specs.Tally.{mark_long}
use Rattle.thm_path.proofs.Resolves.{lookup_name}
use Rattle.handle.specs.declared.Handle.{Handle}
use Rattle.handle.specs.declared.CountedOut.{CountedOut}
use Rattle.handle.specs.Handles.{name_of, stale_fields, moved}
use Rattle.file_read.specs.Read.{to_read, read_refusal, bytes_read}
use Rattle.file_read.specs.Post.{CountedIs}
use Rattle.write.specs.Writing.{Target, too_long, blocks_to_add, target_of, count_of}
use Rattle.handle.specs.OnTree.{FileIn, OnFile, Lost}
use Rattle.write.specs.OnTree.{to_add}
use Rattle.handle.proofs.Seeks.{fresh}
use Rattle.write.proofs.Aims.{aim_empty}
use Rattle.write.proofs.Targets.{accepted_is, no_room_lem, stale_is, long_is}
use Rattle.call_read.specs.Reading.{area_at, read_call, Reads}
use Rattle.call_change.specs.Changing.{write_reply, Writes}
use Rattle.thm_calls.specs.Handles.{HandleOf}
use Rattle.thm_calls.proofs.Calls.{read_file, read_bytes}
use Rattle.thm_calls.proofs.FileReads.{FileThere, handle_or}
use Rattle.thm_calls.proofs.Changing.{volume_at}
use Rattle.promises.specs.Refusals.{file_by, stale_by, read_number, bytes_from, write_number}
use Rattle.promises.proofs.Files.{file_at_lem, file_there}
use Rattle.promises.proofs.Checks.{long_passes}
use Rattle.std.specs.Prelude.{Result, Ok, Err}
use Rattle.limits.specs.Says.{says}
use Rattle.limits.specs.declared.Refusal.{Refusal}

-- ---- the file that a handle names

one_file : (f j : ℕ × ℕ × List Cell) → some f ≡ some j → f ≡ j
one_file f j e = cc

one_dir : (s r : Some) → some s ≡ some r → s ≡ r
one_dir s r e = cc

module _ (g : Geo) (I : List ℕ) (t : Tree max_depth) (v : Volume g I max_depth t) (h : Handle) where
  abbrev pub Numbered : Type 0
  Numbered = (OnFile max_depth t h × (stale_by h (file_by h t) ≡ 0)) ⊎ (Lost max_depth t h × (stale_by h (file_by h t) ≡ 11))

  -- a handle whose directory has its file
  pub in_file : (q : List Name) (s : DirAt max_depth h.dir.0 q t) (f : FileIn h s.dir)
      → file_at max_depth q (name_of h) t ≡ some (h.size, f.time, f.cells)
  unfolding file_entry file_of
  in_file q s f = file_at_lem max_depth q (name_of h) t s.dir s.there ∙ then_some (λ e. file_of e.time e.node) f.held

  by_path : (q : List Name) → path_to max_depth h.dir.0 t ≡ some q → file_by h t ≡ file_at max_depth q (name_of h) t
  unfolding file_by
  by_path q e = then_some (λ (p : List Name). file_at max_depth p (name_of h) t) e

  by_none : path_to max_depth h.dir.0 t ≡ none → file_by h t ≡ none
  unfolding file_by
  by_none e = then-none (λ (p : List Name). file_at max_depth p (name_of h) t) e

  -- the file's size and first address are the handle's, or they are not
  stale_some : (f : ℕ × ℕ × List Cell) → (eqb f.0 h.size && eqb (cells_at f.2) h.addr.0) ≡ true
      → stale_by h (some f) ≡ 0
  unfolding stale_by
  stale_some f e = when_false 11 (ap not e)

  stale_other : (f : ℕ × ℕ × List Cell) → (eqb f.0 h.size && eqb (cells_at f.2) h.addr.0) ≡ false
      → stale_by h (some f) ≡ 11
  unfolding stale_by
  stale_other f e = when_true 11 (ap not e)

  stale_none : stale_by h none ≡ 11
  unfolding stale_by
  stale_none = refl

  pub file_entry_lem : (q : List Name) (z k : ℕ) (cs : List Cell) → file_at max_depth q (name_of h) t ≡ some (z, k, cs)
      → (o : Occupied max_depth q (name_of h) t)
      → o.entry.node ≡ file z cs → z ≡ h.size → o.entry ≡ file_entry (name_of h) o.entry.time h.size cs
  unfolding file_entry
  file_entry_lem q z k cs f o n e =
      let m : o.entry.name ≡ name_of h = sym (lookup_name (name_of h) o.dir.1 o.entry o.held) in
      let x : o.entry.node ≡ file h.size cs = n ∙ ap (λ (y : ℕ). file y cs) e in
      λ i. record { name = m i; time = o.entry.time; node = x i }

  pub numbered : Numbered
  numbered = go (path_to max_depth h.dir.0 t) refl
    where
      by : (q : List Name) → file_by h t ≡ file_at max_depth q (name_of h) t → (s : DirAt max_depth h.dir.0 q t)
          → (o : Option (ℕ × ℕ × List Cell))
          → file_at max_depth q (name_of h) t ≡ o → Numbered
      by q e s none f = inr (
        inr (q, s, λ (i : FileIn h s.dir). not_some f (in_file q s i)),
        ap (stale_by h) (e ∙ f)
            ∙ stale_none,
      )
      by q e s (some x) f = at_file (either (eqb x.0 h.size && eqb (cells_at x.2) h.addr.0))
        where
          at_file : ((eqb x.0 h.size && eqb (cells_at x.2) h.addr.0) ≡ true)
              ⊎ ((eqb x.0 h.size && eqb (cells_at x.2) h.addr.0) ≡ false) → Numbered
          at_file (inl c) =
              let r = and_both (eqb x.0 h.size) (eqb (cells_at x.2) h.addr.0) c in
              let o = file_there max_depth q (name_of h) t x.0 x.1 x.2 f in
              let d : o.0.dir ≡ s.dir = one_dir o.0.dir s.dir (sym o.0.there ∙ s.there) in
              let there : DirAt max_depth h.dir.0 q t
              = record { dir = o.0.dir; there = o.0.there; starts = ap (λ (y : Some). blocks_at y.1) d ∙ s.starts } in
              let m : FileIn h o.0.dir = record {
                time = o.0.entry.time;
                cells = x.2;
                held = o.0.held ∙ ap some (file_entry_lem q x.0 x.1 x.2 f o.0 o.1
                    (eqb-true x.0 h.size r.0));
                starts = eqb-true (cells_at x.2) h.addr.0 r.1;
              } in
              inl (record { path = q; there = there; file = m }, ap (stale_by h) (e ∙ f) ∙ stale_some x c)
          at_file (inr c) =
              let gone : FileIn h s.dir → ⊥ = λ (i : FileIn h s.dir).
              let y : x ≡ (h.size, i.time, i.cells) = one_file x (h.size, i.time, i.cells) (sym f ∙ in_file q s i) in
              let a : x.0 ≡ h.size = ap (λ (j : ℕ × ℕ × List Cell). j.0) y in
              let b : cells_at x.2 ≡ h.addr.0 = ap (λ (j : ℕ × ℕ × List Cell). cells_at j.2) y ∙ i.starts in
              not_both (both_and (eq-eqb x.0 h.size a) (eq-eqb (cells_at x.2) h.addr.0 b)) c in
              inr (inr (q, s, gone), ap (stale_by h) (e ∙ f) ∙ stale_other x c)

      go : (o : Option (List Name)) → path_to max_depth h.dir.0 t ≡ o → Numbered
      go none e = inr (inl e, ap (stale_by h) (by_none e) ∙ stale_none)
      go (some q) e = by q (by_path q e) (path_found (block_size g) max_depth h.dir.0 t q v.laid.good e)
          (file_at max_depth q (name_of h) t) refl

  -- ---- a write of len bytes

  module _ (len : ℕ) where
    -- the target and the number agree
    abbrev Agreed : Type 0
    Agreed = ((k : ℕ) × (target_of g I h len ≡ refused k) × (write_number g h len t ≡ k) × (1 ≤ k))
        ⊎ ((x : Target) × (target_of g I h len ≡ accepted x) × (write_number g h len t ≡ 0))

    abbrev few : ℕ
    few = when 9 (ltb (length (free_blocks g max_depth t)) (blocks_to_add (block_size g) h len))

    adds_is : (q : OnFile max_depth t h) → blocks_to_add (block_size g) h len ≡ to_add (block_size g) max_depth t h len q
    unfolding blocks_to_add file_entry
    adds_is q =
        let good = (good_lookup (block_size g) (GoodBelow (block_size g) q.there.dir.0) (name_of h) q.there.dir.1 _
        (good_find (block_size g) max_depth q.path t q.there.dir v.laid.good q.there.there) q.file.held).below in
        ap (λ (k : ℕ). blocks_for (block_size g) (h.position + len) - k) (sym good.long)

    agreed : Agreed
    unfolding write_number
    agreed = go (either (eqb len 0)) (either (stale_fields h)) numbered
      where
        last : (1 ≤ len) → eqb len 0 ≡ false → stale_fields h ≡ false → (q : OnFile max_depth t h) → stale_by h (file_by h t) ≡ 0
            → too_long h len ≡ false
            → (ltb (length (free_blocks g max_depth t)) (blocks_to_add (block_size g) h len) ≡ true)
            ⊎ (ltb (length (free_blocks g max_depth t)) (blocks_to_add (block_size g) h len) ≡ false) → Agreed
        last b a c q z l (inl m) =
            let limit : h.position + len ≤ file_limit = ltb-false file_limit (h.position + len) (unfold too_long in l) in
            let f : length (free_blocks g max_depth t) < to_add (block_size g) max_depth t h len q
            = omega (arith, ltb-true (length (free_blocks g max_depth t)) (blocks_to_add (block_size g) h len) m, adds_is q) in
            inl (
              9,
              (no_room_lem g I t v h len).1 (record { some_bytes = b; fields = c; on_file = q; limit = limit; few = f }),
              passes 13 _ a ∙ passes 11 _ c ∙ first_of_tail _ _ z ∙ passes 10 _ l ∙ refuses 9 [] (omega arith) m,
              omega arith,
            )
        last b a c q z l (inr m) =
            let limit : h.position + len ≤ file_limit = ltb-false file_limit (h.position + len) (unfold too_long in l) in
            let f : to_add (block_size g) max_depth t h len q ≤ length (free_blocks g max_depth t)
            = omega (arith, ltb-false (length (free_blocks g max_depth t)) (blocks_to_add (block_size g) h len) m, adds_is q) in
            let x = (accepted_is g I t v h len).1
            (record { some_bytes = b; fields = c; on_file = q; limit = limit; enough = f }) in
            inr (x.0, x.1, passes 13 _ a ∙ passes 11 _ c ∙ first_of_tail _ _ z ∙ passes 10 _ l ∙ passes 9 [] m ∙ first_of_none)

        on_file : (1 ≤ len) → eqb len 0 ≡ false → stale_fields h ≡ false → (q : OnFile max_depth t h) → stale_by h (file_by h t) ≡ 0
            → (too_long h len ≡ true) ⊎ (too_long h len ≡ false) → Agreed
        on_file b a c q z (inl l) =
            inl (
              10,
              (long_is g I t v h len).1 (b, c, q, ltb-true file_limit (h.position + len) (unfold too_long in l)),
              passes 13 _ a ∙ passes 11 _ c ∙ first_of_tail _ _ z ∙ refuses 10 _ (omega arith) l,
              omega arith,
            )
        on_file b a c q z (inr l) = last b a c q z l
            (either (ltb (length (free_blocks g max_depth t)) (blocks_to_add (block_size g) h len)))

        some_len : eqb len 0 ≡ false → 1 ≤ len
        some_len a = let z : len ≡ 0 → ⊥ = eqb-false len 0 a in omega arith

        go : (eqb len 0 ≡ true) ⊎ (eqb len 0 ≡ false) → (stale_fields h ≡ true) ⊎ (stale_fields h ≡ false) → Numbered → Agreed
        go (inl a) c n = inl (13, sym (aim_empty g I h len (eqb-true len 0 a)), refuses 13 _ (omega arith) a, omega arith)
        go (inr a) (inl c) n = inl (
          11,
          (stale_is g I t v h len (some_len a)).1 (inl c),
          passes 13 _ a
              ∙ refuses 11 _ (omega arith) c,
          omega arith,
        )
        go (inr a) (inr c) (inr n) =
            inl (
              11,
              (stale_is g I t v h len (some_len a)).1 (inr n.0),
              passes 13 _ a ∙ passes 11 _ c
                  ∙ first_of_head _ _ (omega (arith, n.1)) ∙ n.1,
              omega arith,
            )
        go (inr a) (inr c) (inl n) = on_file (some_len a) a c n.0 n.1 (either (too_long h len))

module _ (M : Mount) (I W : List ℕ) (b : Bytes I) (w : WellFormed M I) (long : mark_long (geo_at M I) ≤ length W) (h : Handle)
    (buf : List ℕ) (now : ℕ) (o : CountedOut)
    (J Z : List ℕ) (c : Writes M I W h buf now o J Z) where
  -- the check passes
  pub write_says : says o.answer ≡ and_then (target_of (geo_at M I) I h (length buf)) (λ t. accepted (length buf))
  unfolding write_reply count_of
  write_says =
      c.answer
      ∙ ap (λ (r : Reply Target). and_then r (λ t. accepted (length buf)))
      (given_none (target_of (geo_at M I) I h (length buf)) (long_passes M I W w long b))

  -- A write is refused by 13, 11, 10 and 9 just where the tree says, and else answers the buffer's length.
  pub writes : says o.answer ≡ reply (write_number (geo_at M I) h (length buf) w.tree) (length buf)
  writes = write_says ∙ go (agreed (geo_at M I) I w.tree (volume_at M I w) h (length buf))
    where
      go : Agreed (geo_at M I) I w.tree (volume_at M I w) h (length buf)
          → and_then (target_of (geo_at M I) I h (length buf)) (λ t. accepted (length buf)) ≡ reply
          (write_number (geo_at M I) h (length buf) w.tree) (length buf)
      go (inl a) =
          and_then_no a.0 (λ t. accepted (length buf)) a.1
          ∙ sym (ap (λ (k : ℕ). reply k (length buf)) a.2 ∙ reply_suc a.0 (length buf) a.3)
      go (inr a) = and_then_ok a.0 (λ t. accepted (length buf)) a.1 ∙ sym (reply-none (length buf) a.2)

-- ---- a read

-- what a read says by its number, which is 0 for none
module _ (h f : Handle) (vs l m : List ℕ) where
  abbrev Counts : ℕ → Result ℕ Refusal → Type 0
  Counts k c = (says c ≡ reply k (to_read h (length l))) × (f ≡ settle k (moved h (h.position + to_read h (length l))) h)
      × (m ≡ settle k (splice l 0 vs) l)

  counts : (k : ℕ) (c : Result ℕ Refusal) → CountedIs k h f vs l m c → Counts k c
  counts k (Ok j) a = (
    ap accepted a.count ∙ sym (reply-none (to_read h (length l)) a.good),
    a.handle ∙ ap (λ (i : ℕ). moved h (h.position + i)) a.count ∙ sym (settle-none _ h a.good),
    a.stored ∙ sym (settle-none _ l a.good),
  )
  counts k (Err x) a =
      let some_number : 1 ≤ k = omega (arith, a.refused, number_some x) in (
        ap refused (sym a.refused) ∙ sym (reply_suc k (to_read h (length l)) some_number),
        a.handle ∙ sym (settle_suc k _ h some_number),
        a.kept ∙ sym (settle_suc k _ l some_number),
      )

module _ (M : Mount) (I : List ℕ) (w : WellFormed M I) (h : Handle) (q : List Name) (s : DirAt max_depth h.dir.0 q w.tree)
    (long : length h.name ≡ 255) where
  abbrev file_bytes : ℕ → List ℕ
  file_bytes len = bytes_from h.position len (file_by h w.tree)

  -- the read's number and bytes are the tree's
  abbrev Shown : ℕ → Type 0
  Shown len = ((read_call M I h len ≡ 0) × (read_number h w.tree ≡ 0)
      × (bytes_read (area_at M I) I h len ≡ file_bytes len))
      ⊎ ((read_call M I h len ≡ 11) × (read_number h w.tree ≡ 11))

  -- 1, 2 and 3 are not given
  call_is : (len : ℕ) → read_call M I h len ≡ read_refusal (area_at M I) I h len
  unfolding read_call
  call_is len = first_of_tail _ _ (well_formed_opens M I w) ∙ first_of_one _

  on_file : stale_fields h ≡ false → (f : OnFile max_depth w.tree h) → stale_by h (file_by h w.tree) ≡ 0 → (len : ℕ) → Shown len
  unfolding file_entry read_call read_number bytes_from
  on_file a f z len =
      let c = fresh h a in
      let o : HandleOf (blocks_at f.there.dir.1) (name_of h) h.size f.file.cells h = record {
        dir = sym f.there.starts;
        name = refl;
        letters = sym (length-take-le h.len h.name (omega (arith, c.few)));
        addr = sym f.file.starts;
        size = refl;
        position = c.place;
      } in
      let e : file_by h w.tree ≡ some (h.size, f.file.time, f.file.cells)
      = by_path (geo_at M I) I w.tree (volume_at M I w) h f.path
      (path_is (geo_at M I) I max_depth w.tree _ h.dir.0 f.path (volume_at M I w).laid f.there)
      ∙ in_file (geo_at M I) I w.tree (volume_at M I w) h f.path f.there f.file in
      inl (
        read_file M I w f.path f.there.dir f.there.there (name_of h) _ f.file.held h.size
            f.file.cells refl h o len,
        passes 11 _ a ∙ first_of_one _ ∙ z,
        read_bytes M I w f.path f.there.dir f.there.there (name_of h) _ f.file.held h.size
            f.file.cells refl h o len
            ∙ ap (bytes_from h.position len) (sym e),
      )

  -- a file that is there is the handle's
  not_stale : FileThere s.dir h → stale_by h (file_by h w.tree) ≡ 0
  unfolding file_of
  not_stale x =
      let p = path_is (geo_at M I) I max_depth w.tree _ h.dir.0 q (volume_at M I w).laid s in
      let e : file_by h w.tree ≡ some (h.size, x.0.time, x.1)
      = by_path (geo_at M I) I w.tree (volume_at M I w) h q p ∙ file_at_lem max_depth q (name_of h) w.tree s.dir s.there
      ∙ then_some (λ e. file_of e.time e.node) x.2
      ∙ ap (λ (n : Node (Below s.dir.0)). file_of x.0.time n) x.3 in
      ap (stale_by h) e ∙ stale_some (geo_at M I) I w.tree (volume_at M I w) h (h.size, x.0.time, x.1)
      (both_and (eq-eqb h.size h.size refl) (eq-eqb (cells_at x.1) h.addr.0 (sym x.4.addr)))

  shown : (len : ℕ) → Shown len
  unfolding read_number read_refusal
  shown len = go (either (stale_fields h)) (numbered (geo_at M I) I w.tree (volume_at M I w) h)
    where
      lost : stale_fields h ≡ false → stale_by h (file_by h w.tree) ≡ 11
          → FileThere s.dir h ⊎ ((len : ℕ) → read_refusal (area_at M I) I h len ≡ 11) → Shown len
      lost a e (inl x) = absurd (omega (arith, e, not_stale x))
      lost a e (inr r) = inr (call_is len ∙ r len, passes 11 _ a ∙ first_of_one _ ∙ e)

      go : (stale_fields h ≡ true) ⊎ (stale_fields h ≡ false) → Numbered (geo_at M I) I w.tree (volume_at M I w) h → Shown len
      go (inl a) n = inr (call_is len ∙ refuses 11 _ (omega arith) a, refuses 11 _ (omega arith) a)
      go (inr a) (inl n) = on_file a n.0 n.1 len
      go (inr a) (inr n) = lost a n.1
          (handle_or (geo_at M I) I max_depth w.tree _ q s.dir h (volume_at M I w).laid s.there long (sym s.starts))

  -- A read is refused by 11 just where the tree says, and else gives the file's bytes from the position on.
  pub reads : (buf out : List ℕ) (o : CountedOut) → Reads M I h buf out o
      → (says o.answer ≡ reply (read_number h w.tree) (to_read h (length buf)))
      × (o.handle ≡ settle (read_number h w.tree) (moved h (h.position + to_read h (length buf))) h)
      × (out ≡ settle (read_number h w.tree) (splice buf 0 (bytes_from h.position (length buf) (file_by h w.tree))) buf)
  reads buf out o c = go (shown (length buf)) (counts h o.handle vs buf out (read_call M I h (length buf)) o.answer c)
    where
      vs : List ℕ
      vs = bytes_read (area_at M I) I h (length buf)

      Gives : List ℕ → ℕ → Type 0
      Gives bs k =
          (says o.answer ≡ reply k (to_read h (length buf)))
          × (o.handle ≡ settle k (moved h (h.position + to_read h (length buf))) h)
          × (out ≡ settle k (splice buf 0 bs) buf)

      go : Shown (length buf) → Counts h o.handle vs buf out (read_call M I h (length buf)) o.answer
          → Gives (file_bytes (length buf)) (read_number h w.tree)
      go (inl a) d =
          let e : read_call M I h (length buf) ≡ read_number h w.tree = a.0 ∙ sym a.1 in
          subst (Gives (file_bytes (length buf))) e (subst (λ (b : List ℕ). Gives b (read_call M I h (length buf))) a.2 d)
      go (inr a) d = (
        d.0 ∙ ap (λ (k : ℕ). reply k (to_read h (length buf))) (a.0 ∙ sym a.1),
        d.1 ∙ ap (λ (k : ℕ). settle k (moved h (h.position + to_read h (length buf))) h) (a.0 ∙ sym a.1),
        d.2 ∙ ap (λ (k : ℕ). settle k (splice buf 0 vs) buf) a.0 ∙ settle_suc 11 _ buf (omega arith)
            ∙ sym (ap (λ (k : ℕ). settle k (splice buf 0 (file_bytes (length buf))) buf) a.1
            ∙ settle_suc 11 _ buf (omega arith)),
      )
