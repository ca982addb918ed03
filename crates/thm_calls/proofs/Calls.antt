-- On a well-formed image the public reading calls answer as the tree says.
use mathlib.Core.Path.{◌≡◌, refl, sym, ap, ◌∙◌, subst}
use mathlib.Core.Bool.{false}
use mathlib.Core.Logic.{◌⊎◌, inl, inr}
use mathlib.Core.Option.{none, some}
use mathlib.Core.List.{List, [], ◌∷◌}
use Prim.Native.Nat.{ℕ, ◌+◌, ◌-◌, ◌<◌, min}
use native.Mathlib.Nat.{zero-add}
use native.Mathlib.Omega.{arith}
use lib.ListN.{length, take, drop}
use lib.Seq.{take-append_seam}
use Rattle.wire.specs.Pick.{same}
use Rattle.wire.proofs.Picks.{pick_true, pick_false, same_refl}
use Rattle.model.specs.Answers.{Reply, accepted, refused, and_then, first_of, given}
use Rattle.model.specs.Tree.{Name, Cell, Node, file, device, sub, Entry, Below, entries_of, Absent, lookup, sum, Some, find}
use Rattle.model.specs.Render.{blocks_at, padded, address_of, size_of}
use Rattle.model.specs.Geometry.{Mount, Geo, data_at, set_bits, geo_at, open_refusal}
use Rattle.model.specs.Volume.{GoodNode, GoodBelow, Laid, WellFormed, max_depth}
use Rattle.model.specs.Calls.{contents}
use Rattle.model.proofs.Full.{good_lookup, good_find}
use Rattle.model.proofs.Lists.{not_some}
use Rattle.model.proofs.OneVolume.{well_formed_opens, well_formed_geo}
use Rattle.model.proofs.Opens.{when_false, first_of_tail, first_of_one}
use Rattle.dir_entry.specs.declared.Kind.TheVariants.{Dir}
use Rattle.dir_entry.specs.Shown.{kind_is, head_of}
use Rattle.read_dir.specs.Walk.{Walk, walk}
use Rattle.read_dir.specs.Finds.{sum_from, skip, list_from, records_from}
use Rattle.path.specs.Path.{slash, real_path, bad_path}
use Rattle.path.proofs.FullPaths.{root_good}
use Rattle.dir.specs.Resolve.{Held, held, on_name, entry_of, open_dir}
use Rattle.handle.specs.declared.Handle.{Handle}
use Rattle.file_read.specs.Read.{read_refusal, bytes_read}
use Rattle.call_read.specs.Reading.{path_call, size, area_at, handle_for, open_entry, open_on, open_reply, about, about_entry, about_root, info_on, info_reply, counts_of, list_on, list_reply, records_at, records_on}
use Rattle.call_read.proofs.Opening.{entry_dir, entry_device, entry_file}
use Rattle.model.proofs.Replies.{given_none}
use Rattle.thm_walk.specs.Shown.{walk_of}
use Rattle.thm_walk.proofs.Walks.{walk_is}
use Rattle.thm_path.specs.Shown.{way_to}
use Rattle.thm_calls.specs.Handles.{HandleOf}
use Rattle.thm_calls.specs.Named.{way_of, last_of, all_of, LeadsTo, view_at, head_at, records_long, records_of, listed_from}
use Rattle.thm_path.proofs.Finds.{sum_is}
use Rattle.thm_path.proofs.Resolves.{lookup_name, Agree, leads, stops, way_agrees, starts, resolve_way, resolve_is, entry_is, entry_missing, entry_stops}
use Rattle.thm_calls.proofs.Listings.{listed_all, dir_counts, dir_records}
use Rattle.thm_calls.proofs.FileReads.{read_accepted, read_is}

-- ---- the volume

module _ (M : Mount) (I : List ℕ) (w : WellFormed M I) where
  -- the used count
  abbrev taken : ℕ
  taken = data_at w.numbers + set_bits I w.numbers

  -- the tree is laid out by the numbers that the superblock says
  laid_at : Laid (geo_at M I) I max_depth w.tree taken
  laid_at = subst (λ (g : Geo). Laid g I max_depth w.tree taken) (well_formed_geo M I w) w.volume.laid

-- ---- a call with a good path

name_none : {A : Type 0} (n : Name) (r : Reply A) → n ≡ [] → on_name n r ≡ refused 5
name_none [] r e = refl
name_none (c ∷ n) r e = let k : length (c ∷ n) ≡ 0 = ap length e in absurd (omega arith)

name_or : {A : Type 0} (n : Name) (k : ℕ) → (k ≡ 5) ⊎ (k ≡ 6) → (◌≡◌ {A = Reply A} (on_name n (refused k)) (refused 5)) ⊎ (◌≡◌ {A = Reply A} (on_name n (refused k)) (refused 6))
name_or [] k h = inl refl
name_or (c ∷ n) k (inl h) = inl (ap refused h)
name_or (c ∷ n) k (inr h) = inr (ap refused h)

module _ (M : Mount) (I : List ℕ) (w : WellFormed M I) (cwd p : List ℕ) (good : bad_path cwd p ≡ false) where
  -- none of 1, 2, 3, 4
  call_passes : path_call M I cwd p ≡ 0
  unfolding path_call
  call_passes = first_of_tail _ _ (well_formed_opens M I w) ∙ first_of_one _ ∙ when_false 4 good

  call_given : {A : Type 0} (r : Reply A) → given (path_call M I cwd p) r ≡ r
  call_given r = given_none r call_passes

  -- the entry at the path
  abbrev at_path : Reply Held
  at_path = entry_of (area_at M I) I (real_path cwd p)

  -- an empty last name
  at_none : last_of cwd p ≡ [] → at_path ≡ refused 5
  unfolding entry_of
  at_none e = name_none (last_of cwd p) _ e

  -- a way that leads nowhere
  at_lost : find max_depth (way_of cwd p) w.tree ≡ none → (at_path ≡ refused 5) ⊎ (at_path ≡ refused 6)
  at_lost f = go (way_agrees max_depth (way_of cwd p) w.tree)
    where
      go : Agree (way_to max_depth (way_of cwd p) w.tree) (find max_depth (way_of cwd p) w.tree) → (at_path ≡ refused 5) ⊎ (at_path ≡ refused 6)
      go (leads s a b) = absurd (not_some f b)
      go (stops k a b c) =
          subst (λ (r : Reply Held). (r ≡ refused 5) ⊎ (r ≡ refused 6)) (sym (entry_stops (geo_at M I) I max_depth w.tree (taken M I w) (real_path cwd p) (laid_at M I w) k a)) (name_or (last_of cwd p) k c)

  -- what open does with it
  open_by : (r : Reply Held) → at_path ≡ r → open_reply M I cwd p ≡ and_then r (open_entry (last_of cwd p))
  unfolding open_reply open_on
  open_by r e = call_given _ ∙ ap (λ (x : Reply Held). and_then x (open_entry (last_of cwd p))) e

  open_stops : (k : ℕ) → at_path ≡ refused k → open_reply M I cwd p ≡ refused k
  unfolding and_then
  open_stops k e = open_by (refused k) e

  -- what info does with it, where the path is not `/` itself
  info_by : (r : Reply Held) → same p (slash ∷ []) ≡ false → at_path ≡ r → info_reply M I cwd p ≡ and_then r (about_entry (last_of cwd p))
  unfolding info_reply info_on
  info_by r o e = call_given _ ∙ pick_false _ _ o ∙ ap (λ (x : Reply Held). and_then x (about_entry (last_of cwd p))) e

  info_stops : (k : ℕ) → same p (slash ∷ []) ≡ false → at_path ≡ refused k → info_reply M I cwd p ≡ refused k
  unfolding and_then
  info_stops k o e = info_by (refused k) o e

  -- ---- nothing is there

  -- Open of a path whose names lead to no directory gives 5 or 6, never 17.
  pub open_lost : find max_depth (way_of cwd p) w.tree ≡ none → (open_reply M I cwd p ≡ refused 5) ⊎ (open_reply M I cwd p ≡ refused 6)
  open_lost f = go (at_lost f)
    where
      go : (at_path ≡ refused 5) ⊎ (at_path ≡ refused 6) → (open_reply M I cwd p ≡ refused 5) ⊎ (open_reply M I cwd p ≡ refused 6)
      go (inl e) = inl (open_stops 5 e)
      go (inr e) = inr (open_stops 6 e)

  -- and 5 or 6, never 17, where the names lead to no directory.
  pub info_lost : same p (slash ∷ []) ≡ false → find max_depth (way_of cwd p) w.tree ≡ none → (info_reply M I cwd p ≡ refused 5) ⊎ (info_reply M I cwd p ≡ refused 6)
  info_lost o f = go (at_lost f)
    where
      go : (at_path ≡ refused 5) ⊎ (at_path ≡ refused 6) → (info_reply M I cwd p ≡ refused 5) ⊎ (info_reply M I cwd p ≡ refused 6)
      go (inl e) = inl (info_stops 5 o e)
      go (inr e) = inr (info_stops 6 o e)

  -- ---- the names lead to the directory s

  module _ (s : Some) (f : LeadsTo M I w (way_of cwd p) s) where
    at_missing : Absent (last_of cwd p) s.1 → at_path ≡ refused 5
    at_missing a = entry_missing (geo_at M I) I max_depth w.tree (taken M I w) (real_path cwd p) (laid_at M I w) s f a

    -- Open of a name that is not there gives 5.
    pub open_none : Absent (last_of cwd p) s.1 → open_reply M I cwd p ≡ refused 5
    open_none a = open_stops 5 (at_missing a)

    -- Info of a name that is not there gives 5.
    pub info_none : same p (slash ∷ []) ≡ false → Absent (last_of cwd p) s.1 → info_reply M I cwd p ≡ refused 5
    info_none o a = info_stops 5 o (at_missing a)

    module _ (e : Entry (Below s.0)) (k : lookup (last_of cwd p) s.1 ≡ some e) where
      at_entry : at_path ≡ accepted (held (blocks_at s.1) (head_at M I s.0 e))
      at_entry = entry_is (geo_at M I) I max_depth w.tree (taken M I w) (real_path cwd p) (laid_at M I w) s e f k

      open_entry_lem : open_reply M I cwd p ≡ open_entry (last_of cwd p) (held (blocks_at s.1) (head_at M I s.0 e))
      unfolding and_then
      open_entry_lem = open_by _ at_entry

      kind_at : (x : Node (Below s.0)) → e.node ≡ x → (head_at M I s.0 e).kind ≡ kind_is x
      unfolding head_of
      kind_at x i = ap kind_is i

      address_at : (x : Node (Below s.0)) → e.node ≡ x → (head_at M I s.0 e).addr.0 ≡ address_of (view_at M I s.0) x
      unfolding head_of
      address_at x i = ap (address_of (view_at M I s.0)) i

      size_at : (x : Node (Below s.0)) → e.node ≡ x → (head_at M I s.0 e).size ≡ size_of (view_at M I s.0) x
      unfolding head_of
      size_at x i = ap (size_of (view_at M I s.0)) i

      node_good : (x : Node (Below s.0)) → e.node ≡ x → GoodNode (size M I) (GoodBelow (size M I) s.0) x
      node_good x i =
          subst (λ (y : Node (Below s.0)). GoodNode (size M I) (GoodBelow (size M I) s.0) y) i
          (good_lookup (size M I) (GoodBelow (size M I) s.0) (last_of cwd p) s.1 e (good_find (size M I) max_depth (way_of cwd p) w.tree s (laid_at M I w).good f) k).below

      -- Open of a directory or a device gives 6.
      pub open_other : ((x : Below s.0) × (e.node ≡ sub x)) ⊎ ((z : ℕ) × (cs : List Cell) × (e.node ≡ device z cs)) → open_reply M I cwd p ≡ refused 6
      open_other (inl i) = open_entry_lem ∙ sym (entry_dir (last_of cwd p) (blocks_at s.1) (head_at M I s.0 e) (kind_at (sub i.0) i.1))
      open_other (inr i) = open_entry_lem ∙ sym (entry_device (last_of cwd p) (blocks_at s.1) (head_at M I s.0 e) (kind_at (device i.0 i.1) i.2))

      -- Info of an entry gives its kind, size, time and name.
      pub info_entry : same p (slash ∷ []) ≡ false → info_reply M I cwd p ≡ accepted (about (kind_is e.node) (size_of (view_at M I s.0) e.node) e.time e.name)
      unfolding and_then head_of
      info_entry o =
          info_by _ o at_entry
          ∙ ap (λ (x : Name). accepted (about (kind_is e.node) (size_of (view_at M I s.0) e.node) e.time x)) (lookup_name (last_of cwd p) s.1 e k)

      module _ (z : ℕ) (cs : List Cell) (i : e.node ≡ file z cs) where
        -- Open of a file is accepted,
        pub open_file : open_reply M I cwd p ≡ accepted (handle_for (blocks_at s.1) (head_at M I s.0 e) (last_of cwd p))
        unfolding size_of
        open_file =
            open_entry_lem
            ∙ sym (entry_file (last_of cwd p) (blocks_at s.1) (head_at M I s.0 e) (kind_at (file z cs) i) (omega (arith, size_at (file z cs) i, (node_good (file z cs) i).limit)))

        -- and its handle is one of that file, at position 0.
        pub open_handle : HandleOf (blocks_at s.1) (last_of cwd p) z cs (handle_for (blocks_at s.1) (head_at M I s.0 e) (last_of cwd p))
        unfolding padded address_of size_of
        open_handle =
            record {
              dir = refl;
              name = take-append_seam (last_of cwd p) _;
              letters = refl;
              addr = address_at (file z cs) i;
              size = size_at (file z cs) i;
              position = omega arith;
            }

-- ---- list

module _ (M : Mount) (I : List ℕ) (w : WellFormed M I) (cwd p : List ℕ) (good : bad_path cwd p ≡ false) where
  -- A listing of a path whose names lead to no directory gives 5 or 6, never 17.
  pub list_lost : (i cap : ℕ) → find max_depth (all_of cwd p) w.tree ≡ none → (list_reply M I cwd p i cap ≡ refused 5) ⊎ (list_reply M I cwd p i cap ≡ refused 6)
  unfolding list_reply list_on and_then
  list_lost i cap f = go (way_agrees max_depth (all_of cwd p) w.tree)
    where
      stopped : (k : ℕ) → way_to max_depth (all_of cwd p) w.tree ≡ refused k → list_reply M I cwd p i cap ≡ refused k
      stopped k a =
          call_given M I w cwd p good _
          ∙ ap (λ (r : Reply ℕ). and_then r (λ x. counts_of (list_from cap 0 i (skip i (walk (area_at M I) I x)))))
          (resolve_way (geo_at M I) I max_depth w.tree (taken M I w) (all_of cwd p) (laid_at M I w) ∙ ap starts a)

      go : Agree (way_to max_depth (all_of cwd p) w.tree) (find max_depth (all_of cwd p) w.tree) → (list_reply M I cwd p i cap ≡ refused 5) ⊎ (list_reply M I cwd p i cap ≡ refused 6)
      go (leads s a b) = absurd (not_some f b)
      go (stops k a b (inl c)) = inl (stopped k a ∙ ap refused c)
      go (stops k a b (inr c)) = inr (stopped k a ∙ ap refused c)

  module _ (s : Some) (f : LeadsTo M I w (all_of cwd p) s) where
    -- the directory is found, and walked as the tree has it
    dir_found : open_dir (area_at M I) I (real_path cwd p) ≡ accepted (blocks_at s.1)
    dir_found = resolve_is (geo_at M I) I max_depth w.tree (taken M I w) (all_of cwd p) (laid_at M I w) s f

    dir_walk : walk (area_at M I) I (blocks_at s.1) ≡ walk_of (view_at M I s.0) s.1
    dir_walk = walk_is (geo_at M I) I max_depth w.tree (taken M I w) (all_of cwd p) s (laid_at M I w) f

    module _ (i cap : ℕ) where
      -- A listing is that of the tree's directory,
      list_dir : list_reply M I cwd p i cap ≡ counts_of (list_from cap 0 i (skip i (walk_of (view_at M I s.0) s.1)))
      unfolding list_reply list_on and_then
      list_dir =
          call_given M I w cwd p good _
          ∙ ap (λ (r : Reply ℕ). and_then r (λ x. counts_of (list_from cap 0 i (skip i (walk (area_at M I) I x))))) dir_found
          ∙ ap (λ (x : Walk). counts_of (list_from cap 0 i (skip i x))) dir_walk

      -- and always accepted: it answers how many bytes the entries have that it shows, and the number after them,
      pub list_counts : list_reply M I cwd p i cap
          ≡ accepted (record { bytes = records_long (listed_from i cap (entries_of s.1)); next = i + length (listed_from i cap (entries_of s.1)) })
      list_counts = list_dir ∙ ap counts_of (dir_counts (view_at M I s.0) i cap s.1)

      -- and its bytes are their records.
      pub list_records : records_on (area_at M I) I (real_path cwd p) i cap ≡ records_of (view_at M I s.0) (listed_from i cap (entries_of s.1))
      unfolding records_on
      list_records =
          ap (records_at (area_at M I) I i cap) dir_found
          ∙ ap (λ (x : Walk). records_from cap 0 (skip i x)) dir_walk
          ∙ dir_records (view_at M I s.0) i cap s.1

    module _ (cap : ℕ) (large : records_long (entries_of s.1) < cap) where
      -- From the first entry on, into a buffer with more bytes than the records have: every entry of the directory, once, in order.
      pub list_all : list_reply M I cwd p 0 cap ≡ accepted (record { bytes = records_long (entries_of s.1); next = length (entries_of s.1) })
      list_all =
          let h : listed_from 0 cap (entries_of s.1) ≡ entries_of s.1 = listed_all 0 cap (entries_of s.1) large in
          let a : records_long (listed_from 0 cap (entries_of s.1)) ≡ records_long (entries_of s.1) = ap records_long h in
          let b : 0 + length (listed_from 0 cap (entries_of s.1)) ≡ length (entries_of s.1) = zero-add _ ∙ ap length h in
          list_counts 0 cap ∙ λ j. accepted (record { bytes = a j; next = b j })

      -- Its bytes are the records of all entries.
      pub list_all_records : records_on (area_at M I) I (real_path cwd p) 0 cap ≡ records_of (view_at M I s.0) (entries_of s.1)
      list_all_records = list_records 0 cap ∙ ap (records_of (view_at M I s.0)) (listed_all 0 cap (entries_of s.1) large)

-- ---- the root's own info

-- Info of `/` itself: a directory, its size the sum, time 0, no name.
pub info_root : (M : Mount) (I : List ℕ) (w : WellFormed M I) (cwd : List ℕ) → info_reply M I cwd (slash ∷ []) ≡ accepted (about Dir (sum w.tree) 0 [])
unfolding info_reply info_on find
info_root M I w cwd =
    let l : Laid (geo_at M I) I max_depth w.tree (taken M I w) = laid_at M I w in
    call_given M I w cwd (slash ∷ []) (root_good cwd) _
    ∙ pick_true _ _ (same_refl (slash ∷ []))
    ∙ ap (λ (a : ℕ). about_root (sum_from 0 (walk (area_at M I) I a))) (sym l.root)
    ∙ ap about_root (sum_is (geo_at M I) I max_depth w.tree (taken M I w) [] (max_depth, w.tree) l refl)

-- ---- read

module _ (M : Mount) (I : List ℕ) (w : WellFormed M I) (q : List Name) (s : Some) (f : LeadsTo M I w q s) (n : Name) (e : Entry (Below s.0)) (k : lookup n s.1 ≡ some e)
    (z : ℕ) (cs : List Cell) (i : e.node ≡ file z cs) (h : Handle) (o : HandleOf (blocks_at s.1) n z cs h) (len : ℕ) where
  -- A read by a handle of a file of the tree is accepted,
  pub read_file : first_of (open_refusal M I ∷ (read_refusal (area_at M I) I h len ∷ [])) ≡ 0
  read_file =
      first_of_tail _ _ (well_formed_opens M I w) ∙ first_of_one _
      ∙ read_accepted (geo_at M I) I max_depth w.tree (taken M I w) q s n e z cs (laid_at M I w) f k i h o len

  -- and gives the file's bytes from the position on: as many as are asked for, or as there are.
  pub read_bytes : bytes_read (area_at M I) I h len ≡ take (min len (z - h.position)) (drop h.position (contents z cs))
  read_bytes = read_is (geo_at M I) I max_depth w.tree (taken M I w) q s n e z cs (laid_at M I w) f k i h o len
