-- What each call that looks at the tree answers on a well-formed volume: one function for each, on the path or the handle and the
-- tree t of the image at the call's entry. Its refusals stand in the call's order, the first that holds is given (O1), and where
-- none holds it gives the value that is answered. Definitions alone; `RefusalIsExact` says that the calls give just these.
use Rattle.std.specs.Prelude.{◌≡◌, Bool, false, not, ◌&&◌, ◌↔◌, List, [], ◌∷◌, ℕ, zero, suc, ◌+◌, ◌-◌, ◌≤◌, min, ltb, eqb, length, take, drop, Result}
use Rattle.std.proofs.Math.Option.{Option, none, some}
use Rattle.wire.specs.Be.{splice}
use Rattle.wire.specs.Pick.{pick, same}
use Rattle.model.specs.Answers.{Reply, accepted, refused, and_then, when, first_of, reply, given, settle}
use Rattle.model.specs.Tree.{Name, Cell, Node, file, device, sub, Entry, Below, Tree, then, entries_of, lookup, sum, Some}
use Rattle.model.specs.Render.{cells_at, blocks_at, padded, size_of, view}
use Rattle.model.specs.Geometry.{Mount, Geo, block_size, geo_at}
use Rattle.model.specs.Volume.{WellFormed, file_limit, max_depth}
use Rattle.model.specs.Calls.{file_at, DirAt, path_to, free_blocks, entry_block, contents}
use Rattle.model.specs.Steps.{Bytes}
use Rattle.check_bitmap.specs.Tally.{mark_long}
use Rattle.dir_entry.specs.declared.Kind.{Kind}
use Rattle.dir_entry.specs.declared.Kind.TheVariants.{Dir, File}
use Rattle.dir_entry.specs.Shown.{kind_is}
use Rattle.path.specs.Path.{slash, bad_path, path_refusal}
use Rattle.dir.specs.Resolve.{on_name}
use Rattle.thm_path.specs.Shown.{way_to}
use Rattle.create.specs.Creating.{Fresh, bad_name}
use Rattle.create.specs.OnTree.{tree_refusal}
use Rattle.handle.specs.declared.Handle.{Handle}
use Rattle.handle.specs.declared.CountedOut.{CountedOut}
use Rattle.handle.specs.Handles.{name_of, stale_fields, moved}
use Rattle.file_read.specs.Read.{to_read}
use Rattle.write.specs.Writing.{too_long, blocks_to_add}
use Rattle.write.specs.OnTree.{NoRoom}
use Rattle.call_read.specs.declared.OpenOut.{OpenOut}
use Rattle.call_read.specs.declared.InfoOut.{InfoOut}
use Rattle.call_read.specs.declared.About.{About}
use Rattle.call_read.specs.Reading.{about, open_says, Opens, info_says, Informs, Lists, Reads}
use Rattle.patch.specs.Patching.{past_end}
use Rattle.call_change.specs.Changing.{fresh_handle, plainly, CreatesFile, CreatesDir, Deletes, Writes}
use Rattle.call_patch.specs.Patches.{Patches}
use Rattle.thm_calls.specs.Named.{way_of, last_of, all_of, records_long, records_of, listed_from}
use Rattle.promises.specs.Honest.{CreateFull}
use Rattle.limits.specs.Says.{says}
use Rattle.limits.specs.declared.Refusal.{Refusal}
use Rattle.read_dir.specs.declared.Listed.{Listed}

-- ---- what is at a path

-- An entry, with the directory that has it.
abbrev pub Spot : Type 0
Spot = (s : Some) × Entry (Below s.0)

-- R5: the directory has no entry of that name
unfoldable pub entry_in : (s : Some) → Option (Entry (Below s.0)) → Reply Spot
entry_in s none = refused 5
entry_in s (some e) = accepted (s, e)

-- What the names p and the last name n lead to (P3, P4): an empty last name is 5 whatever the way is (R5); on the way each name
-- in its turn gives 5 where it is not there, and 6 where it is and is no directory's (`way_to`); then the last name is looked up.
unfoldable pub spot_at : List Name → Name → Tree max_depth → Reply Spot
spot_at p n t = on_name n (and_then (way_to max_depth p t) (λ s. entry_in s (lookup n s.1)))

-- ---- open (O5: 4, 5 and 6, 10)

-- H5: a handle on the file n, z bytes in the blocks cs, in the directory that starts at a
abbrev pub handle_on : ℕ → Name → ℕ → List Cell → Handle
handle_on a n z cs =
    record {
      dir = record { 0 = a };
      name = padded 255 n;
      len = length n;
      addr = record { 0 = cells_at cs };
      size = z;
      position = 0;
    }

-- R6: it is not a file; R10: it is above the limit, which W4 rules out
unfoldable pub open_node : {X : Type 0} → ℕ → Name → Node X → Reply Handle
open_node a n (file z cs) = reply (when 10 (ltb file_limit z)) (handle_on a n z cs)
open_node a n (device z cs) = refused 6
open_node a n (sub x) = refused 6

-- C4
unfoldable pub open_answer : List ℕ → List ℕ → Tree max_depth → Reply Handle
open_answer cwd p t =
    given (path_refusal cwd p)
    (and_then (spot_at (way_of cwd p) (last_of cwd p) t) (λ x. open_node (blocks_at x.0.1) (last_of cwd p) x.1.node))

-- ---- info (O5: 4, 5 and 6)

-- C5: kind, size, time and name of an entry, where blocks have B bytes
abbrev pub about_spot : ℕ → Spot → Reply About
about_spot B x = accepted (about (kind_is x.1.node) (size_of (view B x.0.0) x.1.node) x.1.time x.1.name)

-- P6: the path `/` is the root's
unfoldable pub info_answer : ℕ → List ℕ → List ℕ → Tree max_depth → Reply About
info_answer B cwd p t =
    given (path_refusal cwd p)
    (pick (same p (slash ∷ []))
    (accepted (about Dir (sum t) 0 []))
    (and_then (spot_at (way_of cwd p) (last_of cwd p) t) (about_spot B)))

-- ---- list (O5: 4, 5 and 6)

-- P5: the whole path leads to the directory
unfoldable pub dir_answer : List ℕ → List ℕ → Tree max_depth → Reply Some
dir_answer cwd p t = given (path_refusal cwd p) (way_to max_depth (all_of cwd p) t)

-- C6: the bytes of these records, which are shown from entry number i on, and the number after them
abbrev pub counts_from : {X : Type 0} → ℕ → List (Entry X) → Listed
counts_from i es = record { bytes = records_long es; next = i + length es }

-- The entries from number i on that go into a buffer of cap bytes: how many bytes,
unfoldable pub list_answer : List ℕ → List ℕ → ℕ → ℕ → Tree max_depth → Reply Listed
list_answer cwd p i cap t = and_then (dir_answer cwd p t) (λ s. accepted (counts_from i (listed_from i cap (entries_of s.1))))

-- and their records, none where the call is refused.
abbrev pub records_in : ℕ → ℕ → ℕ → Reply Some → List ℕ
records_in B i cap (accepted s) = records_of (view B s.0) (listed_from i cap (entries_of s.1))
records_in B i cap (refused k) = []

-- ---- create (O9: 4, 8, 5 and 6, 15, 7, 9)

-- C9: the directory's first block, and the block that the new entry gets
abbrev pub fresh_in : Geo → Name → List ℕ → Some → Fresh
fresh_in g n free s = record { dir = blocks_at s.1; block = entry_block g n s.1 free }

-- of a file or a directory; 15, 7 and 9 are `tree_refusal`
unfoldable pub create_answer : Geo → Kind → List ℕ → List ℕ → Tree max_depth → Reply Fresh
create_answer g k cwd p t =
    given (path_refusal cwd p)
    (given (when 8 (bad_name (last_of cwd p)))
    (and_then (way_to max_depth (way_of cwd p) t) (λ s.
    reply (tree_refusal g (free_blocks g max_depth t) k (last_of cwd p) s)
    (fresh_in g (last_of cwd p) (free_blocks g max_depth t) s))))

-- ---- delete (O10: 4, 5 and 6, 14)

-- R14: a directory that has an entry
unfoldable pub has_entry : (d : ℕ) → Node (Below d) → Bool
has_entry d (file z cs) = false
has_entry d (device z cs) = false
has_entry zero (sub x) = absurd x
has_entry (suc d) (sub x) = ltb 0 (length (entries_of x))

unfoldable pub delete_answer : List ℕ → List ℕ → Tree max_depth → Reply (Unit {0})
delete_answer cwd p t =
    given (path_refusal cwd p)
    (and_then (spot_at (way_of cwd p) (last_of cwd p) t) (λ x. reply (when 14 (has_entry x.0.0 x.1.node)) tt))

-- ---- handles

-- Size, time and blocks of the file that a handle names: its directory is one of the tree, and has a file of its name (H1, H4).
unfoldable pub file_by : Handle → Tree max_depth → Option (ℕ × ℕ × List Cell)
file_by h t = then (path_to max_depth h.dir.0 t) (λ q. file_at max_depth q (name_of h) t)

-- H3: 11 unless that file has the handle's size and first address
unfoldable pub stale_by : Handle → Option (ℕ × ℕ × List Cell) → ℕ
stale_by h none = 11
stale_by h (some f) = when 11 (not (eqb f.0 h.size && eqb (cells_at f.2) h.addr.0))

-- O6: 11 by the handle's own fields (H2), then by its directory; the chain of a current handle is whole.
unfoldable pub read_number : Handle → Tree max_depth → ℕ
read_number h t = first_of (when 11 (stale_fields h) ∷ (stale_by h (file_by h t) ∷ []))

-- C7: the bytes of that file from the position on, as many as are asked for or as there are
unfoldable pub bytes_from : ℕ → ℕ → Option (ℕ × ℕ × List Cell) → List ℕ
bytes_from p len none = []
bytes_from p len (some f) = take (min len (f.0 - p)) (drop p (contents f.0 f.2))

-- O11: 13, 11, 10, 9 (R9: fewer blocks are free in reach than are to be added), of a write of len bytes
unfoldable pub write_number : Geo → Handle → ℕ → Tree max_depth → ℕ
write_number g h len t =
    first_of (when 13 (eqb len 0)
    ∷ (when 11 (stale_fields h)
    ∷ (stale_by h (file_by h t)
    ∷ (when 10 (too_long h len)
    ∷ (when 9 (ltb (length (free_blocks g max_depth t)) (blocks_to_add (block_size g) h len)) ∷ [])))))

-- O14: 13, 11, 19, of a patch of len bytes
unfoldable pub patch_number : Handle → ℕ → Tree max_depth → ℕ
patch_number h len t =
    first_of (when 13 (eqb len 0) ∷ (when 11 (stale_fields h) ∷ (stale_by h (file_by h t) ∷ (when 19 (past_end h len) ∷ []))))

-- ---- D2: what the calls say

-- On a well-formed volume each call answers just that: refused by k exactly where its function gives k, and accepted exactly
-- where it gives a value, with that value. Changing calls have a work buffer that is long enough (R16) and an image of bytes, as
-- every image is.
pub record RefusalIsExact : Type 0 where
  pub opens : (M : Mount) (I : List ℕ) (w : WellFormed M I) (cwd p : List ℕ) (o : OpenOut) → Opens M I cwd p o
      → open_says o ≡ open_answer cwd p w.tree
  pub informs : (M : Mount) (I : List ℕ) (w : WellFormed M I) (cwd p : List ℕ) (o : InfoOut) → Informs M I cwd p o
      → info_says o ≡ info_answer (block_size (geo_at M I)) cwd p w.tree
  -- the buffer is buf before and out after
  pub lists : (M : Mount) (I : List ℕ) (w : WellFormed M I) (cwd p : List ℕ) (i : ℕ) (buf out : List ℕ)
      → (q : Result Listed Refusal) → Lists M I cwd p i buf q out
      → (says q ≡ list_answer cwd p i (length buf) w.tree)
      × (out ≡ splice buf 0 (records_in (block_size (geo_at M I)) i (length buf) (dir_answer cwd p w.tree)))
  pub creates_file : (M : Mount) (I W : List ℕ) → Bytes I → (w : WellFormed M I) → mark_long (geo_at M I) ≤ length W
      → (cwd p : List ℕ) (now : ℕ) (o : OpenOut) (J Z : List ℕ) → CreatesFile M I W cwd p now o J Z
      → open_says o ≡ and_then (create_answer (geo_at M I) File cwd p w.tree) (λ f. accepted (fresh_handle (last_of cwd p) f))
  pub creates_dir : (M : Mount) (I W : List ℕ) → Bytes I → (w : WellFormed M I) → mark_long (geo_at M I) ≤ length W
      → (cwd p : List ℕ) (now : ℕ) (r : Result (Unit {0}) Refusal) (J Z : List ℕ) → CreatesDir M I W cwd p now r J Z
      → says r ≡ plainly (create_answer (geo_at M I) Dir cwd p w.tree)
  pub deletes : (M : Mount) (I W : List ℕ) → Bytes I → (w : WellFormed M I) → mark_long (geo_at M I) ≤ length W
      → (cwd p : List ℕ) (now : ℕ) (r : Result (Unit {0}) Refusal) (J Z : List ℕ) → Deletes M I W cwd p now r J Z
      → says r ≡ delete_answer cwd p w.tree
  pub writes : (M : Mount) (I W : List ℕ) → Bytes I → (w : WellFormed M I) → mark_long (geo_at M I) ≤ length W
      → (h : Handle) (buf : List ℕ) (now : ℕ) (o : CountedOut) (J Z : List ℕ) → Writes M I W h buf now o J Z
      → says o.answer ≡ reply (write_number (geo_at M I) h (length buf) w.tree) (length buf)
  pub patches : (M : Mount) (I W : List ℕ) → Bytes I → (w : WellFormed M I) → mark_long (geo_at M I) ≤ length W
      → (h : Handle) (buf : List ℕ) (now : ℕ) (o : CountedOut) (J Z : List ℕ) → Patches M I W h buf now o J Z
      → says o.answer ≡ reply (patch_number h (length buf) w.tree) (length buf)
  -- Of a handle whose directory is one of the tree, as it is of a handle that a call answered while that directory stands. Read
  -- does not ask for it (H4), and through a made-up handle it walks any blocks. (A handle's name is an array of 255 bytes.)
  pub reads : (M : Mount) (I : List ℕ) (w : WellFormed M I) (h : Handle) (q : List Name) → DirAt max_depth h.dir.0 q w.tree
      → length h.name ≡ 255 → (buf out : List ℕ) (o : CountedOut) → Reads M I h buf out o
      → (says o.answer ≡ reply (read_number h w.tree) (to_read h (length buf)))
      × (o.handle ≡ settle (read_number h w.tree) (moved h (h.position + to_read h (length buf))) h)
      × (out ≡ settle (read_number h w.tree) (splice buf 0 (bytes_from h.position (length buf) (file_by h w.tree))) buf)

-- R9, both ways: 9 is given exactly where none of the refusals before it holds and fewer blocks are free in reach than the call
-- would take.
pub record RoomIsExact : Type 0 where
  pub write_full : (M : Mount) (I W : List ℕ) → Bytes I → (w : WellFormed M I) → mark_long (geo_at M I) ≤ length W
      → (h : Handle) (buf : List ℕ) (now : ℕ) (o : CountedOut) (J Z : List ℕ) → Writes M I W h buf now o J Z
      → (says o.answer ≡ refused 9) ↔ NoRoom (geo_at M I) max_depth w.tree h (length buf)
  pub create_full : (M : Mount) (I W : List ℕ) → Bytes I → (w : WellFormed M I) → mark_long (geo_at M I) ≤ length W
      → (cwd p : List ℕ) → bad_path cwd p ≡ false → (now : ℕ) (o : OpenOut) (J Z : List ℕ) → CreatesFile M I W cwd p now o J Z
      → (open_says o ≡ refused 9) ↔ CreateFull (geo_at M I) File max_depth (way_of cwd p) (last_of cwd p) w.tree
  pub create_dir_full : (M : Mount) (I W : List ℕ) → Bytes I → (w : WellFormed M I) → mark_long (geo_at M I) ≤ length W
      → (cwd p : List ℕ) → bad_path cwd p ≡ false → (now : ℕ) (r : Result (Unit {0}) Refusal) (J Z : List ℕ)
      → CreatesDir M I W cwd p now r J Z
      → (says r ≡ refused 9) ↔ CreateFull (geo_at M I) Dir max_depth (way_of cwd p) (last_of cwd p) w.tree
