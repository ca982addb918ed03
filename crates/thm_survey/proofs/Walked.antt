-- The blocks of a directory, as the check finds them, and the walk of that directory: the same entries in the same order.
use Rattle.std.specs.Prelude.{Some, None}
use Rattle.std.specs.Prelude as prelude
use mathlib.Core.Path.{◌≡◌, refl, sym, ap, ◌∙◌}
use mathlib.Core.Bool.{true, false, not, ◌&&◌}
use mathlib.Core.Option.{Option, some}
use mathlib.Core.List.{List, [], ◌∷◌, ◌++◌}
use Prim.Native.Nat.{ℕ, zero, suc, ◌+◌, ◌-◌, ◌*◌, ◌≤◌}
use native.Mathlib.Omega.{arith}
use lib.Dec.{eqb}
use lib.ListN.{length}
use borrow.Author.Tests.{not-true}
use Rattle.wire.specs.Pick.{pick, zero_from}
use Rattle.wire.proofs.Picks.{pick_true, pick_false, and_both}
use Rattle.block.specs.Block.{Area, next}
use Rattle.model.specs.Tree.{Name}
use Rattle.model.specs.Render.{count}
use Rattle.model.specs.Volume.{All}
use Rattle.model.proofs.Areas.{row_inside}
use Rattle.dir_entry.specs.declared.DirEntry.{DirEntry}
use Rattle.dir_entry.specs.Entry.{header, place_at, name_at, slot_at}
use Rattle.dir_entry.proofs.Slots.{Stands, slot_stands}
use Rattle.read_dir.specs.Walk.{Walk, item, finished, in_area, shown, entries_from, chain_from, walk}
use Rattle.read_dir.specs.Walk as walks
use Rattle.text.specs.Text.{is_name}
use Rattle.check_names.specs.Names.{distinct, names_in, ends}
use Rattle.thm_survey.specs.Survey.{Raw, RawBlock, names_of, all_names, has_some, Claimed, by_slot, passes, claim, raws_from, later_of, blocks_of}
use Rattle.thm_survey.proofs.SoundLaws.{Each, each_none, each_some, each_then, each_pick, each_test, each_with, Claim, each_claim}
use Rattle.thm_survey.proofs.SoundCells.{part_long}

-- ---- the walk of blocks that are found

-- The entries rs of block a from offset o on, and then w; the entries of all blocks, and then the end.
unfoldable pub raws_walk : ℕ → ℕ → List Raw → Walk → Walk
raws_walk a o [] w = w
raws_walk a o (r ∷ rs) w = item r.head a o r.name (raws_walk a (o + header + r.head.len) rs w)

unfoldable pub blocks_walk : List RawBlock → Walk
blocks_walk [] = finished
blocks_walk (b ∷ bs) = raws_walk b.at 0 b.raws (blocks_walk bs)

-- its names, and that it ends
raws_names : (a o : ℕ) (rs : List Raw) (w : Walk) → names_in (raws_walk a o rs w) ≡ names_of rs ++ names_in w
unfolding raws_walk names_in names_of
raws_names a o [] w = refl
raws_names a o (r ∷ rs) w = ap (λ (l : List Name). r.name ∷ l) (raws_names a (o + header + r.head.len) rs w)

walk_names : (bs : List RawBlock) → names_in (blocks_walk bs) ≡ all_names bs
unfolding blocks_walk names_in all_names
walk_names [] = refl
walk_names (b ∷ bs) = raws_names b.at 0 b.raws (blocks_walk bs) ∙ ap (λ (l : List Name). names_of b.raws ++ l) (walk_names bs)

raws_ends : (a o : ℕ) (rs : List Raw) (w : Walk) → ends (raws_walk a o rs w) ≡ ends w
unfolding raws_walk ends
raws_ends a o [] w = refl
raws_ends a o (r ∷ rs) w = raws_ends a (o + header + r.head.len) rs w

walk_ends : (bs : List RawBlock) → ends (blocks_walk bs) ≡ true
unfolding blocks_walk ends
walk_ends [] = refl
walk_ends (b ∷ bs) = raws_ends b.at 0 b.raws (blocks_walk bs) ∙ walk_ends bs

-- ---- whatever is found is what the walk gives

-- the name is as long as the entry says
abbrev pub LongName : Raw → Type 0
LongName r = r.head.len ≡ length r.name

abbrev pub LongNames : List RawBlock → Type 0
LongNames [] = Unit {0}
LongNames (b ∷ bs) = All LongName b.raws × LongNames bs

each_at : {X : Type 0} (P : X → Type 0) (s : prelude.Option DirEntry) (f : DirEntry → Option X) (o : Option X)
    → ((e : DirEntry) → s ≡ Some e → Each P (f e)) → (s ≡ None → Each P o) → Each P (by_slot s f o)
unfolding by_slot
each_at P (Some e) f o h k = h e refl
each_at P None f o h k = k refl

passes_address : (e : DirEntry) (x : Name) → passes e x ≡ true → eqb e.addr.0 0 ≡ false
unfolding passes
passes_address e x h = not-true (eqb e.addr.0 0) (and_both (not (eqb e.addr.0 0)) (is_name x) h).0

module _ (A : Area) (I : List ℕ) where
  -- the walk at an entry that passes, and where the entries stop
  entry_walk : (f a o : ℕ) (e : DirEntry) (w : Walk) → slot_at A.size I a o ≡ Some e → eqb e.addr.0 0 ≡ false
      → entries_from A I (suc f) a o w ≡ item e a o (name_at I (place_at A.size a o) e.len) (entries_from A I f a (o + header + e.len) w)
  unfolding entries_from walks.on_slot shown
  entry_walk f a o e w s z =
      ap (λ (x : prelude.Option DirEntry). walks.on_slot x (λ e. shown A I e a o (entries_from A I f a (o + header + e.len) w)) w) s
      ∙ pick_false _ _ z

  stop_walk : (f a o : ℕ) (w : Walk) → slot_at A.size I a o ≡ None → entries_from A I (suc f) a o w ≡ w
  unfolding entries_from walks.on_slot
  stop_walk f a o w s = ap (λ (x : prelude.Option DirEntry). walks.on_slot x (λ e. shown A I e a o (entries_from A I f a (o + header + e.len) w)) w) s

  abbrev Walks : ℕ → ℕ → ℕ → List Raw → Type 0
  Walks f a o rs = (w : Walk) → entries_from A I f a o w ≡ raws_walk a o rs w

  each_walk : (f a o : ℕ) → Each (Walks f a o) (raws_from A.size I f a o)
  unfolding raws_from raws_walk
  each_walk zero a o = each_none (Walks zero a o)
  each_walk (suc f) a o =
      each_at (Walks (suc f) a o) (slot_at A.size I a o) _ _
      (λ e q. each_test (Walks (suc f) a o) (passes e (name_at I (place_at A.size a o) e.len)) _
      (λ t. each_then (Walks (suc f) a o) (raws_from A.size I f a (o + header + e.len)) _
      (λ rs g. each_some (Walks (suc f) a o) _
      (λ w. entry_walk f a o e w q (passes_address e (name_at I (place_at A.size a o) e.len) t)
      ∙ ap (item e a o (name_at I (place_at A.size a o) e.len)) ((each_walk f a (o + header + e.len)).is rs g w)))))
      (λ q. each_test (Walks (suc f) a o) (zero_from I (place_at A.size a o) (A.size - 4 - o)) _
      (λ _. each_some (Walks (suc f) a o) [] (λ w. stop_walk f a o w q)))

  -- The entries that `raws_from` finds are those of the walk.
  raws_walk_lem : (f a o : ℕ) (rs : List Raw) → raws_from A.size I f a o ≡ some rs → (w : Walk) → entries_from A I f a o w ≡ raws_walk a o rs w
  raws_walk_lem f a o rs g w = (each_walk f a o).is rs g w

  -- Their names are as long as they say.
  each_long : (a : ℕ) → A.size * a + A.size ≤ length I → (f o : ℕ) → Each (All LongName) (raws_from A.size I f a o)
  unfolding raws_from
  each_long a whole zero o = each_none (All LongName)
  each_long a whole (suc f) o =
      each_at (All LongName) (slot_at A.size I a o) _ _
      (λ e q.
      let s : Stands A.size I a o e = slot_stands A.size I a o e q in
      let l : place_at A.size a o + header + e.len ≤ length I = omega (arith, s.offset, s.ends) in
      each_test (All LongName) (passes e (name_at I (place_at A.size a o) e.len)) _
      (λ t. each_then (All LongName) (raws_from A.size I f a (o + header + e.len)) _
      (λ rs g. each_some (All LongName) _ (sym (part_long I (place_at A.size a o + header) e.len l), (each_long a whole f (o + header + e.len)).is rs g))))
      (λ q. each_test (All LongName) (zero_from I (place_at A.size a o) (A.size - 4 - o)) _ (λ _. each_some (All LongName) [] tt))

  raws_long : (f a o : ℕ) (rs : List Raw) → A.size * a + A.size ≤ length I → raws_from A.size I f a o ≡ some rs → All LongName rs
  raws_long f a o rs whole g = (each_long a whole f o).is rs g

  -- ---- a directory's blocks

  -- a claimed block is in the area
  claim_area : (a : ℕ) (seen now : List ℕ) → claim A I a seen ≡ some now → in_area A I a ≡ true
  unfolding claim
  claim_area a seen now e =
      (each_test (λ _. in_area A I a ≡ true) (in_area A I a && eqb (count a seen) 0) (some (a ∷ seen))
      (λ t. each_some (λ _. in_area A I a ≡ true) (a ∷ seen) (and_both (in_area A I a) (eqb (count a seen) 0) t).0)).is now e

  -- what is walked from address a on, where k blocks more may be read; a may be 0
  abbrev onward : ℕ → ℕ → Walk
  onward k a = pick (eqb a 0) finished (chain_from A I k a)

  block_more : (k a : ℕ) (seen now : List ℕ) (rs : List Raw) (bs : List RawBlock) → claim A I a seen ≡ some now → raws_from A.size I A.size a 0 ≡ some rs
      → onward k (next A.size I a) ≡ blocks_walk bs → chain_from A I (suc k) a ≡ blocks_walk (record { at = a; raws = rs } ∷ bs)
  unfolding chain_from blocks_walk
  block_more k a seen now rs bs e g h =
      pick_true _ _ (claim_area a seen now e) ∙ ap (entries_from A I A.size a 0) h ∙ raws_walk_lem A.size a 0 rs g (blocks_walk bs)

  abbrev Onward : ℕ → ℕ → Claimed (List RawBlock) → Type 0
  Onward k a c = onward k a ≡ blocks_walk c.found

  later_none : (k a : ℕ) → eqb a 0 ≡ true → onward k a ≡ blocks_walk []
  unfolding blocks_walk
  later_none k a t = pick_true _ _ t

  later_walk : (k a : ℕ) (seen : List ℕ) → Each (Onward k a) (later_of A I k a seen)
  unfolding later_of
  later_walk zero a seen = each_test (Onward zero a) (eqb a 0) _ (λ t. each_some (Onward zero a) _ (later_none zero a t))
  later_walk (suc k) a seen =
      each_pick (Onward (suc k) a) (eqb a 0) _ _
      (λ t. each_some (Onward (suc k) a) _ (later_none (suc k) a t))
      (λ t. each_then (Onward (suc k) a) (claim A I a seen) _
      (λ now e. each_then (Onward (suc k) a) (raws_from A.size I A.size a 0) _
      (λ rs g. each_test (Onward (suc k) a) (has_some rs) _
      (λ _. each_with (Onward (suc k) a) _ (later_of A I k (next A.size I a) now)
      (λ c f. pick_false _ _ t ∙ block_more k a seen now rs c.found e g ((later_walk k (next A.size I a) now).is c f))))))

  abbrev Whole : ℕ → Claimed (List RawBlock) → Type 0
  Whole a c = walk A I a ≡ blocks_walk c.found

  each_blocks : (a : ℕ) (seen : List ℕ) → Each (Whole a) (blocks_of A I a seen)
  unfolding blocks_of
  each_blocks a seen =
      each_then (Whole a) (claim A I a seen) _
      (λ now e. each_then (Whole a) (raws_from A.size I A.size a 0) _
      (λ rs g. each_with (Whole a) _ (later_of A I (A.end - A.first - 1) (next A.size I a) now)
      (λ c f.
      let k : Claim A a seen now = (each_claim A I a seen).is now e in
      let m : A.end - A.first ≡ suc (A.end - A.first - 1) = omega (arith, k.low, k.high) in
      ap (λ (j : ℕ). chain_from A I j a) m ∙ block_more (A.end - A.first - 1) a seen now rs c.found e g ((later_walk (A.end - A.first - 1) (next A.size I a) now).is c f))))

  -- The blocks that `blocks_of` finds are those of the walk.
  pub blocks-walk : (a : ℕ) (seen : List ℕ) (c : Claimed (List RawBlock)) → blocks_of A I a seen ≡ some c → walk A I a ≡ blocks_walk c.found
  blocks-walk a seen c q = (each_blocks a seen).is c q

  -- So the walk ends, and its names are distinct where those of the blocks are.
  pub open_is : (a : ℕ) (seen : List ℕ) (c : Claimed (List RawBlock)) → blocks_of A I a seen ≡ some c
      → (ends (walk A I a) && distinct (names_in (walk A I a))) ≡ distinct (all_names c.found)
  open_is a seen c q = rw (blocks-walk a seen c q, walk_ends, walk_names)

  -- ---- where the volume's blocks are whole, the names are as long as their entries say

  module _ (fits : A.end * A.size ≤ length I) where
    claimed_long : (a : ℕ) (seen now : List ℕ) (rs : List Raw) → claim A I a seen ≡ some now → raws_from A.size I A.size a 0 ≡ some rs → All LongName rs
    claimed_long a seen now rs e g = raws_long A.size a 0 rs (row_inside A.size A.end (length I) a fits ((each_claim A I a seen).is now e).high) g

    abbrev Long : Claimed (List RawBlock) → Type 0
    Long c = LongNames c.found

    later_long : (k a : ℕ) (seen : List ℕ) → Each Long (later_of A I k a seen)
    unfolding later_of
    later_long zero a seen = each_test Long (eqb a 0) _ (λ _. each_some Long _ tt)
    later_long (suc k) a seen =
        each_pick Long (eqb a 0) _ _
        (λ _. each_some Long _ tt)
        (λ _. each_then Long (claim A I a seen) _
        (λ now e. each_then Long (raws_from A.size I A.size a 0) _
        (λ rs g. each_test Long (has_some rs) _
        (λ _. each_with Long _ (later_of A I k (next A.size I a) now)
        (λ c f. (claimed_long a seen now rs e g, (later_long k (next A.size I a) now).is c f))))))

    all_long : (a : ℕ) (seen : List ℕ) → Each Long (blocks_of A I a seen)
    unfolding blocks_of
    all_long a seen =
        each_then Long (claim A I a seen) _
        (λ now e. each_then Long (raws_from A.size I A.size a 0) _
        (λ rs g. each_with Long _ (later_of A I (A.end - A.first - 1) (next A.size I a) now)
        (λ c f. (claimed_long a seen now rs e g, (later_long (A.end - A.first - 1) (next A.size I a) now).is c f))))

    pub blocks_long : (a : ℕ) (seen : List ℕ) (c : Claimed (List RawBlock)) → blocks_of A I a seen ≡ some c → LongNames c.found
    blocks_long a seen c q = (all_long a seen).is c q
