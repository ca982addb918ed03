-- D2: on a well-formed volume a delete answers what the tree says.
use mathlib.Core.Path.{◌≡◌, refl, sym, ap, ◌∙◌}
use mathlib.Core.Bool.{true, false}
use mathlib.Core.Logic.{◌⊎◌, inl, inr}
use mathlib.Core.Option.{some}
use mathlib.Core.List.{List, [], ◌∷◌, ◌++◌}
use Prim.Native.Nat.{ℕ, zero, suc, ◌≤◌}
use native.Mathlib.Omega.{arith}
use lib.Dec.{ltb}
use lib.ListN.{length}
use borrow.Author.Tests.{ltb-false}
use Rattle.wire.proofs.Picks.{either, not_both}
use Rattle.model.specs.Answers.{Reply, accepted, refused, and_then, when, reply, given}
use Rattle.model.specs.Tree.{Name, Node, file, device, sub, Entry, Block, Below, entries_of, Absent, lookup, Some, NoEntries, Bare}
use Rattle.model.specs.Render.{blocks_at}
use Rattle.model.specs.Geometry.{Mount, block_size, area_of, geo_at}
use Rattle.model.specs.Volume.{WellFormed, max_depth}
use Rattle.model.specs.Calls.{Vacant, Occupied}
use Rattle.model.specs.Steps.{Bytes}
use Rattle.model.proofs.Opens.{when_true, when_false, first_of_one, first_of_tail}
use Rattle.model.proofs.Replies.{and_then_ok, and_then_no, reply-none, reply_suc}
use Rattle.check_bitmap.specs.Tally.{mark_long}
use Rattle.limits.specs.declared.Damage.{Damage}
use Rattle.read_dir.specs.declared.Placed.{Placed}
use Rattle.read_dir.specs.Walk.{walk}
use Rattle.read_dir.specs.Finds.{find_in}
use Rattle.path.specs.Path.{real_path, path_refusal}
use Rattle.dir.specs.Resolve.{on_name}
use Rattle.dir.specs.Hold.{Hold}
use Rattle.thm_path.specs.Held.{HeldAt}
use Rattle.thm_path.specs.Shown.{way_to}
use Rattle.thm_path.proofs.Finds.{lookup_or, find-missing}
use Rattle.thm_path.proofs.Holding.{hold_is, hold_some}
use Rattle.delete.specs.Deleting.{Doomed, doomed_in, doomed_of, deleted_on}
use Rattle.delete.proofs.OnVolume.{bare_accepted, full_refused}
use Rattle.call_change.specs.Changing.{change_call, Deletes}
use Rattle.thm_calls.specs.Named.{way_of, last_of}
use Rattle.thm_calls.proofs.Changing.{volume_at}
use Rattle.promises.specs.Refusals.{Spot, spot_at, has_entry, delete_answer}
use Rattle.promises.proofs.Checks.{long_passes}
use Rattle.promises.proofs.Spots.{way_found, hold_stops, name_five, at_stops, at_missing, at_entry}
use Rattle.std.specs.Prelude.{Result, Option, None, Ok}
use Rattle.limits.specs.Says.{says}
use Rattle.limits.specs.declared.Refusal.{Refusal}

-- ---- a directory that has an entry

none_entries : {X : Type 0} (bs : List (Block X)) → NoEntries bs → length (entries_of bs) ≡ 0
unfolding entries_of
none_entries [] h = refl
none_entries {X} (b ∷ bs) h = ap (λ (l : List (Entry X)). length (l ++ entries_of bs)) h.0 ∙ none_entries bs h.1

entries_none : {X : Type 0} (bs : List (Block X)) → length (entries_of bs) ≡ 0 → NoEntries bs
unfolding entries_of
entries_none [] h = tt
entries_none {X} (b ∷ bs) h = go b.entries refl (entries_none bs)
  where
    go : (l : List (Entry X)) → b.entries ≡ l → (length (entries_of bs) ≡ 0 → NoEntries bs) → NoEntries (b ∷ bs)
    go [] e below = (e, below (ap (λ (l : List (Entry X)). length (l ++ entries_of bs)) (sym e) ∙ h))
    go (x ∷ l) e below =
        let z : suc (length (l ++ entries_of bs)) ≡ 0 = ap (λ (m : List (Entry X)). length (m ++ entries_of bs)) (sym e)
        ∙ h in absurd (omega arith)

bare_none : (d : ℕ) (x : Node (Below d)) → has_entry d x ≡ false → Bare d x
unfolding has_entry
bare_none d (file z cs) h = tt
bare_none d (device z cs) h = tt
bare_none zero (sub x) h = absurd x
bare_none (suc d) (sub x) h = entries_none x (omega (arith, ltb-false 0 (length (entries_of x)) h))

none_bare : (d : ℕ) (x : Node (Below d)) → has_entry d x ≡ true → Bare d x → ⊥
unfolding has_entry
none_bare d (file z cs) h b = not_both h refl
none_bare d (device z cs) h b = not_both h refl
none_bare zero (sub x) h b = absurd x
none_bare (suc d) (sub x) h b = not_both h (ap (λ (k : ℕ). ltb 0 k) (none_entries x b))

-- ---- the call

module _ (M : Mount) (I W : List ℕ) (b : Bytes I) (w : WellFormed M I) (long : mark_long (geo_at M I) ≤ length W) (cwd p : List ℕ) where
  -- the check passes, and 4 alone is given before the way
  pub change_is : change_call M I (length W) cwd p ≡ path_refusal cwd p
  unfolding change_call
  change_is = first_of_tail _ _ (long_passes M I W w long b) ∙ first_of_one _

  abbrev doomed : Reply Doomed
  doomed = doomed_of (geo_at M I) I (real_path cwd p)

  -- what a delete does with what it finds
  abbrev on_spot : Spot → Reply (Unit {0})
  on_spot x = reply (when 14 (has_entry x.0.0 x.1.node)) tt

  abbrev Said : Type 0
  Said = deleted_on (geo_at M I) I (real_path cwd p) ≡ and_then (spot_at (way_of cwd p) (last_of cwd p) w.tree) on_spot

  -- a way that stops
  way_stops : (k : ℕ) → way_to max_depth (way_of cwd p) w.tree ≡ refused k → Said
  unfolding deleted_on doomed_of
  way_stops k e =
      go (last_of cwd p)
      (ap (λ (r : Reply Doomed). on_name (last_of cwd p) r)
      (and_then_no k (doomed_in (geo_at M I) I (last_of cwd p))
      (hold_stops (geo_at M I) I w.tree _ (volume_at M I w).laid (way_of cwd p) k e)))
      (at_stops (geo_at M I) I w.tree _ (volume_at M I w).laid (real_path cwd p) k e)
    where
      go : (n : Name) → doomed ≡ on_name n (refused k) → spot_at (way_of cwd p) (last_of cwd p) w.tree ≡ on_name n (refused k)
          → Said
      go [] a c = and_then_no 5 (λ x. accepted tt) a ∙ sym (and_then_no 5 on_spot c)
      go (x ∷ n) a c = and_then_no k (λ x. accepted tt) a ∙ sym (and_then_no k on_spot c)

  -- a name that is not there
  nothing_in : (h : Hold)
      → find_in (last_of cwd p) (walk (area_of (geo_at M I)) I h.dir) ≡ Ok None
      → doomed_in (geo_at M I) I (last_of cwd p) h ≡ refused 5
  unfolding doomed_in
  nothing_in h e = rw e

  nothing_there : Vacant max_depth (way_of cwd p) (last_of cwd p) w.tree → doomed ≡ refused 5
  unfolding doomed_of
  nothing_there v =
      let n : Name = last_of cwd p in
      let s : Some = v.dir in
      let laid = (volume_at M I w).laid in
      let h = hold_some (geo_at M I) I max_depth w.tree _ (way_of cwd p) laid s v.there in
      let q : HeldAt (block_size (geo_at M I)) max_depth (way_of cwd p) w.tree h.0
      = hold_is (geo_at M I) I max_depth w.tree _ (way_of cwd p) laid h.0 h.1 in
      let z : some s ≡ some q.there = sym v.there ∙ q.found in
      let y : s ≡ q.there = cc in
      let found_from : ℕ → Result (Option Placed) Damage = λ a. find_in n (walk (area_of (geo_at M I)) I a) in
      let f : found_from h.0.dir ≡ Ok None
      = ap found_from (sym (ap (λ (x : Some). blocks_at x.1) y ∙ q.starts))
      ∙ find-missing (geo_at M I) I max_depth w.tree _ (way_of cwd p) s laid v.there n v.free in
      name_five n _ (and_then_ok h.0 (doomed_in (geo_at M I) I n) h.1 ∙ nothing_in h.0 f)

  name_absent : (s : Some) → way_to max_depth (way_of cwd p) w.tree ≡ accepted s → Absent (last_of cwd p) s.1 → Said
  unfolding deleted_on
  name_absent s e a =
      let v : Vacant max_depth (way_of cwd p) (last_of cwd p) w.tree
      = record { dir = s; there = way_found max_depth (way_of cwd p) w.tree s e; free = a } in
      and_then_no 5 (λ x. accepted tt) (nothing_there v)
      ∙ sym (and_then_no 5 on_spot (at_missing (geo_at M I) I w.tree _ (volume_at M I w).laid (real_path cwd p) s e a))

  -- an entry that is there: 14, or it goes
  entry_there : (s : Some) → way_to max_depth (way_of cwd p) w.tree ≡ accepted s → (e : Entry (Below s.0))
      → lookup (last_of cwd p) s.1 ≡ some e → Said
  unfolding deleted_on
  entry_there s m e k = go (either (has_entry s.0 e.node))
    where
      o : Occupied max_depth (way_of cwd p) (last_of cwd p) w.tree
      o = record { dir = s; there = way_found max_depth (way_of cwd p) w.tree s m; entry = e; held = k }

      spot : and_then (spot_at (way_of cwd p) (last_of cwd p) w.tree) on_spot ≡ on_spot (s, e)
      spot = and_then_ok (s, e) on_spot (at_entry (geo_at M I) I w.tree _ (volume_at M I w).laid (real_path cwd p) s m e k)

      go : (has_entry s.0 e.node ≡ true) ⊎ (has_entry s.0 e.node ≡ false) → Said
      go (inl h) =
          and_then_no 14 (λ x. accepted tt)
          (full_refused (geo_at M I) I max_depth w.tree (real_path cwd p) (volume_at M I w) o (none_bare s.0 e.node h))
          ∙ sym (spot ∙ ap (λ (j : ℕ). reply j tt) (when_true 14 h) ∙ reply_suc 14 tt (omega arith))
      go (inr h) =
          let x = bare_accepted (geo_at M I) I max_depth w.tree (real_path cwd p) (volume_at M I w) o
          (bare_none s.0 e.node h) in
          and_then_ok x.0 (λ x. accepted tt) x.1 ∙ sym (spot ∙ reply-none tt (when_false 14 h))

  deleted-says : Said
  deleted-says = go (way_to max_depth (way_of cwd p) w.tree) refl
    where
      by : (s : Some) → way_to max_depth (way_of cwd p) w.tree ≡ accepted s
          → ((e : Entry (Below s.0)) × (lookup (last_of cwd p) s.1 ≡ some e)) ⊎ Absent (last_of cwd p) s.1 → Said
      by s f (inl e) = entry_there s f e.0 e.1
      by s f (inr a) = name_absent s f a

      go : (r : Reply Some) → way_to max_depth (way_of cwd p) w.tree ≡ r → Said
      go (accepted s) f = by s f (lookup_or (last_of cwd p) s.1)
      go (refused k) f = way_stops k f

  -- A delete is refused by 4, 5, 6 and 14 just where the tree says, and else accepted.
  pub deletes : (now : ℕ) (r : Result (Unit {0}) Refusal) (J Z : List ℕ) → Deletes M I W cwd p now r J Z → says r ≡ delete_answer cwd p w.tree
  unfolding delete_answer
  deletes now r J Z c =
      c.answer ∙ ap (λ (k : ℕ). given k (deleted_on (geo_at M I) I (real_path cwd p))) change_is
      ∙ ap (given (path_refusal cwd p)) deleted-says
