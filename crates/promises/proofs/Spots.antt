-- What a path leads to on a volume, by the tree: 5 and 6 exactly, in walking order.
use mathlib.Core.Path.{◌≡◌, refl, sym, ap, ◌∙◌, subst}
use mathlib.Core.Logic.{◌⊎◌, inl, inr}
use mathlib.Core.Option.{some}
use mathlib.Core.List.{List, [], ◌∷◌}
use Prim.Native.Nat.{ℕ}
use native.Mathlib.Omega.{arith}
use lib.ListN.{length}
use Rattle.model.specs.Answers.{Reply, accepted, refused, and_then}
use Rattle.model.specs.Tree.{Name, Entry, Below, Tree, Absent, lookup, Some, find}
use Rattle.model.specs.Render.{blocks_at, view}
use Rattle.model.specs.Geometry.{area_of, Geo, block_size, data_at}
use Rattle.model.specs.Volume.{GoodBelow, Laid, max_depth}
use Rattle.model.proofs.Full.{good_lookup, good_find}
use Rattle.model.proofs.Lists.{not_some}
use Rattle.model.proofs.Replies.{not_accepted, refused-one, and_then_ok, and_then_no, first_refused}
use Rattle.dir_entry.specs.Shown.{head_of}
use Rattle.path.specs.Path.{last_name, dir_part, steps}
use Rattle.dir.specs.Resolve.{Held, held, on_name, entry_of}
use Rattle.dir.specs.Hold.{hold_from, root_hold}
use Rattle.dir.proofs.Answers.{name_some}
use Rattle.thm_path.specs.Shown.{way_to}
use Rattle.thm_path.proofs.Finds.{lookup_or}
use Rattle.dir.proofs.HoldLaws.{hold_resolve}
use Rattle.thm_path.proofs.Resolves.{lookup_name, absent_none, Agree, leads, stops, way_agrees, resolve_way, entry_is}
use Rattle.thm_path.proofs.Resolves.{entry_missing, entry_stops}
use Rattle.promises.specs.Refusals.{Spot, entry_in, spot_at}

-- ---- the way, and the tree's path

-- Where the way leads to a directory, the tree has it there,
pub way_found : (d : ℕ) (p : List Name) (t : Tree d) (s : Some) → way_to d p t ≡ accepted s → find d p t ≡ some s
way_found d p t s e = go (way_agrees d p t)
  where
    go : Agree (way_to d p t) (find d p t) → find d p t ≡ some s
    go (leads r a b) = let z : r ≡ s = cc in b ∙ ap some z
    go (stops k a b c) = absurd (not_accepted k s (sym a ∙ e))

-- and where the tree has a directory, the way leads there;
pub found_way : (d : ℕ) (p : List Name) (t : Tree d) (s : Some) → find d p t ≡ some s → way_to d p t ≡ accepted s
found_way d p t s e = go (way_agrees d p t)
  where
    go : Agree (way_to d p t) (find d p t) → way_to d p t ≡ accepted s
    go (leads r a b) = let z : r ≡ s = cc in a ∙ ap (λ (x : Some). accepted x) z
    go (stops k a b c) = absurd (not_some b e)

-- a way that stops stops with 5 or 6.
pub way_number : (d : ℕ) (p : List Name) (t : Tree d) (j : ℕ) → way_to d p t ≡ refused j → (j ≡ 5) ⊎ (j ≡ 6)
way_number d p t j e = go (way_agrees d p t)
  where
    go : Agree (way_to d p t) (find d p t) → (j ≡ 5) ⊎ (j ≡ 6)
    go (leads s a b) = absurd (not_accepted j s (sym e ∙ a))
    go (stops k a b c) = subst (λ (i : ℕ). (i ≡ 5) ⊎ (i ≡ 6)) (refused-one {A = Some} k j (sym a ∙ e)) c

-- An empty last name gives 5, and so does one that is not there.
pub name_five : {A : Type 0} (n : Name) (r : Reply A) → r ≡ refused 5 → on_name n r ≡ refused 5
name_five [] r e = refl
name_five (c ∷ n) r e = e

module _ (g : Geo) (I : List ℕ) (t : Tree max_depth) (u : ℕ) (l : Laid g I max_depth t u) where
  -- The holding directory that a create or a delete finds is the way's, and a way that stops stops there too, with the same
  -- number.
  pub hold_stops : (p : List Name) (k : ℕ) → way_to max_depth p t ≡ refused k
      → hold_from (area_of g) I p (root_hold (data_at g)) ≡ refused k
  hold_stops p k e =
      first_refused (hold_from (area_of g) I p (root_hold (data_at g))) (λ h. h.dir) k
      (hold_resolve (area_of g) I p (root_hold (data_at g)) ∙ resolve_way g I max_depth t u p l
      ∙ and_then_no k (λ s. accepted (blocks_at s.1)) e)

  module _ (q : List ℕ) where
    abbrev way : List Name
    way = steps (dir_part q)

    abbrev last : Name
    last = last_name q

    -- a name that is in a directory of the tree is not empty
    name_there : (s : Some) → find max_depth way t ≡ some s → (e : Entry (Below s.0)) → lookup last s.1 ≡ some e
        → length last ≡ 0 → ⊥
    name_there s f e k z =
        let m = (good_lookup (block_size g) (GoodBelow (block_size g) s.0) last s.1 e
        (good_find (block_size g) max_depth way t s l.good f) k).good_name.some_bytes in
        let j : length last ≡ length e.name = ap length (lookup_name last s.1 e k) in
        omega arith

    -- What is at the path, by the way and the directory:
    pub at_stops : (k : ℕ) → way_to max_depth way t ≡ refused k → spot_at way last t ≡ on_name last (refused k)
    unfolding spot_at
    at_stops k e = ap (λ (r : Reply Spot). on_name last r) (and_then_no k (λ s. entry_in s (lookup last s.1)) e)

    pub at_missing : (s : Some) → way_to max_depth way t ≡ accepted s → Absent last s.1 → spot_at way last t ≡ refused 5
    unfolding spot_at entry_in
    at_missing s e a =
        name_five last _ (and_then_ok s (λ s. entry_in s (lookup last s.1)) e ∙ ap (entry_in s) (absent_none last s.1 a))

    pub at_entry : (s : Some) → way_to max_depth way t ≡ accepted s → (e : Entry (Below s.0)) → lookup last s.1 ≡ some e
        → spot_at way last t ≡ accepted (s, e)
    unfolding spot_at entry_in
    at_entry s w e k =
        name_some last _ (name_there s (way_found max_depth way t s w) e k)
        ∙ and_then_ok s (λ s. entry_in s (lookup last s.1)) w ∙ ap (entry_in s) k

    -- so what a call makes of the entry that it finds in the image is what is made of the tree's.
    pub entry_then : {A : Type 0} (f : Held → Reply A) (h : Spot → Reply A)
        → ((s : Some) (e : Entry (Below s.0)) → lookup last s.1 ≡ some e
        → f (held (blocks_at s.1) (head_of (view (block_size g) s.0) e)) ≡ h (s, e))
        → and_then (entry_of (area_of g) I q) f ≡ and_then (spot_at way last t) h
    entry_then f h same = go (way_to max_depth way t) refl
      where
        by : (s : Some) → way_to max_depth way t ≡ accepted s → ((e : Entry (Below s.0)) × (lookup last s.1 ≡ some e))
            ⊎ Absent last s.1
            → and_then (entry_of (area_of g) I q) f ≡ and_then (spot_at way last t) h
        by s w (inl e) =
            and_then_ok _ f (entry_is g I max_depth t u q l s e.0 (way_found max_depth way t s w) e.1) ∙ same s e.0 e.1
            ∙ sym (and_then_ok (s, e.0) h (at_entry s w e.0 e.1))
        by s w (inr a) =
            and_then_no 5 f (entry_missing g I max_depth t u q l s (way_found max_depth way t s w) a)
            ∙ sym (and_then_no 5 h (at_missing s w a))

        stopped : (n : Name) (k : ℕ) → entry_of (area_of g) I q ≡ on_name n (refused k)
            → spot_at way last t ≡ on_name n (refused k)
            → and_then (entry_of (area_of g) I q) f ≡ and_then (spot_at way last t) h
        stopped [] k a b = and_then_no 5 f a ∙ sym (and_then_no 5 h b)
        stopped (c ∷ n) k a b = and_then_no k f a ∙ sym (and_then_no k h b)

        go : (r : Reply Some) → way_to max_depth way t ≡ r
            → and_then (entry_of (area_of g) I q) f ≡ and_then (spot_at way last t) h
        go (accepted s) w = by s w (lookup_or last s.1)
        go (refused k) w = stopped last k (entry_stops g I max_depth t u q l k w) (at_stops k w)
