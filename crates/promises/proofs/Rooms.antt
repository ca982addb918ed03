-- R9: on a well-formed volume 9 is given exactly where too few blocks are free in reach.
use mathlib.Core.Path.{◌≡◌, refl, sym, ap, ◌∙◌}
use mathlib.Core.Bool.{true, false, ◌&&◌}
use mathlib.Core.Logic.{◌⊎◌, inl, inr, ◌↔◌}
use mathlib.Core.List.{List}
use Prim.Native.Nat.{ℕ, zero, suc, ◌≤◌}
use native.Mathlib.Omega.{arith}
use lib.Dec.{eqb}
use lib.ListN.{length}
use borrow.Author.Tests.{ne_eqb}
use Rattle.wire.proofs.Picks.{either, not_both}
use Rattle.model.specs.Answers.{Reply, accepted, refused, and_then, when, reply, given}
use Rattle.model.specs.Tree.{Tree, Some}
use Rattle.model.specs.Geometry.{Mount, Geo, geo_at}
use Rattle.model.specs.Volume.{WellFormed, max_depth}
use Rattle.model.specs.Calls.{free_blocks}
use Rattle.model.specs.Steps.{Bytes}
use Rattle.model.proofs.Replies.{not_accepted, refused-one, given_yes, given_no, and_then_ok, and_then_no, first_refused, reply_suc}
use Rattle.check_bitmap.specs.Tally.{mark_long}
use Rattle.dir_entry.specs.declared.Kind.{Kind}
use Rattle.dir_entry.specs.declared.Kind.TheVariants as kind
use Rattle.dir_entry.specs.Entry.{is_dir}
use Rattle.path.specs.Path.{bad_path}
use Rattle.thm_path.specs.Shown.{way_to}
use Rattle.create.specs.Creating.{Fresh, bad_name}
use Rattle.create.specs.OnTree.{tree_refusal}
use Rattle.create.proofs.Trees.{tree_full}
use Rattle.handle.specs.declared.Handle.{Handle}
use Rattle.handle.specs.declared.CountedOut.{CountedOut}
use Rattle.write.specs.OnTree.{NoRoom}
use Rattle.write.specs.Writing.{target_of}
use Rattle.write.proofs.Targets.{no_room_lem}
use Rattle.call_read.specs.declared.OpenOut.{OpenOut}
use Rattle.call_read.specs.Reading.{open_says}
use Rattle.call_change.specs.Changing.{fresh_handle, CreatesFile, CreatesDir, Writes}
use Rattle.thm_calls.specs.Named.{way_of, last_of}
use Rattle.thm_calls.proofs.Changing.{volume_at}
use Rattle.promises.specs.Honest.{CreateFull}
use Rattle.promises.specs.Refusals.{fresh_in, create_answer}
use Rattle.promises.proofs.Spots.{way_found, way_number, found_way}
use Rattle.promises.proofs.Creates.{creates_file, creates_dir}
use Rattle.promises.proofs.Handles.{write_says}
use Rattle.std.specs.Prelude.{Result}
use Rattle.limits.specs.Says.{says}
use Rattle.limits.specs.declared.Refusal.{Refusal}

-- the number of a refused answer
reply_number : {A : Type 0} (j k : ℕ) (a : A) → reply j a ≡ refused k → j ≡ k
unfolding reply
reply_number zero k a e = absurd (not_accepted k a (sym e))
reply_number (suc j) k a e = refused-one (suc j) k e

-- a new directory is not at depth 17 where the one that holds it has a level left
not_deep : (k : Kind) (d : ℕ) → (is_dir k && eqb d 0) ≡ false → k ≡ kind.Dir → 1 ≤ d
not_deep k zero h e = absurd (not_both (ap (λ (x : Kind). is_dir x && true) e) h)
not_deep k (suc d) h e = omega arith

deep_not : (k : Kind) (d : ℕ) → (k ≡ kind.Dir → 1 ≤ d) → (is_dir k && eqb d 0) ≡ false
deep_not kind.Dir d h = ne_eqb d 0 (λ z. omega (arith, h refl))
deep_not kind.File d h = refl
deep_not kind.Device d h = refl

-- ---- create, on the tree

module _ (g : Geo) (k : Kind) (cwd p : List ℕ) (good : bad_path cwd p ≡ false) (t : Tree max_depth) where
  abbrev Full : Type 0
  Full = CreateFull g k max_depth (way_of cwd p) (last_of cwd p) t

  abbrev tests : Some → ℕ
  tests s = tree_refusal g (free_blocks g max_depth t) k (last_of cwd p) s

  abbrev in_dir : Some → Reply Fresh
  in_dir s = reply (tests s) (fresh_in g (last_of cwd p) (free_blocks g max_depth t) s)

  abbrev named : Reply Fresh
  named = given (when 8 (bad_name (last_of cwd p))) (and_then (way_to max_depth (way_of cwd p) t) in_dir)

  full_from : named ≡ refused 9 → Full
  full_from e = go (either (bad_name (last_of cwd p))) (way_to max_depth (way_of cwd p) t) refl
    where
      stopped : (j : ℕ) → (j ≡ 5) ⊎ (j ≡ 6) → j ≡ 9 → ⊥
      stopped j (inl x) z = omega arith
      stopped j (inr x) z = omega arith

      go : (bad_name (last_of cwd p) ≡ true) ⊎ (bad_name (last_of cwd p) ≡ false) → (r : Reply Some)
          → way_to max_depth (way_of cwd p) t ≡ r → Full
      go (inl b) r w =
          let z : ◌≡◌ {A = ℕ} 8 9 = refused-one {A = Fresh} 8 9
          (sym (given_yes 8 (and_then (way_to max_depth (way_of cwd p) t) in_dir) (omega arith) b) ∙ e) in
          absurd (omega arith)
      go (inr b) (refused j) w =
          absurd (stopped j (way_number max_depth (way_of cwd p) t j w)
          (refused-one {A = Fresh} j 9 (sym
          (given_no 8 (and_then (way_to max_depth (way_of cwd p) t) in_dir) b ∙ and_then_no j in_dir w) ∙ e)))
      go (inr b) (accepted s) w =
          let n : tests s ≡ 9 = reply_number (tests s) 9 _
          (sym (given_no 8 (and_then (way_to max_depth (way_of cwd p) t) in_dir) b ∙ and_then_ok s in_dir w) ∙ e) in
          let q = (tree_full g (free_blocks g max_depth t) k (last_of cwd p) s).0 n in
          record {
            may = record {
              named = b;
              vacant = record { dir = s; there = way_found max_depth (way_of cwd p) t s w; free = q.1 };
              shallow = λ z. omega (arith, not_deep k s.0 q.0 z);
            };
            few = omega (arith, q.2);
          }

  full_to : Full → named ≡ refused 9
  full_to f =
      let s : Some = f.may.vacant.dir in
      let n : tests s ≡ 9
      = (tree_full g (free_blocks g max_depth t) k (last_of cwd p) s).1
      (deep_not k s.0 (λ z. omega (arith, f.may.shallow z)), f.may.vacant.free, omega (arith, f.few)) in
      given_no 8 _ f.may.named ∙ and_then_ok s in_dir (found_way max_depth (way_of cwd p) t s f.may.vacant.there)
      ∙ ap (λ (j : ℕ). reply j (fresh_in g (last_of cwd p) (free_blocks g max_depth t) s)) n ∙ reply_suc 9 _ (omega arith)

  -- 9 exactly where there is no room, whatever is made of the blocks that are answered
  full_is : {A : Type 0} (f : Fresh → A) → (and_then (create_answer g k cwd p t) (λ x. accepted (f x)) ≡ refused 9) ↔ Full
  unfolding create_answer
  full_is f = (
    λ e. full_from (sym (given_no 4 named good) ∙ first_refused (given (when 4 (bad_path cwd p)) named) f 9 e),
    λ h. and_then_no 9 _ (given_no 4 named good ∙ full_to h),
  )

-- ---- the calls

module _ (M : Mount) (I W : List ℕ) (b : Bytes I) (w : WellFormed M I) (long : mark_long (geo_at M I) ≤ length W) where
  pub write_full : (h : Handle) (buf : List ℕ) (now : ℕ) (o : CountedOut) (J Z : List ℕ) → Writes M I W h buf now o J Z
      → (says o.answer ≡ refused 9) ↔ NoRoom (geo_at M I) max_depth w.tree h (length buf)
  write_full h buf now o J Z c =
      let r = no_room_lem (geo_at M I) I w.tree (volume_at M I w) h (length buf) in
      let says = write_says M I W b w long h buf now o J Z c in (
        λ e. r.0 (first_refused (target_of (geo_at M I) I h (length buf)) (λ x. length buf) 9 (sym says ∙ e)),
        λ n. says ∙ and_then_no 9 (λ x. accepted (length buf)) (r.1 n),
      )

  module _ (cwd p : List ℕ) (good : bad_path cwd p ≡ false) (now : ℕ) where
    pub create_full : (o : OpenOut) (J Z : List ℕ) → CreatesFile M I W cwd p now o J Z
        → (open_says o ≡ refused 9) ↔ CreateFull (geo_at M I) kind.File max_depth (way_of cwd p) (last_of cwd p) w.tree
    create_full o J Z c =
        let r = full_is (geo_at M I) kind.File cwd p good w.tree (fresh_handle (last_of cwd p)) in
        let says = creates_file M I W b w long cwd p now o J Z c in
        (λ e. r.0 (sym says ∙ e), λ f. says ∙ r.1 f)

    pub create_dir_full : (q : Result (Unit {0}) Refusal) (J Z : List ℕ) → CreatesDir M I W cwd p now q J Z
        → (says q ≡ refused 9) ↔ CreateFull (geo_at M I) kind.Dir max_depth (way_of cwd p) (last_of cwd p) w.tree
    create_dir_full q J Z c =
        let r = full_is (geo_at M I) kind.Dir cwd p good w.tree (λ x. tt) in
        let said = creates_dir M I W b w long cwd p now q J Z c in
        (λ e. r.0 (sym said ∙ e), λ f. said ∙ r.1 f)
