-- D2: on a well-formed volume a create, of a file or a directory, answers what the tree says.
use mathlib.Core.Path.{◌≡◌, refl, sym, ap, ◌∙◌}
use mathlib.Core.Bool.{true, false}
use mathlib.Core.Logic.{◌⊎◌, inl, inr}
use mathlib.Core.Option.{some}
use mathlib.Core.List.{List}
use Prim.Native.Nat.{ℕ, zero, suc, ◌≤◌}
use native.Mathlib.Omega.{arith}
use lib.ListN.{length}
use Rattle.wire.proofs.Picks.{either}
use Rattle.model.specs.Answers.{Reply, accepted, refused, and_then, when, reply, given}
use Rattle.model.specs.Tree.{Some, find}
use Rattle.model.specs.Geometry.{Mount, geo_at}
use Rattle.model.specs.Volume.{WellFormed, max_depth}
use Rattle.model.specs.Calls.{free_blocks}
use Rattle.model.specs.Steps.{Bytes}
use Rattle.model.proofs.Replies.{given_none, given_yes, given_no, given_refuses, and_then_ok, and_then_no, reply-none, reply_suc}
use Rattle.check_bitmap.specs.Tally.{mark_long}
use Rattle.dir_entry.specs.declared.Kind.{Kind}
use Rattle.dir_entry.specs.declared.Kind.TheVariants.{Dir, File}
use Rattle.path.specs.Path.{real_path, bad_path, path_refusal}
use Rattle.path.proofs.FullPaths.{real_bytes}
use Rattle.thm_path.specs.Shown.{way_to}
use Rattle.create.specs.Creating.{Site, Fresh, bad_name, site_in, site_of, fresh_of, created_on}
use Rattle.create.specs.OnTree.{tree_refusal}
use Rattle.create.proofs.Trees.{answer_is, created_block}
use Rattle.call_read.specs.declared.OpenOut.{OpenOut}
use Rattle.call_read.specs.Reading.{open_says}
use Rattle.call_change.specs.Changing.{create_reply, fresh_handle, plainly, CreatesFile, CreatesDir}
use Rattle.thm_calls.specs.Named.{way_of, last_of}
use Rattle.thm_calls.proofs.Changing.{volume_at}
use Rattle.promises.specs.Refusals.{fresh_in, create_answer}
use Rattle.promises.proofs.Spots.{way_found, hold_stops}
use Rattle.promises.proofs.Deletes.{change_is}
use Rattle.std.specs.Prelude.{Result}
use Rattle.limits.specs.Says.{says}
use Rattle.limits.specs.declared.Refusal.{Refusal}

-- what is refused has no value
fresh-refused : {A B : Type 0} (r : Reply A) (f : A → Reply B) (j k : ℕ) → r ≡ given j (refused k)
    → and_then r f ≡ given j (refused k)
unfolding given
fresh-refused r f zero k e = and_then_no k f e
fresh-refused r f (suc j) k e = and_then_no (suc j) f e

module _ (M : Mount) (I W : List ℕ) (b : Bytes I) (w : WellFormed M I) (long : mark_long (geo_at M I) ≤ length W) (k : Kind)
    (cwd p : List ℕ) where
  abbrev free : List ℕ
  free = free_blocks (geo_at M I) max_depth w.tree

  abbrev tests : Some → ℕ
  tests s = tree_refusal (geo_at M I) free k (last_of cwd p) s

  abbrev in_dir : Some → Reply Fresh
  in_dir s = reply (tests s) (fresh_in (geo_at M I) (last_of cwd p) free s)

  abbrev unnamed : ℕ
  unnamed = when 8 (bad_name (last_of cwd p))

  abbrev Said : Type 0
  Said = created_on (geo_at M I) I k (real_path cwd p) ≡ given unnamed (and_then (way_to max_depth (way_of cwd p) w.tree) in_dir)

  -- a way that stops
  way_stops : (j : ℕ) → way_to max_depth (way_of cwd p) w.tree ≡ refused j → Said
  unfolding created_on fresh_of site_of
  way_stops j e =
      fresh-refused (site_of (geo_at M I) I k (real_path cwd p)) _ unnamed j
      (ap (given unnamed) (and_then_no j (site_in (geo_at M I) I k (last_of cwd p))
      (hold_stops (geo_at M I) I w.tree _ (volume_at M I w).laid (way_of cwd p) j e)))
      ∙ ap (given unnamed) (sym (and_then_no j in_dir e))

  -- a directory: the name, then the tree's tests, then the blocks
  in_dir_lem : bad_path cwd p ≡ false → (s : Some) → way_to max_depth (way_of cwd p) w.tree ≡ accepted s → Said
  unfolding created_on fresh_of
  in_dir_lem good s e = go (either (bad_name (last_of cwd p))) (tests s) refl
    where
      f : find max_depth (way_of cwd p) w.tree ≡ some s
      f = way_found max_depth (way_of cwd p) w.tree s e

      site : (x : Site) × (site_of (geo_at M I) I k (real_path cwd p) ≡ given unnamed (given (tests s) (accepted x)))
      site = answer_is (geo_at M I) I w.tree (volume_at M I w) k (real_path cwd p) s f

      go : (bad_name (last_of cwd p) ≡ true) ⊎ (bad_name (last_of cwd p) ≡ false) → (j : ℕ) → tests s ≡ j → Said
      go (inl h) j z = and_then_no 8 _ (site.1 ∙ given_yes 8 _ (omega arith) h) ∙ sym (given_yes 8 _ (omega arith) h)
      go (inr h) zero z =
          created_block (geo_at M I) I w.tree (volume_at M I w) k (real_path cwd p) (real_bytes cwd p good) site.0
          (site.1 ∙ given_no 8 _ h ∙ given_none _ z) s f
          ∙ sym (given_no 8 _ h ∙ and_then_ok s in_dir e ∙ reply-none _ z)
      go (inr h) (suc j) z =
          and_then_no (suc j) _ (site.1 ∙ given_no 8 _ h ∙ ap (λ (i : ℕ). given i (accepted site.0)) z
          ∙ given_refuses (suc j) _ (omega arith))
          ∙ sym (given_no 8 _ h ∙ and_then_ok s in_dir e ∙ ap (λ (i : ℕ). reply i (fresh_in (geo_at M I) (last_of cwd p) free s)) z
          ∙ reply_suc (suc j) _ (omega arith))

  -- A create is refused by 4, 8, 5, 6, 15, 7 and 9 just where the tree says, and else answers the blocks.
  create_is : create_reply k M I (length W) cwd p ≡ create_answer (geo_at M I) k cwd p w.tree
  unfolding create_reply create_answer
  create_is =
      search (ap (λ (j : ℕ). given j (created_on (geo_at M I) I k (real_path cwd p))) (change_is M I W b w long cwd p)
      ∙ go (either (bad_path cwd p)) (way_to max_depth (way_of cwd p) w.tree) refl)
    where
      go : (bad_path cwd p ≡ true) ⊎ (bad_path cwd p ≡ false) → (r : Reply Some) → way_to max_depth (way_of cwd p) w.tree ≡ r
          → given (path_refusal cwd p) (created_on (geo_at M I) I k (real_path cwd p)) ≡ given (path_refusal cwd p)
          (given unnamed (and_then (way_to max_depth (way_of cwd p) w.tree) in_dir))
      go (inl h) r e = given_yes 4 _ (omega arith) h ∙ sym (given_yes 4 _ (omega arith) h)
      go (inr h) (accepted s) e = ap (given (path_refusal cwd p)) (in_dir_lem h s e)
      go (inr h) (refused j) e = ap (given (path_refusal cwd p)) (way_stops j e)

module _ (M : Mount) (I W : List ℕ) (b : Bytes I) (w : WellFormed M I) (long : mark_long (geo_at M I) ≤ length W) (cwd p : List ℕ)
    (now : ℕ) where
  pub creates_file : (o : OpenOut) (J Z : List ℕ) → CreatesFile M I W cwd p now o J Z
      → open_says o ≡ and_then (create_answer (geo_at M I) File cwd p w.tree) (λ f. accepted (fresh_handle (last_of cwd p) f))
  creates_file o J Z c = c.answer.answer
      ∙ ap (λ (r : Reply Fresh). and_then r (λ f. accepted (fresh_handle (last_of cwd p) f))) (create_is M I W b w long File cwd p)

  pub creates_dir : (r : Result (Unit {0}) Refusal) (J Z : List ℕ) → CreatesDir M I W cwd p now r J Z
      → says r ≡ plainly (create_answer (geo_at M I) Dir cwd p w.tree)
  creates_dir r J Z c = c.answer ∙ ap plainly (create_is M I W b w long Dir cwd p)
