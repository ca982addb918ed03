-- The public changing calls and the tree: an accepted one is the model's, and leaves a well-formed image; a refused one leaves all as it was.
use mathlib.Core.Path.{◌≡◌, refl, sym, ap, ◌∙◌, subst}
use Rattle.write.specs.Writing.{image_at as written_at}
use Rattle.delete.specs.Deleting.{image_at as deleted_at}
use Rattle.create.specs.Creating.{image_at as created_at}
use mathlib.Core.Bool.{false}
use mathlib.Core.List.{List}
use Prim.Native.Nat.{ℕ, zero, suc, ◌^◌, ◌<◌}
use native.Mathlib.Omega.{arith}
use lib.ListN.{length}
use Rattle.model.specs.Answers.{Reply, accepted, refused, and_then, settle, given}
use Rattle.limits.specs.Refusals.{refusal_number}
use Rattle.limits.specs.declared.Refusal.{Refusal}
use Rattle.model.specs.Tree.{Name, Tree}
use Rattle.model.specs.Geometry.{Mount, Geo, geo_at}
use Rattle.model.specs.Volume.{GoodName, Volume, WellFormed, max_depth}
use Rattle.model.specs.Steps.{Bytes}
use Rattle.model.specs.Calls.{DirAt, Makes, TreeCreatesFile, TreeCreatesDir, TreeDeletes, TreeWrites}
use Rattle.model.proofs.OneVolume.{well_formed_geo, well_formed_one}
use Rattle.model.proofs.Opens.{when-none, first_of_zero, first_of_one}
use Rattle.model.proofs.Replies.{settle-none, given_accepted, then-accepted, first_refused, accepted-one}
use Rattle.dir_entry.specs.declared.Kind.{Kind}
use Rattle.dir_entry.specs.declared.Kind.TheVariants as kind
use Rattle.path.specs.Path.{real_path, bad_path, last_name}
use Rattle.path.proofs.FullPaths.{real_bytes}
use Rattle.create.specs.Creating.{Site, Fresh, site_of, fresh_of, created_on, created_image}
use Rattle.create.proofs.Trees.{created_file, created_dir_lem}
use Rattle.delete.specs.Deleting.{Doomed, doomed_of, deleted_on, deleted_image}
use Rattle.delete.proofs.OnVolume.{deleted_is}
use Rattle.handle.specs.declared.Handle.{Handle}
use Rattle.handle.specs.declared.CountedOut.{CountedOut}
use Rattle.handle.specs.Handles.{name_of}
use Rattle.write.specs.Writing.{Target, target_of, written_image, grown_handle, handle_after, count_of}
use Rattle.write.proofs.Targets.{written_is}
use Rattle.call_read.specs.declared.OpenOut.{OpenOut}
use Rattle.call_read.specs.Says.{on_answer, IfRefused}
use Rattle.call_read.specs.Reading.{no_handle}
use Rattle.call_volume.specs.Checking.{check_refusal}
use Rattle.call_change.specs.Changing.{change_call, create_reply, create_image, fresh_handle, CreatesFile, CreatesDir, Deletes, write_reply, Writes}
use Rattle.call_volume.proofs.Checked.{check_passed}
use Rattle.thm_calls.specs.Named.{way_of, last_of}
use Rattle.thm_calls.proofs.Stored.{bytes_inserted, bytes_removed, bytes_wrote}
use Rattle.std.specs.Prelude.{Result, Ok, Err}
use Rattle.limits.specs.Says.{says}

-- ---- answers

-- What a refused call leaves: by an earlier refusal, or by its own, which leaves y too.
pub settle_kept : {A B : Type 0} (k : ℕ) (r : Reply A) (j : ℕ) (x y : B) → given k r ≡ refused j → ((i : ℕ) → r ≡ refused i → x ≡ y) → settle k x y ≡ y
unfolding given settle
settle_kept zero r j x y e f = f j e
settle_kept (suc k) r j x y e f = refl

-- ---- the image afterwards

-- the tree is laid out by the numbers that the superblock says
pub volume_at : (M : Mount) (I : List ℕ) (w : WellFormed M I) → Volume (geo_at M I) I max_depth w.tree
volume_at M I w = subst (λ (g : Geo). Volume g I max_depth w.tree) (well_formed_geo M I w) w.volume

-- What a changing call makes of a well-formed image is a well-formed image, of the new tree.
well_after : (M : Mount) (I J : List ℕ) → WellFormed M I → (t u : Tree max_depth) → Makes (geo_at M I) max_depth t u I J → WellFormed M J
well_after M I J w t u m = record { numbers = geo_at M I; here = refl; tree = u; volume = m.volume }

-- and however J is found well formed, its tree is that one.
pub tree_after : (M : Mount) (I J : List ℕ) → WellFormed M I → (t u : Tree max_depth) → Makes (geo_at M I) max_depth t u I J → (v : WellFormed M J) → v.tree ≡ u
unfolding well_after
tree_after M I J w t u m v = (well_formed_one M J v (well_after M I J w t u m)).1

-- ---- create and delete

module _ (M : Mount) (I W cwd p : List ℕ) (now : ℕ) (J Z : List ℕ) where
  -- none of 1, 2, 3, 16, 17, and not 4
  call_none : change_call M I (length W) cwd p ≡ 0 → (check_refusal M I (length W) ≡ 0) × (bad_path cwd p ≡ false)
  unfolding change_call
  call_none e =
      let q = first_of_zero _ _ e in
      (q.0, when-none 4 _ (omega arith) (sym (first_of_one _) ∙ q.1))

  -- what an accepted create has passed
  create_passed : (k : Kind) (f : Fresh) → create_reply k M I (length W) cwd p ≡ accepted f
      → (change_call M I (length W) cwd p ≡ 0) × (x : Site) × (site_of (geo_at M I) I k (real_path cwd p) ≡ accepted x)
  unfolding create_reply created_on fresh_of
  create_passed k f e =
      let a = given_accepted (change_call M I (length W) cwd p) _ f e in
      let b = then-accepted (site_of (geo_at M I) I k (real_path cwd p)) _ f a.1 in
      (a.0, b.0, b.1)

  create_image_lem : (k : Kind) → change_call M I (length W) cwd p ≡ 0 → J ≡ create_image k M I (length W) cwd p now → J ≡ created_image (geo_at M I) I k (real_path cwd p) now
  unfolding create_image
  create_image_lem k e j = j ∙ settle-none _ I e

  -- a refused create leaves the image
  create_kept : (k : Kind) (j : ℕ) → create_reply k M I (length W) cwd p ≡ refused j → create_image k M I (length W) cwd p now ≡ I
  unfolding create_reply created_on fresh_of create_image created_image
  create_kept k j e =
      settle_kept (change_call M I (length W) cwd p) _ j _ I e (λ i h.
      let b = first_refused (site_of (geo_at M I) I k (real_path cwd p)) _ i h in
      ap (created_at (geo_at M I) I k (last_name (real_path cwd p)) now) b)

  -- an accepted create stores bytes, where its name is a good one
  create_bytes : (k : Kind) (x : Site) → Bytes I → site_of (geo_at M I) I k (real_path cwd p) ≡ accepted x → GoodName (last_of cwd p)
      → Bytes (created_image (geo_at M I) I k (real_path cwd p) now)
  unfolding created_image
  create_bytes k x b e n =
      subst (λ (r : Reply Site). Bytes (created_at (geo_at M I) I k (last_of cwd p) now r)) (sym e)
      (bytes_inserted (geo_at M I) I b x.dir x.spot x.own k (last_of cwd p) n now)

  module _ (o : OpenOut) (c : CreatesFile M I W cwd p now o J Z) where
    file_passed : o.answer ≡ Ok tt
        → (change_call M I (length W) cwd p ≡ 0) × (x : Site) × (site_of (geo_at M I) I kind.File (real_path cwd p) ≡ accepted x)
    file_passed e =
        let a : accepted o.handle ≡ and_then (create_reply kind.File M I (length W) cwd p) (λ f. accepted (fresh_handle (last_name (real_path cwd p)) f))
        = ap (λ (x : Result (Unit {0}) Refusal). on_answer x o.handle) (sym e) ∙ c.answer.answer in
        let b = then-accepted (create_reply kind.File M I (length W) cwd p) _ o.handle (sym a) in
        create_passed kind.File b.0 b.1

    -- An accepted create of a file: the image was well formed,
    pub create_file_before : Bytes I → o.answer ≡ Ok tt → WellFormed M I
    create_file_before b e = (check_passed M I (length W) b (call_none (file_passed e).0).0).2

    -- and it is the model's create on its tree.
    pub create_file_tree : (w : WellFormed M I) → now < 2 ^ 64 → o.answer ≡ Ok tt → TreeCreatesFile (geo_at M I) max_depth (way_of cwd p) (last_of cwd p) now w.tree I J
    create_file_tree w clock e =
        let a = file_passed e in
        subst (λ (X : List ℕ). TreeCreatesFile (geo_at M I) max_depth (way_of cwd p) (last_of cwd p) now w.tree I X) (sym (create_image_lem kind.File a.0 c.image))
        (created_file (geo_at M I) I w.tree (volume_at M I w) (real_path cwd p) now (real_bytes cwd p (call_none a.0).1) clock a.1 a.2)

    -- The image afterwards is well formed,
    pub create_file_well : Bytes I → now < 2 ^ 64 → o.answer ≡ Ok tt → WellFormed M J
    create_file_well b clock e = let w = create_file_before b e in well_after M I J w _ _ (create_file_tree w clock e).makes

    -- a list of bytes.
    pub create_file_bytes : Bytes I → now < 2 ^ 64 → o.answer ≡ Ok tt → Bytes J
    create_file_bytes b clock e =
        let a = file_passed e in
        subst Bytes (sym (create_image_lem kind.File a.0 c.image))
        (create_bytes kind.File a.1 b a.2 (create_file_tree (create_file_before b e) clock e).name)

    -- A refused create leaves the image, and answers no handle.
    pub create_file_kept : (x : Refusal) → o.answer ≡ Err x → (J ≡ I) × (o.handle ≡ no_handle)
    create_file_kept x e =
        let a : refused (refusal_number x) ≡ and_then (create_reply kind.File M I (length W) cwd p) (λ f. accepted (fresh_handle (last_name (real_path cwd p)) f))
        = ap (λ (y : Result (Unit {0}) Refusal). on_answer y o.handle) (sym e) ∙ c.answer.answer in
        let b = first_refused (create_reply kind.File M I (length W) cwd p) _ (refusal_number x) (sym a) in
        (c.image ∙ create_kept kind.File (refusal_number x) b, subst (λ (y : Result (Unit {0}) Refusal). IfRefused y (o.handle ≡ no_handle)) e c.answer.empty)

  module _ (r : Result (Unit {0}) Refusal) (c : CreatesDir M I W cwd p now r J Z) where
    dir_passed : r ≡ Ok tt → (change_call M I (length W) cwd p ≡ 0) × (x : Site) × (site_of (geo_at M I) I kind.Dir (real_path cwd p) ≡ accepted x)
    dir_passed e =
        let b = then-accepted (create_reply kind.Dir M I (length W) cwd p) _ tt (sym (ap says (sym e) ∙ c.answer)) in
        create_passed kind.Dir b.0 b.1

    -- Likewise an accepted create of a directory.
    pub create_dir_before : Bytes I → r ≡ Ok tt → WellFormed M I
    create_dir_before b e = (check_passed M I (length W) b (call_none (dir_passed e).0).0).2

    pub create_dir_tree : (w : WellFormed M I) → now < 2 ^ 64 → r ≡ Ok tt → TreeCreatesDir (geo_at M I) max_depth (way_of cwd p) (last_of cwd p) now w.tree I J
    create_dir_tree w clock e =
        let a = dir_passed e in
        subst (λ (X : List ℕ). TreeCreatesDir (geo_at M I) max_depth (way_of cwd p) (last_of cwd p) now w.tree I X) (sym (create_image_lem kind.Dir a.0 c.image))
        (created_dir_lem (geo_at M I) I w.tree (volume_at M I w) (real_path cwd p) now (real_bytes cwd p (call_none a.0).1) clock a.1 a.2)

    pub create_dir_well : Bytes I → now < 2 ^ 64 → r ≡ Ok tt → WellFormed M J
    create_dir_well b clock e = let w = create_dir_before b e in well_after M I J w _ _ (create_dir_tree w clock e).makes

    pub create_dir_kept : (x : Refusal) → r ≡ Err x → J ≡ I
    create_dir_kept x e =
        let b = first_refused (create_reply kind.Dir M I (length W) cwd p) (λ f. tt) (refusal_number x) (sym (ap says (sym e) ∙ c.answer)) in
        c.image ∙ create_kept kind.Dir (refusal_number x) b

  module _ (r : Result (Unit {0}) Refusal) (c : Deletes M I W cwd p now r J Z) where
    delete_passed : r ≡ Ok tt → (change_call M I (length W) cwd p ≡ 0) × (x : Doomed) × (doomed_of (geo_at M I) I (real_path cwd p) ≡ accepted x)
    unfolding deleted_on
    delete_passed e =
        let a = given_accepted (change_call M I (length W) cwd p) _ tt (sym (ap says (sym e) ∙ c.answer)) in
        let b = then-accepted (doomed_of (geo_at M I) I (real_path cwd p)) _ tt a.1 in
        (a.0, b.0, b.1)

    -- Likewise an accepted delete.
    pub delete_before : Bytes I → r ≡ Ok tt → WellFormed M I
    delete_before b e = (check_passed M I (length W) b (call_none (delete_passed e).0).0).2

    pub delete_tree : (w : WellFormed M I) → now < 2 ^ 64 → r ≡ Ok tt → TreeDeletes (geo_at M I) max_depth (way_of cwd p) (last_of cwd p) now w.tree I J
    delete_tree w clock e =
        let a = delete_passed e in
        subst (λ (X : List ℕ). TreeDeletes (geo_at M I) max_depth (way_of cwd p) (last_of cwd p) now w.tree I X) (sym (c.image ∙ settle-none _ I a.0))
        (deleted_is (geo_at M I) I max_depth w.tree (real_path cwd p) (volume_at M I w) now a.1 clock a.2)

    pub delete_well : Bytes I → now < 2 ^ 64 → r ≡ Ok tt → WellFormed M J
    delete_well b clock e = let w = delete_before b e in well_after M I J w _ _ (delete_tree w clock e).makes

    pub delete_bytes : Bytes I → r ≡ Ok tt → Bytes J
    unfolding deleted_image
    delete_bytes b e =
        let a = delete_passed e in
        let d : Doomed = a.1 in
        subst Bytes (sym (c.image ∙ settle-none _ I a.0))
        (subst (λ (x : Reply Doomed). Bytes (deleted_at (geo_at M I) I now x)) (sym a.2)
        (bytes_removed (geo_at M I) I b d.dir d.entry d.place d.own now))

    pub delete_kept : (x : Refusal) → r ≡ Err x → J ≡ I
    unfolding deleted_on deleted_image
    delete_kept x e =
        c.image ∙ settle_kept (change_call M I (length W) cwd p) _ (refusal_number x) _ I (sym (ap says (sym e) ∙ c.answer)) (λ i h.
        let b = first_refused (doomed_of (geo_at M I) I (real_path cwd p)) (λ d. tt) i h in
        ap (deleted_at (geo_at M I) I now) b)

-- ---- write

module _ (M : Mount) (I W : List ℕ) (h : Handle) (buf : List ℕ) (now : ℕ) (o : CountedOut) (J Z : List ℕ) (c : Writes M I W h buf now o J Z) where
  write_reply_lem : (k : ℕ) → o.answer ≡ Ok k → (τ : Target) × (write_reply M I (length W) h (length buf) ≡ accepted τ)
  unfolding count_of
  write_reply_lem k e =
      let b = then-accepted (write_reply M I (length W) h (length buf)) _ k (sym (ap says (sym e) ∙ c.answer)) in
      (b.0, b.1)

  -- what it has passed
  pub write_passed : (k : ℕ) → o.answer ≡ Ok k → (check_refusal M I (length W) ≡ 0) × (τ : Target) × (target_of (geo_at M I) I h (length buf) ≡ accepted τ)
  unfolding write_reply
  write_passed k e =
      let b = write_reply_lem k e in
      let a = given_accepted (check_refusal M I (length W)) _ b.0 b.1 in
      (a.0, b.0, a.1)

  -- An accepted write: the image was well formed,
  pub write_before : (k : ℕ) → Bytes I → o.answer ≡ Ok k → WellFormed M I
  write_before k b e = (check_passed M I (length W) b (write_passed k e).0).2

  -- it is the model's write on the file of the handle,
  pub write_tree : (k : ℕ) (w : WellFormed M I) → now < 2 ^ 64 → o.answer ≡ Ok k
      → (q : List Name) × DirAt max_depth h.dir.0 q w.tree × TreeWrites (geo_at M I) max_depth q (name_of h) now h.position buf w.tree I J
  write_tree k w clock e =
      let a = write_passed k e in
      subst (λ (X : List ℕ). (q : List Name) × DirAt max_depth h.dir.0 q w.tree × TreeWrites (geo_at M I) max_depth q (name_of h) now h.position buf w.tree I X)
      (sym (c.image ∙ settle-none _ I a.0)) (written_is (geo_at M I) I w.tree (volume_at M I w) h buf now a.1 clock a.2)

  -- the image afterwards is well formed,
  pub write_well : (k : ℕ) → Bytes I → now < 2 ^ 64 → o.answer ≡ Ok k → WellFormed M J
  write_well k b clock e = let w = write_before k b e in well_after M I J w _ _ (write_tree k w clock e).2.makes

  -- a list of bytes where what is written is one,
  pub write_bytes : (k : ℕ) → Bytes I → Bytes buf → o.answer ≡ Ok k → Bytes J
  unfolding written_image
  write_bytes k b d e =
      let a = write_passed k e in
      let t : Target = a.1 in
      subst Bytes (sym (c.image ∙ settle-none _ I a.0))
      (subst (λ (x : Reply Target). Bytes (written_at (geo_at M I) I h buf now x)) (sym a.2)
      (bytes_wrote (geo_at M I) I b t.entry t.place h.position buf d now))

  -- and the handle stands at the file's new end.
  pub write_handle : (k : ℕ) → o.answer ≡ Ok k → (k ≡ length buf) × (o.handle ≡ grown_handle h (length buf))
  unfolding count_of and_then
  write_handle k e =
      let b = write_reply_lem k e in
      let n : accepted k ≡ accepted (length buf) = ap says (sym e) ∙ c.answer ∙ ap (count_of (length buf)) b.1 in
      (accepted-one k (length buf) n, c.handle ∙ ap (handle_after h (length buf)) b.1)

  -- A refused write leaves the image, and answers the very handle.
  pub write_kept : (x : Refusal) → o.answer ≡ Err x → (J ≡ I) × (o.handle ≡ h)
  unfolding count_of write_reply written_image
  write_kept x e =
      let b = first_refused (write_reply M I (length W) h (length buf)) (λ t. length buf) (refusal_number x) (sym (ap says (sym e) ∙ c.answer)) in
      (c.image ∙ settle_kept (check_refusal M I (length W)) _ (refusal_number x) _ I b (λ i f. ap (written_at (geo_at M I) I h buf now) f), c.handle ∙ ap (handle_after h (length buf)) b)
