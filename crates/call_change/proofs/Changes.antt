-- From a checked volume and an accepted path to the answer and the image of a changing call: the laws that create, delete and write share.
use mathlib.Core.Path.{◌≡◌, refl, sym, ap, ◌∙◌, subst}
use mathlib.Core.Bool.{true, false}
use mathlib.Core.Logic.{◌⊎◌, inl, inr}
use mathlib.Core.List.{List}
use Prim.Native.Nat.{ℕ, ◌≤◌}
use native.Mathlib.Omega.{arith}
use lib.Dec.{ltb, eqb}
use lib.ListN.{length, take}
use borrow.Author.Tests.{ltb-false}
use Rattle.std.specs.Prelude.{Ok, Err}
use Rattle.wire.proofs.Picks.{either}
use Rattle.model.specs.Answers.{Reply, accepted, refused, and_then, settle, given}
use Rattle.model.specs.Geometry.{Mount, Geo, mounted, geo_at, version_at, count_at}
use Rattle.model.specs.Volume.{WellFormed}
use Rattle.model.specs.Steps.{Bytes}
use Rattle.model.proofs.Opens.{when_true, when_false, first_of_head, first_of_tail, first_of_one, or_false}
use Rattle.model.proofs.Replies.{settle-none, given_none, given_some, given_yes, not_accepted, refused-one}
use Rattle.limits.specs.Refusals.{refusal_number}
use Rattle.limits.specs.declared.Refusal.{Refusal}
use Rattle.limits.proofs.Numbers.{number_some, settle-refused}
use Rattle.super_block.specs.declared.SuperBlock.{SuperBlock}
use Rattle.super_block.specs.Super.{mount_of, geo_of, Ready}
use Rattle.super_block.proofs.Fits.{opened_fit, opened-geo}
use Rattle.path.specs.Path.{path_limit, real_path, bad_path, path_refusal, last_name}
use Rattle.path.specs.Post.{RealIs}
use Rattle.path.proofs.FullPaths.{stores_take}
use Rattle.dir_entry.specs.declared.Kind.{Kind}
use Rattle.create.specs.Creating.{Fresh, fresh_of, bad_name, site_of, created_on, created_image}
use Rattle.delete.specs.Deleting.{deleted_on, deleted_image}
use Rattle.handle.specs.declared.Handle.{Handle}
use Rattle.handle.specs.Handles.{new_handle}
use Rattle.handle.specs.declared.CountedOut.{CountedOut}
use Rattle.write.specs.Writing.{target_of, written_image, handle_after, count_of}
use Rattle.write.specs.Written.{WriteIs}
use Rattle.call_volume.specs.Checking.{check_refusal, CheckedIs, Checked}
use Rattle.call_volume.proofs.Checked.{check_passed}
use Rattle.call_change.specs.Changing.{change_call, Begins, create_reply, create_image, fresh_handle, plainly, write_reply, Writes}

-- ---- the checked volume

-- What the inner calls ask.
pub ready : (M : Mount) (I : List ℕ) (len : ℕ) → Bytes I → (s : SuperBlock) → CheckedIs M I len (Ok s) → Ready s I
ready M I len b s q =
    let c = check_passed M I len b q.0 in
    let m : M ≡ mount_of s = sym (ap mounted (opened-geo M I s q.1)) in
    record {
      fit = opened_fit M I s c.1 q.1;
      well = subst (λ (x : Mount). WellFormed x I) m c.2;
      version = ap (λ (x : SuperBlock). x.version) q.1 ∙ ap (λ (x : Mount). version_at x I) m;
      count = ap (λ (x : SuperBlock). x.blocks) q.1 ∙ ap (λ (x : Mount). count_at x I) m;
    }

-- ---- what a change by a path begins with

module _ (M : Mount) (I W cwd p : List ℕ) where
  pub begin_no : (x : Refusal) → CheckedIs M I (length W) (Err x) → change_call M I (length W) cwd p ≡ refusal_number x
  unfolding change_call
  begin_no x f = first_of_head _ _ (omega (arith, f, number_some x)) ∙ f

  module _ (s : SuperBlock) (q : CheckedIs M I (length W) (Ok s)) (l m : List ℕ) where
    by_path : change_call M I (length W) cwd p ≡ path_refusal cwd p
    unfolding change_call
    by_path = first_of_tail _ _ q.0 ∙ first_of_one (path_refusal cwd p)

    pub begin_refused : (x : Refusal) → RealIs cwd p l m (Err x) → change_call M I (length W) cwd p ≡ refusal_number x
    begin_refused x h = by_path ∙ when_true 4 h.refused ∙ ap refusal_number (sym h.why)

    pub begun : Bytes I → (n : ℕ) → RealIs cwd p l m (Ok n) → length l ≡ path_limit → Begins M I W cwd p m s n
    begun b n h long =
        record {
          good = by_path ∙ when_false 4 h.good;
          ready = ready M I (length W) b s q;
          geo = opened-geo M I s q.1;
          within = h.fits;
          path = stores_take (bad_path cwd p) (real_path cwd p) l m n h long;
        }

-- ---- refused before

module _ (M : Mount) (I W cwd p : List ℕ) (x : Refusal) (e : change_call M I (length W) cwd p ≡ refusal_number x) where
  change_refused : {A : Type 0} (q : Reply A) → refused (refusal_number x) ≡ given (change_call M I (length W) cwd p) q
  change_refused q = sym (given_some (refusal_number x) q (number_some x) e)

  pub image_kept : (X : List ℕ) → I ≡ settle (change_call M I (length W) cwd p) X I
  image_kept X = sym (settle-refused X I x e)

  pub delete_no : refused (refusal_number x) ≡ given (change_call M I (length W) cwd p) (deleted_on (geo_at M I) I (real_path cwd p))
  delete_no = change_refused _

  pub create_no : (k : Kind) (f : Fresh → Reply Handle) → refused (refusal_number x) ≡ and_then (create_reply k M I (length W) cwd p) f
  unfolding create_reply and_then
  create_no k f = ap (λ (q : Reply Fresh). and_then q f) (change_refused (created_on (geo_at M I) I k (real_path cwd p)))

  pub create_kept : (k : Kind) (time : ℕ) → I ≡ create_image k M I (length W) cwd p time
  unfolding create_image
  create_kept k time = image_kept _

-- ---- at the full path

module _ (M : Mount) (I W cwd p l : List ℕ) (s : SuperBlock) (n : ℕ) (b : Begins M I W cwd p l s n) where
  at_path : {A : Type 0} (f : Geo → List ℕ → Reply A) → f (geo_of s) (take n l) ≡ given (change_call M I (length W) cwd p) (f (geo_at M I) (real_path cwd p))
  at_path f = (λ i. f (b.geo i) (b.path i)) ∙ sym (given_none _ b.good)

  image_at_path : (F : Geo → List ℕ → List ℕ) → F (geo_of s) (take n l) ≡ settle (change_call M I (length W) cwd p) (F (geo_at M I) (real_path cwd p)) I
  image_at_path F = (λ i. F (b.geo i) (b.path i)) ∙ sym (settle-none _ I b.good)

  pub delete_at : deleted_on (geo_of s) I (take n l) ≡ given (change_call M I (length W) cwd p) (deleted_on (geo_at M I) I (real_path cwd p))
  delete_at = at_path (λ g x. deleted_on g I x)

  pub delete_image : (time : ℕ) → deleted_image (geo_of s) I (take n l) time ≡ settle (change_call M I (length W) cwd p) (deleted_image (geo_at M I) I (real_path cwd p) time) I
  delete_image time = image_at_path (λ g x. deleted_image g I x time)

  pub create_at : (k : Kind) → created_on (geo_of s) I k (take n l) ≡ create_reply k M I (length W) cwd p
  unfolding create_reply
  create_at k = at_path (λ g x. created_on g I k x)

  pub create_image_at : (k : Kind) (time : ℕ) → created_image (geo_of s) I k (take n l) time ≡ create_image k M I (length W) cwd p time
  unfolding create_image
  create_image_at k time = image_at_path (λ g x. created_image g I k x time)

-- ---- the new entry's handle

-- a name that is refused is not created
not_bad : (x : List ℕ) → bad_name x ≡ false → length x ≤ 255
unfolding bad_name
not_bad x h = ltb-false 255 (length x) (or_false (eqb (length x) 0) (ltb 255 (length x)) h).1

bad_refused : (g : Geo) (I l : List ℕ) (k : Kind) (f : Fresh) → bad_name (last_name l) ≡ true → created_on g I k l ≡ accepted f → ⊥
unfolding created_on site_of fresh_of and_then
bad_refused g I l k f y e =
    let z : ◌≡◌ {A = Reply Fresh} (refused 8) (accepted f) = ap (fresh_of g I) (sym (given_yes 8 _ (omega arith) y)) ∙ e in
    let w : ◌≡◌ {A = ℕ} 0 1 = cc in omega arith

-- a name that was created has at most 255 bytes; y is that name, as code has it
pub created_short : (g : Geo) (I l : List ℕ) (k : Kind) (f : Fresh) → accepted f ≡ created_on g I k l → (y : List ℕ) → y ≡ last_name l → length y ≤ 255
created_short g I l k f e y i = subst (λ (z : List ℕ). length z ≤ 255) (sym i) (go (either (bad_name (last_name l))))
  where
    go : (bad_name (last_name l) ≡ true) ⊎ (bad_name (last_name l) ≡ false) → length (last_name l) ≤ 255
    go (inl b) = absurd (bad_refused g I l k f b (sym e))
    go (inr b) = not_bad (last_name l) b

module _ (r : Reply Fresh) where
  pub handle_lost : (x : Refusal) → refused (refusal_number x) ≡ r → (f : Fresh → Reply Handle) → refused (refusal_number x) ≡ and_then r f
  unfolding and_then
  handle_lost x e f = ap (λ (q : Reply Fresh). and_then q f) e

  pub handle_made : (f : Fresh) → accepted f ≡ r → (y x : List ℕ) → y ≡ x → (h : Handle) → h ≡ new_handle (record { 0 = f.dir }) y (record { 0 = f.block }) 0
      → accepted h ≡ and_then r (λ z. accepted (fresh_handle x z))
  unfolding and_then
  handle_made f e y x i h q =
      ap accepted (q ∙ ap (λ (z : List ℕ). fresh_handle z f) i) ∙ ap (λ (z : Reply Fresh). and_then z (λ z. accepted (fresh_handle x z))) e

-- a directory is created plainly: without what a handle would hold
pub plain_made : (r : Reply Fresh) (x : List ℕ) (h : Handle) → accepted h ≡ and_then r (λ z. accepted (fresh_handle x z)) → accepted tt ≡ plainly r
unfolding and_then
plain_made (accepted f) x h e = refl
plain_made (refused k) x h e = absurd (not_accepted k h (sym e))

pub plain_lost : (r : Reply Fresh) (x : List ℕ) (k : ℕ) → refused k ≡ and_then r (λ z. accepted (fresh_handle x z)) → refused k ≡ plainly r
unfolding and_then
plain_lost (accepted f) x k e = absurd (not_accepted k (fresh_handle x f) e)
plain_lost (refused j) x k e = ap refused (refused-one {A = Handle} k j e)

-- ---- write

module _ (M : Mount) (I W Z : List ℕ) (h : Handle) (buf : List ℕ) (time : ℕ) where
  pub write_no : (x : Refusal) → Checked M I W (Err x) Z → Writes M I W h buf time (record { answer = Err x; handle = h }) I Z
  unfolding write_reply count_of and_then
  write_no x c =
      let g : refused (refusal_number x) ≡ given (check_refusal M I (length W)) (target_of (geo_at M I) I h (length buf))
      = sym (given_some (refusal_number x) _ (number_some x) c.answer) in
      record {
        answer = ap (count_of (length buf)) g;
        handle = ap (handle_after h (length buf)) g;
        image = sym (settle-refused _ I x c.answer);
        work = c.work;
      }

  pub write_yes : (s : SuperBlock) → Checked M I W (Ok s) Z → (o : CountedOut) (J : List ℕ) → WriteIs (geo_of s) h buf time I J o → Writes M I W h buf time o J Z
  unfolding write_reply
  write_yes s c o J w =
      let g : geo_of s ≡ geo_at M I = opened-geo M I s c.answer.1 in
      let t : target_of (geo_of s) I h (length buf) ≡ given (check_refusal M I (length W)) (target_of (geo_at M I) I h (length buf))
      = ap (λ (x : Geo). target_of x I h (length buf)) g ∙ sym (given_none _ c.answer.0) in
      record {
        answer = w.answer ∙ ap (count_of (length buf)) t;
        handle = w.handle ∙ ap (handle_after h (length buf)) t;
        image = w.image ∙ ap (λ (x : Geo). written_image x I h buf time) g ∙ sym (settle-none _ I c.answer.0);
        work = c.work;
      }
