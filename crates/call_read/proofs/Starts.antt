-- From an opened volume and an accepted path to the answer of a call: the laws that open, info and list share.
use mathlib.Core.Path.{◌≡◌, sym, ap, ◌∙◌}
use mathlib.Core.List.{List}
use Prim.Native.Nat.{ℕ}
use native.Mathlib.Omega.{arith}
use lib.ListN.{length, take}
use Rattle.std.specs.Prelude.{Ok, Err}
use Rattle.block.specs.Block.{Area}
use Rattle.model.specs.Answers.{Reply, refused, given}
use Rattle.model.specs.Geometry.{Mount}
use Rattle.model.proofs.Opens.{when_true, when_false, first_of_head, first_of_tail, first_of_one}
use Rattle.model.proofs.Replies.{given_none, given_some}
use Rattle.limits.specs.Refusals.{refusal_number}
use Rattle.limits.specs.declared.Refusal.{Refusal}
use Rattle.limits.proofs.Numbers.{number_some}
use Rattle.super_block.specs.declared.SuperBlock.{SuperBlock}
use Rattle.super_block.specs.Super.{area_in, OpenedIs}
use Rattle.super_block.proofs.Fits.{opened_fit}
use Rattle.path.specs.Path.{path_limit, real_path, bad_path, path_refusal}
use Rattle.path.specs.Post.{RealIs}
use Rattle.path.proofs.FullPaths.{stores_take}
use Rattle.call_read.specs.Reading.{area_at, path_call, Starts, open_on, open_reply, info_on, info_reply, list_on, list_reply, records_on}

-- ---- what they begin with

-- an opened volume has the struct's data area
pub area_at_lem : (M : Mount) (I : List ℕ) (s : SuperBlock) → OpenedIs M I (Ok s) → area_in s ≡ area_at M I
area_at_lem M I s o = ap area_in o.1

module _ (M : Mount) (I cwd p : List ℕ) where
  pub start_no : (x : Refusal) → OpenedIs M I (Err x) → path_call M I cwd p ≡ refusal_number x
  unfolding path_call
  start_no x f = first_of_head _ _ (omega (arith, f, number_some x)) ∙ f

  module _ (s : SuperBlock) (o : OpenedIs M I (Ok s)) (l m : List ℕ) where
    by_path : path_call M I cwd p ≡ path_refusal cwd p
    unfolding path_call
    by_path = first_of_tail _ _ o.0 ∙ first_of_one (path_refusal cwd p)

    pub start_refused : (x : Refusal) → RealIs cwd p l m (Err x) → path_call M I cwd p ≡ refusal_number x
    start_refused x h = by_path ∙ when_true 4 h.refused ∙ ap refusal_number (sym h.why)

    pub started : (n : ℕ) → RealIs cwd p l m (Ok n) → length l ≡ path_limit → Starts M I cwd p m s n
    started n h long =
        record {
          good = by_path ∙ when_false 4 h.good;
          fit = opened_fit M I s o.0 o.1;
          area = area_at_lem M I s o;
          within = h.fits;
          path = stores_take (bad_path cwd p) (real_path cwd p) l m n h long;
        }

-- ---- an earlier refusal

module _ (M : Mount) (I cwd p : List ℕ) (x : Refusal) (e : path_call M I cwd p ≡ refusal_number x) where
  earlier : {A : Type 0} (q : Reply A) → refused (refusal_number x) ≡ given (path_call M I cwd p) q
  earlier q = sym (given_some (refusal_number x) q (number_some x) e)

  pub open_no : refused (refusal_number x) ≡ open_reply M I cwd p
  unfolding open_reply
  open_no = earlier _

  pub info_no : refused (refusal_number x) ≡ info_reply M I cwd p
  unfolding info_reply
  info_no = earlier _

  pub list_no : (i cap : ℕ) → refused (refusal_number x) ≡ list_reply M I cwd p i cap
  unfolding list_reply
  list_no i cap = earlier _

-- ---- the answer at the full path

module _ (M : Mount) (I cwd p l : List ℕ) (s : SuperBlock) (n : ℕ) (b : Starts M I cwd p l s n) where
  at_path : {A : Type 0} (f : Area → List ℕ → Reply A) → f (area_in s) (take n l) ≡ given (path_call M I cwd p) (f (area_at M I) (real_path cwd p))
  at_path f = (λ i. f (b.area i) (b.path i)) ∙ sym (given_none _ b.good)

  pub open_call : open_on (area_in s) I (take n l) ≡ open_reply M I cwd p
  unfolding open_reply
  open_call = at_path (λ A x. open_on A I x)

  pub info_call : info_on (area_in s) I (take n l) p ≡ info_reply M I cwd p
  unfolding info_reply
  info_call = at_path (λ A x. info_on A I x p)

  pub list_call : (i cap : ℕ) → list_on (area_in s) I (take n l) i cap ≡ list_reply M I cwd p i cap
  unfolding list_reply
  list_call i cap = at_path (λ A x. list_on A I x i cap)

  pub records_call : (i cap : ℕ) → records_on (area_in s) I (take n l) i cap ≡ records_on (area_at M I) I (real_path cwd p) i cap
  records_call i cap = λ j. records_on (b.area j) I (b.path j) i cap
