-- D1, of each public call: any two outcomes that its contract allows are equal, refused ones too.
use mathlib.Core.Path.{◌≡◌, refl, sym, ap, ◌∙◌}
use mathlib.Core.List.{List}
use Prim.Native.Nat.{ℕ, ◌+◌}
use native.Mathlib.Omega.{arith}
use Rattle.model.specs.Geometry.{Mount}
use Rattle.model.specs.Answers.{Reply}
use Rattle.limits.specs.Refusals.{refusal_number}
use Rattle.limits.proofs.Numbers.{number_one, number_some}
use Rattle.handle.specs.declared.Handle.{Handle}
use Rattle.handle.specs.declared.SeekFrom.{SeekFrom}
use Rattle.handle.specs.declared.Sought.{Sought}
use Rattle.handle.specs.declared.CountedOut.{CountedOut}
use Rattle.handle.specs.Handles.{moved}
use Rattle.handle.specs.Post.{MovedIs, SoughtIs}
use Rattle.file_read.specs.Post.{CountedIs}
use Rattle.call_volume.specs.declared.Space.{Space}
use Rattle.call_read.specs.declared.OpenOut.{OpenOut}
use Rattle.call_read.specs.declared.InfoOut.{InfoOut}
use Rattle.call_read.specs.Says.{on_answer, IfRefused}
use Rattle.call_volume.specs.Format.{Formats, Uses}
use Rattle.call_read.specs.Reading.{no_handle, no_about, about_of, OpenIs, Opens, Informs, Lists, Reads}
use Rattle.call_change.specs.Changing.{CreatesFile, CreatesDir, Deletes, Writes}
use Rattle.call_patch.specs.Patches.{Patches}
use Rattle.std.specs.Prelude.{Result, Ok, Err}
use Rattle.limits.proofs.Said.{says_one}
use Rattle.limits.specs.declared.Refusal.{Refusal}
use Rattle.read_dir.specs.declared.Listed.{Listed}

-- an answer with a value beside it, which is fixed where the answer is a refusal
answer_one : {A : Type 0} (z : A) (a b : Result (Unit {0}) Refusal) (x y : A) → on_answer a x ≡ on_answer b y → IfRefused a (x ≡ z) → IfRefused b (y ≡ z) → (a ≡ b) × (x ≡ y)
answer_one z (Ok u) (Ok v) x y e p q = (refl, cc)
answer_one z (Ok u) (Err r) x y e p q = let t : ◌≡◌ {A = ℕ} 0 1 = cc in absurd (omega arith)
answer_one z (Err r) (Ok u) x y e p q = let t : ◌≡◌ {A = ℕ} 0 1 = cc in absurd (omega arith)
answer_one z (Err r) (Err s) x y e p q =
    let k : refusal_number r ≡ refusal_number s = cc in
    (ap Err (number_one r s k), p ∙ sym q)

-- ---- the calls

pub format_one : (M : Mount) (I : List ℕ) (r q : Result (Unit {0}) Refusal) (J L : List ℕ) → Formats M I r J → Formats M I q L → (r ≡ q) × (J ≡ L)
format_one M I r q J L a b = (says_one r q (a.answer ∙ sym b.answer), a.image ∙ sym b.image)

pub usage_one : (M : Mount) (I : List ℕ) (r q : Result Space Refusal) → Uses M I r → Uses M I q → r ≡ q
usage_one M I r q a b = says_one r q (a ∙ sym b)

-- a handle answered
handle_one : (v : Reply Handle) (r q : OpenOut) → OpenIs v r → OpenIs v q → r ≡ q
handle_one v r q a b =
    let e = answer_one no_handle r.answer q.answer r.handle q.handle (a.answer ∙ sym b.answer) a.empty b.empty in
    λ i. record { answer = e.0 i; handle = e.1 i }

pub open_one : (M : Mount) (I cwd p : List ℕ) (r q : OpenOut) → Opens M I cwd p r → Opens M I cwd p q → r ≡ q
open_one M I cwd p r q a b = handle_one _ r q a b

pub info_one : (M : Mount) (I cwd p : List ℕ) (r q : InfoOut) → Informs M I cwd p r → Informs M I cwd p q → r ≡ q
info_one M I cwd p r q a b =
    let e = answer_one no_about r.answer q.answer (about_of r) (about_of q) (a.answer ∙ sym b.answer) a.empty b.empty in
    λ i. record { answer = e.0 i; kind = (e.1 i).kind; size = (e.1 i).size; time = (e.1 i).time; name = (e.1 i).name; len = (e.1 i).len }

pub list_one : (M : Mount) (I cwd p : List ℕ) (n : ℕ) (buf : List ℕ) (r q : Result Listed Refusal) (out end : List ℕ)
    → Lists M I cwd p n buf r out → Lists M I cwd p n buf q end → (r ≡ q) × (out ≡ end)
list_one M I cwd p n buf r q out end a b = (says_one r q (a.answer ∙ sym b.answer), a.buffer ∙ sym b.buffer)

-- a read: the count, the handle and the buffer
counted-one : (k : ℕ) (h f g : Handle) (vs l m n : List ℕ) (c d : Result ℕ Refusal) → CountedIs k h f vs l m c → CountedIs k h g vs l n d → (c ≡ d) × (f ≡ g) × (m ≡ n)
counted-one k h f g vs l m n (Ok i) (Ok j) a b =
    let e : i ≡ j = a.count ∙ sym b.count in
    (ap Ok e, a.handle ∙ ap (λ (z : ℕ). moved h (h.position + z)) e ∙ sym b.handle, a.stored ∙ sym b.stored)
counted-one k h f g vs l m n (Ok i) (Err y) a b = absurd (omega (arith, a.good, b.refused, number_some y))
counted-one k h f g vs l m n (Err x) (Ok j) a b = absurd (omega (arith, b.good, a.refused, number_some x))
counted-one k h f g vs l m n (Err x) (Err y) a b =
    (ap Err (number_one x y (sym a.refused ∙ b.refused)), a.handle ∙ sym b.handle, a.kept ∙ sym b.kept)

pub read_one : (M : Mount) (I : List ℕ) (h : Handle) (buf out end : List ℕ) (r q : CountedOut) → Reads M I h buf out r → Reads M I h buf end q → (r ≡ q) × (out ≡ end)
read_one M I h buf out end r q a b =
    let e = counted-one _ h r.handle q.handle _ buf out end r.answer q.answer a b in
    (λ i. record { answer = e.0 i; handle = e.1 i }, e.2)

-- a seek: the answer and the handle
moved_one : (h f g : Handle) (from : SeekFrom) (c d : Result (Unit {0}) Refusal) → MovedIs h from f c → MovedIs h from g d → (c ≡ d) × (f ≡ g)
moved_one h f g from (Ok u) (Ok v) a b = (refl, a.1 ∙ sym b.1)
moved_one h f g from (Ok u) (Err y) a b = absurd (omega (arith, a.0, b.0, number_some y))
moved_one h f g from (Err x) (Ok u) a b = absurd (omega (arith, a.0, b.0, number_some x))
moved_one h f g from (Err x) (Err y) a b = (ap Err (number_one x y (sym a.0 ∙ b.0)), a.1 ∙ sym b.1)

pub seek_one : (h : Handle) (from : SeekFrom) (r q : Sought) → SoughtIs h from r → SoughtIs h from q → r ≡ q
seek_one h from r q a b =
    let e = moved_one h r.handle q.handle from r.answer q.answer a b in
    λ i. record { answer = e.0 i; handle = e.1 i }

-- ---- the changing calls: the answer, the image and the work buffer

module _ (M : Mount) (I W cwd p : List ℕ) (time : ℕ) (J L Z Y : List ℕ) where
  pub create_file_one : (r q : OpenOut) → CreatesFile M I W cwd p time r J Z → CreatesFile M I W cwd p time q L Y → (r ≡ q) × (J ≡ L) × (Z ≡ Y)
  create_file_one r q a b = (handle_one _ r q a.answer b.answer, a.image ∙ sym b.image, a.work ∙ sym b.work)

  pub create_dir_one : (r q : Result (Unit {0}) Refusal) → CreatesDir M I W cwd p time r J Z → CreatesDir M I W cwd p time q L Y → (r ≡ q) × (J ≡ L) × (Z ≡ Y)
  create_dir_one r q a b = (says_one r q (a.answer ∙ sym b.answer), a.image ∙ sym b.image, a.work ∙ sym b.work)

  pub delete-one : (r q : Result (Unit {0}) Refusal) → Deletes M I W cwd p time r J Z → Deletes M I W cwd p time q L Y → (r ≡ q) × (J ≡ L) × (Z ≡ Y)
  delete-one r q a b = (says_one r q (a.answer ∙ sym b.answer), a.image ∙ sym b.image, a.work ∙ sym b.work)

-- A write: the count and the handle, the image and the work buffer.
pub write_one : (M : Mount) (I W : List ℕ) (h : Handle) (buf : List ℕ) (time : ℕ) (r q : CountedOut) (J L Z Y : List ℕ)
    → Writes M I W h buf time r J Z → Writes M I W h buf time q L Y → (r ≡ q) × (J ≡ L) × (Z ≡ Y)
write_one M I W h buf time r q J L Z Y a b =
    let e : r.answer ≡ q.answer = says_one r.answer q.answer (a.answer ∙ sym b.answer) in
    let f : r.handle ≡ q.handle = a.handle ∙ sym b.handle in
    (λ i. record { answer = e i; handle = f i }, a.image ∙ sym b.image, a.work ∙ sym b.work)

-- A patch: the same.
pub patch_one : (M : Mount) (I W : List ℕ) (h : Handle) (buf : List ℕ) (time : ℕ) (r q : CountedOut) (J L Z Y : List ℕ)
    → Patches M I W h buf time r J Z → Patches M I W h buf time q L Y → (r ≡ q) × (J ≡ L) × (Z ≡ Y)
patch_one M I W h buf time r q J L Z Y a b =
    let e : r.answer ≡ q.answer = says_one r.answer q.answer (a.answer ∙ sym b.answer) in
    let f : r.handle ≡ q.handle = a.handle ∙ sym b.handle in
    (λ i. record { answer = e i; handle = f i }, a.image ∙ sym b.image, a.work ∙ sym b.work)
