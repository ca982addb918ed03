-- What a caller holds after an export, four numbers and a name, is the handle that the call answered: no part of a handle is lost on the way.
use mathlib.Core.Path.{◌≡◌, refl, sym, ap, ◌∙◌}
use mathlib.Core.List.{List}
use Prim.Native.Nat.{ℕ}
use native.Mathlib.Omega.{arith}
use Rattle.model.specs.Geometry.{Mount}
use Rattle.model.specs.Answers.{Reply, accepted, refused, and_then}
use Rattle.handle.specs.declared.Handle.{Handle}
use Rattle.handle.specs.declared.SeekFrom.{SeekFrom}
use Rattle.handle.specs.Post.{MovedIs}
use Rattle.file_read.specs.Post.{CountedIs}
use Rattle.write.specs.Writing.{Target, handle_after, count_of}
use Rattle.patch.specs.Patching.{handle_behind}
use Rattle.call_read.specs.Says.{on_answer}
use Rattle.mfs_c.specs.Exports.{out_of, handle_of, numbers_of, HandleOut, OpensC, ReadsC, SeeksC, CreatesFileC, WritesC, PatchesC}
use Rattle.std.specs.Prelude.{Result, Ok, Err}
use Rattle.limits.specs.Says.{says}
use Rattle.limits.specs.declared.Refusal.{Refusal}

-- a handle is its four numbers, its name and the name's length
back : (h : Handle) → handle_of (numbers_of h) h.name h.len ≡ h
back h = refl

-- by its parts
parts : (h : Handle) (ns x : List ℕ) (len : ℕ) → ns ≡ numbers_of h → h.name ≡ x → h.len ≡ len → handle_of ns x len ≡ h
parts h ns x len e f g = rw (e, ← f, ← g) (back h)

-- ---- a handle handed out

handed : (a : Result (Unit {0}) Refusal) (h : Handle) (ns x : List ℕ) (len c : ℕ) (ns' x' : List ℕ) (len' : ℕ)
    → a ≡ Ok tt → HandleOut (on_answer a h) ns x len c ns' x' len' → handle_of ns' x' len' ≡ h
handed (Ok u) h ns x len c ns' x' len' e o = parts h ns' x' len' o.numbers (sym o.name) (sym o.long)
handed (Err r) h ns x len c ns' x' len' e o = let z : ◌≡◌ {A = ℕ} 0 1 = cc in absurd (omega arith)

pub open_c_handle : (M : Mount) (I cwd p ns x : List ℕ) (len c : ℕ) (ns' x' : List ℕ) (len' : ℕ) (a : OpensC M I cwd p ns x len c ns' x' len')
    → a.answer.answer ≡ Ok tt → handle_of ns' x' len' ≡ a.answer.handle
open_c_handle M I cwd p ns x len c ns' x' len' a e = handed a.answer.answer a.answer.handle ns x len c ns' x' len' e a.out

pub create_file_c_handle : (M : Mount) (I W cwd p : List ℕ) (time : ℕ) (ns x : List ℕ) (len c : ℕ) (J Z ns' x' : List ℕ) (len' : ℕ)
    (a : CreatesFileC M I W cwd p time ns x len c J Z ns' x' len')
    → a.answer.answer ≡ Ok tt → handle_of ns' x' len' ≡ a.answer.handle
create_file_c_handle M I W cwd p time ns x len c J Z ns' x' len' a e = handed a.answer.answer a.answer.handle ns x len c ns' x' len' e a.out

-- ---- a handle given and handed back, refused or not: the name is the one given

module _ (ns x : List ℕ) (len : ℕ) where
  read_back : (k : ℕ) (g : Handle) (vs buf out ns' : List ℕ) (a : Result ℕ Refusal)
      → CountedIs k (handle_of ns x len) g vs buf out a → ns' ≡ out_of (says a) (λ (n : ℕ). numbers_of g) ns → handle_of ns' x len ≡ g
  read_back k g vs buf out ns' (Ok j) r e = parts g ns' x len e (ap (λ (h : Handle). h.name) r.handle) (ap (λ (h : Handle). h.len) r.handle)
  read_back k g vs buf out ns' (Err y) r e = ap (λ (z : List ℕ). handle_of z x len) e ∙ sym r.handle

  pub read_c_handle : (M : Mount) (I buf : List ℕ) (bytes c : ℕ) (ns' out : List ℕ) (bytes' : ℕ) (a : ReadsC M I ns x len buf bytes c ns' out bytes')
      → handle_of ns' x len ≡ a.answer.handle
  read_c_handle M I buf bytes c ns' out bytes' a = read_back _ a.answer.handle _ buf out ns' a.answer.answer a.call a.told.numbers

  seek_back : (from : SeekFrom) (g : Handle) (ns' : List ℕ) (a : Result (Unit {0}) Refusal)
      → MovedIs (handle_of ns x len) from g a → ns' ≡ out_of (says a) (λ (u : Unit {0}). numbers_of g) ns → handle_of ns' x len ≡ g
  seek_back from g ns' (Ok u) r e = parts g ns' x len e (ap (λ (h : Handle). h.name) r.1) (ap (λ (h : Handle). h.len) r.1)
  seek_back from g ns' (Err y) r e = ap (λ (z : List ℕ). handle_of z x len) e ∙ sym r.1

  pub seek_c_handle : (from : SeekFrom) (c : ℕ) (ns' : List ℕ) (a : SeeksC ns x len from c ns') → handle_of ns' x len ≡ a.answer.handle
  seek_c_handle from c ns' a = seek_back from a.answer.handle ns' a.answer.answer a.call a.numbers

  write_back : (k : ℕ) (t : Reply Target) (g : Handle) (ns' : List ℕ) (a : Result ℕ Refusal)
      → says a ≡ count_of k t → g ≡ handle_after (handle_of ns x len) k t → ns' ≡ out_of (says a) (λ (n : ℕ). numbers_of g) ns → handle_of ns' x len ≡ g
  unfolding count_of and_then
  write_back k (accepted t) g ns' (Ok j) s r e = parts g ns' x len e (ap (λ (h : Handle). h.name) r) (ap (λ (h : Handle). h.len) r)
  write_back k (accepted t) g ns' (Err y) s r e = let z : ◌≡◌ {A = ℕ} 0 1 = cc in absurd (omega arith)
  write_back k (refused i) g ns' (Ok j) s r e = let z : ◌≡◌ {A = ℕ} 0 1 = cc in absurd (omega arith)
  write_back k (refused i) g ns' (Err y) s r e = ap (λ (z : List ℕ). handle_of z x len) e ∙ sym r

  pub write_c_handle : (M : Mount) (I W buf : List ℕ) (time bytes c : ℕ) (J Z ns' : List ℕ) (bytes' : ℕ) (a : WritesC M I W ns x len buf time bytes c J Z ns' bytes')
      → handle_of ns' x len ≡ a.answer.handle
  write_c_handle M I W buf time bytes c J Z ns' bytes' a = write_back _ _ a.answer.handle ns' a.answer.answer a.call.answer a.call.handle a.told.numbers

  patch_back : (k : ℕ) (t : Reply Target) (g : Handle) (ns' : List ℕ) (a : Result ℕ Refusal)
      → says a ≡ count_of k t → g ≡ handle_behind (handle_of ns x len) k t → ns' ≡ out_of (says a) (λ (n : ℕ). numbers_of g) ns → handle_of ns' x len ≡ g
  unfolding count_of and_then
  patch_back k (accepted t) g ns' (Ok j) s r e = parts g ns' x len e (ap (λ (h : Handle). h.name) r) (ap (λ (h : Handle). h.len) r)
  patch_back k (accepted t) g ns' (Err y) s r e = let z : ◌≡◌ {A = ℕ} 0 1 = cc in absurd (omega arith)
  patch_back k (refused i) g ns' (Ok j) s r e = let z : ◌≡◌ {A = ℕ} 0 1 = cc in absurd (omega arith)
  patch_back k (refused i) g ns' (Err y) s r e = ap (λ (z : List ℕ). handle_of z x len) e ∙ sym r

  pub patch_c_handle : (M : Mount) (I W buf : List ℕ) (time bytes c : ℕ) (J Z ns' : List ℕ) (bytes' : ℕ) (a : PatchesC M I W ns x len buf time bytes c J Z ns' bytes')
      → handle_of ns' x len ≡ a.answer.handle
  patch_c_handle M I W buf time bytes c J Z ns' bytes' a = patch_back _ _ a.answer.handle ns' a.answer.answer a.call.answer a.call.handle a.told.numbers
