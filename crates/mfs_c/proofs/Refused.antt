-- An export that does not answer 0 leaves everything as it was but the work buffer: each out parameter, the image, the handle's numbers, the read
-- buffer. It answers 0 for an accepted call alone. (The check has no out parameter and cannot write the image.)
use mathlib.Core.Path.{◌≡◌, refl, ◌∙◌}
use mathlib.Core.List.{List}
use Prim.Native.Nat.{ℕ, zero, suc}
use native.Mathlib.Omega.{arith}
use Rattle.model.specs.Geometry.{Mount}
use Rattle.model.specs.Answers.{Reply, accepted, refused, reply, settle}
use Rattle.limits.specs.Refusals.{refusal_number}
use Rattle.limits.specs.declared.Refusal.{Refusal}
use Rattle.limits.proofs.Numbers.{number_some}
use Rattle.dir_entry.specs.Entry.{kind_byte}
use Rattle.handle.specs.declared.Handle.{Handle}
use Rattle.handle.specs.declared.SeekFrom.{SeekFrom}
use Rattle.file_read.specs.Post.{CountedIs}
use Rattle.wire.specs.Pick.{pick}
use Rattle.bitmap_room.specs.declared.Told.{Told}
use Rattle.call_read.specs.Says.{on_answer}
use Rattle.call_volume.specs.Format.{Formats}
use Rattle.call_read.specs.declared.About.{About}
use Rattle.call_read.specs.Reading.{info_says, ListIs}
use Rattle.thm_calls.proofs.Changing.{create_file_kept, create_dir_kept, delete_kept, write_kept}
use Rattle.thm_calls.proofs.Patching.{patch_kept}
use Rattle.mfs_c.specs.Exports.{told, out_of, numbers_of, FormatsC, UsesC, AsksC, HandleOut, OpensC, InformsC, ListsC, CountOut, ReadsC, SeeksC, CreatesFileC, CreatesDirC, DeletesC, WritesC, PatchesC}
use Rattle.std.specs.Prelude.{Result, Ok, Err}
use Rattle.limits.specs.Says.{says}
use Rattle.read_dir.specs.declared.Listed.{Listed}
use Rattle.call_volume.specs.declared.Space.{Space}

-- ---- a number that is not 0 tells a refusal, and 0 tells none

-- an out parameter
kept : {A B : Type 0} (r : Reply A) (f : A → B) (old new : B) (c : ℕ) → c ≡ told r → (c ≡ 0 → ⊥) → new ≡ out_of r f old → new ≡ old
kept (accepted a) f old new c e n h = absurd (n e)
kept (refused k) f old new c e n h = h

-- an answer with a value beside it, and one without
on_answer_lem : {A : Type 0} (x : A) (a : Result (Unit {0}) Refusal) (c : ℕ) → c ≡ told (on_answer a x) → (c ≡ 0 → ⊥) → (r : Refusal) × (a ≡ Err r)
on_answer_lem x (Ok u) c e n = absurd (n e)
on_answer_lem x (Err r) c e n = (r, refl)

plain : {A : Type 0} (a : Result A Refusal) (c : ℕ) → c ≡ told (says a) → (c ≡ 0 → ⊥) → (r : Refusal) × (a ≡ Err r)
plain (Ok u) c e n = absurd (n e)
plain (Err r) c e n = (r, refl)

not_zero : (r : Refusal) → 0 ≡ refusal_number r → ⊥
not_zero r e = omega (arith, number_some r)

-- the out parameters that calls share
handle_out_kept : (r : Reply Handle) (ns x : List ℕ) (len c : ℕ) (ns' x' : List ℕ) (len' : ℕ)
    → HandleOut r ns x len c ns' x' len' → (c ≡ 0 → ⊥) → (ns' ≡ ns) × (x' ≡ x) × (len' ≡ len)
handle_out_kept r ns x len c ns' x' len' h n = (
  kept r numbers_of ns ns' c h.code n h.numbers,
  kept r (λ (g : Handle). g.name) x x' c h.code n h.name,
  kept r (λ (g : Handle). g.len) len len' c h.code n h.long,
)

count_out_kept : (r : Reply ℕ) (h : Handle) (ns : List ℕ) (bytes c : ℕ) (ns' : List ℕ) (bytes' : ℕ)
    → CountOut r h ns bytes c ns' bytes' → (c ≡ 0 → ⊥) → (ns' ≡ ns) × (bytes' ≡ bytes)
count_out_kept r h ns bytes c ns' bytes' o n =
    (kept r (λ (k : ℕ). numbers_of h) ns ns' c o.code n o.numbers, kept r (λ (k : ℕ). k) bytes bytes' c o.code n o.counts)

-- ---- the exports

format_image : (k j : ℕ) (x y : List ℕ) → ◌≡◌ {A = Reply (Unit {0})} (refused j) (reply k tt) → settle k x y ≡ y
unfolding reply settle
format_image zero j x y e = let z : ◌≡◌ {A = ℕ} 0 1 = cc in absurd (omega arith)
format_image (suc k) j x y e = refl

pub format_c_kept : (M : Mount) (I : List ℕ) (c : ℕ) (J : List ℕ) → FormatsC M I c J → (c ≡ 0 → ⊥) → J ≡ I
format_c_kept M I c J a n = go a.answer a.code a.call
  where
    go : (r : Result (Unit {0}) Refusal) → c ≡ told (says r) → Formats M I r J → J ≡ I
    go (Ok u) e f = absurd (n e)
    go (Err x) e f = f.image ∙ format_image _ (refusal_number x) _ I f.answer

pub usage_c_kept : (M : Mount) (I : List ℕ) (size used free c size' used' free' : ℕ)
    → UsesC M I size used free c size' used' free' → (c ≡ 0 → ⊥) → (size' ≡ size) × (used' ≡ used) × (free' ≡ free)
usage_c_kept M I size used free c size' used' free' a n =
    let r = says a.answer in (
      kept r (λ (s : Space). s.size) size size' c a.code n a.sizes,
      kept r (λ (s : Space). s.used) used used' c a.code n a.useds,
      kept r (λ (s : Space). s.free) free free' c a.code n a.frees,
    )

pub room_c_kept : (M : Mount) (I : List ℕ) (k enough bytes c enough' bytes' : ℕ)
    → AsksC M I k enough bytes c enough' bytes' → (c ≡ 0 → ⊥) → (enough' ≡ enough) × (bytes' ≡ bytes)
room_c_kept M I k enough bytes c enough' bytes' a n =
    let r = says a.answer in (
      kept r (λ (t : Told). pick t.enough 1 0) enough enough' c a.code n a.enoughs,
      kept r (λ (t : Told). t.bytes) bytes bytes' c a.code n a.reads,
    )

pub open_c_kept : (M : Mount) (I cwd p ns x : List ℕ) (len c : ℕ) (ns' x' : List ℕ) (len' : ℕ)
    → OpensC M I cwd p ns x len c ns' x' len' → (c ≡ 0 → ⊥) → (ns' ≡ ns) × (x' ≡ x) × (len' ≡ len)
open_c_kept M I cwd p ns x len c ns' x' len' a n = handle_out_kept _ ns x len c ns' x' len' a.out n

pub info_c_kept : (M : Mount) (I cwd p : List ℕ) (kind size time : ℕ) (x : List ℕ) (len c kind' size' time' : ℕ) (x' : List ℕ) (len' : ℕ)
    → InformsC M I cwd p kind size time x len c kind' size' time' x' len'
    → (c ≡ 0 → ⊥)
    → (kind' ≡ kind) × (size' ≡ size) × (time' ≡ time) × (x' ≡ x) × (len' ≡ len)
info_c_kept M I cwd p kind size time x len c kind' size' time' x' len' a n =
    let r = info_says a.answer in (
      kept r (λ (s : About). kind_byte s.kind) kind kind' c a.code n a.kinds,
      kept r (λ (s : About). s.size) size size' c a.code n a.sizes,
      kept r (λ (s : About). s.time) time time' c a.code n a.times,
      kept r (λ (s : About). s.name) x x' c a.code n a.name,
      kept r (λ (s : About). s.len) len len' c a.code n a.long,
    )

list_buffer : (r : Reply Listed) (rs buf out : List ℕ) (q : Result Listed Refusal) (c : ℕ) → ListIs r rs buf out q → c ≡ told (says q) → (c ≡ 0 → ⊥) → out ≡ buf
list_buffer r rs buf out (Ok l) c h e n = absurd (n e)
list_buffer (accepted m) rs buf out (Err x) c h e n = let z : ◌≡◌ {A = ℕ} 0 1 = cc h.answer in absurd (omega arith)
list_buffer (refused k) rs buf out (Err x) c h e n = h.buffer

pub list_c_kept : (M : Mount) (I cwd p : List ℕ) (i : ℕ) (buf : List ℕ) (bytes next c : ℕ) (out : List ℕ) (bytes' next' : ℕ)
    → ListsC M I cwd p i buf bytes next c out bytes' next' → (c ≡ 0 → ⊥) → (out ≡ buf) × (bytes' ≡ bytes) × (next' ≡ next)
list_c_kept M I cwd p i buf bytes next c out bytes' next' a n =
    let r = says a.answer in (
      list_buffer _ _ buf out a.answer c a.call a.code n,
      kept r (λ (m : Listed). m.bytes) bytes bytes' c a.code n a.counts,
      kept r (λ (m : Listed). m.next) next next' c a.code n a.nexts,
    )

read_buffer : (k : ℕ) (h g : Handle) (vs buf out : List ℕ) (a : Result ℕ Refusal) (c : ℕ)
    → CountedIs k h g vs buf out a → c ≡ told (says a) → (c ≡ 0 → ⊥) → out ≡ buf
read_buffer k h g vs buf out (Ok j) c r e n = absurd (n e)
read_buffer k h g vs buf out (Err x) c r e n = r.kept

pub read_c_kept : (M : Mount) (I ns x : List ℕ) (len : ℕ) (buf : List ℕ) (bytes c : ℕ) (ns' out : List ℕ) (bytes' : ℕ)
    → ReadsC M I ns x len buf bytes c ns' out bytes' → (c ≡ 0 → ⊥) → (ns' ≡ ns) × (out ≡ buf) × (bytes' ≡ bytes)
read_c_kept M I ns x len buf bytes c ns' out bytes' a n =
    let k = count_out_kept _ _ ns bytes c ns' bytes' a.told n in
    (k.0, read_buffer _ _ _ _ buf out a.answer.answer c a.call a.told.code n, k.1)

pub seek_c_kept : (ns x : List ℕ) (len : ℕ) (from : SeekFrom) (c : ℕ) (ns' : List ℕ) → SeeksC ns x len from c ns' → (c ≡ 0 → ⊥) → ns' ≡ ns
seek_c_kept ns x len from c ns' a n =
    let r = says a.answer.answer in
    kept r (λ (u : Unit {0}). numbers_of a.answer.handle) ns ns' c a.code n a.numbers

pub create_file_c_kept : (M : Mount) (I W cwd p : List ℕ) (time : ℕ) (ns x : List ℕ) (len c : ℕ) (J Z ns' x' : List ℕ) (len' : ℕ)
    → CreatesFileC M I W cwd p time ns x len c J Z ns' x' len' → (c ≡ 0 → ⊥) → (J ≡ I) × (ns' ≡ ns) × (x' ≡ x) × (len' ≡ len)
create_file_c_kept M I W cwd p time ns x len c J Z ns' x' len' a n =
    let o = a.answer in
    let r = on_answer_lem o.handle o.answer c a.out.code n in
    let k = handle_out_kept _ ns x len c ns' x' len' a.out n in
    ((create_file_kept M I W cwd p time J Z o a.call r.0 r.1).0, k.0, k.1, k.2)

pub create_dir_c_kept : (M : Mount) (I W cwd p : List ℕ) (time c : ℕ) (J Z : List ℕ) → CreatesDirC M I W cwd p time c J Z → (c ≡ 0 → ⊥) → J ≡ I
create_dir_c_kept M I W cwd p time c J Z a n =
    let r = plain a.answer c a.code n in
    create_dir_kept M I W cwd p time J Z a.answer a.call r.0 r.1

pub delete_c_kept : (M : Mount) (I W cwd p : List ℕ) (time c : ℕ) (J Z : List ℕ) → DeletesC M I W cwd p time c J Z → (c ≡ 0 → ⊥) → J ≡ I
delete_c_kept M I W cwd p time c J Z a n =
    let r = plain a.answer c a.code n in
    delete_kept M I W cwd p time J Z a.answer a.call r.0 r.1

pub write_c_kept : (M : Mount) (I W ns x : List ℕ) (len : ℕ) (buf : List ℕ) (time bytes c : ℕ) (J Z ns' : List ℕ) (bytes' : ℕ)
    → WritesC M I W ns x len buf time bytes c J Z ns' bytes' → (c ≡ 0 → ⊥) → (J ≡ I) × (ns' ≡ ns) × (bytes' ≡ bytes)
write_c_kept M I W ns x len buf time bytes c J Z ns' bytes' a n =
    let o = a.answer in
    let r = plain o.answer c a.told.code n in
    let k = count_out_kept _ _ ns bytes c ns' bytes' a.told n in
    ((write_kept M I W _ buf time o J Z a.call r.0 r.1).0, k.0, k.1)

pub patch_c_kept : (M : Mount) (I W ns x : List ℕ) (len : ℕ) (buf : List ℕ) (time bytes c : ℕ) (J Z ns' : List ℕ) (bytes' : ℕ)
    → PatchesC M I W ns x len buf time bytes c J Z ns' bytes' → (c ≡ 0 → ⊥) → (J ≡ I) × (ns' ≡ ns) × (bytes' ≡ bytes)
patch_c_kept M I W ns x len buf time bytes c J Z ns' bytes' a n =
    let o = a.answer in
    let r = plain o.answer c a.told.code n in
    let k = count_out_kept _ _ ns bytes c ns' bytes' a.told n in
    ((patch_kept M I W _ buf time o J Z a.call r.0 r.1).0, k.0, k.1)
