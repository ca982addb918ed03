-- D1, of each export: any two outcomes that its contract allows are equal, refused ones too.
use mathlib.Core.Path.{◌≡◌, sym, ap, ◌∙◌}
use mathlib.Core.List.{List}
use Prim.Native.Nat.{ℕ}
use Rattle.model.specs.Geometry.{Mount}
use Rattle.model.specs.Answers.{Reply}
use Rattle.dir_entry.specs.Entry.{kind_byte}
use Rattle.handle.specs.declared.Handle.{Handle}
use Rattle.handle.specs.declared.SeekFrom.{SeekFrom}
use Rattle.handle.specs.declared.Sought.{Sought}
use Rattle.handle.specs.declared.CountedOut.{CountedOut}
use Rattle.wire.specs.Pick.{pick}
use Rattle.bitmap_room.specs.declared.Told.{Told}
use Rattle.call_room.proofs.Means.{room_one}
use Rattle.call_read.specs.declared.About.{About}
use Rattle.call_read.specs.Reading.{open_says, info_says}
use Rattle.mfs.proofs.Outcomes.{format_one, usage_one, open_one, info_one, list_one, read_one, seek_one, create_file_one, create_dir_one, delete-one, write_one, patch_one}
use Rattle.call_volume.proofs.Checked.{check_one}
use Rattle.mfs_c.specs.Exports.{told, out_of, numbers_of, FormatsC, UsesC, AsksC, ChecksC, HandleOut, OpensC, InformsC, ListsC, CountOut, ReadsC, SeeksC, CreatesFileC, CreatesDirC, DeletesC, WritesC, PatchesC}
use Rattle.limits.specs.Says.{says}
use Rattle.read_dir.specs.declared.Listed.{Listed}
use Rattle.call_volume.specs.declared.Space.{Space}

-- ---- one answer is told in one way

told_one : {A : Type 0} (r q : Reply A) (c d : ℕ) → r ≡ q → c ≡ told r → d ≡ told q → c ≡ d
told_one {A} r q c d e a b = a ∙ ap (λ (z : Reply A). told z) e ∙ sym b

out_one : {A B : Type 0} (r q : Reply A) (f : A → B) (old x y : B) → r ≡ q → x ≡ out_of r f old → y ≡ out_of q f old → x ≡ y
out_one {A} r q f old x y e a b = a ∙ ap (λ (z : Reply A). out_of z f old) e ∙ sym b

handle_out_one : (r q : Reply Handle) (ns x : List ℕ) (len c d : ℕ) (ns' ns2 x' x2 : List ℕ) (len' len2 : ℕ)
    → r ≡ q → HandleOut r ns x len c ns' x' len' → HandleOut q ns x len d ns2 x2 len2 → (c ≡ d) × (ns' ≡ ns2) × (x' ≡ x2) × (len' ≡ len2)
handle_out_one r q ns x len c d ns' ns2 x' x2 len' len2 e a b = (
  told_one r q c d e a.code b.code,
  out_one r q numbers_of ns ns' ns2 e a.numbers b.numbers,
  out_one r q (λ (h : Handle). h.name) x x' x2 e a.name b.name,
  out_one r q (λ (h : Handle). h.len) len len' len2 e a.long b.long,
)

count_out_one : (r q : Reply ℕ) (h g : Handle) (ns : List ℕ) (bytes c d : ℕ) (ns' ns2 : List ℕ) (bytes' bytes2 : ℕ)
    → r ≡ q → h ≡ g → CountOut r h ns bytes c ns' bytes' → CountOut q g ns bytes d ns2 bytes2 → (c ≡ d) × (ns' ≡ ns2) × (bytes' ≡ bytes2)
count_out_one r q h g ns bytes c d ns' ns2 bytes' bytes2 e f a b = (
  told_one r q c d e a.code b.code,
  a.numbers ∙ ap (λ (z : Handle). out_of r (λ (n : ℕ). numbers_of z) ns) f ∙ ap (λ (z : Reply ℕ). out_of z (λ (n : ℕ). numbers_of g) ns) e ∙ sym b.numbers,
  out_one r q (λ (n : ℕ). n) bytes bytes' bytes2 e a.counts b.counts,
)

-- ---- the exports: the number answered, every out parameter, the image, the work buffer and the read buffer

pub format_c_one : (M : Mount) (I : List ℕ) (c d : ℕ) (J L : List ℕ) → FormatsC M I c J → FormatsC M I d L → (c ≡ d) × (J ≡ L)
format_c_one M I c d J L a b =
    let e = format_one M I a.answer b.answer J L a.call b.call in
    (told_one _ _ c d (ap says e.0) a.code b.code, e.1)

pub usage_c_one : (M : Mount) (I : List ℕ) (size used free c d size' size2 used' used2 free' free2 : ℕ)
    → UsesC M I size used free c size' used' free'
    → UsesC M I size used free d size2 used2 free2
    → (c ≡ d) × (size' ≡ size2) × (used' ≡ used2) × (free' ≡ free2)
usage_c_one M I size used free c d size' size2 used' used2 free' free2 a b =
    let e = ap says (usage_one M I a.answer b.answer a.call b.call) in (
      told_one _ _ c d e a.code b.code,
      out_one _ _ (λ (s : Space). s.size) size size' size2 e a.sizes b.sizes,
      out_one _ _ (λ (s : Space). s.used) used used' used2 e a.useds b.useds,
      out_one _ _ (λ (s : Space). s.free) free free' free2 e a.frees b.frees,
    )

pub room_c_one : (M : Mount) (I : List ℕ) (k enough bytes c d enough' enough2 bytes' bytes2 : ℕ)
    → AsksC M I k enough bytes c enough' bytes'
    → AsksC M I k enough bytes d enough2 bytes2
    → (c ≡ d) × (enough' ≡ enough2) × (bytes' ≡ bytes2)
room_c_one M I k enough bytes c d enough' enough2 bytes' bytes2 a b =
    let e = ap says (room_one M I k a.answer b.answer a.call b.call) in (
      told_one _ _ c d e a.code b.code,
      out_one _ _ (λ (t : Told). pick t.enough 1 0) enough enough' enough2 e a.enoughs b.enoughs,
      out_one _ _ (λ (t : Told). t.bytes) bytes bytes' bytes2 e a.reads b.reads,
    )

pub check_c_one : (M : Mount) (I W : List ℕ) (c d : ℕ) (Z Y : List ℕ) → ChecksC M I W c Z → ChecksC M I W d Y → (c ≡ d) × (Z ≡ Y)
check_c_one M I W c d Z Y a b =
    let e = check_one M I W Z Y a.answer b.answer a.call b.call in
    (told_one _ _ c d (ap says e.0) a.code b.code, e.1)

pub open_c_one : (M : Mount) (I cwd p ns x : List ℕ) (len c d : ℕ) (ns' ns2 x' x2 : List ℕ) (len' len2 : ℕ)
    → OpensC M I cwd p ns x len c ns' x' len'
    → OpensC M I cwd p ns x len d ns2 x2 len2
    → (c ≡ d) × (ns' ≡ ns2) × (x' ≡ x2) × (len' ≡ len2)
open_c_one M I cwd p ns x len c d ns' ns2 x' x2 len' len2 a b =
    let e = open_one M I cwd p a.answer b.answer a.call b.call in
    handle_out_one _ _ ns x len c d ns' ns2 x' x2 len' len2 (ap open_says e) a.out b.out

pub info_c_one : (M : Mount) (I cwd p : List ℕ) (kind size time : ℕ) (x : List ℕ) (len c d kind' kind2 size' size2 time' time2 : ℕ) (x' x2 : List ℕ) (len' len2 : ℕ)
    → InformsC M I cwd p kind size time x len c kind' size' time' x' len'
    → InformsC M I cwd p kind size time x len d kind2 size2 time2 x2 len2
    → (c ≡ d) × (kind' ≡ kind2) × (size' ≡ size2) × (time' ≡ time2) × (x' ≡ x2) × (len' ≡ len2)
info_c_one M I cwd p kind size time x len c d kind' kind2 size' size2 time' time2 x' x2 len' len2 a b =
    let e = ap info_says (info_one M I cwd p a.answer b.answer a.call b.call) in (
      told_one _ _ c d e a.code b.code,
      out_one _ _ (λ (s : About). kind_byte s.kind) kind kind' kind2 e a.kinds b.kinds,
      out_one _ _ (λ (s : About). s.size) size size' size2 e a.sizes b.sizes,
      out_one _ _ (λ (s : About). s.time) time time' time2 e a.times b.times,
      out_one _ _ (λ (s : About). s.name) x x' x2 e a.name b.name,
      out_one _ _ (λ (s : About). s.len) len len' len2 e a.long b.long,
    )

pub list_c_one : (M : Mount) (I cwd p : List ℕ) (i : ℕ) (buf : List ℕ) (bytes next c d : ℕ) (out end : List ℕ) (bytes' bytes2 next' next2 : ℕ)
    → ListsC M I cwd p i buf bytes next c out bytes' next'
    → ListsC M I cwd p i buf bytes next d end bytes2 next2
    → (c ≡ d) × (out ≡ end) × (bytes' ≡ bytes2) × (next' ≡ next2)
list_c_one M I cwd p i buf bytes next c d out end bytes' bytes2 next' next2 a b =
    let one = list_one M I cwd p i buf a.answer b.answer out end a.call b.call in
    let e = ap says one.0 in (
      told_one _ _ c d e a.code b.code,
      one.1,
      out_one _ _ (λ (n : Listed). n.bytes) bytes bytes' bytes2 e a.counts b.counts,
      out_one _ _ (λ (n : Listed). n.next) next next' next2 e a.nexts b.nexts,
    )

pub read_c_one : (M : Mount) (I ns x : List ℕ) (len : ℕ) (buf : List ℕ) (bytes c d : ℕ) (ns' ns2 out end : List ℕ) (bytes' bytes2 : ℕ)
    → ReadsC M I ns x len buf bytes c ns' out bytes'
    → ReadsC M I ns x len buf bytes d ns2 end bytes2
    → (c ≡ d) × (ns' ≡ ns2) × (out ≡ end) × (bytes' ≡ bytes2)
read_c_one M I ns x len buf bytes c d ns' ns2 out end bytes' bytes2 a b =
    let one = read_one M I _ buf out end a.answer b.answer a.call b.call in
    let said = ap (λ (o : CountedOut). says o.answer) one.0 in
    let e = count_out_one _ _ _ _ ns bytes c d ns' ns2 bytes' bytes2 said (ap (λ (o : CountedOut). o.handle) one.0) a.told b.told in
    (e.0, e.1, one.1, e.2)

pub seek_c_one : (ns x : List ℕ) (len : ℕ) (from : SeekFrom) (c d : ℕ) (ns' ns2 : List ℕ)
    → SeeksC ns x len from c ns' → SeeksC ns x len from d ns2 → (c ≡ d) × (ns' ≡ ns2)
seek_c_one ns x len from c d ns' ns2 a b =
    let e = seek_one _ from a.answer b.answer a.call b.call in (
      told_one _ _ c d (ap (λ (o : Sought). says o.answer) e) a.code b.code,
      a.numbers ∙ ap (λ (o : Sought). out_of (says o.answer) (λ (u : Unit {0}). numbers_of o.handle) ns) e ∙ sym b.numbers,
    )

pub create_file_c_one : (M : Mount) (I W cwd p : List ℕ) (time : ℕ) (ns x : List ℕ) (len c d : ℕ) (J L Z Y ns' ns2 x' x2 : List ℕ) (len' len2 : ℕ)
    → CreatesFileC M I W cwd p time ns x len c J Z ns' x' len'
    → CreatesFileC M I W cwd p time ns x len d L Y ns2 x2 len2
    → (c ≡ d) × (J ≡ L) × (Z ≡ Y) × (ns' ≡ ns2) × (x' ≡ x2) × (len' ≡ len2)
create_file_c_one M I W cwd p time ns x len c d J L Z Y ns' ns2 x' x2 len' len2 a b =
    let one = create_file_one M I W cwd p time J L Z Y a.answer b.answer a.call b.call in
    let e = handle_out_one _ _ ns x len c d ns' ns2 x' x2 len' len2 (ap open_says one.0) a.out b.out in
    (e.0, one.1, one.2, e.1, e.2, e.3)

pub create_dir_c_one : (M : Mount) (I W cwd p : List ℕ) (time c d : ℕ) (J L Z Y : List ℕ)
    → CreatesDirC M I W cwd p time c J Z → CreatesDirC M I W cwd p time d L Y → (c ≡ d) × (J ≡ L) × (Z ≡ Y)
create_dir_c_one M I W cwd p time c d J L Z Y a b =
    let e = create_dir_one M I W cwd p time J L Z Y a.answer b.answer a.call b.call in
    (told_one _ _ c d (ap says e.0) a.code b.code, e.1, e.2)

pub delete_c_one : (M : Mount) (I W cwd p : List ℕ) (time c d : ℕ) (J L Z Y : List ℕ)
    → DeletesC M I W cwd p time c J Z → DeletesC M I W cwd p time d L Y → (c ≡ d) × (J ≡ L) × (Z ≡ Y)
delete_c_one M I W cwd p time c d J L Z Y a b =
    let e = delete-one M I W cwd p time J L Z Y a.answer b.answer a.call b.call in
    (told_one _ _ c d (ap says e.0) a.code b.code, e.1, e.2)

pub write_c_one : (M : Mount) (I W ns x : List ℕ) (len : ℕ) (buf : List ℕ) (time bytes c d : ℕ) (J L Z Y ns' ns2 : List ℕ) (bytes' bytes2 : ℕ)
    → WritesC M I W ns x len buf time bytes c J Z ns' bytes'
    → WritesC M I W ns x len buf time bytes d L Y ns2 bytes2
    → (c ≡ d) × (J ≡ L) × (Z ≡ Y) × (ns' ≡ ns2) × (bytes' ≡ bytes2)
write_c_one M I W ns x len buf time bytes c d J L Z Y ns' ns2 bytes' bytes2 a b =
    let one = write_one M I W _ buf time a.answer b.answer J L Z Y a.call b.call in
    let said = ap (λ (o : CountedOut). says o.answer) one.0 in
    let e = count_out_one _ _ _ _ ns bytes c d ns' ns2 bytes' bytes2 said (ap (λ (o : CountedOut). o.handle) one.0) a.told b.told in
    (e.0, one.1, one.2, e.1, e.2)

pub patch_c_one : (M : Mount) (I W ns x : List ℕ) (len : ℕ) (buf : List ℕ) (time bytes c d : ℕ) (J L Z Y ns' ns2 : List ℕ) (bytes' bytes2 : ℕ)
    → PatchesC M I W ns x len buf time bytes c J Z ns' bytes'
    → PatchesC M I W ns x len buf time bytes d L Y ns2 bytes2
    → (c ≡ d) × (J ≡ L) × (Z ≡ Y) × (ns' ≡ ns2) × (bytes' ≡ bytes2)
patch_c_one M I W ns x len buf time bytes c d J L Z Y ns' ns2 bytes' bytes2 a b =
    let one = patch_one M I W _ buf time a.answer b.answer J L Z Y a.call b.call in
    let said = ap (λ (o : CountedOut). says o.answer) one.0 in
    let e = count_out_one _ _ _ _ ns bytes c d ns' ns2 bytes' bytes2 said (ap (λ (o : CountedOut). o.handle) one.0) a.told b.told in
    (e.0, one.1, one.2, e.1, e.2)
