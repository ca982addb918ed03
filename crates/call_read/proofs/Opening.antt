-- What open, info and list know where they answer: one law for each answer.
use mathlib.Core.Path.{◌≡◌, refl, sym, ap, ◌∙◌, subst}
use mathlib.Core.Bool.{Bool, true, false}
use mathlib.Core.Logic.{◌⊎◌, inl, inr}
use mathlib.Core.List.{List, [], ◌∷◌}
use Prim.Native.Nat.{ℕ, ◌≤◌, ◌<◌}
use lib.ListN.{length, get_or}
use Rattle.std.specs.Prelude.{Result, Ok, Err}
use borrow.Author.Tests.{lt-ltb, le-ltb}
use Rattle.block.specs.declared.Addr.{Addr}
use Rattle.block.specs.Block.{Area}
use Rattle.wire.specs.Be.{splice, zeros}
use Rattle.wire.specs.Pick.{same}
use Rattle.wire.proofs.Picks.{pick_true, pick_false}
use Rattle.model.specs.Answers.{Reply, accepted, refused, and_then}
use Rattle.model.specs.Render.{padded}
use Rattle.model.specs.Volume.{file_limit}
use Rattle.limits.specs.Refusals.{refusal_number}
use Rattle.limits.specs.declared.Damage.{Damage}
use Rattle.limits.specs.declared.Refusal.{Refusal}
use Rattle.limits.specs.Says.{says}
use Rattle.dir_entry.specs.declared.Kind.TheVariants.{Dir, File, Device}
use Rattle.dir_entry.specs.declared.DirEntry.{DirEntry}
use Rattle.dir_entry.specs.Entry.{is_file}
use Rattle.read_dir.specs.declared.Listed.{Listed}
use Rattle.read_dir.specs.Walk.{walk}
use Rattle.read_dir.specs.Finds.{sum_from, skip, list_from, records_from, on_listed}
use Rattle.path.specs.Path.{slash, last_name}
use Rattle.dir.specs.declared.Located.{Located}
use Rattle.dir.specs.Resolve.{Held, held, entry_of, open_dir}
use Rattle.dir.specs.Post.{number_of, located}
use Rattle.dir.proofs.Answers.{entry_short}
use Rattle.handle.specs.declared.Handle.{Handle}
use Rattle.handle.specs.Handles.{new_handle}
use Rattle.call_read.specs.declared.About.{About}
use Rattle.call_read.specs.Reading.{handle_for, open_entry, open_on, about_entry, about_root, no_about, info_on, InfoIs, counts_of, on_reply, ListIs, list_on, records_on, records_at}

-- ---- what open makes of an entry

module _ (x : List ℕ) (a : ℕ) (e : DirEntry) where
  pub entry_dir : e.kind ≡ Dir → refused 6 ≡ open_entry x (held a e)
  unfolding open_entry
  entry_dir k = sym (pick_false _ _ (ap is_file k))

  pub entry_device : e.kind ≡ Device → refused 6 ≡ open_entry x (held a e)
  unfolding open_entry
  entry_device k = sym (pick_false _ _ (ap is_file k))

  entry_large : e.kind ≡ File → file_limit < e.size → refused 10 ≡ open_entry x (held a e)
  unfolding open_entry
  entry_large k h = sym (pick_true _ _ (ap is_file k) ∙ pick_true _ _ (lt-ltb file_limit e.size h))

  pub entry_file : e.kind ≡ File → e.size ≤ file_limit → accepted (handle_for a e x) ≡ open_entry x (held a e)
  unfolding open_entry
  entry_file k h = sym (pick_true _ _ (ap is_file k) ∙ pick_false _ _ (le-ltb file_limit e.size h))

-- ---- the entry at the full path l

module _ (A : Area) (I l : List ℕ) where
  lost : {T : Type 0} (f : Held → Reply T) (x : Refusal) → refused (refusal_number x) ≡ entry_of A I l → refused (refusal_number x) ≡ and_then (entry_of A I l) f
  unfolding and_then
  lost f x e = ap (λ (q : Reply Held). and_then q f) e

  found : {T : Type 0} (f : Held → Reply T) (x : Located) → accepted (located x) ≡ entry_of A I l → f (located x) ≡ and_then (entry_of A I l) f
  unfolding and_then
  found f x e = ap (λ (q : Reply Held). and_then q f) e

  -- a name that was found has at most 255 bytes; y is that name, as code has it
  pub found_short : ((i : ℕ) → get_or I i 0 < 256) → (x : Located) → accepted (located x) ≡ entry_of A I l → (y : List ℕ) → y ≡ last_name l → length y ≤ 255
  found_short bytes x e y i = subst (λ (z : List ℕ). length z ≤ 255) (sym i) (entry_short A I bytes l (located x) (sym e))

  pub open_lost : (x : Refusal) → refused (refusal_number x) ≡ entry_of A I l → refused (refusal_number x) ≡ open_on A I l
  unfolding open_on
  open_lost x e = lost (open_entry (last_name l)) x e

  pub info_lost : (x : Refusal) → refused (refusal_number x) ≡ entry_of A I l → refused (refusal_number x) ≡ and_then (entry_of A I l) (about_entry (last_name l))
  info_lost x e = lost (about_entry (last_name l)) x e

  module _ (x : Located) (o : accepted (located x) ≡ entry_of A I l) where
    at_entry : open_entry (last_name l) (located x) ≡ open_on A I l
    unfolding open_on
    at_entry = found (open_entry (last_name l)) x o

    pub open_other : (x.entry.kind ≡ Dir) ⊎ (x.entry.kind ≡ Device) → refused 6 ≡ open_on A I l
    open_other (inl k) = entry_dir (last_name l) x.dir.0 x.entry k ∙ at_entry
    open_other (inr k) = entry_device (last_name l) x.dir.0 x.entry k ∙ at_entry

    pub open_large_no : x.entry.kind ≡ File → file_limit < x.entry.size → refused 10 ≡ open_on A I l
    open_large_no k h = entry_large (last_name l) x.dir.0 x.entry k h ∙ at_entry

    pub open_file : x.entry.kind ≡ File → x.entry.size ≤ file_limit → (y : List ℕ) → y ≡ last_name l
        → (h : Handle) → h ≡ new_handle x.dir y x.entry.addr x.entry.size → accepted h ≡ open_on A I l
    open_file k z y i h q =
        ap accepted (q ∙ ap (λ (n : List ℕ). new_handle x.dir n x.entry.addr x.entry.size) i)
        ∙ entry_file (last_name l) x.dir.0 x.entry k z ∙ at_entry

    -- what is told of an entry
    pub abouted : (y name : List ℕ) → y ≡ last_name l → name ≡ padded 255 y
        → accepted (record { kind = x.entry.kind; size = x.entry.size; time = x.entry.time; name = name; len = length y })
        ≡ and_then (entry_of A I l) (about_entry (last_name l))
    abouted y name i q =
        ap accepted (λ j. record { kind = x.entry.kind; size = x.entry.size; time = x.entry.time; name = (q ∙ ap (padded 255) i) j; len = length (i j) })
        ∙ found (about_entry (last_name l)) x o

-- ---- the answer of open

-- ---- and of info

pub info_told : {q : Reply About} (a : About) → accepted a ≡ q
    → InfoIs q (record { answer = Ok tt; kind = a.kind; size = a.size; time = a.time; name = a.name; len = a.len })
info_told a e = record { answer = e; empty = tt }

pub info_refused : {q : Reply About} (x : Refusal) → refused (refusal_number x) ≡ q
    → InfoIs q (record { answer = Err x; kind = Dir; size = no_about.size; time = no_about.time; name = no_about.name; len = no_about.len })
info_refused x e = record { answer = e; empty = refl }

-- the root's own
pub root_total : (f : Result ℕ Damage) (n : ℕ) → Ok n ≡ f → accepted (record { kind = Dir; size = n; time = 0; name = zeros 255; len = 0 }) ≡ about_root f
unfolding padded
root_total f n e = ap about_root e

module _ (A : Area) (I l p : List ℕ) (b : Bool) (o : b ≡ same p (slash ∷ [])) where
  pub info_is_root : b ≡ true → about_root (sum_from 0 (walk A I A.first)) ≡ info_on A I l p
  unfolding info_on
  info_is_root e = sym (pick_true _ _ (sym o ∙ e))

  pub info_is_other : b ≡ false → and_then (entry_of A I l) (about_entry (last_name l)) ≡ info_on A I l p
  unfolding info_on
  info_is_other e = sym (pick_false _ _ (sym o ∙ e))

-- ---- a listing

pub list_as : {r q : Reply Listed} {rs ss buf out : List ℕ} {x : Result Listed Refusal} → ListIs r rs buf out x → r ≡ q → rs ≡ ss → ListIs q ss buf out x
list_as {r} {q} {rs} {ss} {buf} {out} {x} i e f =
    record { answer = i.answer ∙ e; buffer = i.buffer ∙ ap (λ (z : Reply Listed). on_reply z (splice buf 0 rs) buf) e ∙ ap (λ (z : List ℕ). on_reply q (splice buf 0 z) buf) f }

-- a refused one leaves the buffer
pub list_refused : (r : Reply Listed) (rs buf : List ℕ) (x : Refusal) → refused (refusal_number x) ≡ r → ListIs r rs buf buf (Err x)
list_refused r rs buf x e = record { answer = e; buffer = ap (λ (z : Reply Listed). on_reply z (splice buf 0 rs) buf) e }

on_counts : (f : Result Listed Damage) (rs buf : List ℕ) → on_listed f rs buf ≡ on_reply (counts_of f) (splice buf 0 rs) buf
on_counts (Ok l) rs buf = refl
on_counts (Err d) rs buf = refl

module _ (A : Area) (I l : List ℕ) (i : ℕ) where
  pub list_lost : (x : Refusal) → refused (refusal_number x) ≡ open_dir A I l → (rs buf : List ℕ) → ListIs (list_on A I l i (length buf)) rs buf buf (Err x)
  unfolding list_on and_then
  list_lost x e rs buf =
      list_refused _ rs buf x (ap (λ (q : Reply ℕ). and_then q (λ a. counts_of (list_from (length buf) 0 i (skip i (walk A I a))))) e)

  -- what the directory at a gives, as it is or refused
  pub list_gave : (a : Addr) → accepted (number_of a) ≡ open_dir A I l → (f : Result Listed Damage) (buf out : List ℕ)
      → f ≡ list_from (length buf) 0 i (skip i (walk A I a.0)) → out ≡ on_listed f (records_from (length buf) 0 (skip i (walk A I a.0))) buf
      → (q : Result Listed Refusal) → says q ≡ counts_of f → ListIs (list_on A I l i (length buf)) (records_on A I l i (length buf)) buf out q
  unfolding list_on records_on and_then
  list_gave a o f buf out e b q g =
      list_as (record { answer = g; buffer = b ∙ on_counts f _ buf })
      (ap counts_of e ∙ ap (λ (r : Reply ℕ). and_then r (λ a. counts_of (list_from (length buf) 0 i (skip i (walk A I a))))) o)
      (ap (records_at A I i (length buf)) o)
