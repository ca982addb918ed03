-- From the records that a listing of `/` gives to the lines of the root's entries.
use mathlib.Core.Path.{◌≡◌, refl, sym, ap, ◌∙◌}
use mathlib.Core.Bool.{Bool, true, false}
use mathlib.Core.Logic.{◌⊎◌, inl, inr}
use mathlib.Core.List.{List, [], ◌∷◌, ◌++◌}
use Prim.Native.Nat.{ℕ, zero, suc, ◌+◌, ◌*◌, ◌≤◌, ◌<◌}
use native.Mathlib.Nat.{zero-add}
use native.Mathlib.Omega.{arith}
use lib.Dec.{ltb}
use lib.ListN.{length, take, length-append}
use borrow.Author.Tests.{ltb-true}
use Rattle.wire.specs.Be.{splice}
use Rattle.wire.specs.Pick.{pick, same}
use Rattle.wire.proofs.Picks.{either, pick_true, pick_false}
use Rattle.block.specs.Block.{Area}
use Rattle.model.specs.Answers.{Reply, accepted, refused, and_then, when, first_of, given}
use Rattle.limits.specs.Refusals.{refusal_number}
use Rattle.limits.specs.declared.Damage.{Damage}
use Rattle.limits.specs.declared.Refusal.{Refusal}
use Rattle.model.specs.Geometry.{Mount, open_refusal}
use Rattle.model.specs.Steps.{Bytes}
use Rattle.model.proofs.Opens.{opens_sound}
use Rattle.model.proofs.Replies.{given_accepted, accepted-one, not_accepted}
use Rattle.read_dir.specs.declared.Listed.{Listed}
use Rattle.read_dir.specs.Walk.{Walk, item, finished, damaged, walk}
use Rattle.read_dir.specs.Finds.{skip, list_from, record_of, records_from}
use Rattle.read_dir.proofs.Records.{length_record, take_stored}
use Rattle.read_dir.proofs.Items.{Each}
use Rattle.path.specs.Path.{slash, starts_slash, real_path, steps}
use Rattle.path.proofs.FullPaths.{root_good}
use Rattle.dir.specs.Resolve.{resolve, open_dir}
use Rattle.call_read.specs.Reading.{counts_of, area_at, path_call, list_on, list_reply, records_at, records_on, on_reply, Lists}
use Rattle.lsmfs_lines.specs.Text.{text_of}
use Rattle.lsmfs_lines.proofs.Listed.{Plain, text_directory, directory_plain}
use Rattle.lsmfs_pages.specs.Page.{root_from, page_text, text_counts, page_reply, Pages}
use Rattle.std.specs.Prelude.{Result, Ok, Err}

-- ---- the path `/`

abbrev pub root : List ℕ
root = slash ∷ []

root_opened : (A : Area) (I : List ℕ) → open_dir A I (real_path root root) ≡ accepted A.first
unfolding real_path starts_slash pick steps same resolve
root_opened A I = refl

first_alone : (k : ℕ) → first_of (k ∷ (0 ∷ [])) ≡ k
unfolding first_of
first_alone zero = refl
first_alone (suc k) = refl

root_call : (M : Mount) (I : List ℕ) → path_call M I root root ≡ open_refusal M I
unfolding path_call pick when
root_call M I = ap (λ (b : Bool). first_of (open_refusal M I ∷ (when 4 b ∷ []))) (root_good root) ∙ first_alone (open_refusal M I)

-- ---- what a listing of it answers and gives

module _ (M : Mount) (I : List ℕ) (i cap : ℕ) where
  root_reply : list_reply M I root root i cap ≡ given (open_refusal M I) (counts_of (list_from cap 0 i (root_from M I i)))
  unfolding list_reply list_on and_then
  root_reply =
      ap (λ (k : ℕ). given k (and_then (open_dir (area_at M I) I (real_path root root)) (λ a. counts_of (list_from cap 0 i (skip i (walk (area_at M I) I a))))))
      (root_call M I)
      ∙ ap (λ (r : Reply ℕ). given (open_refusal M I) (and_then r (λ a. counts_of (list_from cap 0 i (skip i (walk (area_at M I) I a))))))
      (root_opened (area_at M I) I)

  root_records : records_on (area_at M I) I (real_path root root) i cap ≡ records_from cap 0 (root_from M I i)
  unfolding records_on
  root_records = ap (records_at (area_at M I) I i cap) (root_opened (area_at M I) I)

counts_records : (x : Result Listed Damage) (c : Listed) → accepted c ≡ counts_of x → x ≡ Ok c
counts_records (Ok l) c e = ap Ok (accepted-one l c (sym e))
counts_records (Err d) c e = absurd (not_accepted 17 c (sym e))

-- a listing that ends here
ends_here : (b i : ℕ) (c : Listed) → ◌≡◌ {A = Result Listed Damage} (Ok (record { bytes = b; next = i })) (Ok c) → b ≡ c.bytes
ends_here b i c e = let q : ◌≡◌ {A = Listed} (record { bytes = b; next = i }) c = cc in ap (λ (l : Listed). l.bytes) q

-- The bytes that are told are those of the records, and they are in the buffer.
told_bytes : (cap b i : ℕ) (w : Walk) (c : Listed) → Each (λ e a o x. Plain e x) w → list_from cap b i w ≡ Ok c
    → (c.bytes ≡ b + length (records_from cap b w)) × (b ≤ cap → c.bytes ≤ cap)
unfolding list_from records_from
told_bytes cap b i (item e a o x w) c p q = go (either (ltb (b + (14 + e.len)) cap)) (told_bytes cap (b + (14 + e.len)) (i + 1) w c p.1) q
  where
    rest : List ℕ
    rest = records_from cap (b + (14 + e.len)) w

    here : Result Listed Damage
    here = Ok (record { bytes = b; next = i })

    go : (ltb (b + (14 + e.len)) cap ≡ true) ⊎ (ltb (b + (14 + e.len)) cap ≡ false)
        → (list_from cap (b + (14 + e.len)) (i + 1) w ≡ Ok c → (c.bytes ≡ b + (14 + e.len) + length rest) × (b + (14 + e.len) ≤ cap → c.bytes ≤ cap))
        → pick (ltb (b + (14 + e.len)) cap) (list_from cap (b + (14 + e.len)) (i + 1) w) here ≡ Ok c
        → (c.bytes ≡ b + length (pick (ltb (b + (14 + e.len)) cap) (record_of e x ++ rest) [])) × (b ≤ cap → c.bytes ≤ cap)
    go (inl t) ih q =
        let h = ih (sym (pick_true (list_from cap (b + (14 + e.len)) (i + 1) w) here t) ∙ q) in
        let k : length (pick (ltb (b + (14 + e.len)) cap) (record_of e x ++ rest) []) ≡ 14 + e.len + length rest
        = ap length (pick_true (record_of e x ++ rest) [] t) ∙ length-append (record_of e x) rest ∙ omega (arith, length_record e x, p.0.len) in
        let f : b + (14 + e.len) < cap = ltb-true (b + (14 + e.len)) cap t in
        (omega (arith, h.0), λ _. h.1 (omega arith))
    go (inr f) ih q =
        let d : b ≡ c.bytes = ends_here b i c (sym (pick_false (list_from cap (b + (14 + e.len)) (i + 1) w) here f) ∙ q) in
        let k : length (pick (ltb (b + (14 + e.len)) cap) (record_of e x ++ rest) []) ≡ 0 = ap length (pick_false (record_of e x ++ rest) [] f) in
        (omega arith, λ h. omega arith)
told_bytes cap b i finished c p q = let d : b ≡ c.bytes = ends_here b i c q in (omega arith, λ h. omega arith)
told_bytes cap b i damaged c p q = absurd (let z : ◌≡◌ {A = ℕ} 0 1 = cc in omega arith)

-- ---- a page

module _ (M : Mount) (I : List ℕ) (i : ℕ) (rs rs₁ : List ℕ) (b : Bytes I) (c : Listed) (l : Lists M I root root i rs (Ok c) rs₁) where
  abbrev records : List ℕ
  records = records_from (length rs) 0 (root_from M I i)

  opened : (open_refusal M I ≡ 0) × (accepted c ≡ counts_of (list_from (length rs) 0 i (root_from M I i)))
  opened =
      let r = given_accepted (open_refusal M I) (counts_of (list_from (length rs) 0 i (root_from M I i))) c (sym (l.answer ∙ root_reply M I i (length rs))) in
      (r.0, sym r.1)

  told : list_from (length rs) 0 i (root_from M I i) ≡ Ok c
  told = counts_records (list_from (length rs) 0 i (root_from M I i)) c opened.1

  inside : (area_at M I).end * (area_at M I).size ≤ length I
  inside = (opens_sound M I opened.0).0.inside_image

  counted : (c.bytes ≡ 0 + length records) × (0 ≤ length rs → c.bytes ≤ length rs)
  counted = told_bytes (length rs) 0 i (root_from M I i) c (directory_plain (area_at M I) I (area_at M I).first i b inside) told

  records_fit : c.bytes ≤ length rs
  records_fit = counted.1 (omega arith)

  given_records : rs₁ ≡ splice rs 0 records
  given_records =
      l.buffer
      ∙ ap (λ (r : Reply Listed). on_reply r (splice rs 0 (records_on (area_at M I) I (real_path root root) i (length rs))) rs) (sym l.answer)
      ∙ ap (splice rs 0) (root_records M I i (length rs))

  records_taken : take c.bytes rs₁ ≡ records
  records_taken =
      let e : length records ≡ c.bytes = omega (arith, counted.0) in
      let h : 0 + c.bytes ≤ length rs = omega (arith, records_fit) in
      ap (take c.bytes) given_records ∙ ap (λ (k : ℕ). take k (splice rs 0 records)) (sym (zero-add c.bytes)) ∙ take_stored rs 0 records c.bytes e h

  text_taken : text_of (take c.bytes rs₁) ≡ page_text M I i (length rs)
  unfolding page_text
  text_taken = ap text_of records_taken ∙ text_directory (area_at M I) I (area_at M I).first i (length rs) b inside

  page_accepted : page_reply M I i (length rs) ≡ accepted (record { bytes = length (page_text M I i (length rs)); next = c.next })
  unfolding page_reply given
  page_accepted =
      ap (λ (k : ℕ). given k (text_counts (list_from (length rs) 0 i (root_from M I i)) (page_text M I i (length rs)))) opened.0
      ∙ ap (λ (x : Result Listed Damage). text_counts x (page_text M I i (length rs))) told

  -- what code asks for the text of the records in the buffer
  pub page_within : length rs₁ ≡ length rs → c.bytes ≤ length rs₁
  page_within e = omega (arith, records_fit)

  pub page_written : (o o₁ : List ℕ) (r : ℕ) → o₁ ≡ splice o 0 (text_of (take c.bytes rs₁)) → r ≡ length (text_of (take c.bytes rs₁))
      → Pages M I i (length rs) o o₁ (Ok (record { bytes = r; next = c.next }))
  page_written o o₁ r e f =
      let q : r ≡ length (page_text M I i (length rs)) = f ∙ ap length text_taken in
      record {
        answer = ap (λ (k : ℕ). accepted (the_counts k)) q ∙ sym page_accepted;
        buffer =
            e ∙ ap (splice o 0) text_taken ∙ ap (λ (y : Reply Listed). on_reply y (splice o 0 (page_text M I i (length rs))) o) (sym page_accepted);
      }
    where
      the_counts : ℕ → Listed
      the_counts k = record { bytes = k; next = c.next }

-- a refused one leaves the buffer
refused_counts : (k m : ℕ) (x : Result Listed Damage) (t : List ℕ) → ◌≡◌ {A = Reply Listed} (refused m) (given k (counts_of x)) → ◌≡◌ {A = Reply Listed} (refused m) (given k (text_counts x t))
unfolding given
refused_counts zero m (Ok l) t e = absurd (not_accepted m l e)
refused_counts zero m (Err d) t e = e
refused_counts (suc k) m x t e = e

pub page_refused : (M : Mount) (I : List ℕ) (i : ℕ) (rs rs₁ : List ℕ) (x : Refusal) → Lists M I root root i rs (Err x) rs₁ → (o : List ℕ) → Pages M I i (length rs) o o (Err x)
unfolding page_reply
page_refused M I i rs rs₁ x a o =
    let r = refused_counts (open_refusal M I) (refusal_number x) (list_from (length rs) 0 i (root_from M I i)) (page_text M I i (length rs)) (a.answer ∙ root_reply M I i (length rs)) in
    record { answer = r; buffer = ap (λ (y : Reply Listed). on_reply y (splice o 0 (page_text M I i (length rs))) o) r }
