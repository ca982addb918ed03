-- What a turn of the listing program says: one law for each way out.
use mathlib.Core.Path.{◌≡◌, refl, sym, ap, subst, ◌∙◌}
use mathlib.Core.Bool.{Bool, false}
use mathlib.Core.List.{List}
use Prim.Native.Nat.{ℕ}
use native.Mathlib.Omega.{arith}
use lib.ListN.{length}
use Rattle.wire.specs.Be.{splice}
use Rattle.model.specs.Answers.{Reply, accepted}
use Rattle.model.specs.Geometry.{Mount, open_refusal}
use Rattle.model.proofs.Replies.{given_accepted, accepted-one, not_accepted}
use Rattle.limits.specs.declared.Damage.{Damage}
use Rattle.limits.specs.declared.Refusal.{Refusal}
use Rattle.read_dir.specs.declared.Listed.{Listed}
use Rattle.read_dir.specs.Finds.{list_from}
use Rattle.call_volume.specs.Checking.{Decides, Checks}
use Rattle.call_read.specs.Reading.{on_reply}
use Rattle.lsmfs_lines.specs.Line.{refused_line}
use Rattle.lsmfs_pages.specs.declared.Said.{Said}
use Rattle.lsmfs_pages.specs.Page.{root_from, page_text, text_counts, page_reply, Pages}
use Rattle.lsmfs_pages.specs.Says.{Told, OnPage, Says}
use Rattle.std.specs.Prelude.{Result, Ok, Err}

-- the bytes that a page's answer tells are those of its text
text_bytes : (x : Result Listed Damage) (t : List ℕ) (c : Listed) → text_counts x t ≡ accepted c → c.bytes ≡ length t
text_bytes (Ok l) t c e = sym (ap (λ (y : Listed). y.bytes) (accepted-one (record { bytes = length t; next = l.next }) c e))
text_bytes (Err d) t c e = absurd (not_accepted 17 c e)

page_bytes : (M : Mount) (I : List ℕ) (i cap : ℕ) (c : Listed) → accepted c ≡ page_reply M I i cap → c.bytes ≡ length (page_text M I i cap)
unfolding page_reply
page_bytes M I i cap c e =
    let x : Result Listed Damage = list_from cap 0 i (root_from M I i) in
    let t : List ℕ = page_text M I i cap in
    text_bytes x t c (given_accepted (open_refusal M I) (text_counts x t) c (sym e)).1

module _ (M : Mount) (I : List ℕ) (i : ℕ) (buf mid : List ℕ) where
  -- a page that stands in the buffer is left there
  pub page_told : (c : Listed) → Pages M I i 1024 buf mid (Ok c) → OnPage (page_reply M I i 1024) buf mid (page_text M I i 1024) i (record { len = c.bytes; next = c.next })
  page_told c p =
      let t : List ℕ = page_text M I i 1024 in
      let m : mid ≡ splice buf 0 t = p.buffer ∙ ap (λ (y : Reply Listed). on_reply y (splice buf 0 t) buf) (sym p.answer) in
      subst (λ (y : Reply Listed). OnPage y buf mid t i (record { len = c.bytes; next = c.next })) p.answer (m, page_bytes M I i 1024 c p.answer, refl)

module _ (M : Mount) (I : List ℕ) (i : ℕ) (buf out : List ℕ) (s : Said) where
  module _ (more : Bool) (W Z : List ℕ) (e : more ≡ false) (n : length W ≡ 16) where
    decided : (a : Result (Unit {0}) Refusal) → Checks M I W a Z → Decides M I 16 a
    decided a c = subst (λ (k : ℕ). Decides M I k a) n c.answer

    pub says_page : Checks M I W (Ok tt) Z → OnPage (page_reply M I i 1024) buf out (page_text M I i 1024) i s → Says M I more i buf out s
    says_page c t =
        let d = decided (Ok tt) c in
        record {
          long = λ g. absurd (let z : ◌≡◌ {A = ℕ} 0 1 = cc in omega arith);
          refuses = λ _ h. absurd (h d.0 d.1);
          lists = λ _ _ _. t;
        }

-- the line of a refusal, by its number
pub refused_told : (buf out : List ℕ) (m n len i : ℕ) → n ≡ m → out ≡ splice buf 0 (refused_line n) → len ≡ length (refused_line n)
    → Told buf out (refused_line m) i (record { len = len; next = i })
refused_told buf out m n len i e p q =
    (p ∙ ap (λ (k : ℕ). splice buf 0 (refused_line k)) e, q ∙ ap (λ (k : ℕ). length (refused_line k)) e, refl)
