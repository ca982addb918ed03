-- The pages are all of the listing: each is followed by the lines that are left, and where one ends at its own number none is left.
use mathlib.Core.Path.{◌≡◌, refl, sym, ap, ◌∙◌}
use mathlib.Core.Bool.{true, false}
use mathlib.Core.Logic.{◌⊎◌, inl, inr}
use mathlib.Core.List.{List, [], ◌++◌, append_assoc}
use Prim.Native.Nat.{ℕ, zero, suc, ◌+◌, ◌-◌, ◌≤◌, ◌<◌}
use native.Mathlib.Nat.{zero-add, suc-add}
use native.Mathlib.Omega.{arith}
use lib.Dec.{ltb}
use borrow.Author.Tests.{lt-ltb}
use Rattle.std.specs.Prelude.{Result, Ok}
use Rattle.wire.specs.Pick.{pick}
use Rattle.wire.proofs.Picks.{either, pick_true, pick_false}
use Rattle.dir_entry.specs.declared.DirEntry.{DirEntry}
use Rattle.limits.specs.declared.Damage.{Damage}
use Rattle.read_dir.specs.declared.Listed.{Listed}
use Rattle.read_dir.specs.Walk.{Walk, item, finished, damaged}
use Rattle.read_dir.specs.Finds.{skip, list_from}
use Rattle.read_dir.proofs.Records.{skip_item, skip-none, skip_finished, skip_damaged}
use Rattle.read_dir.proofs.Items.{Each}
use Rattle.lsmfs_lines.specs.Line.{line_of}
use Rattle.lsmfs_lines.specs.Text.{lines_from}
use Rattle.lsmfs_lines.proofs.Listed.{Plain}
use Rattle.lsmfs_pages.specs.Page.{all_lines}

-- the entries from number i on, and then from k further on
skip-add : (i k : ℕ) (w : Walk) → skip (i + k) w ≡ skip k (skip i w)
unfolding skip
skip-add zero k w = ap (λ (j : ℕ). skip j w) (zero-add k)
skip-add (suc i) k (item e a o x w) = ap (λ (j : ℕ). skip j (item e a o x w)) (suc-add i k) ∙ skip-add i k w
skip-add (suc i) k finished = ap (λ (j : ℕ). skip j finished) (suc-add i k) ∙ sym (skip_finished k)
skip-add (suc i) k damaged = ap (λ (j : ℕ). skip j damaged) (suc-add i k) ∙ sym (skip_damaged k)

lines_item : (e : DirEntry) (a o : ℕ) (x : List ℕ) (w : Walk) → all_lines (item e a o x w) ≡ line_of e.kind e.size e.time x ++ all_lines w
unfolding all_lines
lines_item e a o x w = refl

ends_next : (b i : ℕ) (c : Listed) → ◌≡◌ {A = Result Listed Damage} (Ok (record { bytes = b; next = i })) (Ok c) → i ≡ c.next
ends_next b i c e = let q : ◌≡◌ {A = Listed} (record { bytes = b; next = i }) c = cc in ap (λ (l : Listed). l.next) q

-- A listing that ends at a number gives the lines before it, and the others are those from there on.
rest_of : (cap b i : ℕ) (w : Walk) (c : Listed) → list_from cap b i w ≡ Ok c → (i ≤ c.next) × (all_lines w ≡ lines_from cap b w ++ all_lines (skip (c.next - i) w))
unfolding list_from lines_from all_lines
rest_of cap b i (item e a o x w) c q = go (either (ltb (b + (14 + e.len)) cap)) (rest_of cap (b + (14 + e.len)) (i + 1) w c) q
  where
    line : List ℕ
    line = line_of e.kind e.size e.time x

    more : List ℕ
    more = lines_from cap (b + (14 + e.len)) w

    go : (ltb (b + (14 + e.len)) cap ≡ true) ⊎ (ltb (b + (14 + e.len)) cap ≡ false)
        → (list_from cap (b + (14 + e.len)) (i + 1) w ≡ Ok c → (i + 1 ≤ c.next) × (all_lines w ≡ lines_from cap (b + (14 + e.len)) w ++ all_lines (skip (c.next - (i + 1)) w)))
        → pick (ltb (b + (14 + e.len)) cap) (list_from cap (b + (14 + e.len)) (i + 1) w) (Ok (record { bytes = b; next = i })) ≡ Ok c
        → (i ≤ c.next) × (line_of e.kind e.size e.time x ++ all_lines w ≡ pick (ltb (b + (14 + e.len)) cap) (line_of e.kind e.size e.time x ++ lines_from cap (b + (14 + e.len)) w) [] ++ all_lines (skip (c.next - i) (item e a o x w)))
    go (inl t) ih q =
        let h = ih (sym (pick_true (list_from cap (b + (14 + e.len)) (i + 1) w) (Ok (record { bytes = b; next = i })) t) ∙ q) in
        let left : Walk = skip (c.next - (i + 1)) w in
        let d : c.next - i - 1 ≡ c.next - (i + 1) = omega arith in
        let s : skip (c.next - i) (item e a o x w) ≡ left = skip_item (c.next - i) e a o x w (omega (arith, h.0)) ∙ ap (λ (k : ℕ). skip k w) d in (
          omega (arith, h.0),
          ap (λ (y : List ℕ). line ++ y) h.1 ∙ sym (append_assoc line more (all_lines left)) ∙ ap (λ (y : List ℕ). y ++ all_lines left) (sym (pick_true (line ++ more) [] t))
              ∙ ap (λ (y : Walk). pick (ltb (b + (14 + e.len)) cap) (line ++ more) [] ++ all_lines y) (sym s),
        )
    go (inr f) ih q =
        let r : ◌≡◌ {A = Result Listed Damage} (Ok (record { bytes = b; next = i })) (Ok c) = sym (pick_false (list_from cap (b + (14 + e.len)) (i + 1) w) (Ok (record { bytes = b; next = i })) f) ∙ q in
        let d : i ≡ c.next = ends_next b i c r in
        let s : skip (c.next - i) (item e a o x w) ≡ item e a o x w = skip-none (c.next - i) (item e a o x w) (omega arith) in (
          omega arith,
          sym (ap (λ (y : List ℕ). y ++ all_lines (skip (c.next - i) (item e a o x w))) (pick_false (line ++ more) [] f) ∙ ap all_lines s ∙ lines_item e a o x w),
        )
rest_of cap b i finished c q = let d : i ≡ c.next = ends_next b i c q in (omega arith, sym (ap all_lines (skip_finished (c.next - i))))
rest_of cap b i damaged c q = absurd (let z : ◌≡◌ {A = ℕ} 0 1 = cc in omega arith)

-- Where it ends at its own number, and the buffer takes the longest record, there is no entry.
none_left : (cap i : ℕ) (w : Walk) (c : Listed) → 269 < cap → Each (λ e a o x. Plain e x) w → list_from cap 0 i w ≡ Ok c → c.next ≤ i → all_lines w ≡ []
unfolding list_from all_lines
none_left cap i (item e a o x w) c h p q n =
    let t : ltb (0 + (14 + e.len)) cap ≡ true = lt-ltb (0 + (14 + e.len)) cap (omega (arith, p.0.short)) in
    absurd (omega (arith, (rest_of cap (0 + (14 + e.len)) (i + 1) w c (sym (pick_true (list_from cap (0 + (14 + e.len)) (i + 1) w) (Ok (record { bytes = 0; next = i })) t) ∙ q)).0))
none_left cap i finished c h p q n = refl
none_left cap i damaged c h p q n = refl
