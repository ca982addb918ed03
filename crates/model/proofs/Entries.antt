-- What code reads of a number and of an entry that the image shows, and where a block's entries stop.
use mathlib.Core.Path.{◌≡◌, sym, ap, ◌∙◌, subst}
use mathlib.Core.List.{List, [], ◌∷◌, ◌++◌}
use Prim.Native.Nat.{ℕ, zero, suc, ◌+◌, ◌-◌, ◌*◌, ◌/◌, ◌%◌, ◌^◌, ◌≤◌, ◌<◌}
use native.Mathlib.Nat.{add-zero, pow-suc}
use native.Mathlib.Omega.{arith}
use lib.ListN.{length, get_or, replicate, length-append, length-replicate, get_or-replicate}
use Rattle.wire.specs.Be.{be, bytes}
use Rattle.wire.proofs.Numbers.{length_bytes, be_bytes, be_ext}
use Rattle.block.specs.Block.{next}
use Rattle.model.specs.Tree.{Entry, used}
use Rattle.model.specs.Render.{View, padded, kind_of, address_of, size_of, entry_bytes, entries_bytes, Shows}
use Rattle.model.specs.Steps.{Bytes}
use Rattle.model.proofs.Commit.{shows_both, shows_one, shows_two}
use Rattle.model.proofs.Cuts.{bytes_split}
use Rattle.model.proofs.Full.{length_entries}

-- a number that the image shows is read
pub be_shown : (I : List ℕ) (k n v : ℕ) → v < 256 ^ n → Shows I k (bytes n v) → be n I k ≡ v
be_shown I k n v h s = be_ext n I (bytes n v) k 0 (λ i q. s i (omega (arith, length_bytes n v)) ∙ ap (λ (z : ℕ). get_or (bytes n v) z 0) (let e : i ≡ 0 + i = omega arith in e)) ∙ be_bytes n v h

-- so is the next address of a block
pub next_shown : (B : ℕ) (I : List ℕ) (a z : ℕ) (l : List ℕ) → z < 2 ^ 32 → Shows I (B * a) (bytes 4 z ++ l) → next B I a ≡ z
unfolding next
next_shown B I a z l h s = be_shown I (B * a) 4 z h (shows_one I (B * a) (bytes 4 z) l s)

-- a number that is read fits its field,
pub be_fits : (n : ℕ) (I : List ℕ) (at : ℕ) → Bytes I → be n I at < 256 ^ n
unfolding be
be_fits zero I at b = omega arith
be_fits (suc n) I at b = rw pow-suc (omega (arith, be_fits n I at b, b (at + n)))

-- and its bytes are those that the image shows
pub bytes_shown : (n : ℕ) (I : List ℕ) (at : ℕ) → Bytes I → Shows I at (bytes n (be n I at))
unfolding be bytes
bytes_shown zero I at b = λ i h. absurd (omega arith)
bytes_shown (suc n) I at b =
    let v : ℕ = be n I at * 256 + get_or I (at + n) 0 in
    let q : v / 256 ≡ be n I at = omega (arith, b (at + n)) in
    let r : v % 256 ≡ get_or I (at + n) 0 = omega (arith, b (at + n)) in
    let l : length (bytes n (v / 256)) ≡ n = length_bytes n (v / 256) in
    shows_both I at (bytes n (v / 256)) ((v % 256) ∷ [])
    (subst (λ (x : ℕ). Shows I at (bytes n x)) (sym q) (bytes_shown n I at b))
    (λ i h.
    let z : i ≡ 0 = omega arith in
    rw (z, l, add-zero) (sym r))

-- The fields of the entry at byte k.
pub record Reads {X : Type 0} (v : View X) (I : List ℕ) (k : ℕ) (e : Entry X) : Type 0 where
  pub kind : get_or I k 0 ≡ kind_of e.node
  pub address : address_of v e.node < 2 ^ 32 → be 4 I (k + 1) ≡ address_of v e.node
  pub size : size_of v e.node < 2 ^ 32 → be 4 I (k + 5) ≡ size_of v e.node
  pub time : e.time < 2 ^ 64 → be 8 I (k + 9) ≡ e.time
  pub letters : get_or I (k + 17) 0 ≡ length e.name
  pub name : Shows I (k + 18) e.name

entry_reads : {X : Type 0} (v : View X) (I : List ℕ) (k : ℕ) (e : Entry X) → Shows I k (entry_bytes v e) → Reads v I k e
unfolding entry_bytes
entry_reads v I k e s =
    let a : List ℕ = bytes 4 (address_of v e.node) in
    let z : List ℕ = bytes 4 (size_of v e.node) in
    let t : List ℕ = bytes 8 e.time in
    let la : length a ≡ 4 = length_bytes 4 (address_of v e.node) in
    let lz : length z ≡ 4 = length_bytes 4 (size_of v e.node) in
    let lt : length t ≡ 8 = length_bytes 8 e.time in
    let lf : length (a ++ z) ≡ 8 = length-append a z ∙ omega arith in
    let s₁ : Shows I k ((kind_of e.node ∷ []) ++ (a ++ z)) = shows_one I k (kind_of e.node ∷ (a ++ z)) (t ++ (length e.name ∷ e.name)) s in
    let s₂ : Shows I (k + 1) (a ++ z) = shows_two I k (kind_of e.node ∷ []) (a ++ z) s₁ in
    let s₃ : Shows I (k + suc (length (a ++ z))) (t ++ (length e.name ∷ e.name)) = shows_two I k (kind_of e.node ∷ (a ++ z)) (t ++ (length e.name ∷ e.name)) s in
    let at : (p q : ℕ) (l : List ℕ) → p ≡ q → Shows I p l → Shows I q l = λ p q l r x. subst (λ (j : ℕ). Shows I j l) r x in
    let s₄ : Shows I (k + 9) (t ++ (length e.name ∷ e.name)) = at _ (k + 9) (t ++ (length e.name ∷ e.name)) (omega arith) s₃ in
    let s₅ : Shows I (k + 17) ((length e.name ∷ []) ++ e.name) = at (k + 9 + length t) (k + 17) (length e.name ∷ e.name) (omega arith) (shows_two I (k + 9) t (length e.name ∷ e.name) s₄) in
    record {
      kind = ap (λ (j : ℕ). get_or I j 0) (sym (add-zero k)) ∙ s₁ 0 (omega arith);
      address = λ h. be_shown I (k + 1) 4 (address_of v e.node) h (shows_one I (k + 1) a z s₂);
      size = λ h. be_shown I (k + 5) 4 (size_of v e.node) h (at (k + 1 + length a) (k + 5) z (omega arith) (shows_two I (k + 1) a z s₂));
      time = λ h. be_shown I (k + 9) 8 e.time h (shows_one I (k + 9) t (length e.name ∷ e.name) s₄);
      letters = ap (λ (j : ℕ). get_or I j 0) (sym (add-zero (k + 17))) ∙ s₅ 0 (omega arith);
      name = at (k + 17 + 1) (k + 18) e.name (omega arith) (shows_two I (k + 17) (length e.name ∷ []) e.name s₅);
    }

-- In a block's data, which stand at byte k: the entry after `left` is at k + used left.
pub block_reads : {X : Type 0} (B : ℕ) (v : View X) (I : List ℕ) (k c : ℕ) (left : List (Entry X)) (e : Entry X) (right : List (Entry X))
    → Shows I k (padded c (entries_bytes v (left ++ (e ∷ right)))) → Reads v I (k + used left) e
unfolding padded
block_reads B v I k c left e right s =
    let l : List ℕ = entries_bytes v left in
    let r : List ℕ = entry_bytes v e ++ entries_bytes v right in
    let a : Shows I k (entries_bytes v (left ++ (e ∷ right))) = shows_one I k (entries_bytes v (left ++ (e ∷ right))) (replicate (c - length (entries_bytes v (left ++ (e ∷ right)))) 0) s in
    let b : Shows I k (l ++ r) = subst (Shows I k) (bytes_split B v left e right) a in
    let d : Shows I (k + used left) (entry_bytes v e ++ entries_bytes v right) = subst (λ (j : ℕ). Shows I (k + j) r) (length_entries v left) (shows_two I k l r b) in
    entry_reads v I (k + used left) e (shows_one I (k + used left) (entry_bytes v e) (entries_bytes v right) d)

-- After the last entry every byte is zero, so the name length that is read there is 0.
pub block_ends : {X : Type 0} (v : View X) (I : List ℕ) (k c : ℕ) (es : List (Entry X)) (j : ℕ) → Shows I k (padded c (entries_bytes v es)) → used es ≤ j → j < c → get_or I (k + j) 0 ≡ 0
unfolding padded
block_ends v I k c es j s h q =
    let l : List ℕ = entries_bytes v es in
    let n : ℕ = length l in
    let e : n ≡ used es = length_entries v es in
    let z : List ℕ = replicate (c - n) 0 in
    let p : k + j ≡ k + n + (j - n) = omega arith in
    let m : length z ≡ c - n = length-replicate (c - n) 0 in
    ap (λ (x : ℕ). get_or I x 0) p ∙ shows_two I k l z s (j - n) (omega arith) ∙ get_or-replicate (c - n) (j - n) 0 0 (omega arith)
