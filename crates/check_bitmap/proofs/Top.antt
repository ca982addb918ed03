-- W1's superblock and W5's used count: the tests say exactly what the definitions of a volume do.
-- (That a well-formed image opens, and by which numbers, is `well_formed_opens` and `well_formed_geo` of model's OneVolume.)
use mathlib.Core.Path.{◌≡◌, sym, ap, ◌∙◌, subst}
use mathlib.Core.Bool.{true}
use mathlib.Core.List.{List, [], ◌∷◌, ◌++◌}
use Prim.Native.Nat.{ℕ, zero, suc, ◌+◌, ◌-◌, ◌*◌, ◌<◌}
use native.Mathlib.Nat.{add-zero}
use native.Mathlib.Omega.{arith}
use lib.Dec.{eqb}
use lib.ListN.{length, get_or, take, drop, length-append, length-replicate}
use lib.Seq.{get_or-take, get_or-drop}
use borrow.Author.Tests.{eqb-true, eq-eqb}
use Rattle.wire.specs.Be.{be, bytes, zeros}
use Rattle.wire.specs.Pick.{zero_from}
use Rattle.wire.proofs.Numbers.{length_bytes, get_or-zeros}
use Rattle.wire.proofs.Picks.{same_eq}
use Rattle.wire.proofs.Zeros.{zeros_shown, zeros_pass}
use Rattle.model.specs.Tree.{Tree}
use Rattle.model.specs.Render.{Shows, padded}
use Rattle.model.specs.Geometry.{Mount, Geo, code_size, block_size, data_at, set_bits, signature, super_bytes, numbered, geo_at, version_at, code_at, count_at, used_count, open_refusal}
use Rattle.model.specs.Volume.{Volume}
use Rattle.model.specs.Steps.{Bytes}
use Rattle.model.proofs.Commit.{shows_both, shows_two}
use Rattle.model.proofs.Entries.{bytes_shown}
use Rattle.model.proofs.OneVolume.{used_set}
use Rattle.model.proofs.Opens.{Marked, opens_sound}

-- the first ten bytes of an image that opens: the letters, and the version and the size code that it has there
mark_shown : (M : Mount) (I : List ℕ) → Marked M I
    → Shows I (code_size M.code * M.K) (signature ++ (version_at M I ∷ (M.code ∷ [])))
unfolding version_at code_at
mark_shown M I m =
    let k : ℕ = code_size M.code * M.K in
    let letters : Shows I k signature = λ i h.
    sym (get_or-take 8 (drop k I) i 0 h ∙ get_or-drop k I i 0) ∙ ap (λ (l : List ℕ). get_or l i 0) (same_eq (take 8 (drop k I)) signature m.letters) in
    shows_both I k signature (version_at M I ∷ (M.code ∷ [])) letters (two k m.code)
  where
    two : (k : ℕ) → get_or I (k + 9) 0 ≡ M.code → Shows I (k + 8) (get_or I (k + 8) 0 ∷ (M.code ∷ []))
    two k e zero h = ap (λ (j : ℕ). get_or I j 0) (add-zero (k + 8))
    two k e (suc zero) h = let j : k + 8 + 1 ≡ k + 9 = omega arith in ap (λ (j : ℕ). get_or I j 0) j ∙ e
    two k e (suc (suc i)) h = absurd (omega arith)

-- the superblock's bytes at k, part by part
super_shown : (g : Geo) (I : List ℕ) (k u : ℕ) → Shows I k (signature ++ (g.version ∷ (g.code ∷ []))) → Shows I (k + 10) (bytes 4 g.n)
    → Shows I (k + 14) (bytes 4 u) → ((i : ℕ) → i < block_size g - 18 → get_or I (k + 18 + i) 0 ≡ 0) → Shows I k (super_bytes g u)
unfolding super_bytes padded
super_shown g I k u m a b z =
    let T : List ℕ = signature ++ (g.version ∷ (g.code ∷ [])) in
    let N : List ℕ = bytes 4 g.n in
    let U : List ℕ = bytes 4 u in
    let ln : length N ≡ 4 = length_bytes 4 g.n in
    let lu : length U ≡ 4 = length_bytes 4 u in
    let lr : length (N ++ U) ≡ 8 = length-append N U ∙ omega arith in
    let at : k + 14 ≡ k + 10 + length N = omega arith in
    let c : Shows I (k + 10) (N ++ U) = shows_both I (k + 10) N U a (subst (λ (j : ℕ). Shows I j U) at b) in
    let d : Shows I k (T ++ (N ++ U)) = shows_both I k T (N ++ U) m c in
    let ld : length (T ++ (N ++ U)) ≡ 18 = length-append T (N ++ U) ∙ omega arith in
    let w : ℕ = block_size g - length (T ++ (N ++ U)) in
    let lz : length (zeros w) ≡ w = length-replicate {A = ℕ} w 0 in
    shows_both I k (T ++ (N ++ U)) (zeros w) d
    (λ i h.
    let e : k + length (T ++ (N ++ U)) + i ≡ k + 18 + i = omega arith in
    ap (λ (j : ℕ). get_or I j 0) e ∙ z i (omega arith) ∙ sym (get_or-zeros w i))

-- An image that opens, and whose superblock ends in zeros, shows the superblock of its numbers and its used count.
rest_shown : (M : Mount) (I : List ℕ) → open_refusal M I ≡ 0 → Bytes I → zero_from I (code_size M.code * M.K + 18) (code_size M.code - 18) ≡ true
    → Shows I (code_size M.code * M.K) (super_bytes (geo_at M I) (used_count (geo_at M I) I))
unfolding count_at used_count
rest_shown M I o b z =
    let k : ℕ = code_size M.code * M.K in
    super_shown (numbered M (version_at M I) (be 4 I (k + 10))) I k (be 4 I (k + 14)) (mark_shown M I (opens_sound M I o).1)
    (bytes_shown 4 I (k + 10) b) (bytes_shown 4 I (k + 14) b) (zeros_shown I (k + 18) (code_size M.code - 18) z)

-- Back: a superblock that is shown ends in zeros.
rest_zeros : (g : Geo) (I : List ℕ) (k u : ℕ) → Shows I k (super_bytes g u) → (i : ℕ) → i < block_size g - 18 → get_or I (k + 18 + i) 0 ≡ 0
unfolding super_bytes padded
rest_zeros g I k u s i h =
    let R : List ℕ = bytes 4 g.n ++ bytes 4 u in
    let T : List ℕ = signature ++ (g.version ∷ (g.code ∷ R)) in
    let lr : length R ≡ 8 = length-append (bytes 4 g.n) (bytes 4 u) ∙ omega (arith, length_bytes 4 g.n, length_bytes 4 u) in
    let lt : length T ≡ 18 = omega arith in
    let e : k + 18 + i ≡ k + length T + i = omega arith in
    let lz : length (zeros (block_size g - length T)) ≡ block_size g - length T = length-replicate {A = ℕ} (block_size g - length T) 0 in
    ap (λ (j : ℕ). get_or I j 0) e ∙ shows_two I k T (zeros (block_size g - length T)) s i (omega arith) ∙ get_or-zeros (block_size g - length T) i

-- ---- with the used count

-- Where both tests pass, the image shows the superblock that a volume must have.
pub top_shown : (M : Mount) (I : List ℕ) → open_refusal M I ≡ 0 → Bytes I → zero_from I (code_size M.code * M.K + 18) (code_size M.code - 18) ≡ true
    → eqb (used_count (geo_at M I) I) (data_at (geo_at M I) + set_bits I (geo_at M I)) ≡ true
    → Shows I (code_size M.code * M.K) (super_bytes (geo_at M I) (data_at (geo_at M I) + set_bits I (geo_at M I)))
top_shown M I o b z c =
    subst (λ (u : ℕ). Shows I (code_size M.code * M.K) (super_bytes (geo_at M I) u)) (eqb-true _ _ c) (rest_shown M I o b z)

-- On a volume both tests pass.
module _ (g : Geo) (I : List ℕ) (d : ℕ) (t : Tree d) (v : Volume g I d t) where
  pub volume_rest : zero_from I (block_size g * g.K + 18) (block_size g - 18) ≡ true
  volume_rest = zeros_pass I (block_size g - 18) (block_size g * g.K + 18) (rest_zeros g I (block_size g * g.K) (data_at g + set_bits I g) v.laid.top)

  pub volume_count : eqb (used_count g I) (data_at g + set_bits I g) ≡ true
  volume_count = eq-eqb _ _ (used_set g I d t v)
