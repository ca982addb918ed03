-- The chains that the check finds for files and devices: the image shows them, and exactly their blocks were claimed.
use mathlib.Core.Path.{◌≡◌, refl, sym, ap, ◌∙◌, subst}
use mathlib.Core.Option.{some}
use mathlib.Core.List.{List, [], ◌∷◌, ◌++◌}
use Prim.Native.Nat.{ℕ, zero, suc, ◌+◌, ◌-◌, ◌*◌, ◌≤◌, ◌<◌}
use native.Mathlib.Omega.{arith}
use lib.Dec.{eqb}
use lib.ListN.{length, take, drop, length-drop}
use lib.Seq.{get_or-take, get_or-drop, length-take-le}
use borrow.Author.Tests.{eqb-true}
use Rattle.wire.specs.Be.{be, bytes}
use Rattle.wire.specs.Pick.{pick}
use Rattle.wire.proofs.Numbers.{length_bytes}
use Rattle.block.specs.Block.{Area, next}
use Rattle.model.specs.Tree.{Cell}
use Rattle.model.specs.Render.{cells_at, cell_pieces, ats, Shows, ShowsAll}
use Rattle.model.specs.Volume.{All, GoodCell}
use Rattle.model.specs.Steps.{Bytes}
use Rattle.model.proofs.Commit.{shows_both}
use Rattle.model.proofs.Entries.{bytes_shown}
use Rattle.model.proofs.Areas.{row_inside}
use Rattle.thm_survey.specs.Survey.{Claimed, claim, body_at, cells_of, chain_of}
use Rattle.thm_survey.proofs.SoundLaws.{Each, each_none, each_some, each_then, each_pick, each_test, each_with, Claims, claims_none, claims_both, Claim, each_claim}

-- a part of the image is shown where it stands
pub part_shown : (I : List ℕ) (p k : ℕ) → p + k ≤ length I → Shows I p (take k (drop p I))
part_shown I p k h i q =
    let m : i < k = omega (arith, length-take-le k (drop p I) (rw length-drop (omega arith))) in
    sym (get_or-take k (drop p I) i 0 m ∙ get_or-drop p I i 0)

-- and it has its length
pub part_long : (I : List ℕ) (p k : ℕ) → p + k ≤ length I → length (take k (drop p I)) ≡ k
part_long I p k h = length-take-le k (drop p I) (rw length-drop (omega arith))

-- What is found for a chain from a on: it begins at a, its blocks are whole, the image shows them, and they alone were claimed.
pub record CellsFound (A : Area) (I : List ℕ) (a : ℕ) (seen : List ℕ) (c : Claimed (List Cell)) : Type 0 where
  pub first : cells_at c.found ≡ a
  pub good : All (GoodCell A.size) c.found
  pub shown : ShowsAll A.size I (cell_pieces c.found)
  pub claims : Claims A seen c.seen (ats (cell_pieces c.found))

module _ (A : Area) (I : List ℕ) (large : 4 ≤ A.size) (all_bytes : Bytes I) (fits : A.end * A.size ≤ length I) where
  -- no block
  cells_end : (a : ℕ) (seen : List ℕ) → a ≡ 0 → CellsFound A I a seen (record { found = []; seen = seen })
  unfolding cells_at cell_pieces ats
  cells_end a seen z = record { first = sym z; good = tt; shown = tt; claims = claims_none A seen }

  -- one block more
  cells_more : (a : ℕ) (seen now : List ℕ) (c : Claimed (List Cell)) → Claim A a seen now → CellsFound A I (next A.size I a) now c
      → CellsFound A I a seen (record { found = record { at = a; body = body_at A I a } ∷ c.found; seen = c.seen })
  unfolding cells_at cell_pieces ats next
  cells_more a seen now c k f =
      let w : A.size * a + A.size ≤ length I = row_inside A.size A.end (length I) a fits k.high in
      let x : Shows I (A.size * a) (bytes 4 (be 4 I (A.size * a))) = bytes_shown 4 I (A.size * a) all_bytes in
      let p : A.size * a + 4 ≡ A.size * a + length (bytes 4 (be 4 I (A.size * a))) = omega (arith, length_bytes 4 (be 4 I (A.size * a))) in
      let y : Shows I (A.size * a + length (bytes 4 (be 4 I (A.size * a)))) (body_at A I a)
      = subst (λ (j : ℕ). Shows I j (body_at A I a)) p (part_shown I (A.size * a + 4) (A.size - 4) (omega arith)) in
      let s : Shows I (A.size * a) (bytes 4 (be 4 I (A.size * a)) ++ body_at A I a) = shows_both I (A.size * a) (bytes 4 (be 4 I (A.size * a))) (body_at A I a) x y in
      record {
        first = refl;
        good = (record { whole = part_long I (A.size * a + 4) (A.size - 4) (omega arith) }, f.good);
        shown = (subst (λ (z : ℕ). Shows I (A.size * a) (bytes 4 z ++ body_at A I a)) (sym f.first) s, f.shown);
        claims = claims_both A seen now c.seen (a ∷ []) (ats (cell_pieces c.found)) k.claims f.claims;
      }

  -- A file's chain, which has exactly k blocks.
  pub record FileFound (k a : ℕ) (seen : List ℕ) (c : Claimed (List Cell)) : Type 0 where
    pub cells : CellsFound A I a seen c
    pub long : length c.found ≡ k

  -- Whatever `cells_of` finds is such a chain.
  pub cells_found : (k a : ℕ) (seen : List ℕ) → Each (FileFound k a seen) (cells_of A I k a seen)
  unfolding cells_of
  cells_found zero a seen =
      each_test (FileFound zero a seen) (eqb a 0) _
      (λ t. each_some (FileFound zero a seen) _ (record { cells = cells_end a seen (eqb-true a 0 t); long = refl }))
  cells_found (suc k) a seen =
      each_then (FileFound (suc k) a seen) (claim A I a seen) _
      (λ now e. each_with (FileFound (suc k) a seen) _ (cells_of A I k (next A.size I a) now)
      (λ c f.
      let h : FileFound k (next A.size I a) now c = (cells_found k (next A.size I a) now).is c f in
      record { cells = cells_more a seen now c ((each_claim A I a seen).is now e) h.cells; long = ap suc h.long }))

  -- A device's chain, which has a block.
  pub record DeviceFound (a : ℕ) (seen : List ℕ) (c : Claimed (List Cell)) : Type 0 where
    pub cells : CellsFound A I a seen c
    pub some_block : 1 ≤ length c.found

  -- Whatever `chain_of` finds is such a chain.
  pub chain_found : (k a : ℕ) (seen : List ℕ) → Each (DeviceFound a seen) (chain_of A I k a seen)
  unfolding chain_of
  chain_found zero a seen = each_none (DeviceFound a seen)
  chain_found (suc k) a seen =
      each_then (DeviceFound a seen) (claim A I a seen) _
      (λ now e. each_with (DeviceFound a seen) _ (pick (eqb (next A.size I a) 0) (some (record { found = []; seen = now })) (chain_of A I k (next A.size I a) now))
      (λ c f.
      let z : ℕ = next A.size I a in
      let P : Claimed (List Cell) → Type 0 = CellsFound A I z now in
      let h : Each P (pick (eqb z 0) (some (record { found = []; seen = now })) (chain_of A I k z now))
      = each_pick P (eqb z 0) _ _
      (λ t. each_some P _ (cells_end z now (eqb-true z 0 t)))
      (λ _. record { is = λ d g. ((chain_found k z now).is d g).cells }) in
      record { cells = cells_more a seen now c ((each_claim A I a seen).is now e) (h.is c f); some_block = omega arith }))
