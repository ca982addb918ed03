-- Names that are distinct pass the check's test.
use mathlib.Core.Path.{◌≡◌, refl, ◌∙◌}
use mathlib.Core.Bool.{true}
use mathlib.Core.List.{List, [], ◌∷◌}
use Prim.Native.Nat.{◌≤◌}
use native.Mathlib.Omega.{arith}
use Rattle.model.specs.Tree.{Name, Entry, Block, called}
use Rattle.model.specs.Render.{View}
use Rattle.model.specs.Volume.{named, named_in}
use Rattle.check_names.specs.Names.{distinct}
use Rattle.thm_survey.specs.Survey.{RawBlock, names_of, all_names}
use Rattle.thm_survey.proofs.CompleteRaws.{raws_of}
use Rattle.thm_survey.proofs.Distinct.{times, times_append, once_distinct}

-- The blocks of a directory as their bytes show them.
unfoldable pub raw_blocks : {X : Type 0} → View X → List (Block X) → List RawBlock
raw_blocks v [] = []
raw_blocks v (b ∷ bs) = record { at = b.at; raws = raws_of v b.entries } ∷ raw_blocks v bs

module _ {X : Type 0} (v : View X) (x : Name) where
  names_block : (es : List (Entry X)) → times x (names_of (raws_of v es)) ≡ named x es
  unfolding times names_of raws_of named called
  names_block [] = refl
  names_block (e ∷ es) = omega (arith, names_block es)

  names_dir : (bs : List (Block X)) → times x (all_names (raw_blocks v bs)) ≡ named_in x bs
  unfolding times all_names raw_blocks named_in
  names_dir [] = refl
  names_dir (b ∷ bs) = times_append x (names_of (raws_of v b.entries)) (all_names (raw_blocks v bs)) ∙ omega (arith, names_block b.entries, names_dir bs)

-- A directory's names are distinct, as they are read.
pub names_pass : {X : Type 0} (v : View X) (bs : List (Block X)) → ((x : Name) → named_in x bs ≤ 1) → distinct (all_names (raw_blocks v bs)) ≡ true
names_pass v bs h = once_distinct (all_names (raw_blocks v bs)) (λ x. omega (arith, names_dir v x bs, h x))
