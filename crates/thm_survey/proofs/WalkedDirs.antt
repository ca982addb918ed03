-- The check of a directory and of an entry in the steps of their code, over the walk of the directory.
use Rattle.std.specs.Prelude.{Ok}
use mathlib.Core.Path.{◌≡◌, refl, sym, ap, ◌∙◌}
use mathlib.Core.Bool.{Bool}
use mathlib.Core.Option.{Option, none, some}
use mathlib.Core.List.{List, [], ◌∷◌}
use Prim.Native.Nat.{ℕ, zero, suc, ◌+◌, ◌-◌, ◌*◌, ◌≤◌}
use native.Mathlib.Omega.{arith}
use lib.Dec.{leb, eqb}
use lib.ListN.{length}
use Rattle.wire.specs.Pick.{pick}
use Rattle.block.specs.Block.{Area}
use Rattle.model.specs.Tree.{file, device, sub, Block, Below, Tree, then, weight, used, sum}
use Rattle.model.specs.Volume.{All, file_limit, blocks_for}
use Rattle.dir_entry.specs.declared.Kind.{Kind}
use Rattle.dir_entry.specs.declared.Kind.TheVariants as kind
use Rattle.dir_entry.specs.declared.DirEntry.{DirEntry}
use Rattle.dir_entry.specs.Entry.{header}
use Rattle.read_dir.specs.Walk.{Walk, walk}
use Rattle.read_dir.specs.Finds.{sum_from}
use Rattle.check_names.specs.Names.{distinct}
use Rattle.thm_survey.specs.Survey.{Raw, RawBlock, all_names, Claimed, cells_of, chain_of, blocks_of, sub_of, node_of, entries_of, dir_of, check_dir, survey, seen_of}
use Rattle.thm_survey.specs.Steps.{through, is_total, sum_below, open_dir, check_below, entry_check, dir_check, sub_check}
use Rattle.thm_survey.proofs.Seen.{seen_with, then-then, then_same, then_test, then_seen, seen_then, seen_test, seen_pass, seen_after}
use Rattle.thm_survey.proofs.SoundLaws.{Each, each_some, each_then, each_with}
use Rattle.thm_survey.proofs.SoundRaws.{raws_used}
use Rattle.thm_survey.proofs.Walked.{raws_walk, blocks_walk, LongName, LongNames, blocks-walk, blocks_long}
use Rattle.thm_survey.proofs.Opened.{open_then}

-- ---- the sum of a directory

-- W4: the bytes of all entries of the blocks
unfoldable pub raw_sum : List RawBlock → ℕ
raw_sum [] = 0
raw_sum (b ∷ bs) = raws_used b.raws + raw_sum bs

raws_sum : (s a o : ℕ) (rs : List Raw) (w : Walk) → All LongName rs → sum_from s (raws_walk a o rs w) ≡ sum_from (s + raws_used rs) w
unfolding raws_walk sum_from raws_used
raws_sum s a o [] w l = let e : s ≡ s + 0 = omega arith in ap (λ (j : ℕ). sum_from j w) e
raws_sum s a o (r ∷ rs) w l =
    let e : s + (header + r.head.len) + raws_used rs ≡ s + (18 + length r.name + raws_used rs) = omega (arith, l.0) in
    raws_sum (s + (header + r.head.len)) a (o + header + r.head.len) rs w l.1 ∙ ap (λ (j : ℕ). sum_from j w) e

blocks-sum : (s : ℕ) (bs : List RawBlock) → LongNames bs → sum_from s (blocks_walk bs) ≡ Ok (s + raw_sum bs)
unfolding blocks_walk sum_from raw_sum
blocks-sum s [] l = let e : s ≡ s + 0 = omega arith in ap Ok e
blocks-sum s (b ∷ bs) l =
    let e : s + raws_used b.raws + raw_sum bs ≡ s + (raws_used b.raws + raw_sum bs) = omega arith in
    raws_sum s b.at 0 b.raws (blocks_walk bs) l.0 ∙ blocks-sum (s + raws_used b.raws) bs l.1 ∙ ap Ok e

walk-sum : (bs : List RawBlock) → LongNames bs → sum_from 0 (blocks_walk bs) ≡ Ok (raw_sum bs)
walk-sum bs l = let e : 0 + raw_sum bs ≡ raw_sum bs = omega arith in blocks-sum 0 bs l ∙ ap Ok e

-- ---- over any check of what is below

module _ (A : Area) (I : List ℕ) {X : Type 0} (below : ℕ → List ℕ → Option (Claimed X)) (size : X → ℕ) where
  -- what is found for entries weighs as much as they
  entries_sum : (rs : List Raw) (seen : List ℕ) → Each (λ c. used c.found ≡ raws_used rs) (entries_of A I below size rs seen)
  unfolding entries_of used weight raws_used
  entries_sum [] seen = each_some (λ c. used c.found ≡ raws_used []) _ refl
  entries_sum (r ∷ rs) seen =
      each_then (λ c. used c.found ≡ raws_used (r ∷ rs)) (node_of A I below size r.head.kind r.head seen) _
      (λ x _. each_with (λ c. used c.found ≡ raws_used (r ∷ rs)) _ (entries_of A I below size rs x.seen)
      (λ c f. ap (λ (j : ℕ). 18 + length r.name + j) ((entries_sum rs x.seen).is c f)))

  each_sum : (bs : List RawBlock) (seen : List ℕ) → Each (λ c. sum c.found ≡ raw_sum bs) (dir_of A I below size bs seen)
  unfolding dir_of sum raw_sum
  each_sum [] seen = each_some (λ c. sum c.found ≡ raw_sum []) _ refl
  each_sum (b ∷ bs) seen =
      each_then (λ c. sum c.found ≡ raw_sum (b ∷ bs)) (entries_of A I below size b.raws seen) _
      (λ x e. each_with (λ c. sum c.found ≡ raw_sum (b ∷ bs)) _ (dir_of A I below size bs x.seen)
      (λ c f. let p = (entries_sum b.raws seen).is x e in let q = (each_sum bs x.seen).is c f in omega (arith, p, q)))

  dir_sum : (bs : List RawBlock) (seen : List ℕ) (c : Claimed (List (Block X))) → dir_of A I below size bs seen ≡ some c → sum c.found ≡ raw_sum bs
  dir_sum bs seen c e = (each_sum bs seen).is c e

  -- the entries one after another, each checked by f
  module _ (f : DirEntry → List ℕ → Option (List ℕ)) (is : (e : DirEntry) (seen : List ℕ) → f e seen ≡ seen_of (node_of A I below size e.kind e seen)) where
    through_raws : (a o : ℕ) (rs : List Raw) (w : Walk) (seen : List ℕ)
        → through f (raws_walk a o rs w) seen ≡ then (seen_of (entries_of A I below size rs seen)) (through f w)
    unfolding through raws_walk entries_of
    through_raws a o [] w seen = unfold seen_of in unfold then in refl
    through_raws a o (r ∷ rs) w seen =
        ap (λ (x : Option (List ℕ)). then x (through f (raws_walk a (o + header + r.head.len) rs w))) (is r.head seen)
        ∙ then_seen (node_of A I below size r.head.kind r.head seen) _
        ∙ then_same (node_of A I below size r.head.kind r.head seen) _ _ (λ x _.
        through_raws a (o + header + r.head.len) rs w x.seen
        ∙ ap (λ (y : Option (List ℕ)). then y (through f w)) (sym (seen_with (λ es. record { name = r.name; time = r.head.time; node = x.found } ∷ es) (entries_of A I below size rs x.seen))))
        ∙ sym (then-then (node_of A I below size r.head.kind r.head seen) _ (through f w))
        ∙ ap (λ (y : Option (List ℕ)). then y (through f w)) (sym (seen_then (node_of A I below size r.head.kind r.head seen) _))

    through-blocks : (bs : List RawBlock) (seen : List ℕ) → through f (blocks_walk bs) seen ≡ seen_of (dir_of A I below size bs seen)
    unfolding through blocks_walk dir_of
    through-blocks [] seen = unfold seen_of in unfold then in refl
    through-blocks (b ∷ bs) seen =
        through_raws b.at 0 b.raws (blocks_walk bs) seen
        ∙ then_seen (entries_of A I below size b.raws seen) (through f (blocks_walk bs))
        ∙ then_same (entries_of A I below size b.raws seen) _ _ (λ x _.
        through-blocks bs x.seen ∙ sym (seen_with (λ cs. record { at = b.at; entries = x.found } ∷ cs) (dir_of A I below size bs x.seen)))
        ∙ sym (seen_then (entries_of A I below size b.raws seen) _)

    -- A directory: its blocks and names, then the entries of its walk.
    check_steps : (a : ℕ) (seen : List ℕ) → seen_of (check_dir A I below size a seen) ≡ then (seen_of (open_dir A I a seen)) (through f (walk A I a))
    unfolding check_dir
    check_steps a seen =
        seen_then (blocks_of A I a seen) _
        ∙ then_same (blocks_of A I a seen) _ _ (λ c q.
        seen_test (distinct (all_names c.found)) (dir_of A I below size c.found c.seen)
        ∙ ap (λ (o : Option (List ℕ)). pick (distinct (all_names c.found)) o none)
        (sym (through-blocks c.found c.seen) ∙ ap (λ (w : Walk). through f w c.seen) (sym (blocks-walk A I a seen c q))))
        ∙ sym (open_then A I a seen (through f (walk A I a)))

    -- The same with a test of its sum, where the volume's blocks are whole.
    module _ (fits : A.end * A.size ≤ length I) (a t : ℕ) (seen : List ℕ) where
      -- the sum that is found is that of the walk
      sum_same : (c : Claimed (List RawBlock)) (r : Claimed (List (Block X))) → blocks_of A I a seen ≡ some c → dir_of A I below size c.found c.seen ≡ some r
          → eqb t (sum r.found) ≡ is_total t (sum_from 0 (walk A I a))
      unfolding is_total
      sum_same c r q e =
          ap (eqb t) (dir_sum c.found c.seen r e)
          ∙ ap (is_total t) (sym (ap (sum_from 0) (blocks-walk A I a seen c q) ∙ walk-sum c.found (blocks_long A I fits a seen c q)))

      sized_steps : then (check_dir A I below size a seen) (λ r. pick (eqb t (sum r.found)) (some r.seen) none)
          ≡ then (seen_of (open_dir A I a seen)) (λ s. pick (is_total t (sum_from 0 (walk A I a))) (through f (walk A I a) s) none)
      unfolding check_dir
      sized_steps =
          then-then (blocks_of A I a seen) _ _
          ∙ then_same (blocks_of A I a seen) _ _ (λ c q.
          then_test (distinct (all_names c.found)) (dir_of A I below size c.found c.seen) _
          ∙ ap (λ (o : Option (List ℕ)). pick (distinct (all_names c.found)) o none)
          (then_same (dir_of A I below size c.found c.seen) _ _ (λ r e. ap (λ (x : Bool). pick x (some r.seen) none) (sum_same c r q e))
          ∙ seen_after (is_total t (sum_from 0 (walk A I a))) (dir_of A I below size c.found c.seen)
          ∙ ap (λ (o : Option (List ℕ)). pick (is_total t (sum_from 0 (walk A I a))) o none)
          (sym (through-blocks c.found c.seen) ∙ ap (λ (w : Walk). through f w c.seen) (sym (blocks-walk A I a seen c q)))))
          ∙ sym (open_then A I a seen (λ s. pick (is_total t (sum_from 0 (walk A I a))) (through f (walk A I a) s) none))

-- ---- the check of a directory, and of an entry

module _ (A : Area) (I : List ℕ) where
  entry_is : (d : ℕ) (e : DirEntry) (seen : List ℕ) → entry_check A I d e seen ≡ seen_of (node_of A I (check_below A I d) (sum_below d) e.kind e seen)
  unfolding entry_check
  entry_is d e seen = refl

  -- the check of a directory is that of the code
  survey_is : (d a : ℕ) (seen : List ℕ) → survey A I d a seen ≡ check_dir A I {X = Below d} (check_below A I d) (sum_below d) a seen
  unfolding survey
  survey_is zero a seen = refl
  survey_is (suc d) a seen = refl

  pub dir_steps : (d a : ℕ) (seen : List ℕ) → seen_of (survey A I d a seen) ≡ dir_check A I d a seen
  unfolding dir_check
  dir_steps d a seen =
      ap seen_of (survey_is d a seen) ∙ check_steps A I (check_below A I d) (sum_below d) (entry_check A I d) (entry_is d) a seen

  -- an entry, by its kind
  pub file_steps : (d : ℕ) (e : DirEntry) (seen : List ℕ) → e.kind ≡ kind.File
      → entry_check A I d e seen ≡ pick (leb e.size file_limit) (seen_of (cells_of A I (blocks_for A.size e.size) e.addr.0 seen)) none
  unfolding node_of
  file_steps d e seen k =
      entry_is d e seen
      ∙ ap (λ (x : Kind). seen_of (node_of A I (check_below A I d) (sum_below d) x e seen)) k
      ∙ seen_test (leb e.size file_limit) _
      ∙ ap (λ (o : Option (List ℕ)). pick (leb e.size file_limit) o none) (seen_with (file e.size) (cells_of A I (blocks_for A.size e.size) e.addr.0 seen))

  pub device_steps : (d : ℕ) (e : DirEntry) (seen : List ℕ) → e.kind ≡ kind.Device
      → entry_check A I d e seen ≡ seen_of (chain_of A I (A.end - A.first) e.addr.0 seen)
  unfolding node_of
  device_steps d e seen k =
      entry_is d e seen
      ∙ ap (λ (x : Kind). seen_of (node_of A I (check_below A I d) (sum_below d) x e seen)) k
      ∙ seen_with (device e.size) (chain_of A I (A.end - A.first) e.addr.0 seen)

  dir_entry : (d : ℕ) (e : DirEntry) (seen : List ℕ) → e.kind ≡ kind.Dir
      → entry_check A I d e seen ≡ then (check_below A I d e.addr.0 seen) (λ c. pick (eqb e.size (sum_below d c.found)) (some c.seen) none)
  unfolding node_of sub_of
  dir_entry d e seen k =
      entry_is d e seen
      ∙ ap (λ (x : Kind). seen_of (node_of A I (check_below A I d) (sum_below d) x e seen)) k
      ∙ seen_then (check_below A I d e.addr.0 seen) _
      ∙ then_same (check_below A I d e.addr.0 seen) _ _ (λ c _. seen_pass (eqb e.size (sum_below d c.found)) (record { found = sub c.found; seen = c.seen }))

  -- no directory at the last level
  pub sub-none : (e : DirEntry) (seen : List ℕ) → e.kind ≡ kind.Dir → entry_check A I zero e seen ≡ none
  unfolding then
  sub-none e seen k = dir_entry zero e seen k

  pub sub-steps : A.end * A.size ≤ length I → (d : ℕ) (e : DirEntry) (seen : List ℕ) → e.kind ≡ kind.Dir
      → entry_check A I (suc d) e seen ≡ sub_check A I d e.addr.0 e.size seen
  unfolding sub_check
  sub-steps fits d e seen k =
      dir_entry (suc d) e seen k
      ∙ ap (λ (o : Option (Claimed (Tree d))). then o (λ c. pick (eqb e.size (sum c.found)) (some c.seen) none)) (survey_is d e.addr.0 seen)
      ∙ sized_steps A I (check_below A I d) (sum_below d) (entry_check A I d) (entry_is d) fits e.addr.0 e.size seen
