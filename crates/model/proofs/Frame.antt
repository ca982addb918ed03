-- From a cut to the blocks of the tree, and to an image that shows the edited tree.
use mathlib.Core.Path.{◌≡◌, refl, sym, ap, ◌∙◌, subst}
use mathlib.Core.Option.{some}
use mathlib.Core.List.{List, [], ◌∷◌, ◌++◌}
use Prim.Native.Nat.{ℕ, zero, suc, ◌+◌, ◌-◌, ◌*◌, ◌≤◌, ◌<◌}
use native.Mathlib.Omega.{arith}
use lib.ListN.{get_or}
use Rattle.wire.specs.Be.{bytes}
use Rattle.model.specs.Tree.{Name, Tree, Edit, edit, Some, find}
use Rattle.model.specs.Render.{Piece, padded, ats, count, blocks, ShowsAll, Shows}
use Rattle.model.specs.Volume.{All}
use Rattle.model.proofs.Counts.{count_same, count_cons, count_append, ats-append, count_self}
use Rattle.model.proofs.Cuts.{Cut, own_cut}
use Rattle.model.proofs.Full.{Whole}
use Rattle.model.proofs.Lists.{all_left, all_right}

-- how often a block is in the pieces of a cut
cut_tally : (i : ℕ) (a : List Piece) (x : Piece) (b us c : List Piece)
    → count i (ats (a ++ (x ∷ (b ++ (us ++ c))))) ≡ count i (ats a) + (count i (x.at ∷ []) + (count i (ats b) + (count i (ats us) + count i (ats c))))
unfolding ats
cut_tally i a x b us c =
    rw (ats-append, ats-append b (us ++ c), ats-append us c)
    (omega (arith, count_append i (ats a) (x.at ∷ (ats b ++ (ats us ++ ats c))), count_cons i x.at (ats b ++ (ats us ++ ats c)), count_append i (ats b) (ats us ++ ats c), count_append i (ats us) (ats c)))

module _ (B : ℕ) (xs ys us vs : List Piece) (q : ℕ) (E E' : List ℕ) (c : Cut B xs ys us vs q E E') where
  -- a block is in the whole as often as outside and in what is replaced
  pub cut_count : (i : ℕ) → count i (ats ys) + count i (ats us) ≡ count i (ats xs) + count i (ats vs)
  cut_count i =
      let m = cut_tally i c.before (record { at = c.at; full = bytes 4 c.next ++ padded (B - 4) (c.low ++ (E ++ c.high)) }) c.between us c.after in
      let n = cut_tally i c.before (record { at = c.at; full = bytes 4 c.next ++ padded (B - 4) (c.low ++ (E' ++ c.high)) }) c.between vs c.after in
      let o = ap (λ (l : List Piece). count i (ats l)) c.old in
      let p = ap (λ (l : List Piece). count i (ats l)) c.new in
      omega (arith, m, n, o, p)

  -- What is replaced, and the block with the entry, are in the whole, before and after.
  pub cut_within : (i : ℕ) → count i (c.at ∷ []) + count i (ats us) ≤ count i (ats xs)
  cut_within i =
      let m = cut_tally i c.before (record { at = c.at; full = bytes 4 c.next ++ padded (B - 4) (c.low ++ (E ++ c.high)) }) c.between us c.after in
      omega (arith, m, ap (λ (l : List Piece). count i (ats l)) c.old)

  pub cut_within_new : (i : ℕ) → count i (c.at ∷ []) + count i (ats vs) ≤ count i (ats ys)
  cut_within_new i =
      let n = cut_tally i c.before (record { at = c.at; full = bytes 4 c.next ++ padded (B - 4) (c.low ++ (E' ++ c.high)) }) c.between vs c.after in
      omega (arith, n, ap (λ (l : List Piece). count i (ats l)) c.new)

  -- so the block is one of the whole
  pub cut_old : 1 ≤ count c.at (ats xs)
  cut_old = omega (arith, cut_within c.at, count_self c.at)

  pub cut_new : 1 ≤ count c.at (ats ys)
  cut_new = omega (arith, cut_within_new c.at, count_self c.at)

-- An edit's effect on the blocks that are reached.
pub blocks-edit : (B d : ℕ) (p : List Name) (g : ℕ → ℕ) (f : Edit) (t : Tree d) (s : Some) → find d p t ≡ some s
    → (i : ℕ) → count i (blocks B d (edit d p g f t)) + count i (blocks B s.0 s.1) ≡ count i (blocks B d t) + count i (blocks B s.0 (f s.0 s.1))
unfolding find edit
blocks-edit B zero [] g f t s h i =
    let k : (zero, t) ≡ s = cc in
    subst (λ (s : Some). count i (blocks B zero (f zero t)) + count i (blocks B s.0 s.1) ≡ count i (blocks B zero t) + count i (blocks B s.0 (f s.0 s.1))) k (omega arith)
blocks-edit B (suc d) [] g f t s h i =
    let k : (suc d, t) ≡ s = cc in
    subst (λ (s : Some). count i (blocks B (suc d) (f (suc d) t)) + count i (blocks B s.0 s.1) ≡ count i (blocks B (suc d) t) + count i (blocks B s.0 (f s.0 s.1))) k (omega arith)
blocks-edit B d (n ∷ p) g f t s h i = cut_count B _ _ _ _ _ _ _ (own_cut B d n p g f t s h).cut i

-- ---- an image that shows the edited tree

-- the images have block b alike
abbrev pub SameBlock : ℕ → List ℕ → List ℕ → ℕ → Type 0
SameBlock B I I' b = (i : ℕ) → i < B → get_or I' (B * b + i) 0 ≡ get_or I (B * b + i) 0

module _ (B : ℕ) (I : List ℕ) where
  pub shows_append : (xs ys : List Piece) → ShowsAll B I xs → ShowsAll B I ys → ShowsAll B I (xs ++ ys)
  shows_append [] ys a b = b
  shows_append (x ∷ xs) ys a b = (a.0, shows_append xs ys a.1 b)

  pub shows_left : (xs ys : List Piece) → ShowsAll B I (xs ++ ys) → ShowsAll B I xs
  shows_left [] ys a = tt
  shows_left (x ∷ xs) ys a = (a.0, shows_left xs ys a.1)

  pub shows_right : (xs ys : List Piece) → ShowsAll B I (xs ++ ys) → ShowsAll B I ys
  shows_right [] ys a = a
  shows_right (x ∷ xs) ys a = shows_right xs ys a.1

-- what both images have alike both show
pub shows_frame : (B : ℕ) (I I' : List ℕ) (xs : List Piece) → All (Whole B) xs → ((b : ℕ) → 1 ≤ count b (ats xs) → SameBlock B I I' b) → ShowsAll B I xs → ShowsAll B I' xs
unfolding ats
shows_frame B I I' [] w s a = tt
shows_frame B I I' (x ∷ xs) w s a = (
  λ i h. s x.at (omega (arith, count_same x.at x.at (ats xs) refl)) i (omega (arith, w.0)) ∙ a.0 i h,
  shows_frame B I I' xs w.1 (λ b c. s b (omega (arith, count_cons b x.at (ats xs)))) a.1,
)

-- The image after an edit shows the edited tree, if it has alike every block but the directory's and the one with its own entry, shows that one renewed, and shows the directory's new pieces.
pub cut_shows : (B : ℕ) (xs ys us vs : List Piece) (q : ℕ) (E E' : List ℕ) (c : Cut B xs ys us vs q E E') (I I' : List ℕ)
    → All (Whole B) xs → ((i : ℕ) → count i (ats xs) ≤ 1) → ShowsAll B I xs
    → ((b : ℕ) → 1 ≤ count b (ats xs) → count b (ats us) ≡ 0 → (b ≡ c.at → ⊥) → SameBlock B I I' b)
    → Shows I' (B * c.at) (bytes 4 c.next ++ padded (B - 4) (c.low ++ (E' ++ c.high)))
    → ShowsAll B I' vs → ShowsAll B I' ys
cut_shows B xs ys us vs q E E' c I I' w once a s own v =
    subst (ShowsAll B I') (sym c.new)
    (shows_append B I' c.before _ (shows_frame B I I' c.before (all_left (Whole B) c.before _ w') (λ b k. alike b (omega arith)) (shows_left B I c.before _ a')) (
      own,
      shows_append B I' c.between _
          (shows_frame B I I' c.between (all_left (Whole B) c.between (us ++ c.after) rest_whole.1) (λ b k. alike b (omega arith)) (shows_left B I c.between (us ++ c.after) rest.1))
          (shows_append B I' vs c.after v
          (shows_frame B I I' c.after (all_right (Whole B) us c.after (all_right (Whole B) c.between (us ++ c.after) rest_whole.1)) (λ b k. alike b (omega arith))
          (shows_right B I us c.after (shows_right B I c.between (us ++ c.after) rest.1)))),
    ))
  where
    x₀ : Piece
    x₀ = record { at = c.at; full = bytes 4 c.next ++ padded (B - 4) (c.low ++ (E ++ c.high)) }

    w' : All (Whole B) (c.before ++ (x₀ ∷ (c.between ++ (us ++ c.after))))
    w' = subst (All (Whole B)) c.old w

    a' : ShowsAll B I (c.before ++ (x₀ ∷ (c.between ++ (us ++ c.after))))
    a' = subst (ShowsAll B I) c.old a

    rest_whole : All (Whole B) (x₀ ∷ (c.between ++ (us ++ c.after)))
    rest_whole = all_right (Whole B) c.before (x₀ ∷ (c.between ++ (us ++ c.after))) w'

    rest : ShowsAll B I (x₀ ∷ (c.between ++ (us ++ c.after)))
    rest = shows_right B I c.before (x₀ ∷ (c.between ++ (us ++ c.after))) a'

    -- a block outside
    alike : (b : ℕ) → 1 ≤ count b (ats c.before) + (count b (ats c.between) + count b (ats c.after)) → SameBlock B I I' b
    alike b k =
        let t = ap (λ (l : List Piece). count b (ats l)) c.old ∙ cut_tally b c.before x₀ c.between us c.after in
        s b (omega (arith, t)) (omega (arith, t, once b)) (λ e. omega (arith, t, once b, count_same b c.at [] e))
