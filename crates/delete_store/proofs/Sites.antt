-- Where the deleted entry stands in its directory, and what the directory is without it: its block keeps an entry or is the first, or it goes.
use mathlib.Core.Path.{◌≡◌, refl, sym, ap, ◌∙◌}
use mathlib.Core.Bool.{true, false}
use mathlib.Core.Logic.{◌⊎◌, inl, inr}
use mathlib.Core.Option.{some}
use mathlib.Core.List.{List, [], ◌∷◌, ◌++◌, append_assoc}
use Prim.Native.Nat.{ℕ, suc, ◌+◌, ◌≤◌}
use native.Mathlib.Omega.{arith}
use lib.ListN.{length}
use Rattle.wire.proofs.Picks.{either, pick_true, pick_false}
use Rattle.model.specs.Tree.{Name, Entry, Block, first, less_first, then, called, holds, lookup, weight, used, unless_bare, delete_later, delete}
use Rattle.model.specs.Render.{blocks_at, offset}
use Rattle.model.proofs.Lists.{not_some, first_here, first_there, less_first_here, less_first_there}
use Rattle.model.proofs.Others.{lookup_here, lookup_there}
use Rattle.model.proofs.Dirs.{not_bare}
use Rattle.read_dir.specs.Finds.{placed}
use Rattle.thm_walk.specs.Shown.{spot_of}

module _ {X : Type 0} (n : Name) (e : Entry X) where
  -- in a block
  record Among (es : List (Entry X)) : Type 0 where
    pub left : List (Entry X)
    pub right : List (Entry X)
    pub is : es ≡ left ++ (e ∷ right)
    pub less : less_first (called n) es ≡ left ++ right
    pub place : offset n es ≡ used left

  among : (es : List (Entry X)) → first (called n) es ≡ some e → Among es
  unfolding first offset used
  among [] f = absurd (not_some refl f)
  among (x ∷ es) f = go (either (called n x)) (among es)
    where
      go : (called n x ≡ true) ⊎ (called n x ≡ false) → (first (called n) es ≡ some e → Among es) → Among (x ∷ es)
      go (inl c) r =
          let both : some x ≡ some e = sym (first_here (called n) x es c) ∙ f in
          let k : x ≡ e = cc in
          record {
            left = [];
            right = es;
            is = ap (λ (z : Entry X). z ∷ es) k;
            less = less_first_here (called n) x es c;
            place = pick_true 0 (weight x + offset n es) c;
          }
      go (inr c) r =
          let s = r (sym (first_there (called n) x es c) ∙ f) in
          record {
            left = x ∷ s.left;
            right = s.right;
            is = ap (λ (l : List (Entry X)). x ∷ l) s.is;
            less = less_first_there (called n) x es c ∙ ap (λ (l : List (Entry X)). x ∷ l) s.less;
            place = pick_false 0 (weight x + offset n es) c ∙ ap (λ (z : ℕ). weight x + z) s.place;
          }

  block : ℕ → List (Entry X) → Block X
  block a es = record { at = a; entries = es }

  -- in blocks after the first
  record Later (bs : List (Block X)) : Type 0 where
    pub earlier : List (Block X)
    pub at : ℕ
    pub left : List (Entry X)
    pub right : List (Entry X)
    pub later : List (Block X)
    pub is : bs ≡ earlier ++ (record { at = at; entries = left ++ (e ∷ right) } ∷ later)
    pub spot : spot_of n bs ≡ placed at (used left)
    pub gone : delete_later n bs ≡ earlier ++ unless_bare at (left ++ right) later

  in_later : (bs : List (Block X)) → lookup n bs ≡ some e → Later bs
  unfolding lookup first then spot_of delete_later block
  in_later [] l = absurd (not_some refl l)
  in_later (b ∷ bs) l = go (either (holds n b)) (in_later bs)
    where
      go : (holds n b ≡ true) ⊎ (holds n b ≡ false) → (lookup n bs ≡ some e → Later bs) → Later (b ∷ bs)
      go (inl c) r =
          let s = among b.entries (sym (lookup_here n b bs c) ∙ l) in
          record {
            earlier = [];
            at = b.at;
            left = s.left;
            right = s.right;
            later = bs;
            is = ap (λ (es : List (Entry X)). block b.at es ∷ bs) s.is;
            spot = pick_true _ _ c ∙ ap (placed b.at) s.place;
            gone = pick_true _ _ c ∙ ap (λ (es : List (Entry X)). unless_bare b.at es bs) s.less;
          }
      go (inr c) r =
          let s = r (sym (lookup_there n b bs c) ∙ l) in
          record {
            earlier = b ∷ s.earlier;
            at = s.at;
            left = s.left;
            right = s.right;
            later = s.later;
            is = ap (λ (z : List (Block X)). b ∷ z) s.is;
            spot = pick_false _ _ c ∙ s.spot;
            gone = pick_false _ _ c ∙ ap (λ (z : List (Block X)). b ∷ z) s.gone;
          }

  -- The block stays: it is the first, or keeps an entry.
  pub record Stays (bs : List (Block X)) : Type 0 where
    pub front : List (Block X)
    pub at : ℕ
    pub left : List (Entry X)
    pub right : List (Entry X)
    pub later : List (Block X)
    pub is : bs ≡ front ++ (record { at = at; entries = left ++ (e ∷ right) } ∷ later)
    pub spot : spot_of n bs ≡ placed at (used left)
    pub gone : delete n bs ≡ front ++ (record { at = at; entries = left ++ right } ∷ later)
    pub why : (blocks_at bs ≡ at) ⊎ (1 ≤ length (left ++ right))

  -- It goes: it comes after the block `last`, and held this entry alone.
  pub record Goes (bs : List (Block X)) : Type 0 where
    pub front : List (Block X)
    pub last : Block X
    pub at : ℕ
    pub later : List (Block X)
    pub is : bs ≡ front ++ (last ∷ (record { at = at; entries = e ∷ [] } ∷ later))
    pub spot : spot_of n bs ≡ placed at 0
    pub gone : delete n bs ≡ front ++ (last ∷ later)

  -- the last of a list
  last_of : (b : Block X) (bs : List (Block X)) → (front : List (Block X)) × (p : Block X) × (b ∷ bs ≡ front ++ (p ∷ []))
  last_of b [] = ([], b, refl)
  last_of b (c ∷ bs) =
      let r = last_of c bs in
      (b ∷ r.0, r.1, ap (λ (z : List (Block X)). b ∷ z) r.2)

  split_last : (b : Block X) (bs ys : List (Block X)) (r : (front : List (Block X)) × (p : Block X) × (b ∷ bs ≡ front ++ (p ∷ []))) → b ∷ (bs ++ ys) ≡ r.0 ++ (r.1 ∷ ys)
  split_last b bs ys r = ap (λ (z : List (Block X)). z ++ ys) r.2 ∙ append_assoc r.0 (r.1 ∷ []) ys

  none_left : (l r : List (Entry X)) → l ++ r ≡ [] → (l ≡ []) × (r ≡ [])
  none_left [] r h = (refl, h)
  none_left (x ∷ l) r h = let z : suc (length (l ++ r)) ≡ 0 = ap length h in absurd (omega arith)

  no_bytes : used {X = X} [] ≡ 0
  unfolding used
  no_bytes = refl

  no_block : (a : ℕ) (ys : List (Block X)) → unless_bare a [] ys ≡ ys
  unfolding unless_bare
  no_block a ys = refl

  -- One of the two.
  pub delete_site : (bs : List (Block X)) → lookup n bs ≡ some e → Stays bs ⊎ Goes bs
  unfolding lookup first then spot_of delete blocks_at block
  delete_site [] l = absurd (not_some refl l)
  delete_site (b ∷ bs) l = go (either (holds n b))
    where
      after_first : holds n b ≡ false → (s : Later bs) → (m : List (Entry X)) → s.left ++ s.right ≡ m → Stays (b ∷ bs) ⊎ Goes (b ∷ bs)
      after_first c s [] q =
          let r = last_of b s.earlier in
          let z = none_left s.left s.right q in
          let one : s.left ++ (e ∷ s.right) ≡ e ∷ [] = λ i. z.0 i ++ (e ∷ z.1 i) in
          let none : unless_bare s.at (s.left ++ s.right) s.later ≡ s.later = ap (λ (es : List (Entry X)). unless_bare s.at es s.later) q ∙ no_block s.at s.later in
          inr (record {
            front = r.0;
            last = r.1;
            at = s.at;
            later = s.later;
            is = ap (λ (y : List (Block X)). b ∷ y) (s.is ∙ ap (λ (es : List (Entry X)). s.earlier ++ (block s.at es ∷ s.later)) one)
                ∙ split_last b s.earlier (block s.at (e ∷ []) ∷ s.later) r;
            spot = pick_false _ _ c ∙ s.spot ∙ ap (λ (es : List (Entry X)). placed s.at (used es)) z.0 ∙ ap (placed s.at) no_bytes;
            gone = pick_false _ _ c ∙ ap (λ (y : List (Block X)). b ∷ y) (s.gone ∙ ap (λ (y : List (Block X)). s.earlier ++ y) none) ∙ split_last b s.earlier s.later r;
          })
      after_first c s (x ∷ m) q =
          inl (record {
            front = b ∷ s.earlier;
            at = s.at;
            left = s.left;
            right = s.right;
            later = s.later;
            is = ap (λ (y : List (Block X)). b ∷ y) s.is;
            spot = pick_false _ _ c ∙ s.spot;
            gone = pick_false _ _ c ∙ ap (λ (y : List (Block X)). b ∷ y) (s.gone ∙ ap (λ (y : List (Block X)). s.earlier ++ y) (not_bare s.at (s.left ++ s.right) s.later (omega (arith, ap length q))));
            why = inr (omega (arith, ap length q));
          })

      go : (holds n b ≡ true) ⊎ (holds n b ≡ false) → Stays (b ∷ bs) ⊎ Goes (b ∷ bs)
      go (inl c) =
          let s = among b.entries (sym (lookup_here n b bs c) ∙ l) in
          inl (record {
            front = [];
            at = b.at;
            left = s.left;
            right = s.right;
            later = bs;
            is = ap (λ (es : List (Entry X)). block b.at es ∷ bs) s.is;
            spot = pick_true _ _ c ∙ ap (placed b.at) s.place;
            gone = pick_true _ _ c ∙ ap (λ (es : List (Entry X)). block b.at es ∷ bs) s.less;
            why = inl refl;
          })
      go (inr c) = let s = in_later bs (sym (lookup_there n b bs c) ∙ l) in after_first c s (s.left ++ s.right) refl
