-- What callers need of paths: an accepted full path, the names that a path is split into, its last name and its directory part.
use mathlib.Core.Path.{◌≡◌, refl, sym, ◌∙◌, subst}
use mathlib.Core.Bool.{Bool, true, false, not, ◌||◌, ◌&&◌}
use mathlib.Core.Logic.{◌⊎◌, inl, inr}
use mathlib.Core.List.{List, [], ◌∷◌}
use Prim.Native.Nat.{ℕ, zero, suc}
use native.Mathlib.Omega.{arith}
use lib.Dec.{ltb, eqb}
use lib.ListN.{length, take, drop}
use lib.Seq.{take_at}
use borrow.Author.Tests.{eqb-true, eqb-false, not-false}
use Rattle.wire.specs.Be.{splice}
use Rattle.wire.specs.Pick.{pick, same}
use Rattle.wire.proofs.Picks.{either, pick_true, pick_false, and_both}
use Rattle.model.specs.Render.{count}
use Rattle.text.specs.Text.{Range, in_range, begun, step, text_from, is_text, has_byte, is_name}
use Rattle.text.proofs.Laws.{NoSlash, step_slash, from_slash}
use Rattle.model.specs.Volume.{All}
use Rattle.model.proofs.Counts.{count_same, count_other, count_none}
use Rattle.model.proofs.Opens.{or_false}
use Rattle.path.specs.Path.{slash, path_limit, starts_slash, real_path, bad_path, trimmed, untrailed, before_name, last_name}
use Rattle.path.specs.Path.{split, unled, steps}
use Rattle.path.specs.Post.{Stores}
use Rattle.path.proofs.Pieces.{front, split-none, split-slash, split_other}

-- whether these bytes are a name, but for their length
abbrev pub IsName : List ℕ → Type 0
IsName x = is_name x ≡ true

-- ---- bytes of text, one by one

from_cons : (rs : List Range) (c : ℕ) (l : List ℕ) → text_from rs (c ∷ l) ≡ true → text_from (step rs c) l ≡ true
unfolding text_from
from_cons rs c l h = h

cons_from : (rs : List Range) (c : ℕ) (l : List ℕ) → text_from (step rs c) l ≡ true → text_from rs (c ∷ l) ≡ true
unfolding text_from
cons_from rs c l h = h

-- text that goes on with a slash may as well end there, and text follows
behind_slash : (rs : List Range) (c : ℕ) (l : List ℕ) → NoSlash rs → c ≡ slash → text_from rs (c ∷ l) ≡ true
    → (text_from rs [] ≡ true) × (is_text l ≡ true)
behind_slash rs c l n e h =
    let q : text_from rs (slash ∷ l) ≡ true = subst (λ (x : ℕ). text_from rs (x ∷ l) ≡ true) e h in
    and_both (text_from rs []) (is_text l) (sym (from_slash rs [] l n) ∙ q)

-- ---- an accepted full path

module _ (cwd p : List ℕ) (h : bad_path cwd p ≡ false) where
  real_rest : (ltb path_limit (length (real_path cwd p)) || not (is_text (real_path cwd p))) ≡ false
  unfolding bad_path
  real_rest = (or_false (not (starts_slash p) && not (starts_slash cwd)) _ h).1

  pub real_bytes : is_text (real_path cwd p) ≡ true
  real_bytes = not-false _ (or_false (ltb path_limit (length (real_path cwd p))) _ real_rest).1

-- `/` is a good path in any working directory
pub root_good : (cwd : List ℕ) → bad_path cwd (slash ∷ []) ≡ false
unfolding bad_path starts_slash real_path text_from step begun in_range pick
root_good cwd = refl

-- what a buffer then holds
module _ (bad : Bool) (q l m : List ℕ) (n : ℕ) (h : Stores bad q l m n) (long : length l ≡ path_limit) where
  pub stores_take : take n m ≡ q
  unfolding splice
  stores_take = rw h.stored (take_at q _ n (sym h.long))

-- ---- the pieces

-- Pieces of which the first goes on where rs is due, and all others are names.
abbrev Names : List Range → List (List ℕ) → Type 0
Names rs [] = ⊥
Names rs (x ∷ xs) = (text_from rs x ≡ true) × (has_byte slash x ≡ false) × All IsName xs

names_all : (ss : List (List ℕ)) → Names [] ss → All IsName ss
unfolding is_name
names_all [] h = absurd h
names_all (x ∷ xs) h = (rw (h.0, h.1), h.2)

split_from : (rs : List Range) (l : List ℕ) → NoSlash rs → text_from rs l ≡ true → Names rs (split l)
unfolding has_byte front
split_from rs [] n h = subst (Names rs) (sym split-none) (h, refl, tt)
split_from rs (c ∷ l) n h = go (either (eqb c slash)) (split_from [] l tt)
    (split_from (step rs c) l (step_slash rs c n) (from_cons rs c l h))
  where
    on : (ss : List (List ℕ)) → eqb c slash ≡ false → Names (step rs c) ss → Names rs (front (c ∷ []) ss)
    on [] f r = absurd r
    on (x ∷ xs) f r = (cons_from rs c x r.0, rw f r.1, r.2)

    go : (eqb c slash ≡ true) ⊎ (eqb c slash ≡ false) → (is_text l ≡ true → Names [] (split l)) → Names (step rs c) (split l)
        → Names rs (split (c ∷ l))
    go (inl t) q r =
        let e = eqb-true c slash t in
        let b = behind_slash rs c l n e h in
        subst (Names rs) (sym (split-slash c l e)) (b.0, refl, names_all (split l) (q b.1))
    go (inr f) q r = subst (Names rs) (sym (split_other c l (eqb-false c slash f))) (on (split l) f r)

-- every piece of text is a name, but for its length
pub split_names : (l : List ℕ) → is_text l ≡ true → All IsName (split l)
split_names l h = names_all (split l) (split_from [] l tt h)

length_front : (xs : List ℕ) (s : List ℕ) (ss : List (List ℕ)) → length (front xs (s ∷ ss)) ≡ suc (length ss)
unfolding front
length_front xs s ss = refl

-- one more than there are slashes
split_count : (l : List ℕ) → length (split l) ≡ suc (count slash l)
split_count [] = rw (split-none, count_none)
split_count (c ∷ l) = go (either (eqb c slash)) (split l) refl (split_count l)
  where
    go : (eqb c slash ≡ true) ⊎ (eqb c slash ≡ false) → (ss : List (List ℕ)) → split l ≡ ss
        → length (split l) ≡ suc (count slash l)
        → length (split (c ∷ l)) ≡ suc (count slash (c ∷ l))
    go (inl t) ss e r =
        let x = eqb-true c slash t in
        rw (split-slash c l x, count_same slash c l (sym x), r)
    go (inr f) [] e r = absurd (let q : 0 ≡ suc (count slash l) = rw e at r in omega arith)
    go (inr f) (s ∷ ss) e r =
        let x = eqb-false c slash f in
        rw (split_other c l x, count_other slash c l (λ y. x (sym y)), e, length_front) (rw e at r)

-- ---- the names on the way

unled_text : (l : List ℕ) → is_text l ≡ true → is_text (unled l) ≡ true
unfolding unled
unled_text [] h = h
unled_text (c ∷ l) h = go (either (eqb c slash)) (unled_text l)
  where
    go : (eqb c slash ≡ true) ⊎ (eqb c slash ≡ false) → (is_text l ≡ true → is_text (unled l) ≡ true)
        → is_text (unled (c ∷ l)) ≡ true
    go (inl t) r = rw (pick_true (unled l) (c ∷ l) t) (r (behind_slash [] c l tt (eqb-true c slash t) h).1)
    go (inr f) r = rw (pick_false (unled l) (c ∷ l) f) h

-- the names on the way along text are names, but for their length
pub steps_names : (d : List ℕ) → is_text d ≡ true → All IsName (steps d)
unfolding steps
steps_names d h = go (either (same d (slash ∷ [])))
  where
    go : (same d (slash ∷ []) ≡ true) ⊎ (same d (slash ∷ []) ≡ false) → All IsName (steps d)
    go (inl t) = subst (All IsName) (sym (pick_true _ _ t)) tt
    go (inr f) = subst (All IsName) (sym (pick_false _ _ f)) (split_names (unled d) (unled_text d h))

-- ---- the last name and the directory part

before_clear : (l : List ℕ) → has_byte slash (drop (before_name l) l) ≡ false
unfolding before_name has_byte
before_clear [] = refl
before_clear (c ∷ l) = go (before_name l) (eqb c slash) refl refl (before_clear l)
  where
    go : (k : ℕ) (b : Bool) → before_name l ≡ k → eqb c slash ≡ b → has_byte slash (drop (before_name l) l) ≡ false
        → has_byte slash (drop (before_name (c ∷ l)) (c ∷ l)) ≡ false
    go zero true e f r = rw (e, f) (rw e at r)
    go zero false e f r = rw (e, f) (rw f (rw e at r))
    go (suc k) b e f r = rw e (rw e at r)

-- what is due behind the k bytes before a last name: they are none, or end in a slash
abbrev behind : ℕ → List Range → List Range
behind zero rs = rs
behind (suc k) rs = []

before_text : (rs : List Range) (l : List ℕ) → NoSlash rs → text_from rs l ≡ true
    → text_from (behind (before_name l) rs) (drop (before_name l) l) ≡ true
unfolding before_name
before_text rs [] n h = h
before_text rs (c ∷ l) n h = go (before_name l) (eqb c slash) refl refl
    (before_text (step rs c) l (step_slash rs c n) (from_cons rs c l h))
  where
    go : (k : ℕ) (b : Bool) → before_name l ≡ k → eqb c slash ≡ b
        → text_from (behind (before_name l) (step rs c)) (drop (before_name l) l) ≡ true
        → text_from (behind (before_name (c ∷ l)) rs) (drop (before_name (c ∷ l)) (c ∷ l)) ≡ true
    go zero true e f r = rw (e, f) (behind_slash rs c l n (eqb-true c slash f) h).1
    go zero false e f r = rw (e, f) h
    go (suc k) b e f r = rw e (rw e at r)

-- without the slashes at its end
untrailed_text : (rs : List Range) (l : List ℕ) → NoSlash rs → text_from rs l ≡ true → text_from rs (take (untrailed l) l) ≡ true
unfolding untrailed
untrailed_text rs [] n h = h
untrailed_text rs (c ∷ l) n h = go (untrailed l) (eqb c slash) refl refl
    (untrailed_text (step rs c) l (step_slash rs c n) (from_cons rs c l h))
  where
    go : (k : ℕ) (b : Bool) → untrailed l ≡ k → eqb c slash ≡ b → text_from (step rs c) (take (untrailed l) l) ≡ true
        → text_from rs (take (untrailed (c ∷ l)) (c ∷ l)) ≡ true
    go zero true e f r = rw (e, f) (behind_slash rs c l n (eqb-true c slash f) h).0
    go zero false e f r = rw (e, f) (cons_from rs c [] (rw e at r))
    go (suc k) b e f r = rw e (cons_from rs c (take (suc k) l) (rw e at r))

trimmed_text : (l : List ℕ) → is_text l ≡ true → is_text (trimmed l) ≡ true
unfolding trimmed
trimmed_text l h = go (either (ltb 1 (length l)))
  where
    go : (ltb 1 (length l) ≡ true) ⊎ (ltb 1 (length l) ≡ false) → is_text (trimmed l) ≡ true
    go (inl t) = rw (pick_true (take (untrailed l) l) l t) (untrailed_text [] l tt h)
    go (inr f) = rw (pick_false (take (untrailed l) l) l f) h

-- the last name of text is a name, but for its length
pub last_name_lem : (l : List ℕ) → is_text l ≡ true → is_name (last_name l) ≡ true
unfolding last_name is_name
last_name_lem l h =
    let m : List ℕ = trimmed l in
    let t : is_text (drop (before_name m) m) ≡ true = whole (before_name m) (before_text [] m tt (trimmed_text l h)) in
    rw (t, before_clear m)
  where
    whole : (k : ℕ) → text_from (behind k []) (drop k (trimmed l)) ≡ true → is_text (drop k (trimmed l)) ≡ true
    whole zero r = r
    whole (suc k) r = r
