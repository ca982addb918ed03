-- The laws of `starts_slash`, `ends_slash`, `real_path`, `bad_path` and `steps`.
use mathlib.Core.Path.{◌≡◌, refl, sym, ap, ◌∙◌}
use mathlib.Core.Bool.{Bool, true, false, not, ◌||◌, ◌&&◌, or-true, and-true, and-false}
use mathlib.Core.Logic.{◌⊎◌, inl, inr}
use mathlib.Core.List.{List, [], ◌∷◌, ◌++◌, append_assoc}
use Prim.Native.Nat.{ℕ, suc, ◌+◌, ◌-◌, ◌≤◌, ◌<◌}
use native.Mathlib.Nat.{zero-add}
use native.Mathlib.Omega.{arith}
use lib.Dec.{ltb, eqb}
use lib.ListN.{length, get_or, take, drop, length-append}
use lib.Seq.{take_at, drop_at, drop-drop}
use borrow.Author.Tests.{lt-ltb, le-ltb, eqb-true}
use Rattle.std.specs.Prelude.{Result}
use Rattle.std.specs.List.{starts_with, ends_with}
use Rattle.std.specs.Cmp.Lexicographic.{pointwise}
use Rattle.std.proofs.lemmas.Slice.{between_to_end}
use Rattle.wire.specs.Be.{splice}
use Rattle.wire.specs.Pick.{pick, same}
use Rattle.wire.proofs.Picks.{either, not_both, and_true, pick_true, pick_false, same_is}
use Rattle.text.specs.Text.{is_text}
use Rattle.text.proofs.Laws.{text_slash, text_none}
use Rattle.limits.specs.declared.Refusal.{Refusal}
use Rattle.limits.specs.declared.Refusal.TheVariants.{BadPath}
use Rattle.path.specs.Post.{Stores, Leaves, PathIs, RealIs}
use Rattle.path.specs.Path.{slash, path_limit, starts_slash, ends_slash, real_path, bad_path, split, unled, steps}
use Rattle.path.proofs.Ends.{unled_all, unled_first}

-- ---- the slash at the start and at the end

eqb_swap : (a b : ℕ) → eqb a b ≡ eqb b a
eqb_swap a b = grind arith

one_byte : (a c : ℕ) → pointwise eqb (a ∷ []) (c ∷ []) ≡ eqb c a
one_byte a c = and_true (eqb a c) ∙ eqb_swap a c

pub starts_is : (s : List ℕ) (b : Bool) → b ≡ starts_with eqb s (slash ∷ []) → b ≡ starts_slash s
unfolding starts_slash
starts_is [] b e = e
starts_is (c ∷ s) b e = e ∙ one_byte slash c

ends_is : (s : List ℕ) (b : Bool) → b ≡ ends_with eqb s (slash ∷ []) → b ≡ ends_slash s
unfolding ends_slash
ends_is [] b e = e
ends_is (c ∷ []) b e = e ∙ one_byte slash c
ends_is (c ∷ d ∷ s) b e =
    let q : suc (suc (length s)) - 1 ≡ suc (suc (length s) - 1) = omega arith in
    ends_is (d ∷ s) b (e ∙ ap (λ (n : ℕ). pointwise eqb (slash ∷ []) (drop n (c ∷ d ∷ s))) q)

-- the bytes before that last slash
unslashed : (s : List ℕ) → ends_slash s ≡ true → (a : List ℕ) × (s ≡ a ++ (slash ∷ []))
unfolding ends_slash
unslashed [] e = absurd (not_both e refl)
unslashed (c ∷ []) e = ([], ap (λ (x : ℕ). x ∷ []) (eqb-true c slash e))
unslashed (c ∷ d ∷ s) e = let r = unslashed (d ∷ s) e in (c ∷ r.0, ap (λ (x : List ℕ). c ∷ x) r.1)

-- the slashes that join a working directory to a path
abbrev pub joint : List ℕ → List ℕ
joint cwd = pick (ends_slash cwd) [] (slash ∷ [])

module _ (cwd : List ℕ) (b : Bool) (e : b ≡ ends_with eqb cwd (slash ∷ [])) where
  pub joint_none : b ≡ true → [] ≡ joint cwd
  joint_none t = sym (pick_true [] (slash ∷ []) (sym (ends_is cwd b e) ∙ t))

  pub joint_slash : b ≡ false → slash ∷ [] ≡ joint cwd
  joint_slash f = sym (pick_false [] (slash ∷ []) (sym (ends_is cwd b e) ∙ f))

-- text around a slash, whether the working directory ends in one or not: its bytes and the path's are tested apart
text_joined : (cwd p : List ℕ) → is_text (cwd ++ (joint cwd ++ p)) ≡ is_text cwd && is_text p
text_joined cwd p = go (either (ends_slash cwd))
  where
    whole : (a : List ℕ) → cwd ≡ a ++ (slash ∷ []) → is_text (cwd ++ p) ≡ is_text cwd && is_text p
    whole a e = rw (e, append_assoc, text_slash, text_slash a [], text_none, and-true)

    go : (ends_slash cwd ≡ true) ⊎ (ends_slash cwd ≡ false) → is_text (cwd ++ (joint cwd ++ p)) ≡ is_text cwd && is_text p
    go (inl t) = let u = unslashed cwd t in rw (pick_true [] (slash ∷ []) t) (whole u.0 u.1)
    go (inr f) = rw (pick_false [] (slash ∷ []) f) (text_slash cwd p)

-- ---- a path that starts with a slash

module _ (cwd p : List ℕ) (h : starts_slash p ≡ true) where
  real_plain : real_path cwd p ≡ p
  unfolding real_path
  real_plain = pick_true _ _ h

  bad_plain : bad_path cwd p ≡ (ltb path_limit (length p) || not (is_text p))
  unfolding bad_path
  bad_plain = rw (h, real_plain)

-- ---- a path that doesn't, with what goes before it

module _ (cwd p gap : List ℕ) (h : starts_slash p ≡ false) (g : gap ≡ joint cwd) where
  real_joined : real_path cwd p ≡ cwd ++ (gap ++ p)
  unfolding real_path
  real_joined = pick_false _ _ h ∙ rw g

  joined_length : length (real_path cwd p) ≡ length cwd + (length gap + length p)
  joined_length = rw (real_joined, length-append, length-append)

  joined_bytes : is_text (real_path cwd p) ≡ is_text cwd && is_text p
  unfolding real_path
  joined_bytes = ap is_text (pick_false _ _ h) ∙ text_joined cwd p

bad_long : (cwd p : List ℕ) → path_limit < length (real_path cwd p) → bad_path cwd p ≡ true
unfolding bad_path
bad_long cwd p h = rw (lt-ltb path_limit (length (real_path cwd p)) h, or-true)

bad_byte : (cwd p : List ℕ) → is_text (real_path cwd p) ≡ false → bad_path cwd p ≡ true
unfolding bad_path
bad_byte cwd p h = simp (h, or-true)

good_joined : (cwd p : List ℕ) → starts_slash cwd ≡ true → length (real_path cwd p) ≤ path_limit → is_text (real_path cwd p) ≡ true
    → bad_path cwd p ≡ false
unfolding bad_path
good_joined cwd p h k m = rw (h, le-ltb path_limit (length (real_path cwd p)) k, m) (go (starts_slash p))
  where
    go : (b : Bool) → ((not b && false) || false) ≡ false
    go true = refl
    go false = refl

-- ---- what is stored

-- a list in front of what it is stored over
stored_is : (l p q : List ℕ) → q ≡ p → q ++ drop (length p) l ≡ splice l 0 p
unfolding splice
stored_is l p q e = rw (e, zero-add)

pub join_is : (l c g p r x y z : List ℕ) → r ≡ drop (length c) l → x ≡ c → y ≡ g → z ≡ p
    → x ++ (take (length g) (y ++ drop (length g) r) ++ (z ++ drop (length g + length p - length g) (drop (length g) (y ++ drop (length g) r))))
    ≡ splice l 0 (c ++ (g ++ p))
unfolding splice
join_is l c g p r x y z er ex ey ez =
    let n : length g + length p - length g ≡ length p = omega arith in
    let t : take (length g) (g ++ drop (length g) r) ≡ g = take_at g (drop (length g) r) (length g) refl in
    let d : drop (length g) (g ++ drop (length g) r) ≡ drop (length g) r = drop_at g (drop (length g) r) (length g) refl in
    let k : length (c ++ (g ++ p)) ≡ length c + (length g + length p) = rw (length-append, length-append) refl in
    rw (ex, ey, ez, n, t, d, er, k, zero-add, append_assoc, append_assoc, drop-drop, drop-drop)

-- ---- what each return gives: t is what a test answered

module _ (l p : List ℕ) where
  pub plain_good : (m : List ℕ) (t : Bool) → t ≡ is_text p → t ≡ true → length p ≤ path_limit → m ≡ p
      → Stores (ltb path_limit (length p) || not (is_text p)) p l (m ++ drop (length p) l) (length p)
  plain_good m t e h k x =
      record { good = rw (← e, h, le-ltb path_limit (length p) k); long = refl; fits = k; stored = stored_is l p m x }

module _ (cwd p l : List ℕ) (h : starts_slash p ≡ false) where
  pub joined_cwd : (t : Bool) → t ≡ starts_slash cwd → t ≡ false → Leaves (bad_path cwd p) l l BadPath
  unfolding bad_path
  joined_cwd t e k = record { refused = rw (h, ← e, k); kept = refl; why = refl }

  module _ (gap : List ℕ) (g : gap ≡ joint cwd) where
    pub joined_long : path_limit < length cwd + (length gap + length p) → Leaves (bad_path cwd p) l l BadPath
    joined_long q = record { refused = bad_long cwd p (rw (joined_length cwd p gap h g) q); kept = refl; why = refl }

    pub joined_first : (t : Bool) → t ≡ is_text cwd → t ≡ false → Leaves (bad_path cwd p) l l BadPath
    joined_first t e f = record {
      refused = bad_byte cwd p (rw (joined_bytes cwd p gap h g, ← e, f));
      kept = refl;
      why = refl;
    }

    pub joined_second : (t : Bool) → t ≡ is_text p → t ≡ false → Leaves (bad_path cwd p) l l BadPath
    joined_second t e f = record {
      refused = bad_byte cwd p (rw (joined_bytes cwd p gap h g, ← e, f) (and-false (is_text cwd)));
      kept = refl;
      why = refl;
    }

    pub joined_good : (m : List ℕ) (s u v : Bool) → s ≡ starts_slash cwd → s ≡ true
        → length cwd + (length gap + length p) ≤ path_limit → u ≡ is_text cwd → u ≡ true → v ≡ is_text p → v ≡ true
        → m ≡ splice l 0 (cwd ++ (gap ++ p)) → Stores (bad_path cwd p) (real_path cwd p) l m (length cwd + (length gap + length p))
    joined_good m s u v es fs q eu fu ev fv x =
        record {
          good = good_joined cwd p (sym es ∙ fs) (rw (joined_length cwd p gap h g) q)
              (rw (joined_bytes cwd p gap h g, ← eu, ← ev, fu, fv));
          long = sym (joined_length cwd p gap h g);
          fits = q;
          stored = rw (real_joined cwd p gap h g) x;
        }

-- a path that starts with a slash is as it stands, whatever the working directory
pub plain_real : (cwd p l m : List ℕ) (r : Result ℕ Refusal) (t : Bool) → t ≡ starts_slash p → t ≡ true
    → PathIs (ltb path_limit (length p) || not (is_text p)) p l m r → RealIs cwd p l m r
plain_real cwd p l m r t e h x =
    let s : starts_slash p ≡ true = sym e ∙ h in
    rw (real_plain cwd p s, bad_plain cwd p s) x

-- ---- whether a path is the root

pub root_is : (l m : List ℕ) (b : Bool) → b ≡ pointwise eqb l m → m ≡ slash ∷ [] → b ≡ same l (slash ∷ [])
root_is l m b e h = e ∙ same_is l m ∙ rw h

module _ (d : List ℕ) (b : Bool) (e : b ≡ same d (slash ∷ [])) where
  pub way_root : b ≡ true → [] ≡ steps d
  unfolding steps
  way_root t = sym (pick_true _ _ (sym e ∙ t))

  way_else : b ≡ false → steps d ≡ split (unled d)
  unfolding steps
  way_else f = pick_false _ _ (sym e ∙ f)

  pub way_all : b ≡ false → ((k : ℕ) → k < length d → get_or d k 0 ≡ slash) → split [] ≡ steps d
  way_all f g = sym (way_else f ∙ ap split (unled_all d g))

  pub way_first : (i : ℕ) → b ≡ false → i < length d → (get_or d i 0 ≡ slash → ⊥) → ((k : ℕ) → k < i → get_or d k 0 ≡ slash)
      → split (take (length d - i) (drop i d)) ≡ steps d
  way_first i f h n g =
      ap split (between_to_end d i (length d) (omega arith)) ∙ sym (way_else f ∙ ap split (unled_first d i h n g))

-- what is left of a directory part, where it has slashes alone and where it does not
module _ (d : List ℕ) where
  pub rest_none : ((k : ℕ) → k < length d → get_or d k 0 ≡ slash) → [] ≡ unled d
  rest_none g = sym (unled_all d g)

  pub rest_first : (i : ℕ) → i < length d → (get_or d i 0 ≡ slash → ⊥) → ((k : ℕ) → k < i → get_or d k 0 ≡ slash)
      → take (length d - i) (drop i d) ≡ unled d
  rest_first i h n g = between_to_end d i (length d) (omega arith) ∙ sym (unled_first d i h n g)
