-- D3: steps at one vacant path that end with nothing there restore all but the time.
use mathlib.Core.Path.{◌≡◌, refl, sym, ap, ◌∙◌, subst}
use mathlib.Core.Bool.{true}
use mathlib.Core.Logic.{◌⊎◌, inl, inr}
use mathlib.Core.Option.{some}
use mathlib.Core.List.{List, [], ◌∷◌}
use Prim.Native.Nat.{ℕ, zero, suc, ◌+◌, ◌-◌, ◌*◌, ◌/◌, ◌%◌, ◌^◌, ◌≤◌, ◌<◌}
use native.Mathlib.Nat.{pow-suc}
use native.Mathlib.Omega.{arith}
use native.Mathlib.Decide.{ℕ_discrete, dec_lt}
use lib.ListN.{length, get_or, length-append}
use borrow.Author.Tests.{ne_eqb}
use Rattle.wire.specs.Be.{bytes}
use Rattle.wire.proofs.Numbers.{length_bytes}
use Rattle.wire.proofs.Picks.{not_both, pick_false, same_refl}
use Rattle.bits.specs.Bit.{digit, bit}
use Rattle.block.specs.Block.{cell}
use Rattle.bits.proofs.Digits.{digit_zero, digit_suc}
use Rattle.model.specs.Tree.{Name, Cell, Tree, called, Absent, Packed, insert, change, delete, Edit, edit, Some, find}
use Rattle.model.specs.Render.{Piece, render, ats, count, ShowsAll, Wiped, blocks, own_time, InTime}
use Rattle.model.specs.Geometry.{Geo, block_size, map_at, data_at, super_bytes}
use Rattle.model.specs.Volume.{All, Volume}
use Rattle.model.specs.Calls.{rewritten, refiled, Vacant, file_entry, created, deleted, Outside, Makes}
use Rattle.model.specs.Steps.{Step, quiet, create, write, remove, Run, done, call, Used, Restored, Bytes}
use Rattle.model.proofs.Areas.{area, volume_laid, size_large}
use Rattle.model.proofs.Alike.{Alike, alike_edit, alike_ats}
use Rattle.model.proofs.Dirs.{change_absent, delete_absent, insert_there, change-insert, delete-insert}
use Rattle.model.proofs.Edits.{refiled_name, edit_twice, edit_ext, edit_same, find-edit}
use Rattle.model.proofs.Frame.{SameBlock}
use Rattle.model.proofs.Full.{good_find, Whole, whole_tree, length-padded}

-- ---- the tree

called_file : (X : Type 0) (n : Name) (now s : ℕ) (cs : List Cell) → called {X = X} n (file_entry n now s cs) ≡ true
unfolding called file_entry
called_file X n now s cs = same_refl n

-- t as the first tree t₀ with nothing at the path, or a file there, and some time in the holding directory's own entry
data State (cap d : ℕ) (p : List Name) (n : Name) (t₀ t : Tree d) : Type 0 where
  gone : (g : ℕ → ℕ) → t ≡ edit d p g (λ e bs. bs) t₀ → State cap d p n t₀ t
  here : (g : ℕ → ℕ) (now w s : ℕ) (cs : List Cell) → t ≡ edit d p g (λ e bs. insert cap w (file_entry n now s cs) bs) t₀ → State cap d p n t₀ t

module _ (cap d : ℕ) (p : List Name) (n : Name) (t₀ : Tree d) (v : Vacant d p n t₀) (k : Packed v.dir.1) where
  -- with a file there the path is not vacant
  occupied : (g : ℕ → ℕ) (now w s : ℕ) (cs : List Cell) (t : Tree d) → t ≡ edit d p g (λ e bs. insert cap w (file_entry n now s cs) bs) t₀ → Vacant d p n t → ⊥
  occupied g now w s cs t e u =
      let f = find-edit d p g (λ e bs. insert cap w (file_entry n now s cs) bs) t₀ v.dir v.there in
      let f' : find d p t ≡ some (v.dir.0, insert cap w (file_entry n now s cs) v.dir.1) = ap (find d p) e ∙ f in
      let both : some u.dir ≡ some (v.dir.0, insert cap w (file_entry n now s cs) v.dir.1) = sym u.there ∙ f' in
      let q : u.dir ≡ (v.dir.0, insert cap w (file_entry n now s cs) v.dir.1) = cc in
      not_both (insert_there cap w n (file_entry n now s cs) (called_file _ n now s cs) v.dir.1) (subst (λ (x : Some). Absent n x.1) q u.free)

  module _ (t t' : Tree d) where
    -- what an edit at the path does to either state: f after what the state has, on the holding directory, is f'
    to_gone : (g g' : ℕ → ℕ) (f f' : Edit) → t ≡ edit d p g f t₀ → t' ≡ edit d p g' f' t → f' v.dir.0 (f v.dir.0 v.dir.1) ≡ v.dir.1 → State cap d p n t₀ t'
    to_gone g g' f f' e e' r =
        gone (λ j. g' (g j)) (e' ∙ ap (edit d p g' f') e ∙ edit_twice d p g' g f' f t₀ ∙ edit_ext d p _ _ (λ e bs. bs) t₀ v.dir v.there r)

    to_here : (g g' : ℕ → ℕ) (f f' : Edit) (now w s : ℕ) (cs : List Cell) → t ≡ edit d p g f t₀ → t' ≡ edit d p g' f' t
        → f' v.dir.0 (f v.dir.0 v.dir.1) ≡ insert cap w (file_entry n now s cs) v.dir.1 → State cap d p n t₀ t'
    to_here g g' f f' now w s cs e e' r =
        here (λ j. g' (g j)) now w s cs
        (e' ∙ ap (edit d p g' f') e ∙ edit_twice d p g' g f' f t₀ ∙ edit_ext d p _ _ (λ e bs. insert cap w (file_entry n now s cs) bs) t₀ v.dir v.there r)

    after_create : (now w s : ℕ) (cs : List Cell) → Vacant d p n t → t' ≡ created d cap p n now w s cs t → State cap d p n t₀ t → State cap d p n t₀ t'
    unfolding created
    after_create now w s cs u e' (gone g e) = to_here g (λ _. now) (λ e bs. bs) (λ e bs. insert cap w (file_entry n now s cs) bs) now w s cs e e' refl
    after_create now w s cs u e' (here g now₁ w₁ s₁ cs₁ e) = absurd (occupied g now₁ w₁ s₁ cs₁ t e u)

    after_write : (now s : ℕ) (cs : List Cell) → t' ≡ rewritten d p n now s cs t → State cap d p n t₀ t → State cap d p n t₀ t'
    unfolding rewritten file_entry refiled
    after_write now s cs e' (gone g e) =
        to_gone g (λ j. j) (λ e bs. bs) (λ e bs. change n (λ x. refiled now s cs x.name x.time x.node) bs) e e' (change_absent n (λ x. refiled now s cs x.name x.time x.node) v.dir.1 v.free)
    after_write now s cs e' (here g now₁ w₁ s₁ cs₁ e) =
        to_here g (λ j. j) (λ e bs. insert cap w₁ (file_entry n now₁ s₁ cs₁) bs) (λ e bs. change n (λ x. refiled now s cs x.name x.time x.node) bs) now w₁ s cs e e'
        (change-insert cap w₁ n (file_entry n now₁ s₁ cs₁) (called_file _ n now₁ s₁ cs₁) (λ x. refiled now s cs x.name x.time x.node) (λ x. refiled_name now s cs x.name x.time x.node) v.dir.1 v.free)

    after_remove : (now : ℕ) → t' ≡ deleted d p n now t → State cap d p n t₀ t → State cap d p n t₀ t'
    unfolding deleted
    after_remove now e' (gone g e) = to_gone g (λ _. now) (λ e bs. bs) (λ e bs. delete n bs) e e' (delete_absent n v.dir.1 v.free)
    after_remove now e' (here g now₁ w₁ s₁ cs₁ e) =
        to_gone g (λ _. now) (λ e bs. insert cap w₁ (file_entry n now₁ s₁ cs₁) bs) (λ e bs. delete n bs) e e'
        (delete-insert cap w₁ n (file_entry n now₁ s₁ cs₁) (called_file _ n now₁ s₁ cs₁) v.dir.1 v.free k)

  -- nothing there at the end
  ended : (t : Tree d) → Vacant d p n t → State cap d p n t₀ t → (g : ℕ → ℕ) × (t ≡ edit d p g (λ e bs. bs) t₀)
  ended t u (gone g e) = (g, e)
  ended t u (here g now w s cs e) = absurd (occupied g now w s cs t e u)

-- ---- runs

module _ (g : Geo) (d : ℕ) (p : List Name) (n : Name) (t₀ : Tree d) (v : Vacant d p n t₀) (k : Packed v.dir.1) where
  cap : ℕ
  cap = block_size g - 5

  after : (I I' : List ℕ) (t t' : Tree d) → Step g d p n I t I' t' → State (block_size g - 5) d p n t₀ t → State (block_size g - 5) d p n t₀ t'
  after I I' t t' (quiet i e) s = subst (State (block_size g - 5) d p n t₀) (sym e) s
  after I I' t t' (create now w z cs u e x) s = after_create (block_size g - 5) d p n t₀ v k t t' now w z cs u e s
  after I I' t t' (write now z cs o e x) s = after_write (block_size g - 5) d p n t₀ v k t t' now z cs e s
  after I I' t t' (remove now o e x) s = after_remove (block_size g - 5) d p n t₀ v k t t' now e s

  shown_after : (I I' : List ℕ) (t t' : Tree d) → Step g d p n I t I' t' → Volume g I d t → Volume g I' d t'
  shown_after I I' t t' (quiet i e) s = subst (λ (J : List ℕ). Volume g J d t') (sym i) (subst (Volume g I d) (sym e) s)
  shown_after I I' t t' (create now w z cs u e x) s = x.volume
  shown_after I I' t t' (write now z cs o e x) s = x.volume
  shown_after I I' t t' (remove now o e x) s = x.volume

  all_after : {I I' : List ℕ} {t t' : Tree d} → Run g d p n I t I' t' → State (block_size g - 5) d p n t₀ t → State (block_size g - 5) d p n t₀ t'
  all_after done s = s
  all_after (call {I} {J} {L} {t} {u} {v = w} c r) s = all_after r (after I J t u c s)

  volume_after : {I I' : List ℕ} {t t' : Tree d} → Run g d p n I t I' t' → Volume g I d t → Volume g I' d t'
  volume_after done s = s
  volume_after (call {I} {J} {L} {t} {u} {v = w} c r) s = volume_after r (shown_after I J t u c s)

  -- a block that is used on the way is a data block
  used_data : {I I' : List ℕ} {t t' : Tree d} (b : ℕ) (r : Run g d p n I t I' t') → Volume g I d t → Used b r → data_at g ≤ b
  unfolding Used
  used_data b done s q = (s.laid.range b q).0
  used_data b (call {I} {J} {L} {t} {u} {v = w} c r) s (inl q) = (s.laid.range b q).0
  used_data b (call {I} {J} {L} {t} {u} {v = w} c r) s (inr q) = used_data b r (shown_after I J t u c s) q

  -- every call leaves as many bytes as there were
  long_after : {I I' : List ℕ} {t t' : Tree d} → Run g d p n I t I' t' → length I' ≡ length I
  long_after done = refl
  long_after (call {I} {J} {L} {t} {u} {v = w} c r) = long_after r ∙ long I J t u c
    where
      long : (I J : List ℕ) (t u : Tree d) → Step g d p n I t J u → length J ≡ length I
      long I J t u (quiet i e) = ap length i
      long I J t u (create now w z cs q e x) = x.frame.size
      long I J t u (write now z cs o e x) = x.frame.size
      long I J t u (remove now o e x) = x.frame.size

-- The tree at the end is the first but for a time.
tree_restored : (g : Geo) (d : ℕ) (p : List Name) (n : Name) (I I' : List ℕ) (t t' : Tree d) → Volume g I d t → Vacant d p n t → Run g d p n I t I' t' → Vacant d p n t'
    → (f : ℕ → ℕ) × (t' ≡ edit d p f (λ e bs. bs) t)
tree_restored g d p n I I' t t' w v r u =
    let k = (good_find (block_size g) d p t v.dir w.laid.good v.there).packed in
    ended (block_size g - 5) d p n t v k t' u (all_after g d p n t v k r (gone (λ j. j) (sym (edit_same d p t))))

-- ---- the bytes

-- a number is its digits
digits_same : (k n m : ℕ) → n < 2 ^ k → m < 2 ^ k → ((j : ℕ) → j < k → digit n j ≡ digit m j) → n ≡ m
digits_same zero n m a b s = omega arith
digits_same (suc k) n m a b s =
    let p : n / 2 ≡ m / 2 = digits_same k (n / 2) (m / 2) (omega (arith, pow-suc 2 k)) (omega (arith, pow-suc 2 k)) (λ j q. sym (digit_suc n j) ∙ s (suc j) (omega arith) ∙ digit_suc m j) in
    let q : n % 2 ≡ m % 2 = sym (digit_zero n) ∙ s 0 (omega arith) ∙ digit_zero m in
    omega arith

-- a byte of a bitmap is its bits
pub byte_same : (I I' : List ℕ) (from i : ℕ) → Bytes I → Bytes I' → ((k : ℕ) → k < 8 → bit I' from (8 * i + k) ≡ bit I from (8 * i + k)) → get_or I' (from + i) 0 ≡ get_or I (from + i) 0
unfolding bit
byte_same I I' from i b b' s = digits_same 8 _ _ (b' (from + i)) (b (from + i)) (λ j q. go j q)
  where
    at : (L : List ℕ) (j : ℕ) → j < 8 → bit L from (8 * i + j) ≡ digit (get_or L (from + i) 0) j
    at L j q =
        let x : (8 * i + j) / 8 ≡ i = omega arith in
        let y : (8 * i + j) % 8 ≡ j = omega arith in
        rw (x, y)

    go : (j : ℕ) → j < 8 → digit (get_or I' (from + i) 0) j ≡ digit (get_or I (from + i) 0) j
    go j q = sym (at I' j q) ∙ s j q ∙ at I j q

-- a block of the pieces
pub shown_near : (P : ℕ → Type 0) (B : ℕ) (I I' : List ℕ) (xs ys : List Piece) → Alike P B xs ys → All (Whole B) xs → ShowsAll B I xs → ShowsAll B I' ys
    → (b i : ℕ) → 1 ≤ count b (ats xs) → i < B → (P (B * b + i) → ⊥) → get_or I' (B * b + i) 0 ≡ get_or I (B * b + i) 0
unfolding ats count
shown_near P B I I' [] [] a w s s' b i c h x = absurd (omega arith)
shown_near P B I I' [] (y ∷ ys) a w s s' b i c h x = absurd a
shown_near P B I I' (z ∷ xs) [] a w s s' b i c h x = absurd a
shown_near P B I I' (z ∷ xs) (y ∷ ys) a w s s' b i c h x = go (ℕ_discrete b z.at) (shown_near P B I I' xs ys a.2 w.1 s.1 s'.1 b i)
  where
    go : Dec (b ≡ z.at) → (1 ≤ count b (ats xs) → i < B → (P (B * b + i) → ⊥) → get_or I' (B * b + i) 0 ≡ get_or I (B * b + i) 0) → get_or I' (B * b + i) 0 ≡ get_or I (B * b + i) 0
    go (yes e) r =
        let x' : P (B * z.at + i) → ⊥ = λ q. x (subst (λ (j : ℕ). P (B * j + i)) (sym e) q) in
        rw e (ap (λ (j : ℕ). get_or I' (B * j + i) 0) a.0 ∙ s'.0 i (omega (arith, a.1.long, w.0)) ∙ sym (a.1.agree i x') ∙ sym (s.0 i (omega (arith, w.0))))
    go (no e) r = r (omega (arith, c, pick_false {A = ℕ} 1 0 (ne_eqb b z.at e))) h x

-- the superblock is a whole block
pub whole_super : (g : Geo) (u : ℕ) → length (super_bytes g u) ≡ block_size g
unfolding super_bytes
whole_super g u = length-padded (block_size g) _ (rw length-append (omega (arith, size_large g, length_bytes 4 g.n, length_bytes 4 u, length-append (bytes 4 g.n) (bytes 4 u))))

-- ---- the blocks that the calls used

module _ (g : Geo) (d : ℕ) (p : List Name) (n : Name) (b : ℕ) (not_super : b ≡ g.K → ⊥) (not_map : map_at g ≤ b → b < data_at g → ⊥) where
  -- One step: what was reached and no longer is is wiped; what is reached neither before nor after is as it was.
  record Leaves (I : List ℕ) (t : Tree d) (J : List ℕ) (u : Tree d) : Type 0 where
    pub wiped : 1 ≤ count b (blocks (block_size g) d t) → count b (blocks (block_size g) d u) ≡ 0 → Wiped (block_size g) J b
    pub same : count b (blocks (block_size g) d t) ≡ 0 → count b (blocks (block_size g) d u) ≡ 0 → SameBlock (block_size g) I J b

  makes_leaves : (I J : List ℕ) (t u : Tree d) → Makes g d t u I J → Leaves I t J u
  unfolding cell
  makes_leaves I J t u m = record {
    wiped = m.wiped b;
    same = λ x y i h. m.frame.at b i (record { not_super = not_super; not_map = not_map; not_reached = omega (arith, y) }, x) h;
  }

  leaves : (I J : List ℕ) (t u : Tree d) → Step g d p n I t J u → Leaves I t J u
  leaves I J t u (quiet i e) = record {
    wiped = λ x y. absurd (omega (arith, x, y, ap (λ (z : Tree d). count b (blocks (block_size g) d z)) e));
    same = λ x y k h. ap (λ (L : List ℕ). get_or L (block_size g * b + k) 0) i;
  }
  leaves I J t u (create now w s cs o e m) = makes_leaves I J t u m
  leaves I J t u (write now s cs o e m) = makes_leaves I J t u m
  leaves I J t u (remove now o e m) = makes_leaves I J t u m

  -- what is used at no time is not reached at the start
  unreached : (t : Tree d) → (1 ≤ count b (blocks (block_size g) d t) → ⊥) → count b (blocks (block_size g) d t) ≡ 0
  unreached t x = go (dec_lt 0 (count b (blocks (block_size g) d t)))
    where
      go : Dec (0 < count b (blocks (block_size g) d t)) → count b (blocks (block_size g) d t) ≡ 0
      go (yes q) = absurd (x q)
      go (no q) = omega arith

  at_start : {I J : List ℕ} {t u : Tree d} (r : Run g d p n I t J u) → (Used b r → ⊥) → count b (blocks (block_size g) d t) ≡ 0
  unfolding Used
  at_start {I} {J} {t} {u} done x = unreached t x
  at_start {I} {J} {t} {u} (call s r) x = unreached t (λ q. x (inl q))

  -- A block that is not reached at the end was never used and is as it was, or was used and is wiped.
  used_run : {I J : List ℕ} {t u : Tree d} (r : Run g d p n I t J u) → count b (blocks (block_size g) d u) ≡ 0
      → ((Used b r → ⊥) × SameBlock (block_size g) I J b) ⊎ (Used b r × Wiped (block_size g) J b)
  unfolding Used
  used_run done z = inl (λ h. omega arith, λ i h. refl)
  used_run {I} {J} {t} {u} (call {J = L} {u = m} s r) z = go (used_run r z) (at_start r) (leaves I L t m s) (dec_lt 0 (count b (blocks (block_size g) d t)))
    where
      go : ((Used b r → ⊥) × SameBlock (block_size g) L J b) ⊎ (Used b r × Wiped (block_size g) J b)
          → ((Used b r → ⊥) → count b (blocks (block_size g) d m) ≡ 0) → Leaves I t L m → Dec (0 < count b (blocks (block_size g) d t))
          → ((Used b (call s r) → ⊥) × SameBlock (block_size g) I J b) ⊎ (Used b (call s r) × Wiped (block_size g) J b)
      go (inr x) f l q = inr (inr x.0, x.1)
      go (inl x) f l (yes q) = inr (inl q, λ i h. x.1 i h ∙ l.wiped q (f x.0) i h)
      go (inl x) f l (no q) = inl (fresh q x.0, λ i h. x.1 i h ∙ l.same (omega arith) (f x.0) i h)
        where
          fresh : (0 < count b (blocks (block_size g) d t) → ⊥) → (Used b r → ⊥) → Used b (call s r) → ⊥
          fresh q y (inl w) = q w
          fresh q y (inr w) = y w

-- D3: steps at one vacant path that end with nothing there restore all but the time.
pub demand3 : (g : Geo) (d : ℕ) (p : List Name) (n : Name) (I I' : List ℕ) (t t' : Tree d) → Bytes I → Bytes I'
    → Volume g I d t → Vacant d p n t → (r : Run g d p n I t I' t') → Vacant d p n t' → Restored g d p I t (λ c. Used c r) I'
demand3 g d p n I I' t t' b b' w v r u =
    let B : ℕ = block_size g in
    let z = tree_restored g d p n I I' t t' w v r u in
    let w' : Volume g I' d (edit d p z.0 (λ e bs. bs) t) = subst (Volume g I' d) z.1 (volume_after g d p n t v (good_find B d p t v.dir w.laid.good v.there).packed r w) in
    let P : ℕ → Type 0 = InTime (own_time B d p t) in
    let a : Alike P B (render B d t) (render B d (edit d p z.0 (λ e bs. bs) t)) = alike_edit P B d p z.0 t (λ j q. q) in
    let e : blocks B d t ≡ blocks B d (edit d p z.0 (λ e bs. bs) t) = alike_ats P B _ _ a in
    record {
      long = long_after g d p n t v (good_find B d p t v.dir w.laid.good v.there).packed r;
      top = λ i h.
          (volume_laid g I' d _ w').top i (omega (arith, h, whole_super g (data_at g + length (blocks B d (edit d p z.0 (λ e bs. bs) t)))))
          ∙ ap (λ (l : List ℕ). get_or (super_bytes g (data_at g + length l)) i 0) (sym e)
          ∙ sym ((volume_laid g I d t w).top i (omega (arith, h, whole_super g (data_at g + length (blocks B d t)))));
      bitmap = λ i h.
          byte_same I I' (B * map_at g) i b b' (λ k q.
          w'.marked (8 * i + k) (omega arith)
          ∙ ap (count (data_at g + (8 * i + k))) (sym e)
          ∙ sym (w.marked (8 * i + k) (omega arith)));
      reached = λ c i m h x.
          shown_near P B I I' (render B d t) (render B d (edit d p z.0 (λ e bs. bs) t)) a
          (whole_tree B (omega (arith, size_large g)) d t w.laid.good) w.laid.shown w'.laid.shown c i m h x;
      given_back = λ c h y. wiped c h (omega (arith, y));
      never_used = λ c i o h l. kept c o (search h) i (omega (arith, l));
    }
  where
    -- what the first tree doesn't reach the last doesn't
    gone : (c : ℕ) → count c (blocks (block_size g) d t) ≡ 0 → count c (blocks (block_size g) d t') ≡ 0
    gone c y =
        let z = tree_restored g d p n I I' t t' w v r u in
        let a : Alike (λ _. Unit {0}) (block_size g) (render (block_size g) d t) (render (block_size g) d (edit d p z.0 (λ e bs. bs) t)) = alike_edit (λ _. Unit {0}) (block_size g) d p z.0 t (λ j q. tt) in
        ap (λ (x : Tree d). count c (blocks (block_size g) d x)) z.1 ∙ ap (count c) (sym (alike_ats (λ _. Unit {0}) (block_size g) _ _ a)) ∙ y

    wiped : (c : ℕ) → Used c r → count c (blocks (block_size g) d t) ≡ 0 → Wiped (block_size g) I' c
    wiped c h y =
        let k = (good_find (block_size g) d p t v.dir w.laid.good v.there).packed in
        let l = used_data g d p n t v k c r w h in
        go (used_run g d p n c (λ e. omega (arith, (area g (length I) w.laid.sound).maps)) (λ x q. omega arith) r (gone c y))
      where
        go : ((Used c r → ⊥) × SameBlock (block_size g) I I' c) ⊎ (Used c r × Wiped (block_size g) I' c) → Wiped (block_size g) I' c
        go (inl x) = absurd (x.0 h)
        go (inr x) = x.1

    kept : (c : ℕ) → Outside g d t c → (Used c r → ⊥) → SameBlock (block_size g) I I' c
    kept c o h = go (used_run g d p n c o.not_super o.not_map r (gone c o.not_reached))
      where
        go : ((Used c r → ⊥) × SameBlock (block_size g) I I' c) ⊎ (Used c r × Wiped (block_size g) I' c) → SameBlock (block_size g) I I' c
        go (inl x) = x.1
        go (inr x) = absurd (h x.0)
