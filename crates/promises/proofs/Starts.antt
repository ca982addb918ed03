-- A write changes no directory's place: each starts where it did, at the same path.
use mathlib.Core.Path.{◌≡◌, refl, sym, ap, ◌∙◌}
use mathlib.Core.Option.{Option, none, some}
use mathlib.Core.List.{List, [], ◌∷◌}
use Prim.Native.Nat.{ℕ, zero, suc}
use Rattle.model.specs.Tree.{Name, Cell, Node, file, device, sub, Entry, Tree, then, lookup, change, renewed, at_end, edit, inside}
use Rattle.model.specs.Tree.{Some, find}
use Rattle.model.specs.Render.{blocks_at}
use Rattle.model.specs.Calls.{DirAt, refiled, rewritten}
use Rattle.model.proofs.Alike.{change_at}
use Rattle.model.proofs.Cuts.{edit_below_at}
use Rattle.model.proofs.Edits.{renewed_name, refiled_name}
use Rattle.model.proofs.Lists.{not_some, then_some}
use Rattle.promises.proofs.Others.{lookup_kept, renew_inside}

-- where the directory at a path starts
abbrev start_at : (d : ℕ) → List Name → Tree d → Option ℕ
start_at d q t = then (find d q t) (λ s. some (blocks_at s.1))

start-nil : (d : ℕ) (t : Tree d) → start_at d [] t ≡ some (blocks_at t)
unfolding find then
start-nil zero t = refl
start-nil (suc d) t = refl

start-cons : (d : ℕ) (a : Name) (q : List Name) (t : Tree (suc d))
    → start_at (suc d) (a ∷ q) t ≡ then (lookup a t) (λ e. inside (start_at d q) e.node)
unfolding find then inside
start-cons d a q t = go (lookup a t)
  where
    into : (x : Node (Tree d)) → then (inside (find d q) x) (λ s. some (blocks_at s.1)) ≡ inside (start_at d q) x
    into (file z cs) = refl
    into (device z cs) = refl
    into (sub y) = refl

    go : (x : Option (Entry (Tree d))) → then (then x (λ e. inside (find d q) e.node)) (λ s. some (blocks_at s.1))
        ≡ then x (λ e. inside (start_at d q) e.node)
    go none = refl
    go (some e) = into e.node

module _ (n : Name) (now z : ℕ) (cs : List Cell) where
  abbrev refile : {X : Type 0} → Entry X → Entry X
  refile x = refiled now z cs x.name x.time x.node

  -- a file's renewal keeps every directory
  refiled_inside : {X R : Type 0} (o : X → Option R) (m : Name) (k : ℕ) (x : Node X)
      → inside o (refiled now z cs m k x).node ≡ inside o x
  unfolding refiled inside
  refiled_inside o m k (file y ds) = refl
  refiled_inside o m k (device y ds) = refl
  refiled_inside o m k (sub y) = refl

  start-change : (d : ℕ) (t : Tree d) → start_at d [] (change n refile t) ≡ start_at d [] t
  start-change d t = start-nil d (change n refile t) ∙ ap (λ (b : ℕ). some b) (change_at n refile t) ∙ sym (start-nil d t)

  start-edit : (d : ℕ) (p q : List Name) (t : Tree d)
      → start_at d q (edit d p (λ k. k) (λ e bs. change n refile bs) t) ≡ start_at d q t
  unfolding edit find renewed inside
  start-edit zero [] [] t = start-change zero t
  start-edit zero [] (a ∷ q) t = refl
  start-edit zero (b ∷ p) q t = refl
  start-edit (suc d) [] [] t = start-change (suc d) t
  start-edit (suc d) [] (a ∷ q) t =
      start-cons d a q _
      ∙ lookup_kept n a refile (λ x. refiled_name now z cs x.name x.time x.node) (λ e. inside (start_at d q) e.node) t
      (λ e l k. refiled_inside (start_at d q) e.name e.time e.node)
      ∙ sym (start-cons d a q t)
  start-edit (suc d) (b ∷ p) [] t =
      start-nil (suc d) _
      ∙ ap (λ (x : ℕ). some x) (edit_below_at (suc d) b p (λ k. k) (λ e bs. change n refile bs) t)
      ∙ sym (start-nil (suc d) t)
  start-edit (suc d) (b ∷ p) (a ∷ q) t =
      start-cons d a q _
      ∙ lookup_kept b a (renewed (edit d p (λ k. k) (λ e bs. change n refile bs)) (at_end p (λ k. k))) (renewed_name _ _)
      (λ e. inside (start_at d q) e.node) t
      (λ e l k. renew_inside (start_at d q) (edit d p (λ k. k) (λ e bs. change n refile bs)) (at_end p (λ k. k)) e.name e.time
      e.node (λ y i. start-edit d p q y))
      ∙ sym (start-cons d a q t)

start_dir : (d a : ℕ) (q : List Name) (t : Tree d) → start_at d q t ≡ some a → DirAt d a q t
unfolding then
start_dir d a q t h = go (find d q t) refl h
  where
    go : (o : Option Some) → find d q t ≡ o → then o (λ s. some (blocks_at s.1)) ≡ some a → DirAt d a q t
    go none f e = absurd (not_some refl e)
    go (some s) f e = record { dir = s; there = f; starts = cc }

-- A directory that is there before a write is there after it.
pub dir_stays : (d a : ℕ) (p q : List Name) (n : Name) (now z : ℕ) (cs : List Cell) (t : Tree d) → DirAt d a q t
    → DirAt d a q (rewritten d p n now z cs t)
unfolding rewritten
dir_stays d a p q n now z cs t s =
    start_dir d a q _ (start-edit n now z cs d p q t ∙ then_some (λ x. some (blocks_at x.1)) s.there
    ∙ ap (λ (b : ℕ). some b) s.starts)
