-- How the search goes along a walk, and down: one law for each answer.
use mathlib.Core.Path.{◌≡◌, refl, sym, ap, ◌∙◌}
use mathlib.Core.Bool.{Bool, true, false}
use mathlib.Core.List.{List}
use Prim.Native.Nat.{ℕ, zero, suc, ◌+◌, ◌-◌, ◌<◌}
use native.Mathlib.Omega.{arith}
use lib.Dec.{eqb}
use lib.ListN.{get_or}
use Rattle.wire.specs.Be.{be}
use Rattle.wire.proofs.Picks.{not_both, pick_true, pick_false}
use Rattle.block.specs.declared.Addr.{Addr}
use Rattle.block.specs.Block.{Area}
use Rattle.dir_entry.specs.declared.Kind.{Kind}
use Rattle.dir_entry.specs.declared.Kind.TheVariants.{Dir, File, Device}
use Rattle.dir_entry.specs.declared.DirEntry.{DirEntry}
use Rattle.dir_entry.specs.Entry.{is_dir, kind_at, entry_at, place_at}
use Rattle.read_dir.specs.declared.ReadDir.{ReadDir}
use Rattle.read_dir.specs.declared.Placed.{Placed}
use Rattle.std.specs.Prelude.{Option, Some, None, Result, Ok, Err}
use Rattle.limits.specs.declared.Damage.{Damage}
use Rattle.limits.proofs.Exits.{gave_some}
use Rattle.read_dir.specs.Walk.{walk}
use Rattle.read_dir.specs.Cursor.{start, cursor_walk, on_step, Stepped, items, Over}
use Rattle.read_dir.proofs.Passes.{over_passed}
use Rattle.read_dir.proofs.Along.{start-walk, passed_less}
use Rattle.reached.specs.Reach.{if_dir, on_dir, any_in, reaches}
use Rattle.reached.specs.Passing.{PassedFiles, SteppedDir}

-- ---- at the directory itself

-- b is what code finds of it
module _ (A : Area) (I : List ℕ) (target a : ℕ) (b : Bool) (e : b ≡ eqb target a) where
  pub reach_here : (d : ℕ) → b ≡ true → true ≡ reaches A I target d a
  unfolding reaches
  reach_here zero t = sym (sym e ∙ t)
  reach_here (suc d) t = sym (pick_true true _ (sym e ∙ t))

  pub reach_last : (d : ℕ) → b ≡ false → d ≡ 0 → false ≡ reaches A I target d a
  unfolding reaches
  reach_last d t z = sym (ap (λ (k : ℕ). reaches A I target k a) z ∙ sym e ∙ t)

  -- elsewhere it is what the walk says, a level further down
  reach-walk : (d m : ℕ) → b ≡ false → (d ≡ 0 → ⊥) → m ≡ d - 1 → reaches A I target d a ≡ any_in (on_dir (reaches A I target m)) (walk A I a)
  unfolding reaches
  reach-walk d m t z l =
      let q : d ≡ suc m = omega arith in
      ap (λ (k : ℕ). reaches A I target k a) q ∙ pick_false true _ (sym e ∙ t)

-- ---- over entries that are no directory's

kind_leads : (k : Kind) (y : Bool) → is_dir k ≡ false → if_dir k y ≡ false
kind_leads Dir y z = absurd (not_both refl z)
kind_leads File y z = search
kind_leads Device y z = refl

file_leads : (I : List ℕ) (at : ℕ) (f : ℕ → Bool) (e : DirEntry) → e ≡ entry_at I at → is_dir (kind_at (get_or I at 0)) ≡ false
    → on_dir f e ≡ false
unfolding on_dir entry_at
file_leads I at f e u z = ap (on_dir f) u ∙ kind_leads (kind_at (get_or I at 0)) (f (be 4 I (at + 1))) z

pub over_files : (A : Area) (I : List ℕ) (P Q : ℕ → ℕ → Type 0) (c d : ReadDir) → Over A I P Q c d
    → ((o n : ℕ) → P o n → false ≡ is_dir (kind_at (get_or I (place_at A.size c.block.0 o) 0))) → PassedFiles A I c d
unfolding any_in
over_files A I P Q c d v t =
    record {
      all = λ f.
          over_passed A I (any_in (on_dir f)) P Q c
          (λ o n e x w p u m. pick_false true _ (file_leads I (place_at A.size c.block.0 o) f e u (sym (t o n p)))) d v;
    }

pub step_dir : (A : Area) (I : List ℕ) (c k d : ReadDir) (m : Result (Option Placed) Damage) → PassedFiles A I c k → Stepped A I k d m → SteppedDir A I c d m
step_dir A I c k d m p w = record { from = k; passed = p; stepped = w }

pub dir_less : (A : Area) (I : List ℕ) (c d : ReadDir) (m : Result (Option Placed) Damage) (o : Option Placed) (y : Placed) → SteppedDir A I c d m
    → m ≡ Ok o → o ≡ Some y → items (cursor_walk A I d) < items (cursor_walk A I c)
dir_less A I c d m o y w g q =
    passed_less A I w.from d m w.stepped (any_in (on_dir (λ _. false))) c o y (w.passed.all (λ _. false)) g q

-- ---- along the walk

-- what is found from a cursor on, d levels down
unfoldable pub rest : (A : Area) (I : List ℕ) (target d : ℕ) → ReadDir → Bool
rest A I target d c = any_in (on_dir (reaches A I target d)) (cursor_walk A I c)

module _ (A : Area) (I : List ℕ) (c k : ReadDir) (m : Result (Option Placed) Damage) (w : SteppedDir A I c k m) (target d : ℕ) (c₀ : ReadDir)
    (inv : rest A I target d c ≡ rest A I target d c₀) where
  found : (x : Result (Option Placed) Damage) → m ≡ x → any_in (on_dir (reaches A I target d)) (on_step A I k x) ≡ rest A I target d c₀
  unfolding rest
  found x g =
      sym (ap (any_in (on_dir (reaches A I target d))) (w.stepped.walked ∙ ap (on_step A I k) g))
      ∙ (w.passed.all (reaches A I target d)).says ∙ inv

  pub rest_again : (o : Option Placed) (y : Placed) → m ≡ Ok o → o ≡ Some y → on_dir (reaches A I target d) y.entry ≡ false
      → rest A I target d k ≡ rest A I target d c₀
  unfolding rest any_in
  rest_again o y g q f = sym (pick_false true _ f) ∙ found (Ok (Some y)) (gave_some g q)

  module _ (depth : ℕ) (dir : Addr) (b : c₀ ≡ start A dir) (t : Bool) (e : t ≡ eqb target dir.0) (n : t ≡ false) (z : depth ≡ 0 → ⊥) (l : d ≡ depth - 1) where
    whole : rest A I target d c₀ ≡ reaches A I target depth dir.0
    unfolding rest
    whole = ap (any_in (on_dir (reaches A I target d))) (start-walk A I c₀ dir b) ∙ sym (reach-walk A I target dir.0 t e depth d n z l)

    pub rest_hit : (o : Option Placed) (y : Placed) → m ≡ Ok o → o ≡ Some y → on_dir (reaches A I target d) y.entry ≡ true
        → true ≡ reaches A I target depth dir.0
    unfolding any_in
    rest_hit o y g q f = sym (pick_true true _ f) ∙ found (Ok (Some y)) (gave_some g q) ∙ whole

    pub rest_end : m ≡ Ok None → false ≡ reaches A I target depth dir.0
    unfolding any_in
    rest_end g = found (Ok None) g ∙ whole

    pub rest_bad : (e : Damage) → m ≡ Err e → false ≡ reaches A I target depth dir.0
    unfolding any_in
    rest_bad e g = found (Err e) g ∙ whole

-- ---- an entry

module _ (f : ℕ → Bool) (e : DirEntry) where
  pub entry_other : (e.kind ≡ Dir → ⊥) → on_dir f e ≡ false
  unfolding on_dir
  entry_other k = go e.kind refl
    where
      go : (x : Kind) → e.kind ≡ x → if_dir x (f e.addr.0) ≡ false
      go Dir q = absurd (k q)
      go File q = refl
      go Device q = refl

  pub entry_down : (r q : Bool) → e.kind ≡ Dir → r ≡ f e.addr.0 → r ≡ q → on_dir f e ≡ q
  unfolding on_dir
  entry_down r q k h g = ap (λ (x : Kind). if_dir x (f e.addr.0)) k ∙ sym h ∙ g
