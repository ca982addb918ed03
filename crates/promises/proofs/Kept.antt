-- The counter's safety: an accepted call at one path touches no file and no device at another.
use mathlib.Core.Path.{◌≡◌, refl, sym, ap, ◌∙◌, subst}
use mathlib.Core.Bool.{true}
use mathlib.Core.Logic.{◌⊎◌, inl, inr}
use mathlib.Core.Option.{Option, none, some}
use mathlib.Core.List.{List, ◌++◌, append-nil}
use Prim.Native.Nat.{ℕ, zero, suc, ◌^◌, ◌<◌}
use Rattle.model.specs.Tree.{Name, Cell, Node, sub, Entry, Below, Tree, called, lookup, Absent, insert, change, delete, Edit, edit, Some, find, blank, Bare}
use Rattle.model.specs.Geometry.{Mount, block_size, geo_at}
use Rattle.model.specs.Volume.{WellFormed, max_depth}
use Rattle.model.specs.Calls.{Vacant, file_at, DirAt, file_entry, created, dir_added, created_dir, deleted, refiled, rewritten, TreeDeletes, TreeWrites}
use Rattle.model.proofs.Dirs.{lookup-change}
use Rattle.model.proofs.Edits.{refiled_name}
use Rattle.model.proofs.Full.{good_find}
use Rattle.model.proofs.Lists.{not_some}
use Rattle.model.proofs.Others.{lookup_other}
use Rattle.thm_path.proofs.Resolves.{absent_none}
use Rattle.handle.specs.declared.Handle.{Handle}
use Rattle.handle.specs.declared.CountedOut.{CountedOut}
use Rattle.handle.specs.Handles.{name_of}
use Rattle.call_read.specs.declared.OpenOut.{OpenOut}
use Rattle.call_change.specs.Changing.{CreatesFile, CreatesDir, Deletes, Writes}
use Rattle.thm_calls.specs.Named.{way_of, last_of}
use Rattle.thm_calls.proofs.Changing.{volume_at, tree_after, create_file_tree, create_dir_tree, delete_tree, write_tree}
use Rattle.promises.specs.Sequence.{Leads}
use Rattle.promises.specs.Counter.{device_at, Untouched, Another}
use Rattle.promises.proofs.Files.{as_file, as_device, file_is, device_is, not_file, not_device, cells_shown, cells_same}
use Rattle.promises.proofs.Gone.{deleted_absent}
use Rattle.promises.proofs.Lookups.{called_own, lookup-inserted, lookup-insert_other, lookup-delete_other}
use Rattle.promises.proofs.Others.{Hollow, read_at, read_other, read_edit}
use Rattle.std.specs.Prelude.{Result, Ok}
use Rattle.limits.specs.declared.Refusal.{Refusal}

-- ---- an edit of one directory, by the name n

same_some : {A : Type 0} (a b : A) → some a ≡ some b → a ≡ b
same_some a b e = cc

-- nothing is there by n, or one entry that is bare
none_hollow : (d : ℕ) (n : Name) (t : Tree d) → lookup n t ≡ none → Hollow d n t
none_hollow d n t h e l = absurd (not_some h l)

bare_hollow : (d : ℕ) (n : Name) (t : Tree d) (x : Entry (Below d)) → lookup n t ≡ some x → Bare d x.node → Hollow d n t
bare_hollow d n t x h b e l = subst (λ (y : Entry (Below d)). Bare d y.node) (same_some x e (sym h ∙ l)) b

-- What an edit of the directory s at the path p makes of it: only the entry n differs, and is no directory with entries before or after.
record Local (p : List Name) (n : Name) (t : Tree max_depth) (f : Edit) : Type 0 where
  dir : Some
  there : find max_depth p t ≡ some dir
  others : (a : Name) → (n ≡ a → ⊥) → lookup a (f dir.0 dir.1) ≡ lookup a dir.1
  before : Hollow dir.0 n dir.1
  after : Hollow dir.0 n (f dir.0 dir.1)

-- It reads the same at every other path.
edit_read : {R : Type 0} (r : (X : Type 0) → ℕ → Node X → Option R) → ((X : Type 0) (k : ℕ) (x : X) → r X k (sub x) ≡ none)
    → (p : List Name) (n : Name) (t : Tree max_depth) (g : ℕ → ℕ) (f : Edit) → Local p n t f
    → (q : List Name) (m : Name) → (p ≡ q → n ≡ m → ⊥) → read_at r m max_depth q (edit max_depth p g f t) ≡ read_at r m max_depth q t
edit_read r leaf p n t g f c q m x = read_edit r m leaf max_depth p q g f t at
  where
    at : (s : Some) (u : List Name) → find max_depth p t ≡ some s → q ≡ p ++ u → read_at r m s.0 u (f s.0 s.1) ≡ read_at r m s.0 u s.1
    at s u h j =
        subst (λ (s : Some). read_at r m s.0 u (f s.0 s.1) ≡ read_at r m s.0 u s.1) (same_some c.dir s (sym c.there ∙ h))
        (read_other r m c.dir.0 n c.dir.1 (f c.dir.0 c.dir.1) c.others c.before c.after u
        (λ e k. x (sym (j ∙ ap (λ (l : List Name). p ++ l) e ∙ append-nil p)) k))

-- So such an edit touches nothing there.
module _ (M : Mount) (I J : List ℕ) (w : WellFormed M I) (v : WellFormed M J) (q : List Name) (m : Name) where
  untouched : file_at max_depth q m v.tree ≡ file_at max_depth q m w.tree → device_at max_depth q m v.tree ≡ device_at max_depth q m w.tree
      → Untouched (block_size (geo_at M I)) max_depth w.tree v.tree I J q m
  untouched f d =
      record {
        same_file = f;
        same_device = d;
        same_bytes = λ z k cs h b i l r. cells_same (block_size (geo_at M I)) I J cs
            (cells_shown (geo_at M I) I max_depth w.tree _ (volume_at M I w).laid q m z k cs h)
            (cells_shown (geo_at M J) J max_depth v.tree _ (volume_at M J v).laid q m z k cs (still z k cs h)) b i (search l) r;
      }
    where
      still : (z k : ℕ) (cs : List Cell) → (file_at max_depth q m w.tree ≡ some (z, k, cs)) ⊎ (device_at max_depth q m w.tree ≡ some (z, k, cs))
          → (file_at max_depth q m v.tree ≡ some (z, k, cs)) ⊎ (device_at max_depth q m v.tree ≡ some (z, k, cs))
      still z k cs (inl e) = inl (f ∙ e)
      still z k cs (inr e) = inr (d ∙ e)

  edit_untouched : (p : List Name) (n : Name) (g : ℕ → ℕ) (f : Edit) → Local p n w.tree f → v.tree ≡ edit max_depth p g f w.tree → (p ≡ q → n ≡ m → ⊥)
      → Untouched (block_size (geo_at M I)) max_depth w.tree v.tree I J q m
  edit_untouched p n g f c e x =
      untouched
      (ap (file_at max_depth q m) e ∙ file_is max_depth q m _ ∙ edit_read as_file not_file p n w.tree g f c q m x ∙ sym (file_is max_depth q m w.tree))
      (ap (device_at max_depth q m) e ∙ device_is max_depth q m _ ∙ edit_read as_device not_device p n w.tree g f c q m x ∙ sym (device_is max_depth q m w.tree))

-- ---- each call is such an edit

-- a write
module _ (M : Mount) (I W : List ℕ) (h : Handle) (buf : List ℕ) (now : ℕ) (o : CountedOut) (J Z : List ℕ) (c : Writes M I W h buf now o J Z) (k : ℕ)
    (e : o.answer ≡ Ok k) (clock : now < 2 ^ 64) (w : WellFormed M I) (v : WellFormed M J) (q : List Name) (m : Name) where
  write_local : (p : List Name) (z : ℕ) (cs : List Cell) → TreeWrites (geo_at M I) max_depth p (name_of h) now h.position buf w.tree I J
      → Local p (name_of h) w.tree (λ _ bs. change (name_of h) (λ x. refiled now z cs x.name x.time x.node) bs)
  unfolding file_entry refiled
  write_local p z cs a =
      let n : Name = name_of h in
      let s : Some = a.occupied.dir in
      record {
        dir = s;
        there = a.occupied.there;
        others = λ b d. lookup_other n b d (λ x. refiled now z cs x.name x.time x.node) (λ x. refiled_name now z cs x.name x.time x.node) s.1;
        before = bare_hollow s.0 n s.1 a.occupied.entry a.occupied.held (subst (λ (y : Entry (Below s.0)). Bare s.0 y.node) (sym a.is_file) tt);
        after = bare_hollow s.0 n (change n (λ x. refiled now z cs x.name x.time x.node) s.1) _
            (lookup-change n (λ x. refiled now z cs x.name x.time x.node) (λ x. refiled_name now z cs x.name x.time x.node) s.1 a.occupied.entry a.occupied.held)
            (subst (λ (y : Entry (Below s.0)). Bare s.0 (refiled now z cs y.name y.time y.node).node) (sym a.is_file) tt);
      }

  -- S3, of a write
  pub write_others : Another max_depth w.tree h q m → Untouched (block_size (geo_at M I)) max_depth w.tree v.tree I J q m
  unfolding rewritten
  write_others x =
      let a = write_tree M I W h buf now o J Z c k w clock e in
      edit_untouched M I J w v q m a.0 (name_of h) (λ j. j) _ (write_local a.0 _ _ a.2) (tree_after M I J w _ _ a.2.makes v)
      (λ y z. x (subst (λ (p : List Name). DirAt max_depth h.dir.0 p w.tree) y a.1) z)

-- create and delete
module _ (M : Mount) (I W cwd p : List ℕ) (now : ℕ) where
  module _ (o : OpenOut) (J Z : List ℕ) (c : CreatesFile M I W cwd p now o J Z) (e : o.answer ≡ Ok tt) (clock : now < 2 ^ 64)
      (w : WellFormed M I) (v : WellFormed M J) (q : List Name) (m : Name) where
    file_local : (cap x z : ℕ) (cs : List Cell) → Vacant max_depth (way_of cwd p) (last_of cwd p) w.tree
        → Local (way_of cwd p) (last_of cwd p) w.tree (λ _ bs. insert cap x (file_entry (last_of cwd p) now z cs) bs)
    unfolding file_entry
    file_local cap x z cs a =
        let n : Name = last_of cwd p in
        let s : Some = a.dir in
        let new : called n (file_entry {X = Below s.0} n now z cs) ≡ true = called_own n (file_entry n now z cs) refl in
        record {
          dir = s;
          there = a.there;
          others = lookup-insert_other cap x n (file_entry n now z cs) new s.1;
          before = none_hollow s.0 n s.1 (absent_none n s.1 a.free);
          after = bare_hollow s.0 n _ (file_entry n now z cs) (lookup-inserted cap x n (file_entry n now z cs) new s.1 a.free) tt;
        }

    pub create_file_others : (Leads q m cwd p → ⊥) → Untouched (block_size (geo_at M I)) max_depth w.tree v.tree I J q m
    unfolding created
    create_file_others x =
        let a = create_file_tree M I W cwd p now J Z o c w clock e in
        edit_untouched M I J w v q m (way_of cwd p) (last_of cwd p) (λ _. now) _ (file_local _ _ _ _ a.vacant) (tree_after M I J w _ _ a.makes v)
        (λ y z. x (record { way = y; last = z }))

  module _ (r : Result (Unit {0}) Refusal) (J Z : List ℕ) (c : CreatesDir M I W cwd p now r J Z) (e : r ≡ Ok tt) (clock : now < 2 ^ 64)
      (w : WellFormed M I) (v : WellFormed M J) (q : List Name) (m : Name) where
    dir_others : (cap x y : ℕ) (n : Name) (d : ℕ) (t : Tree d) (a : Name) → (n ≡ a → ⊥) → lookup a (dir_added cap x y n now d t) ≡ lookup a t
    unfolding dir_added
    dir_others cap x y n zero t a h = refl
    dir_others cap x y n (suc d) t a h = lookup-insert_other cap x n (record { name = n; time = now; node = sub (blank d y) }) (called_own n _ refl) t a h

    dir_hollow : (cap x y : ℕ) (n : Name) (d : ℕ) (t : Tree d) → Absent n t → Hollow d n (dir_added cap x y n now d t)
    unfolding dir_added blank
    dir_hollow cap x y n zero t a = none_hollow zero n t (absent_none n t a)
    dir_hollow cap x y n (suc d) t a =
        let new : Entry (Tree d) = record { name = n; time = now; node = sub (blank d y) } in
        bare_hollow (suc d) n (insert cap x new t) new (lookup-inserted cap x n new (called_own n new refl) t a) (refl, tt)

    dir_local : (cap x y : ℕ) → Vacant max_depth (way_of cwd p) (last_of cwd p) w.tree → Local (way_of cwd p) (last_of cwd p) w.tree (dir_added cap x y (last_of cwd p) now)
    dir_local cap x y a =
        let n : Name = last_of cwd p in
        let s : Some = a.dir in
        record {
          dir = s;
          there = a.there;
          others = dir_others cap x y n s.0 s.1;
          before = none_hollow s.0 n s.1 (absent_none n s.1 a.free);
          after = dir_hollow cap x y n s.0 s.1 a.free;
        }

    pub create_dir_others : (Leads q m cwd p → ⊥) → Untouched (block_size (geo_at M I)) max_depth w.tree v.tree I J q m
    unfolding created_dir
    create_dir_others x =
        let a = create_dir_tree M I W cwd p now J Z r c w clock e in
        edit_untouched M I J w v q m (way_of cwd p) (last_of cwd p) (λ _. now) _ (dir_local _ _ _ a.vacant) (tree_after M I J w _ _ a.makes v)
        (λ y z. x (record { way = y; last = z }))

  module _ (r : Result (Unit {0}) Refusal) (J Z : List ℕ) (c : Deletes M I W cwd p now r J Z) (e : r ≡ Ok tt) (clock : now < 2 ^ 64)
      (w : WellFormed M I) (v : WellFormed M J) (q : List Name) (m : Name) where
    delete_local : TreeDeletes (geo_at M I) max_depth (way_of cwd p) (last_of cwd p) now w.tree I J → Local (way_of cwd p) (last_of cwd p) w.tree (λ _ bs. delete (last_of cwd p) bs)
    delete_local a =
        let n : Name = last_of cwd p in
        let s : Some = a.occupied.dir in
        let g = good_find (block_size (geo_at M I)) max_depth (way_of cwd p) w.tree s (volume_at M I w).laid.good a.occupied.there in
        record {
          dir = s;
          there = a.occupied.there;
          others = λ b d. lookup-delete_other n b d s.1;
          before = bare_hollow s.0 n s.1 a.occupied.entry a.occupied.held a.bare;
          after = none_hollow s.0 n (delete n s.1) (absent_none n (delete n s.1) (deleted_absent n s.1 (g.distinct n)));
        }

    pub delete_others : (Leads q m cwd p → ⊥) → Untouched (block_size (geo_at M I)) max_depth w.tree v.tree I J q m
    unfolding deleted
    delete_others x =
        let a = delete_tree M I W cwd p now J Z r c w clock e in
        edit_untouched M I J w v q m (way_of cwd p) (last_of cwd p) (λ _. now) (λ _ bs. delete (last_of cwd p) bs) (delete_local a) (tree_after M I J w _ _ a.makes v)
        (λ y z. x (record { way = y; last = z }))
