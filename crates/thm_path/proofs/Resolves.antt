-- The way along a path leads where the tree's path leads, and stops as the tree says.
use mathlib.Core.Path.{◌≡◌, refl, sym, ap, ◌∙◌, subst}
use mathlib.Core.Logic.{◌⊎◌, inl, inr}
use mathlib.Core.Option.{Option, none, some}
use mathlib.Core.List.{List, [], ◌∷◌}
use Prim.Native.Nat.{ℕ, zero, suc}
use native.Mathlib.Omega.{arith}
use lib.ListN.{length}
use Rattle.wire.specs.Pick.{pick}
use Rattle.wire.proofs.Picks.{same_eq}
use Rattle.model.specs.Answers.{Reply, accepted, refused, and_then}
use Rattle.model.specs.Tree.{Name, Node, file, device, sub, Entry, Block, Below, Tree, then, entries_of, called, holds, first, Absent, lookup, inside, Some, find}
use Rattle.model.specs.Render.{View, blocks_at, address_of, view}
use Rattle.model.specs.Geometry.{area_of, Geo, block_size, data_at}
use Rattle.model.specs.Volume.{GoodBelow, Laid}
use Rattle.model.proofs.Full.{good_lookup, good_find}
use Rattle.model.proofs.Lists.{not_some, first_none, first_passes}
use Rattle.model.proofs.Reached.{lookup_entries}
use Rattle.dir_entry.specs.declared.DirEntry.{DirEntry}
use Rattle.dir_entry.specs.Entry.{is_dir}
use Rattle.dir_entry.specs.Shown.{kind_is, head_of}
use Rattle.read_dir.specs.Finds.{find_in}
use Rattle.path.specs.Path.{last_name, dir_part, steps}
use Rattle.dir.specs.Resolve.{on_placed, on_name, Held, lookup_in, resolve, entry_of}
use Rattle.dir.proofs.Answers.{name_some}
use Rattle.thm_walk.proofs.Parts.{Part, laid_part, part_sub}
use Rattle.thm_walk.proofs.Walks.{part_walk}
use Rattle.thm_path.specs.Shown.{on_node, on_entry, way_to}
use Rattle.thm_path.proofs.Finds.{Looked, lookup_or, walk_finds, walk_misses, find_is, find-missing}

-- ---- names

module _ {X : Type 0} (n : Name) where
  -- the entry of a name has that name
  pub lookup_name : (bs : List (Block X)) (e : Entry X) → lookup n bs ≡ some e → n ≡ e.name
  lookup_name bs e l = same_eq n e.name (unfold called in first_passes (called n) (entries_of bs) e (sym (lookup_entries n bs) ∙ l))

  -- an absent name gives none
  pub absent_none : (bs : List (Block X)) → Absent n bs → lookup n bs ≡ none
  unfolding lookup then
  absent_none bs a = ap (λ (o : Option (Block X)). then o (λ b. first (called n) b.entries)) (first_none (holds n) bs a)

-- ---- in the tree

-- The way and the tree's path agree: both give the directory, or the way stops with 5 or 6 and there is none.
pub data Agree (r : Reply Some) (o : Option Some) : Type 0 where
  leads : (s : Some) → r ≡ accepted s → o ≡ some s → Agree r o
  stops : (k : ℕ) → r ≡ refused k → o ≡ none → (k ≡ 5) ⊎ (k ≡ 6) → Agree r o

-- an entry on the way
module _ {X : Type 0} (f : X → Reply Some) (h : X → Option Some) (below : (x : X) → Agree (f x) (h x)) where
  agree_node : (x : Node X) → Agree (on_node f x) (inside h x)
  unfolding on_node inside
  agree_node (file z cs) = stops 6 (search) refl (inr refl)
  agree_node (device z cs) = stops 6 refl refl (inr refl)
  agree_node (sub x) = below x

  agree_entry : (o : Option (Entry X)) → Agree (on_entry f o) (then o (λ e. inside h e.node))
  unfolding on_entry then
  agree_entry none = stops 5 refl refl (inl refl)
  agree_entry (some e) = agree_node e.node

-- at the last level
last_node : (x : Node ⊥) → Agree (on_node (λ y. absurd y) x) none
unfolding on_node
last_node (file z cs) = stops 6 refl refl (inr refl)
last_node (device z cs) = stops 6 refl refl (inr refl)
last_node (sub x) = absurd x

last_entry : (o : Option (Entry ⊥)) → Agree (on_entry (λ y. absurd y) o) none
unfolding on_entry
last_entry none = stops 5 refl refl (inl refl)
last_entry (some e) = last_node e.node

pub way_agrees : (d : ℕ) (p : List Name) (t : Tree d) → Agree (way_to d p t) (find d p t)
unfolding way_to find
way_agrees zero [] t = leads (zero, t) refl refl
way_agrees (suc d) [] t = leads (suc d, t) refl refl
way_agrees zero (n ∷ p) t = last_entry (lookup n t)
way_agrees (suc d) (n ∷ p) t = agree_entry (way_to d p) (find d p) (way_agrees d p) (lookup n t)

-- ---- on an image that holds the tree

-- the answer for a directory of the tree: its first address
abbrev pub starts : Reply Some → Reply ℕ
starts r = and_then r (λ s. accepted (blocks_at s.1))

module _ (g : Geo) (I : List ℕ) where
  -- the way from a directory at a, by these names
  abbrev onward : List Name → ℕ → Reply ℕ
  onward p a = resolve (area_of g) I p a

  -- what is done with an entry that is found
  abbrev enter : List Name → DirEntry → Reply ℕ
  enter p e = pick (is_dir e.kind) (onward p e.addr.0) (refused 6)

  -- a name that is there, and one that is not
  resolve_here : (d : ℕ) (t : Tree d) (n : Name) (p : List Name) (e : Entry (Below d)) → Part g I d t → lookup n t ≡ some e
      → onward (n ∷ p) (blocks_at t) ≡ enter p (head_of (view (block_size g) d) e)
  unfolding resolve
  resolve_here d t [] p e a l =
      absurd (omega (arith, (good_lookup (block_size g) (GoodBelow (block_size g) d) [] t e a.good l).good_name.some_bytes, ap length (lookup_name [] t e l)))
  resolve_here d t (c ∷ n) p e a l =
      ap (λ (r : Looked). on_placed r (λ y. enter p y.entry)) (ap (find_in (c ∷ n)) (part_walk g I d t a) ∙ walk_finds (c ∷ n) (view (block_size g) d) t e l)

  resolve_not : (d : ℕ) (t : Tree d) (n : Name) (p : List Name) → Part g I d t → Absent n t → onward (n ∷ p) (blocks_at t) ≡ refused 5
  unfolding resolve
  resolve_not d t [] p a l = refl
  resolve_not d t (c ∷ n) p a l =
      ap (λ (r : Looked). on_placed r (λ y. enter p y.entry)) (ap (find_in (c ∷ n)) (part_walk g I d t a) ∙ walk_misses (c ∷ n) (view (block_size g) d) t l)

  -- a node, where it is known for a subdirectory
  enter_node : {X : Type 0} (v : View X) (p : List Name) (f : X → Reply Some) (x : Node X) → ((y : X) → x ≡ sub y → onward p (v.from y) ≡ starts (f y))
      → pick (is_dir (kind_is x)) (onward p (address_of v x)) (refused 6) ≡ starts (on_node f x)
  unfolding on_node address_of and_then pick
  enter_node v p f (file z cs) h = refl
  enter_node v p f (device z cs) h = refl
  enter_node v p f (sub y) h = h y refl

  -- one step
  step : (d : ℕ) (t : Tree d) (n : Name) (p : List Name) (f : Below d → Reply Some) → Part g I d t
      → ((e : Entry (Below d)) → lookup n t ≡ some e → enter p (head_of (view (block_size g) d) e) ≡ starts (on_node f e.node))
      → onward (n ∷ p) (blocks_at t) ≡ starts (on_entry f (lookup n t))
  unfolding on_entry and_then
  step d t n p f a h = go (lookup_or n t)
    where
      go : ((e : Entry (Below d)) × (lookup n t ≡ some e)) ⊎ Absent n t → onward (n ∷ p) (blocks_at t) ≡ starts (on_entry f (lookup n t))
      go (inl r) = resolve_here d t n p r.0 a r.1 ∙ h r.0 r.1 ∙ ap (λ (o : Option (Entry (Below d))). starts (on_entry f o)) (sym r.1)
      go (inr r) = resolve_not d t n p a r ∙ ap (λ (o : Option (Entry (Below d))). starts (on_entry f o)) (sym (absent_none n t r))

  -- what an entry leads to, where it is known for a subdirectory
  enter_is : {X : Type 0} (v : View X) (p : List Name) (f : X → Reply Some) (e : Entry X) → ((y : X) → e.node ≡ sub y → onward p (v.from y) ≡ starts (f y))
      → enter p (head_of v e) ≡ starts (on_node f e.node)
  unfolding head_of
  enter_is v p f e h = enter_node v p f e.node h

  -- The way from a directory that the image holds is the tree's.
  resolve_part : (d : ℕ) (p : List Name) (t : Tree d) → Part g I d t
      → resolve (area_of g) I p (blocks_at t) ≡ starts (way_to d p t)
  unfolding way_to resolve and_then view
  resolve_part zero [] t a = refl
  resolve_part (suc d) [] t a = refl
  resolve_part zero (n ∷ p) t a = step zero t n p (λ y. absurd y) a (λ e l. enter_is (view (block_size g) zero) p (λ y. absurd y) e (λ y k. absurd y))
  resolve_part (suc d) (n ∷ p) t a =
      step (suc d) t n p (way_to d p) a (λ e l. enter_is (view (block_size g) (suc d)) p (way_to d p) e (λ y k. resolve_part d p y (part_sub g I d t n e y a l k)))

-- ---- on a volume

module _ (g : Geo) (I : List ℕ) (d : ℕ) (t : Tree d) (u : ℕ) (p : List Name) (l : Laid g I d t u) where
  -- From the root, which begins at D, a path leads where the tree says, and stops with the tree's number.
  pub resolve_way : resolve (area_of g) I p (data_at g) ≡ starts (way_to d p t)
  resolve_way = ap (resolve (area_of g) I p) (sym l.root) ∙ resolve_part g I d p t (laid_part g I d t u l)

  -- The directory at a path is the one that the path leads to.
  pub resolve_is : (s : Some) → find d p t ≡ some s → resolve (area_of g) I p (data_at g) ≡ accepted (blocks_at s.1)
  unfolding and_then
  resolve_is s f = go (way_agrees d p t)
    where
      go : Agree (way_to d p t) (find d p t) → resolve (area_of g) I p (data_at g) ≡ accepted (blocks_at s.1)
      go (leads r a b) = let k : r ≡ s = cc in resolve_way ∙ ap starts (a ∙ ap (λ (z : Some). accepted z) k)
      go (stops k a b c) = absurd (not_some b f)

  -- An address that a path leads to is that of the directory there.
  pub resolved_is : (a : ℕ) → resolve (area_of g) I p (data_at g) ≡ accepted a → (s : Some) × (find d p t ≡ some s) × (blocks_at s.1 ≡ a)
  unfolding and_then
  resolved_is a h = go (way_agrees d p t)
    where
      go : Agree (way_to d p t) (find d p t) → (s : Some) × (find d p t ≡ some s) × (blocks_at s.1 ≡ a)
      go (leads s r b) = let e : accepted (blocks_at s.1) ≡ accepted a = sym (resolve_way ∙ ap starts r) ∙ h in let k : blocks_at s.1 ≡ a = cc in (s, b, k)
      go (stops k r b c) = let e : refused k ≡ accepted a = sym (resolve_way ∙ ap starts r) ∙ h in let z : ◌≡◌ {A = ℕ} 0 1 = cc in absurd (omega arith)

  -- A path that stops gives 5 or 6, never 17, and there is no directory there.
  pub unresolved_is : (k : ℕ) → resolve (area_of g) I p (data_at g) ≡ refused k → (find d p t ≡ none) × ((k ≡ 5) ⊎ (k ≡ 6))
  unfolding and_then
  unresolved_is k h = go (way_agrees d p t)
    where
      go : Agree (way_to d p t) (find d p t) → (find d p t ≡ none) × ((k ≡ 5) ⊎ (k ≡ 6))
      go (leads s r b) = let e : accepted (blocks_at s.1) ≡ refused k = sym (resolve_way ∙ ap starts r) ∙ h in let z : ◌≡◌ {A = ℕ} 0 1 = cc in absurd (omega arith)
      go (stops j r b c) =
          let e : ◌≡◌ {A = Reply ℕ} (refused j) (refused k) = sym (resolve_way ∙ ap starts r) ∙ h in let z : j ≡ k = cc in (b, subst (λ (i : ℕ). (i ≡ 5) ⊎ (i ≡ 6)) z c)

-- ---- the entry at a full path

name_either : {A : Type 0} (n : Name) (r : Reply A) → r ≡ refused 5 → on_name n r ≡ refused 5
name_either [] r e = refl
name_either (c ∷ n) r e = e

module _ (g : Geo) (I : List ℕ) (d : ℕ) (t : Tree d) (u : ℕ) (q : List ℕ) (l : Laid g I d t u) where
  -- the entry of q's last name in the directory at a
  abbrev last_in : ℕ → Reply Held
  last_in a = lookup_in (area_of g) I a (last_name q) (λ e. accepted (record { dir = a; entry = e }))

  -- What the tree has at the path is found there,
  pub entry_is : (s : Some) (e : Entry (Below s.0)) → find d (steps (dir_part q)) t ≡ some s → lookup (last_name q) s.1 ≡ some e
      → entry_of (area_of g) I q ≡ accepted (record { dir = blocks_at s.1; entry = head_of (view (block_size g) s.0) e })
  unfolding entry_of and_then
  entry_is s e f k =
      let m = (good_lookup (block_size g) (GoodBelow (block_size g) s.0) (last_name q) s.1 e (good_find (block_size g) d (steps (dir_part q)) t s l.good f) k).good_name.some_bytes in
      let j : length (last_name q) ≡ length e.name = ap length (lookup_name (last_name q) s.1 e k) in
      name_some (last_name q) _ (λ z. omega arith)
      ∙ ap (λ (r : Reply ℕ). and_then r last_in) (resolve_is g I d t u (steps (dir_part q)) l s f)
      ∙ ap (λ (r : Looked). on_placed r (λ x. accepted (record { dir = blocks_at s.1; entry = x.entry }))) (find_is g I d t u (steps (dir_part q)) s l f (last_name q) e k)

  -- a name that the directory has not gives 5,
  pub entry_missing : (s : Some) → find d (steps (dir_part q)) t ≡ some s → Absent (last_name q) s.1 → entry_of (area_of g) I q ≡ refused 5
  unfolding entry_of and_then
  entry_missing s f k =
      name_either (last_name q) _ (ap (λ (r : Reply ℕ). and_then r last_in) (resolve_is g I d t u (steps (dir_part q)) l s f)
      ∙ ap (λ (r : Looked). on_placed r (λ x. accepted (record { dir = blocks_at s.1; entry = x.entry }))) (find-missing g I d t u (steps (dir_part q)) s l f (last_name q) k))

  -- and a way that stops gives its number, but for an empty last name.
  pub entry_stops : (k : ℕ) → way_to d (steps (dir_part q)) t ≡ refused k → entry_of (area_of g) I q ≡ on_name (last_name q) (refused k)
  unfolding entry_of and_then
  entry_stops k w = ap (λ (r : Reply ℕ). on_name (last_name q) (and_then r last_in)) (resolve_way g I d t u (steps (dir_part q)) l ∙ ap starts w)
