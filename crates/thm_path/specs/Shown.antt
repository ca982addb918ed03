-- What the names of a path lead to in the tree. Definitions alone.
use Rattle.std.proofs.Math.Option.{Option, none, some}
use Rattle.std.specs.Prelude.{List, [], ◌∷◌, ℕ, zero, suc}
use Rattle.model.specs.Answers.{Reply, accepted, refused}
use Rattle.model.specs.Tree.{Name, Node, file, device, sub, Entry, Tree, lookup, Some}

-- f of what a subdirectory is; 6 for a file or a device, and 5 where there is no entry.
unfoldable pub on_node : {X A : Type 0} → (X → Reply A) → Node X → Reply A
on_node f (file s cs) = refused 6
on_node f (device s cs) = refused 6
on_node f (sub x) = f x

unfoldable pub on_entry : {X A : Type 0} → (X → Reply A) → Option (Entry X) → Reply A
on_entry f none = refused 5
on_entry f (some e) = on_node f e.node

-- P4: what the names of a path lead to from a directory of d levels: 5 where one is missing, 6 where it is no directory's.
unfoldable pub way_to : (d : ℕ) → List Name → Tree d → Reply Some
way_to d [] t = accepted (d, t)
way_to zero (n ∷ p) t = on_entry (λ x. absurd x) (lookup n t)
way_to (suc d) (n ∷ p) t = on_entry (way_to d p) (lookup n t)
