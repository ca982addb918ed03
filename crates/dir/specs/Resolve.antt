-- The way along a path on any image: directory after directory, then the last name. Definitions alone.
-- A is the data area: the size of its blocks, its first address and the volume's end.
use Rattle.std.specs.Prelude.{List, [], ◌∷◌, ℕ, Option, Some, None, Result, Ok, Err}
use Rattle.wire.specs.Pick.{pick}
use Rattle.block.specs.Block.{Area}
use Rattle.model.specs.Answers.{Reply, accepted, refused, and_then}
use Rattle.dir_entry.specs.declared.DirEntry.{DirEntry}
use Rattle.dir_entry.specs.Entry.{is_dir}
use Rattle.limits.specs.declared.Damage.{Damage}
use Rattle.read_dir.specs.declared.Placed.{Placed}
use Rattle.read_dir.specs.Walk.{walk}
use Rattle.read_dir.specs.Finds.{find_in}
use Rattle.path.specs.Path.{last_name, dir_part, steps}

-- R5, R17: f of an entry that was looked for; 5 where there is nothing of that name; damage on the walk is 17
abbrev pub on_placed : {A : Type 0} → Result (Option Placed) Damage → (Placed → Reply A) → Reply A
on_placed (Ok (Some x)) f = f x
on_placed (Ok None) f = refused 5
on_placed (Err d) f = refused 17

-- R5: an empty name is not found, and no directory is walked for it
abbrev pub on_name : {A : Type 0} → List ℕ → Reply A → Reply A
on_name [] r = refused 5
on_name (c ∷ x) r = r

-- An entry of a path's last part: the first address of the directory that holds it, and its fixed part.
pub record Held : Type 0 where
  pub dir : ℕ
  pub entry : DirEntry

abbrev pub held : ℕ → DirEntry → Held
held a e = record { dir = a; entry = e }

module _ (A : Area) (I : List ℕ) where
  -- The entry of that name in the directory whose first block is a.
  abbrev pub lookup_in : {X : Type 0} → ℕ → List ℕ → (DirEntry → Reply X) → Reply X
  lookup_in a x f = on_placed (find_in x (walk A I a)) (λ y. f y.entry)

  -- P4, R6: the first address of the directory that these names lead to from the one at a.
  unfoldable pub resolve : List (List ℕ) → ℕ → Reply ℕ
  resolve [] a = accepted a
  resolve (x ∷ xs) a = on_name x (lookup_in a x (λ e. pick (is_dir e.kind) (resolve xs e.addr.0) (refused 6)))

  -- P4: the directory of a directory part, from the root on, which begins at D.
  abbrev pub open_dir : List ℕ → Reply ℕ
  open_dir d = resolve (steps d) A.first

  -- P3, R5: the entry at the full path l; an empty last name is refused before any walk.
  unfoldable pub entry_of : List ℕ → Reply Held
  entry_of l =
      on_name (last_name l) (and_then (open_dir (dir_part l)) (λ a. lookup_in a (last_name l) (λ e. accepted (held a e))))
