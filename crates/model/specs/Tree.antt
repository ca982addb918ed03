-- 1. A volume as a tree, and the edits of one directory and at a path. Definitions alone.
use Rattle.std.specs.Prelude.{◌≡◌, Bool, true, false, List, [], ◌∷◌, ◌++◌, ℕ, zero, suc, ◌+◌, ◌≤◌, leb, length}
use Rattle.std.proofs.Math.Option.{Option, none, some}
use Rattle.wire.specs.Pick.{pick, same}

-- ---- the tree

-- W3: a list of bytes; which ones are names says `GoodName` in Volume.
abbrev pub Name : Type 0
Name = List ℕ

-- F8: a block of a file or a device, its address and its data bytes. The next address follows from the chain.
pub record Cell : Type 0 where
  pub at : ℕ
  pub body : List ℕ

-- F9: what an entry stands for, by its kind, where X is what a subdirectory is.
-- A file and a device have a size and blocks. A subdirectory's size is no part of it, since it is a sum.
pub data Node (X : Type 0) : Type 0 where
  file : ℕ → List Cell → Node X
  device : ℕ → List Cell → Node X
  sub : X → Node X

-- F9: an entry is its name, its time and what it stands for; kind, address and size follow from that.
pub record Entry (X : Type 0) : Type 0 where
  pub name : Name
  pub time : ℕ
  pub node : Node X

-- F11: a directory's block: its address and its entries in order.
pub record Block (X : Type 0) : Type 0 where
  pub at : ℕ
  pub entries : List (Entry X)

-- W4: what may be below a directory with d levels left, and such a directory, its blocks in chain order. So no tree is too deep.
abbrev pub Below : ℕ → Type 0
Below zero = ⊥
Below (suc d) = List (Block (Below d))

abbrev pub Tree : ℕ → Type 0
Tree d = List (Block (Below d))

-- ---- lists

-- is there one that passes; the first that does; the list with h of it in its place; the list without it
unfoldable pub any : {A : Type 0} → (A → Bool) → List A → Bool
any q [] = false
any q (x ∷ xs) = pick (q x) true (any q xs)

unfoldable pub first : {A : Type 0} → (A → Bool) → List A → Option A
first q [] = none
first q (x ∷ xs) = pick (q x) (some x) (first q xs)

unfoldable pub on_first : {A : Type 0} → (A → Bool) → (A → A) → List A → List A
on_first q h [] = []
on_first q h (x ∷ xs) = pick (q x) (h x ∷ xs) (x ∷ on_first q h xs)

unfoldable pub less_first : {A : Type 0} → (A → Bool) → List A → List A
less_first q [] = []
less_first q (x ∷ xs) = pick (q x) xs (x ∷ less_first q xs)

unfoldable pub then : {A B : Type 0} → Option A → (A → Option B) → Option B
then none f = none
then (some x) f = f x

unfoldable pub or_else : {A : Type 0} → Option A → Option A → Option A
or_else none o = o
or_else (some x) o = some x

-- ---- names in a directory

-- all entries, in chain order
unfoldable pub entries_of : {X : Type 0} → List (Block X) → List (Entry X)
entries_of [] = []
entries_of (b ∷ bs) = b.entries ++ entries_of bs

unfoldable pub called : {X : Type 0} → Name → Entry X → Bool
called n e = same n e.name

unfoldable pub holds : {X : Type 0} → Name → Block X → Bool
holds n b = any (called n) b.entries

abbrev pub Absent : {X : Type 0} → Name → List (Block X) → Type 0
Absent n bs = any (holds n) bs ≡ false

unfoldable pub lookup : {X : Type 0} → Name → List (Block X) → Option (Entry X)
lookup n bs = then (first (holds n) bs) (λ b. first (called n) b.entries)

-- ---- sizes

-- W4: the bytes of an entry; of a block's entries; of a directory's, which is the size that its own entry says.
unfoldable pub weight : {X : Type 0} → Entry X → ℕ
weight e = 18 + length e.name

unfoldable pub used : {X : Type 0} → List (Entry X) → ℕ
used [] = 0
used (e ∷ es) = weight e + used es

unfoldable pub sum : {X : Type 0} → List (Block X) → ℕ
sum [] = 0
sum (b ∷ bs) = used b.entries + sum bs

-- W4: there is a first block, and every later one has an entry.
abbrev pub Filled : {X : Type 0} → List (Block X) → Type 0
Filled [] = Unit {0}
Filled (b ∷ bs) = (1 ≤ length b.entries) × Filled bs

abbrev pub Packed : {X : Type 0} → List (Block X) → Type 0
Packed [] = ⊥
Packed (b ∷ bs) = Filled bs

-- ---- edits of one directory

-- the block with h of its entries
abbrev pub fill : {X : Type 0} → (List (Entry X) → List (Entry X)) → Block X → Block X
fill h b = record { at = b.at; entries = h b.entries }

-- C9: the entry goes to the first block where it ends at cap or before, else to a new block w behind the last one.
unfoldable pub insert : {X : Type 0} → ℕ → ℕ → Entry X → List (Block X) → List (Block X)
insert cap w e [] = record { at = w; entries = e ∷ [] } ∷ []
insert cap w e (b ∷ bs) = pick (leb (used b.entries + weight e) cap) (fill (λ es. es ++ (e ∷ [])) b ∷ bs)
    (b ∷ insert cap w e bs)

-- C12, C13: the entry of that name becomes h of it.
unfoldable pub change : {X : Type 0} → Name → (Entry X → Entry X) → List (Block X) → List (Block X)
change n h bs = on_first (holds n) (fill (on_first (called n) h)) bs

-- the block, unless it is empty
unfoldable pub unless_bare : {X : Type 0} → ℕ → List (Entry X) → List (Block X) → List (Block X)
unless_bare a [] bs = bs
unless_bare a (e ∷ es) bs = record { at = a; entries = e ∷ es } ∷ bs

-- C11: the entry of that name goes, and its block with it where that has no other entry and is not the first.
unfoldable pub delete_later : {X : Type 0} → Name → List (Block X) → List (Block X)
delete_later n [] = []
delete_later n (b ∷ bs) = pick (holds n b) (unless_bare b.at (less_first (called n) b.entries) bs) (b ∷ delete_later n bs)

unfoldable pub delete : {X : Type 0} → Name → List (Block X) → List (Block X)
delete n [] = []
delete n (b ∷ bs) = pick (holds n b) (fill (less_first (called n)) b ∷ bs) (b ∷ delete_later n bs)

-- ---- an edit at a path

-- an edit of any directory
abbrev pub Edit : Type 0
Edit = (d : ℕ) → Tree d → Tree d

-- the entry of a subdirectory with g of its time and f of its directory; other entries stay
unfoldable pub renew : {X : Type 0} → (X → X) → (ℕ → ℕ) → Name → ℕ → Node X → Entry X
renew f g n k (file s c) = record { name = n; time = k; node = file s c }
renew f g n k (device s c) = record { name = n; time = k; node = device s c }
renew f g n k (sub x) = record { name = n; time = g k; node = sub (f x) }

unfoldable pub renewed : {X : Type 0} → (X → X) → (ℕ → ℕ) → Entry X → Entry X
renewed f g e = renew f g e.name e.time e.node

-- g at the end of a path
unfoldable pub at_end : List Name → (ℕ → ℕ) → ℕ → ℕ
at_end [] g k = g k
at_end (n ∷ p) g k = k

-- C13: the tree with f of the directory at path p,
-- and g of the time in that directory's own entry. (The sum is rendered.)
unfoldable pub edit : (d : ℕ) → List Name → (ℕ → ℕ) → Edit → Tree d → Tree d
edit d [] g f t = f d t
edit zero (n ∷ p) g f t = t
edit (suc d) (n ∷ p) g f t = change n (renewed (edit d p g f) (at_end p g)) t

-- The directory at path p, with its levels.
abbrev pub Some : Type 0
Some = (d : ℕ) × Tree d

-- o of what a subdirectory is; nothing for a file or a device
unfoldable pub inside : {X R : Type 0} → (X → Option R) → Node X → Option R
inside o (file s c) = none
inside o (device s c) = none
inside o (sub x) = o x

unfoldable pub find : (d : ℕ) → List Name → Tree d → Option Some
find d [] t = some (d, t)
find zero (n ∷ p) t = none
find (suc d) (n ∷ p) t = then (lookup n t) (λ e. inside (find d p) e.node)

-- ---- an empty directory, and one that has no entry

-- one block, with no entry
unfoldable pub blank : (d : ℕ) → ℕ → Tree d
blank d a = record { at = a; entries = [] } ∷ []

-- R14: this one has no entries. (A file and a device have none to lose.)
abbrev pub NoEntries : {X : Type 0} → List (Block X) → Type 0
NoEntries [] = Unit {0}
NoEntries (b ∷ bs) = (b.entries ≡ []) × NoEntries bs

abbrev pub Bare : (d : ℕ) → Node (Below d) → Type 0
Bare d (file s cs) = Unit {0}
Bare d (device s cs) = Unit {0}
Bare zero (sub x) = ⊥
Bare (suc d) (sub x) = NoEntries x
