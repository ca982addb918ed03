-- What an accepted write makes of a file: its bytes, its blocks, and what stays in the tree.
use mathlib.Core.Path.{◌≡◌, refl, sym, ap, ◌∙◌}
use mathlib.Core.Option.{Option, none, some}
use mathlib.Core.List.{List, [], ◌∷◌, ◌++◌, append_assoc}
use Prim.Native.Nat.{ℕ, zero, suc, ◌+◌, ◌-◌, ◌*◌, ◌^◌, ◌/◌, ◌%◌, ◌≤◌, ◌<◌}
use native.Mathlib.Nat.{add_comm, mul-zero, mul-suc, mul-add, mul_comm, mul-le-mul_left, div-add-mod, mod-lt, div-lt_iff_lt-mul, div-eq_of_lt, div-le_self, add-mul-div_left, le-max_left, le-max_right, max-le}
use native.Mathlib.Decide.{dec_lt}
use native.Mathlib.Omega.{arith}
use lib.ListN.{length, get_or, take, drop, length-append, length-drop, get_or-replicate, get_or-append, get_or-eq_default}
use lib.Seq.{length-take-le, take-append-le, take_at, take-add, take-take, take_all, get_or-take, get_or-append-add}
use Rattle.wire.specs.Be.{splice, zeros}
use Rattle.wire.proofs.Numbers.{length-splice, splice-after}
use Rattle.block.specs.Block.{BlockSize}
use Rattle.block.proofs.Blocks.{block_below}
use Rattle.model.specs.Tree.{Name, Cell, Node, file, device, sub, Entry, Block, Tree, then, lookup, change, Edit, renewed, renew, at_end, edit, inside}
use Rattle.model.specs.Volume.{All, file_limit, blocks_for, GoodCell, GoodFile}
use Rattle.model.specs.Calls.{file_of, file_at, stream, contents, places, chop, rewrite, refiled, rewritten, overlaid}
use Rattle.model.proofs.Lists.{not_some, then_some}
use Rattle.model.proofs.Grown.{grown_bytes, length-grown_bytes}
use Rattle.model.proofs.Dirs.{Keeps, lookup-change}
use Rattle.model.proofs.Edits.{refiled_name, renewed_name}

-- ---- bytes laid into blocks, and read again

-- The blocks hold as many of the bytes as they have room for, in order.
stream-chop : (w : ℕ) (xs l : List ℕ) → stream (chop w xs l) ≡ take (w * length xs) l
unfolding stream chop
stream-chop w [] l = rw mul-zero
stream-chop w (a ∷ xs) l = rw (mul-suc, add_comm (w * length xs) w, take-add w (w * length xs) l, stream-chop w xs (drop w l))

-- The blocks are at the addresses given.
places-chop : (w : ℕ) (xs l : List ℕ) → places (chop w xs l) ≡ xs
unfolding places chop
places-chop w [] l = refl
places-chop w (a ∷ xs) l = ap (λ (m : List ℕ). a ∷ m) (places-chop w xs (drop w l))

-- There is one block for each address.
length-chop : (w : ℕ) (xs l : List ℕ) → length (chop w xs l) ≡ length xs
unfolding chop
length-chop w [] l = refl
length-chop w (a ∷ xs) l = ap suc (length-chop w xs (drop w l))

-- Each is full where there are bytes enough.
good_chop : (B : ℕ) (xs l : List ℕ) → (B - 4) * length xs ≤ length l → All (GoodCell B) (chop (B - 4) xs l)
unfolding chop
good_chop B [] l h = tt
good_chop B (a ∷ xs) l h =
    let e : (B - 4) * suc (length xs) ≡ (B - 4) * length xs + (B - 4) = mul-suc (B - 4) (length xs) in
    let k : (B - 4) * length xs + (B - 4) ≤ length l = rw e at h in
    (record { whole = length-take-le (B - 4) l (omega arith) }, good_chop B xs (drop (B - 4) l) (rw length-drop (omega arith)))

-- A chain of k blocks has k times their data bytes.
pub length-stream : (B : ℕ) (cs : List Cell) → All (GoodCell B) cs → length (stream cs) ≡ (B - 4) * length cs
unfolding stream
length-stream B [] g = sym (mul-zero (B - 4))
length-stream B (c ∷ cs) g = length-append c.body (stream cs) ∙ omega (arith, g.0.whole, length-stream B cs g.1, mul-suc (B - 4) (length cs))

-- It has k addresses.
pub length-places : (cs : List Cell) → length (places cs) ≡ length cs
unfolding places
length-places [] = refl
length-places (c ∷ cs) = ap suc (length-places cs)

-- C19: the blocks of a patch are where they were,
pub places-overlaid : (B c : ℕ) (buf : List ℕ) (cs : List Cell) → places (overlaid B c buf cs) ≡ places cs
unfolding overlaid
places-overlaid B c buf cs = search places-chop

-- and their bytes are the old ones with the buffer over them.
pub stream-overlaid : (B c : ℕ) (buf : List ℕ) (cs : List Cell) → length (stream cs) ≡ (B - 4) * length cs → c + length buf ≤ (B - 4) * length cs
    → stream (overlaid B c buf cs) ≡ splice (stream cs) c buf
unfolding overlaid
stream-overlaid B c buf cs long inside =
    search (stream-chop (B - 4) (places cs) (splice (stream cs) c buf)
    ∙ take_all ((B - 4) * length (places cs)) (splice (stream cs) c buf)
    (omega (arith, length-splice (stream cs) c buf (omega (arith, long)), long, ap (λ (k : ℕ). (B - 4) * k) (length-places cs))))

-- ---- how many blocks a size needs

-- as code computes it
module _ {B : ℕ} (b : BlockSize B) where
  pub blocks-none : (s : ℕ) → s ≡ 0 → 1 ≡ blocks_for B s
  unfolding blocks_for
  blocks-none s e =
      let q : (s + (B - 5)) / (B - 4) ≡ 0 = div-eq_of_lt (omega (arith, b.least)) in
      omega (arith, q)

  -- and it is a number of 32 bits
  pub count_fits : (s : ℕ) → s < 2 ^ 32 → (s ≡ 0 → ⊥) → (s - 1) / (B - 4) + 1 < 2 ^ 32
  count_fits s h z = omega (arith, div-le_self (s - 1) (B - 4))

  pub blocks_last : (s : ℕ) → (s ≡ 0 → ⊥) → (s - 1) / (B - 4) + 1 ≡ blocks_for B s
  unfolding blocks_for
  blocks_last s e =
      let m : s + (B - 5) ≡ s - 1 + (B - 4) * 1 = omega (arith, b.least) in
      let q : (s + (B - 5)) / (B - 4) ≡ (s - 1) / (B - 4) + 1 = ap (λ (x : ℕ). x / (B - 4)) m ∙ add-mul-div_left (s - 1) 1 (omega (arith, b.least)) in
      omega (arith, q)

module _ (B : ℕ) (five : 5 ≤ B) where
  -- at least one
  pub blocks-some : (s : ℕ) → 1 ≤ blocks_for B s
  unfolding blocks_for
  blocks-some s = le-max_left 1 ((s + (B - 5)) / (B - 4))

  -- they have room for the bytes
  pub blocks_enough : (s : ℕ) → s ≤ (B - 4) * blocks_for B s
  unfolding blocks_for
  blocks_enough s =
      let r : (s + (B - 5)) % (B - 4) < B - 4 = mod-lt (s + (B - 5)) (omega arith) in
      omega (arith, div-add-mod (s + (B - 5)) (B - 4), mul-le-mul_left (B - 4) (le-max_right 1 ((s + (B - 5)) / (B - 4))))

  -- no fewer do
  pub blocks_least : (s k : ℕ) → 1 ≤ k → s ≤ (B - 4) * k → blocks_for B s ≤ k
  unfolding blocks_for
  blocks_least s k h r =
      let q : (s + (B - 5)) / (B - 4) < suc k = (div-lt_iff_lt-mul {k = B - 4} {x = s + (B - 5)} {y = suc k} (omega arith)).1 (omega (arith, mul-suc (B - 4) k, mul_comm (suc k) (B - 4))) in
      max-le h (omega arith)

  -- a file's chain has room for its bytes
  size_fits : (s : ℕ) (cs : List Cell) → GoodFile B s cs → s ≤ length (stream cs)
  size_fits s cs g = rw (length-stream B cs g.cells, g.long) (blocks_enough s)

-- ---- a write of buf at c, in a file of s bytes in the blocks cs, with `free` to take new blocks from

module _ (B s c : ℕ) (free buf : List ℕ) (cs : List Cell) (five : 5 ≤ B) (good : GoodFile B s cs) (position : c ≤ s)
    (room : blocks_for B (c + length buf) - length cs ≤ length free) where
  long : length (take (blocks_for B (c + length buf)) (places cs ++ free)) ≡ blocks_for B (c + length buf)
  long = length-take-le _ _ (rw (length-append, length-places cs) (omega arith))

  -- the old bytes with the new blocks' zeros
  abbrev grown : List ℕ
  grown = grown_bytes B c buf cs

  length-grown : length grown ≡ (B - 4) * length cs + (B - 4) * (blocks_for B (c + length buf) - length cs)
  length-grown = length-grown_bytes B c buf cs (length-stream B cs good.cells)

  wide : (B - 4) * blocks_for B (c + length buf) ≤ length grown
  wide = rw (length-grown, ← mul-add (B - 4) (length cs) (blocks_for B (c + length buf) - length cs)) (mul-le-mul_left (B - 4) (omega arith))

  inside_grown : c + length buf ≤ length grown
  inside_grown = omega (arith, wide, blocks_enough B five (c + length buf))

  length-after : length (splice grown c buf) ≡ length grown
  length-after = length-splice grown c buf inside_grown

  stream-rewrite : stream (rewrite B free c buf cs) ≡ take ((B - 4) * blocks_for B (c + length buf)) (splice grown c buf)
  unfolding rewrite grown_bytes
  stream-rewrite = stream-chop (B - 4) _ _ ∙ ap (λ (k : ℕ). take ((B - 4) * k) (splice grown c buf)) long

  -- The file keeps its first blocks, in order, and takes what is missing from the free ones, in their order.
  pub rewrite-places : places (rewrite B free c buf cs) ≡ take (blocks_for B (c + length buf)) (places cs ++ free)
  unfolding rewrite
  rewrite-places = places-chop (B - 4) _ _

  -- It has just as many as its new size needs.
  pub rewrite-length : length (rewrite B free c buf cs) ≡ blocks_for B (c + length buf)
  unfolding rewrite
  rewrite-length = length-chop (B - 4) _ _ ∙ long

  -- It is a well-formed file again.
  pub rewrite_good : c + length buf ≤ file_limit → GoodFile B (c + length buf) (rewrite B free c buf cs)
  unfolding rewrite grown_bytes
  rewrite_good limit = record { limit = limit; long = rewrite-length; cells = good_chop B _ (splice grown c buf) (rw (long, length-after) wide) }

  -- An accepted write leaves the bytes before the position, then the buffer, and the file ends there.
  pub contents-rewrite : contents (c + length buf) (rewrite B free c buf cs) ≡ take c (contents s cs) ++ buf
  unfolding contents splice grown_bytes
  contents-rewrite =
      ap (take (c + length buf)) stream-rewrite
      ∙ take-take (c + length buf) ((B - 4) * blocks_for B (c + length buf)) (splice grown c buf) (blocks_enough B five (c + length buf))
      ∙ ap (take (c + length buf)) (sym (append_assoc (take c grown) buf (drop (c + length buf) grown)))
      ∙ take_at (take c grown ++ buf) (drop (c + length buf) grown) (c + length buf) (rw (length-append, length-take-le c grown (omega (arith, inside_grown))))
      ∙ ap (λ (l : List ℕ). l ++ buf) (take-append-le c (stream cs) _ (omega (arith, size_fits B five s cs good)) ∙ sym (take-take c s (stream cs) position))

  -- Past the end no byte of a kept block changes, and those of a new block are 0 (as `get_or` gives past the old bytes).
  rewrite-past : (k : ℕ) → c + length buf ≤ k → k < (B - 4) * blocks_for B (c + length buf) → get_or (stream (rewrite B free c buf cs)) k 0 ≡ get_or (stream cs) k 0
  unfolding grown_bytes
  rewrite-past k h l =
      ap (λ (z : List ℕ). get_or z k 0) stream-rewrite
      ∙ get_or-take ((B - 4) * blocks_for B (c + length buf)) (splice grown c buf) k 0 l
      ∙ splice-after grown c buf inside_grown k h
      ∙ old_or_zero (dec_lt k (length (stream cs)))
    where
      more : ℕ
      more = (B - 4) * (blocks_for B (c + length buf) - length cs)

      old_or_zero : Dec (k < length (stream cs)) → get_or (stream cs ++ zeros more) k 0 ≡ get_or (stream cs) k 0
      old_or_zero (yes q) = get_or-append (stream cs) (zeros more) 0 k q
      old_or_zero (no q) =
          let e : k ≡ length (stream cs) + (k - length (stream cs)) = omega arith in
          ap (λ (z : ℕ). get_or (stream cs ++ zeros more) z 0) e
          ∙ get_or-append-add (stream cs) (zeros more) (k - length (stream cs)) 0
          ∙ get_or-replicate {A = ℕ} more (k - length (stream cs)) 0 0 (omega (arith, wide, length-grown, length-stream B cs good.cells))
          ∙ sym (get_or-eq_default (stream cs) 0 (omega arith))

  -- C12: what stands behind the end in a kept block stays: byte j of block i.
  stale_stay : (i j : ℕ) → i < blocks_for B (c + length buf) → j < B - 4 → c + length buf ≤ (B - 4) * i + j
      → get_or (stream (rewrite B free c buf cs)) ((B - 4) * i + j) 0 ≡ get_or (stream cs) ((B - 4) * i + j) 0
  stale_stay i j h k l = rewrite-past ((B - 4) * i + j) l (block_below (B - 4) i (blocks_for B (c + length buf)) j h k)

-- ---- the file in the tree

module _ {X R : Type 0} (v w : R) where
  -- what is read of the entry of that name, where the change makes w of v
  lookup_becomes : (n : Name) (h : Entry X → Entry X) → Keeps h → (o : Entry X → Option R) → ((e : Entry X) → o e ≡ some v → o (h e) ≡ some w)
      → (bs : List (Block X)) → then (lookup n bs) o ≡ some v → then (lookup n (change n h bs)) o ≡ some w
  unfolding then
  lookup_becomes n h k o f bs e = go (lookup n bs) refl
    where
      go : (r : Option (Entry X)) → lookup n bs ≡ r → then (lookup n (change n h bs)) o ≡ some w
      go none l = absurd (not_some (ap (λ (z : Option (Entry X)). then z o) l) e)
      go (some x) l = then_some o (lookup-change n h k bs x l) ∙ f x (sym (then_some o l) ∙ e)

  -- the same of an entry on the way
  renew_becomes : (o : X → Option R) (f : X → X) → ((x : X) → o x ≡ some v → o (f x) ≡ some w) → (g : ℕ → ℕ) (n : Name) (k : ℕ) (x : Node X)
      → inside o x ≡ some v → inside o (renew f g n k x).node ≡ some w
  unfolding renew inside
  renew_becomes o f r g n k (file z ds) e = absurd (not_some refl e)
  renew_becomes o f r g n k (device z ds) e = absurd (not_some refl e)
  renew_becomes o f r g n k (sub x) e = r x e

-- size, time and blocks of a file
abbrev Facts : Type 0
Facts = ℕ × ℕ × List Cell

refiled_file : {X : Type 0} (v : Facts) (now s : ℕ) (cs : List Cell) (n : Name) (k : ℕ) (x : Node X) → file_of k x ≡ some v
    → file_of (refiled now s cs n k x).time (refiled now s cs n k x).node ≡ some (s, now, cs)
unfolding refiled file_of
refiled_file v now s cs n k (file z ds) e = refl
refiled_file v now s cs n k (device z ds) e = absurd (not_some refl e)
refiled_file v now s cs n k (sub x) e = absurd (not_some refl e)

module _ (n : Name) (now s : ℕ) (cs : List Cell) (v : Facts) where
  write : Edit
  write e bs = change n (λ x. refiled now s cs x.name x.time x.node) bs

  in_directory : {X : Type 0} (bs : List (Block X)) → then (lookup n bs) (λ e. file_of e.time e.node) ≡ some v
      → then (lookup n (change n (λ x. refiled now s cs x.name x.time x.node) bs)) (λ e. file_of e.time e.node) ≡ some (s, now, cs)
  in_directory bs h =
      lookup_becomes v (s, now, cs) n (λ x. refiled now s cs x.name x.time x.node) (λ x. refiled_name now s cs x.name x.time x.node)
      (λ e. file_of e.time e.node) (λ e. refiled_file v now s cs e.name e.time e.node) bs h

  written : (d : ℕ) (p : List Name) (t : Tree d) → file_at d p n t ≡ some v → file_at d p n (edit d p (λ k. k) write t) ≡ some (s, now, cs)
  unfolding file_at edit write renewed
  written zero [] t h = in_directory t h
  written (suc d) [] t h = in_directory t h
  written zero (a ∷ p) t h = absurd (not_some refl h)
  written (suc d) (a ∷ p) t h =
      lookup_becomes v (s, now, cs) a (renewed (edit d p (λ k. k) write) (at_end p (λ k. k))) (renewed_name _ _) (λ e. inside (file_at d p n) e.node)
      (λ e. renew_becomes v (s, now, cs) (file_at d p n) (edit d p (λ k. k) write) (λ u. written d p u) (at_end p (λ k. k)) e.name e.time e.node) t h

-- A write gives the file at the path its new size, time and blocks. (By `other_file` it changes no other.)
pub file_written : (d : ℕ) (p : List Name) (n : Name) (now s k s' : ℕ) (cs cs' : List Cell) (t : Tree d) → file_at d p n t ≡ some (s, k, cs)
    → file_at d p n (rewritten d p n now s' cs' t) ≡ some (s', now, cs')
unfolding rewritten write
file_written d p n now s k s' cs cs' t h = written n now s' cs' (s, k, cs) d p t h
