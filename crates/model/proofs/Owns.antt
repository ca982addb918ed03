-- From the bytes that are stored in a directory's own entry to the whole block that a commit asks for.
use mathlib.Core.Path.{◌≡◌, refl, sym, ap, ◌∙◌, subst}
use mathlib.Core.List.{List, ◌++◌, append_assoc}
use Prim.Native.Nat.{ℕ, suc, ◌+◌, ◌-◌, ◌*◌, ◌≤◌, ◌<◌}
use native.Mathlib.Omega.{arith}
use lib.ListN.{length, get_or, replicate, length-append, length-replicate}
use Rattle.wire.specs.Be.{bytes, splice}
use Rattle.wire.proofs.Numbers.{length_bytes}
use Rattle.block.specs.Block.{cell, Off, Kept}
use Rattle.block.proofs.Blocks.{kept_trans, kept_less, splice_kept}
use Rattle.model.specs.Tree.{Name, sub, Tree, weight, sum, Edit, Some}
use Rattle.model.specs.Render.{Piece, blocks_at, padded, entry_bytes, view, render, Shows, ShowsAll}
use Rattle.model.specs.Geometry.{Geo, block_size}
use Rattle.model.specs.Volume.{All, Volume}
use Rattle.model.proofs.Alike.{length_entry}
use Rattle.model.proofs.Areas.{size_large, block_inside}
use Rattle.model.proofs.Commit.{shows_both, shows_one, shows_two, own_stored}
use Rattle.model.proofs.Cuts.{Cut, OwnCut}
use Rattle.model.proofs.Frame.{shows_right, cut_old}
use Rattle.model.proofs.Full.{Whole, whole_tree, length-padded}
use Rattle.model.proofs.Lists.{all_mid}

-- ---- one part of a list of bytes renewed

-- what stands outside the part stays, and the part is shown: so the whole is
shows_middle : (I I' : List ℕ) (k : ℕ) (A E E' C : List ℕ) → Shows I k (A ++ (E ++ C)) → length E' ≡ length E
    → ((i : ℕ) → i < length (A ++ (E ++ C)) → (length A ≤ i → i < length A + length E → ⊥) → get_or I' (k + i) 0 ≡ get_or I (k + i) 0)
    → Shows I' (k + length A) E' → Shows I' k (A ++ (E' ++ C))
shows_middle I I' k A E E' C a e s b =
    let l : length (A ++ (E ++ C)) ≡ length A + (length E + length C) = rw (length-append, length-append E C) in
    shows_both I' k A (E' ++ C) (λ i h. s i (omega arith) (λ x y. omega arith) ∙ shows_one I k A (E ++ C) a i h)
    (shows_both I' (k + length A) E' C b
    (λ i h.
    let z : k + length A + length E' + i ≡ k + (length A + length E + i) = omega arith in
    let y : k + (length A + length E + i) ≡ k + length A + length E + i = omega arith in
    ap (λ (x : ℕ). get_or I' x 0) z ∙ s (length A + length E + i) (omega arith) (λ x y. omega arith) ∙ ap (λ (x : ℕ). get_or I x 0) y
    ∙ shows_two I (k + length A) E C (shows_two I k A (E ++ C) a) i h))

-- the bytes of a block that holds an entry: next address, then entries and zeros, by what stands before the entry and after it
block_parts : (c z : ℕ) (low E high : List ℕ)
    → bytes 4 z ++ padded c (low ++ (E ++ high)) ≡ (bytes 4 z ++ low) ++ (E ++ (high ++ replicate (c - (length low + (length E + length high))) 0))
unfolding padded
block_parts c z low E high = rw (length-append, length-append E high) (simp append_assoc)

module _ (B at next : ℕ) (low E high : List ℕ) (I : List ℕ) (a : Shows I (B * at) (bytes 4 next ++ padded (B - 4) (low ++ (E ++ high)))) where
  in_parts : Shows I (B * at) ((bytes 4 next ++ low) ++ (E ++ (high ++ replicate (B - 4 - (length low + (length E + length high))) 0)))
  in_parts = subst (Shows I (B * at)) (block_parts (B - 4) next low E high) a

  long_low : length (bytes 4 next ++ low) ≡ 4 + length low
  long_low = rw (length-append, length_bytes 4 next)

  -- the entry alone
  pub own_entry : Shows I (B * at + 4 + length low) E
  own_entry =
      let k : B * at + length (bytes 4 next ++ low) ≡ B * at + 4 + length low = omega (arith, long_low) in
      subst (λ (z : ℕ). Shows I z E) k
      (shows_one I (B * at + length (bytes 4 next ++ low)) E (high ++ replicate (B - 4 - (length low + (length E + length high))) 0)
      (shows_two I (B * at) (bytes 4 next ++ low) (E ++ (high ++ replicate (B - 4 - (length low + (length E + length high))) 0)) in_parts))

  -- A block with one entry renewed, where no byte outside the entry changes.
  pub own_block : (E' I' : List ℕ) → 4 ≤ B → length E' ≡ length E → length (low ++ (E ++ high)) ≤ B - 4
      → ((i : ℕ) → i < B → (4 + length low ≤ i → i < 4 + length low + length E → ⊥) → get_or I' (B * at + i) 0 ≡ get_or I (B * at + i) 0)
      → Shows I' (B * at + 4 + length low) E' → Shows I' (B * at) (bytes 4 next ++ padded (B - 4) (low ++ (E' ++ high)))
  own_block E' I' large e f s b =
      let A : List ℕ = bytes 4 next ++ low in
      let Z : List ℕ = replicate (B - 4 - (length low + (length E + length high))) 0 in
      let w : length (A ++ (E ++ (high ++ Z))) ≡ B = simp (length-append, length-replicate) (omega (arith, length_bytes 4 next, simp length-append at f)) in
      let k : B * at + 4 + length low ≡ B * at + length A = omega (arith, long_low) in
      subst (Shows I' (B * at)) (sym (block_parts (B - 4) next low E' high))
      (subst (λ (z : ℕ). Shows I' (B * at) (A ++ (E' ++ (high ++ replicate (B - 4 - (length low + (z + length high))) 0)))) (sym e)
      (shows_middle I I' (B * at) A E E' (high ++ Z) in_parts e (λ i h x. s i (omega arith) (λ y z. x (omega (arith, long_low)) (omega (arith, long_low))))
      (subst (λ (z : ℕ). Shows I' z E') k b)))

-- ---- the block of a cut

module _ (B : ℕ) (xs ys us vs : List Piece) (q : ℕ) (E E' : List ℕ) (c : Cut B xs ys us vs q E E') where
  -- the image shows it,
  pub cut_shown : (I : List ℕ) → ShowsAll B I xs → Shows I (B * c.at) (bytes 4 c.next ++ padded (B - 4) (c.low ++ (E ++ c.high)))
  cut_shown I a = (shows_right B I c.before _ (subst (ShowsAll B I) c.old a)).0

  pub cut_whole : All (Whole B) xs → length (bytes 4 c.next ++ padded (B - 4) (c.low ++ (E ++ c.high))) ≡ B
  cut_whole w = all_mid (Whole B) c.before _ _ (subst (All (Whole B)) c.old w)

  -- and its entries fit in it
  pub cut_fits : All (Whole B) xs → length (c.low ++ (E ++ c.high)) ≤ B - 4
  unfolding padded
  cut_fits w =
      let l : List ℕ = c.low ++ (E ++ c.high) in
      let h : length (bytes 4 c.next ++ (l ++ replicate (B - 4 - length l) 0)) ≡ B = unfold padded in cut_whole w in
      omega (arith, rw (length-append, length-append l (replicate (B - 4 - length l) 0)) at h, length_bytes 4 c.next)

-- ---- a directory's own entry renewed

-- the image with size z and time k in the entry that begins at byte q
abbrev pub renewed_at : List ℕ → ℕ → ℕ → ℕ → List ℕ
renewed_at I q z k = splice (splice I (q + 5) (bytes 4 z)) (q + 9) (bytes 8 k)

-- two stores as code makes them
pub two_stores : (I J L : List ℕ) (at q z k : ℕ) → at ≡ q → J ≡ splice I (at + 5) (bytes 4 z) → L ≡ splice J (at + 9) (bytes 8 k) → L ≡ renewed_at I q z k
two_stores I J L at q z k e a b = b ∙ ap (λ (x : List ℕ). splice x (at + 9) (bytes 8 k)) a ∙ ap (λ (x : ℕ). renewed_at I x z k) e

-- They touch no byte but size and time.
pub renewed_kept : (B : ℕ) (J : List ℕ) (a o z k : ℕ) → B * a + B ≤ length J → o + 18 ≤ B → Kept B (Off a (o + 5) 12) J (renewed_at J (B * a + o) z k)
renewed_kept B J a o z k h l =
    let lz : length (bytes 4 z) ≡ 4 = length_bytes 4 z in
    let lk : length (bytes 8 k) ≡ 8 = length_bytes 8 k in
    let p₅ : B * a + o + 5 ≡ B * a + (o + 5) = omega arith in
    let p₉ : B * a + o + 9 ≡ B * a + (o + 9) = omega arith in
    let K : List ℕ = splice J (B * a + (o + 5)) (bytes 4 z) in
    let x : Kept B (Off a (o + 5) (length (bytes 4 z))) J K = splice_kept B J a (o + 5) (bytes 4 z) (omega arith) h in
    let y : Kept B (Off a (o + 9) (length (bytes 8 k))) K (splice K (B * a + (o + 9)) (bytes 8 k)) = splice_kept B K a (o + 9) (bytes 8 k) (omega arith) (omega (arith, x.size)) in
    rw (p₅, p₉) (kept_trans (kept_less (λ b q n i j m. n i j (omega arith)) x) (kept_less (λ b q n i j m. n i (omega arith) (omega arith)) y))

-- A block that is kept still shows what it showed.
pub shows_kept : (B : ℕ) (P : ℕ → ℕ → Type 0) (I J : List ℕ) (a : ℕ) (l : List ℕ) → Kept B P I J → ((o : ℕ) → o < length l → P a o) → length l ≤ B → Shows I (B * a) l → Shows J (B * a) l
unfolding cell
shows_kept B P I J a l k p h s i q = k.at a i (p i q) (omega arith) ∙ s i q

module _ (g : Geo) (I : List ℕ) (d : ℕ) (t : Tree d) (p : List Name) (k : ℕ → ℕ) (f : Edit) (s : Some) (v : Volume g I d t) (c : OwnCut (block_size g) d p k f t s) where
  whole : All (Whole (block_size g)) (render (block_size g) d t)
  whole = whole_tree (block_size g) (omega (arith, size_large g)) d t v.laid.good

  own_inside : block_size g * c.cut.at + block_size g ≤ length I
  own_inside =
      let r = v.laid.range c.cut.at (cut_old (block_size g) _ _ _ _ _ _ _ c.cut) in
      block_inside g (length I) v.laid.sound c.cut.at r.1

  own_room : 4 + length c.cut.low + 18 ≤ block_size g
  unfolding weight
  own_room =
      let E : List ℕ = entry_bytes (view (block_size g) (suc s.0)) (record { name = c.name; time = c.time; node = sub s.1 }) in
      let l : length E ≡ 18 + length c.name = length_entry _ _ in
      let r : length (c.cut.low ++ (E ++ c.cut.high)) ≤ block_size g - 4 = cut_fits (block_size g) _ _ _ _ _ _ _ c.cut whole in
      omega (arith, l, simp length-append at r, size_large g)

  module _ (J : List ℕ) where
    -- Two stores renew it, and touch no other byte.
    pub own_kept : length J ≡ length I → (z m : ℕ) → Kept (block_size g) (Off c.cut.at (4 + length c.cut.low + 5) 12) J (renewed_at J c.place z m)
    own_kept e z m =
        let p : c.place ≡ block_size g * c.cut.at + (4 + length c.cut.low) = omega (arith, c.cut.stands) in
        rw p (renewed_kept (block_size g) J c.cut.at (4 + length c.cut.low) z m (omega (arith, own_inside)) own_room)

    -- After them the block is what a commit asks for.
    pub own_renewed_lem : Kept (block_size g) (λ b o. b ≡ c.cut.at) I J → blocks_at (f s.0 s.1) ≡ blocks_at s.1
        → Shows (renewed_at J c.place (sum (f s.0 s.1)) (k c.time)) (block_size g * c.cut.at) (bytes 4 c.cut.next ++ padded (block_size g - 4) (c.cut.low ++
        (entry_bytes (view (block_size g) (suc s.0)) (record { name = c.name; time = k c.time; node = sub (f s.0 s.1) }) ++ c.cut.high)))
    unfolding weight cell
    own_renewed_lem h e =
        let B : ℕ = block_size g in
        let E : List ℕ = entry_bytes (view B (suc s.0)) (record { name = c.name; time = c.time; node = sub s.1 }) in
        let E' : List ℕ = entry_bytes (view B (suc s.0)) (record { name = c.name; time = k c.time; node = sub (f s.0 s.1) }) in
        let old : List ℕ = bytes 4 c.cut.next ++ padded (B - 4) (c.cut.low ++ (E ++ c.cut.high)) in
        let l : length E ≡ 18 + length c.name = length_entry _ _ in
        let l' : length E' ≡ 18 + length c.name = length_entry _ _ in
        let fits : length (c.cut.low ++ (E ++ c.cut.high)) ≤ B - 4 = cut_fits B _ _ _ _ _ _ _ c.cut whole in
        let long : length old ≡ B = rw length-append (omega (arith, length_bytes 4 c.cut.next, length-padded (B - 4) (c.cut.low ++ (E ++ c.cut.high)) fits, size_large g)) in
        let shown : Shows J (B * c.cut.at) old = shows_kept B _ I J c.cut.at old h (λ o q. refl) (omega arith) (cut_shown B _ _ _ _ _ _ _ c.cut I v.laid.shown) in
        let place : c.place ≡ B * c.cut.at + 4 + length c.cut.low = c.cut.stands in
        let entry : Shows J c.place E = rw place (own_entry B c.cut.at c.cut.next c.cut.low E c.cut.high J shown) in
        let new : Shows (renewed_at J c.place (sum (f s.0 s.1)) (k c.time)) c.place E'
        = own_stored B s.0 J c.place s.1 (f s.0 s.1) c.name c.time (k c.time) e (omega (arith, own_room, own_inside, h.size)) entry in
        let kept = own_kept h.size (sum (f s.0 s.1)) (k c.time) in
        own_block B c.cut.at c.cut.next c.cut.low E c.cut.high J shown E' (renewed_at J c.place (sum (f s.0 s.1)) (k c.time)) (omega (arith, size_large g)) (omega arith) fits
        (λ i q n. kept.at c.cut.at i (λ _ x y. n (omega arith) (omega arith)) q)
        (subst (λ (z : ℕ). Shows (renewed_at J c.place (sum (f s.0 s.1)) (k c.time)) z E') place new)
