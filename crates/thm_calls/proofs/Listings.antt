-- A listing of a directory's walk shows its entries in order, each once, as many as the buffer takes.
use Rattle.std.specs.Prelude.{Ok}
use mathlib.Core.Path.{◌≡◌, refl, sym, ap, ◌∙◌}
use mathlib.Core.Bool.{true, false}
use mathlib.Core.Logic.{◌⊎◌, inl, inr}
use mathlib.Core.List.{List, [], ◌∷◌, ◌++◌}
use Prim.Native.Nat.{ℕ, zero, suc, ◌+◌, ◌≤◌, ◌<◌}
use native.Mathlib.Nat.{add-zero, zero-add}
use native.Mathlib.Omega.{arith}
use lib.Dec.{ltb}
use lib.ListN.{length, take, drop}
use lib.Seq.{take-length, length-take-le}
use borrow.Author.Tests.{lt-ltb}
use Rattle.wire.specs.Pick.{pick}
use Rattle.wire.proofs.Picks.{either, pick_true, pick_false}
use Rattle.model.specs.Tree.{Entry, Block, entries_of, weight}
use Rattle.model.specs.Render.{View}
use Rattle.dir_entry.specs.declared.DirEntry.{DirEntry}
use Rattle.dir_entry.specs.Shown.{head_of}
use Rattle.read_dir.specs.Walk.{Walk, item, finished, damaged}
use Rattle.read_dir.specs.Finds.{record_of, skip, list_from, records_from}
use Rattle.thm_walk.specs.Shown.{items_of, walk_of}
use Rattle.thm_calls.specs.Named.{records_long, records_of, fitting, listed_from}

-- ---- a buffer that takes all

module _ {X : Type 0} where
  -- All records go into a buffer with more bytes than they have.
  all_fit : (cap b : ℕ) (es : List (Entry X)) → b + records_long es < cap → fitting cap b es ≡ length es
  unfolding records_long fitting
  all_fit cap b [] h = refl
  all_fit cap b (e ∷ es) h =
      pick_true _ _ (lt-ltb (b + (14 + length e.name)) cap (omega arith)) ∙ ap suc (all_fit cap (b + (14 + length e.name)) es (omega arith))

  -- not more go in than there are
  few_fit : (cap b : ℕ) (es : List (Entry X)) → fitting cap b es ≤ length es
  unfolding fitting
  few_fit cap b [] = omega arith
  few_fit cap b (e ∷ es) = go (either (ltb (b + (14 + length e.name)) cap)) (few_fit cap (b + (14 + length e.name)) es)
    where
      go : (ltb (b + (14 + length e.name)) cap ≡ true) ⊎ (ltb (b + (14 + length e.name)) cap ≡ false)
          → fitting cap (b + (14 + length e.name)) es ≤ length es → fitting cap b (e ∷ es) ≤ length (e ∷ es)
      go (inl c) r = omega (arith, pick_true (suc (fitting cap (b + (14 + length e.name)) es)) 0 c)
      go (inr c) r = omega (arith, pick_false (suc (fitting cap (b + (14 + length e.name)) es)) 0 c)

  -- A listing with such a buffer shows all entries from number i on.
  pub listed_all : (i cap : ℕ) (es : List (Entry X)) → records_long (drop i es) < cap → listed_from i cap es ≡ drop i es
  unfolding listed_from
  listed_all i cap es h = ap (λ (k : ℕ). take k (drop i es)) (all_fit cap 0 (drop i es) (omega arith)) ∙ take-length (drop i es)

  listed_count : (i cap : ℕ) (es : List (Entry X)) → fitting cap 0 (drop i es) ≡ length (listed_from i cap es)
  unfolding listed_from
  listed_count i cap es = sym (length-take-le (fitting cap 0 (drop i es)) (drop i es) (few_fit cap 0 (drop i es)))

-- ---- the entries of a walk

module _ {X : Type 0} (v : View X) where
  -- The walk has these entries, and ends.
  abbrev pub Tells : List (Entry X) → Walk → Type 0
  Tells [] (item h a o x w) = ⊥
  Tells [] finished = Unit {0}
  Tells [] damaged = ⊥
  Tells (e ∷ es) (item h a o x w) = (h ≡ head_of v e) × (x ≡ e.name) × Tells es w
  Tells (e ∷ es) finished = ⊥
  Tells (e ∷ es) damaged = ⊥

  tells_items : (a : ℕ) (es fs : List (Entry X)) (o : ℕ) (w : Walk) → Tells fs w → Tells (es ++ fs) (items_of v a o es w)
  unfolding items_of
  tells_items a [] fs o w t = t
  tells_items a (e ∷ es) fs o w t = (refl, refl, tells_items a es fs (o + weight e) w t)

  -- A directory's walk has its entries,
  tells_walk : (bs : List (Block X)) → Tells (entries_of bs) (walk_of v bs)
  unfolding walk_of entries_of
  tells_walk [] = tt
  tells_walk (b ∷ bs) = tells_items b.at b.entries (entries_of bs) 0 (walk_of v bs) (tells_walk bs)

  -- and without the first i of them it has the others.
  tells_skip : (i : ℕ) (es : List (Entry X)) (w : Walk) → Tells es w → Tells (drop i es) (skip i w)
  unfolding skip
  tells_skip zero es w t = t
  tells_skip (suc i) [] (item h a o x w) t = absurd t
  tells_skip (suc i) [] finished t = tt
  tells_skip (suc i) [] damaged t = absurd t
  tells_skip (suc i) (e ∷ es) (item h a o x w) t = tells_skip i es w t.2
  tells_skip (suc i) (e ∷ es) finished t = absurd t
  tells_skip (suc i) (e ∷ es) damaged t = absurd t

  -- ---- the listing

  -- what a record has after its fixed bytes
  len_is : (h : DirEntry) (e : Entry X) → h ≡ head_of v e → h.len ≡ length e.name
  unfolding head_of
  len_is h e t = ap (λ (r : DirEntry). r.len) t

  -- It shows the entries that go into the buffer: their bytes and the number after them are the answer,
  listing_counts : (cap : ℕ) (es : List (Entry X)) (w : Walk) (b i : ℕ) → Tells es w
      → list_from cap b i w ≡ Ok (record { bytes = b + records_long (take (fitting cap b es) es); next = i + fitting cap b es })
  unfolding list_from records_long fitting
  listing_counts cap [] (item h a o x w) b i t = absurd t
  listing_counts cap [] finished b i t = λ j. Ok (record { bytes = sym (add-zero b) j; next = sym (add-zero i) j })
  listing_counts cap [] damaged b i t = absurd t
  listing_counts cap (e ∷ es) finished b i t = absurd t
  listing_counts cap (e ∷ es) damaged b i t = absurd t
  listing_counts cap (e ∷ es) (item h a o x w) b i t =
      ap (λ (k : ℕ). pick (ltb (b + (14 + k)) cap) (list_from cap (b + (14 + k)) (i + 1) w) (Ok (record { bytes = b; next = i }))) (len_is h e t.0)
      ∙ go (either (ltb c cap)) (listing_counts cap es w c (i + 1) t.2)
    where
      c : ℕ
      c = b + (14 + length e.name)

      go : (ltb c cap ≡ true) ⊎ (ltb c cap ≡ false)
          → list_from cap c (i + 1) w ≡ Ok (record { bytes = c + records_long (take (fitting cap c es) es); next = i + 1 + fitting cap c es })
          → pick (ltb c cap) (list_from cap c (i + 1) w) (Ok (record { bytes = b; next = i }))
          ≡ Ok (record { bytes = b + records_long (take (fitting cap b (e ∷ es)) (e ∷ es)); next = i + fitting cap b (e ∷ es) })
      go (inl y) r =
          let m : ℕ = fitting cap c es in
          let p : c + records_long (take m es) ≡ b + (14 + length e.name + records_long (take m es)) = omega arith in
          let q : i + 1 + m ≡ i + suc m = omega arith in
          pick_true _ _ y ∙ r ∙ (λ j. Ok (record { bytes = p j; next = q j }))
          ∙ sym (ap (λ (k : ℕ). Ok (record { bytes = b + records_long (take k (e ∷ es)); next = i + k })) (pick_true (suc m) 0 y))
      go (inr y) r =
          let m : ℕ = fitting cap c es in
          pick_false _ _ y ∙ (λ j. Ok (record { bytes = sym (add-zero b) j; next = sym (add-zero i) j }))
          ∙ sym (ap (λ (k : ℕ). Ok (record { bytes = b + records_long (take k (e ∷ es)); next = i + k })) (pick_false (suc m) 0 y))

  -- and the bytes are those of their records.
  listing_records : (cap : ℕ) (es : List (Entry X)) (w : Walk) (b : ℕ) → Tells es w → records_from cap b w ≡ records_of v (take (fitting cap b es) es)
  unfolding records_from records_of fitting
  listing_records cap [] (item h a o x w) b t = absurd t
  listing_records cap [] finished b t = refl
  listing_records cap [] damaged b t = absurd t
  listing_records cap (e ∷ es) finished b t = absurd t
  listing_records cap (e ∷ es) damaged b t = absurd t
  listing_records cap (e ∷ es) (item h a o x w) b t =
      ap (λ (k : ℕ). pick (ltb (b + (14 + k)) cap) (record_of h x ++ records_from cap (b + (14 + k)) w) []) (len_is h e t.0)
      ∙ go (either (ltb c cap)) (listing_records cap es w c t.2)
    where
      c : ℕ
      c = b + (14 + length e.name)

      go : (ltb c cap ≡ true) ⊎ (ltb c cap ≡ false) → records_from cap c w ≡ records_of v (take (fitting cap c es) es)
          → pick (ltb c cap) (record_of h x ++ records_from cap c w) [] ≡ records_of v (take (fitting cap b (e ∷ es)) (e ∷ es))
      go (inl y) r =
          let m : ℕ = fitting cap c es in
          pick_true _ _ y ∙ (λ j. record_of (t.0 j) (t.1 j) ++ r j) ∙ sym (ap (λ (k : ℕ). records_of v (take k (e ∷ es))) (pick_true (suc m) 0 y))
      go (inr y) r =
          let m : ℕ = fitting cap c es in
          pick_false _ _ y ∙ sym (ap (λ (k : ℕ). records_of v (take k (e ∷ es))) (pick_false (suc m) 0 y))

  -- ---- the listing of a directory

  module _ (i cap : ℕ) (bs : List (Block X)) where
    remaining : Tells (drop i (entries_of bs)) (skip i (walk_of v bs))
    remaining = tells_skip i (entries_of bs) (walk_of v bs) (tells_walk bs)

    -- The answer is the bytes of the entries that it shows, and the number after them; the bytes are those of their records.
    pub dir_counts : list_from cap 0 i (skip i (walk_of v bs)) ≡ Ok (record { bytes = records_long (listed_from i cap (entries_of bs)); next = i + length (listed_from i cap (entries_of bs)) })
    unfolding listed_from
    dir_counts =
        let a : 0 + records_long (listed_from i cap (entries_of bs)) ≡ records_long (listed_from i cap (entries_of bs)) = zero-add _ in
        let c : i + fitting cap 0 (drop i (entries_of bs)) ≡ i + length (listed_from i cap (entries_of bs)) = ap (λ (k : ℕ). i + k) (listed_count i cap (entries_of bs)) in
        listing_counts cap (drop i (entries_of bs)) (skip i (walk_of v bs)) 0 i remaining ∙ λ j. Ok (record { bytes = a j; next = c j })

    pub dir_records : records_from cap 0 (skip i (walk_of v bs)) ≡ records_of v (listed_from i cap (entries_of bs))
    unfolding listed_from
    dir_records = listing_records cap (drop i (entries_of bs)) (skip i (walk_of v bs)) 0 remaining
