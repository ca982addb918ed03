-- The directory that the check finds, over any check of what is below it.
use mathlib.Core.Path.{◌≡◌, refl, sym, ap, ◌∙◌, subst}
use mathlib.Core.Bool.{true}
use mathlib.Core.Option.{Option}
use mathlib.Core.List.{List, [], ◌∷◌, ◌++◌, append_assoc}
use Prim.Native.Nat.{ℕ, ◌+◌, ◌-◌, ◌*◌, ◌^◌, ◌≤◌, ◌<◌}
use native.Mathlib.Omega.{arith}
use lib.Dec.{leb, eqb}
use lib.ListN.{length}
use borrow.Author.Tests.{eqb-true, leb-true}
use Rattle.wire.specs.Be.{bytes}
use Rattle.wire.specs.Pick.{pick, same}
use Rattle.wire.proofs.Numbers.{length_bytes}
use Rattle.wire.proofs.Picks.{not_both}
use Rattle.block.specs.Block.{Area}
use Rattle.model.specs.Tree.{Name, Node, file, device, Entry, Block, called, weight, used, Filled, Packed}
use Rattle.model.specs.Render.{Piece, View, blocks_at, padded, kind_of, address_of, size_of, entry_bytes, entries_bytes, node_pieces, entry_pieces, dir_pieces, ats, count, Shows, ShowsAll}
use Rattle.model.specs.Volume.{All, named, named_in, file_limit, blocks_for, GoodNode, GoodEntry, GoodBlock, GoodDir}
use Rattle.model.specs.Steps.{Bytes}
use Rattle.model.proofs.Commit.{shows_both}
use Rattle.model.proofs.Counts.{count_cons, count_none, count_append, ats-append}
use Rattle.model.proofs.Frame.{shows_append}
use Rattle.dir_entry.specs.declared.Kind.{Kind}
use Rattle.dir_entry.specs.declared.Kind.TheVariants as kind
use Rattle.dir_entry.specs.declared.DirEntry.{DirEntry}
use Rattle.dir_entry.specs.Entry.{kind_byte, head_bytes, place_at}
use Rattle.check_names.specs.Names.{distinct}
use Rattle.thm_survey.specs.Survey.{Raw, RawBlock, names_of, all_names, has_some, Claimed, cells_of, chain_of, blocks_of, sub_of, node_of, entries_of, dir_of, check_dir}
use Rattle.thm_survey.proofs.SoundLaws.{Each, each_some, each_then, each_test, each_with, Claims, claims_none, claims_both, claims_same}
use Rattle.thm_survey.proofs.SoundCells.{cells_found, chain_found}
use Rattle.thm_survey.proofs.SoundRaws.{GoodRaw, raw_bytes, raws_bytes, raws_used, raws_at, raw_ats, BlockFound, ChainFound, RawFilled, RawPacked, blocks_found}
use Rattle.thm_survey.proofs.Distinct.{times, times_append, distinct_once}

-- a directory's blocks: its own, and those below
blocks-split : (i a : ℕ) (ps qs : List Piece) (own inner : List ℕ) → count i (ats qs) ≡ count i own + count i inner
    → count i (a ∷ ats (ps ++ qs)) ≡ count i (a ∷ own) + count i (ats ps ++ inner)
blocks-split i a ps qs own inner e =
    let x : count i (ats (ps ++ qs)) ≡ count i (ats ps) + count i (ats qs) = ap (count i) (ats-append ps qs) ∙ count_append i (ats ps) (ats qs) in
    omega (arith, count_cons i a (ats (ps ++ qs)), count_cons i a own, count_append i (ats ps) inner)

-- ---- over any check of what is below

module _ {X : Type 0} (A : Area) (I : List ℕ) (v : View X) (S : X → Type 0) where
  -- What is found below, from a on.
  pub record BelowFound (a : ℕ) (seen : List ℕ) (c : Claimed X) : Type 0 where
    pub good : S c.found
    pub shown : ShowsAll A.size I (v.pieces c.found)
    pub first : v.from c.found ≡ a
    pub claims : Claims A seen c.seen (ats (v.pieces c.found))

  -- What is found for an entry of kind k with the fixed part e.
  pub record NodeFound (k : Kind) (e : DirEntry) (seen : List ℕ) (c : Claimed (Node X)) : Type 0 where
    pub kind : kind_of c.found ≡ kind_byte k
    pub address : address_of v c.found ≡ e.addr.0
    pub size : size_of v c.found ≡ e.size
    pub good : e.size < 2 ^ 32 → GoodNode A.size S c.found
    pub shown : ShowsAll A.size I (node_pieces v c.found)
    pub claims : Claims A seen c.seen (ats (node_pieces v c.found))

  -- What is found for the entries of a block.
  pub record EntriesFound (rs : List Raw) (seen : List ℕ) (c : Claimed (List (Entry X))) : Type 0 where
    pub same_bytes : entries_bytes v c.found ≡ raws_bytes rs
    pub same_used : used c.found ≡ raws_used rs
    pub same_names : (x : Name) → named x c.found ≡ times x (names_of rs)
    pub some_entry : has_some rs ≡ true → 1 ≤ length c.found
    pub good : All (GoodEntry A.size S) c.found
    pub shown : ShowsAll A.size I (entry_pieces v c.found)
    pub claims : Claims A seen c.seen (ats (entry_pieces v c.found))

  -- What is found for the blocks of a directory, of which `inner` are the blocks below.
  pub record DirFound (bs : List RawBlock) (seen : List ℕ) (c : Claimed (List (Block X))) : Type 0 where
    pub first : blocks_at c.found ≡ raws_at bs
    pub filled : RawFilled bs → Filled c.found
    pub packed : RawPacked bs → Packed c.found
    pub same_names : (x : Name) → named_in x c.found ≡ times x (all_names bs)
    pub good : All (GoodBlock A.size S) c.found
    pub shown : ShowsAll A.size I (dir_pieces A.size v c.found)
    pub inner : List ℕ
    pub split : (i : ℕ) → count i (ats (dir_pieces A.size v c.found)) ≡ count i (raw_ats bs) + count i inner
    pub claims : Claims A seen c.seen inner

  -- What is found for a directory from a on: it is good, the image shows it, and exactly its blocks were claimed.
  pub record CheckFound (a : ℕ) (seen : List ℕ) (c : Claimed (List (Block X))) : Type 0 where
    pub good : GoodDir A.size S c.found
    pub shown : ShowsAll A.size I (dir_pieces A.size v c.found)
    pub first : blocks_at c.found ≡ a
    pub claims : Claims A seen c.seen (ats (dir_pieces A.size v c.found))

  -- ---- one entry more, one block more

  entry_same : (r : Raw) (x : Node X) → kind_of x ≡ kind_byte r.head.kind → address_of v x ≡ r.head.addr.0 → size_of v x ≡ r.head.size → r.head.len ≡ length r.name
      → entry_bytes v (record { name = r.name; time = r.head.time; node = x }) ≡ raw_bytes r
  unfolding entry_bytes raw_bytes head_bytes bytes
  entry_same r x k a s l = rw (k, a, s, l) (simp append_assoc)

  no_entries : (seen : List ℕ) → EntriesFound [] seen (record { found = []; seen = seen })
  unfolding entries_bytes raws_bytes used raws_used named times names_of entry_pieces ats has_some
  no_entries seen =
      record { same_bytes = refl; same_used = refl; same_names = λ x. refl; some_entry = λ h. absurd (not_both h refl); good = tt; shown = tt; claims = claims_none A seen }

  entry_more : (r : Raw) (rs : List Raw) (seen : List ℕ) (x : Claimed (Node X)) (c : Claimed (List (Entry X))) → GoodRaw r → NodeFound r.head.kind r.head seen x
      → EntriesFound rs x.seen c
      → EntriesFound (r ∷ rs) seen (record { found = record { name = r.name; time = r.head.time; node = x.found } ∷ c.found; seen = c.seen })
  unfolding entries_bytes raws_bytes used weight raws_used named called times names_of entry_pieces has_some
  entry_more r rs seen x c g h f =
      record {
        same_bytes = let p = entry_same r x.found h.kind h.address h.size g.len in let q = f.same_bytes in cc;
        same_used = omega (arith, f.same_used);
        same_names = λ y. ap (λ (k : ℕ). pick (same y r.name) 1 0 + k) (f.same_names y);
        some_entry = λ _. omega arith;
        good = (record { good_name = g.good_name; clock = g.time; below = h.good g.size }, f.good);
        shown = shows_append A.size I (node_pieces v x.found) (entry_pieces v c.found) h.shown f.shown;
        claims = subst (Claims A seen c.seen) (sym (ats-append (node_pieces v x.found) (entry_pieces v c.found)))
            (claims_both A seen x.seen c.seen (ats (node_pieces v x.found)) (ats (entry_pieces v c.found)) h.claims f.claims);
      }

  no_blocks : (seen : List ℕ) → DirFound [] seen (record { found = []; seen = seen })
  unfolding blocks_at raws_at named_in times all_names dir_pieces ats raw_ats
  no_blocks seen =
      record { first = refl; filled = λ h. h; packed = λ h. h; same_names = λ x. refl; good = tt; shown = tt; inner = []; split = λ i. omega (arith, count_none i); claims = claims_none A seen }

  block_shown : (b : RawBlock) (es : List (Entry X)) (z : ℕ) → BlockFound A.size I b z → entries_bytes v es ≡ raws_bytes b.raws
      → Shows I (A.size * b.at) (bytes 4 z ++ padded (A.size - 4) (entries_bytes v es))
  block_shown b es z f e =
      let l : List ℕ = padded (A.size - 4) (raws_bytes b.raws) in
      let x : A.size - 4 - 0 ≡ A.size - 4 = omega arith in
      let y : place_at A.size b.at 0 ≡ A.size * b.at + length (bytes 4 z) = omega (arith, length_bytes 4 z) in
      let s : Shows I (place_at A.size b.at 0) l = subst (λ (j : ℕ). Shows I (place_at A.size b.at 0) (padded j (raws_bytes b.raws))) x f.raws.shown in
      let t : Shows I (A.size * b.at + length (bytes 4 z)) l = subst (λ (j : ℕ). Shows I j l) y s in
      subst (λ (m : List ℕ). Shows I (A.size * b.at) (bytes 4 z ++ padded (A.size - 4) m)) (sym e) (shows_both I (A.size * b.at) (bytes 4 z) l f.link t)

  block_more : (b : RawBlock) (bs : List RawBlock) (seen : List ℕ) (x : Claimed (List (Entry X))) (c : Claimed (List (Block X))) → BlockFound A.size I b (raws_at bs)
      → EntriesFound b.raws seen x → DirFound bs x.seen c → DirFound (b ∷ bs) seen (record { found = record { at = b.at; entries = x.found } ∷ c.found; seen = c.seen })
  unfolding blocks_at raws_at named_in all_names dir_pieces ats raw_ats
  block_more b bs seen x c k e f =
      let ps : List ℕ = ats (entry_pieces v x.found) in
      record {
        first = refl;
        filled = λ h. (e.some_entry h.0, f.filled h.1);
        packed = f.filled;
        same_names = λ y. omega (arith, e.same_names y, f.same_names y, times_append y (names_of b.raws) (all_names bs));
        good = (record { fits = omega (arith, k.raws.ends, e.same_used); each = e.good }, f.good);
        shown = (
          subst (λ (z : ℕ). Shows I (A.size * b.at) (bytes 4 z ++ padded (A.size - 4) (entries_bytes v x.found))) (sym f.first) (block_shown b x.found (raws_at bs) k e.same_bytes),
          shows_append A.size I (entry_pieces v x.found) (dir_pieces A.size v c.found) e.shown f.shown,
        );
        inner = ps ++ f.inner;
        split = λ i. blocks-split i b.at (entry_pieces v x.found) (dir_pieces A.size v c.found) (raw_ats bs) f.inner (f.split i);
        claims = claims_both A seen x.seen c.seen ps f.inner e.claims f.claims;
      }

  -- ---- the checks

  module _ (large : 5 ≤ A.size) (all_bytes : Bytes I) (fits : A.end * A.size ≤ length I) (below : ℕ → List ℕ → Option (Claimed X)) (size : X → ℕ)
      (sizes : (x : X) → size x ≡ v.size x) (found : (a : ℕ) (seen : List ℕ) → Each (BelowFound a seen) (below a seen)) where
    sub_found : (e : DirEntry) (seen : List ℕ) → Each (NodeFound kind.Dir e seen) (sub_of A I below size e seen)
    unfolding sub_of kind_of address_of size_of node_pieces
    sub_found e seen =
        each_then (NodeFound kind.Dir e seen) (below e.addr.0 seen) _
        (λ c f. each_test (NodeFound kind.Dir e seen) (eqb e.size (size c.found)) _
        (λ t.
        let h : BelowFound e.addr.0 seen c = (found e.addr.0 seen).is c f in
        each_some (NodeFound kind.Dir e seen) _
        (record {
          kind = refl;
          address = h.first;
          size = sym (eqb-true e.size (size c.found) t ∙ sizes c.found);
          good = λ _. h.good;
          shown = h.shown;
          claims = h.claims;
        })))

    node_found : (k : Kind) (e : DirEntry) (seen : List ℕ) → Each (NodeFound k e seen) (node_of A I below size k e seen)
    unfolding node_of kind_of address_of size_of node_pieces
    node_found kind.Dir e seen = sub_found e seen
    node_found kind.File e seen =
        each_test (NodeFound kind.File e seen) (leb e.size file_limit) _
        (λ t. each_with (NodeFound kind.File e seen) (file e.size) (cells_of A I (blocks_for A.size e.size) e.addr.0 seen)
        (λ c f.
        let h = (cells_found A I (omega arith) all_bytes fits (blocks_for A.size e.size) e.addr.0 seen).is c f in
        record {
          kind = refl;
          address = h.cells.first;
          size = refl;
          good = λ _. record { limit = leb-true e.size file_limit t; long = h.long; cells = h.cells.good };
          shown = h.cells.shown;
          claims = h.cells.claims;
        }))
    node_found kind.Device e seen =
        each_with (NodeFound kind.Device e seen) (device e.size) (chain_of A I (A.end - A.first) e.addr.0 seen)
        (λ c f.
        let h = (chain_found A I (omega arith) all_bytes fits (A.end - A.first) e.addr.0 seen).is c f in
        record {
          kind = refl;
          address = h.cells.first;
          size = refl;
          good = λ l. record { limit = l; some_block = h.some_block; cells = h.cells.good };
          shown = h.cells.shown;
          claims = h.cells.claims;
        })

    entries_found : (rs : List Raw) (seen : List ℕ) → All GoodRaw rs → Each (EntriesFound rs seen) (entries_of A I below size rs seen)
    unfolding entries_of
    entries_found [] seen g = each_some (EntriesFound [] seen) _ (no_entries seen)
    entries_found (r ∷ rs) seen g =
        each_then (EntriesFound (r ∷ rs) seen) (node_of A I below size r.head.kind r.head seen) _
        (λ x e. each_with (EntriesFound (r ∷ rs) seen) _ (entries_of A I below size rs x.seen)
        (λ c f. entry_more r rs seen x c g.0 ((node_found r.head.kind r.head seen).is x e) ((entries_found rs x.seen g.1).is c f)))

    dir_found : (bs : List RawBlock) (seen : List ℕ) → ChainFound A.size I bs → Each (DirFound bs seen) (dir_of A I below size bs seen)
    unfolding dir_of
    dir_found [] seen k = each_some (DirFound [] seen) _ (no_blocks seen)
    dir_found (b ∷ bs) seen k =
        each_then (DirFound (b ∷ bs) seen) (entries_of A I below size b.raws seen) _
        (λ x e. each_with (DirFound (b ∷ bs) seen) _ (dir_of A I below size bs x.seen)
        (λ c f. block_more b bs seen x c k.0 ((entries_found b.raws seen k.0.raws.good).is x e) ((dir_found bs x.seen k.1).is c f)))

    -- A directory that is found is so.
    pub check_found : (a : ℕ) (seen : List ℕ) → Each (CheckFound a seen) (check_dir A I below size a seen)
    unfolding check_dir
    check_found a seen =
        each_then (CheckFound a seen) (blocks_of A I a seen) _
        (λ r e. each_test (CheckFound a seen) (distinct (all_names r.found)) _
        (λ t. record {
          is = λ c f.
              let h = (blocks_found A I large all_bytes fits a seen).is r e in
              let g : DirFound r.found r.seen c = (dir_found r.found r.seen h.blocks.chain).is c f in
              record {
                good = record { packed = g.packed h.packed; distinct = λ x. omega (arith, g.same_names x, distinct_once (all_names r.found) t x); all = g.good };
                shown = g.shown;
                first = g.first ∙ h.blocks.first;
                claims = claims_same A seen c.seen (raw_ats r.found ++ g.inner) (ats (dir_pieces A.size v c.found))
                    (λ i. omega (arith, g.split i, count_append i (raw_ats r.found) g.inner))
                    (claims_both A seen r.seen c.seen (raw_ats r.found) g.inner h.blocks.claims g.claims);
              };
        }))
