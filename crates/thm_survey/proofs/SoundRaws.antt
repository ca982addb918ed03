-- The blocks of entries that the check finds: the image shows the entries' bytes, then zeros.
use Rattle.std.specs.Prelude.{Some, None}
use Rattle.std.specs.Prelude as prelude
use mathlib.Core.Path.{◌≡◌, refl, sym, ap, ◌∙◌, subst}
use mathlib.Core.Bool.{true, not}
use mathlib.Core.Option.{Option, some}
use mathlib.Core.List.{List, [], ◌∷◌, ◌++◌}
use Prim.Native.Nat.{ℕ, zero, suc, ◌+◌, ◌-◌, ◌*◌, ◌^◌, ◌≤◌, ◌<◌}
use native.Mathlib.Omega.{arith}
use lib.Dec.{eqb}
use lib.ListN.{length, get_or, length-append, get_or-replicate}
use borrow.Author.Tests.{eqb-true}
use Rattle.wire.specs.Be.{be, bytes}
use Rattle.wire.specs.Pick.{zero_from}
use Rattle.wire.proofs.Zeros.{zeros_shown}
use Rattle.wire.proofs.Picks.{and_both}
use Rattle.block.specs.Block.{Area, next}
use Rattle.model.specs.Tree.{Name}
use Rattle.model.specs.Render.{padded, Shows}
use Rattle.model.specs.Volume.{All, GoodName}
use Rattle.model.specs.Steps.{Bytes}
use Rattle.model.proofs.Commit.{shows_both}
use Rattle.model.proofs.Full.{length-padded, padded-none, padded-after}
use Rattle.model.proofs.Entries.{bytes_shown, be_fits}
use Rattle.model.proofs.Areas.{row_inside}
use Rattle.dir_entry.specs.declared.DirEntry.{DirEntry}
use Rattle.dir_entry.specs.Entry.{header, entry_at, head_bytes, place_at, name_at, slot_at}
use Rattle.dir_entry.proofs.Heads.{head_shown, length_head}
use Rattle.dir_entry.proofs.Slots.{Stands, slot_stands}
use Rattle.text.specs.Text.{is_name}
use Rattle.thm_survey.specs.Survey.{Raw, passes, RawBlock, has_some, Claimed, by_slot, claim, raws_from, later_of, blocks_of}
use Rattle.thm_survey.proofs.SoundLaws.{Each, each_none, each_some, each_then, each_pick, each_test, each_with, Claims, claims_none, claims_both, Claim, each_claim}
use Rattle.thm_survey.proofs.SoundCells.{part_shown, part_long}

-- ---- one entry

passes_bytes : (e : DirEntry) (x : Name) → passes e x ≡ true → is_name x ≡ true
unfolding passes
passes_bytes e x h = (and_both (not (eqb e.addr.0 0)) (is_name x) h).1

-- An entry's fixed part and name that can stand in a block.
pub record GoodRaw (r : Raw) : Type 0 where
  pub good_name : GoodName r.name
  pub len : r.head.len ≡ length r.name
  pub size : r.head.size < 2 ^ 32
  pub time : r.head.time < 2 ^ 64

-- Its bytes, those of a block's entries, and how many they are.
unfoldable pub raw_bytes : Raw → List ℕ
raw_bytes r = head_bytes r.head ++ r.name

unfoldable pub raws_bytes : List Raw → List ℕ
raws_bytes [] = []
raws_bytes (r ∷ rs) = raw_bytes r ++ raws_bytes rs

unfoldable pub raws_used : List Raw → ℕ
raws_used [] = 0
raws_used (r ∷ rs) = 18 + length r.name + raws_used rs

-- ---- zeros

rest_shown : (I : List ℕ) (p k : ℕ) → zero_from I p k ≡ true → Shows I p (padded k [])
rest_shown I p k h i q =
    let m : i < k = omega (arith, length-padded k [] (omega arith)) in
    zeros_shown I p k h i m ∙ sym (get_or-replicate k i 0 0 m) ∙ ap (λ (l : List ℕ). get_or l i 0) (sym (padded-none k))

-- What is found in block a from offset o on: the image shows it there, then zeros; its entries are good and end by B - 5.
pub record RawsFound (B : ℕ) (I : List ℕ) (a o : ℕ) (rs : List Raw) : Type 0 where
  pub shown : Shows I (place_at B a o) (padded (B - 4 - o) (raws_bytes rs))
  pub good : All GoodRaw rs
  pub ends : o + raws_used rs ≤ B - 5

each_slot : {X : Type 0} (P : X → Type 0) (s : prelude.Option DirEntry) (f : DirEntry → Option X) (o : Option X)
    → ((e : DirEntry) → s ≡ Some e → Each P (f e)) → Each P o → Each P (by_slot s f o)
unfolding by_slot
each_slot P (Some e) f o h k = h e refl
each_slot P None f o h k = k

module _ (A : Area) (I : List ℕ) (all_bytes : Bytes I) (a : ℕ) (whole : A.size * a + A.size ≤ length I) where
  abbrev raw_at : ℕ → DirEntry → Raw
  raw_at o e = record { head = e; name = name_at I (place_at A.size a o) e.len }

  raw_good : (o : ℕ) (e : DirEntry) → Stands A.size I a o e → is_name (name_at I (place_at A.size a o) e.len) ≡ true → GoodRaw (raw_at o e)
  unfolding entry_at
  raw_good o e s h =
      let p : ℕ = place_at A.size a o in
      let x : e ≡ entry_at I p = s.is in
      let q : p + 18 + e.len ≤ length I = omega (arith, s.offset, s.ends) in
      let l : length (name_at I p e.len) ≡ e.len = part_long I (p + 18) e.len q in
      let k : e.len ≡ get_or I (p + 17) 0 = ap (λ (d : DirEntry). d.len) x in
      let z : e.size ≡ be 4 I (p + 5) = ap (λ (d : DirEntry). d.size) x in
      let t : e.time ≡ be 8 I (p + 9) = ap (λ (d : DirEntry). d.time) x in
      let y : e.len < 256 = omega (arith, all_bytes (p + 17)) in
      record {
        good_name = record { some_bytes = omega (arith, s.some); few_bytes = omega arith; allowed = h };
        len = sym l;
        size = subst (λ (j : ℕ). j < 2 ^ 32) (sym z) (be_fits 4 I (p + 5) all_bytes);
        time = subst (λ (j : ℕ). j < 2 ^ 64) (sym t) (be_fits 8 I (p + 9) all_bytes);
      }

  raw_shown : (o : ℕ) (e : DirEntry) → Stands A.size I a o e → Shows I (place_at A.size a o) (raw_bytes (raw_at o e))
  unfolding raw_bytes
  raw_shown o e s =
      let p : ℕ = place_at A.size a o in
      let q : p + 18 + e.len ≤ length I = omega (arith, s.offset, s.ends) in
      let x : Shows I p (head_bytes e) = subst (λ (d : DirEntry). Shows I p (head_bytes d)) (sym s.is) (head_shown I p all_bytes s.kind) in
      let j : p + 18 ≡ p + length (head_bytes e) = omega (arith, length_head e) in
      let y : Shows I (p + length (head_bytes e)) (name_at I p e.len) = subst (λ (z : ℕ). Shows I z (name_at I p e.len)) j (part_shown I (p + 18) e.len q) in
      shows_both I p (head_bytes e) (name_at I p e.len) x y

  raw_long : (o : ℕ) (e : DirEntry) → Stands A.size I a o e → length (raw_bytes (raw_at o e)) ≡ 18 + e.len
  unfolding raw_bytes
  raw_long o e s =
      let p : ℕ = place_at A.size a o in
      let q : p + 18 + e.len ≤ length I = omega (arith, s.offset, s.ends) in
      length-append (head_bytes e) (name_at I p e.len) ∙ omega (arith, length_head e, part_long I (p + 18) e.len q)

  raws_more : (o : ℕ) (e : DirEntry) (rs : List Raw) → Stands A.size I a o e → is_name (name_at I (place_at A.size a o) e.len) ≡ true
      → RawsFound A.size I a (o + header + e.len) rs → RawsFound A.size I a o (raw_at o e ∷ rs)
  unfolding raws_bytes raws_used
  raws_more o e rs s h f =
      let p : ℕ = place_at A.size a o in
      let r : Raw = raw_at o e in
      let g : GoodRaw r = raw_good o e s h in
      let k : length (raw_bytes r) ≡ 18 + e.len = raw_long o e s in
      let x : place_at A.size a (o + header + e.len) ≡ p + length (raw_bytes r) = omega arith in
      let y : A.size - 4 - (o + header + e.len) ≡ A.size - 4 - o - length (raw_bytes r) = omega arith in
      let w : Shows I (p + length (raw_bytes r)) (padded (A.size - 4 - o - length (raw_bytes r)) (raws_bytes rs))
      = subst (λ (j : ℕ). Shows I j (padded (A.size - 4 - o - length (raw_bytes r)) (raws_bytes rs))) x
      (subst (λ (j : ℕ). Shows I (place_at A.size a (o + header + e.len)) (padded j (raws_bytes rs))) y f.shown) in
      record {
        shown = subst (Shows I p) (sym (padded-after (A.size - 4 - o) (raw_bytes r) (raws_bytes rs)))
            (shows_both I p (raw_bytes r) (padded (A.size - 4 - o - length (raw_bytes r)) (raws_bytes rs)) (raw_shown o e s) w);
        good = (g, f.good);
        ends = omega (arith, f.ends, g.len);
      }

  -- Whatever `raws_from` finds stands there so.
  raws_found : (f o : ℕ) → o ≤ A.size - 5 → Each (RawsFound A.size I a o) (raws_from A.size I f a o)
  unfolding raws_from
  raws_found zero o l = each_none (RawsFound A.size I a o)
  raws_found (suc f) o l =
      each_slot (RawsFound A.size I a o) (slot_at A.size I a o) _ _
      (λ e q.
      let s : Stands A.size I a o e = slot_stands A.size I a o e q in
      each_test (RawsFound A.size I a o) (passes e (name_at I (place_at A.size a o) e.len)) _
      (λ t. each_then (RawsFound A.size I a o) (raws_from A.size I f a (o + header + e.len)) _
      (λ rs g. each_some (RawsFound A.size I a o) _ (raws_more o e rs s (passes_bytes e _ t) ((raws_found f (o + header + e.len) (omega (arith, s.ends))).is rs g)))))
      (each_test (RawsFound A.size I a o) (zero_from I (place_at A.size a o) (A.size - 4 - o)) _
      (λ t. each_some (RawsFound A.size I a o) [] (last o l t)))
    where
      last : (o : ℕ) → o ≤ A.size - 5 → zero_from I (place_at A.size a o) (A.size - 4 - o) ≡ true → RawsFound A.size I a o []
      last o l t = unfold raws_bytes in unfold raws_used in record { shown = rest_shown I (place_at A.size a o) (A.size - 4 - o) t; good = tt; ends = omega arith }

-- ---- a directory's blocks

-- the first address, 0 where there is none; all addresses
unfoldable pub raws_at : List RawBlock → ℕ
raws_at [] = 0
raws_at (b ∷ bs) = b.at

unfoldable pub raw_ats : List RawBlock → List ℕ
raw_ats [] = []
raw_ats (b ∷ bs) = b.at ∷ raw_ats bs

-- A block of entries, and the next address after it.
pub record BlockFound (B : ℕ) (I : List ℕ) (b : RawBlock) (z : ℕ) : Type 0 where
  pub link : Shows I (B * b.at) (bytes 4 z)
  pub raws : RawsFound B I b.at 0 b.raws

-- Blocks of which each has the next one's address.
abbrev pub ChainFound : ℕ → List ℕ → List RawBlock → Type 0
ChainFound B I [] = Unit {0}
ChainFound B I (b ∷ bs) = BlockFound B I b (raws_at bs) × ChainFound B I bs

-- each block has an entry; there is a first, and each later one has
abbrev pub RawFilled : List RawBlock → Type 0
RawFilled [] = Unit {0}
RawFilled (b ∷ bs) = (has_some b.raws ≡ true) × RawFilled bs

abbrev pub RawPacked : List RawBlock → Type 0
RawPacked [] = ⊥
RawPacked (b ∷ bs) = RawFilled bs

-- What is found for a directory's blocks from a on.
pub record RawFound (A : Area) (I : List ℕ) (a : ℕ) (seen : List ℕ) (c : Claimed (List RawBlock)) : Type 0 where
  pub first : raws_at c.found ≡ a
  pub chain : ChainFound A.size I c.found
  pub claims : Claims A seen c.seen (raw_ats c.found)

module _ (A : Area) (I : List ℕ) (large : 5 ≤ A.size) (all_bytes : Bytes I) (fits : A.end * A.size ≤ length I) where
  raw_end : (a : ℕ) (seen : List ℕ) → a ≡ 0 → RawFound A I a seen (record { found = []; seen = seen })
  unfolding raws_at raw_ats
  raw_end a seen z = record { first = sym z; chain = tt; claims = claims_none A seen }

  raw_more : (a : ℕ) (seen now : List ℕ) (rs : List Raw) (c : Claimed (List RawBlock)) → claim A I a seen ≡ some now → raws_from A.size I A.size a 0 ≡ some rs
      → RawFound A I (next A.size I a) now c → RawFound A I a seen (record { found = record { at = a; raws = rs } ∷ c.found; seen = c.seen })
  unfolding raws_at raw_ats next
  raw_more a seen now rs c e g f =
      let k : Claim A a seen now = (each_claim A I a seen).is now e in
      let w : A.size * a + A.size ≤ length I = row_inside A.size A.end (length I) a fits k.high in
      record {
        first = refl;
        chain = (
          record {
            link = subst (λ (z : ℕ). Shows I (A.size * a) (bytes 4 z)) (sym f.first) (bytes_shown 4 I (A.size * a) all_bytes);
            raws = (raws_found A I all_bytes a w A.size 0 (omega arith)).is rs g;
          },
          f.chain,
        );
        claims = claims_both A seen now c.seen (a ∷ []) (raw_ats c.found) k.claims f.claims;
      }

  -- later blocks, each with an entry
  record LaterFound (a : ℕ) (seen : List ℕ) (c : Claimed (List RawBlock)) : Type 0 where
    blocks : RawFound A I a seen c
    filled : RawFilled c.found

  later_found : (k a : ℕ) (seen : List ℕ) → Each (LaterFound a seen) (later_of A I k a seen)
  unfolding later_of
  later_found zero a seen =
      each_test (LaterFound a seen) (eqb a 0) _
      (λ t. each_some (LaterFound a seen) _ (record { blocks = raw_end a seen (eqb-true a 0 t); filled = tt }))
  later_found (suc k) a seen =
      each_pick (LaterFound a seen) (eqb a 0) _ _
      (λ t. each_some (LaterFound a seen) _ (record { blocks = raw_end a seen (eqb-true a 0 t); filled = tt }))
      (λ _. each_then (LaterFound a seen) (claim A I a seen) _
      (λ now e. each_then (LaterFound a seen) (raws_from A.size I A.size a 0) _
      (λ rs g. each_test (LaterFound a seen) (has_some rs) _
      (λ t. each_with (LaterFound a seen) _ (later_of A I k (next A.size I a) now)
      (λ c f.
      let h : LaterFound (next A.size I a) now c = (later_found k (next A.size I a) now).is c f in
      record { blocks = raw_more a seen now rs c e g h.blocks; filled = (t, h.filled) })))))

  -- All blocks of a directory.
  pub record BlocksFound (a : ℕ) (seen : List ℕ) (c : Claimed (List RawBlock)) : Type 0 where
    pub blocks : RawFound A I a seen c
    pub packed : RawPacked c.found

  -- Whatever `blocks_of` finds is so.
  pub blocks_found : (a : ℕ) (seen : List ℕ) → Each (BlocksFound a seen) (blocks_of A I a seen)
  unfolding blocks_of
  blocks_found a seen =
      each_then (BlocksFound a seen) (claim A I a seen) _
      (λ now e. each_then (BlocksFound a seen) (raws_from A.size I A.size a 0) _
      (λ rs g. each_with (BlocksFound a seen) _ (later_of A I (A.end - A.first - 1) (next A.size I a) now)
      (λ c f.
      let h : LaterFound (next A.size I a) now c = (later_found (A.end - A.first - 1) (next A.size I a) now).is c f in
      record { blocks = raw_more a seen now rs c e g h.blocks; packed = h.filled })))
