-- What an accepted delete tells of the image: the directory, the entry there, and the directory's own entry.
use mathlib.Core.Path.{◌≡◌, refl, sym, ap, ◌∙◌}
use mathlib.Core.Bool.{Bool, true, false}
use mathlib.Core.Logic.{◌⊎◌, inl, inr}
use mathlib.Core.List.{List, [], ◌∷◌}
use Prim.Native.Nat.{ℕ, ◌-◌, ◌<◌}
use native.Mathlib.Omega.{arith}
use Rattle.wire.proofs.Picks.{either}
use Rattle.block.specs.Block.{Area}
use Rattle.model.specs.Answers.{Reply, accepted, refused, when, given}
use Rattle.model.specs.Geometry.{area_of, Geo, block_size}
use Rattle.model.proofs.Replies.{not_accepted, given_yes, given_no, then-accepted, first_refused}
use Rattle.dir_entry.proofs.Slots.{slot_stands}
use Rattle.std.specs.Prelude.{Some, None, Ok, Err}
use Rattle.limits.specs.Says.{damage}
use Rattle.read_dir.specs.declared.Placed.{Placed}
use Rattle.read_dir.specs.Walk.{in_area, walk}
use Rattle.read_dir.specs.Finds.{find_in}
use Rattle.read_dir.specs.Cursor.{Lies}
use Rattle.read_dir.proofs.Items.{found_item}
use Rattle.read_dir.proofs.Unroll.{area_true, chain_out}
use Rattle.path.specs.Path.{last_name, dir_part}
use Rattle.dir.specs.Resolve.{on_placed, on_name}
use Rattle.dir.specs.Hold.{Hold, hold_dir}
use Rattle.thm_path.proofs.Finds.{Looked, found}
use Rattle.delete.specs.Deleting.{Doomed, has_entries, doomed_at, doomed_in, doomed_of, deleted_on}

-- ---- replies

given_past : {A : Type 0} (b : Bool) (r : Reply A) (a : A) → given (when 14 b) r ≡ accepted a → (b ≡ false) × (r ≡ accepted a)
given_past b r a e = go (either b)
  where
    go : (b ≡ true) ⊎ (b ≡ false) → (b ≡ false) × (r ≡ accepted a)
    go (inl t) = absurd (not_accepted 14 a (sym (given_yes 14 r (omega arith) t) ∙ e))
    go (inr t) = (t, sym (given_no 14 r t) ∙ e)

name_past : {A : Type 0} (x : List ℕ) (r : Reply A) (a : A) → on_name x r ≡ accepted a → r ≡ accepted a
name_past [] r a e = absurd (not_accepted 5 a e)
name_past (c ∷ x) r a e = e

placed_past : {A : Type 0} (f : Looked) (k : Placed → Reply A) (a : A) → on_placed f k ≡ accepted a → (x : Placed) × (f ≡ Ok (Some x)) × (k x ≡ accepted a)
placed_past (Ok (Some x)) k a q = (x, refl, q)
placed_past (Ok None) k a q = absurd (not_accepted 5 a q)
placed_past (Err d) k a q = absurd (not_accepted 17 a q)

-- ---- the entry that is accepted

module _ (g : Geo) (I l : List ℕ) where
  -- The directory of the path holds the entry, which has no entries, and the own entry is that directory's.
  pub record DoomedBy (d : Doomed) : Type 0 where
    pub hold : Hold
    pub held : hold_dir (area_of g) I (dir_part l) ≡ accepted hold
    pub dir : d.dir ≡ hold.dir
    pub entry : find_in (last_name l) (walk (area_of g) I hold.dir) ≡ found d.entry d.place
    pub bare : has_entries d.entry ≡ false
    pub own : d.own ≡ hold.own

  pub doomed_by : (d : Doomed) → doomed_of g I l ≡ accepted d → DoomedBy d
  unfolding doomed_of doomed_in doomed_at
  doomed_by d k =
      let a = then-accepted (hold_dir (area_of g) I (dir_part l)) (doomed_in g I (last_name l)) d (name_past (last_name l) _ d k) in
      let h : Hold = a.0 in
      let b = placed_past (find_in (last_name l) (walk (area_of g) I h.dir)) (doomed_at h) d a.2 in
      let x : Placed = b.0 in
      let c = given_past (has_entries x.entry) _ d b.2 in
      let made : Doomed = record { dir = h.dir; entry = x.entry; place = x.place; own = h.own } in
      let q : accepted made ≡ accepted d = c.1 in
      let z : made ≡ d = cc in
      record {
        hold = h;
        held = a.1;
        dir = sym (ap (λ (y : Doomed). y.dir) z);
        entry = b.1 ∙ λ i. found (z i).entry (z i).place;
        bare = ap (λ (y : Doomed). has_entries y.entry) (sym z) ∙ c.0;
        own = sym (ap (λ (y : Doomed). y.own) z);
      }

-- ---- the call's answer

module _ (g : Geo) (I l : List ℕ) where
  -- a refusal is that of the entry,
  refused_doomed : (k : ℕ) → deleted_on g I l ≡ refused k → doomed_of g I l ≡ refused k
  unfolding deleted_on
  refused_doomed k e = first_refused (doomed_of g I l) (λ d. tt) k e

-- ---- what the stores ask of it

-- a directory with an entry begins in the data
found_begins : (A : Area) (I : List ℕ) (a : ℕ) (x : List ℕ) (y : Placed) → find_in x (walk A I a) ≡ Ok (Some y) → a < A.end
unfolding find_in
found_begins A I a x y f = go (either (in_area A I a))
  where
    go : (in_area A I a ≡ true) ⊎ (in_area A I a ≡ false) → a < A.end
    go (inl t) = (area_true A I a t).1
    go (inr t) = let w : Err damage ≡ Ok (Some y) = sym (ap (find_in x) (chain_out A I (A.end - A.first) a t)) ∙ f in cc

-- The entry stands in a block of the data and ends there, in a directory of the data.
pub record Removable (g : Geo) (I : List ℕ) (d : Doomed) : Type 0 where
  pub begins : d.dir < g.n
  pub lies : Lies (area_of g) I d.entry d.place

pub doomed_ready : (g : Geo) (I l : List ℕ) (d : Doomed) → DoomedBy g I l d → Removable g I d
doomed_ready g I l d b =
    let x : Placed = record { entry = d.entry; place = d.place } in
    let i = found_item (area_of g) I b.hold.dir (last_name l) x b.entry in
    let t = slot_stands (block_size g) I d.place.block.0 d.place.offset d.entry i.stands in
    let k = found_begins (area_of g) I b.hold.dir (last_name l) x b.entry in
    record {
      begins = omega (arith, b.dir);
      lies = record { from = i.from; below = i.below; ends = t.ends };
    }
