-- The answer of a read, from what its steps gave.
use mathlib.Core.Path.{◌≡◌, refl, sym, ap, ◌∙◌, subst}
use mathlib.Core.Bool.{true, false}
use mathlib.Core.List.{List, [], ◌∷◌}
use Prim.Native.Nat.{ℕ, zero, suc, ◌+◌, ◌-◌, ◌%◌, ◌≤◌}
use native.Mathlib.Omega.{arith}
use lib.ListN.{length}
use mir.Syntax.{w32}
use mir.Val.{Fits}
use Rattle.wire.specs.Be.{splice}
use Rattle.block.specs.Block.{Area}
use Rattle.model.specs.Answers.{when, first_of}
use Rattle.limits.specs.Refusals.{refusal_number}
use Rattle.limits.specs.declared.Refusal.{Refusal}
use Rattle.model.proofs.Opens.{when_true, when_false, when-none, passed, first_of_head, first_of_tail, first_of_one, first_of_zero}
use Rattle.limits.proofs.Numbers.{number_some}
use Rattle.read_dir.specs.Walk.{walk}
use Rattle.handle.specs.declared.Handle.{Handle}
use Rattle.handle.specs.declared.CountedOut.{CountedOut}
use Rattle.std.specs.Prelude.{Result, Ok, Err, IsErrAnd}
use Rattle.limits.specs.declared.Refusal.TheVariants.{Damaged}
use Rattle.handle.specs.Handles.{stale_fields, moved, held_in}
use Rattle.file_read.specs.Read.{to_read, blocks_read, chain_read, missing, bytes_of, read_refusal, bytes_read}
use Rattle.handle.specs.Post.{handle_refusal}
use Rattle.file_read.specs.Post.{Gives, CountedIs, ReadIs, chain_refusal, FetchIs, part_at, Begins}
use Rattle.handle.proofs.Seeks.{fresh}

-- ---- the numbers of a read: k bytes

module _ (h : Handle) (v : stale_fields h ≡ false) where
  pub fetch_place : h.position ≤ h.size
  fetch_place = (fresh h v).place

  module _ (k len : ℕ) (e : k ≡ to_read h len) where
    pub fetch_end : h.position + k ≤ 2147483647
    fetch_end = let f = fresh h v in omega arith

    pub fetch_fits : Fits w32 (h.position + k)
    fetch_fits = record { fits = omega (arith, fetch_end) }

-- ---- what the chain gave

module _ (A : Area) (I : List ℕ) (h : Handle) (l : List ℕ) (k : ℕ) (e : k ≡ to_read h (length l)) where
  pub fetch_lost : (vs : List ℕ) (t : Result ℕ Refusal) → IsErrAnd t (λ x. x ≡ Damaged)
      → missing A I (chain_read A I h.addr.0 (blocks_read A I h.position k)) ≡ true → CountedIs (chain_refusal A I h (length l)) h h vs l l t
  fetch_lost vs (Ok n) d g = absurd d
  fetch_lost vs (Err x) d g =
      record {
        refused =
            when_true 17 (ap (λ (y : ℕ). missing A I (chain_read A I h.addr.0 (blocks_read A I h.position y))) (sym e) ∙ g)
            ∙ ap refusal_number (sym d);
        handle = refl;
        kept = refl;
      }

  pub fetch_given : (b : ℕ) (m : List ℕ) (g : Handle) → Begins A I h.addr.0 h.position k b
      → m ≡ splice l 0 (part_at A I b (h.position % (A.size - 4)) k) → g ≡ moved h (h.position + k) → Gives (chain_refusal A I h (length l)) h g (bytes_read A I h (length l)) l m k
  unfolding bytes_read
  fetch_given b m g w u v =
      record {
        good = when_false 17 (ap (λ (x : ℕ). missing A I (chain_read A I h.addr.0 (blocks_read A I h.position x))) (sym e) ∙ w.good);
        count = e;
        handle = v;
        stored =
            u ∙ ap (splice l 0)
            (sym w.bytes ∙ ap (λ (x : ℕ). bytes_of A I (chain_read A I h.addr.0 (blocks_read A I h.position x)) h.position x) e);
      }

-- ---- the first refusal of three, by the first of two

first_two : (a b c k : ℕ) → 1 ≤ k → k ≡ first_of (a ∷ (b ∷ [])) → first_of (a ∷ (b ∷ (c ∷ []))) ≡ k
first_two zero zero c k p e = let z : k ≡ 0 = e ∙ first_of_tail 0 _ refl ∙ first_of_one 0 in absurd (omega arith)
first_two zero (suc b) c k p e =
    first_of_tail 0 _ refl ∙ first_of_head (suc b) _ (omega arith) ∙ sym (e ∙ first_of_tail 0 _ refl ∙ first_of_one (suc b))
first_two (suc a) b c k p e = first_of_head (suc a) _ (omega arith) ∙ sym (e ∙ first_of_head (suc a) _ (omega arith))

first_third : (a b c : ℕ) → 0 ≡ first_of (a ∷ (b ∷ [])) → first_of (a ∷ (b ∷ (c ∷ []))) ≡ c
first_third a b c e =
    let p = first_of_zero a (b ∷ []) (sym e) in
    first_of_tail a _ p.0 ∙ first_of_tail b _ (first_of_zero b [] p.1).0 ∙ first_of_one c

-- ---- what the handle's check gave

module _ (A : Area) (I : List ℕ) (h : Handle) where
  pub read_refused : (x : Refusal) (l : List ℕ) (t : Result ℕ Refusal) → refusal_number x ≡ handle_refusal A I h → IsErrAnd t (λ y. y ≡ x)
      → ReadIs A I h l l (record { answer = t; handle = h })
  unfolding read_refusal
  read_refused x l (Ok n) w d = absurd d
  read_refused x l (Err y) w d =
      record {
        refused =
            first_two (when 11 (stale_fields h)) (held_in h (walk A I h.dir.0)) (chain_refusal A I h (length l)) (refusal_number x) (number_some x) w
            ∙ ap refusal_number (sym d);
        handle = refl;
        kept = refl;
      }

  module _ (w : 0 ≡ handle_refusal A I h) where
    pub read_fresh : stale_fields h ≡ false
    read_fresh = when-none 11 (stale_fields h) (omega arith) (first_of_zero _ _ (sym w)).0

    pub read_fetched : (l m : List ℕ) (out : CountedOut) → FetchIs A I h l m out → ReadIs A I h l m out
    unfolding read_refusal
    read_fetched l m out f =
        let e : read_refusal A I h (length l) ≡ chain_refusal A I h (length l)
        = first_third (when 11 (stale_fields h)) (held_in h (walk A I h.dir.0)) (chain_refusal A I h (length l)) w in
        subst (λ (k : ℕ). CountedIs k h out.handle (bytes_read A I h (length l)) l m out.answer) (sym e) f

-- ---- what an accepted read tells

module _ (A : Area) (I : List ℕ) (h : Handle) (len : ℕ) (e : read_refusal A I h len ≡ 0) where
  pub record Passed : Type 0 where
    pub fields : stale_fields h ≡ false
    pub held : held_in h (walk A I h.dir.0) ≡ 0
    pub chained : missing A I (chain_read A I h.addr.0 (blocks_read A I h.position (to_read h len))) ≡ false

  read_passed : Passed
  unfolding read_refusal
  read_passed =
      let p = passed 11 (stale_fields h) _ (omega arith) e in
      let q = first_of_zero (held_in h (walk A I h.dir.0)) _ p.1 in
      let r = first_of_zero (when 17 (missing A I (chain_read A I h.addr.0 (blocks_read A I h.position (to_read h len))))) [] q.1 in
      record { fields = p.0; held = q.0; chained = when-none 17 _ (omega arith) r.0 }
