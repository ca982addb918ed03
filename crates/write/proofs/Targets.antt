-- On a well-formed volume: each answer of a write, exactly where the tree says so, and that an accepted write is the model's.
use mathlib.Core.Path.{◌≡◌, refl, sym, ap, ◌∙◌, subst}
use mathlib.Core.Bool.{true, false, not}
use mathlib.Core.Logic.{◌⊎◌, inl, inr}
use mathlib.Core.Option.{Option, none, some}
use mathlib.Core.List.{List}
use Prim.Native.Nat.{ℕ, suc, ◌+◌, ◌-◌, ◌^◌, ◌≤◌, ◌<◌}
use native.Mathlib.Decide.{dec_lt}
use native.Mathlib.Omega.{arith}
use lib.Dec.{ltb}
use lib.ListN.{length}
use borrow.Author.Tests.{lt-ltb, le-ltb}
use Rattle.wire.proofs.Picks.{either, not_both}
use Rattle.model.specs.Tree.{Name, Entry, Below, Tree, lookup}
use Rattle.model.specs.Render.{View, view}
use Rattle.model.specs.Answers.{Reply, accepted, refused, and_then}
use Rattle.model.specs.Geometry.{area_of, Geo, block_size}
use Rattle.model.specs.Volume.{file_limit, blocks_for, Volume, max_depth}
use Rattle.model.specs.Calls.{DirAt, path_to, free_blocks, file_entry, TreeWrites}
use Rattle.model.proofs.Full.{good_find}
use Rattle.model.proofs.Lists.{not_some}
use Rattle.model.proofs.Reached.{path_found, path_is}
use Rattle.bitmap_block.proofs.Stores.{volume_clears}
use Rattle.dir_entry.specs.Shown.{head_of}
use Rattle.std.specs.Prelude.{Some, None, Ok}
use Rattle.read_dir.specs.Walk.{walk}
use Rattle.thm_walk.specs.Shown.{walk_of, spot_of}
use Rattle.thm_walk.proofs.Walks.{walk_is}
use Rattle.reached.specs.Reach.{has_path}
use Rattle.reached.proofs.OnTree.{reach_is}
use Rattle.write_store.specs.Write.{wrote, CanWrite}
use Rattle.write_store.proofs.Writes.{good_file, wrote_is, can_write_is}
use Rattle.handle.specs.declared.Handle.{Handle}
use Rattle.handle.specs.Handles.{name_of, stale_fields, current_in}
use Rattle.write.specs.Writing.{Target, too_long, blocks_to_add, unreached, no_room, held_at, target_of, image_at, written_image}
use Rattle.write.specs.Written.{fits_at}
use Rattle.handle.specs.OnTree.{FileIn, OnFile, Lost, Stale}
use Rattle.write.specs.OnTree.{to_add, NoRoom, Accepts}
use Rattle.write.proofs.Aims.{fits_long, fits_full, fits_in, held_stale, held_unreached, held_entry, aim_empty, aim_then}
use Rattle.handle.proofs.Currents.{Found, own, own_file, file_own, walk-current, walk-missing}
use Rattle.handle.proofs.Seeks.{fresh}

-- the number of a refusal, 0 for none
abbrev refused_by : {A : Type 0} → Reply A → ℕ
refused_by (accepted a) = 0
refused_by (refused k) = k

module _ (g : Geo) (I : List ℕ) (t : Tree max_depth) (v : Volume g I max_depth t) (h : Handle) where
  -- ---- the directory

  abbrev here : Found
  here = current_in h (walk (area_of g) I h.dir.0)

  here_is : (p : List Name) (s : DirAt max_depth h.dir.0 p t) → here ≡ current_in h (walk_of (view (block_size g) s.dir.0) s.dir.1)
  here_is p s =
      ap (λ (a : ℕ). current_in h (walk (area_of g) I a)) (sym s.starts)
      ∙ ap (current_in h) (walk_is g I max_depth t _ p s.dir v.laid s.there)

  -- The directory has the handle's file, or the walk ends without.
  file_or : (p : List Name) (s : DirAt max_depth h.dir.0 p t) → FileIn h s.dir ⊎ ((FileIn h s.dir → ⊥) × (here ≡ Ok None))
  file_or p s = go (lookup (name_of h) s.dir.1) refl
    where
      w : View (Below s.dir.0)
      w = view (block_size g) s.dir.0

      none_there : ((e : Entry (Below s.dir.0)) → lookup (name_of h) s.dir.1 ≡ some e → own w h e ≡ false) → FileIn h s.dir ⊎ ((FileIn h s.dir → ⊥) × (here ≡ Ok None))
      none_there c =
          inr (
            λ f. not_both (file_own w h f.time f.cells f.starts) (c _ f.held),
            here_is p s ∙ walk-missing w h s.dir.1 (good_find (block_size g) max_depth p t s.dir v.laid.good s.there).distinct c,
          )

      go : (o : Option (Entry (Below s.dir.0))) → lookup (name_of h) s.dir.1 ≡ o → FileIn h s.dir ⊎ ((FileIn h s.dir → ⊥) × (here ≡ Ok None))
      go none l = none_there (λ e k. absurd (not_some l k))
      go (some e) l = by (either (own w h e))
        where
          by : (own w h e ≡ true) ⊎ (own w h e ≡ false) → FileIn h s.dir ⊎ ((FileIn h s.dir → ⊥) × (here ≡ Ok None))
          by (inl c) = let r = own_file w h e c in inl (record { time = e.time; cells = r.0; held = l ∙ ap some r.1; starts = r.2 })
          by (inr c) = none_there (λ x k. let m : some e ≡ some x = sym l ∙ k in let q : e ≡ x = cc in sym (ap (own w h) q) ∙ c)

  -- ---- a handle on a file

  -- where a write goes
  unfoldable pub aimed : OnFile max_depth t h → Target
  aimed q =
      record {
        entry = head_of (view (block_size g) q.there.dir.0) (file_entry (name_of h) q.file.time h.size q.file.cells);
        place = spot_of (name_of h) q.there.dir.1;
      }

  here_at : (q : OnFile max_depth t h) → here ≡ Ok (Some (aimed q))
  unfolding aimed
  here_at q =
      let w : View (Below q.there.dir.0) = view (block_size g) q.there.dir.0 in
      here_is q.path q.there ∙ walk-current w h q.there.dir.1 _ q.file.held (file_own w h q.file.time q.file.cells q.file.starts)

  reached_by : (p : List Name) → DirAt max_depth h.dir.0 p t → false ≡ unreached g I h
  unfolding unreached
  reached_by p s = sym (ap not (reach_is g I max_depth t _ h.dir.0 v.laid ∙ ap has_path (path_is g I max_depth t _ h.dir.0 p v.laid s)))

  unreached_by : path_to max_depth h.dir.0 t ≡ none → true ≡ unreached g I h
  unfolding unreached
  unreached_by e = sym (ap not (reach_is g I max_depth t _ h.dir.0 v.laid ∙ ap has_path e))

  abbrev adds : ℕ → OnFile max_depth t h → ℕ
  adds len q = to_add (block_size g) max_depth t h len q

  chain_long : (q : OnFile max_depth t h) → length q.file.cells ≡ blocks_for (block_size g) h.size
  chain_long q = (good_file g I max_depth t v q.path (name_of h) q.there.dir q.there.there q.file.time h.size q.file.cells q.file.held).long

  room_is : (len : ℕ) (q : OnFile max_depth t h) → no_room g I h len ≡ ltb (length (free_blocks g max_depth t)) (adds len q)
  unfolding no_room blocks_to_add
  room_is len q =
      let old : blocks_for (block_size g) h.size ≡ length q.file.cells = sym (chain_long q) in
      λ i. ltb (length (volume_clears g I max_depth t v i)) (blocks_for (block_size g) (h.position + len) - old i)

  -- ---- the handle's entry

  -- A stale handle has none,
  pub stale_held : Stale max_depth t h → held_at g I h ≡ refused 11
  stale_held s = go s (either (stale_fields h))
    where
      go : Stale max_depth t h → (stale_fields h ≡ true) ⊎ (stale_fields h ≡ false) → held_at g I h ≡ refused 11
      go s (inl a) = sym (held_stale g I h (stale_fields h) refl a)
      go (inl a) (inr b) = absurd (not_both a b)
      go (inr (inl e)) (inr b) = sym (held_unreached g I h (stale_fields h) refl b true (unreached_by e) refl)
      go (inr (inr s)) (inr b) = by (file_or s.0 s.1)
        where
          by : FileIn h s.1.dir ⊎ ((FileIn h s.1.dir → ⊥) × (here ≡ Ok None)) → held_at g I h ≡ refused 11
          by (inl f) = absurd (s.2 f)
          by (inr m) = sym (held_entry g I h (stale_fields h) refl b false (reached_by s.0 s.1) (Ok None) refl (sym m.1))

  -- and one on a file has its own.
  pub on_held : stale_fields h ≡ false → (q : OnFile max_depth t h) → held_at g I h ≡ accepted (aimed q)
  unfolding aimed
  on_held fields q = sym (held_entry g I h (stale_fields h) refl fields false (reached_by q.path q.there) (Ok (Some (aimed q))) refl (sym (here_at q)))

  -- ---- each answer

  module _ (len : ℕ) (some_bytes : 1 ≤ len) where
    nonzero : len ≡ 0 → ⊥
    nonzero e = omega arith

    stale_target : Stale max_depth t h → target_of g I h len ≡ refused 11
    unfolding and_then
    stale_target s = aim_then g I h len nonzero ∙ ap (λ (x : Reply Target). and_then x (fits_at g I h len)) (stale_held s)

    module _ (fields : stale_fields h ≡ false) (q : OnFile max_depth t h) where
      on_file : target_of g I h len ≡ fits_at g I h len (aimed q)
      unfolding and_then
      on_file = aim_then g I h len nonzero ∙ ap (λ (x : Reply Target). and_then x (fits_at g I h len)) (on_held fields q)

      long_target : file_limit < h.position + len → target_of g I h len ≡ refused 10
      unfolding too_long
      long_target l = on_file ∙ sym (fits_long g I h len (aimed q) true (sym (lt-ltb file_limit (h.position + len) l)) refl)

      module _ (limit : h.position + len ≤ file_limit) where
        short : false ≡ too_long h len
        unfolding too_long
        short = sym (le-ltb file_limit (h.position + len) limit)

        full_target : length (free_blocks g max_depth t) < adds len q → target_of g I h len ≡ refused 9
        full_target l =
            on_file ∙ sym (fits_full g I h len (aimed q) false short true refl (sym (room_is len q ∙ lt-ltb _ _ l)) refl)

        pub good_target : adds len q ≤ length (free_blocks g max_depth t) → target_of g I h len ≡ accepted (aimed q)
        unfolding aimed
        good_target l =
            on_file ∙ sym (fits_in g I h len (aimed q) false short false refl (sym (room_is len q ∙ le-ltb _ _ l)) refl)

  -- The handle is on a file, or the tree has lost it.
  pub file_lost : OnFile max_depth t h ⊎ Lost max_depth t h
  file_lost = go (path_to max_depth h.dir.0 t) refl
    where
      go : (o : Option (List Name)) → path_to max_depth h.dir.0 t ≡ o → OnFile max_depth t h ⊎ Lost max_depth t h
      go none e = inr (inl e)
      go (some p) e = by (path_found (block_size g) max_depth h.dir.0 t p v.laid.good e)
        where
          by : DirAt max_depth h.dir.0 p t → OnFile max_depth t h ⊎ Lost max_depth t h
          by s = at_last (file_or p s)
            where
              at_last : FileIn h s.dir ⊎ ((FileIn h s.dir → ⊥) × (here ≡ Ok None)) → OnFile max_depth t h ⊎ Lost max_depth t h
              at_last (inl f) = inl (record { path = p; there = s; file = f })
              at_last (inr m) = inr (inr (p, s, m.0))

  -- Every write has one of five answers.
  target_cases : (len : ℕ) (P : Reply Target → Type 0) → (len ≡ 0 → P (refused 13)) → (1 ≤ len → Stale max_depth t h → P (refused 11))
      → (1 ≤ len → stale_fields h ≡ false → (q : OnFile max_depth t h) → file_limit < h.position + len → P (refused 10))
      → (1 ≤ len → stale_fields h ≡ false → (q : OnFile max_depth t h) → h.position + len ≤ file_limit → length (free_blocks g max_depth t) < adds len q → P (refused 9))
      → (1 ≤ len → stale_fields h ≡ false → (q : OnFile max_depth t h) → h.position + len ≤ file_limit → adds len q ≤ length (free_blocks g max_depth t) → P (accepted (aimed q)))
      → P (target_of g I h len)
  target_cases len P p13 p11 p10 p9 p0 = go (dec_lt 0 len) (either (stale_fields h)) file_lost
    where
      open_on_lem : (some_bytes : 1 ≤ len) → (fields : stale_fields h ≡ false) → (q : OnFile max_depth t h) → Dec (file_limit < h.position + len)
          → Dec (length (free_blocks g max_depth t) < adds len q) → P (target_of g I h len)
      open_on_lem b f q (yes l) r = subst P (sym (long_target len b f q l)) (p10 b f q l)
      open_on_lem b f q (no l) (yes r) = let k : h.position + len ≤ file_limit = omega arith in subst P (sym (full_target len b f q k r)) (p9 b f q k r)
      open_on_lem b f q (no l) (no r) =
          let k : h.position + len ≤ file_limit = omega arith in
          let m : adds len q ≤ length (free_blocks g max_depth t) = omega arith in
          subst P (sym (good_target len b f q k m)) (p0 b f q k m)

      go : Dec (0 < len) → (stale_fields h ≡ true) ⊎ (stale_fields h ≡ false) → OnFile max_depth t h ⊎ Lost max_depth t h → P (target_of g I h len)
      go (no z) f q = let e : len ≡ 0 = omega arith in subst P (aim_empty g I h len e) (p13 e)
      go (yes b) (inl f) q = subst P (sym (stale_target len b (inl f))) (p11 b (inl f))
      go (yes b) (inr f) (inr q) = subst P (sym (stale_target len b (inr q))) (p11 b (inr q))
      go (yes b) (inr f) (inl q) = open_on_lem b f q (dec_lt file_limit (h.position + len)) (dec_lt (length (free_blocks g max_depth t)) (adds len q))

  -- ---- the theorems

  -- what an accepted write comes to
  accepted_case : (len : ℕ) (Q : Target → Type 0)
      → (1 ≤ len → stale_fields h ≡ false → (q : OnFile max_depth t h) → h.position + len ≤ file_limit → adds len q ≤ length (free_blocks g max_depth t) → Q (aimed q))
      → (τ : Target) → target_of g I h len ≡ accepted τ → Q τ
  accepted_case len Q c =
      target_cases len (λ r. (τ : Target) → r ≡ accepted τ → Q τ) (λ _ τ e. absurd (one_of 12 τ e)) (λ _ _ τ e. absurd (one_of 10 τ e)) (λ _ _ _ _ τ e. absurd (one_of 9 τ e))
      (λ _ _ _ _ _ τ e. absurd (one_of 8 τ e)) (λ b f q k m τ e. let z : aimed q ≡ τ = cc in subst Q z (c b f q k m))
    where
      one_of : (k : ℕ) (τ : Target) → refused (suc k) ≡ accepted τ → ⊥
      one_of k τ e = let z : suc k ≡ 0 = ap refused_by e in omega arith

  -- A write is accepted exactly where none of 13, 11, 10, 9 is given.
  pub accepted_is : (len : ℕ) → ((τ : Target) → target_of g I h len ≡ accepted τ → Accepts g max_depth t h len)
      × (Accepts g max_depth t h len → (τ : Target) × (target_of g I h len ≡ accepted τ))
  accepted_is len = (
    accepted_case len (λ τ. Accepts g max_depth t h len) (λ b f q k m. record { some_bytes = b; fields = f; on_file = q; limit = k; enough = m }),
    λ a. (aimed a.on_file, good_target len a.some_bytes a.fields a.on_file a.limit a.enough),
  )

  -- The entry of a handle on a file is found in the image.
  pub found_there : OnFile max_depth t h → (x : Target) × (current_in h (walk (area_of g) I h.dir.0) ≡ Ok (Some x))
  found_there q = (aimed q, here_at q)

  -- What `write` requires holds where a write is accepted.
  pub accepted_can : (buf : List ℕ) (τ : Target) → target_of g I h (length buf) ≡ accepted τ → CanWrite g I τ.entry τ.place h.position (length buf)
  unfolding aimed
  accepted_can buf =
      accepted_case (length buf) (λ τ. CanWrite g I τ.entry τ.place h.position (length buf))
      (λ b f q k m.
      can_write_is g I t q.path (name_of h) q.there.dir _ q.file.time h.size q.file.cells _ _ h.position buf v q.there.there q.file.held refl refl refl b (fresh h f).place k m)

  pub image_is : (buf : List ℕ) (now : ℕ) (τ : Target) → target_of g I h (length buf) ≡ accepted τ → wrote g I τ.entry τ.place h.position buf now ≡ written_image g I h buf now
  unfolding written_image
  image_is buf now τ e = sym (ap (image_at g I h buf now) e)

  -- An accepted write is the model's: of the file of the handle's name, in the directory of the handle's address.
  pub written_is : (buf : List ℕ) (now : ℕ) (τ : Target) → now < 2 ^ 64 → target_of g I h (length buf) ≡ accepted τ
      → (p : List Name) × DirAt max_depth h.dir.0 p t × TreeWrites g max_depth p (name_of h) now h.position buf t I (written_image g I h buf now)
  unfolding aimed
  written_is buf now τ clock e =
      subst (λ (J : List ℕ). (p : List Name) × DirAt max_depth h.dir.0 p t × TreeWrites g max_depth p (name_of h) now h.position buf t I J) (image_is buf now τ e)
      (accepted_case (length buf) (λ x. (p : List Name) × DirAt max_depth h.dir.0 p t × TreeWrites g max_depth p (name_of h) now h.position buf t I (wrote g I x.entry x.place h.position buf now))
      (λ b f q k m. (
        q.path,
        q.there,
        wrote_is g I t q.path (name_of h) q.there.dir _ q.file.time h.size q.file.cells _ _ h.position buf now v q.there.there q.file.held refl refl refl b (fresh h f).place k m clock,
      )) τ e)

  -- 9 exactly where there is no room,
  pub no_room_lem : (len : ℕ) → (target_of g I h len ≡ refused 9 → NoRoom g max_depth t h len) × (NoRoom g max_depth t h len → target_of g I h len ≡ refused 9)
  no_room_lem len = (
    target_cases len (λ r. r ≡ refused 9 → NoRoom g max_depth t h len) (λ _ e. let z : 13 ≡ 9 = ap refused_by e in absurd (omega arith))
        (λ _ _ e. let z : 11 ≡ 9 = ap refused_by e in absurd (omega arith)) (λ _ _ _ _ e. let z : 10 ≡ 9 = ap refused_by e in absurd (omega arith))
        (λ b f q k m e. record { some_bytes = b; fields = f; on_file = q; limit = k; few = m }) (λ _ _ _ _ _ e. let z : 0 ≡ 9 = ap refused_by e in absurd (omega arith)),
    λ n. full_target len n.some_bytes n.fields n.on_file n.limit n.few,
  )

  -- 11 exactly where the handle is stale,
  pub stale_is : (len : ℕ) → 1 ≤ len → (target_of g I h len ≡ refused 11 → Stale max_depth t h) × (Stale max_depth t h → target_of g I h len ≡ refused 11)
  stale_is len some_bytes = (
    target_cases len (λ r. r ≡ refused 11 → Stale max_depth t h) (λ _ e. let z : 13 ≡ 11 = ap refused_by e in absurd (omega arith)) (λ _ s e. s)
        (λ _ _ _ _ e. let z : 10 ≡ 11 = ap refused_by e in absurd (omega arith)) (λ _ _ _ _ _ e. let z : 9 ≡ 11 = ap refused_by e in absurd (omega arith))
        (λ _ _ _ _ _ e. let z : 0 ≡ 11 = ap refused_by e in absurd (omega arith)),
    stale_target len some_bytes,
  )

  -- 10 exactly where the file would be too long,
  pub long_is : (len : ℕ) → (target_of g I h len ≡ refused 10 → (1 ≤ len) × (stale_fields h ≡ false) × OnFile max_depth t h × (file_limit < h.position + len))
      × ((1 ≤ len) × (stale_fields h ≡ false) × OnFile max_depth t h × (file_limit < h.position + len) → target_of g I h len ≡ refused 10)
  long_is len = (
    target_cases len (λ r. r ≡ refused 10 → (1 ≤ len) × (stale_fields h ≡ false) × OnFile max_depth t h × (file_limit < h.position + len))
        (λ _ e. let z : 13 ≡ 10 = ap refused_by e in absurd (omega arith)) (λ _ _ e. let z : 11 ≡ 10 = ap refused_by e in absurd (omega arith)) (λ b f q k e. (b, f, q, k))
        (λ _ _ _ _ _ e. let z : 9 ≡ 10 = ap refused_by e in absurd (omega arith)) (λ _ _ _ _ _ e. let z : 0 ≡ 10 = ap refused_by e in absurd (omega arith)),
    λ n. long_target len n.0 n.1 n.2 n.3,
  )
