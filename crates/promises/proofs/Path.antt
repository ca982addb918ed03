-- D3 over the public calls: a sequence of calls at one path is a run of the model's steps.
use mathlib.Core.Path.{◌≡◌, refl, sym, ◌∙◌, subst}
use mathlib.Core.Logic.{◌⊎◌, inl, inr}
use mathlib.Core.List.{List}
use Prim.Native.Nat.{ℕ, ◌^◌, ◌≤◌, ◌<◌}
use Rattle.limits.specs.declared.Refusal.{Refusal}
use Rattle.model.specs.Tree.{Name, Cell, Tree, Packed, insert, change, delete, Edit, edit}
use Rattle.model.specs.Render.{blocks_at, blocks, count}
use Rattle.model.specs.Geometry.{Mount, Geo, code_size, block_size, geo_at}
use Rattle.model.specs.Volume.{WellFormed, max_depth}
use Rattle.model.specs.Calls.{Vacant, DirAt, file_entry, created, deleted, refiled, rewritten, Makes, TreeCreatesFile, TreeDeletes, TreeWrites}
use Rattle.model.specs.Steps.{Step, quiet, Run, Used, Restored, Bytes}
use Rattle.model.specs.Steps.{done as run-done, call as run_call}
use Rattle.model.proofs.Alike.{change_at}
use Rattle.model.proofs.Demand.{demand3}
use Rattle.model.proofs.Edits.{find-edit}
use Rattle.model.proofs.Full.{good_find}
use Rattle.model.proofs.Inserts.{insert_at}
use Rattle.model.proofs.Makes.{creates_file_step, deletes_step, writes_step}
use Rattle.model.proofs.OneVolume.{well_formed_geo, well_formed_one}
use Rattle.model.proofs.Paths.{laid_path}
use Rattle.delete_store.proofs.Removes.{delete_at}
use Rattle.handle.specs.declared.Handle.{Handle}
use Rattle.handle.specs.declared.CountedOut.{CountedOut}
use Rattle.handle.specs.Handles.{name_of}
use Rattle.call_read.specs.declared.OpenOut.{OpenOut}
use Rattle.call_change.specs.Changing.{CreatesFile, Deletes, Writes}
use Rattle.call_patch.specs.Patches.{Patches}
use lib.ListN.{length}
use Rattle.patch.proofs.Targets.{whole_of}
use Rattle.thm_calls.specs.Named.{last_of}
use Rattle.thm_calls.proofs.Changing.{volume_at, create_file_tree, create_file_bytes, create_file_kept, delete_tree, delete_bytes, delete_kept, write_tree, write_bytes, write_kept}
use Rattle.thm_calls.proofs.Patching.{patch_bytes, patch_kept, patch_on, patch_writes}
use Rattle.limits.proofs.Said.{answer_is}
use Rattle.promises.specs.Sequence.{Leads, HandleAt, Call, creates, opens, reads, seeks, writes, patches, deletes, Calls, done, call, ReachedIn, UsedBy}
use Rattle.std.specs.Prelude.{Result, Ok, Err}

-- ---- the holding directory begins where it did

module _ (d a : ℕ) (p : List Name) (t : Tree d) (s : DirAt d a p t) where
  edit_there : (g : ℕ → ℕ) (f : Edit) → blocks_at (f s.dir.0 s.dir.1) ≡ blocks_at s.dir.1 → DirAt d a p (edit d p g f t)
  edit_there g f e =
      record {
        dir = (s.dir.0, f s.dir.0 s.dir.1);
        there = find-edit d p g f t s.dir s.there;
        starts = e ∙ s.starts;
      }

  pub created_there : (cap : ℕ) (n : Name) (now w z : ℕ) (cs : List Cell) → Packed s.dir.1
      → DirAt d a p (created d cap p n now w z cs t)
  unfolding created
  created_there cap n now w z cs k =
      edit_there (λ _. now) (λ e bs. insert cap w (file_entry n now z cs) bs)
      (insert_at cap w (file_entry n now z cs) s.dir.1 k)

  deleted_there : (n : Name) (now : ℕ) → DirAt d a p (deleted d p n now t)
  unfolding deleted
  deleted_there n now = edit_there (λ _. now) (λ e bs. delete n bs) (delete_at n s.dir.1)

  rewritten_there : (n : Name) (now z : ℕ) (cs : List Cell) → DirAt d a p (rewritten d p n now z cs t)
  unfolding rewritten
  rewritten_there n now z cs =
      edit_there (λ k. k) (λ e bs. change n (λ x. refiled now z cs x.name x.time x.node) bs)
      (change_at n (λ x. refiled now z cs x.name x.time x.node) s.dir.1)

-- ---- each call is a step

-- What a call at the path leaves: a well-formed image by the same numbers, the holding directory at the same address, a step
-- of the model, and bytes where there were bytes.
record Next (M : Mount) (a : ℕ) (p : List Name) (n : Name) (I : List ℕ) (w : WellFormed M I) (J : List ℕ) : Type 0 where
  well : WellFormed M J
  numbers : geo_at M J ≡ geo_at M I
  there : DirAt max_depth a p well.tree
  step : Step (geo_at M I) max_depth p n I w.tree J well.tree
  bytes : Bytes I → Bytes J

module _ (M : Mount) (a : ℕ) (p : List Name) (n : Name) (I J : List ℕ) (w : WellFormed M I)
    (s : DirAt max_depth a p w.tree) where
  -- a call that changes nothing
  stays : J ≡ I → Next M a p n I w J
  stays e =
      subst (Next M a p n I w) (sym e) (record { well = w; numbers = refl; there = s; step = quiet refl refl; bytes = λ b. b })

  -- an accepted change, to the tree u
  made : (u : Tree max_depth) → Makes (geo_at M I) max_depth w.tree u I J → DirAt max_depth a p u
      → Step (geo_at M I) max_depth p n I w.tree J u → (Bytes I → Bytes J) → Next M a p n I w J
  made u m d c b =
      let v : WellFormed M J
      = record {
        numbers = geo_at M I;
        here = refl;
        tree = u;
        volume = m.volume;
      } in
      record { well = v; numbers = sym (well_formed_geo M J v); there = d; step = c; bytes = b }

  packed : Packed s.dir.1
  packed = (good_find (block_size (geo_at M I)) max_depth p w.tree s.dir (volume_at M I w).laid.good s.there).packed

  created-next : (now : ℕ) → TreeCreatesFile (geo_at M I) max_depth p n now w.tree I J → (Bytes I → Bytes J) → Next M a p n I w J
  created-next now c =
      made _ c.makes (created_there max_depth a p w.tree s _ n now _ 0 _ packed)
      (creates_file_step (geo_at M I) max_depth p n now w.tree I J c)

  deleted-next : (now : ℕ) → TreeDeletes (geo_at M I) max_depth p n now w.tree I J → (Bytes I → Bytes J) → Next M a p n I w J
  deleted-next now c =
      made _ c.makes (deleted_there max_depth a p w.tree s n now)
      (deletes_step (geo_at M I) max_depth p n now w.tree I J c)

  written_next : (now c : ℕ) (buf : List ℕ) → TreeWrites (geo_at M I) max_depth p n now c buf w.tree I J → (Bytes I → Bytes J)
      → Next M a p n I w J
  written_next now c buf m =
      made _ m.makes (rewritten_there max_depth a p w.tree s n now _ _)
      (writes_step (geo_at M I) max_depth p n now w.tree I J c buf m)

  -- the calls
  creates_next : (cwd path W Z : List ℕ) (now : ℕ) (o : OpenOut) → Leads p n cwd path → now < 2 ^ 64
      → CreatesFile M I W cwd path now o J Z → Next M a p n I w J
  creates_next cwd path W Z now o l clock c = go (answer_is o.answer)
    where
      go : ((u : Unit {0}) × (o.answer ≡ Ok u)) ⊎ ((x : Refusal) × (o.answer ≡ Err x)) → Next M a p n I w J
      go (inl e) =
          let m = create_file_tree M I W cwd path now J Z o c w clock e.1 in
          created-next now
          (subst (λ (m : Name). TreeCreatesFile (geo_at M I) max_depth p m now w.tree I J) l.last
          (subst (λ (q : List Name). TreeCreatesFile (geo_at M I) max_depth q (last_of cwd path) now w.tree I J) l.way m))
          (λ b. create_file_bytes M I W cwd path now J Z o c b clock e.1)
      go (inr e) = stays (create_file_kept M I W cwd path now J Z o c e.0 e.1).0

  deletes_next : (cwd path W Z : List ℕ) (now : ℕ) (r : Result (Unit {0}) Refusal) → Leads p n cwd path → now < 2 ^ 64
      → Deletes M I W cwd path now r J Z → Next M a p n I w J
  deletes_next cwd path W Z now r l clock c = go (answer_is r)
    where
      go : ((u : Unit {0}) × (r ≡ Ok u)) ⊎ ((x : Refusal) × (r ≡ Err x)) → Next M a p n I w J
      go (inl e) =
          let m = delete_tree M I W cwd path now J Z r c w clock e.1 in
          deleted-next now
          (subst (λ (m : Name). TreeDeletes (geo_at M I) max_depth p m now w.tree I J) l.last
          (subst (λ (q : List Name). TreeDeletes (geo_at M I) max_depth q (last_of cwd path) now w.tree I J) l.way m))
          (λ b. delete_bytes M I W cwd path now J Z r c b e.1)
      go (inr e) = stays (delete_kept M I W cwd path now J Z r c e.0 e.1)

  -- a directory's first address has one path
  path_of : (b : ℕ) (q : List Name) → b ≡ a → DirAt max_depth b q w.tree → q ≡ p
  path_of b q e d =
      laid_path (geo_at M I) I max_depth w.tree _ q p d.dir s.dir (volume_at M I w).laid d.there s.there
      (d.starts ∙ e ∙ sym s.starts)

  writes_next : (h : Handle) (buf W Z : List ℕ) (now : ℕ) (o : CountedOut) → HandleAt a n h → Bytes buf → now < 2 ^ 64
      → Writes M I W h buf now o J Z → Next M a p n I w J
  writes_next h buf W Z now o l d clock c = go (answer_is o.answer)
    where
      go : ((k : ℕ) × (o.answer ≡ Ok k)) ⊎ ((x : Refusal) × (o.answer ≡ Err x)) → Next M a p n I w J
      go (inl e) =
          let m = write_tree M I W h buf now o J Z c e.0 w clock e.1 in
          written_next now h.position buf
          (subst (λ (m : Name). TreeWrites (geo_at M I) max_depth p m now h.position buf w.tree I J) {x = name_of h} {y = n} (search l.name)
          (subst (λ (q : List Name). TreeWrites (geo_at M I) max_depth q (name_of h) now h.position buf w.tree I J)
          (path_of h.dir.0 m.0 l.dir m.1) m.2))
          (λ b. write_bytes M I W h buf now o J Z c e.0 b d e.1)
      go (inr e) = stays (write_kept M I W h buf now o J Z c e.0 e.1).0

  -- a patch is a step as that write is which leaves the same
  patches_next : (h : Handle) (buf W Z : List ℕ) (now : ℕ) (o : CountedOut) → HandleAt a n h → Bytes buf → now < 2 ^ 64
      → Patches M I W h buf now o J Z → Next M a p n I w J
  patches_next h buf W Z now o l d clock c = go (answer_is o.answer)
    where
      go : ((k : ℕ) × (o.answer ≡ Ok k)) ⊎ ((x : Refusal) × (o.answer ≡ Err x)) → Next M a p n I w J
      go (inl e) =
          let vs : List ℕ = whole_of max_depth w.tree h buf (patch_on M I W h buf now o J Z c e.0 w e.1).on_file in
          let m = write_tree M I W h vs now _ J Z (patch_writes M I W h buf now o J Z c e.0 w e.1) (length vs) w clock refl in
          written_next now h.position vs
          (subst (λ (m : Name). TreeWrites (geo_at M I) max_depth p m now h.position vs w.tree I J) l.name
          (subst (λ (q : List Name). TreeWrites (geo_at M I) max_depth q (name_of h) now h.position vs w.tree I J)
          (path_of h.dir.0 m.0 l.dir m.1) m.2))
          (λ b. patch_bytes M I W h buf now o J Z c e.0 b d e.1)
      go (inr e) = stays (patch_kept M I W h buf now o J Z c e.0 e.1).0

  next : Call M a p n I J → Next M a p n I w J
  next (creates cwd path W Z now o l clock c) = creates_next cwd path W Z now o l clock c
  next (opens cwd path o l c e) = stays e
  next (reads h buf out o l c e) = stays e
  next (seeks h from m l c e) = stays e
  next (writes h buf W Z now o l d clock c) = writes_next h buf W Z now o l d clock c
  next (patches h buf W Z now o l d clock c) = patches_next h buf W Z now o l d clock c
  next (deletes cwd path W Z now r l clock c) = deletes_next cwd path W Z now r l clock c

-- ---- so a sequence is a run

module _ (M : Mount) (a : ℕ) (p : List Name) (n : Name) where
  -- The run of a sequence, by the numbers g: it uses the blocks that the calls use.
  record Ran (g : Geo) {I J : List ℕ} (c : Calls M a p n I J) (w : WellFormed M I) : Type 0 where
    well : WellFormed M J
    run : Run g max_depth p n I w.tree J well.tree
    bytes : Bytes I → Bytes J
    used : (b : ℕ) → UsedBy b c → Used b run
    only : (b : ℕ) → Used b run → UsedBy b c

  -- an image has one tree
  reached_here : (b : ℕ) (I : List ℕ) (w : WellFormed M I) → ReachedIn M b I
      → 1 ≤ count b (blocks (code_size M.code) max_depth w.tree)
  reached_here b I w q = subst (λ (t : Tree max_depth). 1 ≤ count b (blocks (code_size M.code) max_depth t)) (well_formed_one M I
      q.well w).1 q.there

  runs : {I J : List ℕ} (c : Calls M a p n I J) (w : WellFormed M I) → DirAt max_depth a p w.tree → Ran (geo_at M I) c w
  unfolding UsedBy Used
  runs {I} {J} done w s = record {
    well = w;
    run = run-done;
    bytes = λ b. b;
    used = λ b q. reached_here b I w q;
    only = λ b q. record { well = w; there = q };
  }
  runs (call {I} {J} {L} c r) w s =
      let x = next M a p n I J w s c in
      let y : Ran (geo_at M I) r x.well = subst (λ (g : Geo). Ran g r x.well) x.numbers (runs r x.well x.there) in
      record {
        well = y.well;
        run = run_call x.step y.run;
        bytes = λ b. y.bytes (x.bytes b);
        used = λ b q. used b x.well.tree y.well.tree y.run (y.used b) q;
        only = λ b q. only b x.well.tree y.well.tree y.run (y.only b) q;
      }
    where
      used : (b : ℕ) (u z : Tree max_depth) (m : Run (geo_at M I) max_depth p n J u L z) → (UsedBy b r → Used b m)
          → ReachedIn M b I ⊎ UsedBy b r → (1 ≤ count b (blocks (code_size M.code) max_depth w.tree)) ⊎ Used b m
      used b u z m f (inl q) = inl (reached_here b I w q)
      used b u z m f (inr q) = inr (f q)

      only : (b : ℕ) (u z : Tree max_depth) (m : Run (geo_at M I) max_depth p n J u L z) → (Used b m → UsedBy b r)
          → (1 ≤ count b (blocks (code_size M.code) max_depth w.tree)) ⊎ Used b m → ReachedIn M b I ⊎ UsedBy b r
      only b u z m f (inl q) = inl (record { well = w; there = q })
      only b u z m f (inr q) = inr (f q)

module _ (M : Mount) (p : List Name) (n : Name) (I J : List ℕ) (w : WellFormed M I) (v : Vacant max_depth p n w.tree)
    (c : Calls M (blocks_at v.dir.1) p n I J) where
  holding : DirAt max_depth (blocks_at v.dir.1) p w.tree
  holding = record { dir = v.dir; there = v.there; starts = refl }

  ran : Ran M (blocks_at v.dir.1) p n (geo_at M I) c w
  ran = runs M (blocks_at v.dir.1) p n c w holding

  -- Whatever calls are made at the path, the image stays a well-formed volume.
  pub calls_well : WellFormed M J
  calls_well = ran.well

  -- D3.
  pub calls_restore : Bytes I → (u : WellFormed M J) → Vacant max_depth p n u.tree
      → Restored (geo_at M I) max_depth p I w.tree (λ b. UsedBy b c) J
  calls_restore b u e =
      let r = demand3 (geo_at M I) max_depth p n I J w.tree ran.well.tree b (ran.bytes b) (volume_at M I w) v ran.run
      (subst (Vacant max_depth p n) (well_formed_one M J u ran.well).1 e) in
      record {
        long = r.long;
        top = r.top;
        bitmap = r.bitmap;
        reached = r.reached;
        given_back = λ x q. r.given_back x (ran.used x q);
        never_used = λ x i o q. r.never_used x i o (λ h. q (ran.only x h));
      }
