-- D2: on a well-formed volume open, info and list answer what the tree says.
use mathlib.Core.Path.{◌≡◌, refl, sym, ap, ◌∙◌}
use mathlib.Core.Bool.{Bool, true, false}
use mathlib.Core.Logic.{◌⊎◌, inl, inr}
use mathlib.Core.Option.{some}
use mathlib.Core.List.{List, [], ◌∷◌}
use Prim.Native.Nat.{ℕ, suc, ◌+◌}
use native.Mathlib.Omega.{arith}
use lib.Dec.{ltb}
use lib.ListN.{length}
use Rattle.wire.specs.Be.{splice}
use Rattle.wire.specs.Pick.{pick, same}
use Rattle.wire.proofs.Picks.{either}
use Rattle.model.specs.Answers.{Reply, accepted, refused, and_then, when, reply, given}
use Rattle.model.specs.Tree.{Name, Node, file, device, sub, Entry, Below, lookup, sum, Some, find}
use Rattle.model.specs.Render.{View, blocks_at, view, address_of, size_of}
use Rattle.model.specs.Geometry.{Mount, block_size, data_at, geo_at, set_bits}
use Rattle.model.specs.Volume.{file_limit, WellFormed, Laid, max_depth}
use Rattle.model.proofs.OneVolume.{well_formed_opens}
use Rattle.model.proofs.Opens.{first_of_one, first_of_tail}
use Rattle.model.proofs.Replies.{given_yes, given_no, and_then_ok, and_then_no}
use Rattle.dir_entry.specs.declared.Kind.TheVariants.{Dir}
use Rattle.dir_entry.specs.Shown.{kind_is, head_of}
use Rattle.read_dir.specs.Walk.{walk}
use Rattle.read_dir.specs.Finds.{sum_from}
use Rattle.path.specs.Path.{slash, real_path, bad_path, path_refusal}
use Rattle.dir.specs.Resolve.{held}
use Rattle.thm_path.specs.Shown.{way_to}
use Rattle.thm_path.proofs.Finds.{sum_is}
use Rattle.thm_path.proofs.Resolves.{lookup_name, resolve_way}
use Rattle.call_read.specs.declared.OpenOut.{OpenOut}
use Rattle.call_read.specs.declared.InfoOut.{InfoOut}
use Rattle.call_read.specs.declared.About.{About}
use Rattle.call_read.specs.Reading.{size, area_at, path_call, open_entry, open_on, open_reply, open_says, Opens, about, about_entry}
use Rattle.call_read.specs.Reading.{about_root, info_on, info_reply, info_says, Informs, list_on, list_reply, records_on, on_reply}
use Rattle.call_read.specs.Reading.{Lists}
use Rattle.thm_calls.specs.Named.{way_of, last_of, all_of}
use Rattle.thm_calls.proofs.Calls.{list_counts, list_records}
use Rattle.thm_calls.proofs.Changing.{volume_at}
use Rattle.promises.specs.Refusals.{Spot, spot_at, open_node, open_answer, about_spot, info_answer, dir_answer, list_answer}
use Rattle.promises.specs.Refusals.{records_in}
use Rattle.promises.proofs.Spots.{way_found, entry_then}
use Rattle.std.specs.Prelude.{Result}
use Rattle.limits.specs.Says.{says}
use Rattle.limits.specs.declared.Refusal.{Refusal}
use Rattle.read_dir.specs.declared.Listed.{Listed}

-- ---- answers

-- a value after one test
test_reply : {A : Type 0} (k : ℕ) (b : Bool) (a : A) → pick b (refused (suc k)) (accepted a) ≡ reply (when (suc k) b) a
unfolding pick when reply
test_reply k true a = refl
test_reply k false a = refl

-- ---- open

-- what an entry shows is opened by what it stands for
open_node_lem : {X : Type 0} (v : View X) (a : ℕ) (n : Name) (t k : ℕ) (x : Node X)
    → open_entry n (held a (record {
      kind = kind_is x;
      addr = record { 0 = address_of v x };
      size = size_of v x;
      time = t;
      len
          = k;
    })) ≡ open_node a n x
unfolding open_entry open_node address_of size_of pick when reply
open_node_lem v a n t k (file z cs) = test_reply 9 (ltb file_limit z) _
open_node_lem v a n t k (device z cs) = refl
open_node_lem v a n t k (sub x) = refl

open_spot : (B : ℕ) (n : Name) (s : Some) (e : Entry (Below s.0))
    → open_entry n (held (blocks_at s.1) (head_of (view B s.0) e)) ≡ open_node (blocks_at s.1) n e.node
unfolding head_of
open_spot B n s e = open_node_lem (view B s.0) (blocks_at s.1) n e.time (length e.name) e.node

-- info says of an entry what it is in the tree
about_spot_lem : (B : ℕ) (n : Name) (s : Some) (e : Entry (Below s.0)) → lookup n s.1 ≡ some e
    → about_entry n (held (blocks_at s.1) (head_of (view B s.0) e)) ≡ about_spot B (s, e)
unfolding head_of
about_spot_lem B n s e k =
    ap (λ (x : Name). accepted (about (kind_is e.node) (size_of (view B s.0) e.node) e.time x))
    (lookup_name n s.1 e k)

-- nothing is put into a buffer by no bytes
splice-none : (l : List ℕ) → splice l 0 [] ≡ l
unfolding splice
splice-none l = refl

module _ (M : Mount) (I : List ℕ) (w : WellFormed M I) (cwd p : List ℕ) where
  abbrev laid : Laid (geo_at M I) I max_depth w.tree (data_at (geo_at M I) + set_bits I (geo_at M I))
  laid = (volume_at M I w).laid

  -- 4 alone is given before the way
  call_is : path_call M I cwd p ≡ path_refusal cwd p
  unfolding path_call
  call_is = first_of_tail _ _ (well_formed_opens M I w) ∙ first_of_one _

  pub opens : (o : OpenOut) → Opens M I cwd p o → open_says o ≡ open_answer cwd p w.tree
  unfolding open_reply open_on open_answer
  opens o c =
      c.answer
      ∙ ap (λ (k : ℕ). given k (open_on (area_at M I) I (real_path cwd p))) call_is
      ∙ ap (given (path_refusal cwd p))
      (entry_then (geo_at M I) I w.tree _ laid (real_path cwd p) (open_entry (last_of cwd p))
      (λ (x : Spot). open_node (blocks_at x.0.1) (last_of cwd p) x.1.node)
      (λ s e k. open_spot (size M I) (last_of cwd p) s e))

  root_sum : about_root (sum_from 0 (walk (area_at M I) I (area_at M I).first)) ≡ accepted (about Dir (sum w.tree) 0 [])
  unfolding find
  root_sum =
      ap (λ (a : ℕ). about_root (sum_from 0 (walk (area_at M I) I a))) (sym laid.root)
      ∙ ap about_root (sum_is (geo_at M I) I max_depth w.tree _ [] (max_depth, w.tree) laid refl)

  pub informs : (o : InfoOut) → Informs M I cwd p o → info_says o ≡ info_answer (block_size (geo_at M I)) cwd p w.tree
  unfolding info_reply info_on info_answer
  informs o c =
      let entry = and_then (spot_at (way_of cwd p) (last_of cwd p) w.tree) (about_spot (size M I)) in
      c.answer
      ∙ ap (λ (k : ℕ). given k (info_on (area_at M I) I (real_path cwd p) p)) call_is
      ∙ ap (λ (r : Reply About). given (path_refusal cwd p)
      (pick (same p (slash ∷ [])) (about_root (sum_from 0 (walk (area_at M I) I (area_at M I).first))) r))
      (entry_then (geo_at M I) I w.tree _ laid (real_path cwd p) (about_entry (last_of cwd p)) (about_spot (size M I))
      (λ s e k. about_spot_lem (size M I) (last_of cwd p) s e k))
      ∙ ap (λ (r : Reply About). given (path_refusal cwd p) (pick (same p (slash ∷ [])) r entry)) root_sum

  -- ---- list

  module _ (i : ℕ) (buf out : List ℕ) (q : Result Listed Refusal) (c : Lists M I cwd p i buf q out) where
    abbrev Said : Type 0
    Said = (says q ≡ list_answer cwd p i (length buf) w.tree)
        × (out ≡ splice buf 0 (records_in (block_size (geo_at M I)) i (length buf) (dir_answer cwd p w.tree)))

    list_refused : (k : ℕ) → list_reply M I cwd p i (length buf) ≡ refused k → dir_answer cwd p w.tree ≡ refused k → Said
    unfolding list_answer
    list_refused k a b = (
      c.answer ∙ a ∙ sym (and_then_no k _ b),
      c.buffer ∙ ap (λ (r : Reply Listed). on_reply r
          (splice buf 0 (records_on (area_at M I) I (real_path cwd p) i (length buf))) buf) a
          ∙ sym (splice-none buf) ∙ ap (λ (r : Reply Some). splice buf 0 (records_in (size M I) i (length buf) r)) (sym b),
    )

    list_given : bad_path cwd p ≡ false → (s : Some) → way_to max_depth (all_of cwd p) w.tree ≡ accepted s
        → dir_answer cwd p w.tree ≡ accepted s → Said
    unfolding list_answer
    list_given good s f b =
        let found = way_found max_depth (all_of cwd p) w.tree s f in
        let a = list_counts M I w cwd p good s found i (length buf) in (
          c.answer ∙ a ∙ sym (and_then_ok s _ b),
          c.buffer ∙ ap (λ (r : Reply Listed). on_reply r
              (splice buf 0 (records_on (area_at M I) I (real_path cwd p) i (length buf))) buf) a
              ∙ ap (splice buf 0) (list_records M I w cwd p good s found i (length buf))
              ∙ ap (λ (r : Reply Some). splice buf 0 (records_in (size M I) i (length buf) r)) (sym b),
        )

    pub lists : Said
    unfolding list_reply list_on dir_answer
    lists = go (either (bad_path cwd p)) (way_to max_depth (all_of cwd p) w.tree) refl
      where
        called : (r : Reply Listed) → given (path_call M I cwd p) r ≡ given (path_refusal cwd p) r
        called r = ap (λ (k : ℕ). given k r) call_is

        go : (bad_path cwd p ≡ true) ⊎ (bad_path cwd p ≡ false) → (r : Reply Some) → way_to max_depth (all_of cwd p) w.tree ≡ r
            → Said
        go (inl bad) r f = list_refused 4 (called _ ∙ given_yes 4 _ (omega arith) bad) (given_yes 4 _ (omega arith) bad)
        go (inr good) (accepted s) f = list_given good s f (given_no 4 _ good ∙ f)
        go (inr good) (refused k) f =
            list_refused k
            (called _ ∙ given_no 4 _ good
            ∙ and_then_no k _ (resolve_way (geo_at M I) I max_depth w.tree _ (all_of cwd p) laid
            ∙ and_then_no k (λ s. accepted (blocks_at s.1)) f))
            (given_no 4 _ good ∙ f)
