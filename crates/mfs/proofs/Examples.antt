-- The marked examples hold: by computation, but for opening, where the images are long.
use mathlib.Core.Path.{◌≡◌, refl, ap, ◌∙◌}
use mathlib.Core.Bool.{Bool, true, false, not, ◌||◌}
use mathlib.Core.List.{List, [], ◌∷◌}
use Prim.Native.Nat.{ℕ, ◌+◌, ◌*◌, ◌/◌, ◌%◌, ◌^◌, ◌≤◌, ◌<◌}
use native.Mathlib.Omega.{arith}
use lib.Dec.{eqb}
use lib.ListN.{length, length-replicate, take, drop}
use Rattle.wire.specs.Be.{zeros, be, bytes}
use Rattle.wire.specs.Pick.{pick, same}
use Rattle.wire.proofs.Numbers.{length-splice, splice_in}
use Rattle.wire.proofs.Picks.{same_refl}
use Rattle.bits.specs.Bit.{digit, with_digit, with_bit}
use Rattle.block.specs.Block.{next}
use Rattle.model.specs.Answers.{when, first_of, settle, and_then, given}
use Rattle.model.specs.Geometry.{Mount, Geo, mount, mounted, code_size, block_size, last_code, map_blocks, data_at, reach, signature, super_bytes, numbered, geo, geo_at, version_at, code_at, count_at, image_limit, bad_code, bad_image, bad_version, bad_mark, bad_count, open_refusal, format_refusal}
use Rattle.model.specs.Render.{Shows, padded}
use Rattle.model.specs.Volume.{blocks_for}
use Rattle.model.specs.Tree.{any, on_first, used, weight, insert}
use Rattle.model.specs.Calls.{to_create, has_room, file_entry}
use Rattle.model.proofs.Areas.{size_large}
use Rattle.model.proofs.Commit.{shows_one}
use Rattle.model.proofs.Demand.{whole_super}
use Rattle.model.proofs.Entries.{be_shown}
use Rattle.model.proofs.OneVolume.{TopReads, top_reads, shown_part}
use Rattle.model.proofs.Opens.{Marked, code_good, image_good, mark_good, open_2, open_3, open_code}
use Rattle.dir_entry.specs.Entry.{head_bytes, slot_at, entry_at, kind_at}
use Rattle.read_dir.specs.Walk.{on_slot, shown, entries_from, chain_from}
use Rattle.read_dir.specs.Finds.{find_in, skip, list_from}
use Rattle.text.specs.Text.{in_range, begun, step, text_from}
use Rattle.path.specs.Path.{dir_part, last_name, trimmed, untrailed, before_name, steps, split, unled, real_path, bad_path, starts_slash, ends_slash}
use Rattle.dir.specs.Resolve.{resolve, entry_of}
use Rattle.handle.specs.Handles.{seek_refusal, stale_fields, target}
use Rattle.call_read.specs.Reading.{path_call, open_on, open_entry, open_reply, list_on, list_reply}
use Rattle.mfs.specs.Examples.{narrow, wide, image_of, opening, volume_a, path_a, path_b, refusal_in, marked_examples, AsSaid}

-- ---- opening an image whose superblock has the numbers g, and which has just their blocks

last_true : (a b : Bool) {c : Bool} → c ≡ true → (a || (b || c)) ≡ true
last_true true b e = refl
last_true false true e = refl
last_true false false e = e

mark_bad : (M : Mount) (I : List ℕ) → bad_version (version_at M I) M.code ≡ true → bad_mark M I ≡ true
unfolding bad_mark
mark_bad M I e = last_true (not (same (take 8 (drop (code_size M.code * M.K) I)) signature)) (not (eqb (code_at M I) M.code)) e

-- what is asked of the numbers, each a fact of numbers in digits
record Plain (g : Geo) : Type 0 where
  code : g.code ≤ last_code
  whole : (block_size g * g.n) % block_size g ≡ 0
  limit : block_size g * g.n ≤ image_limit
  more : g.K + 2 < (block_size g * g.n) / block_size g
  top : block_size g * g.K + block_size g ≤ block_size g * g.n
  few : g.n < 2 ^ 32

module _ (g : Geo) (p : Plain g) where
  abbrev from : ℕ
  from = block_size g * g.K

  abbrev block : List ℕ
  block = super_bytes g (data_at g)

  abbrev clear : List ℕ
  clear = zeros (block_size g * g.n)

  clear_long : length clear ≡ block_size g * g.n
  clear_long = length-replicate (block_size g * g.n) 0

  fits : from + length block ≤ length clear
  fits = omega (arith, clear_long, whole_super g (data_at g), p.top)

  image_long : length (image_of g) ≡ block_size g * g.n
  image_long = length-splice clear from block fits ∙ clear_long

  reads : TopReads (image_of g) from g (data_at g)
  reads = top_reads (image_of g) from g (data_at g) (splice_in clear from block fits)

  count_is : count_at (mounted g) (image_of g) ≡ g.n
  unfolding count_at
  count_is = be_shown (image_of g) (from + 10) 4 g.n p.few reads.count

  version_is : version_at (mounted g) (image_of g) ≡ g.version
  unfolding version_at
  version_is = reads.mark 8 (omega arith)

  code_is : code_at (mounted g) (image_of g) ≡ g.code
  unfolding code_at
  code_is = reads.mark 9 (omega arith)

  geo_is : geo_at (mounted g) (image_of g) ≡ g
  geo_is = λ i. record { K = g.K; n = count_is i; version = version_is i; code = g.code }

  marked : Marked (mounted g) (image_of g)
  marked =
      let m : Shows (image_of g) from signature = shows_one (image_of g) from signature (g.version ∷ (g.code ∷ [])) reads.mark in
      let s : take 8 (drop from (image_of g)) ≡ signature
      = shown_part (image_of g) from signature (omega (arith, image_long, p.top, size_large g)) m in
      record { letters = ap (λ (x : List ℕ). same x signature) s ∙ same_refl signature; code = code_is }

  image_is : bad_image (mounted g) (length (image_of g)) ≡ false
  image_is = ap (bad_image (mounted g)) image_long ∙ image_good (mounted g) (block_size g * g.n) p.whole p.limit p.more

  -- It is refused by 2 where no volume of its size code has its version,
  open_other : bad_version g.version g.code ≡ true → opening g ≡ 2
  open_other b =
      open_2 (mounted g) (image_of g) (code_good (mounted g) p.code) image_is
      (mark_bad (mounted g) (image_of g) (ap (λ (v : ℕ). bad_version v g.code) version_is ∙ b))

  -- and by 3 where that is known and the count is bad.
  open_bad : bad_version g.version g.code ≡ false → bad_count g (block_size g * g.n) ≡ true → opening g ≡ 3
  open_bad v b =
      open_3 (mounted g) (image_of g) (code_good (mounted g) p.code) image_is
      (mark_good (mounted g) (image_of g) marked (ap (λ (x : ℕ). bad_version x g.code) version_is ∙ v))
      (ap (λ (h : Geo). bad_count h (length (image_of g))) geo_is ∙ ap (bad_count g) image_long ∙ b)

opens_11 : opening (geo narrow 11) ≡ 3
unfolding bad_version bad_count pick
opens_11 = open_bad (geo narrow 11) (record { code = omega arith; whole = refl; limit = omega arith; more = omega arith; top = omega arith; few = omega arith }) refl refl

opens_4108 : opening (geo narrow 4108) ≡ 3
unfolding bad_version bad_count pick
opens_4108 = open_bad (geo narrow 4108) (record { code = omega arith; whole = refl; limit = omega arith; more = omega arith; top = omega arith; few = omega arith }) refl refl

opens_wide_11 : opening (geo wide 11) ≡ 3
unfolding bad_version bad_count pick
opens_wide_11 = open_bad (geo wide 11) (record { code = omega arith; whole = refl; limit = omega arith; more = omega arith; top = omega arith; few = omega arith }) refl refl

opens_wide_8204 : opening (geo wide 8204) ≡ 3
unfolding bad_version bad_count pick
opens_wide_8204 = open_bad (geo wide 8204) (record { code = omega arith; whole = refl; limit = omega arith; more = omega arith; top = omega arith; few = omega arith }) refl refl

opens_wide_old : opening (numbered wide 1 8203) ≡ 2
unfolding bad_version
opens_wide_old = open_other (numbered wide 1 8203) (record { code = omega arith; whole = refl; limit = omega arith; more = omega arith; top = omega arith; few = omega arith }) refl

opens_old_4106 : opening (numbered narrow 1 4106) ≡ 3
unfolding bad_version bad_count pick
opens_old_4106 = open_bad (numbered narrow 1 4106) (record { code = omega arith; whole = refl; limit = omega arith; more = omega arith; top = omega arith; few = omega arith }) refl refl

-- ---- `/a//b`

lists_a : refusal_in (list_reply narrow volume_a [] path_a 0 0) ≡ 0
unfolding list_reply list_on path_call open_refusal first_of when pick bad_code bad_image bad_mark bad_version bad_count version_at code_at count_at be map_blocks data_at super_bytes
    padded bytes head_bytes same real_path bad_path text_from step begun in_range starts_slash ends_slash given and_then steps split unled resolve
    find_in chain_from entries_from on_slot shown slot_at entry_at kind_at next skip list_from
lists_a = refl

opens_b : refusal_in (open_reply narrow volume_a [] path_b) ≡ 5
unfolding open_reply open_on open_entry entry_of path_call open_refusal first_of when pick bad_code bad_image bad_mark bad_version bad_count version_at code_at count_at be map_blocks
    data_at super_bytes padded bytes head_bytes same real_path bad_path text_from step begun in_range starts_slash ends_slash given and_then dir_part
    last_name trimmed untrailed before_name steps split unled resolve find_in chain_from entries_from on_slot shown slot_at entry_at
    kind_at next
opens_b = refl

-- ---- the table

pub marked_examples_lem : AsSaid marked_examples
unfolding marked_examples map_blocks data_at reach format_refusal bad_code bad_image bad_count when first_of pick with_bit with_digit
    digit blocks_for seek_refusal stale_fields target settle dir_part last_name trimmed untrailed before_name same to_create has_room any on_first
    used weight file_entry insert
marked_examples_lem =
    let both : ℕ → List ℕ = λ k. 3 ∷ (k ∷ []) in
    let one : ℕ → List ℕ = λ k. k ∷ [] in
    let coded : ℕ → List ℕ = λ k. 2 ∷ (k ∷ []) in
    let opened : ℕ → List ℕ = λ k. 47 ∷ (97 ∷ (47 ∷ (0 ∷ (98 ∷ (0 ∷ (k ∷ [])))))) in
    let listed : ℕ → List ℕ = λ k. 47 ∷ (97 ∷ (47 ∷ (0 ∷ (98 ∷ (k ∷ (refusal_in (open_reply narrow volume_a [] path_b) ∷ [])))))) in (
      ap both opens_11,
      (
        refl,
        (
          refl,
          (
            ap both opens_4108,
            (
              refl,
              (
                refl,
                (
                  refl,
                  (
                    refl,
                    (
                      refl,
                      (
                        refl,
                        (
                          ap listed lists_a ∙ ap opened opens_b,
                          (
                            refl,
                            (
                              ap both opens_wide_11,
                              (
                                refl,
                                (
                                  refl,
                                  (
                                    ap both opens_wide_8204,
                                    (
                                      refl,
                                      (
                                        refl,
                                        (
                                          refl,
                                          (
                                            ap coded (open_code (mount 8 2) [] (omega arith)),
                                            (
                                              ap one opens_wide_old,
                                              (ap one opens_old_4106, (refl, tt)),
                                            ),
                                          ),
                                        ),
                                      ),
                                    ),
                                  ),
                                ),
                              ),
                            ),
                          ),
                        ),
                      ),
                    ),
                  ),
                ),
              ),
            ),
          ),
        ),
      ),
    )
