-- The marked examples E1 to E23 (K = 8), as one table: what the definitions give, and what the rules say. Definitions alone.
use Rattle.std.specs.Prelude.{◌≡◌, List, [], ◌∷◌, ◌++◌, ℕ, ◌-◌, ◌*◌, negsuc, replicate}
use Rattle.wire.specs.Be.{zeros, splice}
use Rattle.bits.specs.Bit.{with_bit}
use Rattle.model.specs.Answers.{Reply, accepted, refused, settle}
use Rattle.model.specs.Geometry.{Mount, Geo, mount, mounted, block_size, numbered, geo, data_at, reach, super_bytes, open_refusal, format_refusal}
use Rattle.model.specs.Tree.{Entry, Block, Tree, used, insert}
use Rattle.model.specs.Render.{padded}
use Rattle.model.specs.Volume.{All, blocks_for}
use Rattle.model.specs.Calls.{entry_room, to_create, file_entry}
use Rattle.dir_entry.specs.declared.Kind.TheVariants.{Dir}
use Rattle.dir_entry.specs.declared.DirEntry.{DirEntry}
use Rattle.dir_entry.specs.Entry.{head_bytes}
use Rattle.path.specs.Path.{dir_part, last_name}
use Rattle.handle.specs.declared.Handle.{Handle}
use Rattle.handle.specs.declared.SeekFrom.{SeekFrom}
use Rattle.handle.specs.declared.SeekFrom.TheVariants.{Start, Current}
use Rattle.handle.specs.Handles.{target, place_in, seek_refusal}
use Rattle.call_read.specs.Reading.{open_reply, list_reply}

pub record Example : Type 0 where
  pub number : ℕ
  pub given : List ℕ
  pub said : List ℕ

-- an example, by its number, what the definitions give and what the rules say
abbrev pub row : ℕ → List ℕ → List ℕ → Example
row k g s = record { number = k; given = g; said = s }

-- K = 8, with blocks of 512 bytes and of 1,024
abbrev pub narrow : Mount
narrow = mount 8 0

abbrev pub wide : Mount
wide = mount 8 1

-- an image of just the blocks of a volume, whose superblock has its numbers; the refusal of opening it, and that of formatting
-- one of its length before that; D and the reach
abbrev pub image_of : Geo → List ℕ
image_of g = splice (zeros (block_size g * g.n)) (block_size g * g.K) (super_bytes g (data_at g))

abbrev pub opening : Geo → ℕ
opening g = open_refusal (mounted g) (image_of g)

abbrev pub refusals_of : Geo → List ℕ
refusals_of g = format_refusal (mounted g) (block_size g * g.n) ∷ (opening g ∷ [])

abbrev pub areas_of : Geo → List ℕ
areas_of g = data_at g ∷ (reach g ∷ [])

-- a handle on a file of 10 bytes, at position 4; the refusal of a seek, 0 where it is accepted, and then its place
abbrev pub at_four : Handle
at_four =
    record { dir = record { 0 = 11 }; name = padded 255 (97 ∷ []); len = 1; addr = record { 0 = 12 }; size = 10; position = 4 }

abbrev pub seek_to : SeekFrom → List ℕ
seek_to f = seek_refusal at_four f ∷ (settle (seek_refusal at_four f) (place_in (target at_four f)) 4 ∷ [])

-- the directory part and the last name of a path, a 0 between them
abbrev pub parts_of : List ℕ → List ℕ
parts_of l = dir_part l ++ (0 ∷ last_name l)

-- a volume of 13 blocks with one entry, the empty directory `a`: superblock, block K+1, bitmap, the root's block and the
-- directory's
abbrev pub entry_a : DirEntry
entry_a = record { kind = Dir; addr = record { 0 = 12 }; size = 0; time = 0; len = 1 }

abbrev pub volume_a : List ℕ
volume_a =
    zeros (512 * 8) ++ (super_bytes (geo narrow 13) 13 ++ (zeros 512
    ++ (padded 512 (3 ∷ []) ++ (padded 512 (zeros 4 ++ (head_bytes entry_a ++ (97 ∷ []))) ++ zeros 512))))

-- the number of an answer's refusal, 0 where it is accepted
abbrev pub refusal_in : {A : Type 0} → Reply A → ℕ
refusal_in (accepted a) = 0
refusal_in (refused k) = k

-- `/a` and `/a//b`
abbrev pub path_a : List ℕ
path_a = 47 ∷ (97 ∷ [])

abbrev pub path_b : List ℕ
path_b = 47 ∷ (97 ∷ (47 ∷ (47 ∷ (98 ∷ []))))

-- a directory of one block, with a file for each length, its name as long; where the entries of a directory's first block end
abbrev pub files_of : {X : Type 0} → List ℕ → List (Entry X)
files_of [] = []
files_of (k ∷ ks) = file_entry (replicate k 97) 0 0 [] ∷ files_of ks

abbrev pub holding : List ℕ → Tree 0
holding ks = record { at = 11; entries = files_of ks } ∷ []

abbrev pub end_in : {X : Type 0} → List (Block X) → ℕ
end_in [] = 0
end_in (b ∷ bs) = used b.entries

-- of a create there with a name of k bytes: how many blocks it adds, and where the first block's entries end then
abbrev pub create_in : Geo → Tree 0 → ℕ → List ℕ
create_in g t k =
    to_create (entry_room g) (replicate k 98) t
    ∷ (end_in (insert (entry_room g) 12 (file_entry (replicate k 98) 0 0 []) t) ∷ [])

unfoldable pub marked_examples : List Example
marked_examples =
    -- E1: of format and of open
    row 1 (refusals_of (geo narrow 11)) (3 ∷ (3 ∷ []))
    -- E2
    ∷ (row 2 (areas_of (geo narrow 12)) (11 ∷ (0 ∷ []))
    -- E3
    ∷ (row 3 (areas_of (geo narrow 4107)) (11 ∷ (4096 ∷ []))
    -- E4: of format and of open
    ∷ (row 4 (refusals_of (geo narrow 4108)) (3 ∷ (3 ∷ []))
    -- E5
    ∷ (row 5 (areas_of (geo narrow 4109)) (12 ∷ (4096 ∷ []))
    -- E6: the bit set in four clear bytes
    ∷ (row 6 (with_bit (zeros 4) 0 (24 - 11) 1) (0 ∷ (32 ∷ (0 ∷ (0 ∷ []))))
    -- E7
    ∷ (row 7 (blocks_for 512 0 ∷ (blocks_for 512 508 ∷ (blocks_for 512 509 ∷ (blocks_for 512 1016 ∷ []))))
    (1 ∷ (1 ∷ (2 ∷ (2 ∷ []))))
    -- E8
    ∷ (row 8 (seek_to (Current (negsuc 3)) ++ seek_to (Current (negsuc 4))) (0 ∷ (0 ∷ (12 ∷ (4 ∷ []))))
    -- E9
    ∷ (row 9 (seek_to (Start 10) ++ (seek_to (Start 11) ++ seek_to (Start 2147483648))) (0 ∷ (10 ∷ (12 ∷ (4 ∷ (12 ∷ (4 ∷ []))))))
    -- E10
    ∷ (row 10 (parts_of (47 ∷ (47 ∷ (97 ∷ [])))) (47 ∷ (0 ∷ (97 ∷ [])))
    -- E11: on a volume where a listing of `/a` is accepted, so that it is a directory, open of `/a//b` gives 5
    ∷ (row 11 (parts_of path_b ++ (refusal_in (list_reply narrow volume_a [] path_a 0 0) ∷
    (refusal_in (open_reply narrow volume_a [] path_b) ∷ [])))
    (47 ∷ (97 ∷ (47 ∷ (0 ∷ (98 ∷ (0 ∷ (5 ∷ [])))))))
    -- E12: the name of 235 goes into the block, whose entries end at 507 then; that of 236 leaves the block as it was, its
    -- entries ending at 254
    ∷ (row 12 (create_in (geo narrow 12) (holding (236 ∷ [])) 235 ++ create_in (geo narrow 12) (holding (236 ∷ [])) 236)
    (1 ∷ (507 ∷ (2 ∷ (254 ∷ []))))
    -- E13 to E17, as E1 to E5, in blocks of 1,024 bytes
    ∷ (row 13 (refusals_of (geo wide 11)) (3 ∷ (3 ∷ []))
    ∷ (row 14 (areas_of (geo wide 12)) (11 ∷ (0 ∷ []))
    ∷ (row 15 (areas_of (geo wide 8203)) (11 ∷ (8192 ∷ []))
    ∷ (row 16 (refusals_of (geo wide 8204)) (3 ∷ (3 ∷ []))
    ∷ (row 17 (areas_of (geo wide 8205)) (12 ∷ (8192 ∷ []))
    -- E18
    ∷ (row 18 (blocks_for 1024 0 ∷ (blocks_for 1024 1020 ∷ (blocks_for 1024 1021 ∷ (blocks_for 1024 2040 ∷ []))))
    (1 ∷ (1 ∷ (2 ∷ (2 ∷ []))))
    -- E19: behind three of the longest names, as E12
    ∷ (row 19 (create_in (geo wide 12) (holding (255 ∷ (255 ∷ (255 ∷ [])))) 182 ++ create_in (geo wide 12)
    (holding (255 ∷ (255 ∷ (255 ∷ [])))) 183)
    (1 ∷ (1019 ∷ (2 ∷ (819 ∷ []))))
    -- E20: of format and of open, though the image is empty
    ∷ (row 20 (format_refusal (mount 8 2) 0 ∷ (open_refusal (mount 8 2) [] ∷ [])) (2 ∷ (2 ∷ []))
    -- E21: version 1 in blocks of 1,024 bytes
    ∷ (row 21 (opening (numbered wide 1 8203) ∷ []) (2 ∷ [])
    -- E22, E23: version 1
    ∷ (row 22 (opening (numbered narrow 1 4106) ∷ []) (3 ∷ [])
    ∷ (row 23 (areas_of (numbered narrow 1 4107) ++ areas_of (numbered narrow 1 8203)) (11 ∷ (4096 ∷ (11 ∷ (4096 ∷ []))))
    ∷ []))))))))))))))))))))))

-- The one statement: in every row the definitions give what the rules say.
abbrev pub AsSaid : List Example → Type 0
AsSaid es = All (λ e. e.given ≡ e.said) es
