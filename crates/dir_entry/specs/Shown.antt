-- What an entry of the tree shows to a reader. Definitions alone.
use Rattle.std.specs.Prelude.{length}
use Rattle.model.specs.Tree.{Node, file, device, sub, Entry}
use Rattle.model.specs.Render.{View, address_of, size_of}
use Rattle.dir_entry.specs.declared.Kind.{Kind}
use Rattle.dir_entry.specs.declared.Kind.TheVariants.{Dir, File, Device}
use Rattle.dir_entry.specs.declared.DirEntry.{DirEntry}

-- The kind of what an entry stands for.
abbrev pub kind_is : {X : Type 0} → Node X → Kind
kind_is (file s cs) = File
kind_is (device s cs) = Device
kind_is (sub x) = Dir

-- The fixed part that an entry shows.
unfoldable pub head_of : {X : Type 0} → View X → Entry X → DirEntry
head_of v e =
    record {
      kind = kind_is e.node;
      addr = record { 0 = address_of v e.node };
      size = size_of v e.node;
      time = e.time;
      len = length e.name;
    }
