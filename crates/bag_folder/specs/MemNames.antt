-- What stands under names in memory.
use Rattle.std.specs.Prelude.{ℕ, List, [], ◌∷◌, None, Option, Some, Result, Ok, Err, if◌then◌else◌, map}
use Rattle.std.specs.Str.{bytes_eq}
use Rattle.std.specs.declared.io.Error.{Error}
use Rattle.bag_folder.specs.declared.entry_kind.EntryKind.{EntryKind}
use Rattle.bag_folder.specs.declared.entry_kind.EntryKind.TheVariants.{File, Link}
use Rattle.bag_folder.specs.DiskNames.{Named, Standing}

-- what stands under a name: its kind, and what a file holds
pub record MemEntryShown : Type 0 where
  pub name : List ℕ
  pub kind : EntryKind
  pub octets : List ℕ

-- the first entry with this name
abbrev pub first_in : List MemEntryShown → List ℕ → Option MemEntryShown
first_in [] name = None
first_in (entry ∷ entries) name =
    if bytes_eq entry.name name then Some entry else first_in entries name

-- a link leads nowhere
abbrev pub behind_of : Error → EntryKind → Result EntryKind Error
behind_of absent Link = Err absent
behind_of absent kind = Ok kind

-- a file gives these octets, and nothing else can be opened
abbrev pub content_of : Error → EntryKind → List ℕ → Result (Option (List ℕ)) Error
content_of absent File octets = Ok (Some octets)
content_of absent kind octets = Err absent

abbrev pub named_by : Error → MemEntryShown → Named
named_by absent entry = record {
  name = entry.name;
  itself = Ok entry.kind;
  behind = behind_of absent entry.kind;
  content = content_of absent entry.kind entry.octets;
}

-- what stands under the names of these entries, and the error for all other names
abbrev pub standing_of : List MemEntryShown → Error → Standing
standing_of entries absent = record { names = map (named_by absent) entries; absent = absent }
