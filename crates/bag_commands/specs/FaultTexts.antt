-- The faults of a bag as printed.
use Rattle.std.specs.Prelude.{ℕ, List, ◌++◌, codes}
use Rattle.std.specs.Fmt.{decimal}
use Rattle.bag_path.specs.Spellings.{written_spelling}
use Rattle.bag_tags.specs.declared.listing.Kind.TheVariants.{Payload, Tag}
use Rattle.bag_tags.specs.declared.declaration.DeclFault.{DeclFault}
use Rattle.bag_tags.specs.declared.declaration.DeclFault.TheVariants as declaration
use Rattle.bag_tags.specs.declared.tag_fault.LineCause.{LineCause}
use Rattle.bag_tags.specs.declared.tag_fault.LineCause.TheVariants as cause
use Rattle.bag_tags.specs.Names.{file_of, manifest_file, text_file}
use Rattle.bag_rules.specs.declared.fault.Fault.{Fault}
use Rattle.bag_rules.specs.declared.fault.Fault.TheVariants as fault

-- why `bagit.txt` can't be read
abbrev pub declaration_text : DeclFault → List ℕ
declaration_text declaration.NotUtf8 = codes "not UTF-8"
declaration_text declaration.Mark = codes "byte order mark"
declaration_text declaration.LineCount = codes "line count"
declaration_text declaration.Label = codes "label"
declaration_text declaration.Version = codes "version"
declaration_text declaration.EncodingName = codes "encoding name"

-- why a line can't be read
abbrev pub cause_text : LineCause → List ℕ
cause_text cause.NotUtf8 = codes "not UTF-8"
cause_text cause.NoSeparator = codes "separator"
cause_text cause.BadDigest = codes "digest form"
cause_text (cause.BadPath why) = codes "path"
cause_text cause.WrongPlace = codes "wrong place"
cause_text cause.Twice = codes "twice"
cause_text cause.BadLabel = codes "label"
cause_text cause.NothingToContinue = codes "nothing to continue"
cause_text cause.BadUrl = codes "url"
cause_text cause.BadLength = codes "length"

-- a fault's line; paths are spelled as in a manifest, and line numbers are decimal
abbrev pub fault_text : Fault → List ℕ
fault_text fault.NoDeclaration = codes "no bagit.txt"
fault_text (fault.BadDeclaration why) = codes "bagit.txt: " ++ declaration_text why
fault_text fault.NoPayloadDir = codes "no data directory"
fault_text fault.NoManifest = codes "no payload manifest"
fault_text (fault.BadLine file line why) =
    text_file file ++ codes ":" ++ decimal line ++ codes ": " ++ cause_text why
fault_text (fault.ManifestNotListed tag_manifest manifest) =
    manifest_file Tag tag_manifest ++ codes ": not listed: " ++ manifest_file Payload manifest
fault_text fault.OxumForm = codes "bag-info.txt: Payload-Oxum form"
fault_text fault.OxumTwice = codes "bag-info.txt: Payload-Oxum repeated"
fault_text (fault.Missing manifest path) =
    file_of manifest ++ codes ": missing: " ++ written_spelling path
fault_text (fault.Unlisted manifest path) =
    manifest_file Payload manifest ++ codes ": unlisted: " ++ written_spelling path
fault_text (fault.FetchNotListed manifest path) =
    codes "fetch.txt: not in " ++ manifest_file Payload manifest
    ++ codes ": " ++ written_spelling path
fault_text (fault.FetchLength line path) =
    codes "fetch.txt:" ++ decimal line ++ codes ": length: " ++ written_spelling path
fault_text fault.OxumWrong = codes "bag-info.txt: Payload-Oxum wrong"
fault_text (fault.WrongDigest manifest path) =
    file_of manifest ++ codes ": digest: " ++ written_spelling path
