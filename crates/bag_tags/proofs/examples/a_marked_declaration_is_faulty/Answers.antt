use Rattle.std.proofs.Common.{◌++◌, ◌∷◌, [], refl}
use Rattle.std.proofs.lemmas.Str.{IsUtf8-append, is_utf8-from_IsUtf8}
use Rattle.std.specs.Str.{IsUtf8}
use Rattle.bag_path.proofs.AsciiLemmas.{ascii_utf8}
use Rattle.bag_tags.specs.TagLines.{mark}
use Rattle.bag_tags.specs.Declarations.{written_declaration}
use Rattle.bag_tags.proofs.examples.a_marked_declaration_is_faulty.Goals as goal

mark_utf8 : IsUtf8 mark
unfolding lib.Utf8.encode
mark_utf8 = (0xFEFF ∷ [], (refl, refl))

pub returns : goal.returns
returns c = (is_utf8-from_IsUtf8 (mark ++ written_declaration) (IsUtf8-append mark written_declaration mark_utf8 (ascii_utf8 written_declaration refl)), refl)
