-- How many lines are written: one for each pair or entry.
use Rattle.std.proofs.Common.{◌≡◌, ◌∙◌, ℕ, List, length, map, ap, sym}
use Rattle.std.proofs.lemmas.List.{length-map}
use Rattle.std.specs.List.{AllByRecursion}
use Rattle.bag_path.specs.Lines.{IsPlain, lines_of}
use Rattle.bag_path.proofs.LinesLemmas.{one_list}
use Rattle.bag_tags.proofs.FetchWritingLemmas as fetch
use Rattle.bag_tags.proofs.ManifestWritingLemmas as manifest
use Rattle.bag_tags.proofs.WritingLemmas.{has_written_lines, lf_line}
use Rattle.bag_tags.specs.Fetches.{CanBeFetched, written_fetch}
use Rattle.bag_tags.specs.ManifestWriting.{CanBeWritten, written_manifest}
use Rattle.bag_tags.specs.declared.fetch.FetchLine.{FetchLine}
use Rattle.bag_tags.specs.declared.listing.Pair.{Pair}
use Rattle.bag_path.specs.Lines.{written_lines}

texts_lines : (texts : List (List ℕ)) → AllByRecursion (AllByRecursion IsPlain) texts → length (lines_of (written_lines texts)) ≡ length texts
texts_lines texts plain = ap length (sym ((one_list (written_lines texts) (map lf_line texts)).0 (has_written_lines texts plain))) ∙ length-map texts lf_line

pub manifest_lines : (pairs : List Pair) → AllByRecursion CanBeWritten pairs → length (lines_of (written_manifest pairs)) ≡ length pairs
manifest_lines pairs h =
    ap (λ octets. length (lines_of octets)) (manifest.pairs_written pairs)
    ∙ texts_lines (map manifest.pair_text pairs) (manifest.texts_plain pairs h) ∙ length-map pairs manifest.pair_text

pub fetch_lines : (lines : List FetchLine) → AllByRecursion CanBeFetched lines → length (lines_of (written_fetch lines)) ≡ length lines
fetch_lines lines h =
    ap (λ octets. length (lines_of octets)) (fetch.fetch_written lines)
    ∙ texts_lines (map fetch.line_text lines) (fetch.texts_plain lines h) ∙ length-map lines fetch.line_text
