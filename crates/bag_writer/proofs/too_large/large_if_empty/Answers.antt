use Rattle.std.proofs.Common.{◌∙◌, List, ℕ, ap, arith, length, sym}
use Rattle.std.proofs.lemmas.Bool.{false≢true}
use Rattle.bag_writer.specs.Writing.{payload_paths}
use Rattle.bag_writer.proofs.EmptyBags.{fetch_large, info_is, info_large, none_large}
use Rattle.bag_writer.proofs.TagPaths.{fetch_path, info_path}
use Rattle.bag_writer.proofs.too_large.large_if_empty.Goals as goal

pub tag_path-requires : goal.tag_path-requires
tag_path-requires g c = fetch_path

pub tag_path-requires-then-len-gt-LARGEST_TAG_FILE : goal.tag_path-requires-then-len-gt-LARGEST_TAG_FILE
tag_path-requires-then-len-gt-LARGEST_TAG_FILE g c = info_path

pub returns-then-is_long_fetch : goal.returns-then-is_long_fetch
returns-then-is_long_fetch g c =
    let paths = payload_paths (g.P.Paths.shown c.args.tree.now) in
    rw c.in_ok-tag_path.ensures (fetch_large c.args.spec.now paths (rw c.as_slice.ensures.value at (c.is_long_fetch.ensures paths).0 c.if-is_long_fetch.true))

pub returns-then-len-gt-LARGEST_TAG_FILE : goal.returns-then-len-gt-LARGEST_TAG_FILE
returns-then-len-gt-LARGEST_TAG_FILE g c =
    let paths = payload_paths (g.P.Paths.shown c.args.tree.now) in
    let text = ap (λ (octets : List ℕ). length octets) c.in_ok-info.ensures in
    let info = info_is c.args.spec.now paths c.args.count c.requires in
    rw c.in_ok-tag_path-2.ensures (info_large c.args.spec.now paths (omega (arith, c.if-len-gt-LARGEST_TAG_FILE.true, c.len.ensures, c.in_ok-info.info.ok.0, text, info)))

pub returns : goal.returns
returns g c =
    let paths = payload_paths (g.P.Paths.shown c.args.tree.now) in
    let text = ap (λ (octets : List ℕ). length octets) c.in_ok-info.ensures in
    let info = info_is c.args.spec.now paths c.args.count c.requires in
    none_large c.args.spec.now paths (λ many. omega (arith, many, c.requires, c.if-count-gt-MOST_LINES.false)) c.in_default.ensures
    (λ fetch. false≢true (sym c.if-is_long_fetch.false ∙ (rw c.as_slice.ensures.value at (c.is_long_fetch.ensures paths).1) fetch))
    (λ less. omega (arith, less, c.if-len-gt-LARGEST_TAG_FILE.false, c.len.ensures, c.in_ok-info.info.ok.0, text, info))
