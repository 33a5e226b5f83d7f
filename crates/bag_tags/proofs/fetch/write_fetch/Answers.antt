use Rattle.std.proofs.Common.{◌≡◌, List, length, ap, ◌∙◌, subst, arith}
use Rattle.bag_path.specs.declared.version.Version.TheVariants.{V1}
use Rattle.bag_tags.specs.declared.fetch.FetchLine.{FetchLine}
use Rattle.bag_tags.specs.Fetches.{CanBeFetched, numbered_from, written_fetch}
use Rattle.bag_tags.specs.FetchText.{FetchText}
use Rattle.bag_tags.proofs.WritingLemmas.{facts, all_of}
use Rattle.bag_tags.proofs.FetchWritingLemmas.{fetch_reads}
use Rattle.bag_tags.proofs.fetch.write_fetch.Goals as goal

pub returns-clause-reads : goal.returns-clause-reads
returns-clause-reads c =
    let all : c.loop-line.line-index ≡ length c.entries-line-items.result.now = omega arith in
    let good = facts CanBeFetched _ _ all c.loop-line.invariant.entries in
    subst (λ (lines : List FetchLine). FetchText V1 c.loop-line.octets.items (numbered_from 1 lines)) c.entries-line-items.ensures
    (fetch_reads _ _ (c.loop-line.invariant.written ∙ ap written_fetch (all_of _ _ all)) good)
