use Rattle.std.proofs.Common.{List, sym, subst}
use Rattle.bag_tags.specs.declared.fetch.FetchLine.{FetchLine}
use Rattle.bag_tags.specs.FetchText.{AddsEntry}
use Rattle.bag_tags.specs.TagLines.{IsTextOf}
use Rattle.bag_tags.proofs.FetchDecisionLemmas.{fetch_exact}
use Rattle.bag_tags.proofs.fetch.read_fetch.Goals as goal

pub read_onto-requires : goal.read_onto-requires
read_onto-requires c = fetch_exact c.args.version

pub returns-clause-only : goal.returns-clause-only
returns-clause-only c = λ other t. c.in_ok-read_onto.ensures.only other
    (subst (λ (start : List FetchLine). IsTextOf (AddsEntry c.args.version) start c.args.octets.now other) (sym c.new-fetch.ensures) t)
