use Rattle.std.proofs.Common.{List, sym, subst}
use Rattle.bag_tags.specs.Infos.{MetadataElement}
use Rattle.bag_tags.specs.InfoText.{AddsInfo}
use Rattle.bag_tags.specs.TagLines.{IsTextOf}
use Rattle.bag_tags.proofs.InfoDecisionLemmas.{info_exact}
use Rattle.bag_tags.proofs.info.read_info.Goals as goal

pub read_onto-requires : goal.read_onto-requires
read_onto-requires c = info_exact c.args.version

pub returns-clause-only : goal.returns-clause-only
returns-clause-only c = λ other t. c.in_ok-read_onto.ensures.only other
    (subst (λ (start : List MetadataElement). IsTextOf (AddsInfo c.args.version) start c.args.octets.now other) (sym c.new-info.ensures) t)
