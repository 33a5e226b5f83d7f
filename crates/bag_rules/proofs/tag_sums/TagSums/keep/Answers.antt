use Rattle.std.proofs.Common.{subst}
use Rattle.bag_digest.specs.Reading.{AreSums}
use Rattle.bag_rules.proofs.Words.{on_ok_weaker}
use Rattle.bag_rules.proofs.tag_sums.TagSums.keep.Goals as goal

pub returns-clause-kept : goal.returns-clause-kept
returns-clause-kept c = λ shown are text.
    let set = c.args.self.now.set in
    c.add.ensures.kept shown are (λ path octets at.
    let is = text path octets at in
    (subst (AreSums c.of.result set) is.0 c.of.ensures, is.1))

pub returns-clause-added : goal.returns-clause-added
returns-clause-added c = on_ok_weaker c.add.result (λ adds. (c.of.result, c.of.ensures, adds)) c.add.ensures.added
