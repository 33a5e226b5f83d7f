use Rattle.std.proofs.Common.{◌∙◌, refl, sym}
use Rattle.bag_digest.specs.Algorithm.{IsFirstAmong}
use Rattle.bag_rules.specs.Wants.{IsWrongBy}
use Rattle.bag_rules.proofs.Words.{Fits, false≢true}
use Rattle.bag_rules.proofs.WantedLemmas.{first_other, none_wrong, wanted}
use Rattle.bag_rules.proofs.want.Want.test.Goals as goal

fits : (c : goal.In-None) → Fits c.args.self.now c.args.sums.now
fits c = (
  c.if-not-fits_length.ensures.0 refl,
  none_wrong c.args.self.now c.args.sums.now.digests (λ alg wrong. false≢true (sym (c.in-None.ensures alg) ∙ (c.wrong.ensures alg).1 wrong)),
)

pub returns-in-None-clause-fits : goal.returns-in-None-clause-fits
returns-in-None-clause-fits c = fits c

pub returns-in-None-clause-octets : goal.returns-in-None-clause-octets
returns-in-None-clause-octets c = λ octets are. wanted c.args.self.now octets c.args.sums.now are (fits c)

pub returns-in-Some-clause-octets : goal.returns-in-Some-clause-octets
returns-in-Some-clause-octets c = λ octets are.
    let first : IsFirstAmong (IsWrongBy c.args.self.now c.args.sums.now.digests) c.in-Some.alg = (
      (c.wrong.ensures c.in-Some.alg).0 c.in-Some.ensures.0,
      λ other wrong. c.in-Some.ensures.1 other ((c.wrong.ensures other).1 wrong),
    ) in
    (λ given has. c.if-not-fits_length.ensures.0 refl given has ∙ are.are_sums.0, first_other c.args.self.now octets c.args.sums.now are c.in-Some.alg first)
