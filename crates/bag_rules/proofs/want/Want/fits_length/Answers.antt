use Rattle.std.proofs.Common.{◌≡◌, arith, length, get_or, false, true, refl}
use Rattle.bag_rules.proofs.Words.{GivenLength}
use Rattle.bag_rules.proofs.EachLemmas.{holds_all, holds_more, stands_at}
use Rattle.bag_rules.proofs.HasLemmas.{has_at}
use Rattle.bag_rules.proofs.want.Want.fits_length.Goals as goal

abbrev none : GivenLength
none = record { line = 0; length = 0 }

pub loop-given-init : goal.loop-given-init
loop-given-init c = λ given h. absurd h

pub returns-then-given-length : goal.returns-then-given-length
returns-then-given-length c =
    let lengths = c.args.self.now.lengths.now in
    let at = stands_at lengths c.loop-given.given-index none c.loop-given-test.true in
    (λ h. (let k : false ≡ true = h in cc), λ fits. absurd (c.if-given-length.true (fits (get_or lengths c.loop-given.given-index none) (has_at lengths c.loop-given.given-index _ at))))

pub loop-given-preserved : goal.loop-given-preserved
loop-given-preserved c =
    let lengths = c.args.self.now.lengths.now in
    let at = stands_at lengths c.loop-given.given-index none c.loop-given-test.true in
    holds_more lengths c.loop-given.given-index _ (λ (given : GivenLength). given.length ≡ c.args.length) at c.loop-given.invariant c.if-given-length.false

pub returns : goal.returns
returns c =
    let lengths = c.args.self.now.lengths.now in
    let n : c.loop-given.given-index ≡ length lengths = omega arith in
    (λ _. holds_all lengths c.loop-given.given-index (λ (given : GivenLength). given.length ≡ c.args.length) n c.loop-given.invariant, λ _. refl)
