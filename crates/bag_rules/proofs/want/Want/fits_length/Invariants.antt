use Rattle.std.proofs.Common.{◌≡◌, take}
use Rattle.bag_rules.proofs.Words.{GivenLength, Has}
use Rattle.bag_rules.proofs.want.Want.fits_length.Given as goal

abbrev pub invariant-loop-given : goal.invariant-loop-given
invariant-loop-given l = (given : GivenLength) → Has (take l.given-index l.given-items) given → given.length ≡ l.length
