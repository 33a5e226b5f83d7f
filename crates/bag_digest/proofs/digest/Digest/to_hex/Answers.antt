use Rattle.std.proofs.Common.{◌≡◌}
use Rattle.std.proofs.lemmas.Result.{IfOk-weaker}
use Rattle.std.specs.String.{string_bytes}
use Rattle.hex.specs.Hex.{encode_lower}
use Rattle.bag_digest.proofs.Spelled.{lower_case_spells}
use Rattle.bag_digest.proofs.digest.Digest.to_hex.Goals as goal

pub returns-clause-spells : goal.returns-clause-spells
returns-clause-spells c =
    IfOk-weaker c.encode.result (λ text. string_bytes text ≡ encode_lower c.octets.result.now) _
    (λ text is. rw (is, c.octets.ensures.octets) (lower_case_spells c.args.self.now c.octets.ensures.whole))
    c.encode.ensures
