use Rattle.std.proofs.Common.{sym, ◌∙◌}
use Rattle.hex.proofs.HexLemmas.{IsOk-decode_sized}
use Rattle.bag_digest.proofs.digest.read_hex.Goals as goal

pub returns-clause-digits : goal.returns-clause-digits
returns-clause-digits g c =
    let digits = IsOk-decode_sized c.args.text.now g.row.N in
    let sized = c.from_hex.ensures in (
      λ some. digits.0 (rw sized at (sym c.ok.ensures.variant ∙ some)),
      λ all. c.ok.ensures.variant ∙ rw sized (digits.1 all),
    )
