use Rattle.std.proofs.Common.{sym, ◌∙◌, arith}
use Rattle.std.proofs.lemmas.Str.{lead_after_ascii}
use Rattle.bag_path.proofs.SpellingLemmas.{escape_in_text}
use Rattle.bag_path.proofs.spelling.split_percent.Goals as goal

pub range_from-requires : goal.range_from-requires
range_from-requires c =
    let escape = escape_in_text c.args.version c.args.text.now c.in-Some-default.octet (sym c.escape_before.ensures ∙ c.in-Some-default.is-0) in
    λ _. (omega (arith, escape.0), lead_after_ascii c.args.text.now 1 c.utf8.text escape.1)
