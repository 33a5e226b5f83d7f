use Rattle.std.proofs.Common.{rules}
use Rattle.std.proofs.lemmas.List.Elements.{All-from_get_or, recursion_from_All}
use Rattle.bag_tags.specs.Words.{IsBlank}
use Rattle.bag_tags.proofs.LabelLemmas.{label_cut, no_label}
use Rattle.bag_tags.proofs.info.without_last_blanks.Goals as goal

pub returns-in-Some : goal.returns-in-Some
returns-in-Some c = label_cut c.args.text.now c.range.result.now c.in-Some.last (search rules) (search rules) (search rules) (λ k above below. search rules)

pub returns-in-None : goal.returns-in-None
returns-in-None c = no_label c.args.text.now (recursion_from_All IsBlank c.args.text.now (All-from_get_or IsBlank c.args.text.now 0 (λ k below. search rules)))
