use Rattle.std.proofs.Common.{sym, subst}
use Rattle.bag_tags.specs.InfoText.{HasFirstLine}
use Rattle.bag_tags.proofs.LabelLemmas.{first_after}
use Rattle.bag_tags.proofs.info.first_line.Goals as goal

pub returns-in-V097 : goal.returns-in-V097
returns-in-V097 c = subst (λ version. HasFirstLine version c.args.after.now c.split_text.result.1.now) (sym c.in-V097.is) (first_after _ _ _ c.split_text.ensures)
