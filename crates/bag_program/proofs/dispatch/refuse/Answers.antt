use Rattle.std.proofs.Common.{map, string_bytes, subst}
use Rattle.bag_program.specs.Answers.{Helped}
use Rattle.bag_program.specs.CommandLines.{IsAnswerTo}
use Rattle.bag_program.proofs.dispatch.refuse.Goals as goal

pub returns-in-Ok-Help : goal.returns-in-Ok-Help
returns-in-Ok-Help g c = Helped c.trim_end.result.now (subst (IsAnswerTo (map string_bytes c.args.words.now)) c.in-Ok-Help.field-0-is c.in-Ok-Help.ensures) c.print_line.ensures
