use Rattle.std.proofs.Common.{refl}
use Rattle.bag_commands.specs.Making.{Made, Unknown}
use Rattle.bag_commands.proofs.make.make_to.Goals as goal

pub returns-in-Ok : goal.returns-in-Ok
returns-in-Ok g c =
    let written = c.write_plain-answer.ensures in
    Made c.in-Ok.algs written.0 c.in-Ok.ensures.named written.1 (c.write_plain-answer.result, written.2, c.print_making.ensures, c.large_in.ensures)

pub returns-in-Err : goal.returns-in-Err
returns-in-Err g c = Unknown c.in-Err.word.now c.in-Err.ensures.unknown (refl, refl) c.print.ensures refl
