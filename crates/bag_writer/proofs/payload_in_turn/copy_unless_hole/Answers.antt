use Rattle.bag_writer.proofs.FileSteps.{taken_as_file}
use Rattle.bag_writer.proofs.payload_in_turn.copy_unless_hole.Goals as goal

pub returns-else-is_hole-clause-taken : goal.returns-else-is_hole-clause-taken
returns-else-is_hole-clause-taken g c =
    let copied = c.copy_file.ensures.copied in
    (copied.0, taken_as_file _ _ _ _ _ _ _ _ c.args.is_hole c.if-is_hole.false c.copy_file.result copied.1)
