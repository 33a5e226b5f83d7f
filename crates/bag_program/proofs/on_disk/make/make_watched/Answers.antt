use Rattle.std.proofs.Common.{sym}
use Rattle.bag_program.proofs.on_disk.make.make_watched.Goals as goal

pub returns : goal.returns
returns g c = rw (c.into_inside.ensures, sym c.new-watched.ensures) c.make_into-answer.ensures
