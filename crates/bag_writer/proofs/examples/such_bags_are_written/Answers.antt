use Rattle.bag_writer.proofs.ExampleFits.{fits_none, fits_two}
use Rattle.bag_writer.proofs.examples.such_bags_are_written.Goals as goal

pub returns-clause-hole : goal.returns-clause-hole
returns-clause-hole c = fits_two

pub returns-clause-plain : goal.returns-clause-plain
returns-clause-plain c = fits_none
