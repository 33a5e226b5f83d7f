use Rattle.bag_writer.proofs.FittingLemmas.{read_fits}
use Rattle.bag_writer.proofs.laws.what_is_read_of_a_tree_fits.Goals as goal

pub returns : goal.returns
returns g c = read_fits (g.P.Paths.shown c.args.tree.now) c.args.spec.now c.paths_are_paths.ensures.rising c.paths_are_paths.ensures.paths c.elements_are_elements.ensures
