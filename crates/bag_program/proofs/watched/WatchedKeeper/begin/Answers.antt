use Rattle.bag_program.proofs.watched.WatchedKeeper.begin.Goals as goal

pub returns-clause-begun : goal.returns-clause-begun
returns-clause-begun g c = rw (← c.self.view_is) c.begin.ensures.begun
