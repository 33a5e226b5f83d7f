use Rattle.bag_program.proofs.watched.WatchedPaths.has_payload_dir.Goals as goal

pub returns-clause-payload : goal.returns-clause-payload
returns-clause-payload g c = rw (← c.self.view_is) c.has_payload_dir.ensures.payload
