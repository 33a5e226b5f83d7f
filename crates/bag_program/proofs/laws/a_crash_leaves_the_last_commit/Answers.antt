use Rattle.bag_program.proofs.laws.a_crash_leaves_the_last_commit.Goals as goal

pub returns : goal.returns
returns g c = g.met.S.Store.settled c.args.connection.now.store
