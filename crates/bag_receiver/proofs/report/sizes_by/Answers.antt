use Rattle.bag_receiver.proofs.report.sizes_by.Goals as goal

pub returns-in-Sizes-clause-found : goal.returns-in-Sizes-clause-found
returns-in-Sizes-clause-found g c = λ clean ledger held planned. c.sizes.ensures.sizes clean ledger held

pub returns-in-Sizes-clause-keeper : goal.returns-in-Sizes-clause-keeper
returns-in-Sizes-clause-keeper g c = record { reads = c.sizes.ensures.reads; counted = c.sizes.ensures.store.counted }
