use Rattle.std.proofs.Common.{◌∙◌, ap}
use Rattle.bag_ledger.specs.Ledgers.{with_transfer}
use Rattle.bag_ledger.proofs.SoundLemmas.{begins}
use Rattle.bag_ledger.proofs.map_keeper.MapKeeperKeeper.begin.Goals as goal

pub returns-clause-begun : goal.returns-clause-begun
returns-clause-begun c =
    begins c.args.self.now _ c.args.name.now c.args.tags.now (c.in_ok-add_transfer.ensures.added ∙ ap (λ ledger. with_transfer ledger c.args.name.now c.args.tags.now) c.self.view_is) c.in_ok-add_transfer.ensures.utf8 c.files-files.ensures.tags c.requires
