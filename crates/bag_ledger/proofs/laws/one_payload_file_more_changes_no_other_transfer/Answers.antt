use Rattle.std.proofs.Common.{ap, ◌∙◌}
use Rattle.std.specs.Option.{option_map}
use Rattle.bag_ledger.specs.Ledgers.{Transfer, holding}
use Rattle.bag_ledger.proofs.LedgerLemmas.{item_here, item_names, item_others}
use Rattle.bag_ledger.proofs.laws.one_payload_file_more_changes_no_other_transfer.Goals as goal

pub returns-clause-here : goal.returns-clause-here
returns-clause-here c = λ ledger name path content transfer there.
    item_here name path content ledger ∙ ap (option_map (λ (t : Transfer). holding t path content)) there

pub returns-clause-others : goal.returns-clause-others
returns-clause-others c = λ ledger name path content other apart. item_others name path content other apart ledger

pub returns-clause-names : goal.returns-clause-names
returns-clause-names c = λ ledger name path content. item_names name path content ledger
