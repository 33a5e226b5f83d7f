use Rattle.bag_ledger.proofs.LedgerLemmas.{content_here, content_others}
use Rattle.bag_ledger.proofs.laws.one_payload_file_more_changes_no_other_path.Goals as goal

pub returns-clause-here : goal.returns-clause-here
returns-clause-here c = λ ledger name path content transfer there. content_here name path content ledger transfer there

pub returns-clause-others : goal.returns-clause-others
returns-clause-others c = λ ledger name path content other apart. content_others name path content other apart ledger
