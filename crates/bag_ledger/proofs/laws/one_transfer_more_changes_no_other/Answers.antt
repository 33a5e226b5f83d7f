use Rattle.bag_ledger.specs.Ledgers.{begun}
use Rattle.bag_ledger.proofs.LedgerLemmas.{entry_here, entry_others, entry_rising}
use Rattle.bag_ledger.proofs.laws.one_transfer_more_changes_no_other.Goals as goal

pub returns-clause-here : goal.returns-clause-here
returns-clause-here c = λ ledger name tags. entry_here name (begun tags) ledger

pub returns-clause-others : goal.returns-clause-others
returns-clause-others c = λ ledger name other tags apart. entry_others name (begun tags) other apart ledger

pub returns-clause-rising : goal.returns-clause-rising
returns-clause-rising c = λ ledger name tags rising. entry_rising name (begun tags) ledger rising
