use Rattle.bag_receiver.proofs.OpenedLemmas.{shown_is_opened, stays_after_beginning, stays_after_others, stays_after_stop}
use Rattle.bag_receiver.proofs.laws.a_beginning_that_a_stop_shows_is_opened.Goals as goal

pub returns-clause-begins : goal.returns-clause-begins
returns-clause-begins c = stays_after_beginning

pub returns-clause-others : goal.returns-clause-others
returns-clause-others c = stays_after_others

pub returns-clause-stopped : goal.returns-clause-stopped
returns-clause-stopped c = stays_after_stop

pub returns-clause-opened : goal.returns-clause-opened
returns-clause-opened c = shown_is_opened
