use Rattle.std.proofs.Common.{sym}
use Rattle.bag_receiver.proofs.ValidSizes.{comes_behind, comes_first, last_before}
use Rattle.bag_receiver.proofs.audit.comes_after.Goals as goal

pub returns-in-Some-clause-rising : goal.returns-in-Some-clause-rising
returns-in-Some-clause-rising c = comes_behind c.args.files.now c.args.file.now c.in-Some.last.now c.lt.result (sym c.in-Some.ensures.value) c.lt.ensures

pub returns-in-Some-clause-next : goal.returns-in-Some-clause-next
returns-in-Some-clause-next c = last_before c.args.files.now c.args.file.now c.in-Some.last.now c.lt.result (sym c.in-Some.ensures.value) c.lt.ensures

pub returns-in-None-clause-rising : goal.returns-in-None-clause-rising
returns-in-None-clause-rising c = λ after rising. comes_first c.args.files.now c.args.file.now (sym c.in-None.ensures.value)
