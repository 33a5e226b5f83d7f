use Rattle.std.proofs.Common.{◌≡◌, List, OnErr, OnOk}
use Rattle.bag_digest.specs.Failures.{Rises}
use Rattle.bag_commands.specs.Intakes.{IsRun}
use Rattle.bag_commands.specs.IntakeTexts.{Told, intake_lines, intake_status}
use Rattle.bag_commands.specs.Outputs.{WroteLines}
use Rattle.bag_commands.proofs.RunsTaken.{Ran}
use Rattle.bag_commands.proofs.intake.run_all.Given as goal

abbrev pub invariant-loop-courier : goal.invariant-loop-courier
invariant-loop-courier g l = record {
  can_next : (goal.iterator-loop-courier g).can_next l.courier-iterator;
  is_finite : (goal.iterator-loop-courier g).is_finite l.courier-iterator;
  runs : (told : List Told) × (laters : List g.row.C.Denot)
      × Ran (IsRun g.K.Keeper.holds g.K.Keeper.may_leave g.K.Keeper.clean g.K.Keeper.failures g.C.Courier.coming g.C.Source.failures g.C.Courier.nexts g.C.Courier.steady l.name)
      l.yielded laters told l.fn.receiver l.receiver
      × (l.status ≡ intake_status told)
      × OnOk l.written (WroteLines g.W.Write.contents l.fn.out l.out (intake_lines told)) × OnErr l.written (Rises l.fn.out.failures l.out.failures);
}
