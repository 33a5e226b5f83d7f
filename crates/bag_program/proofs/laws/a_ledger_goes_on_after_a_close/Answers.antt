use Rattle.std.proofs.Common.{inl}
use Rattle.bag_program.proofs.laws.a_ledger_goes_on_after_a_close.Goals as goal

pub returns : goal.returns
returns g c ledger stored adopted clean =
    let kept = (adopted.adopts clean).keeps ledger stored in
    record { held = kept.holds; left = λ crashed may. inl (kept.alone crashed may) }
