use Rattle.std.proofs.Common.{◌∙◌, inl, sym}
use Rattle.bag_ledger.proofs.SoundLemmas.{sound_nothing}
use Rattle.bag_receiver.proofs.laws.a_new_keeper_in_memory_holds_nothing.Goals as goal

pub returns : goal.returns
returns c keeper is = record { held = (sym is, sound_nothing); left = λ crashed may. inl (may ∙ is) }
