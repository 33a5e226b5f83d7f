use Rattle.std.proofs.Common.{◌∷◌, [], refl}
use Rattle.bag_commands.specs.declared.status.TheConstants.{USAGE}
use Rattle.bag_program.specs.Answers.{NoCommand, Told}
use Rattle.bag_program.specs.Endings.{plain}
use Rattle.bag_program.proofs.RequestLemmas.{unnamed}
use Rattle.bag_program.proofs.run_words.Goals as goal

pub returns : goal.returns
returns g c = λ other. (
  [] ∷ [],
  (c.args.folders, plain USAGE, NoCommand (λ none. absurd (cc none)) (unnamed ([] ∷ []) refl) refl (Told refl refl) refl, refl),
)
