use Rattle.std.proofs.Common.{[], ◌∷◌}
use Rattle.bag_tags.proofs.DeclarationLemmas.{label_not, label_there, without_dot, bad_major, bad_minor, good_version}
use Rattle.bag_tags.proofs.declaration.read_version.Goals as goal

pub returns-in_err-minor : goal.returns-in_err-minor
returns-in_err-minor c = rw c.from_residual.ensures (without_dot _ _ _ c.split_at_first.ensures (label_not _ (46 ∷ []) c.in_err-minor.ensures.cases))

pub returns-in_err-read_part : goal.returns-in_err-read_part
returns-in_err-read_part c = rw c.from_residual-in_err-read_part.ensures (bad_major _ _ _ c.split_at_first.ensures c.in_err-read_part.ensures)

pub returns-in_err-read_part-2 : goal.returns-in_err-read_part-2
returns-in_err-read_part-2 c =
    let after = c.in_ok-minor.minor.now in
    let dot = label_there _ (46 ∷ []) after c.in_ok-minor.ensures.cases.0 c.in_ok-minor.ensures.cases.1 in
    rw c.from_residual-in_err-read_part-2.ensures (bad_minor _ _ _ c.split_at_first.ensures after dot c.in_err-read_part-2.ensures)

pub returns : goal.returns
returns c =
    let after = c.in_ok-minor.minor.now in
    let dot = label_there _ (46 ∷ []) after c.in_ok-minor.ensures.cases.0 c.in_ok-minor.ensures.cases.1 in
    good_version _ _ _ c.split_at_first.ensures after dot _ _ c.in_ok-read_part.ensures c.in_ok-read_part-2.ensures
