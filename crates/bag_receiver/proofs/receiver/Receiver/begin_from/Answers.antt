use Rattle.std.proofs.Common.{◌≡◌, Err, refl, rules}
use Rattle.bag_rules.proofs.TreeUses.{uses_kept, uses_none}
use Rattle.bag_receiver.specs.declared.begin.BeginFault.TheVariants.{Tree}
use Rattle.bag_receiver.specs.BeginningFrom.{Answered, NotRead, Unnamed}
use Rattle.bag_receiver.proofs.BeginSteps.{err_is}
use Rattle.bag_receiver.proofs.TreeTags.{err_as, not_tree, uses_as}
use Rattle.bag_receiver.proofs.Words.{IsTransferName}
use Rattle.bag_receiver.proofs.receiver.Receiver.begin_from.Goals as goal

pub returns-then-not-is_name : goal.returns-then-not-is_name
returns-then-not-is_name g c =
    let other : ¬ IsTransferName c.args.name.now = search rules in
    record { answers = Unnamed other refl refl; tree = uses_none (λ e. cc) }

pub returns-in_err-tags : goal.returns-in_err-tags
returns-in_err-tags g c =
    let fault = c.in_err-tags.field-0.0 in
    let named : IsTransferName c.args.name.now = search rules in
    let is : c.from_residual.result ≡ Err fault = err_is c.from_residual.result fault c.from_residual.ensures.1 in
    record {
      answers = NotRead fault named is c.in_err-tags.ensures.read refl;
      tree = uses_as c.read_tag_files.ensures.uses (err_as c.read_tag_files.result c.from_residual.result fault Tree c.in_err-tags.was is)
          (err_as c.from_residual.result c.read_tag_files.result fault Tree is c.in_err-tags.was);
    }

pub returns : goal.returns
returns g c = record {
  answers = Answered c.in_ok-tags.tags c.in_ok-tags.ensures.read.1 c.begin_with.ensures;
  tree = uses_kept c.in_ok-tags.ensures.uses (λ e. cc) (not_tree c.begin_with.result c.args.name.now c.in_ok-tags.tags c.begin_with.ensures.judged);
}
