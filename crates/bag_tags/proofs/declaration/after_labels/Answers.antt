use Rattle.std.proofs.Common.{inr}
use Rattle.bag_tags.specs.Declarations.{version_label, encoding_label}
use Rattle.bag_tags.proofs.DeclarationLemmas.{label_gone, label_there}
use Rattle.bag_tags.proofs.declaration.after_labels.Goals as goal

pub returns-in_err-strip_prefix-2 : goal.returns-in_err-strip_prefix-2
returns-in_err-strip_prefix-2 c = rw c.from_residual-in_err-strip_prefix-2.ensures (inr (label_gone c.args.second.now encoding_label c.in_err-strip_prefix-2.ensures.cases))

pub returns : goal.returns
returns c =
    let one = c.in_ok-strip_prefix.ensures.cases in
    let two = c.in_ok-strip_prefix-2.ensures.cases in (
      label_there c.args.first.now version_label c.in_ok-strip_prefix.field-0.now one.0 one.1,
      label_there c.args.second.now encoding_label c.in_ok-strip_prefix-2.field-0.now two.0 two.1,
    )
