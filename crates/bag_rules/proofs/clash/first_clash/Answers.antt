use Rattle.std.proofs.Common.{◌∙◌, ◌++◌, ap}
use Rattle.bag_rules.proofs.Words.{keys_of}
use Rattle.bag_rules.proofs.ClashLemmas.{clash_told}
use Rattle.bag_rules.proofs.clash.first_clash.Goals as goal

pub returns : goal.returns
returns c =
    clash_told c.args.tags.now c.args.expected.now c.requires c.first_folder.result c.in_ok-paths_with.field-0.items
    (c.in_ok-paths_with.ensures ∙ ap (λ files. keys_of files ++ c.args.expected.now) c.files.ensures.files) c.first_folder.ensures
