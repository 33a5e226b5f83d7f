use Rattle.std.proofs.Common.{ap, sym, ◌∙◌, arith, length, slice_get}
use Rattle.bag_rules.proofs.Words.{keys_of}
use Rattle.bag_rules.proofs.TreeLemmas.{all_paths}
use Rattle.bag_rules.proofs.FilesShown.{path_at, length_shown}
use Rattle.bag_rules.proofs.tag_set.TagSetPaths.path.Goals as goal

pub returns : goal.returns
returns c =
    let shown = all_paths c.args.self.now ∙ sym (ap keys_of c.self.view_is) in
    ap (λ paths. slice_get paths c.args.i) shown
    ∙ path_at c.self.inside.files.items c.args.i c.index.result.now (omega (arith, c.requires, length_shown c.self.inside.files.items, ap length shown)) c.index.ensures
