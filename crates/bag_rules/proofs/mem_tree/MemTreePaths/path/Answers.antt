use Rattle.std.proofs.Common.{ap, ◌∙◌, arith, length, slice_get}
use Rattle.bag_rules.proofs.FilesShown.{path_at, length_shown}
use Rattle.bag_rules.proofs.MemoryShown.{shown_is}
use Rattle.bag_rules.proofs.mem_tree.MemTreePaths.path.Goals as goal

pub returns : goal.returns
returns c =
    let shown = shown_is c.args.self.now c.self.inside c.self.view_is in
    ap (λ paths. slice_get paths c.args.i) shown
    ∙ path_at c.self.inside.files.items c.args.i c.index.result.now (omega (arith, c.requires, length_shown c.self.inside.files.items, ap length shown)) c.index.ensures
