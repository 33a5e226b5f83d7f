use Rattle.std.proofs.Common.{rules}
use Rattle.bag_rules.proofs.Words.{always_returns_same}
use Rattle.bag_rules.proofs.FilesShown.{against, search_found, search_absent}
use Rattle.bag_rules.proofs.file.search.Goals as goal

pub returns-clause-found : goal.returns-clause-found
returns-clause-found c =
    let found = c.binary_search_by.ensures in
    search_found c.args.files.now c.args.path.now _ found.bound (found.position (against c.args.files.now c.args.path.now) (always_returns_same _ _ _ (λ a r g called. search rules)))

pub returns-clause-absent : goal.returns-clause-absent
returns-clause-absent c =
    let found = c.binary_search_by.ensures in
    search_absent c.args.files.now c.args.path.now c.requires _ found.bound (found.position (against c.args.files.now c.args.path.now) (always_returns_same _ _ _ (λ a r g called. search rules)))
