use Rattle.std.proofs.Common.{◌≡◌, length, ap, rules}
use Rattle.std.specs.List.{enumerate_from}
use Rattle.bag_path.proofs.LinesLemmas.{none_left}
use Rattle.bag_path.proofs.lines.LinesIterator.next.Goals as goal

pub returns-then-is_empty-clause-steps : goal.returns-then-is_empty-clause-steps
returns-then-is_empty-clause-steps c =
    let nothing : length c.args.self.now.rest.now ≡ 0 = search rules in
    let none = ap (enumerate_from c.args.self.now.number) (none_left c.args.self.now.rest.now nothing) in
    (none, none)
