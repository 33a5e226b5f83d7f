use Rattle.std.proofs.Common.{◌+◌, arith, length, subst}
use Rattle.bag_rules.specs.Returning.{LeavesOut}
use Rattle.bag_rules.proofs.ReturningLemmas.{last_at, last_count, leaves_last, rest_at}
use Rattle.bag_rules.proofs.returning.close_all.Goals as goal

pub files-preserved : goal.files-preserved
files-preserved g c =
    let inv = c.files.invariant in
    let xs = c.files.streams.items in
    let ys = c.pop.new.self.items in
    let x = c.in-Some.stream in
    let all = c.pop.ensures.items in
    record {
      unfailed = λ k stream at. inv.unfailed k stream (rest_at xs ys c.pop.result all x c.in-Some.is k stream at);
      out = λ n. leaves_last (n + length c.args.streams.items) (n + length xs) (n + length ys) (omega (arith, last_count xs ys c.pop.result all x c.in-Some.is)) (inv.out n) (g.met.T.Tree.reads_keep _ _ c.close.ensures.rest.kept) c.close.ensures.counted;
    }

pub close-requires : goal.close-requires
close-requires g c = c.files.invariant.unfailed _ c.in-Some.stream (last_at c.files.streams.items c.pop.new.self.items c.pop.result c.pop.ensures.items c.in-Some.stream c.in-Some.is)

pub returns : goal.returns
returns g c = λ n.
    let none = c.in_default.ensures.cases.0 in
    subst (λ m. LeavesOut g.T.Paths.shown g.T.Source.failures g.T.Tree.sure (n + length c.args.streams.items) m c.args.tree.now c.files.tree) (omega (arith, none, c.files.streams.ok.0)) (c.files.invariant.out n)
