use Rattle.std.proofs.Common.{◌≡◌, ◌+◌, arith, length, subst, sym}
use Rattle.bag_rules.specs.Returning.{LeavesOut}
use Rattle.bag_writer.specs.Returned.{LeavesCopies}
use Rattle.bag_writer.proofs.FilesOut.{sink_after, sink_less}
use Rattle.bag_writer.proofs.returning.close_all.Goals as goal
use Rattle.bag_rules.proofs.ReturningLemmas.{last_at, last_count, rest_at, leaves_less, leaves_on}

pub files-preserved : goal.files-preserved
files-preserved g c =
    let inv = c.files.invariant in
    let xs = c.files.copies.items in
    let ys = c.pop.new.self.items in
    let x = c.in-Some.copy in
    let all = c.pop.ensures.items in
    let count = last_count xs ys c.pop.result all x c.in-Some.is in
    record {
      unfailed = λ k copy at. inv.unfailed k copy (rest_at xs ys c.pop.result all x c.in-Some.is k copy at);
      out = λ n.
          let e : n + length xs ≡ n + length ys + 1 = omega (arith, count) in
          leaves_on (n + length c.args.copies.items) (n + length xs) (n + length ys) (inv.out n)
          (subst (λ m. LeavesOut g.T.Paths.shown g.T.Source.failures g.T.Tree.sure m (n + length ys) c.files.tree c.close.new.self) (sym e) (leaves_less (n + length ys) (g.met.T.Tree.reads_keep _ _ c.close.ensures.rest.kept) c.close.ensures.counted));
      copies_out = λ n.
          let e : n + length xs ≡ n + length ys + 1 = omega (arith, count) in
          sink_after (n + length c.args.copies.items) (n + length xs) (n + length ys) (inv.copies_out n)
          (subst (λ m. LeavesCopies g.S.Sink.stored g.S.Sink.is_open g.S.Sink.failures g.S.Sink.sure m (n + length ys) c.files.sink c.close-in-Some.new.self) (sym e) (sink_less (n + length ys) c.close-in-Some.ensures.rest c.close-in-Some.ensures.counted));
    }

pub close-requires : goal.close-requires
close-requires g c = (c.files.invariant.unfailed _ c.in-Some.copy (last_at c.files.copies.items c.pop.new.self.items c.pop.result c.pop.ensures.items c.in-Some.copy c.in-Some.is)).0

pub close-requires-in-Some : goal.close-requires-in-Some
close-requires-in-Some g c = (c.files.invariant.unfailed _ c.in-Some.copy (last_at c.files.copies.items c.pop.new.self.items c.pop.result c.pop.ensures.items c.in-Some.copy c.in-Some.is)).1

pub returns-clause-tree : goal.returns-clause-tree
returns-clause-tree g c = λ n.
    let none = c.in_default.ensures.cases.0 in
    subst (λ m. LeavesOut g.T.Paths.shown g.T.Source.failures g.T.Tree.sure (n + length c.args.copies.items) m c.args.tree.now c.files.tree) (omega (arith, none, c.files.copies.ok.0)) (c.files.invariant.out n)

pub returns-clause-sink : goal.returns-clause-sink
returns-clause-sink g c = λ n.
    let none = c.in_default.ensures.cases.0 in
    subst (λ m. LeavesCopies g.S.Sink.stored g.S.Sink.is_open g.S.Sink.failures g.S.Sink.sure (n + length c.args.copies.items) m c.args.sink.now c.files.sink) (omega (arith, none, c.files.copies.ok.0)) (c.files.invariant.copies_out n)
