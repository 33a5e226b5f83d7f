use Rattle.std.proofs.Common.{◌≡◌, ◌∙◌, refl, sym}
use Rattle.bag_writer.specs.declared.payload.CopyFault.TheVariants as copy
use Rattle.bag_writer.specs.declared.write_fault.WriteFault.TheVariants.{Sink, TooLarge, Tree}
use Rattle.bag_writer.proofs.FilesOut.{sink_failed, sink_less, sink_none_back}
use Rattle.bag_writer.proofs.returning.told.Goals as goal
use Rattle.bag_rules.proofs.ReturningLemmas.{back_failed, leaves_less, back_none}

pub returns-in-Tree-clause-told : goal.returns-in-Tree-clause-told
returns-in-Tree-clause-told g c = record {
  met = tt;
  tree = (λ e. c.in-Tree.is, λ e. refl);
  sink = (λ e. (let k : Tree ≡ Sink = e in cc), λ e. (let k : copy.Tree ≡ copy.Sink = sym c.in-Tree.is ∙ e in cc));
  long = λ large e. (let k : Tree ≡ TooLarge large = e in cc);
}

pub returns-in-Tree-clause-tree : goal.returns-in-Tree-clause-tree
returns-in-Tree-clause-tree g c = back_failed (g.met.T.Tree.reads_keep _ _ c.fail.ensures.rest.kept) (c.fail.ensures.counted (c.requires.failed c.in-Tree.is)) refl

pub returns-in-Tree-clause-sink : goal.returns-in-Tree-clause-sink
returns-in-Tree-clause-sink g c = sink_none_back 1 (sink_less 0 c.give_up_unread.ensures.rest c.give_up_unread.ensures.counted) (λ e. let k : Tree ≡ Sink = e in cc)

pub returns-in-Sink-clause-told : goal.returns-in-Sink-clause-told
returns-in-Sink-clause-told g c = record {
  met = tt;
  tree = (λ e. (let k : Sink ≡ Tree = e in cc), λ e. (let k : copy.Sink ≡ copy.Tree = sym c.in-Sink.is ∙ e in cc));
  sink = (λ e. c.in-Sink.is, λ e. refl);
  long = λ large e. (let k : Sink ≡ TooLarge large = e in cc);
}

pub returns-in-Sink-clause-tree : goal.returns-in-Sink-clause-tree
returns-in-Sink-clause-tree g c = back_none 1 (leaves_less 0 (g.met.T.Tree.reads_keep _ _ c.close.ensures.rest.kept) c.close.ensures.counted) (λ e. let k : Sink ≡ Tree = e in cc)

pub returns-in-Sink-clause-sink : goal.returns-in-Sink-clause-sink
returns-in-Sink-clause-sink g c = sink_failed c.fail-in-Sink.ensures.rest (c.fail-in-Sink.ensures.counted (c.requires.copy_failed c.in-Sink.is)) refl
