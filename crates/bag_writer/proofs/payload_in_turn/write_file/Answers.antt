use Rattle.std.proofs.Common.{◌≡◌, ◌∙◌, ap, Err, refl, rules, sym, Some}
use Rattle.std.proofs.lemmas.Result.{err_from_is_err_and}
use Rattle.bag_writer.specs.declared.too_large.Large.TheVariants.{File}
use Rattle.bag_writer.specs.declared.write_fault.WriteFault.TheVariants.{Memory, Sink, TooLarge, Tree}
use Rattle.bag_writer.specs.declared.payload.CopyFault.TheVariants as copy
use Rattle.bag_writer.proofs.FileSteps.{cut_short, cut_unread, named_here, octets_here, taken_whole}
use Rattle.bag_writer.proofs.SinkUses.{sink_if, sink_so}
use Rattle.bag_writer.proofs.payload_in_turn.write_file.Goals as goal

pub returns-in_err-path-clause-taken : goal.returns-in_err-path-clause-taken
returns-in_err-path-clause-taken g c =
    let p = err_from_is_err_and c.from_residual.result c.from_residual.ensures.1 in
    λ shown at. rw (p.1, p.2) (cut_unread c.args.is_hole shown _ Memory (λ large e. cc))

pub returns-in_default-clause-taken : goal.returns-in_default-clause-taken
returns-in_default-clause-taken g c = λ shown at. cut_unread c.args.is_hole shown _ Tree (λ large e. cc)

pub returns-in-Err-Tree-clause-taken : goal.returns-in-Err-Tree-clause-taken
returns-in-Err-Tree-clause-taken g c =
    let taken = c.in-Err-Tree.ensures.taken in
    let own : c.in_ok-path.path ≡ c.path.result.now = search rules in
    λ shown at.
    let named = own ∙ named_here (g.T.Paths.shown c.args.tree.now) c.args.i shown at c.path.result.now c.path.ensures in
    let started = c.in-Ok.ensures.started ∙ octets_here (g.T.Paths.shown c.args.tree.now) c.args.i shown at in
    cut_short c.args.is_hole c.args.set shown c.in_ok-path.path taken.0 _ _ _ _ named started c.in-Err-Tree.field-0 Tree (λ large e. cc) taken.1.0 taken.1.1

pub returns-in-Err-Sink-clause-taken : goal.returns-in-Err-Sink-clause-taken
returns-in-Err-Sink-clause-taken g c =
    let taken = c.in-Err-Sink.ensures.taken in
    let own : c.in_ok-path.path ≡ c.path.result.now = search rules in
    λ shown at.
    let named = own ∙ named_here (g.T.Paths.shown c.args.tree.now) c.args.i shown at c.path.result.now c.path.ensures in
    let started = c.in-Ok.ensures.started ∙ octets_here (g.T.Paths.shown c.args.tree.now) c.args.i shown at in
    cut_short c.args.is_hole c.args.set shown c.in_ok-path.path taken.0 _ _ _ _ named started c.in-Err-Sink.field-0 Sink (λ large e. cc) taken.1.0 taken.1.1

pub returns-in-Err-TooLarge-clause-taken : goal.returns-in-Err-TooLarge-clause-taken
returns-in-Err-TooLarge-clause-taken g c =
    let taken = c.in-Err-TooLarge.ensures.taken in
    let own : c.in_ok-path.path ≡ c.path.result.now = search rules in
    λ shown at.
    let named = own ∙ named_here (g.T.Paths.shown c.args.tree.now) c.args.i shown at c.path.result.now c.path.ensures in
    let started = c.in-Ok.ensures.started ∙ octets_here (g.T.Paths.shown c.args.tree.now) c.args.i shown at in
    cut_short c.args.is_hole c.args.set shown c.in_ok-path.path taken.0 _ _ _ _ named started c.in-Err-TooLarge.field-0 (TooLarge (File c.in_ok-path.path)) (λ large e. (
      (let same : File c.in_ok-path.path ≡ large = cc in sym same),
      (let kind : c.in-Err-TooLarge.field-0 ≡ copy.TooLarge = cc in kind),
    )) taken.1.0 taken.1.1

pub returns-in-Err-Sink-clause-sink : goal.returns-in-Err-Sink-clause-sink
returns-in-Err-Sink-clause-sink g c =
    let kind : c.in-Err-Sink.field-0 ≡ copy.Sink = cc in
    let own : c.in_ok-path.path ≡ c.path.result.now = search rules in
    record {
      uses = sink_if (sink_so c.in-Err-Sink.ensures.sink.uses (λ e. refl) (λ e. ap Err kind)) (λ h. (h.0, h.1 c.in_ok-path.path (c.path.ensures ∙ ap Some (sym own))));
      closed = λ h. tt;
    }

pub returns-in-Ok-copy_unless_hole-clause-taken : goal.returns-in-Ok-copy_unless_hole-clause-taken
returns-in-Ok-copy_unless_hole-clause-taken g c =
    let taken = c.in-Ok-copy_unless_hole.ensures.taken in
    let own : c.in_ok-path.path ≡ c.path.result.now = search rules in
    λ shown at.
    let named = own ∙ named_here (g.T.Paths.shown c.args.tree.now) c.args.i shown at c.path.result.now c.path.ensures in
    let started = c.in-Ok.ensures.started ∙ octets_here (g.T.Paths.shown c.args.tree.now) c.args.i shown at in
    taken_whole c.args.is_hole c.args.set shown c.in_ok-path.path taken.0 _ _ _ _ named started _ c.in-Ok-copy_unless_hole.found taken.1.0 taken.1.1
