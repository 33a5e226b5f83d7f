use Rattle.std.proofs.Common.{List, Option, Err, Ok, ℕ, ◌≡◌, ◌∙◌, length, refl, subst, sym}
use Rattle.std.specs.Prelude.{IfErr, IfOk, MatchResult, Result}
use Rattle.bag_digest.specs.declared.algorithm.AlgSet.{AlgSet}
use Rattle.bag_rules.specs.Files.{Files}
use Rattle.bag_rules.specs.declared.limits.TheConstants.{LARGEST_FILE}
use Rattle.bag_rules.proofs.Words.{Shown}
use Rattle.bag_writer.specs.Copying.{sides}
use Rattle.bag_writer.specs.Finishing.{AddsFiles, AreFilesAt, AreFinished, AreTakenOf, IsCutAt, places_of}
use Rattle.bag_writer.specs.Sinks.{Stored}
use Rattle.bag_writer.specs.Steps.{AreWhole}
use Rattle.bag_writer.specs.Writing.{HasLongFile, IsMetLater}
use Rattle.bag_writer.specs.declared.items.Items.{Items}
use Rattle.bag_writer.specs.declared.write_fault.WriteFault.{WriteFault}
use Rattle.bag_writer.specs.declared.write_fault.WriteFault.TheVariants.{Memory, TooLarge}
use Rattle.bag_writer.proofs.Completed.{all_back, are, can_complete, completed, count, ends, finishes, first, stops_first, unfailed}
use Rattle.bag_writer.proofs.Cutting.{copies_all, cut_whole, short_taken}
use Rattle.bag_writer.proofs.FilesOut.{sink_none_back, sink_still, tree_still}
use Rattle.bag_writer.proofs.SinkKept.{not_sink, not_tree}
use Rattle.bag_writer.proofs.payload_beside.finish.Goals as goal
use Rattle.bag_rules.proofs.ReturningLemmas.{back_none, all_back as files_all}

-- all were written, and their items were added unless memory ran out
finished : (set : AlgSet) (shown : Shown) (places : List ℕ) (items : Items) (old new : Option Stored) (r : Result Items WriteFault) (files : Files) → AreFilesAt shown places files → ¬ HasLongFile files LARGEST_FILE → AreWhole files old new
    → IfOk r (AddsFiles set files items) → IfErr r (λ fault. fault ≡ Memory) → MatchResult r (λ more. AreFinished set shown places items more old new) (IsCutAt shown places old new)
finished set shown places items old new (Ok more) files are short whole adds refused = record { files = files; are = are; short = short; added = adds; whole = whole }
finished set shown places items old new (Err fault) files are short whole adds refused =
    cut_whole shown places old new files are whole fault (subst IsMetLater (sym refused) tt) (λ large e. (let k : Memory ≡ TooLarge large = sym refused ∙ e in cc))

pub complete-requires : goal.complete-requires
complete-requires g c = can_complete c.requires c.as_mut_slice.ensures.value

pub close_all-requires : goal.close_all-requires
close_all-requires g c = unfailed c.requires c.as_mut_slice.ensures.value c.args.copies.ok.0 c.in-Ok.ensures

pub add_items-items-requires : goal.add_items-items-requires
add_items-items-requires g c =
    let done = completed c.requires c.as_mut_slice.ensures.value c.args.copies.ok.0 c.in-Ok.ensures in
    let all = all_back c.requires c.as_mut_slice.ensures.value c.args.copies.ok.0 c.in-Ok.ensures in
    (c.args.set, done.files, subst (λ ls. AreTakenOf g.T.File.OpenFile.place (g.T.Paths.shown c.args.tree.now) c.args.set ls done.files) (sym (c.as_slice.ensures.value ∙ all)) done.taken)

pub stopped_at-requires : goal.stopped_at-requires
stopped_at-requires g c = first c.requires c.as_mut_slice.ensures.value c.args.copies.ok.0 c.in-Err.ensures refl

pub returns-in-Ok : goal.returns-in-Ok
returns-in-Ok g c =
    let s = sides g.T.File.OpenFile.place g.T.File.Source g.S.File.SinkFile in
    let shown = g.T.Paths.shown c.args.tree.now in
    let set = c.args.set in
    let xs = c.args.copies.items in
    let zs = c.complete.new.copies in
    let slice = c.as_mut_slice.ensures.value in
    let count_is = c.args.copies.ok.0 in
    let done = completed c.requires slice count_is c.in-Ok.ensures in
    let same = count c.requires slice count_is c.in-Ok.ensures in
    let taken = subst (λ ls. AreTakenOf s.place shown set ls done.files) (sym (c.as_slice.ensures.value ∙ all_back c.requires slice count_is c.in-Ok.ensures)) done.taken in
    let result = c.add_items-items.result in
    let refused = c.add_items-items.ensures.err in
    record {
      written = finished set shown (places_of s.place xs) c.args.items (g.S.Sink.stored c.args.sink.now) (g.S.Sink.stored c.close_all.new.sink) result done.files (are c.requires slice count_is c.in-Ok.ensures)
          (short_taken s.place shown set zs done.files done.taken)
          (subst (λ new. AreWhole done.files (g.S.Sink.stored c.args.sink.now) new) (sym (c.close_all.ensures.sink 0).held) done.whole) (c.add_items-items.ensures.added set done.files taken) refused;
      calm = λ tree_sure sink_sure fresh too. (λ e. not_tree result refused, λ e can. not_sink result refused);
      tree = back_none (length xs) (files_all (length xs) _ same c.close_all.ensures.tree) (not_tree result refused);
      sink = ends c.requires slice count_is c.in-Ok.ensures (length xs) (sink_none_back (length xs) (copies_all (length xs) _ same c.close_all.ensures.sink) (not_sink result refused));
    }

pub returns-in-Err : goal.returns-in-Err
returns-in-Err g c =
    let xs = c.args.copies.items in
    finishes _ (stops_first _ c.requires c.as_mut_slice.ensures.value c.args.copies.ok.0 c.in-Err.ensures 0 0 (tree_still (length xs)) (sink_still (length xs)) c.stopped_at.ensures.told c.stopped_at.ensures.tree c.stopped_at.ensures.sink
    (λ new cut. cut))
