use Rattle.std.proofs.Common.{◌≡◌, ◌<◌, ◌-◌, ◌∙◌, Some, ap, arith, length, refl, slice_get, subst, sym, take}
use Rattle.std.proofs.lemmas.List.{take-take, take_all}
use Rattle.std.proofs.lemmas.Option.{slice_get_read}
use Rattle.bag_rules.specs.Returning.{LeavesOut}
use Rattle.bag_rules.proofs.FirstFiles.{in_front}
use Rattle.bag_writer.specs.Returned.{IsStoppedAt, LeavesCopies}
use Rattle.bag_writer.proofs.FilesOut.{sink_after, sink_same, tree_same}
use Rattle.bag_writer.proofs.returning.give_up_behind.Goals as goal
use Rattle.bag_rules.proofs.ReturningLemmas.{last_at, last_count, rest_at, leaves_on}

pub files-init : goal.files-init
files-init g c = record {
  some = c.requires.inside;
  fewer = omega arith;
  left = sym (take_all (length c.args.copies.now.items) c.args.copies.now.items (omega arith));
  out = tree_same (length c.args.copies.now.items);
  copies_out = sink_same (length c.args.copies.now.items);
}

pub give_up-requires-clause-stopped : goal.give_up-requires-clause-stopped
give_up-requires-clause-stopped g c =
    let inv = c.files.invariant in
    let all = c.args.copies.now.items in
    let xs = c.files.copies.items in
    let ys = c.pop.new.self.items in
    let place = c.args.stop.place in
    let last = c.in-Some.copy in
    let first = c.index.result.now in
    let count = last_count xs ys c.pop.result c.pop.ensures.items last c.in-Some.is in
    let inside : place < length ys = omega (arith, c.files-test.true, c.len.ensures, c.files.copies.ok.0, count) in
    let first_at : slice_get ys place ≡ Some first = slice_get_read ys (length ys) place first refl inside c.index.ensures in
    let first_there = (in_front all (length xs) place first (subst (λ ls. slice_get ls place ≡ Some first) inv.left (rest_at xs ys c.pop.result c.pop.ensures.items last c.in-Some.is place first first_at))).1 in
    let last_there = (in_front all (length xs) (length ys) last (subst (λ ls. slice_get ls (length ys) ≡ Some last) inv.left (last_at xs ys c.pop.result c.pop.ensures.items last c.in-Some.is))).1 in
    subst (λ s. IsStoppedAt g.T.File.OpenFile.place g.T.File.Source.failures g.S.File.SinkFile.place g.S.File.SinkFile.failures s c.args.stop.fault first) (sym inv.out.kept.same) (c.requires.here first first_there)

pub give_up-requires-clause-later : goal.give_up-requires-clause-later
give_up-requires-clause-later g c =
    let inv = c.files.invariant in
    let all = c.args.copies.now.items in
    let xs = c.files.copies.items in
    let ys = c.pop.new.self.items in
    let place = c.args.stop.place in
    let last = c.in-Some.copy in
    let first = c.index.result.now in
    let count = last_count xs ys c.pop.result c.pop.ensures.items last c.in-Some.is in
    let inside : place < length ys = omega (arith, c.files-test.true, c.len.ensures, c.files.copies.ok.0, count) in
    let first_at : slice_get ys place ≡ Some first = slice_get_read ys (length ys) place first refl inside c.index.ensures in
    let first_there = (in_front all (length xs) place first (subst (λ ls. slice_get ls place ≡ Some first) inv.left (rest_at xs ys c.pop.result c.pop.ensures.items last c.in-Some.is place first first_at))).1 in
    let last_there = (in_front all (length xs) (length ys) last (subst (λ ls. slice_get ls (length ys) ≡ Some last) inv.left (last_at xs ys c.pop.result c.pop.ensures.items last c.in-Some.is))).1 in
    (c.requires.by_place.beside (length ys) last last_there, c.requires.by_place.rising place (length ys) first last inside first_there last_there)

pub files-preserved-in-Some : goal.files-preserved-in-Some
files-preserved-in-Some g c =
    let inv = c.files.invariant in
    let all = c.args.copies.now.items in
    let xs = c.files.copies.items in
    let ys = c.pop.new.self.items in
    let count = last_count xs ys c.pop.result c.pop.ensures.items c.in-Some.copy c.in-Some.is in
    let fewer : length ys ≡ c.files.copies.len - 1 = omega (arith, c.files.copies.ok.0, count) in
    record {
      some = omega (arith, c.files-test.true, c.len.ensures, c.files.copies.ok.0, count);
      fewer = omega (arith, inv.fewer, count);
      left = c.pop.ensures.rest ∙ ap (λ n. take n xs) (sym fewer) ∙ ap (take (length ys)) inv.left ∙ take-take (length ys) (length xs) all (omega (arith, count));
      out = leaves_on (length all) (length xs) (length ys) inv.out (subst (λ m. LeavesOut g.T.Paths.shown g.T.Source.failures g.T.Tree.sure m (length ys) c.files.tree c.give_up.new.tree) (sym count) (c.give_up.ensures.tree (length ys)));
      copies_out = sink_after (length all) (length xs) (length ys) inv.copies_out (subst (λ m. LeavesCopies g.S.Sink.stored g.S.Sink.is_open g.S.Sink.failures g.S.Sink.sure m (length ys) c.files.sink c.give_up.new.sink) (sym count) (c.give_up.ensures.sink (length ys)));
    }
