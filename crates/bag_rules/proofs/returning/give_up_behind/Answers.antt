use Rattle.std.proofs.Common.{◌≡◌, ◌<◌, ◌-◌, ◌∙◌, Some, ap, arith, length, refl, slice_get, subst, sym, take}
use Rattle.std.proofs.lemmas.List.{take-take, take_all}
use Rattle.std.proofs.lemmas.Option.{slice_get_read}
use Rattle.bag_rules.specs.OpenTrees.{IsBehind}
use Rattle.bag_rules.proofs.FirstFiles.{in_front}
use Rattle.bag_rules.proofs.ReturningLemmas.{behind_stopped, keeps_same, last_at, last_count, leaves_last, leaves_same, rest_at}
use Rattle.bag_rules.proofs.returning.give_up_behind.Goals as goal

pub files-init : goal.files-init
files-init g c = record {
  some = c.requires.inside;
  fewer = omega arith;
  left = sym (take_all (length c.args.streams.now.items) c.args.streams.now.items (omega arith));
  out = leaves_same (length c.args.streams.now.items) keeps_same refl;
}

pub give_up-requires : goal.give_up-requires
give_up-requires g c =
    let inv = c.files.invariant in
    let all = c.args.streams.now.items in
    let xs = c.files.streams.items in
    let ys = c.pop.new.self.items in
    let place = c.args.stopped.place in
    let last = c.in-Some.stream in
    let first = c.index.result.now in
    let count = last_count xs ys c.pop.result c.pop.ensures.items last c.in-Some.is in
    let inside : place < length ys = omega (arith, c.files-test.true, c.len.ensures, c.files.streams.ok.0, count) in
    let first_at : slice_get ys place ≡ Some first = slice_get_read ys (length ys) place first refl inside c.index.ensures in
    let first_there = (in_front all (length xs) place first (subst (λ ls. slice_get ls place ≡ Some first) inv.left (rest_at xs ys c.pop.result c.pop.ensures.items last c.in-Some.is place first first_at))).1 in
    let last_there = (in_front all (length xs) (length ys) last (subst (λ ls. slice_get ls (length ys) ≡ Some last) inv.left (last_at xs ys c.pop.result c.pop.ensures.items last c.in-Some.is))).1 in
    let of = g.T.File.OpenFile.place in
    let failures = g.T.File.Source.failures in
    subst (λ s. IsBehind of failures s first.source last.source) (sym inv.out.kept.same)
    (behind_stopped of failures (g.T.Paths.shown c.args.tree.now) c.args.stopped.fault first.source last.source (c.requires.here first first_there) (c.requires.by_place place (length ys) first last inside first_there last_there))

pub files-preserved-in-Some : goal.files-preserved-in-Some
files-preserved-in-Some g c =
    let inv = c.files.invariant in
    let all = c.args.streams.now.items in
    let xs = c.files.streams.items in
    let ys = c.pop.new.self.items in
    let count = last_count xs ys c.pop.result c.pop.ensures.items c.in-Some.stream c.in-Some.is in
    let fewer : length ys ≡ c.files.streams.len - 1 = omega (arith, c.files.streams.ok.0, count) in
    record {
      some = omega (arith, c.files-test.true, c.len.ensures, c.files.streams.ok.0, count);
      fewer = omega (arith, inv.fewer, count);
      left = c.pop.ensures.rest ∙ ap (λ n. take n xs) (sym fewer) ∙ ap (take (length ys)) inv.left ∙ take-take (length ys) (length xs) all (omega (arith, count));
      out = leaves_last (length all) (length xs) (length ys) count inv.out (g.met.T.Tree.reads_keep _ _ c.give_up.ensures.rest.kept) c.give_up.ensures.counted;
    }
