use Rattle.std.proofs.Common.{◌∙◌, arith, inl, inr, length, refl, sym}
use Rattle.std.proofs.lemmas.Result.{err_from_is_err_and}
use Rattle.bag_writer.specs.Copying.{AreDone, sides}
use Rattle.bag_writer.proofs.CopyGroups.{ended_join, ended_stay, fresh_done, full_stay, stopped_behind}
use Rattle.bag_writer.proofs.CopyLemmas.{places_on, places_same}
use Rattle.bag_writer.proofs.copying.copy_each.Goals as goal
use Rattle.bag_digest.proofs.ListLemmas.{by_no_other}

pub fours-init : goal.fours-init
fours-init g c = record {
  inside = omega arith;
  count = refl;
  full = c.requires.full;
  copied = λ work fresh. ((λ k copy from to. absurd (omega (arith, from, to))), fresh);
  places = places_same g.F.OpenFile.place g.G.SinkFile.place _;
}

pub returns-in_default-clause-copied : goal.returns-in_default-clause-copied
returns-in_default-clause-copied g c = λ work fresh.
    let s = sides g.F.OpenFile.place g.F.Source g.G.SinkFile in
    let inv = c.fours.invariant in
    let xs = c.fours.copies in
    let done = by_no_other c.next_open.result (AreDone xs c.fours.first (length xs)) _ c.next_open.ensures c.in_default.not-Some in
    let so_far = inv.copied work fresh in
    ended_join s work c.args.set 0 c.fours.first (length xs) xs so_far.0 (fresh_done s work c.args.set c.fours.first (length xs) (length xs) xs (omega arith) so_far.1 done)

pub copy_few-requires : goal.copy_few-requires
copy_few-requires g c =
    let inv = c.fours.invariant in
    let is = c.in-Some.ensures in
    let xs = c.fours.copies in
    record {
      low = omega (arith, is.high);
      few = omega arith;
      inside = omega arith;
      full = full_stay c.fours.first (length xs) c.in-Some.next _ xs xs is.low (omega arith) (λ k from to. refl) inv.full;
    }

pub returns-in_err-copy_few-clause-copied : goal.returns-in_err-copy_few-clause-copied
returns-in_err-copy_few-clause-copied g c = λ work fresh.
    let s = sides g.F.OpenFile.place g.F.Source g.G.SinkFile in
    let p = err_from_is_err_and c.from_residual.result c.from_residual.ensures.1 in
    let inv = c.fours.invariant in
    let is = c.in-Some.ensures in
    let xs = c.fours.copies in
    let ys = c.copy_few.new.copies in
    let next = c.in-Some.next in
    let so_far = inv.copied work fresh in
    let front = ended_join s work c.args.set 0 c.fours.first next xs so_far.0 (fresh_done s work c.args.set c.fours.first next (length xs) xs (omega (arith, is.high)) so_far.1 is.before) in
    let after = c.in_err-copy_few.ensures in
    rw (p.1, p.2) (stopped_behind s work c.args.set 0 next _ (length ys) ys _ (omega arith) (omega (arith, after.rest.places.count))
    (ended_stay s work c.args.set 0 next xs ys (λ k from to. after.rest.others k (inl to)) front)
    (after.copied work (λ k copy from to at. so_far.1 k copy (omega (arith, from, is.low)) (omega (arith, to)) at)))

pub fours-preserved : goal.fours-preserved
fours-preserved g c =
    let s = sides g.F.OpenFile.place g.F.Source g.G.SinkFile in
    let inv = c.fours.invariant in
    let is = c.in-Some.ensures in
    let xs = c.fours.copies in
    let ys = c.copy_few.new.copies in
    let next = c.in-Some.next in
    let after = c.in_ok-copy_few.ensures in
    record {
      inside = omega (arith, after.rest.places.count);
      count = after.rest.places.count ∙ inv.count;
      full = full_stay c.fours.first (length xs) _ (length ys) xs ys (omega (arith, is.low, is.high)) (omega (arith, after.rest.places.count)) (λ k from to. after.rest.others k (inr from)) inv.full;
      copied = λ work fresh.
          let so_far = inv.copied work fresh in
          let front = ended_join s work c.args.set 0 c.fours.first next xs so_far.0 (fresh_done s work c.args.set c.fours.first next (length xs) xs (omega (arith, is.high)) so_far.1 is.before) in (
            ended_join s work c.args.set 0 next _ ys (ended_stay s work c.args.set 0 next xs ys (λ k from to. after.rest.others k (inl to)) front)
                (after.copied work (λ k copy from to at. so_far.1 k copy (omega (arith, from, is.low)) (omega (arith, to)) at)),
            λ k copy from to now. so_far.1 k copy (omega (arith, from, is.low, is.high)) (omega (arith, to, after.rest.places.count)) (sym (after.rest.others k (inr from)) ∙ now),
          );
      places = places_on g.F.OpenFile.place g.G.SinkFile.place _ _ _ inv.places after.rest.places;
    }

pub returns-in_err-copy_few-clause-places : goal.returns-in_err-copy_few-clause-places
returns-in_err-copy_few-clause-places g c = places_on g.F.OpenFile.place g.G.SinkFile.place _ _ _ c.fours.invariant.places c.in_err-copy_few.ensures.rest.places
