use Rattle.std.proofs.Common.{Err, Ok, arith, length}
use Rattle.std.proofs.lemmas.Result.{err_from_is_err_and}
use Rattle.bag_writer.specs.Copying.{sides}
use Rattle.bag_writer.proofs.Completing.{all_completed, can_each, ends_calm, first_completed, keep_ended, stop_calm}
use Rattle.bag_writer.proofs.payload_beside.complete.Goals as goal

pub end_each-requires : goal.end_each-requires
end_each-requires g c = (omega arith, λ k each below at. (c.in-Ok.ensures.copied c.requires.1 c.requires.2 k each (omega arith) below at).copied.copy_unfailed)

pub returns-in-Ok : goal.returns-in-Ok
returns-in-Ok g c =
    let s = sides g.F.OpenFile.place g.F.Source g.S.File.SinkFile in
    let set = c.args.set in
    let ys = c.copy_each.new.copies in
    let zs = c.end_each.new.copies in
    let done = c.end_each.ensures in
    record {
      written = λ work fresh. all_completed s work set ys zs _ _ c.end_each.result (c.in-Ok.ensures.copied work fresh) done.copies done.ended;
      calm = λ work fresh. ends_calm s work set ys zs (length ys) c.end_each.result done.copies (λ sure can.
          let one = can_each s work set _ _ _ c.args.copies.now ys (length ys) (omega arith) c.in-Ok.ensures.places (c.in-Ok.ensures.copied work fresh) sure can in
          done.calm one.0 one.1 one.2);
      places = keep_ended s c.requires.1 set c.args.copies.now ys zs _ c.end_each.result c.in-Ok.ensures.places done.copies;
      counted = done.sink.0;
      as_open = done.sink.1;
      stays_sure = done.sink.2;
    }

pub end_each-requires-in-Err : goal.end_each-requires-in-Err
end_each-requires-in-Err g c =
    let first = c.in-Err.ensures.copied c.requires.1 c.requires.2 in
    (omega (arith, first.high), λ k each below at. (first.before k each (omega arith) below at).copied.copy_unfailed)

pub returns-in_err-end_each-in-Err : goal.returns-in_err-end_each-in-Err
returns-in_err-end_each-in-Err g c =
    let s = sides g.F.OpenFile.place g.F.Source g.S.File.SinkFile in
    let set = c.args.set in
    let ys = c.copy_each.new.copies in
    let zs = c.end_each-in-Err.new.copies in
    let first = c.in-Err in
    let other = c.in_err-end_each-in-Err in
    let p = err_from_is_err_and c.from_residual.result c.from_residual.ensures.1 in
    rw (p.1, p.2) (record {
      written = λ work fresh. first_completed s work set ys zs _ _ first.stop (Err other.field-0.0) (first.ensures.copied work fresh) other.ensures.copies other.ensures.ended;
      calm = λ work fresh.
          let before = first.ensures.copied work fresh in
          ends_calm s work set ys zs first.stop.place (Err other.field-0.0) other.ensures.copies (λ sure can.
          let one = can_each s work set _ _ _ c.args.copies.now ys first.stop.place (omega (arith, before.high)) first.ensures.places before.before sure can in
          other.ensures.calm one.0 one.1 one.2);
      places = keep_ended s c.requires.1 set c.args.copies.now ys zs _ (Err other.field-0.0) first.ensures.places other.ensures.copies;
      counted = other.ensures.sink.0;
      as_open = other.ensures.sink.1;
      stays_sure = other.ensures.sink.2;
    })

pub returns-in_ok-end_each-in-Err : goal.returns-in_ok-end_each-in-Err
returns-in_ok-end_each-in-Err g c =
    let s = sides g.F.OpenFile.place g.F.Source g.S.File.SinkFile in
    let set = c.args.set in
    let ys = c.copy_each.new.copies in
    let zs = c.end_each-in-Err.new.copies in
    let first = c.in-Err in
    let ended = c.in_ok-end_each-in-Err in
    record {
      written = λ work fresh. first_completed s work set ys zs _ _ first.stop (Ok ended.field-0) (first.ensures.copied work fresh) ended.ensures.copies ended.ensures.ended;
      calm = λ work fresh. (let calm = stop_calm s work set ys first.stop (first.ensures.copied work fresh) in (calm.0, λ sure can. calm.1 sure));
      places = keep_ended s c.requires.1 set c.args.copies.now ys zs _ (Ok ended.field-0) first.ensures.places ended.ensures.copies;
      counted = ended.ensures.sink.0;
      as_open = ended.ensures.sink.1;
      stays_sure = ended.ensures.sink.2;
    }
