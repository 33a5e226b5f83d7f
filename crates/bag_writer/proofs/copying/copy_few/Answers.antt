use Rattle.std.proofs.Common.{◌≡◌, ◌∙◌, ◌<◌, ◌+◌, Some, ap, arith, false, inl, inr, length, refl, rules}
use Rattle.std.specs.Prelude.{is_some}
use Rattle.std.proofs.lemmas.Option.{slice_get_read}
use Rattle.bag_writer.specs.Copying.{AreDone, sides}
use Rattle.bag_writer.proofs.CopyGroups.{by_none, copied_of, ended_alone, fresh_done, stopped_alone}
use Rattle.bag_writer.proofs.CopyLemmas.{places_same, places_set}
use Rattle.bag_writer.proofs.copying.copy_few.Goals as goal
use Rattle.bag_digest.proofs.ListLemmas.{by_no_other, set_here, set_there}

pub returns-in_default-clause-copied : goal.returns-in_default-clause-copied
returns-in_default-clause-copied g c = λ work fresh.
    let s = sides g.F.OpenFile.place g.F.Source g.G.SinkFile in
    let done = by_no_other c.next_open.result (AreDone c.args.copies.now c.args.first c.args.end) _ c.next_open.ensures c.in_default.not-Some in
    fresh_done s work c.args.set c.args.first c.args.end c.args.end c.args.copies.now (omega arith) fresh done

pub returns-in_default-clause-rest : goal.returns-in_default-clause-rest
returns-in_default-clause-rest g c = record { others = λ k out. refl; places = places_same g.F.OpenFile.place g.G.SinkFile.place _ }

pub returns-in-Ok-clause-copied : goal.returns-in-Ok-clause-copied
returns-in-Ok-clause-copied g c = λ work fresh.
    let s = sides g.F.OpenFile.place g.F.Source g.G.SinkFile in
    let xs = c.args.copies.now in
    let next = c.in-Some.next in
    let is = c.in-Some.ensures in
    let inside : next < length xs = omega (arith, is.high, c.requires.inside) in
    let there = slice_get_read xs (length xs) next c.index-copies-next.result refl inside c.index-copies-next.is ∙ ap Some c.index-copies-next.is in
    let new = c.copy_alone.new.copy in
    let none : is_some c.next_open-2.result ≡ false = search rules in
    let done = by_none c.next_open-2.result (AreDone xs (next + 1) c.args.end) _ c.next_open-2.ensures none in
    ended_alone s work c.args.set c.args.first c.args.end next xs _ fresh is (λ j apart. set_there xs next j new apart) new (set_here xs next new inside) done
    (c.in-Ok.ensures.copied work (copied_of s work c.args.set _ (is.open_here _ there) (fresh next _ is.low is.high there)))

pub returns-in-Err-clause-copied : goal.returns-in-Err-clause-copied
returns-in-Err-clause-copied g c = λ work fresh.
    let s = sides g.F.OpenFile.place g.F.Source g.G.SinkFile in
    let xs = c.args.copies.now in
    let next = c.in-Some.next in
    let is = c.in-Some.ensures in
    let inside : next < length xs = omega (arith, is.high, c.requires.inside) in
    let there = slice_get_read xs (length xs) next c.index-copies-next.result refl inside c.index-copies-next.is ∙ ap Some c.index-copies-next.is in
    let new = c.copy_alone.new.copy in
    stopped_alone s work c.args.set c.args.first c.args.end next xs _ fresh is (λ j apart. set_there xs next j new apart) new (set_here xs next new inside) _
    (c.in-Err.ensures.copied work (copied_of s work c.args.set _ (is.open_here _ there) (fresh next _ is.low is.high there)))

pub returns-in-Ok-clause-rest : goal.returns-in-Ok-clause-rest
returns-in-Ok-clause-rest g c =
    let xs = c.args.copies.now in
    let next = c.in-Some.next in
    let is = c.in-Some.ensures in
    let inside : next < length xs = omega (arith, is.high, c.requires.inside) in
    let there = slice_get_read xs (length xs) next c.index-copies-next.result refl inside c.index-copies-next.is ∙ ap Some c.index-copies-next.is in
    let new = c.copy_alone.new.copy in
    record {
      others = λ j out. set_there xs next j new (λ e. elim out [ inl low ↦ omega (arith, e, low, is.low) | inr high ↦ omega (arith, e, high, is.high) ]);
      places = places_set g.F.OpenFile.place g.G.SinkFile.place xs _ next _ new (search rules) there (set_here xs next new inside) (λ j apart. set_there xs next j new apart) c.in-Ok.ensures.places.0 c.in-Ok.ensures.places.1;
    }

pub returns-in-Err-clause-rest : goal.returns-in-Err-clause-rest
returns-in-Err-clause-rest g c =
    let xs = c.args.copies.now in
    let next = c.in-Some.next in
    let is = c.in-Some.ensures in
    let inside : next < length xs = omega (arith, is.high, c.requires.inside) in
    let there = slice_get_read xs (length xs) next c.index-copies-next.result refl inside c.index-copies-next.is ∙ ap Some c.index-copies-next.is in
    let new = c.copy_alone.new.copy in
    record {
      others = λ j out. set_there xs next j new (λ e. elim out [ inl low ↦ omega (arith, e, low, is.low) | inr high ↦ omega (arith, e, high, is.high) ]);
      places = places_set g.F.OpenFile.place g.G.SinkFile.place xs _ next _ new (search rules) there (set_here xs next new inside) (λ j apart. set_there xs next j new apart) c.in-Err.ensures.places.0 c.in-Err.ensures.places.1;
    }
