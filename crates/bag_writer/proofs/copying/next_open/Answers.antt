use Rattle.std.proofs.Common.{◌≡◌, ◌≢◌, ◌∙◌, None, arith, length, refl, rules, sym}
use Rattle.std.proofs.lemmas.Option.{same_Some, slice_get_read}
use Rattle.bag_writer.proofs.CopyLemmas.{done_next, found_of}
use Rattle.bag_writer.proofs.copying.next_open.Goals as goal

pub loop-k-init : goal.loop-k-init
loop-k-init g c = λ k copy from to. absurd (omega (arith, from, to))

pub returns-then-is_none : goal.returns-then-is_none
returns-then-is_none g c =
    let xs = c.args.copies.now in
    let there = slice_get_read xs (length xs) c.loop-k.k c.index-copies-k.result refl (omega (arith, c.loop-k-test.true, c.requires)) c.index-copies-k.is in
    let none : c.index-copies-k.result.found ≡ None = search rules in
    record {
      low = c.loop-k.auto.k;
      high = c.loop-k-test.true;
      open_here = λ copy at. found_of c.index-copies-k.result copy (same_Some _ _ (sym there ∙ at)) none;
      before = c.loop-k.invariant;
    }

pub loop-k-preserved : goal.loop-k-preserved
loop-k-preserved g c =
    let xs = c.args.copies.now in
    let there = slice_get_read xs (length xs) c.loop-k.k c.index-copies-k.result refl (omega (arith, c.loop-k-test.true, c.requires)) c.index-copies-k.is in
    let some : c.index-copies-k.result.found ≢ None = λ none. (search rules) in
    done_next xs c.args.first c.loop-k.k c.loop-k.invariant (λ copy at none. some (found_of copy c.index-copies-k.result (same_Some _ _ (sym at ∙ there)) none))

pub returns : goal.returns
returns g c = λ k copy from to at. c.loop-k.invariant k copy from (omega (arith, to, c.loop-k-test.false)) at
