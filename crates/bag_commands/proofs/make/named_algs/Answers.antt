use Rattle.std.proofs.Common.{◌∙◌, map, string_bytes, subst, sym}
use Rattle.bag_commands.specs.Making.{IsFirstUnknown}
use Rattle.bag_commands.proofs.AlgNames.{first_unknown, named_more}
use Rattle.bag_commands.proofs.make.named_algs.Goals as goal

pub returns-in-None-clause-unknown : goal.returns-in-None-clause-unknown
returns-in-None-clause-unknown c =
    let here = first_unknown string_bytes c.args.words.now c.loop-word.word-index c.word-item.result c.loop-word.algs c.loop-word-test.true c.word-item.is
    (λ alg named. c.in-None.ensures.each alg (c.as_str.ensures.value ∙ named)) c.loop-word.invariant in
    subst (IsFirstUnknown (map string_bytes c.args.words.now)) (sym c.as_str-in-None.ensures.value) here

pub loop-word-preserved : goal.loop-word-preserved
loop-word-preserved c =
    named_more string_bytes c.args.words.now c.loop-word.word-index c.word-item.result c.loop-word.algs c.with-algs.result c.in-Some.alg c.loop-word-test.true c.word-item.is
    (sym c.as_str.ensures.value ∙ c.in-Some.ensures.found) (λ other named. c.in-Some.ensures.each other (c.as_str.ensures.value ∙ named)) c.with-algs.ensures c.loop-word.invariant
