use Rattle.std.proofs.Common.{◌≡◌, ◌∙◌, ap, false, length, map, refl, string_bytes, sym, true}
use Rattle.bag_program.specs.CommandLines.{is_help_option}
use Rattle.bag_program.proofs.HelpLemmas.{help_from}
use Rattle.bag_program.proofs.RequestLemmas.{word_at}
use Rattle.bag_program.proofs.command_line.has_help_option.Goals as goal

pub returns-then-eq : goal.returns-then-eq
returns-then-eq c =
    let all = c.args.words.now in
    let here = word_at string_bytes all all c.loop-word.word-index (length all) c.word-item.result c.as_str.result.now refl refl c.loop-word-test.true c.word-item.is c.as_str.ensures.value in
    sym (help_from (map string_bytes all) c.loop-word.word-index c.as_str.result.now true (is_help_option c.as_str.result.now) here (sym c.eq.ensures ∙ c.if-eq.true) refl c.loop-word.invariant)

pub returns-then-is_help_option : goal.returns-then-is_help_option
returns-then-is_help_option c =
    let all = c.args.words.now in
    let here = word_at string_bytes all all c.loop-word.word-index (length all) c.word-item.result c.as_str.result.now refl refl c.loop-word-test.true c.word-item.is c.as_str.ensures.value in
    let word : c.as_str.result.now ≡ c.as_str-in-loop-word.result.now = c.as_str.ensures.value ∙ sym c.as_str-in-loop-word.ensures.value in
    sym (help_from (map string_bytes all) c.loop-word.word-index c.as_str.result.now false true here (sym c.eq.ensures ∙ c.if-eq.false) (ap is_help_option word ∙ sym c.is_help_option.ensures ∙ c.if-is_help_option.true) c.loop-word.invariant)

pub loop-word-preserved : goal.loop-word-preserved
loop-word-preserved c =
    let all = c.args.words.now in
    let here = word_at string_bytes all all c.loop-word.word-index (length all) c.word-item.result c.as_str.result.now refl refl c.loop-word-test.true c.word-item.is c.as_str.ensures.value in
    let word : c.as_str.result.now ≡ c.as_str-in-loop-word.result.now = c.as_str.ensures.value ∙ sym c.as_str-in-loop-word.ensures.value in
    help_from (map string_bytes all) c.loop-word.word-index c.as_str.result.now false false here (sym c.eq.ensures ∙ c.if-eq.false) (ap is_help_option word ∙ sym c.is_help_option.ensures ∙ c.if-is_help_option.false) c.loop-word.invariant
