use Rattle.std.proofs.Common.{◌≡◌, ◌∙◌, ◌+◌, ◌++◌, ◌∷◌, [], Some, sym, ap, subst, take, length, arith, rules, refl}
use Rattle.bag_rules.proofs.Words.{AddsLength, AreByPath, FetchLine, GivenLength, take-length, take_more}
use Rattle.bag_rules.proofs.WantLemmas.{length_given, no_lengths, nothing_given}
use Rattle.bag_rules.proofs.requirements.lengths_by_path.Goals as goal
use Rattle.bag_rules.proofs.requirements.lengths_by_path.Goals.{in-Some+in_ok-add_length, in_default}

pub loop-line-init : goal.loop-line-init
loop-line-init c = no_lengths c.new-lengths.result c.new-lengths.ensures.empty

pub loop-line-preserved : goal.loop-line-preserved
loop-line-preserved c =
    let lines = c.args.lines.now in
    let line = c.line-item.result in
    let before = take c.loop-line.line-index lines in
    let more : take (c.loop-line.line-index + 1) lines ≡ before ++ line ∷ [] =
    take_more lines c.loop-line.line-index line c.loop-line-test.true ∙ ap (λ (l : FetchLine). before ++ l ∷ []) (sym c.line-item.is) in
    subst (λ ls. AreByPath ls c.match-length.lengths) (sym more) (elim c.match-length.branch [
      | in-Some+in_ok-add_length w ↦
          let given : GivenLength = record { line = line.line; length = w.in-Some.length } in
          let octets : line.entry.octets ≡ Some w.in-Some.length = search rules in
          rw w.lengths-is (length_given before line c.loop-line.lengths c.loop-line.invariant w.add_length.new.lengths given (refl, octets, refl) w.path.ensures.is_entry.payload
          (subst (λ p. AddsLength c.loop-line.lengths w.add_length.new.lengths p given) w.path.ensures.path w.in_ok-add_length.ensures))
      | in_default w ↦ rw w.lengths-is (nothing_given before line c.loop-line.lengths c.loop-line.invariant (search rules))
    ])

pub returns : goal.returns
returns c =
    let lines = c.args.lines.now in
    let n : c.loop-line.line-index ≡ length lines = omega arith in
    subst (λ ls. AreByPath ls c.loop-line.lengths) (ap (λ k. take k lines) n ∙ take-length lines) c.loop-line.invariant
