use Rattle.std.proofs.Common.{◌≡◌, ◌∙◌, ◌++◌, ◌∷◌, [], arith, ap, get_or, rules, length}
use Rattle.bag_rules.proofs.Words.{FetchLength, GivenLength, IsOtherLength}
use Rattle.bag_rules.proofs.AddsLemmas.{adds_none}
use Rattle.bag_rules.proofs.EachLemmas.{each_all, each_at, stands_at}
use Rattle.bag_rules.proofs.FileFaultLemmas.{adds_longer}
use Rattle.bag_rules.proofs.file_faults.add_other_lengths.Goals as goal
use Rattle.bag_rules.proofs.file_faults.add_other_lengths.Goals.{then-given-found+in_ok-path+in_ok-push, else-given-found}

pub loop-given-preserved : goal.loop-given-preserved
loop-given-preserved c =
    let lengths = c.args.want.now.lengths.now in
    let path = c.args.want.now.path.now in
    let none : GivenLength = record { line = 0; length = 0 } in
    let given = get_or lengths c.loop-given.given-index none in
    each_at lengths c.loop-given.given-index given (IsOtherLength path c.args.found) _ _ _ (stands_at lengths c.loop-given.given-index none c.loop-given-test.true) c.loop-given.invariant
    (elim c.if-given-found.branch [
      | then-given-found+in_ok-path+in_ok-push w ↦
          let own : w.in_ok-path.path ≡ path = search rules in
          rw w.faults-is (adds_longer _ _ given path c.args.found w.if-given-found.true (w.in_ok-push.ensures.items ∙ ap (λ p. c.loop-given.faults.items ++ FetchLength given.line p ∷ []) own))
      | else-given-found w ↦ rw w.faults-is (adds_none c.loop-given.faults.items _ (λ f h. h.0 w.if-given-found.false))
    ])

pub returns : goal.returns
returns c =
    let n : c.loop-given.given-index ≡ length c.args.want.now.lengths.now = omega arith in
    each_all c.args.want.now.lengths.now c.loop-given.given-index (IsOtherLength c.args.want.now.path.now c.args.found) _ _ n c.loop-given.invariant
