use Rattle.std.proofs.Common.{◌≡◌, ◌∙◌, ap, length, rules, slice_get, subst, sym}
use Rattle.bag_digest.proofs.Progress.{all_known, more_known}
use Rattle.bag_digest.specs.Reading.{GaveBefore}
use Rattle.bag_digest.specs.declared.reading.ReadFault.TheVariants as read
use Rattle.bag_rules.specs.declared.outcome.CheckFault.TheVariants.{TagTooLarge}
use Rattle.bag_rules.specs.TagFileReaders.{HasTaken}
use Rattle.bag_rules.proofs.TreeLemmas.{named_here, octets_shown}
use Rattle.bag_rules.proofs.Words.{paths_in}
use Rattle.bag_rules.proofs.tag_file_reader.take_file.Goals as goal

pub returns-in-Ok-clause-known : goal.returns-in-Ok-clause-known
returns-in-Ok-clause-known g c = λ version set path octets none at.
    let known = c.in_ok-start.ensures.started ∙ octets_shown at in
    let taken = c.in-Ok.ensures.taken in
    let all = all_known octets taken.0 _ _ 16777216 known taken.1 in
    (taken.2 ∙ ap length all.0, subst (λ os. HasTaken version set os c.take_all.new.reader) all.0 (taken.3 version set _ none), all.1)

pub returns-in_ok-clone-in-Err-TooLarge-clause-known : goal.returns-in_ok-clone-in-Err-TooLarge-clause-known
returns-in_ok-clone-in-Err-TooLarge-clause-known g c = λ version set path octets none at.
    let known = c.in_ok-start.ensures.started ∙ octets_shown at in
    let kept = g.met.T.Tree.reads_keep _ _ c.in-Err-TooLarge.ensures.uses.kept in
    let same = kept.same ∙ c.in_ok-start.ensures.uses.same in
    let own : c.in_ok-clone-in-Err-TooLarge.field-0 ≡ c.path.result.now = search rules in
    let name = named_here at (ap (λ s. slice_get (paths_in s) c.args.i) (sym same) ∙ c.path.ensures) in
    let fault : c.in-Err-TooLarge.field-0 ≡ read.TooLarge = cc in
    let more = subst (GaveBefore (g.T.Source.remaining c.start.new.self) (g.T.Source.remaining c.take_all.new.source) 16777216) fault c.in-Err-TooLarge.ensures.stopped in
    (more_known octets _ _ 16777216 known more, ap TagTooLarge (own ∙ sym name))

pub returns-in-Ok-clause-some : goal.returns-in-Ok-clause-some
returns-in-Ok-clause-some g c = λ version set none.
    let taken = c.in-Ok.ensures.taken in (
      taken.0,
      λ own known. (all_known own taken.0 _ _ 16777216 (c.in_ok-start.ensures.started ∙ known) taken.1).0,
      taken.2,
      taken.3 version set _ none,
      taken.1.within,
    )
