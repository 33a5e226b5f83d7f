use Rattle.std.proofs.Common.{◌≡◌, false, ◌∙◌, None, Some, inr, refl, subst, sym, true}
use Rattle.bag_digest.specs.Reading.{AreSums}
use Rattle.bag_rules.specs.TagFileReaders.{HasExcessLines, IsFoundOf}
use Rattle.bag_rules.proofs.Words.{Adds, err_from_is_err_and, IsBadLineOf, IsLongTag, LineFile, ReadsOn, same_Some, Stopped, text_file, TextStops}
use Rattle.bag_rules.proofs.AddsLemmas.{adds_none}
use Rattle.bag_rules.proofs.KnownTexts.{text_on}
use Rattle.bag_rules.proofs.LimitLemmas.{stopped_so}
use Rattle.bag_rules.proofs.TextStops.{long_stops, none_stops}
use Rattle.bag_rules.proofs.TreeLemmas.{named_here}
use Rattle.bag_rules.proofs.TreeUses.{uses_kept}
use Rattle.bag_rules.proofs.tag_texts.read_text.Goals as goal

pub returns-in_err-total-clause-limits : goal.returns-in_err-total-clause-limits
returns-in_err-total-clause-limits g c = λ path octets at.
    let named : path ≡ text_file c.in-Some.file = named_here at c.path.ensures ∙ c.in-Some.ensures in
    let stopped : Stopped (IsLongTag path octets) c.in_err-total.field-0.0 = c.in_err-total.ensures.known c.args.version c.set.result path octets c.new-reader.ensures.taken at in
    let error = err_from_is_err_and c.from_residual.result c.from_residual.ensures.1 in
    rw (error.1, error.2) (stopped_so (IsLongTag path octets) (TextStops path octets) c.in_err-total.field-0.0 (long_stops c.in-Some.file path octets named c.in_err-total.field-0.0) stopped)

pub returns-then-found-clause-limits : goal.returns-then-found-clause-limits
returns-then-found-clause-limits g c = λ path octets at.
    let file = c.in-Some.file in
    let named : path ≡ text_file file = named_here at c.path.ensures ∙ c.in-Some.ensures in
    let known = c.in_ok-total.ensures.known c.args.version c.set.result path octets c.new-reader.ensures.taken at in
    let is = subst (λ f. IsFoundOf c.args.version f c.set.result octets c.finish-found.result) (c.in_ok-total.ensures.file ∙ c.new-reader.ensures.file) (c.finish-found.ensures c.args.version c.set.result octets known.1 known.0) in
    let many = is.too_many.0 c.if-found.true in
    (file, named, inr (known.2, (many.0, many.1, refl)))

pub returns-clause-read : goal.returns-clause-read
returns-clause-read g c = λ path octets at.
    let file = c.in-Some.file in
    let version = c.args.version in
    let named : path ≡ text_file file = named_here at c.path.ensures ∙ c.in-Some.ensures in
    let known = c.in_ok-total.ensures.known version c.set.result path octets c.new-reader.ensures.taken at in
    let is = subst (λ f. IsFoundOf version f c.set.result octets c.finish-found.result) (c.in_ok-total.ensures.file ∙ c.new-reader.ensures.file) (c.finish-found.ensures version c.set.result octets known.1 known.0) in
    let few : ¬ HasExcessLines file octets = λ many. (let k : true ≡ false = sym (is.too_many.1 many) ∙ c.if-found.false in cc) in
    text_on version file path octets c.args.texts.now c.add_text.new.texts c.args.faults.now.items c.add_text.new.faults.items named
    (c.in_ok-add_text.ensures.read version octets (is.read few)) (c.in_ok-add_text.ensures.faulty version octets (is.read few))

pub returns-in_default-clause-some : goal.returns-in_default-clause-some
returns-in_default-clause-some g c = λ path at.
    let same : path ≡ c.path.result.now = same_Some path c.path.result.now (sym at ∙ c.path.ensures) in
    let other : (file : LineFile) → ¬ (path ≡ text_file file) = λ file named. c.in_default.ensures file (sym same ∙ named) in (
      None,
      refl,
      λ some. absurd (some refl),
      λ octets may. (
        record { reads = λ file named. absurd (other file named); leaves = λ none. (refl, refl, refl) },
        adds_none c.args.faults.now.items (IsBadLineOf c.args.version path octets) (λ f bad. other bad.0 bad.1),
      ),
    )

pub returns-clause-some : goal.returns-clause-some
returns-clause-some g c = λ path at.
    let file = c.in-Some.file in
    let version = c.args.version in
    let named : path ≡ text_file file = same_Some path c.path.result.now (sym at ∙ c.path.ensures) ∙ c.in-Some.ensures in
    let taken = c.in_ok-total.ensures.some version c.set.result c.new-reader.ensures.taken in
    let octets = taken.0 in
    let is = subst (λ f. IsFoundOf version f c.set.result octets c.finish-found.result) (c.in_ok-total.ensures.file ∙ c.new-reader.ensures.file) (c.finish-found.ensures version c.set.result octets taken.3 taken.2) in
    let few : ¬ HasExcessLines file octets = λ many. (let k : true ≡ false = sym (is.too_many.1 many) ∙ c.if-found.false in cc) in
    let on = text_on version file path octets c.args.texts.now c.add_text.new.texts c.args.faults.now.items c.add_text.new.faults.items named
    (c.in_ok-add_text.ensures.read version octets (is.read few)) (c.in_ok-add_text.ensures.faulty version octets (is.read few)) in (
      Some octets,
      (taken.1, taken.4, (c.finish-found.result.sums, subst (λ s. AreSums c.finish-found.result.sums s octets) c.set.ensures is.sums, c.in_ok-add.ensures.added)),
      λ some. (file, named),
      λ other may.
          let same : other ≡ octets = may octets refl in
          subst (λ os. ReadsOn version path os c.args.texts.now c.add_text.new.texts × Adds c.args.faults.now.items c.add_text.new.faults.items (IsBadLineOf version path os)) (sym same) on,
    )

pub returns-clause-limits : goal.returns-clause-limits
returns-clause-limits g c = λ path octets at.
    let file = c.in-Some.file in
    let named : path ≡ text_file file = named_here at c.path.ensures ∙ c.in-Some.ensures in
    let known = c.in_ok-total.ensures.known c.args.version c.set.result path octets c.new-reader.ensures.taken at in
    let is = subst (λ f. IsFoundOf c.args.version f c.set.result octets c.finish-found.result) (c.in_ok-total.ensures.file ∙ c.new-reader.ensures.file) (c.finish-found.ensures c.args.version c.set.result octets known.1 known.0) in
    none_stops file path octets named known.2 (λ counted many. (let k : true ≡ false = sym (is.too_many.1 (counted, many)) ∙ c.if-found.false in cc))

pub returns-clause-reads : goal.returns-clause-reads
returns-clause-reads g c = record {
  tree = uses_kept c.in_ok-total.ensures.tree (λ e. cc e) (λ e. cc e);
  kept = λ are. (c.in_ok-add.ensures.kept (g.T.Paths.shown c.args.tree.now) are (λ path octets at.
      let known = c.in_ok-total.ensures.known c.args.version c.set.result path octets c.new-reader.ensures.taken at in
      let is = c.finish-found.ensures c.args.version c.set.result octets known.1 known.0 in
      (subst (λ s. AreSums c.finish-found.result.sums s octets) c.set.ensures is.sums, known.2)));
}
