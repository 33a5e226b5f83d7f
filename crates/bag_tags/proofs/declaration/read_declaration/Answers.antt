use Rattle.std.proofs.Common.{Ok, sym, ap, ◌∙◌, rules}
use Rattle.bag_tags.specs.declared.declaration.DeclFault.TheVariants.{NotUtf8, Mark, LineCount, Label, Version, EncodingName}
use Rattle.bag_tags.specs.Declarations.{IsEncodingName}
use Rattle.bag_tags.proofs.DeclarationLemmas.{text_from, no_text_from, count_fault, label_fault, labels_are, excludes, one_declaration, read_so}
use Rattle.bag_tags.proofs.declaration.read_declaration.Goals as goal

pub returns-then-is_err-clause-fault : goal.returns-then-is_err-clause-fault
returns-then-is_err-clause-fault c =
    no_text_from c.args.octets.now _ _ c.from_utf8.result c.from_utf8.ensures.cases (sym c.is_err.ensures.value ∙ c.if-is_err.true)

pub returns-then-is_err-clause-only : goal.returns-then-is_err-clause-only
returns-then-is_err-clause-only c d h = absurd (excludes c.args.octets.now d NotUtf8 h (returns-then-is_err-clause-fault c))

pub returns-then-starts_with-clause-fault : goal.returns-then-starts_with-clause-fault
returns-then-starts_with-clause-fault c = (
  text_from c.args.octets.now _ _ c.from_utf8.result c.from_utf8.ensures.cases (sym c.is_err.ensures.value ∙ c.if-is_err.false),
  sym c.starts_with.ensures.value ∙ c.if-starts_with.true,
)

pub returns-then-starts_with-clause-only : goal.returns-then-starts_with-clause-only
returns-then-starts_with-clause-only c d h = absurd (excludes c.args.octets.now d Mark h (returns-then-starts_with-clause-fault c))

pub returns-in_default-clause-fault : goal.returns-in_default-clause-fault
returns-in_default-clause-fault c =
    let utf8 = text_from _ _ _ c.from_utf8.result c.from_utf8.ensures.cases (sym c.is_err.ensures.value ∙ c.if-is_err.false) in
    let unmarked = sym c.starts_with.ensures.value ∙ c.if-starts_with.false in
    count_fault _ (utf8, unmarked) c.in_default.ensures

pub returns-in_default-clause-only : goal.returns-in_default-clause-only
returns-in_default-clause-only c d h = absurd (excludes c.args.octets.now d LineCount h (returns-in_default-clause-fault c))

pub returns-in_default-after_labels-clause-fault : goal.returns-in_default-after_labels-clause-fault
returns-in_default-after_labels-clause-fault c =
    let utf8 = text_from _ _ _ c.from_utf8.result c.from_utf8.ensures.cases (sym c.is_err.ensures.value ∙ c.if-is_err.false) in
    let unmarked = sym c.starts_with.ensures.value ∙ c.if-starts_with.false in
    label_fault _ (utf8, unmarked) c.in-Some.first.now c.in-Some.second.now c.in-Some.ensures c.in_default-after_labels.ensures

pub returns-in_default-after_labels-clause-only : goal.returns-in_default-after_labels-clause-only
returns-in_default-after_labels-clause-only c d h = absurd (excludes c.args.octets.now d Label h (returns-in_default-after_labels-clause-fault c))

pub returns-in_default-read_version-clause-fault : goal.returns-in_default-read_version-clause-fault
returns-in_default-read_version-clause-fault c =
    let utf8 = text_from _ _ _ c.from_utf8.result c.from_utf8.ensures.cases (sym c.is_err.ensures.value ∙ c.if-is_err.false) in
    let unmarked = sym c.starts_with.ensures.value ∙ c.if-starts_with.false in
    let after = c.in-Some-after_labels in
    let labels = labels_are _ (utf8, unmarked) c.in-Some.first.now c.in-Some.second.now c.in-Some.ensures after.version.now after.encoding.now after.ensures.0 after.ensures.1 in
    (after.version.now, after.encoding.now, labels, c.in_default-read_version.ensures)

pub returns-in_default-read_version-clause-only : goal.returns-in_default-read_version-clause-only
returns-in_default-read_version-clause-only c d h = absurd (excludes c.args.octets.now d Version h (returns-in_default-read_version-clause-fault c))

pub returns-then-not-is_encoding_name-clause-fault : goal.returns-then-not-is_encoding_name-clause-fault
returns-then-not-is_encoding_name-clause-fault c =
    let utf8 = text_from _ _ _ c.from_utf8.result c.from_utf8.ensures.cases (sym c.is_err.ensures.value ∙ c.if-is_err.false) in
    let unmarked = sym c.starts_with.ensures.value ∙ c.if-starts_with.false in
    let after = c.in-Some-after_labels in
    let labels = labels_are _ (utf8, unmarked) c.in-Some.first.now c.in-Some.second.now c.in-Some.ensures after.version.now after.encoding.now after.ensures.0 after.ensures.1 in
    let unnamed : IsEncodingName after.encoding.now → ⊥ = λ named. (let t = c.is_encoding_name.ensures.1 named in let f = c.if-not-is_encoding_name.true in search rules) in
    (after.version.now, after.encoding.now, c.in-Some-read_version.major, c.in-Some-read_version.minor, labels, c.in-Some-read_version.ensures, unnamed)

pub returns-then-not-is_encoding_name-clause-only : goal.returns-then-not-is_encoding_name-clause-only
returns-then-not-is_encoding_name-clause-only c d h = absurd (excludes c.args.octets.now d EncodingName h (returns-then-not-is_encoding_name-clause-fault c))

pub returns-clause-read : goal.returns-clause-read
returns-clause-read c =
    let utf8 = text_from _ _ _ c.from_utf8.result c.from_utf8.ensures.cases (sym c.is_err.ensures.value ∙ c.if-is_err.false) in
    let unmarked = sym c.starts_with.ensures.value ∙ c.if-starts_with.false in
    let after = c.in-Some-after_labels in
    let labels = labels_are _ (utf8, unmarked) c.in-Some.first.now c.in-Some.second.now c.in-Some.ensures after.version.now after.encoding.now after.ensures.0 after.ensures.1 in
    read_so _ after.version.now after.encoding.now c.in-Some-read_version.major c.in-Some-read_version.minor c.eq_ignore_ascii_case.result labels c.in-Some-read_version.ensures (c.is_encoding_name.ensures.0 (search rules)) c.eq_ignore_ascii_case.ensures.test

pub returns-clause-only : goal.returns-clause-only
returns-clause-only c d h = ap (λ d. Ok d) (one_declaration c.args.octets.now _ d (returns-clause-read c) h)
