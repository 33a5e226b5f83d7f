use Rattle.std.proofs.Common.{sym, ◌∙◌, subst, rules}
use Rattle.std.proofs.lemmas.Str.{IsUtf8-string_bytes}
use Rattle.bag_tags.specs.FetchEntries.{IsUrl}
use Rattle.bag_tags.proofs.fetch.FetchEntry.new.Goals as goal

pub invariant_of-result : goal.invariant_of-result
invariant_of-result c = record {
  utf8 = IsUtf8-string_bytes c.in_ok-from_str.field-0;
  url = subst IsUrl (c.as_bytes.ensures.value ∙ sym c.in_ok-from_str.ensures.ok) (c.is_url.ensures.0 c.if-not-is_url.false);
  path = c.as_str-text.ensures.path;
  payload = search rules;
}

pub returns-clause-is_entry : goal.returns-clause-is_entry
returns-clause-is_entry c = invariant_of-result c
