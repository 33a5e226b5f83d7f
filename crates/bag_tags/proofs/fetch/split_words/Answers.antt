use Rattle.std.proofs.Common.{sym, ◌∙◌}
use Rattle.bag_tags.proofs.FetchLineLemmas.{words_of, lacks_of}
use Rattle.bag_tags.proofs.fetch.split_words.Goals as goal

pub returns-then-is_empty-clause-none : goal.returns-then-is_empty-clause-none
returns-then-is_empty-clause-none c = lacks_of _ _ _ _ _ _ _ c.split_text.ensures c.split_text-2.ensures c.split_text-3.ensures (sym c.is_empty.ensures ∙ c.if-is_empty.true)

pub returns-clause-some : goal.returns-clause-some
returns-clause-some c = words_of _ _ _ _ _ _ _ _ _ c.split_text.ensures c.split_text-2.ensures c.split_text-3.ensures (sym c.is_empty.ensures ∙ c.if-is_empty.false) c.split_text-4.ensures
