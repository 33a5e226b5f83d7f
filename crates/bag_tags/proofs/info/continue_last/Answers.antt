use Rattle.std.proofs.Common.{◌++◌, ◌∷◌, [], ap, ◌∙◌}
use Rattle.bag_tags.proofs.InfoLineLemmas.{indented, further_line}
use Rattle.bag_tags.proofs.info.continue_last.Goals as goal

pub with_line-requires : goal.with_line-requires
with_line-requires c = further_line _ _ _ c.split_text.ensures c.requires.plain c.requires.not_blank

pub returns-clause-ok : goal.returns-clause-ok
returns-clause-ok c = record {
  earlier = c.pop.new.self;
  last = c.in-Some.last;
  line = c.split_text.result.1.now;
  indented = indented _ _ _ c.split_text.ensures c.requires.indented;
  has_last = c.in-Some.ensures.last;
  continues = c.in_ok-push.ensures.added ∙ ap (λ e. c.pop.new.self ++ e ∷ []) c.in_ok-longer.ensures;
}
