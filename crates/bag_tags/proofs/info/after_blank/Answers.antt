use Rattle.std.proofs.Common.{slice_index, rules}
use Rattle.std.proofs.lemmas.Str.{lead_after_ascii}
use Rattle.bag_tags.proofs.TextCutLemmas.{blank_below}
use Rattle.bag_tags.proofs.info.after_blank.Goals as goal

pub range_from-requires : goal.range_from-requires
range_from-requires c = λ _. (search rules, lead_after_ascii c.args.text.now 0 c.utf8.text (blank_below (slice_index c.args.text.now 0) (search rules)))
