use Rattle.std.proofs.Common.{[], subst, sym}
use Rattle.bag_tags.specs.Feeds.{Fed}
use Rattle.bag_rules.proofs.tag_file_reader.feed_of.Goals as goal

pub returns-in-Manifest : goal.returns-in-Manifest
returns-in-Manifest c = subst (λ file. Fed c.args.version file [] c.manifest.result) (sym c.in-Manifest.is) c.manifest.ensures.fed
