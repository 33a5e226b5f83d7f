use Rattle.std.proofs.Common.{◌≡◌, ◌++◌, None, [], append-nil, rules, subst}
use Rattle.bag_tags.specs.Feeds.{AwaitsFor}
use Rattle.bag_tags.proofs.FeedLemmas.{awaits_piece, last_alone}
use Rattle.bag_tags.proofs.tag_feed.TagFeed.feed.Goals as goal

pub returns-in-Ok-clause-prompt : goal.returns-in-Ok-clause-prompt
returns-in-Ok-clause-prompt c = λ version file octets fed.
    let none : c.args.self.now.fault ≡ None = search rules in
    let piece = c.args.piece.now in
    let last = c.feed_value.new.last in
    let value = c.feed_value.new.value in
    last_alone version file (octets ++ piece) last value
    (subst (λ os. AwaitsFor version file os [] last value) (append-nil (octets ++ piece))
    (subst (λ v. AwaitsFor v file ((octets ++ piece) ++ []) [] last value) fed.by_version (c.in-Ok.ensures.ok file ((octets ++ piece) ++ []) [] (awaits_piece version file octets piece [] c.args.self.now none fed))))
