use Rattle.std.proofs.Common.{◌++◌, subst}
use Rattle.bag_tags.specs.Feeds.{AwaitsFor}
use Rattle.bag_tags.proofs.FeedLemmas.{fetch_stops, info_stops, manifest_stops}
use Rattle.bag_tags.proofs.tag_feed.feed_value.Goals as goal

pub returns-in-Manifest-clause-err : goal.returns-in-Manifest-clause-err
returns-in-Manifest-clause-err c = λ file all left a.
    manifest_stops c.args.version c.read_piece.result (c.args.piece.now ++ left) c.args.last.now c.in-Manifest.manifest (λ start whole. c.read_piece.ensures.err start whole left) file all
    (subst (AwaitsFor c.args.version file all (c.args.piece.now ++ left) c.args.last.now) c.in-Manifest.is a)

pub returns-in-Info-clause-err : goal.returns-in-Info-clause-err
returns-in-Info-clause-err c = λ file all left a.
    info_stops c.args.version c.read_piece-in-Info.result (c.args.piece.now ++ left) c.args.last.now c.in-Info.info (λ start whole. c.read_piece-in-Info.ensures.err start whole left) file all
    (subst (AwaitsFor c.args.version file all (c.args.piece.now ++ left) c.args.last.now) c.in-Info.is a)

pub returns-in-Fetch-clause-err : goal.returns-in-Fetch-clause-err
returns-in-Fetch-clause-err c = λ file all left a.
    fetch_stops c.args.version c.read_piece-in-Fetch.result (c.args.piece.now ++ left) c.args.last.now c.in-Fetch.fetch (λ start whole. c.read_piece-in-Fetch.ensures.err start whole left) file all
    (subst (AwaitsFor c.args.version file all (c.args.piece.now ++ left) c.args.last.now) c.in-Fetch.is a)
