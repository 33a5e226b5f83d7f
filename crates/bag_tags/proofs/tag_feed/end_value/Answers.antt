use Rattle.std.proofs.Common.{[], subst}
use Rattle.bag_tags.specs.Feeds.{AwaitsFor}
use Rattle.bag_tags.proofs.FeedLemmas.{fetch_stops, info_stops, manifest_read, manifest_stops}
use Rattle.bag_tags.proofs.tag_feed.end_value.Goals as goal

pub returns-in-Manifest-clause-ok : goal.returns-in-Manifest-clause-ok
returns-in-Manifest-clause-ok c = λ file all a.
    manifest_read c.args.version c.read_end.result c.args.last.now c.in-Manifest.manifest c.read_end.new.value c.read_end.ensures.ok file all
    (subst (AwaitsFor c.args.version file all [] c.args.last.now) c.in-Manifest.is a)

pub returns-in-Manifest-clause-err : goal.returns-in-Manifest-clause-err
returns-in-Manifest-clause-err c = λ file all a.
    manifest_stops c.args.version c.read_end.result [] c.args.last.now c.in-Manifest.manifest c.read_end.ensures.err file all
    (subst (AwaitsFor c.args.version file all [] c.args.last.now) c.in-Manifest.is a)

pub returns-in-Info-clause-err : goal.returns-in-Info-clause-err
returns-in-Info-clause-err c = λ file all a.
    info_stops c.args.version c.read_end-in-Info.result [] c.args.last.now c.in-Info.info c.read_end-in-Info.ensures.err file all
    (subst (AwaitsFor c.args.version file all [] c.args.last.now) c.in-Info.is a)

pub returns-in-Fetch-clause-err : goal.returns-in-Fetch-clause-err
returns-in-Fetch-clause-err c = λ file all a.
    fetch_stops c.args.version c.read_end-in-Fetch.result [] c.args.last.now c.in-Fetch.fetch c.read_end-in-Fetch.ensures.err file all
    (subst (AwaitsFor c.args.version file all [] c.args.last.now) c.in-Fetch.is a)
