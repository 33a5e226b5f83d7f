use Rattle.std.proofs.Common.{◌≡◌, rules}
use Rattle.bag_writer.proofs.TagSteps.{writes_refused}
use Rattle.bag_writer.proofs.tag_files.tag_file.write_whole.Goals as goal

pub returns-then-octets-gt-LARGEST_TAG_FILE : goal.returns-then-octets-gt-LARGEST_TAG_FILE
returns-then-octets-gt-LARGEST_TAG_FILE g c =
    let own : c.in_ok-clone.field-0 ≡ c.args.path.now = search rules in
    rw own (writes_refused g.S.Sink.stored g.S.Sink.is_open g.S.Sink.failures g.S.Sink.sure
    (c.args.path.now, c.args.octets.now) c.args.sink.now c.if-octets-gt-LARGEST_TAG_FILE.true)
