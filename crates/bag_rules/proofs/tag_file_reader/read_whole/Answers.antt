use Rattle.std.proofs.Common.{[]}
use Rattle.bag_rules.proofs.tag_file_reader.read_whole.Goals as goal

pub returns : goal.returns
returns c =
    let text = c.args.text.now in
    let fed = c.feed.ensures.fed c.args.version c.args.file [] c.feed_of-feed.ensures in
    record { value = c.finish.ensures.value c.args.version c.args.file text fed; fault = c.finish.ensures.fault c.args.version c.args.file text fed }
