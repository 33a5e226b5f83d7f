use Rattle.std.proofs.Common.{refl}
use Rattle.bag_rules.proofs.TagFileReaderLemmas.{takes_piece}
use Rattle.bag_rules.proofs.tag_file_reader.TagFileReader.take.Goals as goal

pub returns-in-Ok-clause-taken : goal.returns-in-Ok-clause-taken
returns-in-Ok-clause-taken c = takes_piece c.args.self.now _ c.args.piece.now refl c.feed.ensures.fed c.update-2.ensures c.update.ensures

pub returns-in-Ok-2-clause-taken : goal.returns-in-Ok-2-clause-taken
returns-in-Ok-2-clause-taken c = takes_piece c.args.self.now _ c.args.piece.now refl c.feed.ensures.fed c.update-2.ensures c.update.ensures

pub returns-in-Err-Memory-clause-taken : goal.returns-in-Err-Memory-clause-taken
returns-in-Err-Memory-clause-taken c = takes_piece c.args.self.now _ c.args.piece.now refl c.feed.ensures.fed c.update-2.ensures c.update.ensures
