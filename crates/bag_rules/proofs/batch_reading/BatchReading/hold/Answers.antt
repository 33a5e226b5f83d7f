use Rattle.std.proofs.Common.{◌∙◌, None, ap, rules, subst}
use Rattle.bag_rules.specs.FileBatchInside.{AddsSums}
use Rattle.bag_rules.specs.declared.file_batch.FileSums.TheVariants.{Streamed}
use Rattle.bag_rules.proofs.batch_reading.BatchReading.hold.Goals as goal

pub returns-in-Ok-push-clause-held : goal.returns-in-Ok-push-clause-held
returns-in-Ok-push-clause-held g c = record {
  batch = subst (λ n. AddsSums c.args.self.now.batch c.add.new.self (Streamed n)) (c.len.ensures ∙ c.args.self.now.streams.ok.0) c.in-Ok-add.ensures.added;
  stream = record { source = c.args.file; piece = c.extend_from_slice.new.self; sums = None };
  source = search rules;
  piece = search rules;
  sums = search rules;
  streams = c.in-Ok-push.ensures.items;
  set = c.union-self.ensures;
}

pub returns-in-Err-clause-back : goal.returns-in-Err-clause-back
returns-in-Err-clause-back g c = (ap (λ stream. stream.source) c.in-Err.ensures.value_returned, c.in-Err.ensures.items)
