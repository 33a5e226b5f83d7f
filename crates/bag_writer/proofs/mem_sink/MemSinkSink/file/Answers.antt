use Rattle.std.proofs.Common.{rules, Contains, subst}
use Rattle.bag_rules.specs.Bags.{paths_of}
use Rattle.bag_writer.specs.Memory.{MemStored, known}
use Rattle.bag_writer.specs.Sinks.{IsFree, Stored}
use Rattle.std.proofs.lemmas.Option.{same_Some}
use Rattle.bag_writer.proofs.FreePaths.{free_path}
use Rattle.bag_writer.proofs.mem_sink.MemSinkSink.file.Goals as goal

pub returns-in-Ok-clause-free : goal.returns-in-Ok-clause-free
returns-in-Ok-clause-free c =
    let absent = free_path c.self.inside.ended.files c.args.path.now c.get.result c.get.ensures (search rules) in (
      search rules,
      subst (λ (sink : MemStored). IsFree (known sink) c.args.path.now) c.self.view_is (λ stored same. subst (λ (s : Stored). ¬ Contains (paths_of s.bag) c.args.path.now) (same_Some _ stored same) absent),
    )
