use Rattle.std.proofs.Common.{◌∙◌, ◌++◌, ◌∷◌, [], Vec, ap, rules}
use Rattle.bag_rules.specs.declared.file_batch.FileSums.TheVariants.{Waiting}
use Rattle.bag_rules.proofs.BatchLemmas.{on_ok_so}
use Rattle.std.specs.declared.alloc.Global.{Global}
use Rattle.bag_digest.specs.declared.short_contents.ShortContents.{ShortContents}
use Rattle.bag_rules.proofs.Words.{has}
use Rattle.bag_rules.proofs.file_batch.FileBatch.hold.Goals as goal

pub returns : goal.returns
returns c = record {
  held = on_ok_so c.add-2.result c.add-2.ensures.added (λ adds. record {
    first = adds.first;
    read = adds.read ∙ ap (λ n. c.args.self.now.read.items ++ Waiting n ∷ []) c.count-place.ensures;
    content = c.extend_from_slice.new.self;
    octets_are = search rules;
    contents = ap (λ (held : ShortContents Unit). held.contents.items) adds.held ∙ c.in_ok-add.ensures.added.held_too ∙ ap (λ (v : Vec (Vec _ Global) Global). v.items ++ c.extend_from_slice.new.self ∷ []) c.want.ensures.contents;
    algs = λ alg. ap (λ (held : ShortContents Unit). has held.set alg) adds.held ∙ ap (λ set. has set alg) c.in_ok-add.ensures.added.same_algs ∙ c.want.ensures.algs alg;
  });
}
