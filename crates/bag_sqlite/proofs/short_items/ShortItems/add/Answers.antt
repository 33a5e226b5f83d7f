use Rattle.std.proofs.Common.{◌≡◌, ◌∙◌, ◌++◌, ◌∷◌, [], ap}
use Rattle.bag_sqlite.proofs.Words.{has}
use Rattle.bag_sqlite.proofs.BatchLemmas.{covered_more}
use Rattle.bag_sqlite.proofs.short_items.ShortItems.add.Goals as goal

pub returns : goal.returns
returns c =
    let old = c.args.self.held in
    let added = c.in_ok-add.ensures.added in
    let wants : c.add.new.self.known.items ≡ old.known.items ++ c.args.want ∷ [] = added.known_too ∙ ap (λ v. v.items ++ c.args.want ∷ []) c.want.ensures.known in
    record {
      wants = wants;
      contents = added.held_too ∙ ap (λ v. v.items ++ c.args.content ∷ []) c.want.ensures.contents;
      covered = λ all. rw wants (covered_more old.set c.algs.result c.add.new.self.set old.known.items c.args.want (λ alg. ap (λ set. has set alg) added.same_algs ∙ c.want.ensures.algs alg) all (λ alg listed. c.algs.ensures alg ∙ listed));
    }
