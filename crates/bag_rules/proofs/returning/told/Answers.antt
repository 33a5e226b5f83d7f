use Rattle.std.proofs.Common.{◌≡◌, ◌∙◌, ap, refl, rules, slice_get, sym}
use Rattle.bag_digest.specs.declared.reading.SourceFault.TheVariants as source
use Rattle.bag_rules.specs.declared.outcome.CheckFault.TheVariants.{Memory, TooLarge, Tree}
use Rattle.bag_rules.proofs.ReturningLemmas.{back_failed, back_none, leaves_less}
use Rattle.bag_rules.proofs.TreeLemmas.{named_here, octets_shown}
use Rattle.bag_rules.proofs.Words.{paths_in}
use Rattle.bag_rules.proofs.returning.told.Goals as goal

pub returns-in-Read-clause-told : goal.returns-in-Read-clause-told
returns-in-Read-clause-told g c = record {
  tree = (λ e. c.in-Read.is, λ e. refl);
  long = λ path octets at. tt;
}

pub returns-in-Read-clause-tree : goal.returns-in-Read-clause-tree
returns-in-Read-clause-tree g c = back_failed (g.met.T.Tree.reads_keep _ _ c.fail.ensures.rest.kept) (c.fail.ensures.counted (c.requires.failed c.in-Read.is)) refl

pub returns-in-Ok-clause-told : goal.returns-in-Ok-clause-told
returns-in-Ok-clause-told g c =
    let large = c.in-TooLarge.is in
    record {
      tree = (λ e. (let k : TooLarge c.in-Ok.path ≡ Tree = e in cc), λ e. (let k : source.TooLarge ≡ source.Read = sym large ∙ e in cc));
      long = λ path octets at. (
        c.requires.large large octets (octets_shown at),
        ap TooLarge (let own : c.in-Ok.path ≡ c.path.result.now = search rules in own ∙ sym (named_here at (ap (slice_get (paths_in (g.T.Paths.shown c.args.tree.now))) (sym c.place.ensures) ∙ c.path.ensures))),
      );
    }

pub returns-in-Ok-clause-tree : goal.returns-in-Ok-clause-tree
returns-in-Ok-clause-tree g c = back_none 1 (leaves_less 0 (g.met.T.Tree.reads_keep _ _ c.close.ensures.rest.kept) c.close.ensures.counted) (λ e. let k : TooLarge c.in-Ok.path ≡ Tree = e in cc)

pub returns-in-Err-clause-told : goal.returns-in-Err-clause-told
returns-in-Err-clause-told g c =
    let large = c.in-TooLarge.is in
    record {
      tree = (λ e. (let k : Memory ≡ Tree = e in cc), λ e. (let k : source.TooLarge ≡ source.Read = sym large ∙ e in cc));
      long = λ path octets at. tt;
    }

pub returns-in-Err-clause-tree : goal.returns-in-Err-clause-tree
returns-in-Err-clause-tree g c = back_none 1 (leaves_less 0 (g.met.T.Tree.reads_keep _ _ c.close.ensures.rest.kept) c.close.ensures.counted) (λ e. let k : Memory ≡ Tree = e in cc)
