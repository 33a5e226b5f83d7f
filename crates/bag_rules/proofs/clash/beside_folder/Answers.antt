use Rattle.std.proofs.Common.{Some, None, sym, ap, ◌∙◌}
use Rattle.std.proofs.lemmas.Bool.Decides.{Decides-eqb}
use Rattle.std.proofs.lemmas.Slice.Eq.{strip_prefix_is}
use Rattle.bag_rules.specs.ClashInside.{beside_folder}
use Rattle.bag_rules.proofs.FolderLemmas.{beside_longer, beside_other, first_decides, nothing_decides}
use Rattle.bag_rules.proofs.clash.beside_folder.Goals as goal

pub returns-in-Some-first : goal.returns-in-Some-first
returns-in-Some-first c =
    let whole = strip_prefix_is Decides-eqb c.args.path.now c.args.folder.now (Some c.in-Some.rest) c.in-Some.ensures.cases in
    c.cmp.ensures
    ∙ first_decides c.in-Some.rest.now c.in-Some-first.octet.now c.in-Some-first.ensures.value
    ∙ sym (ap (beside_folder c.args.folder.now) whole ∙ beside_longer c.args.folder.now c.in-Some.rest.now)

pub returns-in-None-first : goal.returns-in-None-first
returns-in-None-first c =
    let whole = strip_prefix_is Decides-eqb c.args.path.now c.args.folder.now (Some c.in-Some.rest) c.in-Some.ensures.cases in
    nothing_decides c.in-Some.rest.now c.in-None-first.ensures.value
    ∙ sym (ap (beside_folder c.args.folder.now) whole ∙ beside_longer c.args.folder.now c.in-Some.rest.now)

pub returns-in-None : goal.returns-in-None
returns-in-None c =
    c.cmp-in-None.ensures
    ∙ beside_other c.args.folder.now c.args.path.now (strip_prefix_is Decides-eqb c.args.path.now c.args.folder.now None c.in-None.ensures.cases)
