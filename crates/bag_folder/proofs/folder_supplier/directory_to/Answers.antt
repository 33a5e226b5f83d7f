use Rattle.std.proofs.Common.{◌∙◌, ℕ, List, None, Some, ap, arith, sym}
use Rattle.std.proofs.lemmas.Str.Pattern.{strip_prefix_char}
use Rattle.bag_folder.specs.Directories.{name_below}
use Rattle.bag_folder.proofs.WayLemmas.{ends_there, slash_next}
use Rattle.bag_folder.proofs.folder_supplier.directory_to.Goals as goal

pub returns-in-Some : goal.returns-in-Some
returns-in-Some c =
    let front = c.in_ok-front.ensures.front in
    let rest = c.in_ok-front.rest.now in
    let slash = strip_prefix_char 47 rest (Some c.in-Some.field-0) c.in-Some.ensures.cases
    (omega arith) in
    let leads = ends_there c.args.path.now c.args.length c.in-Some.field-0.now
    (sym c.in_ok-front.ensures.back ∙ slash) in
    (front, (leads.0, leads.1 ∙ ap (λ (f : List ℕ). name_below f leads.0) (sym front)))

pub returns-in-None : goal.returns-in-None
returns-in-None c = λ leads.
    let none = strip_prefix_char 47 c.in_ok-front.rest.now None c.in-None.ensures.cases
    (omega arith) in
    none leads.0 (c.in_ok-front.ensures.back ∙ slash_next c.args.path.now c.args.length leads)
