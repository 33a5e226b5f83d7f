use Rattle.std.proofs.Common.{◌≡◌, ◌<◌, ◌∙◌, Some, length, ap, arith, refl, slice_get, subst, sym}
use Rattle.bag_rules.proofs.Words.{AreRising, declaration_file, HoldsFile, length-map, slice_get_within}
use Rattle.bag_rules.specs.Transfers.{tag_bag}
use Rattle.bag_rules.proofs.DeclaredLemmas.{no_declaration}
use Rattle.bag_rules.proofs.EachLemmas.{stands_at}
use Rattle.bag_rules.proofs.PlaceLemmas.{same_file}
use Rattle.bag_rules.proofs.TagBags.{tag_at}
use Rattle.bag_rules.proofs.TreeLemmas.{all_paths, shows, there_at}
use Rattle.bag_rules.proofs.OctetsLemmas.{files_of_bag}
use Rattle.bag_rules.proofs.plan_fault.scope_of_tags.Goals as goal

pub scope_of-requires : goal.scope_of-requires
scope_of-requires c = subst AreRising (sym (all_paths c.args.tags.now)) c.files-files.ensures.tags.rising

pub returns-in-Some-clause-scope : goal.returns-in-Some-clause-scope
returns-in-Some-clause-scope c =
    let tags = c.args.tags.now in
    let bag = tag_bag tags in
    let items = c.files-files.result.now in
    let i = c.in-Some.i in
    let file = c.index-files-i.result in
    let held = there_at bag refl i declaration_file c.in-Some.ensures.found in
    let n : length items ≡ length tags = sym (length-map items _) ∙ ap length c.files-files.ensures.files in
    let inside : i < length items = omega (arith, n, slice_get_within tags i _ held.1) in
    let at = tag_at items tags i file c.files-files.ensures.files (stands_at items i file inside ∙ ap Some (sym c.index-files-i.is)) in
    let same = same_file (slice_get tags i) file.path file.body.items declaration_file held.0 at held.1 in
    c.scope_of.ensures bag (files_of_bag bag refl) (subst (HoldsFile bag declaration_file) (sym (c.body.ensures ∙ same.1)) (i, held.1))

pub returns-in-None-clause-scope : goal.returns-in-None-clause-scope
returns-in-None-clause-scope c =
    let bag = tag_bag c.args.tags.now in
    no_declaration bag (λ there. c.in-None.ensures.absent (shows bag refl declaration_file there))
