use Rattle.std.proofs.Common.{◌≡◌, ◌∙◌, List, ap, false, rules, sym, true}
use Rattle.std.specs.Str.{bytes_eq}
use Rattle.bag_folder.specs.MemNames.{MemEntryShown, first_in}
use Rattle.bag_folder.proofs.MemNameLemmas.{found_here, found_later, found_nowhere}
use Rattle.bag_folder.proofs.mem_names.MemNames.find.Goals as goal

pub loop-entry-init : goal.loop-entry-init
loop-entry-init c =
    ap (λ (items : List MemEntryShown). first_in items c.args.name.now) c.deref-entry-items.ensures.value

pub loop-entry-preserved : goal.loop-entry-preserved
loop-entry-preserved c =
    let other : bytes_eq c.entry-item.result.name c.args.name.now ≡ false = search rules in
    sym (found_later c.deref-entry-items.result.now c.loop-entry.entry-index c.entry-item.result
    c.args.name.now c.loop-entry-test.true c.entry-item.is other) ∙ c.loop-entry.invariant

pub returns-then-eq : goal.returns-then-eq
returns-then-eq c =
    let same : bytes_eq c.entry-item.result.name c.args.name.now ≡ true = search rules in
    sym c.loop-entry.invariant ∙ found_here c.deref-entry-items.result.now c.loop-entry.entry-index
    c.entry-item.result c.args.name.now c.loop-entry-test.true c.entry-item.is same

pub returns : goal.returns
returns c =
    sym c.loop-entry.invariant ∙ found_nowhere c.deref-entry-items.result.now
    c.loop-entry.entry-index c.args.name.now c.loop-entry-test.false
