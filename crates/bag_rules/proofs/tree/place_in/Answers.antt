use Rattle.std.proofs.Common.{Some, ◌∙◌, refl, sym, ap, subst, rules}
use Rattle.bag_rules.proofs.HasLemmas.{has_from_contains}
use Rattle.bag_rules.proofs.SearchLemmas.{absent, against, found}
use Rattle.bag_rules.proofs.Words.{always_returns_same, AreRising, map-id}
use Rattle.bag_rules.proofs.tree.place_in.Goals as goal

pub returns-in-Ok-clause-found : goal.returns-in-Ok-clause-found
returns-in-Ok-clause-found c =
    let paths = c.args.paths.now in
    let path = c.args.path.now in
    let here = found (λ own. own) paths path c.in-Ok.place c.in-Ok.ensures.bound (c.in-Ok.ensures.position (against (λ own. own) paths path) (always_returns_same _ _ _ (λ a r g called. search rules))) in
    here.1 ∙ ap Some here.2

pub returns-in-Err-clause-absent : goal.returns-in-Err-clause-absent
returns-in-Err-clause-absent c = λ rising there.
    let paths = c.args.paths.now in
    let path = c.args.path.now in
    absent (λ own. own) paths path (subst AreRising (sym (map-id paths)) rising) c.in-Err.field-0 (c.in-Err.ensures.position (against (λ own. own) paths path) (always_returns_same _ _ _ (λ a r g called. search rules))) path (has_from_contains paths path there) refl
