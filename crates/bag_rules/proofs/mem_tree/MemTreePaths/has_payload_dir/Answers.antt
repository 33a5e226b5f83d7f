use Rattle.std.proofs.Common.{◌≡◌, List, ℕ, true, Contains, subst}
use Rattle.bag_rules.proofs.Words.{All-contains, is_payload}
use Rattle.bag_rules.proofs.MemoryShown.{shown_is}
use Rattle.bag_rules.proofs.mem_tree.MemTreePaths.has_payload_dir.Goals as goal

pub returns-clause-payload : goal.returns-clause-payload
returns-clause-payload c = λ path found payload.
    All-contains (λ path. is_payload path ≡ true → c.self.inside.has_payload_dir ≡ true) _ path c.self.invariant.payload
    (subst (λ (paths : List (List ℕ)). Contains paths path) (shown_is c.args.self.now c.self.inside c.self.view_is) found) payload
