use Rattle.std.proofs.Common.{rules}
use Rattle.bag_folder.proofs.CourierLemmas.{next_comes, next_has_path}
use Rattle.bag_folder.proofs.tree_courier.TreeCourierCourier.next.Goals.{in-Some, in_default}
use Rattle.bag_folder.proofs.tree_courier.TreeCourierCourier.next.Goals as goal

pub returns-clause-came : goal.returns-clause-came
returns-clause-came g c =
    let place = c.self.inside.place in
    let found = c.next_payload-self-inside.result in
    elim c.match-self.branch [
      | in-Some w ↦ next_comes _ _ (g.T.Paths.shown c.self.inside.tree) place found _ _ _ (g.T.Source.remaining c.self.inside.tree) c.next_payload-self-inside.ensures.found c.next_payload-self-inside.ensures.none
          (search rules) (search rules) (search rules) (search rules) (search rules)
      | in_default w ↦ next_comes _ _ (g.T.Paths.shown c.self.inside.tree) place found _ _ _ (g.T.Source.remaining c.self.inside.tree) c.next_payload-self-inside.ensures.found c.next_payload-self-inside.ensures.none
          (search rules) (search rules) (search rules) (search rules) (search rules)
    ]

pub returns-clause-path : goal.returns-clause-path
returns-clause-path g c =
    let found = c.next_payload-self-inside.result in
    elim c.match-self.branch [
      | in-Some w ↦ next_has_path _ _ _ (g.T.Paths.shown c.self.inside.tree) c.self.inside.place found c.next_payload-self-inside.ensures.found (search rules) (search rules) (search rules)
      | in_default w ↦ next_has_path _ _ _ (g.T.Paths.shown c.self.inside.tree) c.self.inside.place found c.next_payload-self-inside.ensures.found (search rules) (search rules) (search rules)
    ]
