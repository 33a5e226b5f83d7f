use Rattle.std.proofs.Common.{refl, w64}
use Rattle.bag_sqlite.proofs.Words.{concat, to_z-of_z}
use Rattle.bag_sqlite.proofs.AdoptingLemmas.{ok_some}
use Rattle.bag_sqlite.proofs.verifying.content_of.Goals as goal

pub returns-in-First-clause-content : goal.returns-in-First-clause-content
returns-in-First-clause-content g c clean db stands = rw c.in-First.is (rw (to_z-of_z w64 c.args.item c.ranges.item) at (c.whole_content.ensures.content clean db stands))

pub returns-in-First-clause-refused : goal.returns-in-First-clause-refused
returns-in-First-clause-refused g c clean db stands = rw c.in-First.is (rw (to_z-of_z w64 c.args.item c.ranges.item) at (c.whole_content.ensures.refused clean db stands))

pub returns-in-Second-clause-content : goal.returns-in-Second-clause-content
returns-in-Second-clause-content g c clean db stands =
    rw c.in-Second.is (ok_some c.content_in_pieces.result _ _ (λ content it. (concat it.0, (it.0, it.1, refl), it.2, it.3)) (rw (to_z-of_z w64 c.args.item c.ranges.item) at (c.content_in_pieces.ensures.content clean db stands)))

pub returns-in-Second-clause-refused : goal.returns-in-Second-clause-refused
returns-in-Second-clause-refused g c clean db stands = rw c.in-Second.is (rw (to_z-of_z w64 c.args.item c.ranges.item) at (c.content_in_pieces.ensures.refused clean db stands))
