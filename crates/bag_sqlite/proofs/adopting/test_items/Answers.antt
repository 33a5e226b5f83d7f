use Rattle.std.proofs.Common.{inl, inr, refl}
use Rattle.bag_sqlite.proofs.Words.{IsNoLedger, IsNoneFor, strays}
use Rattle.bag_sqlite.specs.declared.format.Format.TheVariants as form
use Rattle.bag_sqlite.proofs.SqlLemmas.{on_ok}
use Rattle.bag_sqlite.proofs.RefusingLemmas.{if_err, none_for}
use Rattle.bag_sqlite.proofs.adopting.test_items.Goals as goal

pub returns-in-First-clause-none : goal.returns-in-First-clause-none
returns-in-First-clause-none g c clean db stands = rw c.in-First.is (on_ok c.test_none.result (λ none. (none, tt)) (c.test_none.ensures.none clean db stands))

pub returns-in-First-clause-refused : goal.returns-in-First-clause-refused
returns-in-First-clause-refused g c clean db stands =
    rw c.in-First.is (if_err c.test_none.result _ (IsNoneFor (IsNoLedger g.S.Store db form.First)) (λ fault h. none_for _ (IsNoLedger g.S.Store db form.First) (λ no. (strays _, inr (inr (inl refl)), no)) fault h)
    (c.test_none.ensures.refused clean db stands))

pub returns-in-Second-clause-none : goal.returns-in-Second-clause-none
returns-in-Second-clause-none g c clean db stands = rw c.in-Second.is (c.test_pieces.ensures.none clean db stands)

pub returns-in-Second-clause-refused : goal.returns-in-Second-clause-refused
returns-in-Second-clause-refused g c clean db stands = rw c.in-Second.is (c.test_pieces.ensures.refused clean db stands)
