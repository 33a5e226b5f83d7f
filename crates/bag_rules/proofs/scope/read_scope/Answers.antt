use Rattle.std.proofs.Common.{refl}
use Rattle.bag_rules.proofs.Words.{declaration_file, octets_in}
use Rattle.bag_rules.proofs.DeclaredLemmas.{no_declaration, none_declaration}
use Rattle.bag_rules.proofs.RisingPaths.{contains_at}
use Rattle.bag_rules.proofs.TreeLemmas.{shows}
use Rattle.bag_rules.proofs.TreeUses.{uses_none}
use Rattle.bag_rules.proofs.OctetsLemmas.{knows_shown, none_at, shows_as}
use Rattle.bag_rules.proofs.scope.read_scope.Goals as goal

pub returns-in-Some-clause-undeclared : goal.returns-in-Some-clause-undeclared
returns-in-Some-clause-undeclared g c = λ absent. absurd (absent (contains_at _ c.in-Some.i declaration_file c.in-Some.ensures.found))

pub returns-in-None-clause-scope : goal.returns-in-None-clause-scope
returns-in-None-clause-scope g c = λ bag is. no_declaration bag (λ there. c.in-None.ensures.absent (shows bag is declaration_file there))

pub returns-in-None-clause-limits : goal.returns-in-None-clause-limits
returns-in-None-clause-limits g c = λ bag is. none_declaration bag (λ there. c.in-None.ensures.absent (shows bag is declaration_file there))

pub returns-in-None-clause-reads : goal.returns-in-None-clause-reads
returns-in-None-clause-reads g c = record { tree = uses_none (λ e. cc e); kept = λ are. are }

pub returns-in-None-clause-some : goal.returns-in-None-clause-some
returns-in-None-clause-some g c = λ empty.
    let shown = g.T.Paths.shown c.args.tree.now in (
      octets_in shown,
      record {
        more = λ i octets is. is;
        knows = knows_shown shown c.args.kept.now empty;
        only = λ place path is at. absurd (none_at c.args.kept.now empty place is);
        set = refl;
      },
      λ bag is. no_declaration bag (λ there. c.in-None.ensures.absent (shows_as bag is.files declaration_file there)),
    )
