use Rattle.bag_rules.specs.Transfers.{tag_bag}
use Rattle.bag_rules.proofs.FetchLemmas.{entry_here, entry_there}
use Rattle.bag_rules.proofs.plan.Plan.from_tags.Goals as goal

pub returns-clause-opened : goal.returns-clause-opened
returns-clause-opened c =
    let tags = c.args.tags.now in
    let opened = c.in_ok-texts.ensures.opened in
    let texts = c.in_ok-texts.texts in
    let lines = c.fetch_lines.result.now in
    record {
      tag_files = opened.0;
      opens = opened.1;
      texts = opened.2;
      paths = opened.3;
      lengths = λ path given.
          let by = c.in_ok-lengths.ensures.given path given in (
            λ has. (let l = by.0 has in (l.0, entry_there (tag_bag tags) texts opened.2 lines c.fetch_lines.ensures l.0 l.1, l.2)),
            λ l. by.1 (l.0, entry_here (tag_bag tags) texts opened.2 lines c.fetch_lines.ensures l.0 l.1, l.2),
          );
    }
