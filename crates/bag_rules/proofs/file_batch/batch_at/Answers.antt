use Rattle.std.proofs.Common.{◌≡◌, ◌≤◌, inl, inr, true, false, sym, ◌∙◌}
use Rattle.bag_rules.specs.FileBatchInside.{next_of}
use Rattle.bag_rules.proofs.OctetsLemmas.{knows_later}
use Rattle.bag_rules.proofs.Words.{cases_lt}
use Rattle.bag_rules.proofs.file_batch.batch_at.Goals as goal

pub returns-then-covers-clause-some : goal.returns-then-covers-clause-some
returns-then-covers-clause-some g c = λ known first knows listed read. (known, λ i octets is. is, knows, read)

pub returns-clause-some : goal.returns-clause-some
returns-clause-some g c = λ known first knows listed read.
    let later : next_of c.args.last ≤ c.args.place = elim (cases_lt c.args.place (next_of c.args.last)) [
      | inl below ↦ absurd (let k : true ≡ false = sym (c.covers.ensures.1 (first, below)) ∙ c.if-covers.false in cc)
      | inr above ↦ above
    ] in
    c.read_batch.ensures.some known (knows_later (next_of c.args.last) c.args.place later knows) listed
