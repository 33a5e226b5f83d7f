use Rattle.std.proofs.Common.{◌∷◌, sym, subst}
use Rattle.bag_receiver.specs.FetchingInside.{AreMarks}
use Rattle.bag_receiver.proofs.FetchLemmas.{marked_more, marked_none}
use Rattle.bag_receiver.proofs.fetch.mark_path.Goals as goal

pub returns-in_default : goal.returns-in_default
returns-in_default c = λ rising held are. marked_none c.args.paths.now c.args.marks.now.items held c.args.path.now (c.in_default.ensures.absent rising) are

pub returns : goal.returns
returns c = λ rising held are.
    subst (λ marks. AreMarks c.args.paths.now marks (c.args.path.now ∷ held)) (sym c.mark.ensures)
    (marked_more c.args.paths.now c.args.marks.now.items held c.in-Some.place c.args.path.now rising c.in-Some.ensures.found are)
