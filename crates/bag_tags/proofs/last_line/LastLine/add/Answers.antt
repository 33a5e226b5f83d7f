use Rattle.std.proofs.Common.{◌≡◌, ◌≢◌, ◌==◌, ◌∙◌, ℕ, true, false, List, [], ap, length, refl, sym}
use Rattle.bag_tags.proofs.PiecesLemmas.{added}
use Rattle.bag_tags.proofs.last_line.LastLine.add.Goals as goal

pub returns-clause-added : goal.returns-clause-added
returns-clause-added c =
    let some : c.args.octets.now ≢ [] = λ none. (let k : false ≡ true = sym c.if-is_empty.false ∙ c.is_empty.ensures ∙ ap (λ (os : List ℕ). length os == 0) none in cc) in
    record {
      number = refl;
      goes_on = λ left. added c.args.self.now.number c.args.self.now.octets.items c.args.octets.now left _ c.args.self.now.after_cr c.requires some c.in-Ok.ensures.items;
    }
