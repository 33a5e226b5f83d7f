use Rattle.std.proofs.Common.{◌≡◌, ◌∙◌, ◌++◌, ◌∷◌, [], sym, ap, rules}
use Rattle.bag_rules.proofs.Words.{given_at, items_of}
use Rattle.bag_rules.proofs.WantLemmas.{length_added}
use Rattle.bag_rules.proofs.requirements.add_length.Goals as goal
use Rattle.bag_rules.proofs.requirements.add_length.Goals.{in-Some, in-None}

pub returns-in-Ok : goal.returns-in-Ok
returns-in-Ok c =
    let old = c.args.lengths.now in
    let path = c.args.path.now in
    let key : c.in_ok-key.key ≡ path = search rules in
    let before : c.match-remove.of_path.items ≡ given_at old path = elim c.match-remove.branch [
      | in-Some w ↦ (let v : items_of c.remove.result ≡ given_at old path = ap items_of c.remove.ensures.value in let e : items_of c.remove.result ≡ c.match-remove.of_path.items = cc in sym e ∙ v)
      | in-None w ↦ (let v : items_of c.remove.result ≡ given_at old path = ap items_of c.remove.ensures.value in let e : items_of c.remove.result ≡ [] = cc in let n : c.match-remove.of_path.items ≡ [] = search rules in n ∙ sym e ∙ v)
    ] in
    length_added old c.remove.new.self c.insert.new.self path c.args.given c.push.new.self c.remove.ensures.updates.0
    (rw (← key) c.in-Ok.ensures.updates.0)
    (c.in_ok-push.ensures.items ∙ ap (λ xs. xs ++ c.args.given ∷ []) before)
