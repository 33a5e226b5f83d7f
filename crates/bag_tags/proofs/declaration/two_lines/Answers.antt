use Rattle.std.proofs.Common.{◌∷◌, sym, ap, ◌∙◌, arith}
use Rattle.bag_path.specs.Lines.{lines_of}
use Rattle.bag_path.specs.LinesLeft.{numbered_text}
use Rattle.bag_tags.proofs.DeclarationLemmas.{given_texts, given_length}
use Rattle.bag_tags.proofs.declaration.two_lines.Goals as goal

pub returns-in_err-first : goal.returns-in_err-first
returns-in_err-first c =
    let n = given_length (lines_of c.args.octets.now) _ (sym c.new-lines.ensures ∙ c.in_err-first.ensures.steps.0) in
    rw c.from_residual.ensures (λ two. omega (arith, n, two))

pub returns-in_err-second : goal.returns-in_err-second
returns-in_err-second c =
    let one = numbered_text c.in_ok-first.first in
    let n = given_length (lines_of c.args.octets.now) _ (sym c.new-lines.ensures ∙ c.in_ok-first.ensures.steps ∙ ap (λ given. one ∷ given) c.in_err-second.ensures.steps.0) in
    rw c.from_residual-in_err-second.ensures (λ two. omega (arith, n, two))

pub returns-in-None : goal.returns-in-None
returns-in-None c =
    let one = numbered_text c.in_ok-first.first in
    let two = numbered_text c.in_ok-second.second in
    given_texts (lines_of c.args.octets.now) _ (sym c.new-lines.ensures ∙ c.in_ok-first.ensures.steps ∙ ap (λ given. one ∷ given) (c.in_ok-second.ensures.steps ∙ ap (λ given. two ∷ given) c.in-None.ensures.steps.0))

pub returns-in-Some : goal.returns-in-Some
returns-in-Some c only_two =
    let one = numbered_text c.in_ok-first.first in
    let two = numbered_text c.in_ok-second.second in
    let n = given_length (lines_of c.args.octets.now) _ (sym c.new-lines.ensures ∙ c.in_ok-first.ensures.steps ∙ ap (λ given. one ∷ given) (c.in_ok-second.ensures.steps ∙ ap (λ given. two ∷ given) c.in-Some.ensures.steps)) in
    omega (arith, n, only_two)
