use Rattle.std.proofs.Common.{◌≡◌, ◌<◌, ◌∷◌, ◌∙◌, None, Some, ap, length, map, refl, rules, string_bytes, subst, sym}
use Rattle.bag_program.specs.Answers.{Named, NoCommand, NoWords, RefusesWords}
use Rattle.bag_program.specs.CommandLines.{operands_of}
use Rattle.bag_program.proofs.HelpLemmas.{copied}
use Rattle.bag_program.proofs.RequestLemmas.{asked, first_named, no_operands, not_asked}
use Rattle.bag_program.proofs.dispatch.command.Goals as goal
use Rattle.std.proofs.lemmas.List.{nil_from_length}

pub returns-then-is_empty : goal.returns-then-is_empty
returns-then-is_empty g c =
    let empty : length c.args.words.items ≡ 0 = search rules in
    rw c.plain.ensures (NoWords (ap (map string_bytes) (nil_from_length c.args.words.items empty)) refl c.print_line.ensures refl)

pub returns-in-None : goal.returns-in-None
returns-in-None g c =
    let words = c.args.words.items in
    let rest = map string_bytes c.remove-name.new.self.items in
    let some : 0 < length words = search rules in
    let is : map string_bytes words ≡ c.as_str.result.now ∷ rest = first_named string_bytes words c.remove-name.new.self.items c.remove-name.result some c.remove-name.ensures.value c.remove-name.ensures.items ∙ ap (λ name. name ∷ rest) (sym c.as_str.ensures.value) in
    let given : operands_of rest ≡ Some (map string_bytes c.as_slice.result.now) = sym c.in-Some.ensures ∙ ap (λ operands. Some (map string_bytes operands)) (sym c.as_slice.ensures.value) in
    rw c.plain-in-None.ensures (NoCommand (λ none. absurd (cc (is, none))) (not_asked (map string_bytes words) rest c.as_str.result.now is _ given c.in-None.ensures.none) refl
    (subst (λ ws. RefusesWords g.W.Write.contents ws c.args.out.now c.refuse-in-None.new.out c.refuse-in-None.result) (copied string_bytes words c.in-Ok.given.items c.in-Ok.ensures.cases.0)
    (subst (λ gs. RefusesWords g.W.Write.contents (map string_bytes gs) c.args.out.now c.refuse-in-None.new.out c.refuse-in-None.result) c.deref-in-None.ensures.value c.refuse-in-None.ensures)) refl)

pub returns-in_default-operands : goal.returns-in_default-operands
returns-in_default-operands g c =
    let words = c.args.words.items in
    let rest = map string_bytes c.remove-name.new.self.items in
    let some : 0 < length words = search rules in
    let is : map string_bytes words ≡ string_bytes c.remove-name.result ∷ rest = first_named string_bytes words c.remove-name.new.self.items c.remove-name.result some c.remove-name.ensures.value c.remove-name.ensures.items in
    let none : operands_of rest ≡ None = sym (rw c.in_default-operands.is at c.operands.ensures) in
    rw c.plain-in_default-operands.ensures (NoCommand (λ empty. absurd (cc (is, empty))) (no_operands (map string_bytes words) rest (string_bytes c.remove-name.result) is none) refl
    (subst (λ ws. RefusesWords g.W.Write.contents ws c.args.out.now c.refuse.new.out c.refuse.result) (copied string_bytes words c.in-Ok.given.items c.in-Ok.ensures.cases.0)
    (subst (λ gs. RefusesWords g.W.Write.contents (map string_bytes gs) c.args.out.now c.refuse.new.out c.refuse.result) c.deref.ensures.value c.refuse.ensures)) refl)

pub returns-in-Some-of : goal.returns-in-Some-of
returns-in-Some-of g c =
    let words = c.args.words.items in
    let rest = map string_bytes c.remove-name.new.self.items in
    let some : 0 < length words = search rules in
    let is : map string_bytes words ≡ c.as_str.result.now ∷ rest = first_named string_bytes words c.remove-name.new.self.items c.remove-name.result some c.remove-name.ensures.value c.remove-name.ensures.items ∙ ap (λ name. name ∷ rest) (sym c.as_str.ensures.value) in
    let given : operands_of rest ≡ Some (map string_bytes c.as_slice.result.now) = sym c.in-Some.ensures ∙ ap (λ operands. Some (map string_bytes operands)) (sym c.as_slice.ensures.value) in
    Named c.in-Some-of.request (asked (map string_bytes words) rest c.as_str.result.now is _ c.in-Some-of.request given c.in-Some-of.ensures.request) c.run_request.ensures
