use Rattle.std.proofs.Common.{◌≡◌, ◌∙◌, rules, subst}
use Rattle.std.proofs.lemmas.Str.{Chars-Drains, encodes-chars}
use Rattle.std.specs.Io.KnownBytes.{Appends}
use Rattle.std.specs.List.{flat_map}
use Rattle.std.specs.Str.{chars}
use Rattle.bag_program.specs.Terminals.{shown_char}
use Rattle.bag_program.proofs.terminal.write_shown.Goals as goal

pub returns : goal.returns
returns g c =
    let text = c.args.text.now in
    let begun : text ≡ c.into_iter-c-iterator.result.rest.now = search rules in
    let all : c.loop-c.yielded ≡ chars text =
    Chars-Drains (chars text) c.loop-c.yielded c.into_iter-c-iterator.result (encodes-chars text c.utf8.text ∙ begun) (c.next.new.self, (c.loop-c.c-iterator, c.loop-c.yielded_by, c.in-None.ensures.steps)) in
    subst (λ cs. Appends (g.W.Write.contents c.args.writer.now) (g.W.Write.contents c.loop-c.writer) (flat_map shown_char cs)) all c.loop-c.invariant
