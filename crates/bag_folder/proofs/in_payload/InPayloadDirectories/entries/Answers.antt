use Rattle.std.proofs.Common.{◌≡◌, ◌∙◌, [], false, rules, subst, sym}
use Rattle.std.specs.Str.{bytes_eq}
use Rattle.bag_folder.specs.Directories.{name_below}
use Rattle.bag_folder.proofs.PayloadFolders.{answers_below}
use Rattle.bag_folder.proofs.in_payload.InPayloadDirectories.entries.Goals as goal

pub returns : goal.returns
returns g c =
    let folder = c.args.self.now.folder.now in
    let base : c.as_str.result.now ≡ name_below folder [] = search rules in
    let not_base : bytes_eq c.args.directory.now (name_below folder []) ≡ false = subst (λ b. bytes_eq c.args.directory.now b ≡ false) base (sym c.eq.ensures ∙ c.if-eq.false) in
    answers_below (λ entries. entries.items) folder c.args.directory.now c.as_str-2.result.now (g.D.Directories.listing c.args.self.now.disk.now) c.entries.result
    not_base (c.as_str-2.ensures.value ∙ c.in_ok-name.ensures) c.entries.ensures
