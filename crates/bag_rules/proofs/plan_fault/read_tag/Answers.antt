use Rattle.std.proofs.Common.{◌≡◌, ◌∙◌, sym, subst}
use Rattle.bag_rules.proofs.Words.{IsBadLineOf, IsFirstBadLine, on_ok_weaker, one_file, ReadsText, text_file}
use Rattle.bag_rules.proofs.AddsLemmas.{adds_so}
use Rattle.bag_rules.proofs.KeptLemmas.{on_ok_both}
use Rattle.bag_rules.proofs.plan_fault.read_tag.Goals as goal

pub returns-in-Some : goal.returns-in-Some
returns-in-Some c =
    let path = c.args.file.now.path in
    let octets = c.args.file.now.body.items in
    let file = c.in-Some.name in
    let version = c.args.version in
    let named : path ≡ text_file file = sym c.path.ensures ∙ c.in-Some.ensures in
    let held : c.body.result.now ≡ octets = c.body.ensures in
    on_ok_both c.read_lines.result _ _
    (on_ok_weaker c.read_lines.result (λ reads.
    record {
      reads = λ other is. subst (λ f. ReadsText version f octets c.args.texts.now c.read_lines.new.texts) (one_file path file other named is) (subst (λ o. ReadsText version file o c.args.texts.now c.read_lines.new.texts) held reads);
      leaves = λ none. absurd (none file named);
    })
    c.read_lines.ensures.read)
    (on_ok_weaker c.read_lines.result (adds_so c.args.faults.now.items c.read_lines.new.faults.items (IsFirstBadLine version file c.body.result.now) (IsBadLineOf version path octets)
    (λ f bad. (file, named, subst (λ o. IsFirstBadLine version file o f) held bad))
    (λ f bad. subst (λ o. IsFirstBadLine version file o f) (sym held) (subst (λ name. IsFirstBadLine version name octets f) (one_file path bad.0 file bad.1 named) bad.2)))
    c.read_lines.ensures.faulty)
