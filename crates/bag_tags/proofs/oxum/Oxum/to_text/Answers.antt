use Rattle.std.proofs.Common.{rules, arith, ◌≡◌, ◌<◌, ◌^◌, IfOk, string_bytes, sym, subst, append_assoc}
use Rattle.std.proofs.lemmas.Result.{IfOk-weaker}
use Rattle.bag_tags.specs.Oxums.{OxumText, written_oxum}
use Rattle.bag_tags.proofs.OxumLemmas.{written_says}
use Rattle.bag_tags.proofs.oxum.Oxum.to_text.Goals as goal

pub returns-clause-written : goal.returns-clause-written
returns-clause-written c = search (rules, append_assoc)

pub returns-clause-says : goal.returns-clause-says
returns-clause-says c =
    let written : IfOk c.format.result (λ text. string_bytes text ≡ written_oxum c.args.self.octets c.args.self.streams) = search (rules, append_assoc) in
    let a : c.args.self.octets < 2 ^ 64 = omega arith in
    let b : c.args.self.streams < 2 ^ 64 = omega arith in
    IfOk-weaker c.format.result _ (λ text. OxumText (string_bytes text) c.args.self.octets c.args.self.streams)
    (λ text h. subst (λ octets. OxumText octets c.args.self.octets c.args.self.streams) (sym h) (written_says c.args.self.octets c.args.self.streams a b)) written
