use Rattle.std.proofs.Common.{List, Option, ℕ, rules, subst}
use Rattle.std.proofs.lemmas.Result.{IfErr-weaker}
use Rattle.std.specs.Prelude.{OnSome, string_bytes}
use Rattle.bag_folder.specs.declared.fault.Cause.{Cause}
use Rattle.bag_folder.specs.Supplying.{IsNameTo}
use Rattle.bag_folder.specs.Unfits.{CountsTrouble}
use Rattle.bag_folder.proofs.FaultLemmas.{OnSome-weaker, answers_told, told_by_name}
use Rattle.bag_folder.proofs.SupplyLemmas.{supplied_so}
use Rattle.bag_folder.proofs.folder_supplier.FolderSupplierSupplier.ask.Goals as goal

pub returns-clause-exactly : goal.returns-clause-exactly
returns-clause-exactly g c =
    let IsNamed = λ (name : List ℕ). IsNameTo c.args.self.now.folder c.args.path.now name in
    let named : IsNamed c.seek-answer.new.self.name → IsNamed c.as_str.result.now = λ name. (name.0, name.1, (search rules)) in
    record {
      opened = search rules;
      found = search rules;
      changes = search rules;
      told = told_by_name c.seek-answer.result c.counted.result c.as_str.result.now c.self-2.inside.troubles c.counted.new.self IsNamed c.counted.ensures.answer c.counted.ensures.counted
          (IfErr-weaker c.seek-answer.result _ (λ (cause : Option Cause). OnSome cause (IsNamed c.as_str.result.now)) (λ cause here. OnSome-weaker cause _ (IsNamed c.as_str.result.now) (λ name. named (name.0, name.1, (search rules))) here) c.seek-answer.ensures.failed);
      answers = answers_told _ _ _ _ c.args.path.now _ (string_bytes c.self-2.inside.name) _ _ c.seek-answer.result c.counted.result c.self-2.inside.troubles c.counted.new.self (search rules) (search rules) (search rules) (search rules)
          c.counted.ensures.answer (subst (λ (name : List ℕ). CountsTrouble c.seek-answer.result name c.self-2.inside.troubles c.counted.new.self) c.as_str.ensures.value c.counted.ensures.counted) c.seek-answer.ensures.answers;
    }

pub returns-clause-supplied : goal.returns-clause-supplied
returns-clause-supplied g c =
    let exactly = returns-clause-exactly g c in
    supplied_so c.args.self.now.standing c.args.self.now.folder c.args._url.now c.args.path.now _ _
    c.counted.result _ exactly.answers
