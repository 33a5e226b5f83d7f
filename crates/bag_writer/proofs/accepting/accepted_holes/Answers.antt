use Rattle.std.proofs.Common.{◌∙◌, ℕ, List, Option, MatchOption, subst, sym}
use Rattle.std.proofs.lemmas.Bool.{false≢true}
use Rattle.std.proofs.lemmas.Result.{err_from_is_err_and}
use Rattle.bag_rules.specs.Opening.{IsFirstPath, IsFolderAmong}
use Rattle.bag_writer.specs.Accepting.{RefusesHoles}
use Rattle.bag_writer.specs.Writing.{IsBadHole, payload_paths}
use Rattle.bag_writer.specs.declared.spec.Hole.{Hole}
use Rattle.bag_writer.proofs.Refusals.{no_oxum, refused_holes, some_oxum}
use Rattle.bag_writer.proofs.accepting.accepted_holes.Goals as goal

pub returns-then-gives_oxum-clause-accepted : goal.returns-then-gives_oxum-clause-accepted
returns-then-gives_oxum-clause-accepted g c = (
  (λ none. false≢true (sym c.if-is_empty.false ∙ c.is_empty.ensures.1 none), some_oxum c.args.spec.now.info (sym c.gives_oxum.ensures ∙ c.if-gives_oxum.true)),
  λ x. x,
)

pub returns-in_err-marks-clause-accepted : goal.returns-in_err-marks-clause-accepted
returns-in_err-marks-clause-accepted g c =
    let payload = payload_paths (g.P.Paths.shown c.args.tree.now) in
    let error = err_from_is_err_and c.from_residual.result c.from_residual.ensures.1 in
    rw (error.1, error.2) (refused_holes payload c.args.spec.now
    (λ none. false≢true (sym c.if-is_empty.false ∙ c.is_empty.ensures.1 none))
    (no_oxum c.args.spec.now.info (sym c.gives_oxum.ensures ∙ c.if-gives_oxum.false))
    c.in_err-marks.field-0.0
    (subst (λ (holes : List Hole). RefusesHoles payload holes c.in_err-marks.field-0.0) c.deref.ensures.value c.in_err-marks.ensures.refused))

pub returns-in-Some-clause-accepted : goal.returns-in-Some-clause-accepted
returns-in-Some-clause-accepted g c =
    let payload = payload_paths (g.P.Paths.shown c.args.tree.now) in
    let told = subst (λ (found : Option (List ℕ)). MatchOption found ((path : List ℕ) → ¬ IsFolderAmong c.in_ok-payload_paths.field-0.items path) (IsFirstPath (IsFolderAmong c.in_ok-payload_paths.field-0.items))) c.in-Some.is c.in_ok-path.ensures in (
      (
        λ none. false≢true (sym c.if-is_empty.false ∙ c.is_empty.ensures.1 none),
        no_oxum c.args.spec.now.info (sym c.gives_oxum.ensures ∙ c.if-gives_oxum.false),
        λ i. subst (λ (holes : List Hole). ¬ IsBadHole payload holes i) c.deref.ensures.value (c.in_ok-marks.ensures.good i),
        subst (λ (paths : List (List ℕ)). IsFirstPath (IsFolderAmong paths) c.in-Some.path) c.in_ok-payload_paths.ensures told,
      ),
      λ x. x,
    )

pub returns-in-None-clause-accepted : goal.returns-in-None-clause-accepted
returns-in-None-clause-accepted g c =
    let payload = payload_paths (g.P.Paths.shown c.args.tree.now) in
    let told = subst (λ (found : Option (List ℕ)). MatchOption found ((path : List ℕ) → ¬ IsFolderAmong c.in_ok-payload_paths.field-0.items path) (IsFirstPath (IsFolderAmong c.in_ok-payload_paths.field-0.items))) c.in-None.is c.in_ok-path.ensures in
    record {
      has_algorithm = λ none. false≢true (sym c.if-is_empty.false ∙ c.is_empty.ensures.1 none);
      no_oxum = no_oxum c.args.spec.now.info (sym c.gives_oxum.ensures ∙ c.if-gives_oxum.false);
      holes = λ i. subst (λ (holes : List Hole). ¬ IsBadHole payload holes i) c.deref.ensures.value (c.in_ok-marks.ensures.good i);
      no_clash = λ path. subst (λ (paths : List (List ℕ)). ¬ IsFolderAmong paths path) c.in_ok-payload_paths.ensures (told path);
    }
