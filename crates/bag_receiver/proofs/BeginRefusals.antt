-- What is reported for files with which no transfer can be opened.
use Rattle.std.proofs.Common.{◌≡◌, ◌≢◌, ◌⊎◌, ℕ, List, [], refl, sym, ap, subst, ◌∙◌, inl, inr}
use Rattle.bag_rules.specs.declared.plan_fault.PlanFault.{PlanFault}
use Rattle.bag_rules.specs.declared.plan_fault.PlanFault.TheVariants as plan
use Rattle.bag_receiver.specs.declared.begin.BeginFault.TheVariants.{Keeper}
use Rattle.bag_receiver.specs.Beginning.{NoneLarge}
use Rattle.bag_receiver.specs.BeginningInside.{begin_fault}
use Rattle.bag_receiver.proofs.BeginFiles.{all_light, first_by_octets}
use Rattle.bag_receiver.proofs.Words.{AreTaken, BeginFault, FewLines, Files, IsFirstPath, IsHeavyAt, IsLargeAt, IsPlanOf, IsRefusal, light_tags, Memory, NoneMisplaced, Plan, RefusesTags, RefusesFiles, TagTooLarge, with_files}

module _ (given : Files) (none : NoneMisplaced given) where
  -- SOME FILE HAS TOO MANY OCTETS

  pub told_large : (large : List ℕ) (fault : BeginFault) → IsFirstPath (IsLargeAt given) large → (fault ≡ Keeper Memory) ⊎ (fault ≡ TagTooLarge large) → IsRefusal given fault
  told_large large fault first (inl memory) = inl memory
  told_large large fault first (inr is) = inr (subst (RefusesFiles given) (sym is) (none, first))

  few_by : (fault : PlanFault) → fault ≢ plan.Memory → ((path : List ℕ) → fault ≢ plan.TagTooLarge path) → RefusesTags (light_tags given) fault → FewLines (light_tags given)
  few_by (plan.TagTooLarge path) not_memory not_large refused = absurd (not_large path refl)
  few_by (plan.Outside cause) not_memory not_large refused = refused.0
  few_by (plan.Rules fault) not_memory not_large refused = refused.0
  few_by (plan.Clash path) not_memory not_large refused = refused.0
  few_by plan.Memory not_memory not_large refused = absurd (not_memory refl)

  module _ (large : List ℕ) (first : IsFirstPath (IsHeavyAt given) large) where
    pub alone : FewLines (light_tags given) → IsFirstPath (IsLargeAt given) large
    alone few = first_by_octets given large first few

    pub by_other : (fault : PlanFault) → fault ≢ plan.Memory → ((path : List ℕ) → fault ≢ plan.TagTooLarge path) → RefusesTags (light_tags given) fault → IsFirstPath (IsLargeAt given) large
    by_other fault not_memory not_large refused = alone (few_by fault not_memory not_large refused)

  -- NO FILE HAS TOO MANY OCTETS

  module _ (light : (path : List ℕ) → ¬ IsHeavyAt given path) where
    same_tags : light_tags given ≡ with_files [] given
    same_tags = ap (with_files []) (all_light given light)

    within : FewLines (with_files [] given) → NoneLarge given
    within few path large = elim large [ inl heavy ↦ light path heavy | inr many ↦ few path many ]

    told_by : (fault : PlanFault) → RefusesTags (with_files [] given) fault → IsRefusal given (begin_fault fault)
    told_by (plan.TagTooLarge path) refused = inr (
      none,
      record {
        has = inr refused.has;
        first = λ other large. elim large [ inl heavy ↦ absurd (light other heavy) | inr many ↦ refused.first other many ];
      },
    )
    told_by (plan.Outside cause) refused = inr (record { placed = none; within = within refused.0; refused = refused })
    told_by (plan.Rules fault) refused = inr (record { placed = none; within = within refused.0; refused = refused })
    told_by (plan.Clash path) refused = inr (record { placed = none; within = within refused.0; refused = refused })
    told_by plan.Memory refused = inl refl

    pub told : (tags : Files) (fault : PlanFault) → tags ≡ light_tags given → RefusesTags tags fault → IsRefusal given (begin_fault fault)
    told tags fault are refused = told_by fault (subst (λ (t : Files). RefusesTags t fault) (are ∙ same_tags) refused)

    pub taken : (tags : Files) (plan : Plan) → tags ≡ light_tags given → IsPlanOf tags plan → AreTaken given tags
    taken tags plan are is = record {
      placed = none;
      within = within (subst FewLines (are ∙ same_tags) is.opens.few_lines);
      tags_are = are ∙ same_tags;
      opens = is.opens;
    }
