use Rattle.std.proofs.Common.{◌≡◌, ◌∙◌, ◌==◌, Contains, List, ap, true, false, length, sym, subst, inl, inr, rules}
use Rattle.bag_rules.specs.KeptInside.{AreKept}
use Rattle.bag_rules.proofs.Words.{Adds, Bag, err_from_is_err_and, Fault, FileStops, FirstStops, has, HasFaultOf, HasScope, is_payload, kinds_of_files, Known, manifest_file, paths_in, ScopeStops, Tag}
use Rattle.bag_rules.proofs.TreeLemmas.{rises}
use Rattle.bag_rules.proofs.TreeUses.{uses_error, uses_kept, uses_on}
use Rattle.bag_rules.proofs.VerdictLemmas.{declared_none, form_found, form_none, form_some, judged_by_form, judged_by_files, none_first}
use Rattle.bag_rules.proofs.LimitLemmas.{stopped_so}
use Rattle.bag_rules.proofs.LimitLemmas as limit
use Rattle.bag_rules.specs.Bags.{HasFilesOf}
use Rattle.bag_rules.specs.OctetsRead.{IsBagBy, KeepsOnly, KnowsFrom}
use Rattle.bag_rules.proofs.OctetsLemmas.{extends_on, files_of_bag, less_known, rises_as}
use Rattle.bag_rules.proofs.checking.check_in_scope.Goals as goal
use Rattle.bag_rules.proofs.checking.check_in_scope.Goals.{then-is_empty+in_ok-add_file_faults, else-is_empty}

pub returns-in_err-add_file_faults-clause-limits : goal.returns-in_err-add_file_faults-clause-limits
returns-in_err-add_file_faults-clause-limits g c = λ bag is scope.
    let is_after = c.in_ok-texts.ensures.reads.tree.same ∙ is in
    let texts = c.in_ok-texts.ensures.read bag is scope.1 in
    let none = declared_none bag _ (rises bag is c.requires.ready.1) scope.0.declared.declares in
    let formed = form_found bag _ _ _ c.new-faults.ensures.items (c.in_ok-texts.ensures.faulty bag is scope.1) (c.in_ok-add_form_faults.ensures bag (files_of_bag bag is_after) texts) in
    let empty : (length c.add_form_faults.new.faults.items == 0) ≡ true = search rules in
    let p = err_from_is_err_and c.from_residual-in_err-add_file_faults.result c.from_residual-in_err-add_file_faults.ensures.1 in
    rw p.1 (rw p.2 (stopped_so (FirstStops bag (FileStops bag)) (ScopeStops bag) c.in_err-add_file_faults.field-0.0
    (λ first. inr (c.in_ok-texts.ensures.limits bag is, form_none bag _ none formed (none_first _ empty), first))
    (c.in_err-add_file_faults.ensures.limits bag is_after texts)))

pub returns-clause-verdict : goal.returns-clause-verdict
returns-clause-verdict g c = λ bag is scope.
    let is_after = c.in_ok-texts.ensures.reads.tree.same ∙ is in
    let texts = c.in_ok-texts.ensures.read bag is scope.1 in
    let none = declared_none bag _ (rises bag is c.requires.ready.1) scope.0.declared.declares in
    let formed = form_found bag _ _ _ c.new-faults.ensures.items (c.in_ok-texts.ensures.faulty bag is scope.1) (c.in_ok-add_form_faults.ensures bag (files_of_bag bag is_after) texts) in
    elim c.if-is_empty.branch [
      | then-is_empty+in_ok-add_file_faults w ↦
          let empty : (length c.add_form_faults.new.faults.items == 0) ≡ true = search rules in
          let filed = w.in_ok-add_file_faults.ensures.added bag is_after scope.1 texts in
          judged_by_files bag w.add_file_faults.new.faults.items _ scope.0 (form_none bag _ none formed (none_first _ empty))
          (subst (λ (fs : List Fault). Adds fs w.add_file_faults.new.faults.items (HasFaultOf bag kinds_of_files)) (none_first _ empty) filed)
          c.new.ensures.in_order
          (rw (← w.faults-is) c.new.ensures.same)
      | else-is_empty w ↦
          let some : (length c.add_form_faults.new.faults.items == 0) ≡ false = search rules in
          judged_by_form bag c.add_form_faults.new.faults.items _ scope.0 none formed some c.new.ensures.in_order (rw (← w.faults-is) c.new.ensures.same)
    ]

pub returns-clause-some : goal.returns-clause-some
returns-clause-some g c = λ known knows only algs scoped.
    let same = c.in_ok-texts.ensures.reads.tree.same in
    let shown = g.T.Paths.shown c.args.tree.now in
    let texts = c.in_ok-texts.ensures.some known knows only in
    let in_scope : (bag : Bag) → IsBagBy shown texts.0 bag → HasScope bag (Known c.args.version) = λ bag is. scoped bag (less_known texts.1.more is) in
    let read : (bag : Bag) → IsBagBy shown texts.0 bag → _ = λ bag is. texts.2 bag is (in_scope bag is).1 in
    let none = λ (bag : Bag) (is : IsBagBy shown texts.0 bag). declared_none bag _ (rises_as bag is.files c.requires.ready.1) (in_scope bag is).0.declared.declares in
    let formed = λ (bag : Bag) (is : IsBagBy shown texts.0 bag).
    form_found bag _ _ _ c.new-faults.ensures.items (read bag is).1 (c.in_ok-add_form_faults.ensures bag (subst (λ s. HasFilesOf s bag) (sym same) is.files) (read bag is).0) in
    elim c.if-is_empty.branch [
      | then-is_empty+in_ok-add_file_faults w ↦
          let empty : (length c.add_form_faults.new.faults.items == 0) ≡ true = search rules in
          let files = w.in_ok-add_file_faults.ensures.some texts.0 (subst (λ s. KnowsFrom 0 s c.read_texts.new.kept texts.0) (sym same) texts.1.knows)
          (subst (λ s. KeepsOnly s c.read_texts.new.kept (λ path. is_payload path ≡ false)) (sym same) texts.1.only)
          (λ alg there. ap (λ set. has set alg) texts.1.set ∙ algs alg (subst (λ s. Contains (paths_in s) (manifest_file Tag alg)) same there))
          (λ bag is. let own = subst (λ s. IsBagBy s texts.0 bag) same is in ((in_scope bag own).1, (read bag own).0)) in (
            files.0,
            extends_on known texts.0 files.0 texts.1.more files.1,
            λ bag is.
                let own = less_known files.1 is in
                judged_by_files bag w.add_file_faults.new.faults.items _ (in_scope bag own).0 (form_none bag _ (none bag own) (formed bag own) (none_first _ empty))
                (subst (λ (fs : List Fault). Adds fs w.add_file_faults.new.faults.items (HasFaultOf bag kinds_of_files)) (none_first _ empty) (files.2 bag (subst (λ s. IsBagBy s files.0 bag) (sym same) is)))
                c.new.ensures.in_order
                (rw (← w.faults-is) c.new.ensures.same),
          )
      | else-is_empty w ↦
          let some : (length c.add_form_faults.new.faults.items == 0) ≡ false = search rules in (
            texts.0,
            texts.1.more,
            λ bag is. judged_by_form bag c.add_form_faults.new.faults.items _ (in_scope bag is).0 (none bag is) (formed bag is) some c.new.ensures.in_order (rw (← w.faults-is) c.new.ensures.same),
          )
    ]

pub returns-clause-limits : goal.returns-clause-limits
returns-clause-limits g c = λ bag is scope fault stops.
    let is_after = c.in_ok-texts.ensures.reads.tree.same ∙ is in
    let texts = c.in_ok-texts.ensures.read bag is scope.1 in
    elim stops [
      | inl text ↦ limit.none_first bag _ fault (c.in_ok-texts.ensures.limits bag is) text
      | inr file ↦ elim c.if-is_empty.branch [
        | then-is_empty+in_ok-add_file_faults w ↦ limit.none_first bag _ fault (w.in_ok-add_file_faults.ensures.limits bag is_after texts) file.2
        | else-is_empty w ↦
            let none = declared_none bag _ (rises bag is c.requires.ready.1) scope.0.declared.declares in
            let formed = form_found bag _ _ _ c.new-faults.ensures.items (c.in_ok-texts.ensures.faulty bag is scope.1) (c.in_ok-add_form_faults.ensures bag (files_of_bag bag is_after) texts) in
            form_some bag c.add_form_faults.new.faults.items formed (search rules) file.1
      ]
    ]

pub returns-in_err-add_file_faults-clause-tree : goal.returns-in_err-add_file_faults-clause-tree
returns-in_err-add_file_faults-clause-tree g c =
    let p = err_from_is_err_and c.from_residual-in_err-add_file_faults.result c.from_residual-in_err-add_file_faults.ensures.1 in
    rw (p.1, p.2) (uses_error (uses_on c.in_ok-texts.ensures.reads.tree (λ e. cc e) c.in_err-add_file_faults.ensures.tree))

pub returns-clause-tree : goal.returns-clause-tree
returns-clause-tree g c = elim c.if-is_empty.branch [
  | then-is_empty+in_ok-add_file_faults w ↦ rw w.tree-is (uses_kept (uses_on c.in_ok-texts.ensures.reads.tree (λ e. cc e) w.in_ok-add_file_faults.ensures.tree) (λ e. cc e) (λ e. cc e))
  | else-is_empty w ↦ rw w.tree-is (uses_kept c.in_ok-texts.ensures.reads.tree (λ e. cc e) (λ e. cc e))
]

pub add_file_faults-requires-clause-kept : goal.add_file_faults-requires-clause-kept
add_file_faults-requires-clause-kept g c = subst (λ s. AreKept s c.read_texts.new.kept) (sym c.in_ok-texts.ensures.reads.tree.same) (c.in_ok-texts.ensures.reads.kept c.requires.kept)
