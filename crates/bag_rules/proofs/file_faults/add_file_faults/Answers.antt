use Rattle.std.proofs.Common.{◌≡◌, ◌∷◌, ◌∙◌, [], ℕ, List, ap, length, refl, sym, subst}
use Rattle.bag_path.specs.declared.version.Version.{Version}
use Rattle.bag_rules.proofs.Words.{Adds, AreLinesOf, AreRequirementsOf, AreTextsOf, Bag, err_from_is_err_and, Fault, FetchLine, FirstStops, HasFaultOf, IsFileFault, IsLongRead, IsMissing, kinds_of_files, Listing, NoneStops, paths_in, Requirements, shown_of, Stopped, TagTexts}
use Rattle.bag_rules.proofs.AddsLemmas.{adds_kinds, adds_of, adds_so}
use Rattle.bag_rules.proofs.VerdictLemmas.{found_files}
use Rattle.bag_rules.proofs.FileKindLemmas.{broken_file_fault, broken_missing, file_fault_broken, first_stops_so, missing_broken, none_stops}
use Rattle.bag_rules.specs.Bags.{version_of}
use Rattle.bag_rules.specs.OctetsRead.{KeepsListed}
use Rattle.bag_rules.proofs.ListedKept.{keeps_listed}
use Rattle.bag_rules.proofs.OctetsLemmas.{bag_by, less_known, own_paths}
use Rattle.bag_rules.proofs.file_faults.add_file_faults.Goals as goal

-- the faults of each kind are those of the files of the bag
files_added : (bag : Bag) (version : Version) (texts : TagTexts) (lines : List FetchLine) → AreLinesOf texts lines → (wants : Requirements) → version_of bag ≡ version → AreTextsOf (length bag.files) bag texts → AreRequirementsOf version texts.manifests.items lines wants
    → (paths : List (List ℕ)) → paths_in (shown_of bag) ≡ paths → (first second third fourth last : List Fault) → Adds first second (IsMissing paths texts.manifests.items) → Adds second third (HasFaultOf bag (11 ∷ [])) → Adds third fourth (IsFileFault bag wants)
    → Adds fourth last (HasFaultOf bag (13 ∷ [])) → Adds first last (HasFaultOf bag kinds_of_files)
files_added bag version texts lines lines_are wants version_is are by paths same first second third fourth last missed unlisted read oxum =
    let wants_are = subst (λ (v : Version). AreRequirementsOf v texts.manifests.items lines wants) (sym version_is) by in
    let missing : Adds first second (HasFaultOf bag (9 ∷ [])) =
    adds_so _ _ (IsMissing (paths_in (shown_of bag)) texts.manifests.items) (HasFaultOf bag (9 ∷ [])) (missing_broken bag texts are refl) (broken_missing bag texts are refl)
    (subst (λ ps. Adds first second (IsMissing ps texts.manifests.items)) (sym same) missed) in
    let files : Adds third fourth (HasFaultOf bag (10 ∷ 12 ∷ 14 ∷ [])) =
    adds_so _ _ (IsFileFault bag wants) (HasFaultOf bag (10 ∷ 12 ∷ 14 ∷ [])) (file_fault_broken bag texts are lines lines_are wants wants_are) (broken_file_fault bag texts are lines lines_are wants wants_are) read in
    adds_of bag (9 ∷ 11 ∷ 10 ∷ 12 ∷ 14 ∷ 13 ∷ []) kinds_of_files _ _ found_files (adds_kinds bag (9 ∷ 11 ∷ 10 ∷ 12 ∷ 14 ∷ []) (13 ∷ []) _ _ _
    (adds_kinds bag (9 ∷ 11 ∷ []) (10 ∷ 12 ∷ 14 ∷ []) _ _ _ (adds_kinds bag (9 ∷ []) (11 ∷ []) _ _ _ missing unlisted) files) oxum)

pub returns-in_err-size-clause-limits : goal.returns-in_err-size-clause-limits
returns-in_err-size-clause-limits g c = λ bag is are.
    let texts = c.args.texts.now in
    let listings : c.in_ok-wants.wants.manifests.now ≡ texts.manifests.items = c.in_ok-wants.ensures.manifests ∙ c.deref-2.ensures.value in
    let stopped = subst (λ (ls : List Listing). Stopped (FirstStops bag (IsLongRead ls)) c.in_err-size.field-0.0) listings (c.in_err-size.ensures.limits bag is) in
    let p = err_from_is_err_and c.from_residual-in_err-size.result c.from_residual-in_err-size.ensures.1 in
    rw p.1 (first_stops_so bag texts are p.0 (subst (Stopped (FirstStops bag (IsLongRead texts.manifests.items))) (sym p.2) stopped))

pub read_files-requires-clause-ready : goal.read_files-requires-clause-ready
read_files-requires-clause-ready g c = (c.requires.kept, c.in_ok-wants.ensures.lengths.payload)

pub returns-clause-added : goal.returns-clause-added
returns-clause-added g c = λ bag is version_is are.
    let texts = c.args.texts.now in
    let read = c.in_ok-size.ensures.read bag is in
    files_added bag c.args.version texts c.fetch_lines.result.now c.fetch_lines.ensures c.in_ok-wants.wants version_is are (subst (λ (ls : List Listing). AreRequirementsOf c.args.version ls c.fetch_lines.result.now c.in_ok-wants.wants) c.deref-2.ensures.value c.in_ok-wants.ensures)
    (paths_in (g.T.Paths.shown c.args.tree.now)) (ap paths_in (sym is)) c.args.faults.now.items c.add_missing.new.faults.items c.add_fetch_unlisted.new.faults.items c.read_files.new.faults.items _
    (subst (λ (ls : List Listing). Adds c.args.faults.now.items c.add_missing.new.faults.items (IsMissing (paths_in (g.T.Paths.shown c.args.tree.now)) ls)) c.deref.ensures.value c.in_ok-add_missing.ensures)
    (c.in_ok-add_fetch_unlisted.ensures bag version_is are) read.1 (c.in_ok-add_wrong_oxum.ensures bag are read.0)

pub returns-clause-some : goal.returns-clause-some
returns-clause-some g c = λ known knows only algs say.
    let shown = g.T.Paths.shown c.args.tree.now in
    let texts = c.args.texts.now in
    let wants = c.in_ok-wants.wants in
    let listings : wants.manifests.now ≡ texts.manifests.items = c.in_ok-wants.ensures.manifests ∙ c.deref-2.ensures.value in
    let one = bag_by shown known in
    let listed = keeps_listed shown c.args.kept.now one.0 one.1.files texts (say one.0 one.1).1 only algs in
    let some = c.in_ok-size.ensures.some known knows (subst (λ (ls : List Listing). KeepsListed shown ls c.args.kept.now) (sym listings) listed) in (
      some.0,
      some.1,
      λ bag is.
          let said = say bag (less_known some.1 is) in
          let read = some.2 bag is in
          files_added bag c.args.version texts c.fetch_lines.result.now c.fetch_lines.ensures wants said.0 said.1 (subst (λ (ls : List Listing). AreRequirementsOf c.args.version ls c.fetch_lines.result.now wants) c.deref-2.ensures.value c.in_ok-wants.ensures)
          (paths_in shown) (own_paths bag is.files) c.args.faults.now.items c.add_missing.new.faults.items c.add_fetch_unlisted.new.faults.items c.read_files.new.faults.items _
          (subst (λ (ls : List Listing). Adds c.args.faults.now.items c.add_missing.new.faults.items (IsMissing (paths_in shown) ls)) c.deref.ensures.value c.in_ok-add_missing.ensures)
          (c.in_ok-add_fetch_unlisted.ensures bag said.0 said.1) read.1 (c.in_ok-add_wrong_oxum.ensures bag said.1 read.0),
    )

pub returns-clause-limits : goal.returns-clause-limits
returns-clause-limits g c = λ bag is are.
    let texts = c.args.texts.now in
    let listings : c.in_ok-wants.wants.manifests.now ≡ texts.manifests.items = c.in_ok-wants.ensures.manifests ∙ c.deref-2.ensures.value in
    let none = subst (λ (ls : List Listing). NoneStops bag (IsLongRead ls)) listings (c.in_ok-size.ensures.limits bag is) in
    none_stops bag texts are none
