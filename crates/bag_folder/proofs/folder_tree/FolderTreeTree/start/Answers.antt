use Rattle.std.proofs.Common.{◌≡◌, ◌∙◌, ◌<◌, ℕ, List, Option, Result, Ok, Err, ap, ap₂, length, refl, sym, subst, rules, string_bytes}
use Rattle.std.specs.Prelude.{IfErr, IsErr, IsSomeAnd, OnOk, OnSome}
use Rattle.std.proofs.lemmas.Option.{slice_get_read}
use Rattle.bag_rules.specs.Trees.{paths_in}
use Rattle.bag_folder.specs.Directories.{name_below}
use Rattle.std.specs.List.{slice_get}
use Rattle.bag_folder.specs.Folders.{FolderShown, left_open, octets_below, path_below}
use Rattle.bag_folder.specs.DiskNames.{octets_under}
use Rattle.std.specs.Option.{option_map}
use Rattle.bag_folder.specs.declared.fault.Cause.{Cause}
use Rattle.bag_folder.proofs.FaultLemmas.{OnSome-weaker, told_by_name}
use Rattle.bag_folder.proofs.Listings.{found_at, octets_seen, paths_seen}
use Rattle.bag_folder.proofs.folder_tree.FolderTreeTree.start.Goals as goal
use Rattle.bag_folder.proofs.folder_tree.FolderTreeTree.start.Goals.{in-Ok, in-Err}
use Rattle.bag_rules.proofs.KeptLemmas.{on_ok_of}
use Rattle.std.proofs.lemmas.Bool.{false≢true}

no_ok : {A E : Type 0} (result : Result A E) (P : Type 0) → IsErr result → OnOk result P
no_ok (Ok value) P never = absurd (false≢true never)
no_ok (Err error) P failed = tt

pub returns-clause-started : goal.returns-clause-started
unfolding octets_below
returns-clause-started g c =
    let inside = c.self.inside in
    let paths = inside.paths.items in
    let path = c.index.result.now in
    let known = g.R.Names.standing inside.rt in
    let octets = octets_below known (string_bytes inside.folder) inside.root in
    let is = ap (λ (tree : FolderShown). tree.shown) c.self.view_is in
    let seen = paths_seen octets c.args.self.now paths inside.has_dir is in
    let at = slice_get_read paths (length paths) c.args.i path refl
    (subst (λ (others : List (List ℕ)). c.args.i < length others) seen c.requires)
    c.index.ensures in
    let shown = octets_seen octets c.args.self.now paths inside.has_dir c.args.i path is at in
    let below : c.path_below-path.result.now ≡ path_below inside.root path =
    c.path_below-path.ensures ∙ ap (path_below inside.root) c.as_str.ensures.text in
    elim c.match-opened.branch [
      | in-Ok w ↦
          let left : left_open (option_map g.R.Reader.Read.remaining c.match-opened.self-inside.file)
          ≡ g.R.Reader.Read.remaining w.in-Ok.file = search rules in
          on_ok_of c.counted.result _ (left ∙ w.in-Ok.ensures.unread
          ∙ ap₂ (λ (folder : List ℕ) (name : List ℕ). octets_under known (name_below folder name))
          c.as_str-2.ensures.value below ∙ sym shown)
      | in-Err w ↦ no_ok c.counted.result _ (search rules)
    ]

pub returns-clause-exactly : goal.returns-clause-exactly
returns-clause-exactly g c =
    let seen = paths_seen _ c.args.self.now c.self.inside.paths.items c.self.inside.has_dir (ap (λ (tree : FolderShown). tree.shown) c.self.view_is) in
    let at = slice_get_read c.self.inside.paths.items (length c.self.inside.paths.items) c.args.i c.index.result.now refl (subst (λ (paths : List (List ℕ)). c.args.i < length paths) seen c.requires) c.index.ensures in
    let IsNamed = λ (name : List ℕ). IsSomeAnd (slice_get (paths_in c.args.self.now.shown) c.args.i) (λ path. name ≡ name_below c.args.self.now.folder (path_below c.args.self.now.root path)) in
    let spelled = name_below c.args.self.now.folder (path_below c.args.self.now.root c.index.result.now) in
    let here : IsNamed spelled = found_at c.self.inside.paths.items (paths_in c.args.self.now.shown) c.args.i c.index.result.now seen at (λ path. spelled ≡ name_below c.args.self.now.folder (path_below c.args.self.now.root path)) refl in
    elim c.match-opened.branch [
      | in-Ok w ↦
          let named : string_bytes c.match-opened.self-inside.name ≡ spelled = search rules in
          record {
            named = on_ok_of c.counted.result _ (subst IsNamed (sym named) here);
            changes = search rules;
            told = told_by_name c.match-opened.answer c.counted.result c.as_str-3.result.now c.match-opened.self-inside.troubles c.counted.new.self IsNamed c.counted.ensures.answer c.counted.ensures.counted
                (subst (λ (a : Result (Unit {0}) (Option Cause)). IfErr a (λ cause. OnSome cause (IsNamed c.as_str-3.result.now))) (sym w.answer-is) tt);
          }
      | in-Err w ↦
          let named : (string_bytes c.opened.new.name ≡ name_below c.as_str-2.result.now c.path_below-path.result.now) → c.as_str-3.result.now ≡ spelled = λ opened. (search rules) in
          record {
            named = no_ok c.counted.result _ (search rules);
            changes = search rules;
            told = told_by_name c.match-opened.answer c.counted.result c.as_str-3.result.now c.match-opened.self-inside.troubles c.counted.new.self IsNamed c.counted.ensures.answer c.counted.ensures.counted
                (subst (λ (a : Result (Unit {0}) (Option Cause)). IfErr a (λ cause. OnSome cause (IsNamed c.as_str-3.result.now))) (sym w.answer-is)
                (OnSome-weaker w.in-Err.cause (string_bytes c.opened.new.name ≡ name_below c.as_str-2.result.now c.path_below-path.result.now) (IsNamed c.as_str-3.result.now) (λ opened. subst IsNamed (sym (named opened)) here) w.in-Err.ensures.named));
          }
    ]
