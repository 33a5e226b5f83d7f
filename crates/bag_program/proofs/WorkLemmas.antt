-- What happens to folders that aren't opened, and to one that was made for a bag.
use Rattle.std.proofs.Common.{◌≡◌, ◌≢◌, ◌∙◌, ◌∷◌, ◌++◌, ◌+◌, ◌<◌, ℕ, Bool, List, [], None, Option, Some, ap, arith, get_or, inl, inr, length, map, nat_lt, not, refl, subst, suc, sym, take, zero}
use Rattle.std.proofs.lemmas.List.{map-append}
use Rattle.std.proofs.lemmas.Grind.{common_steps}
use Rattle.std.specs.List.{list_any}
use Rattle.std.specs.Option.{option_or}
use Rattle.bag_path.specs.Paths.{is_payload}
use Rattle.bag_receiver.specs.declared.run.TheConstants.{MOST_DELIVERIES}
use Rattle.bag_rules.specs.Trees.{paths_in}
use Rattle.bag_writer.specs.Writing.{payload_paths}
use Rattle.bag_commands.specs.declared.output.Output.{Output}
use Rattle.bag_commands.specs.declared.status.TheConstants.{DONE, FAILED}
use Rattle.bag_commands.specs.Intakes.{TakesIn}
use Rattle.bag_commands.specs.IntakeTexts.{Told}
use Rattle.bag_commands.specs.Outputs.{Printed}
use Rattle.bag_commands.specs.NoResultTexts.{no_result_text}
use Rattle.bag_folder.specs.declared.fault.OpenFault.{OpenFault}
use Rattle.bag_folder.specs.declared.fault.OpenFault.TheVariants as open_fault
use Rattle.bag_folder.specs.declared.root.Root.TheVariants.{Base}
use Rattle.bag_folder.specs.Bringing.{Bringing, courier_of}
use Rattle.bag_folder.specs.Faults.{IfUnfit}
use Rattle.bag_folder.specs.Folders.{DiskShown, FolderShown, IsOpened, IsRefused}
use Rattle.bag_folder.specs.Unfits.{UnfitShown}
use Rattle.bag_program.specs.declared.explanation.Ended.{Ended}
use Rattle.bag_program.specs.Endings.{first_name, name_if, name_if_crowded, name_if_empty, why_unopened}
use Rattle.bag_program.specs.NoResults.{no_result_of_open}
use Rattle.bag_program.specs.Making.{kept_folder}
use Rattle.bag_program.specs.Working.{AreOpened, NoMemory, OneRefused, OutOfMemory, Refused, FirstIsRefused, WithFolder, WithFolders}

module _ {W : Type 0} (contents : W → Option (List ℕ)) (known : DiskShown) (untouched : Type 0) (old new : Output W) (result : Ended) where
  pub not_opened : (folder : List ℕ) (does : FolderShown → FolderShown → Type 0) (fault : OpenFault) → IfUnfit fault (IsRefused known folder Base) → untouched
      → Printed contents old new result.status (no_result_text (no_result_of_open fault) ∷ []) FAILED → result.why ≡ why_unopened fault → WithFolder contents known folder untouched does old new result
  not_opened folder does (open_fault.Files unfit) refused same printed why = Refused unfit refused same printed why
  not_opened folder does open_fault.Memory refused same printed why = NoMemory same printed why

  pub none_opened : (folders : List (List ℕ)) (does : List FolderShown → Type 0) (fault : OpenFault) → IfUnfit fault (FirstIsRefused known folders) → untouched
      → Printed contents old new result.status (no_result_text (no_result_of_open fault) ∷ []) FAILED → result.why ≡ why_unopened fault → WithFolders contents known folders untouched does old new result
  none_opened folders does (open_fault.Files unfit) refused same printed why = OneRefused unfit refused same printed why
  none_opened folders does open_fault.Memory refused same printed why = OutOfMemory same printed why

pub given_up : (folder : List ℕ) (status : ℕ) (now given : Option (List ℕ)) → now ≡ given → given ≡ None → status ≢ DONE → now ≡ kept_folder folder status
given_up folder status now given is none other = let left : None ≡ kept_folder folder status = grind (arith, common_steps) in is ∙ none ∙ left

pub kept : (folder : List ℕ) (status : ℕ) (now made : Option (List ℕ)) → now ≡ made → made ≡ Some folder → status ≡ DONE → now ≡ kept_folder folder status
kept folder status now made is some done = let left : Some folder ≡ kept_folder folder status = grind (arith, common_steps) in is ∙ some ∙ left

-- FOLDERS OPENED IN SEQUENCE

module _ {X : Type 0} (octets : X → List ℕ) (known : DiskShown) where
  pub opened_more : (folders : List X) (i : ℕ) (folder : X) (text : List ℕ) (trees : List FolderShown) (tree : FolderShown) → i < length folders → folder ≡ get_or folders i folder → text ≡ octets folder
      → AreOpened known (map octets (take i folders)) trees → IsOpened known text Base tree → AreOpened known (map octets (take (i + 1) folders)) (trees ++ tree ∷ [])
  opened_more [] i folder text trees tree inside item is opened this = absurd (omega (arith, inside))
  opened_more (f ∷ fs) zero folder text [] tree inside item is opened this =
      let same : text ≡ octets f = is ∙ ap octets item in
      (subst (λ (t : List ℕ). IsOpened known t Base tree) same this, tt)
  opened_more (f ∷ fs) zero folder text (t ∷ ts) tree inside item is opened this = absurd opened
  opened_more (f ∷ fs) (suc i) folder text [] tree inside item is opened this = absurd opened
  opened_more (f ∷ fs) (suc i) folder text (t ∷ ts) tree inside item is opened this =
      let s : suc i + 1 ≡ suc (i + 1) = omega arith in
      rw s (opened.0, opened_more fs i folder text ts tree (omega (arith, inside)) item is opened.1 this)

  -- the folder at this place is refused, and those before it are opened
  refused_at : (folders : List X) (i : ℕ) (folder : X) (text : List ℕ) (trees : List FolderShown) (unfit : UnfitShown) → i < length folders → folder ≡ get_or folders i folder → text ≡ octets folder
      → AreOpened known (map octets (take i folders)) trees → IsRefused known text Base unfit → FirstIsRefused known (map octets folders) unfit
  refused_at [] i folder text trees unfit inside item is opened this = absurd (omega (arith, inside))
  refused_at (f ∷ fs) zero folder text trees unfit inside item is opened this =
      let same : text ≡ octets f = is ∙ ap octets item in inl (subst (λ (t : List ℕ). IsRefused known t Base unfit) same this)
  refused_at (f ∷ fs) (suc i) folder text [] unfit inside item is opened this = absurd opened
  refused_at (f ∷ fs) (suc i) folder text (t ∷ ts) unfit inside item is opened this =
      inr (t, opened.0, refused_at fs i folder text ts unfit (omega (arith, inside)) item is opened.1 this)

  pub first_refused : (folders : List X) (i : ℕ) (folder : X) (text : List ℕ) (trees : List FolderShown) (fault : OpenFault) → i < length folders → folder ≡ get_or folders i folder → text ≡ octets folder
      → AreOpened known (map octets (take i folders)) trees → IfUnfit fault (IsRefused known text Base) → IfUnfit fault (FirstIsRefused known (map octets folders))
  first_refused folders i folder text trees (open_fault.Files unfit) inside item is opened this = refused_at folders i folder text trees unfit inside item is opened this
  first_refused folders i folder text trees open_fault.Memory inside item is opened this = this

pub couriers_more : (couriers : List (Bringing FolderShown)) (trees : List FolderShown) (tree : FolderShown) → couriers ≡ map courier_of trees → couriers ++ courier_of tree ∷ [] ≡ map courier_of (trees ++ tree ∷ [])
couriers_more couriers trees tree is = ap (λ (cs : List (Bringing FolderShown)). cs ++ courier_of tree ∷ []) is ∙ sym (map-append courier_of trees (tree ∷ []))

-- the first name of several folders, once there is one more
first_none : (name : Option (List ℕ)) → option_or name None ≡ name
first_none None = refl
first_none (Some name) = refl

first_of_three : (a b c : Option (List ℕ)) → option_or a (option_or b c) ≡ option_or (option_or a b) c
first_of_three None b c = refl
first_of_three (Some name) b c = refl

module _ (named : FolderShown → Option (List ℕ)) where
  name_more : (trees : List FolderShown) (tree : FolderShown) → first_name named (trees ++ tree ∷ []) ≡ option_or (first_name named trees) (named tree)
  name_more [] tree = first_none (named tree)
  name_more (t ∷ ts) tree = ap (option_or (named t)) (name_more ts tree) ∙ first_of_three (named t) (first_name named ts) (named tree)

  -- the name that was told already, or that of the next folder
  first_so : (was : Option (List ℕ)) (trees : List FolderShown) (tree : FolderShown) → was ≡ first_name named trees → option_or was (named tree) ≡ first_name named (trees ++ tree ∷ [])
  first_so was trees tree is = ap (λ first. option_or first (named tree)) is ∙ sym (name_more trees tree)

module _ (was : Option (List ℕ)) (trees : List FolderShown) (tree : FolderShown) (name : List ℕ) (is : name ≡ tree.folder) where
  pub crowded_so : (count : ℕ) → count ≡ length (payload_paths tree.shown) → was ≡ first_name name_if_crowded trees
      → option_or was (name_if (nat_lt MOST_DELIVERIES count) name) ≡ first_name name_if_crowded (trees ++ tree ∷ [])
  crowded_so count counted before = rw (counted, is) (first_so name_if_crowded was trees tree before)

  pub empty_so : (has_payload : Bool) → has_payload ≡ list_any is_payload (paths_in tree.shown) → was ≡ first_name name_if_empty trees
      → option_or was (name_if (not has_payload) name) ≡ first_name name_if_empty (trees ++ tree ∷ [])
  empty_so has_payload known before = rw (known, is) (first_so name_if_empty was trees tree before)

pub taken_from : {R C : Type 0} (runs : R → R → C → C → Told → Type 0) (before now laters : List C) (told : List Told) (old new : R) → before ≡ now → TakesIn runs before laters told old new → TakesIn runs now laters told old new
taken_from runs before now laters told old new is takes = subst (λ couriers. TakesIn runs couriers laters told old new) is takes
