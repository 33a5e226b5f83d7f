-- What is known of a file that a folder opens or gives out.
use Rattle.std.proofs.Common.{◌≡◌, ◌∙◌, ℕ, Bool, List, None, Option, Some, Result, Ok, Err, ap, refl, subst, sym}
use Rattle.std.specs.Prelude.{IfNone, IfOk, IfSome, IsSomeAnd, MatchResult}
use Rattle.std.specs.List.{slice_get}
use Rattle.bag_rules.specs.Trees.{paths_in}
use Rattle.std.specs.declared.io.Error.{Error}
use Rattle.bag_folder.specs.declared.fault.Cause.{Cause}
use Rattle.bag_folder.specs.Directories.{name_below}
use Rattle.bag_folder.specs.Unfits.{HasCause, IsCauseOf}
use Rattle.bag_folder.specs.Folders.{FolderShown, octets_below, path_below, shown_by}
use Rattle.bag_folder.specs.DiskNames.{Standing, content, octets_of, octets_under}
use Rattle.bag_folder.specs.OpenFiles.{FileShown, IsFileAt, IsGivenOut, OpensFile}
use Rattle.bag_folder.proofs.Listings.{found_at, octets_seen, paths_seen}

-- a file that was opened will give the octets that stand under its name
pub opened_unread : {File : Type 0} (left : File → Option (List ℕ)) (known : Option Standing)
    (name at : List ℕ) (answer : Result File Error) (result : Result File (Option Cause))
    → name ≡ at
    → IfSome known (λ standing. MatchResult answer (λ file. content standing name ≡ Ok (left file))
    (λ error. content standing name ≡ Err error))
    → IfNone known (IfOk answer (λ file. left file ≡ None))
    → HasCause answer result
    → IfOk result (λ file. left file ≡ octets_under known at)
opened_unread {File} left known name at (Ok file) result is opens unknown same =
    subst (λ (r : Result File (Option Cause)). IfOk r (λ f. left f ≡ octets_under known at))
    (sym same) (subst (λ (n : List ℕ). left file ≡ octets_under known n) is
    (go known opens unknown)) where
      go : (o : Option Standing) → IfSome o (λ standing. content standing name ≡ Ok (left file))
          → IfNone o (left file ≡ None) → left file ≡ octets_under o name
      go None here none = none
      go (Some standing) here none =
          sym (ap (λ (r : Result (Option (List ℕ)) Error). octets_of r) here)
opened_unread {File} left known name at (Err error) result is opens unknown same =
    subst (λ (r : Result File (Option Cause)). IfOk r (λ f. left f ≡ octets_under known at))
    (sym same.2) tt

-- and so does one that stands at a place of a tree, or it can't be opened
pub unread_at : (known : Option Standing) (name : List ℕ) (why : Cause)
    → IfSome known (λ standing. (error : Error) × (content standing name ≡ Err error)
    × IsCauseOf error why)
    → None ≡ octets_under known name
unread_at None name why shut = refl
unread_at (Some standing) name why shut =
    sym (ap (λ (r : Result (Option (List ℕ)) Error). octets_of r) shut.1)

-- the same file, whose folder and name are given in other words
pub file_so : {E : Type 0} (known now : Option Standing) (name at : List ℕ) (i : ℕ)
    (result : Result FileShown E) → known ≡ now → name ≡ at
    → IfOk result (IsFileAt known name i) → IfOk result (IsFileAt now at i)
file_so known now name at i result same is here =
    subst (λ (k : Option Standing). IfOk result (IsFileAt k at i)) same
    (subst (λ (n : List ℕ). IfOk result (IsFileAt known n i)) is here)

-- the file that was opened is the one at its place
pub opens_file : {E : Type 0} (tree : FolderShown) (paths : List (List ℕ)) (i : ℕ) (path : List ℕ)
    (result : Result FileShown E) → paths_in tree.shown ≡ paths → slice_get paths i ≡ Some path
    → IfOk result
    (IsFileAt tree.standing (name_below tree.folder (path_below tree.root path)) i)
    → IfOk result (OpensFile tree i)
opens_file tree paths i path (Ok file) seen at here =
    found_at paths (paths_in tree.shown) i path seen at
    (λ p. IsFileAt tree.standing (name_below tree.folder (path_below tree.root p)) i file) here
opens_file tree paths i path (Err error) seen at here = tt

-- and it will give what the tree shows of it
pub given_out : (tree : FolderShown) (paths : List (List ℕ)) (has_dir : Bool) (i : ℕ)
    (file : FileShown)
    → shown_by (octets_below tree.standing tree.folder tree.root) paths has_dir ≡ tree.shown
    → OpensFile tree i file → IsGivenOut tree.shown i file
unfolding octets_below
given_out tree paths has_dir i file is opens =
    go (slice_get (paths_in tree.shown) i) refl opens where
      go : (found : Option (List ℕ)) → slice_get (paths_in tree.shown) i ≡ found → IsSomeAnd found
          (λ path. IsFileAt tree.standing (name_below tree.folder (path_below tree.root path)) i file)
          → IsGivenOut tree.shown i file
      go None at never = absurd never
      go (Some path) at here =
          let known = octets_below tree.standing tree.folder tree.root in
          let there : slice_get paths i ≡ Some path =
          ap (λ (xs : List (List ℕ)). slice_get xs i) (sym (paths_seen known tree paths has_dir is))
          ∙ at in
          record {
            placed = here.placed;
            unread = here.unread ∙ sym (octets_seen known tree paths has_dir i path is there);
            unfailed = here.unfailed;
            is_ready = λ never. never;
          }
