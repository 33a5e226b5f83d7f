-- What is made under names, and what is met on the way to them.
use Rattle.std.proofs.Common.{◌≡◌, ◌∙◌, ◌++◌, ◌≢◌, ◌⊎◌, ◌+◌, ◌<◌, ℕ, List, [], None, Option, Some, Result, Ok, Err, inl, inr, ap, ap₂, append_assoc, arith, codes, drop, get_or, length, subst, sym, take, take-append-drop}
use Rattle.std.proofs.lemmas.List.Elements.{All-from_get_or}
use Rattle.std.proofs.lemmas.List.{length-append}
use Rattle.std.proofs.lemmas.Str.{encode_ascii}
use Rattle.std.proofs.lemmas.Str.Pattern.{NoCharPasses-char}
use Rattle.std.proofs.Math.Seq.{get_or-append_seam}
use Rattle.std.specs.Prelude.{◌==◌, IfSome, IsErr, MatchResult, OnOk}
use Rattle.std.specs.Str.{NoCharPasses}
use Rattle.std.specs.Str.Pattern.{RFindsChar, SplitsAroundMatch}
use Rattle.bag_folder.specs.declared.entry_kind.EntryKind.{EntryKind}
use Rattle.bag_folder.specs.declared.entry_kind.EntryKind.TheVariants.{File, Directory}
use Rattle.bag_folder.specs.Directories.{name_below}
use Rattle.bag_folder.specs.DiskNames.{Changes, Grows, IsDirectoryOf, IsFileMade, IsFolder, IsFolderIn, IsMade, IsOnTheWay, IsVacant, IsWay, LeadsTo, MakesFile, MakesOne, MakesParents, MakesWay, Standing}
use Rattle.std.proofs.lemmas.Bool.{false≢true}

-- WHAT IS KNOWN

pub if_known : {A : Type 0} (o : Option A) (P Q : A → Type 0) → IfSome o P → ((a : A) → P a → Q a)
    → IfSome o Q
if_known None P Q p f = tt
if_known (Some a) P Q p f = f a p

pub if_both : {A : Type 0} (o : Option A) (P Q R : A → Type 0) → IfSome o P → IfSome o Q
    → ((a : A) → P a → Q a → R a) → IfSome o R
if_both None P Q R p q f = tt
if_both (Some a) P Q R p q f = f a p q

pub if_always : {A : Type 0} (o : Option A) (P : A → Type 0) → ((a : A) → P a) → IfSome o P
if_always None P f = tt
if_always (Some a) P f = f a

pub changes_same : (P : Standing → Standing → Type 0) (o : Option Standing)
    → ((s : Standing) → P s s) → Changes P o o
changes_same P None f = tt
changes_same P (Some s) f = f s

pub changes_more : (P Q : Standing → Standing → Type 0) (a b : Option Standing) → Changes P a b
    → ((s t : Standing) → P s t → Q s t) → Changes Q a b
changes_more P Q None None h f = tt
changes_more P Q None (Some t) h f = h
changes_more P Q (Some s) None h f = h
changes_more P Q (Some s) (Some t) h f = f s t h

pub changes_on : (P Q R : Standing → Standing → Type 0) (a b c : Option Standing) → Changes P a b
    → Changes Q b c
    → ((s t u : Standing) → P s t → Q t u → R s u) → Changes R a c
changes_on P Q R None None None p q f = tt
changes_on P Q R None None (Some u) p q f = q
changes_on P Q R None (Some t) c p q f = absurd p
changes_on P Q R (Some s) None c p q f = absurd p
changes_on P Q R (Some s) (Some t) None p q f = q
changes_on P Q R (Some s) (Some t) (Some u) p q f = f s t u p q

-- what is known before and afterwards
pub changes_known : (P Q : Standing → Standing → Type 0) (K : Standing → Type 0)
    (a b : Option Standing) → IfSome a K → Changes P a b
    → ((s t : Standing) → K s → P s t → Q s t) → Changes Q a b
changes_known P Q K None None k p f = tt
changes_known P Q K None (Some t) k p f = p
changes_known P Q K (Some s) None k p f = p
changes_known P Q K (Some s) (Some t) k p f = f s t k p

pub known_on : (P : Standing → Standing → Type 0) (K L : Standing → Type 0) (a b : Option Standing)
    → IfSome a K → Changes P a b
    → ((s t : Standing) → K s → P s t → L t) → IfSome b L
known_on P K L None None k p f = tt
known_on P K L None (Some t) k p f = absurd p
known_on P K L (Some s) None k p f = tt
known_on P K L (Some s) (Some t) k p f = f s t k p

-- WHAT GROWS

pub grows_itself : (May : List ℕ → EntryKind → Type 0) (s : Standing) → Grows May s s
grows_itself May s = record {
  stands = λ name kind is. is;
  leads = λ name kind is. is;
  gives = λ name octets is. is;
  made = λ name kind is. inl is;
}

pub grows_more : (May Might : List ℕ → EntryKind → Type 0) (s t : Standing)
    → ((name : List ℕ) (kind : EntryKind) → May name kind → Might name kind) → Grows May s t
    → Grows Might s t
grows_more May Might s t more grows = record {
  stands = grows.stands;
  leads = grows.leads;
  gives = grows.gives;
  made = λ name kind is. elim (grows.made name kind is)
      [ inl was ↦ inl was | inr may ↦ inr (more name kind may) ];
}

pub grows_on : (May : List ℕ → EntryKind → Type 0) (s t u : Standing) → Grows May s t
    → Grows May t u → Grows May s u
grows_on May s t u first then = record {
  stands = λ name kind is. then.stands name kind (first.stands name kind is);
  leads = λ name kind is. then.leads name kind (first.leads name kind is);
  gives = λ name octets is. then.gives name octets (first.gives name octets is);
  made = λ name kind is. elim (then.made name kind is)
      [ inl was ↦ first.made name kind was | inr may ↦ inr may ];
}

-- what stands nowhere afterwards did not stand there before
pub vacant_before : (May : List ℕ → EntryKind → Type 0) (s t : Standing) (name : List ℕ)
    → Grows May s t → IsVacant t name → IsVacant s name
vacant_before May s t name grows vacant = λ kind was. vacant kind (grows.stands name kind was)

pub folder_stays : (May : List ℕ → EntryKind → Type 0) (s t : Standing) (directory : List ℕ)
    → IsFolder s directory → Grows May s t → IsFolder t directory
folder_stays May s t directory was grows = λ named. grows.leads directory Directory (was named)

-- THE WAY

pub leads_on : (front middle path : List ℕ) → LeadsTo front middle → LeadsTo middle path
    → LeadsTo front path
leads_on front middle path first then =
    (first.0 ++ codes "/" ++ then.0, grind (arith, append_assoc))

pub way_to_file : (directory name it : List ℕ) (what : EntryKind) → LeadsTo directory name
    → IsOnTheWay it directory × (what ≡ Directory) → IsWay name it what
way_to_file directory name it what leads way = elim way.0 [
  | inl is ↦ (subst (λ (d : List ℕ). LeadsTo d name) (sym is) leads, way.1)
  | inr on ↦ (leads_on it directory name on leads, way.1)
]

inside_of : {A E : Type 0} (directory name : List ℕ) (result : Result A E) (t : Standing)
    → IsDirectoryOf directory name → OnOk result (IsFolder t directory)
    → OnOk result ((d : List ℕ) × IsDirectoryOf d name × IsFolder t d)
inside_of directory name (Ok value) t is folder = (directory, is, folder)
inside_of directory name (Err error) t is folder = tt

-- what making the directory of a file makes
pub parents_made : {A B E F : Type 0} (directory name : List ℕ) (made : Result A E)
    (result : Result B F) (s t : Standing)
    → IsDirectoryOf directory name → MakesWay directory made s t
    → OnOk result (IsFolder t directory) → MakesParents name result s t
parents_made directory name made result s t is way folder = record {
  inside = inside_of directory name result t is folder;
  grows = grows_more _ (IsWay name) s t (λ it what. way_to_file directory name it what (is.0, is.1))
      way.grows;
}

-- a file that was made after its directory
pub file_made : (name : List ℕ) (s t u : Standing)
    → (directory : List ℕ) × IsDirectoryOf directory name × IsFolder t directory
    → Grows (IsWay name) s t
    → IsMade File name t u → IsFileMade name s u
file_made name s t u inside way made =
    let May =
    λ (it : List ℕ) (what : EntryKind). IsWay name it what ⊎ (it ≡ name) × (what ≡ File) in
    let later : Grows May t u = grows_more _ May t u (λ it what is. inr is) made.grows in
    record {
      vacant = vacant_before (IsWay name) s t name way made.vacant;
      stands = made.stands;
      inside = (inside.0, inside.1, folder_stays May t u inside.0 inside.2 later);
      grows = grows_on May s t u (grows_more (IsWay name) May s t (λ it what is. inl is) way) later;
    }

-- a name below another is longer, and has a slash after it
pub longer : (front name rest : List ℕ) → name ≡ name_below front rest → length front < length name
longer front name rest is =
    let whole : length name ≡ length front + length (codes "/" ++ rest) =
    ap length is ∙ length-append front (codes "/" ++ rest) in
    let one : length (codes "/" ++ rest) ≡ 1 + length rest = length-append (codes "/") rest in
    omega arith

pub slash_there : (front name rest : List ℕ) → name ≡ name_below front rest
    → get_or name (length front) 0 ≡ 47
slash_there front name rest is =
    ap (λ (xs : List ℕ). get_or xs (length front) 0) is ∙ get_or-append_seam front 47 rest 0

pub slash_is_found : (name : List ℕ) → (front : List ℕ) × LeadsTo front name
    → NoCharPasses (λ d. d == 47) name → ⊥
slash_is_found name leads none =
    NoCharPasses-char 47 name (length leads.0) none (omega arith)
    (longer leads.0 name leads.1.0 leads.1.1) (slash_there leads.0 name leads.1.0 leads.1.1)

pub last_slash : (name front back : List ℕ) → SplitsAroundMatch (RFindsChar 47) name front back
    → IsDirectoryOf front name
last_slash name front back split =
    let i = split.0 in
    let whole : name ≡ take i name ++ drop i name = sym (take-append-drop i name) in
    let cut : take i name ++ drop i name ≡ take i name ++ (codes "/" ++ drop split.1 name) =
    ap (λ (xs : List ℕ). take i name ++ xs)
    (split.2.1.split ∙ ap (λ (c : List ℕ). c ++ drop split.1 name)
    (encode_ascii 47 (omega arith))) in
    let parts = ap₂ (λ (f b : List ℕ). f ++ (codes "/" ++ b)) (sym split.3) (sym split.4) in
    let none = subst (NoCharPasses (λ d. d == 47)) (sym split.4) split.2.0 in (
      back,
      whole ∙ cut ∙ parts,
      All-from_get_or (λ octet. octet ≢ 47) back 0
          (λ k inside. NoCharPasses-char 47 back k none (omega arith) inside),
    )

-- WHAT CALLS MAKE, IN TURN

pub nothing_made : (A E : Type 0) (name : List ℕ) (error : E) (o : Option Standing)
    → Changes (MakesFile {A = A} name (Err error)) o o
nothing_made A E name error o =
    changes_same (MakesFile {A = A} name (Err error)) o (λ s. grows_itself (IsWay name) s)

pub no_way_made : (A E : Type 0) (name : List ℕ) (error : E) (o : Option Standing)
    → Changes (MakesWay {A = A} name (Err error)) o o
no_way_made A E name error o =
    changes_same (MakesWay {A = A} name (Err error)) o
    (λ s. record { leads = tt; grows = grows_itself _ s })

pub parents_alone : {A E F : Type 0} (B : Type 0) (name : List ℕ) (made : Result A E) (error : F)
    (a b : Option Standing) → Changes (MakesParents name made) a b
    → Changes (MakesFile {A = B} name (Err error)) a b
parents_alone B name made error a b parents =
    changes_more (MakesParents name made) (MakesFile {A = B} name (Err error)) a b parents
    (λ s t way. way.grows)

pub file_refused : {A E F G : Type 0} (B C : Type 0) (name : List ℕ) (made : Result A E) (error : F)
    (fault : G) (a b c : Option Standing) → Changes (MakesParents name made) a b
    → Changes (MakesOne {A = B} File name (Err error)) b c
    → Changes (MakesFile {A = C} name (Err fault)) a c
file_refused B C name made error fault a b c parents refused =
    changes_on (MakesParents name made) (MakesOne {A = B} File name (Err error))
    (MakesFile {A = C} name (Err fault)) a b c parents refused
    (λ s t u way same. subst (λ (it : Standing). Grows (IsWay name) s it) (sym same) way.grows)

pub file_done : {A B C : Type 0} (E F G : Type 0) (name : List ℕ) (made : A) (file : B) (answer : C)
    (a b c : Option Standing) → Changes (MakesParents {E = E} name (Ok made)) a b
    → Changes (MakesOne {E = F} File name (Ok file)) b c
    → Changes (MakesFile {E = G} name (Ok answer)) a c
file_done E F G name made file answer a b c parents done =
    changes_on (MakesParents {E = E} name (Ok made)) (MakesOne {E = F} File name (Ok file))
    (MakesFile {E = G} name (Ok answer)) a b c parents done
    (λ s t u way is. file_made name s t u way.inside way.grows is)

one_keeps : {A E : Type 0} (kind : EntryKind) (name directory : List ℕ) (result : Result A E)
    (s t : Standing) → IsFolder s directory → MakesOne kind name result s t → IsFolder t directory
one_keeps kind name directory (Ok value) s t was made = folder_stays _ s t directory was made.grows
one_keeps kind name directory (Err error) s t was same =
    subst (λ (it : Standing). IsFolder it directory) (sym same) was

pub folder_kept : {A E : Type 0} (kind : EntryKind) (name directory : List ℕ) (result : Result A E)
    (a b : Option Standing) → IsFolderIn a directory
    → Changes (MakesOne kind name result) a b → IsFolderIn b directory
folder_kept kind name directory result a b was makes =
    known_on (MakesOne kind name result) (λ s. IsFolder s directory) (λ s. IsFolder s directory) a b
    was makes (one_keeps kind name directory result)

pub folder_kept_way : {A E : Type 0} (name directory : List ℕ) (result : Result A E)
    (a b : Option Standing) → IsFolderIn a directory
    → Changes (MakesWay name result) a b → IsFolderIn b directory
folder_kept_way name directory result a b was makes =
    known_on (MakesWay name result) (λ s. IsFolder s directory) (λ s. IsFolder s directory) a b was
    makes (λ s t was way. folder_stays _ s t directory was way.grows)

-- a directory that has just been made
pub folder_made : {A : Type 0} (E : Type 0) (directory : List ℕ) (made : A) (a b : Option Standing)
    → Changes (MakesWay {E = E} directory (Ok made)) a b → IsFolderIn b directory
folder_made E directory made None None makes = tt
folder_made E directory made None (Some t) makes = absurd makes
folder_made E directory made (Some s) None makes = tt
folder_made E directory made (Some s) (Some t) makes = makes.leads

pub no_folder : (o : Option Standing) (directory : List ℕ) → directory ≡ [] → IsFolderIn o directory
no_folder o directory is = if_always o (λ s. IsFolder s directory) (λ s named. absurd (named is))

pub way_refused : {A E F : Type 0} (B : Type 0) (directory name : List ℕ) (made : Result A E)
    (error : F) (a b : Option Standing) → IsDirectoryOf directory name
    → Changes (MakesWay directory made) a b → Changes (MakesParents {A = B} name (Err error)) a b
way_refused B directory name made error a b is makes =
    changes_more (MakesWay directory made) (MakesParents {A = B} name (Err error)) a b makes
    (λ s t way. parents_made {B = B} directory name made (Err error) s t is way tt)

pub way_done : {A B : Type 0} (E F : Type 0) (directory name : List ℕ) (made : A) (answer : B)
    (a b : Option Standing) → IsDirectoryOf directory name
    → Changes (MakesWay {E = E} directory (Ok made)) a b
    → Changes (MakesParents {E = F} name (Ok answer)) a b
way_done E F directory name made answer a b is makes =
    changes_more (MakesWay {E = E} directory (Ok made)) (MakesParents {E = F} name (Ok answer)) a b
    makes (λ s t way. parents_made {E = E} {F = F} directory name (Ok made) (Ok answer) s t is
    way way.leads)

pub way_there : {B : Type 0} (F : Type 0) (directory name : List ℕ) (answer : B)
    (a : Option Standing) → IsDirectoryOf directory name → IsFolderIn a directory
    → Changes (MakesParents {E = F} name (Ok answer)) a a
way_there F directory name answer None is folder = tt
way_there F directory name answer (Some s) is folder =
    record { inside = (directory, is, folder); grows = grows_itself (IsWay name) s }

-- the same, of a call whose failure was counted
pub way_counted : {A E F : Type 0} (name : List ℕ) (answer : Result A E) (result : Result A F)
    (a b : Option Standing)
    → MatchResult answer (λ value. result ≡ Ok value) (λ _. IsErr result)
    → Changes (MakesWay name answer) a b → Changes (MakesWay name result) a b
way_counted {A = A} {E = E} {F = F} name (Ok value) result a b same makes =
    subst (λ (r : Result A F). Changes (MakesWay name r) a b) (sym same)
    (changes_more (MakesWay {E = E} name (Ok value)) (MakesWay {E = F} name (Ok value)) a b makes
    (λ s t way. record { leads = way.leads; grows = way.grows }))
way_counted {A = A} name (Err error) (Ok value) a b failed makes = absurd (false≢true failed)
way_counted {A = A} name (Err error) (Err fault) a b failed makes =
    changes_more (MakesWay {A = A} name (Err error)) (MakesWay {A = A} name (Err fault)) a b makes
    (λ s t way. record { leads = tt; grows = way.grows })

pub file_counted : {A E F : Type 0} (name : List ℕ) (answer : Result A E) (result : Result A F)
    (a b : Option Standing)
    → MatchResult answer (λ value. result ≡ Ok value) (λ _. IsErr result)
    → Changes (MakesFile name answer) a b → Changes (MakesFile name result) a b
file_counted {A = A} {E = E} {F = F} name (Ok value) result a b same makes =
    subst (λ (r : Result A F). Changes (MakesFile name r) a b) (sym same)
    (changes_more (MakesFile {E = E} name (Ok value)) (MakesFile {E = F} name (Ok value)) a b makes
    (λ s t done. done))
file_counted {A = A} name (Err error) (Ok value) a b failed makes =
    absurd (false≢true failed)
file_counted {A = A} name (Err error) (Err fault) a b failed makes =
    changes_more (MakesFile {A = A} name (Err error)) (MakesFile {A = A} name (Err fault)) a b makes
    (λ s t way. way)

-- the same, where names and what is known are given otherwise
pub file_done_at : {A B C : Type 0} (E F G : Type 0) (name n m : List ℕ) (made : A) (file : B)
    (answer : C) (a b c : Option Standing) → n ≡ name → m ≡ name
    → Changes (MakesParents {E = E} n (Ok made)) a b
    → Changes (MakesOne {E = F} File m (Ok file)) b c
    → Changes (MakesFile {E = G} name (Ok answer)) a c
file_done_at E F G name n m made file answer a b c is too parents done =
    file_done E F G name made file answer a b c
    (subst (λ (it : List ℕ). Changes (MakesParents {E = E} it (Ok made)) a b) is parents)
    (subst (λ (it : List ℕ). Changes (MakesOne {E = F} File it (Ok file)) b c) too done)

pub way_counted_at : {A E F : Type 0} (name n : List ℕ) (answer : Result A E) (result : Result A F)
    (a b was is : Option Standing) → n ≡ name → was ≡ a → is ≡ b
    → MatchResult answer (λ value. result ≡ Ok value) (λ _. IsErr result)
    → Changes (MakesWay n answer) was is → Changes (MakesWay name result) a b
way_counted_at name n answer result a b was is named before after same makes =
    way_counted name answer result a b same
    (subst (λ (it : Option Standing). Changes (MakesWay name answer) a it) after
    (subst (λ (it : Option Standing). Changes (MakesWay name answer) it is) before
    (subst (λ (it : List ℕ). Changes (MakesWay it answer) was is) named makes)))
