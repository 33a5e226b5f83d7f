-- Names in memory.
use Rattle.std.proofs.Common.{◌≡◌, ◌∙◌, ◌++◌, ◌⊎◌, ◌+◌, ◌<◌, ◌≤◌, ℕ, Bool, true, false, List, [], ◌∷◌, None, Option, Some, Result, Ok, Err, ap, drop, get_or, inl, inr, is_ok, length, map, refl, subst, sym}
use Rattle.std.proofs.lemmas.Bool.{false≢true}
use Rattle.std.proofs.lemmas.List.{at_drop_all, at_drop_more}
use Rattle.std.proofs.lemmas.Slice.Eq.{bytes_eq-Decides}
use Rattle.std.specs.Prelude.{if◌then◌else◌}
use Rattle.std.specs.Str.{bytes_eq}
use Rattle.std.specs.declared.io.Error.{Error}
use Rattle.bag_folder.specs.declared.entry_kind.EntryKind.{EntryKind}
use Rattle.bag_folder.specs.declared.entry_kind.EntryKind.TheVariants.{File, Directory, Link, Special}
use Rattle.bag_folder.specs.MemNames.{MemEntryShown, behind_of, content_of, first_in, named_by, standing_of}
use Rattle.bag_folder.specs.DiskNames.{Grows, IsMade, IsOnTheWay, IsVacant, MakesOne, MakesWay, Named, Standing, behind, content, itself, told_in}
use Rattle.bag_folder.proofs.NameLemmas.{grows_itself, grows_more}

err_is_not_ok : {A : Type 0} (error : Error) (a : A) → Err error ≡ Ok a → ⊥
err_is_not_ok error a h = cc

ok_same : (found : Result EntryKind Error) (kind what : EntryKind) → found ≡ Ok kind
    → found ≡ Ok what → what ≡ kind
ok_same found kind what p q = cc

-- the kind of the first of these entries that has the name
abbrev pub kind_in : Error → List MemEntryShown → List ℕ → Result EntryKind Error
kind_in absent entries name =
    told_in (λ named. named.itself) absent (map (named_by absent) entries) name

-- the kind of an entry that passes, or what is told of the others
abbrev first_or : EntryKind → Result EntryKind Error → Bool → Result EntryKind Error
first_or kind rest b = if b then Ok kind else rest

-- WHAT IS FOUND

-- an entry that passes, or what is found among the others
abbrev entry_or : MemEntryShown → Option MemEntryShown → Bool → Option MemEntryShown
entry_or entry rest b = if b then Some entry else rest

pub found_here : (entries : List MemEntryShown) (i : ℕ) (entry : MemEntryShown)
    (name : List ℕ) → i < length entries → entry ≡ get_or entries i entry
    → bytes_eq entry.name name ≡ true → first_in (drop i entries) name ≡ Some entry
found_here entries i entry name inside item same =
    at_drop_more (λ (xs : List MemEntryShown). first_in xs name) entries i entry inside
    ∙ ap (λ (e : MemEntryShown). first_in (e ∷ drop (i + 1) entries) name) (sym item)
    ∙ ap (entry_or entry (first_in (drop (i + 1) entries) name)) same

pub found_later : (entries : List MemEntryShown) (i : ℕ) (entry : MemEntryShown)
    (name : List ℕ) → i < length entries → entry ≡ get_or entries i entry
    → bytes_eq entry.name name ≡ false
    → first_in (drop i entries) name ≡ first_in (drop (i + 1) entries) name
found_later entries i entry name inside item other =
    at_drop_more (λ (xs : List MemEntryShown). first_in xs name) entries i entry inside
    ∙ ap (λ (e : MemEntryShown). first_in (e ∷ drop (i + 1) entries) name) (sym item)
    ∙ ap (entry_or entry (first_in (drop (i + 1) entries) name)) other

pub found_nowhere : (entries : List MemEntryShown) (i : ℕ) (name : List ℕ)
    → length entries ≤ i → first_in (drop i entries) name ≡ None
found_nowhere entries i name past =
    at_drop_all (λ (xs : List MemEntryShown). first_in xs name) entries i past

-- what is told of the entry that is found, or the error
abbrev pub told_of : {A : Type 0} → (MemEntryShown → Result A Error) → Error
    → Option MemEntryShown → Result A Error
told_of told absent None = Err absent
told_of told absent (Some entry) = told entry

told_step : {A : Type 0} (told : MemEntryShown → Result A Error) (absent : Error)
    (rest : Result A Error) (entry : MemEntryShown) (found : Option MemEntryShown) (b : Bool)
    → rest ≡ told_of told absent found
    → (if b then told entry else rest) ≡ told_of told absent (entry_or entry found b)
told_step told absent rest entry found true later = refl
told_step told absent rest entry found false later = later

told_first : {A : Type 0} (tell : Named → Result A Error) (absent : Error)
    (entries : List MemEntryShown) (name : List ℕ)
    → told_in tell absent (map (named_by absent) entries) name
    ≡ told_of (λ entry. tell (named_by absent entry)) absent (first_in entries name)
told_first tell absent [] name = refl
told_first tell absent (entry ∷ entries) name =
    told_step (λ (e : MemEntryShown). tell (named_by absent e)) absent
    (told_in tell absent (map (named_by absent) entries) name) entry (first_in entries name)
    (bytes_eq entry.name name) (told_first tell absent entries name)

pub itself_is : (absent : Error) (entries : List MemEntryShown) (name : List ℕ)
    (found : Option MemEntryShown) → first_in entries name ≡ found
    → itself (standing_of entries absent) name ≡ told_of (λ entry. Ok entry.kind) absent found
unfolding itself
itself_is absent entries name found is =
    told_first (λ (named : Named). named.itself) absent entries name
    ∙ ap (told_of (λ (entry : MemEntryShown). Ok entry.kind) absent) is

pub content_is : (absent : Error) (entries : List MemEntryShown) (name : List ℕ)
    (found : Option MemEntryShown) → first_in entries name ≡ found
    → content (standing_of entries absent) name
    ≡ told_of (λ entry. content_of absent entry.kind entry.octets) absent found
unfolding content
content_is absent entries name found is =
    told_first (λ (named : Named). named.content) absent entries name
    ∙ ap (told_of (λ (entry : MemEntryShown). content_of absent entry.kind entry.octets) absent) is

-- what is told of a kind, or its error
abbrev pub then_told : {A : Type 0} → (EntryKind → Result A Error) → Result EntryKind Error
    → Result A Error
then_told told (Ok kind) = told kind
then_told told (Err error) = Err error

told_by_kind : {A : Type 0} (told : EntryKind → Result A Error) (absent : Error)
    (found : Option MemEntryShown)
    → told_of (λ entry. told entry.kind) absent found
    ≡ then_told told (told_of (λ entry. Ok entry.kind) absent found)
told_by_kind told absent None = refl
told_by_kind told absent (Some entry) = refl

pub behind_is : (absent : Error) (entries : List MemEntryShown) (name : List ℕ)
    (found : Result EntryKind Error) → found ≡ itself (standing_of entries absent) name
    → behind (standing_of entries absent) name ≡ then_told (behind_of absent) found
unfolding behind
behind_is absent entries name found is =
    told_first (λ (named : Named). named.behind) absent entries name
    ∙ told_by_kind (behind_of absent) absent (first_in entries name)
    ∙ ap (then_told (behind_of absent))
    (sym (is ∙ itself_is absent entries name (first_in entries name) refl))

pub no_link : (absent : Error) (kind : EntryKind) → (kind ≡ Link → ⊥)
    → behind_of absent kind ≡ Ok kind
no_link absent File other = refl
no_link absent Directory other = refl
no_link absent Link other = absurd (other refl)
no_link absent Special other = refl

pub no_file : (absent : Error) (kind : EntryKind) (octets : List ℕ) → (kind ≡ File → ⊥)
    → content_of absent kind octets ≡ Err absent
no_file absent File octets other = absurd (other refl)
no_file absent Directory octets other = refl
no_file absent Link octets other = refl
no_file absent Special octets other = refl

pub nothing_there : (standing : Standing) (name : List ℕ) (found : Result EntryKind Error)
    → found ≡ itself standing name → is_ok found ≡ false → IsVacant standing name
nothing_there standing name found is not_ok = λ kind there.
    false≢true (sym not_ok ∙ ap (λ (r : Result EntryKind Error). is_ok r) (is ∙ there))

-- ONE ENTRY MORE

stays_step : {A : Type 0} (this before after : Result A Error) (a : A) (b : Bool)
    → (before ≡ Ok a → after ≡ Ok a) → (if b then this else before) ≡ Ok a
    → (if b then this else after) ≡ Ok a
stays_step this before after a true stays is = is
stays_step this before after a false stays is = stays is

told_still : {A : Type 0} (tell : Named → Result A Error) (absent : Error)
    (entries : List MemEntryShown) (entry : MemEntryShown) (name : List ℕ) (a : A)
    → told_in tell absent (map (named_by absent) entries) name ≡ Ok a
    → told_in tell absent (map (named_by absent) (entries ++ entry ∷ [])) name ≡ Ok a
told_still tell absent [] entry name a is = absurd (err_is_not_ok absent a is)
told_still tell absent (first ∷ entries) entry name a is =
    stays_step (tell (named_by absent first))
    (told_in tell absent (map (named_by absent) entries) name)
    (told_in tell absent (map (named_by absent) (entries ++ entry ∷ [])) name) a
    (bytes_eq first.name name) (told_still tell absent entries entry name a) is

new_step : (absent : Error) (kind what : EntryKind) (b : Bool)
    → first_or kind (Err absent) b ≡ Ok what → (b ≡ true) × (what ≡ kind)
new_step absent kind what true is = (refl, ok_same (Ok kind) kind what refl is)
new_step absent kind what false is = absurd (err_is_not_ok absent what is)

old_step : (this before after : Result EntryKind Error) (kind : EntryKind) (New : Type 0) (b : Bool)
    → (after ≡ Ok kind → (before ≡ Ok kind) ⊎ New) → (if b then this else after) ≡ Ok kind
    → ((if b then this else before) ≡ Ok kind) ⊎ New
old_step this before after kind New true rest is = inl is
old_step this before after kind New false rest is = rest is

old_or_new : (absent : Error) (entries : List MemEntryShown) (entry : MemEntryShown) (name : List ℕ)
    (kind : EntryKind) → kind_in absent (entries ++ entry ∷ []) name ≡ Ok kind
    → (kind_in absent entries name ≡ Ok kind) ⊎ (name ≡ entry.name) × (kind ≡ entry.kind)
old_or_new absent [] entry name kind is =
    let new = new_step absent entry.kind kind (bytes_eq entry.name name) is in
    inr (sym ((bytes_eq-Decides entry.name name).0 new.0), new.1)
old_or_new absent (first ∷ entries) entry name kind is =
    old_step (Ok first.kind) (kind_in absent entries name)
    (kind_in absent (entries ++ entry ∷ []) name) kind
    ((name ≡ entry.name) × (kind ≡ entry.kind)) (bytes_eq first.name name)
    (old_or_new absent entries entry name kind) is

found_step : (this before after : Result EntryKind Error) (first kind : EntryKind) (b : Bool)
    → this ≡ Ok first → ((it : EntryKind) → (if b then this else before) ≡ Ok it → ⊥)
    → (((it : EntryKind) → before ≡ Ok it → ⊥) → after ≡ Ok kind)
    → (if b then this else after) ≡ Ok kind
found_step this before after first kind true is vacant rest = absurd (vacant first is)
found_step this before after first kind false is vacant rest = rest vacant

found_new : (absent : Error) (entries : List MemEntryShown) (entry : MemEntryShown)
    → ((kind : EntryKind) → kind_in absent entries entry.name ≡ Ok kind → ⊥)
    → kind_in absent (entries ++ entry ∷ []) entry.name ≡ Ok entry.kind
found_new absent [] entry vacant =
    ap (first_or entry.kind (Err absent)) ((bytes_eq-Decides entry.name entry.name).1 refl)
found_new absent (first ∷ entries) entry vacant =
    found_step (Ok first.kind) (kind_in absent entries entry.name)
    (kind_in absent (entries ++ entry ∷ []) entry.name) first.kind entry.kind
    (bytes_eq first.name entry.name) refl vacant (found_new absent entries entry)

entry_made : (absent : Error) (entries : List MemEntryShown) (entry : MemEntryShown)
    → IsVacant (standing_of entries absent) entry.name
    → IsMade entry.kind entry.name (standing_of entries absent)
    (standing_of (entries ++ entry ∷ []) absent)
unfolding itself behind content
entry_made absent entries entry vacant = record {
  vacant = vacant;
  stands = found_new absent entries entry vacant;
  grows = record {
    stands = λ name kind is. told_still (λ named. named.itself) absent entries entry name kind is;
    leads = λ name kind is. told_still (λ named. named.behind) absent entries entry name kind is;
    gives = λ name octets is.
        told_still (λ named. named.content) absent entries entry name octets is;
    made = λ name kind is. old_or_new absent entries entry name kind is;
  };
}

-- an entry with this name and kind was added where nothing had its name
pub entry_added : (absent : Error) (before after : List MemEntryShown) (entry : MemEntryShown)
    (name : List ℕ) (kind : EntryKind) → after ≡ before ++ entry ∷ [] → entry.name ≡ name
    → entry.kind ≡ kind → IsVacant (standing_of before absent) name
    → IsMade kind name (standing_of before absent) (standing_of after absent)
entry_added absent before after entry name kind more named is vacant =
    let old = standing_of before absent in
    let made = entry_made absent before entry
    (subst (λ (n : List ℕ). IsVacant old n) (sym named) vacant) in
    subst (λ (items : List MemEntryShown). IsMade kind name old (standing_of items absent)) (sym more)
    (subst (λ (k : EntryKind). IsMade k name old (standing_of (before ++ entry ∷ []) absent)) is
    (subst (λ (n : List ℕ).
    IsMade entry.kind n old (standing_of (before ++ entry ∷ []) absent)) named made))

-- a folder that stands somewhere leads there
pub folder_leads : (absent : Error) (entries : List MemEntryShown) (name : List ℕ)
    → itself (standing_of entries absent) name ≡ Ok Directory
    → behind (standing_of entries absent) name ≡ Ok Directory
folder_leads absent entries name is =
    behind_is absent entries name (Ok Directory) (sym is)

-- only folders, on the way to this name
abbrev IsWayTo : List ℕ → List ℕ → EntryKind → Type 0
IsWayTo name it what = IsOnTheWay it name × (what ≡ Directory)

-- a folder that was made
pub way_of_one : {A E : Type 0} (was is : Error) (before after : List MemEntryShown) (name : List ℕ)
    (result : Result A E)
    → MakesOne Directory name result (standing_of before was) (standing_of after is)
    → MakesWay name result (standing_of before was) (standing_of after is)
way_of_one was is before after name (Ok value) made = record {
  leads = λ named. folder_leads is after name made.stands;
  grows = grows_more _ (IsWayTo name) (standing_of before was) (standing_of after is)
      (λ it what new. (inl new.0, new.1)) made.grows;
}
way_of_one was is before after name (Err error) same = record {
  leads = tt;
  grows = subst (λ (new : Standing). Grows (IsWayTo name) (standing_of before was) new)
      (sym same) (grows_itself (IsWayTo name) (standing_of before was));
}

-- a folder that stood there already
pub way_stands : {A : Type 0} (E : Type 0) (absent : Error) (entries : List MemEntryShown)
    (name : List ℕ) (value : A) → itself (standing_of entries absent) name ≡ Ok Directory
    → MakesWay {E = E} name (Ok value) (standing_of entries absent) (standing_of entries absent)
way_stands E absent entries name value is = record {
  leads = λ named. folder_leads absent entries name is;
  grows = grows_itself (IsWayTo name) (standing_of entries absent);
}
