-- What a folder supplies, if it is known what stands there.
use Rattle.std.proofs.Common.{◌≡◌, ◌∙◌, ◌++◌, ◌∷◌, [], ◌⊎◌, ℕ, Bool, false, true, List, None, Option, Some, Result, Ok, Err, ap, codes, inl, inr, map, refl, subst, sym}
use Rattle.std.specs.Prelude.{◌&&◌, IfOk, IfSome, IsSomeAnd, MatchResult, if◌then◌else◌, is_some, nat_eq}
use Rattle.std.specs.List.{list_all}
use Rattle.std.specs.declared.io.Error.{Error}
use Rattle.std.specs.Str.{bytes_eq}
use Rattle.std.proofs.lemmas.Bool.{and_from, and_parts, eqb-true, false≢true}
use Rattle.bag_receiver.specs.Suppliers.{IsSupplied, Supply}
use Rattle.bag_rules.specs.Faults.{Has}
use Rattle.bag_folder.specs.declared.entry_kind.EntryKind.{EntryKind}
use Rattle.bag_folder.specs.declared.entry_kind.EntryKind.TheVariants.{File, Directory}
use Rattle.bag_folder.specs.Directories.{name_below}
use Rattle.bag_folder.specs.DiskNames.{LeadsTo, Named, Standing, content, itself, octets_of, told_in}
use Rattle.bag_folder.specs.Folders.{left_open}
use Rattle.bag_folder.specs.Supplying.{Absent, InFile, IsGiven, IsLacking, IsMet, IsMetOnTheWay, IsReached, Says, SupplierShown, are_told, fronts_of, has_file, is_directory, is_file, is_told, octets_supplied, supply_in, supply_of}

-- THE WAY

has_map : (octet : ℕ) (fronts : List (List ℕ)) (front : List ℕ) → Has fronts front
    → Has (map (λ (f : List ℕ). octet ∷ f) fronts) (octet ∷ front)
has_map octet [] front never = never
has_map octet (first ∷ fronts) front (inl is) = inl (ap (λ (f : List ℕ). octet ∷ f) is)
has_map octet (first ∷ fronts) front (inr later) = inr (has_map octet fronts front later)

has_behind : (xs ys : List (List ℕ)) (x : List ℕ) → Has ys x → Has (xs ++ ys) x
has_behind [] ys x here = here
has_behind (first ∷ xs) ys x here = inr (has_behind xs ys x here)

-- a directory on the way is one of those that are looked at
is_front : (path front rest : List ℕ) → path ≡ name_below front rest → Has (fronts_of path) front
is_front path [] rest is =
    subst (λ (p : List ℕ). Has (fronts_of p) []) (sym is) (inl refl)
is_front path (octet ∷ front) rest is =
    subst (λ (p : List ℕ). Has (fronts_of p) (octet ∷ front)) (sym is)
    (has_behind (if nat_eq octet 47 then [] ∷ [] else [])
    (map (λ (f : List ℕ). octet ∷ f) (fronts_of (name_below front rest))) (octet ∷ front)
    (has_map octet (fronts_of (name_below front rest)) front
    (is_front (name_below front rest) front rest refl)))

all_pass : (test : List ℕ → Bool) (fronts : List (List ℕ)) → ((front : List ℕ) → Has fronts front
    → test front ≡ true) → list_all test fronts ≡ true
all_pass test [] passes = refl
all_pass test (first ∷ fronts) passes =
    and_from (test first) (list_all test fronts) (passes first (inl refl))
    (all_pass test fronts (λ front here. passes front (inr here)))

passes_each : (test : List ℕ → Bool) (fronts : List (List ℕ)) (front : List ℕ)
    → list_all test fronts ≡ true → Has fronts front → test front ≡ true
passes_each test [] front all never = absurd never
passes_each test (first ∷ fronts) front all (inl is) =
    ap test (sym is) ∙ (and_parts (test first) (list_all test fronts) all).0
passes_each test (first ∷ fronts) front all (inr later) =
    passes_each test fronts front (and_parts (test first) (list_all test fronts) all).1 later

map_has : (octet : ℕ) (fronts : List (List ℕ)) (front : List ℕ)
    → Has (map (λ (f : List ℕ). octet ∷ f) fronts) front
    → (inner : List ℕ) × (front ≡ octet ∷ inner) × Has fronts inner
map_has octet [] front never = absurd never
map_has octet (first ∷ fronts) front (inl is) = (first, sym is, inl refl)
map_has octet (first ∷ fronts) front (inr later) =
    let found = map_has octet fronts front later in (found.0, found.1, inr found.2)

front_behind : (octet : ℕ) (path front : List ℕ)
    → ((inner : List ℕ) → Has (fronts_of path) inner → LeadsTo inner path)
    → Has (map (λ (f : List ℕ). octet ∷ f) (fronts_of path)) front → LeadsTo front (octet ∷ path)
front_behind octet path front leads there =
    let found = map_has octet (fronts_of path) front there in
    let inner = leads found.0 found.2 in (
      inner.0,
      ap (λ (p : List ℕ). octet ∷ p) inner.1
          ∙ ap (λ (f : List ℕ). name_below f inner.0) (sym found.1),
    )

front_leads_if : (b : Bool) (octet : ℕ) (path front : List ℕ) → nat_eq octet 47 ≡ b
    → ((inner : List ℕ) → Has (fronts_of path) inner → LeadsTo inner path)
    → Has ((if b then [] ∷ [] else []) ++ map (λ (f : List ℕ). octet ∷ f) (fronts_of path)) front
    → LeadsTo front (octet ∷ path)
front_leads_if true octet path front slash leads (inl is) = (
  path,
  ap (λ (n : ℕ). n ∷ path) (eqb-true octet 47 slash)
      ∙ ap (λ (f : List ℕ). name_below f path) is,
)
front_leads_if true octet path front slash leads (inr there) =
    front_behind octet path front leads there
front_leads_if false octet path front other leads there =
    front_behind octet path front leads there

-- each that is looked at is on the way
front_leads : (path front : List ℕ) → Has (fronts_of path) front → LeadsTo front path
front_leads [] front never = absurd never
front_leads (octet ∷ path) front here =
    front_leads_if (nat_eq octet 47) octet path front refl
    (λ inner there. front_leads path inner there) here

-- WHAT IS THERE

directory_is : (found : Result EntryKind Error) → found ≡ Ok Directory → is_directory found ≡ true
directory_is found is = ap is_directory is

module _ (known : Standing) (folder path : List ℕ) where
  abbrev leads_through : List ℕ → Bool
  leads_through front = is_directory (itself known (name_below folder front))

  -- a file that is met is there
  met_file : (name : List ℕ) → IsMet known folder path name (Ok File)
      → has_file known folder path ≡ true
  met_file name met =
      and_from (list_all leads_through (fronts_of path))
      (is_file (itself known (name_below folder path)))
      (all_pass leads_through (fronts_of path)
      (λ front here. directory_is (itself known (name_below folder front))
      (met.reached front (front_leads path front here))))
      (ap (λ (n : List ℕ). is_file (itself known n)) (sym met.named) ∙ ap is_file met.is)

  not_through : (front : List ℕ) → LeadsTo front path → leads_through front ≡ false
      → has_file known folder path ≡ true → ⊥
  not_through front leads not has =
      false≢true (sym not ∙ passes_each leads_through (fronts_of path) front
      (and_parts (list_all leads_through (fronts_of path))
      (is_file (itself known (name_below folder path))) has).0
      (is_front path front leads.0 leads.1))

  not_file : is_file (itself known (name_below folder path)) ≡ false
      → has_file known folder path ≡ true → ⊥
  not_file not has =
      false≢true (sym not ∙ (and_parts (list_all leads_through (fronts_of path))
      (is_file (itself known (name_below folder path))) has).1)

  -- what is lacking isn't there
  lacks_file : (name : List ℕ) → IsLacking known folder path name
      → has_file known folder path ≡ true → ⊥
  lacks_file name (Absent error kind (front, on, met)) has = elim on [
    | inl is ↦ not_file
        (ap (λ (f : List ℕ). is_file (itself known (name_below folder f))) (sym is)
        ∙ ap (λ (n : List ℕ). is_file (itself known n)) (sym met.named) ∙ ap is_file met.is) has
    | inr leads ↦ not_through front leads
        (ap (λ (n : List ℕ). is_directory (itself known n)) (sym met.named)
        ∙ ap is_directory met.is) has
  ]
  lacks_file name (InFile front leads met) has =
      not_through front leads
      (ap (λ (n : List ℕ). is_directory (itself known n)) (sym met.named)
      ∙ ap is_directory met.is) has

err_is_not_ok : (error : Error) (left : Option (List ℕ)) → Err error ≡ Ok left → ⊥
err_is_not_ok error left h = cc

some_told : (left : Option (List ℕ)) → is_told (Ok left) ≡ true → is_some left ≡ true
some_told (Some octets) told = refl
some_told None told = absurd (false≢true told)

told_if : (b : Bool) (found later : Result (Option (List ℕ)) Error) (left : Option (List ℕ))
    → is_told found ≡ true → (later ≡ Ok left → is_some left ≡ true)
    → (if b then found else later) ≡ Ok left → is_some left ≡ true
told_if true found later left told rest is = some_told left (ap is_told (sym is) ∙ told)
told_if false found later left told rest is = rest is

-- what is read of a file that can be opened, if that is told of all
told_so : (absent : Error) (names : List Named) (name : List ℕ) (left : Option (List ℕ))
    → list_all (λ (named : Named). is_told named.content) names ≡ true
    → told_in (λ (named : Named). named.content) absent names name ≡ Ok left
    → is_some left ≡ true
told_so absent [] name left all is = absurd (err_is_not_ok absent left is)
told_so absent (first ∷ names) name left all is =
    let parts = and_parts (is_told first.content)
    (list_all (λ (named : Named). is_told named.content) names) all in
    told_if (bytes_eq first.name name) first.content
    (told_in (λ (named : Named). named.content) absent names name) left parts.0
    (λ later. told_so absent names name left parts.1 later) is

octets_told : (known : Standing) (name : List ℕ) (left : Option (List ℕ)) → are_told known ≡ true
    → content known name ≡ Ok left → is_some left ≡ true
unfolding content
octets_told known name left all is = told_so known.absent known.names name left all is

-- WHAT IS SUPPLIED

octets_if : (has : Bool) (found : Option (List ℕ)) → has ≡ true
    → (if has then found else None) ≡ found
octets_if true found is = refl
octets_if false found is = absurd (false≢true is)

none_if : (has : Bool) (found : Option (List ℕ)) → (has ≡ true → ⊥)
    → (if has then found else None) ≡ None
none_if true found lacks = absurd (lacks refl)
none_if false found lacks = refl

module _ (known : Standing) (folder url path name : List ℕ) where
  given_octets : (left : Option (List ℕ)) → IsMet known folder path name (Ok File)
      → content known name ≡ Ok left → is_some left ≡ true
      → IsSupplied (Some (λ _ there. octets_supplied known folder there)) url path true left
  given_octets None met opened told = absurd (false≢true told)
  given_octets (Some octets) met opened told = (
    octets,
    octets_if (has_file known folder path) (octets_of (content known (name_below folder path)))
        (met_file known folder path name met)
        ∙ ap (λ (n : List ℕ). octets_of (content known n)) (sym met.named) ∙ ap octets_of opened,
    refl,
  )

  answer_supplied : (to_read : Option (Option (List ℕ))) (has : Bool) → are_told known ≡ true
      → Says known folder path name to_read has
      → IsSupplied (Some (λ _ there. octets_supplied known folder there)) url path has
      (left_open to_read)
  answer_supplied None true told given = absurd given.opened
  answer_supplied (Some left) true told given =
      given_octets left given.met given.opened (octets_told known name left told given.opened)
  answer_supplied to_read false told lacking =
      none_if (has_file known folder path) (octets_of (content known (name_below folder path)))
      (lacks_file known folder path name lacking)

  if_told : (to_read : Option (Option (List ℕ))) (has told : Bool) → are_told known ≡ told
      → Says known folder path name to_read has
      → IsSupplied
      (if told then Some (λ _ there. octets_supplied known folder there) else None) url path has
      (left_open to_read)
  if_told to_read has true told says = answer_supplied to_read has told says
  if_told to_read has false told says = tt

-- what is answered is right
pub supplied_so : {E : Type 0} (standing : Option Standing) (folder url path name : List ℕ)
    (to_read : Option (Option (List ℕ))) (result : Result Bool E) (Q : Standing → E → Type 0)
    → IfSome standing (λ known. MatchResult result (Says known folder path name to_read) (Q known))
    → IfOk result
    (λ has. IsSupplied (supply_in standing folder) url path has (left_open to_read))
supplied_so None folder url path name to_read (Ok has) Q says = tt
supplied_so (Some known) folder url path name to_read (Ok has) Q says =
    if_told known folder url path name to_read has (are_told known) refl says
supplied_so standing folder url path name to_read (Err error) Q says = tt
