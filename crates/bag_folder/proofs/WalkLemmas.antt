-- A walk that leaves no directory unread has found what is below the folder.
use Rattle.std.proofs.Common.{◌≡◌, ◌++◌, ℕ, Bool, true, false, List, [], ◌∷◌, All, Contains, Result, Ok, codes, refl, sym, subst, inl, inr, arith}
use Rattle.std.specs.Prelude.{fold}
use Rattle.std.specs.Str.{bytes_eq}
use Rattle.std.proofs.lemmas.Bool.{or_cases, or_left, or_right, false≢true}
use Rattle.std.proofs.lemmas.List.Elements.{All-nil, All-cons, All-head, All-tail, All-push, All-weaker, All-contains, All-contains_itself, Contains-append_left, Contains-append_right, Contains-append_cases, Contains-push, Contains-push_cases}
use Rattle.std.proofs.lemmas.Slice.Eq.{bytes_eq-Decides}
use Rattle.std.specs.declared.io.Error.{Error}
use Rattle.bag_folder.specs.declared.entry_kind.EntryKind.{EntryKind}
use Rattle.bag_folder.specs.declared.entry_kind.EntryKind.TheVariants.{File, Directory, Link, Special}
use Rattle.bag_folder.specs.declared.fault.Cause.{Cause}
use Rattle.bag_folder.specs.Directories.{EntryShown, Listing, HasEntry, IsFront, AtFolder, Inside, IsBelow, IsUnfit, Unlisted, NotAllowed, Stands, name_below}
use Rattle.bag_folder.specs.Walks.{EntryFits, FitsBag, LooksInto, RefusesFront, Walked, with_entry, with_path}

nothing_in_none : (front : List ℕ) → Contains [] front → ⊥
nothing_in_none front here = omega (arith, here.1)

ok_same : (answer : Result (List EntryShown) Error) (a b : List EntryShown) → answer ≡ Ok a → answer ≡ Ok b → a ≡ b
ok_same answer a b is was = cc

-- WHAT WAS ADDED STAYS

record Grows (old new : Walked) : Type 0 where
  paths : (path : List ℕ) → Contains old.paths path → Contains new.paths path
  left : (front : List ℕ) → Contains old.left front → Contains new.left front
  has_dir : old.has_dir ≡ true → new.has_dir ≡ true

grows_by_path : (walked : Walked) (path : List ℕ) (kind : EntryKind) → Grows walked (with_path walked path kind)
grows_by_path walked path File = record { paths = λ p h. Contains-append_left walked.paths (path ∷ []) p h; left = λ f h. h; has_dir = λ h. h }
grows_by_path walked path Directory = record {
  paths = λ p h. h;
  left = λ f h. Contains-append_left walked.left ((path ++ codes "/") ∷ []) f h;
  has_dir = λ h. or_left walked.has_dir (bytes_eq path (codes "data")) h;
}
grows_by_path walked path Link = record { paths = λ p h. h; left = λ f h. h; has_dir = λ h. h }
grows_by_path walked path Special = record { paths = λ p h. h; left = λ f h. h; has_dir = λ h. h }

grows_by_all : (front : List ℕ) (entries : List EntryShown) (walked : Walked) → Grows walked (fold (with_entry front) walked entries)
grows_by_all front [] walked = record { paths = λ p h. h; left = λ f h. h; has_dir = λ h. h }
grows_by_all front (entry ∷ entries) walked =
    let once = grows_by_path walked (front ++ entry.name) entry.kind in
    let on = grows_by_all front entries (with_entry front walked entry) in
    record { paths = λ p h. on.paths p (once.paths p h); left = λ f h. on.left f (once.left f h); has_dir = λ h. on.has_dir (once.has_dir h) }

-- what is at this path was added: a file to the paths, a directory to the fronts that were seen
abbrev pub IsTaken : List (List ℕ) → Bool → List (List ℕ) → List ℕ → EntryKind → Type 0
IsTaken paths has_dir seen path File = Contains paths path
IsTaken paths has_dir seen path Directory = Contains seen (path ++ codes "/") × (path ≡ codes "data" → has_dir ≡ true)
IsTaken paths has_dir seen path Link = ⊥
IsTaken paths has_dir seen path Special = ⊥

taken_on : (old new : Walked) (before after : List (List ℕ)) (path : List ℕ) (kind : EntryKind) → Grows old new → ((front : List ℕ) → Contains before front → Contains after front)
    → IsTaken old.paths old.has_dir before path kind → IsTaken new.paths new.has_dir after path kind
taken_on old new before after path File grows seen h = grows.paths path h
taken_on old new before after path Directory grows seen h = (seen (path ++ codes "/") h.0, λ is. grows.has_dir (h.1 is))
taken_on old new before after path Link grows seen h = h
taken_on old new before after path Special grows seen h = h

-- the entries of the directory at this front were added
abbrev pub AllTaken : Walked → List (List ℕ) → List ℕ → List EntryShown → Type 0
AllTaken walked seen front entries = All (λ entry. IsTaken walked.paths walked.has_dir seen (front ++ entry.name) entry.kind) entries

all_taken_on : (old new : Walked) (before after : List (List ℕ)) (front : List ℕ) (entries : List EntryShown) → Grows old new → ((front : List ℕ) → Contains before front → Contains after front)
    → AllTaken old before front entries → AllTaken new after front entries
all_taken_on old new before after front entries grows seen taken =
    All-weaker (λ entry. IsTaken old.paths old.has_dir before (front ++ entry.name) entry.kind) (λ entry. IsTaken new.paths new.has_dir after (front ++ entry.name) entry.kind)
    (λ entry h. taken_on old new before after (front ++ entry.name) entry.kind grows seen h) entries taken

taken_once : (walked : Walked) (path : List ℕ) (kind : EntryKind) → FitsBag path kind
    → IsTaken (with_path walked path kind).paths (with_path walked path kind).has_dir (with_path walked path kind).left path kind
taken_once walked path File fits = Contains-push walked.paths path
taken_once walked path Directory fits =
    (Contains-push walked.left (path ++ codes "/"), λ is. or_right walked.has_dir (bytes_eq path (codes "data")) ((bytes_eq-Decides path (codes "data")).1 is))
taken_once walked path Link fits = fits
taken_once walked path Special fits = fits

taken_all : (front : List ℕ) (entries : List EntryShown) (walked : Walked) → All (EntryFits front) entries
    → AllTaken (fold (with_entry front) walked entries) (fold (with_entry front) walked entries).left front entries
taken_all front [] walked fit = All-nil (λ (entry : EntryShown). IsTaken walked.paths walked.has_dir walked.left (front ++ entry.name) entry.kind)
taken_all front (entry ∷ entries) walked fit =
    let once = with_entry front walked entry in
    let end = fold (with_entry front) once entries in
    let on = grows_by_all front entries once in
    All-cons (λ (e : EntryShown). IsTaken end.paths end.has_dir end.left (front ++ e.name) e.kind) entry entries
    (taken_on once end once.left end.left (front ++ entry.name) entry.kind on on.left (taken_once walked (front ++ entry.name) entry.kind (All-head (EntryFits front) entry entries fit)))
    (taken_all front entries once (All-tail (EntryFits front) entry entries fit))

-- a front that was left is read now
seen_on : (done left new : List (List ℕ)) (now : List ℕ) → ((front : List ℕ) → Contains left front → Contains new front)
    → (front : List ℕ) → Contains (done ++ (left ++ now ∷ [])) front → Contains ((done ++ now ∷ []) ++ new) front
seen_on done left new now grows front here = elim (Contains-append_cases done (left ++ now ∷ []) front here) [
  | inl looked ↦ Contains-append_left (done ++ now ∷ []) new front (Contains-append_left done (now ∷ []) front looked)
  | inr rest ↦ elim (Contains-push_cases left now front rest) [
    | inl still ↦ Contains-append_right (done ++ now ∷ []) new front (grows front still)
    | inr is ↦ Contains-append_left (done ++ now ∷ []) new front (subst (Contains (done ++ now ∷ [])) is (Contains-push done now))
  ]
]

module _ (listing : Listing) (folder : List ℕ) where
  -- NOTHING IS MADE UP

  pub record IsSound (walked : Walked) : Type 0 where
    pub fronts : All (IsFront listing folder) walked.left
    pub files : All (λ path. Stands listing folder path File) walked.paths
    pub payload : walked.has_dir ≡ true → Stands listing folder (codes "data") Directory

  stands : (front name : List ℕ) (kind : EntryKind) → IsFront listing folder front → HasEntry listing folder front name kind → Stands listing folder (front ++ name) kind
  stands front name kind below entry = record { front = front; name = name; below = below; entry = entry; path_is = refl }

  sound_once : (front name : List ℕ) (kind : EntryKind) (walked : Walked) → IsFront listing folder front → HasEntry listing folder front name kind → IsSound walked → IsSound (with_path walked (front ++ name) kind)
  sound_once front name File walked below entry sound = record {
    fronts = sound.fronts;
    files = All-push (λ path. Stands listing folder path File) walked.paths (front ++ name) sound.files (stands front name File below entry);
    payload = sound.payload;
  }
  sound_once front name Directory walked below entry sound = record {
    fronts = All-push (IsFront listing folder) walked.left ((front ++ name) ++ codes "/") sound.fronts (Inside front name below entry);
    files = sound.files;
    payload = λ h. elim (or_cases walked.has_dir (bytes_eq (front ++ name) (codes "data")) h) [
      | inl before ↦ sound.payload before
      | inr here ↦ subst (λ path. Stands listing folder path Directory) ((bytes_eq-Decides (front ++ name) (codes "data")).0 here) (stands front name Directory below entry)
    ];
  }
  sound_once front name Link walked below entry sound = sound
  sound_once front name Special walked below entry sound = sound

  sound_all : (front : List ℕ) (entries : List EntryShown) (walked : Walked) → IsFront listing folder front → All (λ entry. HasEntry listing folder front entry.name entry.kind) entries → IsSound walked → IsSound (fold (with_entry front) walked entries)
  sound_all front [] walked below there sound = sound
  sound_all front (entry ∷ entries) walked below there sound =
      let P = λ (e : EntryShown). HasEntry listing folder front e.name e.kind in
      sound_all front entries (with_entry front walked entry) below (All-tail P entry entries there)
      (sound_once front entry.name entry.kind walked below (All-head P entry entries there) sound)

  each_entry : (front : List ℕ) (entries : List EntryShown) → listing (name_below folder front) ≡ Ok entries → All (λ entry. HasEntry listing folder front entry.name entry.kind) entries
  each_entry front entries listed =
      All-weaker (Contains entries) (λ entry. HasEntry listing folder front entry.name entry.kind) (λ entry there. record { entries = entries; listed = listed; there = there }) entries (All-contains_itself entries)

  -- A WALK IN PROGRESS

  -- the directory at this front was read, and each of its entries was added
  pub record IsCovered (walked : Walked) (seen : List (List ℕ)) (front : List ℕ) : Type 0 where
    pub entries : List EntryShown
    pub listed : listing (name_below folder front) ≡ Ok entries
    pub taken : AllTaken walked seen front entries

  -- these directories were read
  pub record IsWalking (walked : Walked) (done : List (List ℕ)) : Type 0 where
    pub started : Contains (done ++ walked.left) []
    pub sound : IsSound walked
    pub covered : All (IsCovered walked (done ++ walked.left)) done

  covered_on : (old new : Walked) (before after : List (List ℕ)) → Grows old new → ((front : List ℕ) → Contains before front → Contains after front)
      → (front : List ℕ) → IsCovered old before front → IsCovered new after front
  covered_on old new before after grows seen front covered = record {
    entries = covered.entries;
    listed = covered.listed;
    taken = all_taken_on old new before after front covered.entries grows seen covered.taken;
  }

  pub walking_begins : (walked : Walked) → walked ≡ record { paths = []; has_dir = false; left = [] ∷ [] } → IsWalking walked []
  walking_begins walked is = subst (λ w. IsWalking w []) (sym is) (record {
    started = Contains-push [] [];
    sound = record {
      fronts = All-cons (IsFront listing folder) [] [] AtFolder (All-nil (IsFront listing folder));
      files = All-nil (λ path. Stands listing folder path File);
      payload = λ no. absurd (false≢true no);
    };
    covered = All-nil (IsCovered (record { paths = []; has_dir = false; left = [] ∷ [] }) ([] ∷ []));
  })

  -- one more directory
  pub walking_on : (old walked new : Walked) (done : List (List ℕ)) (front : List ℕ) → old ≡ record walked { left = walked.left ++ front ∷ [] } → IsWalking old done
      → LooksInto listing folder front walked new → IsWalking new (done ++ front ∷ [])
  walking_on old walked new done front is was looks =
      let walking : IsWalking (record walked { left = walked.left ++ front ∷ [] }) done = subst (λ w. IsWalking w done) is was in
      let sound = walking.sound in
      let below : IsFront listing folder front = All-contains (IsFront listing folder) (walked.left ++ front ∷ []) front sound.fronts (Contains-push walked.left front) in
      let before : IsSound walked = record {
        fronts = All-weaker (Contains walked.left) (IsFront listing folder)
            (λ f here. All-contains (IsFront listing folder) (walked.left ++ front ∷ []) f sound.fronts (Contains-append_left walked.left (front ∷ []) f here))
            walked.left (All-contains_itself walked.left);
        files = sound.files;
        payload = sound.payload;
      } in
      let end : Walked = fold (with_entry front) walked looks.entries in
      let grows : Grows walked end = grows_by_all front looks.entries walked in
      let seen = seen_on done walked.left end.left front grows.left in
      let after = (done ++ front ∷ []) ++ end.left in
      subst (λ w. IsWalking w (done ++ front ∷ [])) (sym looks.taken) (record {
        started = seen [] walking.started;
        sound = sound_all front looks.entries walked below (each_entry front looks.entries looks.listed) before;
        covered = All-push (IsCovered end after) done front
            (All-weaker (IsCovered walked (done ++ (walked.left ++ front ∷ []))) (IsCovered end after) (covered_on walked end (done ++ (walked.left ++ front ∷ [])) after grows seen) done
            (All-weaker (IsCovered (record walked { left = walked.left ++ front ∷ [] }) (done ++ (walked.left ++ front ∷ []))) (IsCovered walked (done ++ (walked.left ++ front ∷ [])))
            (λ f h. record { entries = h.entries; listed = h.listed; taken = h.taken }) done walking.covered))
            (record {
              entries = looks.entries;
              listed = looks.listed;
              taken = all_taken_on end end end.left after front looks.entries (grows_by_all front [] end) (Contains-append_right (done ++ front ∷ []) end.left) (taken_all front looks.entries walked looks.fit);
            });
      })

  -- THE END

  module _ (walked : Walked) (done : List (List ℕ)) (none_left : walked.left ≡ []) (walking : IsWalking walked done) where
    seen_is_done : (front : List ℕ) → Contains (done ++ walked.left) front → Contains done front
    seen_is_done front here = elim (Contains-append_cases done walked.left front here) [
      | inl looked ↦ looked
      | inr left ↦ absurd (nothing_in_none front (subst (λ xs. Contains xs front) none_left left))
    ]

    covers : (front : List ℕ) → Contains done front → IsCovered walked (done ++ walked.left) front
    covers front here = All-contains (IsCovered walked (done ++ walked.left)) done front walking.covered here

    taken_at : (front name : List ℕ) (kind : EntryKind) → Contains done front → HasEntry listing folder front name kind → IsTaken walked.paths walked.has_dir (done ++ walked.left) (front ++ name) kind
    taken_at front name kind here entry =
        let covered = covers front here in
        let same : covered.entries ≡ entry.entries = ok_same (listing (name_below folder front)) covered.entries entry.entries covered.listed entry.listed in
        All-contains (λ (e : EntryShown). IsTaken walked.paths walked.has_dir (done ++ walked.left) (front ++ e.name) e.kind) covered.entries (record { name = name; kind = kind }) covered.taken
        (subst (λ (xs : List EntryShown). Contains xs (record { name = name; kind = kind })) (sym same) entry.there)

    each_front : (front : List ℕ) → IsFront listing folder front → Contains done front
    each_front [] AtFolder = seen_is_done [] walking.started
    each_front _ (Inside front name below entry) = seen_is_done ((front ++ name) ++ codes "/") (taken_at front name Directory (each_front front below) entry).0

    standing : (path : List ℕ) (kind : EntryKind) → Stands listing folder path kind → IsTaken walked.paths walked.has_dir (done ++ walked.left) path kind
    standing path kind there =
        subst (λ p. IsTaken walked.paths walked.has_dir (done ++ walked.left) p kind) (sym there.path_is) (taken_at there.front there.name kind (each_front there.front there.below) there.entry)

    pub walk_ends : IsBelow listing folder walked.paths walked.has_dir
    walk_ends = record {
      files = λ path. (λ here. All-contains (λ p. Stands listing folder p File) walked.paths path walking.sound.files here, λ there. standing path File there);
      listed = λ front below. let covered = covers front (each_front front below) in (covered.entries, covered.listed);
      no_link = λ path there. standing path Link there;
      nothing_special = λ path there. standing path Special there;
      payload = λ there. (standing (codes "data") Directory there).1 refl;
      no_payload = λ is. inl (walking.sound.payload is);
    }

  -- what is refused makes the folder unfit, at the same path
  pub walk_refuses : (old walked : Walked) (done : List (List ℕ)) (front path : List ℕ) (cause : Cause) → old ≡ record walked { left = walked.left ++ front ∷ [] } → IsWalking old done
      → RefusesFront listing folder front path cause → IsUnfit listing folder path cause
  walk_refuses old walked done front path cause is was refuses =
      let walking : IsWalking (record walked { left = walked.left ++ front ∷ [] }) done = subst (λ w. IsWalking w done) is was in
      let below : IsFront listing folder front = All-contains (IsFront listing folder) (walked.left ++ front ∷ []) front walking.sound.fronts (Contains-push walked.left front) in
      elim refuses [
        | inl unlisted ↦ subst (λ (p : List ℕ). IsUnfit listing folder p cause) (sym unlisted.0) (Unlisted unlisted.1 below unlisted.2 unlisted.3)
        | inr unfit ↦
            let stands : Stands listing folder path unfit.1.kind = record { front = front; name = unfit.1.name; below = below; entry = record { entries = unfit.0; listed = unfit.2; there = unfit.3 }; path_is = unfit.4 } in
            NotAllowed unfit.1.kind stands unfit.5
      ]
