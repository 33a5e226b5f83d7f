-- The tag files of a tree, one at a time, and what is answered to them.
use Rattle.std.proofs.Common.{◌≡◌, ◌+◌, ◌++◌, ◌∷◌, ◌∙◌, ℕ, Bool, Err, IsErrOf, List, [], Option, Result, None, Some, ap, append-nil, arith, cond, false, get_or, inl, inr, map, not, refl, slice_get, subst, suc, sym, take, true, zero}
use Rattle.std.proofs.lemmas.List.Elements.{filter_more}
use Rattle.std.proofs.lemmas.Option.{get_or_from_slice_get, slice_get-map, slice_get_within}
use Rattle.std.specs.List.Sorted.{IsStrictlySortedBy}
use Rattle.std.specs.Option.{option_and_then, option_map}
use Rattle.bag_path.specs.Paths.{is_payload}
use Rattle.bag_rules.proofs.HasLemmas.{has_at, has_from_contains, has_map}
use Rattle.bag_rules.proofs.PutFiles.{by_path}
use Rattle.bag_rules.proofs.SameListLemmas.{all_has}
use Rattle.bag_rules.specs.declared.plan_fault.PlanFault.{PlanFault}
use Rattle.bag_rules.specs.Files.{AreTagFiles, IsTagFile}
use Rattle.bag_rules.specs.Trees.{Shown, UsesTree, octets_in, paths_in}
use Rattle.bag_receiver.specs.declared.begin.BeginFault.TheVariants as own
use Rattle.bag_receiver.specs.declared.begin.Begun.{Begun}
use Rattle.bag_receiver.specs.Beginning.{IsAnswerTo}
use Rattle.bag_receiver.specs.BeginningFrom.{AreGiven, IsBeginning, IsKnownAs, IsMetReading, tag_files}
use Rattle.bag_receiver.specs.BeginningInside.{begin_fault, IsMetAt, OpenWith}
use Rattle.bag_receiver.proofs.BeginFiles.{all_light}
use Rattle.bag_receiver.proofs.BeginRefusals.{taken as can_open, told}
use Rattle.bag_receiver.proofs.BeginSteps.{begins, counts_nothing, does_nothing_so}
use Rattle.bag_receiver.proofs.Words.{AreRising, BeginFault, BeginStep, Begins, Equal, Files, Greater, Has, IsHeavyAt, IsPlanOf, IsRefusal, IsTransferName, keys_of, Ledger, LedgerState, Less, light_tags, match_ordering, Memory, nat_cmp, nat_list_cmp_total, NoneMisplaced, ordering_reverse, Plan, Receiver, RefusesTags, slice_cmp, Store, StoreFault, tied_itself, with_file, with_files}

abbrev File : Type 0
File = List ℕ × Option (List ℕ)

push_given : (files : List File) (given : Files) (file : File) (one : List ℕ × List ℕ) → AreGiven files given → one.0 ≡ file.0 → IsKnownAs file.1 one.1 → AreGiven (files ++ file ∷ []) (given ++ one ∷ [])
push_given [] [] file one are same known = (same, known, tt)
push_given [] (g ∷ given) file one are same known = absurd are
push_given (f ∷ files) [] file one are same known = absurd are
push_given (f ∷ files) (g ∷ given) file one are same known = (are.0, are.1, push_given files given file one are.2 same known)

found : (o : Option File) (path : List ℕ) → option_map (λ (file : File). file.0) o ≡ Some path → (file : File) × (o ≡ Some file) × (file.0 ≡ path) × (option_and_then (λ (file : File). file.1) o ≡ file.1)
found None path e = cc
found (Some file) path e = let same : file.0 ≡ path = cc in (file, refl, same, refl)

-- the file with the path at an index
pub there : (shown : Shown) (i : ℕ) (path : List ℕ) → slice_get (paths_in shown) i ≡ Some path → (file : File) × (slice_get shown.files i ≡ Some file) × (file.0 ≡ path) × (octets_in shown i ≡ file.1)
there shown i path at = found (slice_get shown.files i) path (sym (slice_get-map (λ (file : File). file.0) shown.files i) ∙ at)

more : (files : List File) (i : ℕ) (file : File) (tag : Bool) → slice_get files i ≡ Some file → not (is_payload file.0) ≡ tag → tag_files (take (i + 1) files) ≡ tag_files (take i files) ++ cond tag (file ∷ []) []
more files i file tag at is =
    let same : get_or files i file ≡ file = get_or_from_slice_get files i file file at in
    filter_more (λ (file : File). not (is_payload file.0)) files i file (slice_get_within files i file at)
    ∙ ap (λ (f : File). tag_files (take i files) ++ cond (not (is_payload f.0)) (f ∷ []) []) same
    ∙ ap (λ (b : Bool). tag_files (take i files) ++ cond b (file ∷ []) []) is

-- a payload file is skipped
pub passed_over : (shown : Shown) (i : ℕ) (path : List ℕ) (given : Files) → slice_get (paths_in shown) i ≡ Some path → is_payload path ≡ true
    → AreGiven (tag_files (take i shown.files)) given → AreGiven (tag_files (take (i + 1) shown.files)) given
passed_over shown i path given at payload are =
    let here = there shown i path at in
    let file = here.0 in
    let no : not (is_payload file.0) ≡ false = ap (λ p. not (is_payload p)) here.2 ∙ ap not payload in
    subst (λ files. AreGiven files given) (sym (more shown.files i file false here.1 no ∙ append-nil (tag_files (take i shown.files)))) are

-- any other file is read
pub taken : (shown : Shown) (i : ℕ) (path : List ℕ) (given : Files) (one : List ℕ × List ℕ) → slice_get (paths_in shown) i ≡ Some path → is_payload path ≡ false
    → AreGiven (tag_files (take i shown.files)) given → one.0 ≡ path → IsKnownAs (octets_in shown i) one.1
    → AreGiven (tag_files (take (i + 1) shown.files)) (given ++ one ∷ [])
taken shown i path given one at tag_file are same known =
    let here = there shown i path at in
    let file = here.0 in
    let yes : not (is_payload file.0) ≡ true = ap (λ p. not (is_payload p)) here.2 ∙ ap not tag_file in
    let octets : IsKnownAs file.1 one.1 = subst (λ k. IsKnownAs k one.1) here.3 known in
    subst (λ files. AreGiven files (given ++ one ∷ [])) (sym (more shown.files i file true here.1 yes)) (push_given (tag_files (take i shown.files)) given file one are (same ∙ sym here.2) octets)

-- A FILE BEHIND THOSE WITH LESSER PATHS

insert_last : (files : Files) (path octets : List ℕ) → ((p : List ℕ) → Has (keys_of files) p → slice_cmp nat_cmp path p ≡ Greater) → with_file files path octets ≡ files ++ (path, octets) ∷ []
insert_last [] path octets greater = refl
insert_last (e ∷ es) path octets greater =
    ap (λ o. match_ordering o ((path, octets) ∷ e ∷ es) ((e.0, octets) ∷ es) (e ∷ with_file es path octets)) (greater e.0 (inl refl))
    ∙ ap (λ (rest : Files). e ∷ rest) (insert_last es path octets (λ p has. greater p (inr has)))

-- what stands before a file, by path, has a lesser path
lesser : {X : Type 0} (files : List (List ℕ × X)) (i : ℕ) (file : List ℕ × X) → AreRising (map (λ (f : List ℕ × X). f.0) files) → slice_get files i ≡ Some file
    → (p : List ℕ) → Has (map (λ (f : List ℕ × X). f.0) (take i files)) p → slice_cmp nat_cmp p file.0 ≡ Less
unfolding IsStrictlySortedBy
lesser [] i file rising at p has = absurd (cc)
lesser (f ∷ files) zero file rising at p has = absurd has
lesser {X} (f ∷ files) (suc i) file rising at p (inl same) =
    let later = has_map (λ (f : List ℕ × X). f.0) files file (has_at files i file at) in
    subst (λ q. slice_cmp nat_cmp q file.0 ≡ Less) same (all_has (λ other. slice_cmp nat_cmp f.0 other ≡ Less) (map (λ (f : List ℕ × X). f.0) files) file.0 rising.0 later)
lesser (f ∷ files) (suc i) file rising at p (inr has) = lesser files i file rising.1 at p has

given_key : (files : List File) (given : Files) → AreGiven files given → (p : List ℕ) → Has (keys_of given) p → Has (map (λ (f : File). f.0) files) p
given_key [] [] are p has = has
given_key [] (g ∷ given) are p has = absurd are
given_key (f ∷ files) [] are p has = absurd are
given_key (f ∷ files) (g ∷ given) are p (inl same) = inl (sym are.0 ∙ same)
given_key (f ∷ files) (g ∷ given) are p (inr has) = inr (given_key files given are.2 p has)

tag_key_by : (b : Bool) (f : File) (files : List File) (p : List ℕ) → (Has (map (λ (f : File). f.0) (tag_files files)) p → Has (map (λ (f : File). f.0) files) p)
    → Has (map (λ (f : File). f.0) (cond b (f ∷ tag_files files) (tag_files files))) p → Has (map (λ (f : File). f.0) (f ∷ files)) p
tag_key_by true f files p rest (inl same) = inl same
tag_key_by true f files p rest (inr has) = inr (rest has)
tag_key_by false f files p rest has = inr (rest has)

tag_key : (files : List File) (p : List ℕ) → Has (map (λ (f : File). f.0) (tag_files files)) p → Has (map (λ (f : File). f.0) files) p
tag_key [] p has = has
tag_key (f ∷ files) p has = tag_key_by (not (is_payload f.0)) f files p (tag_key files p) has

-- no files are tag files
pub no_tag_files : AreTagFiles []
unfolding IsStrictlySortedBy
no_tag_files = record { rising = tt; each = tt }

-- the next tag file is put behind the others
pub put_last : (shown : Shown) (i : ℕ) (path octets : List ℕ) (tags : Files) → AreRising (paths_in shown) → slice_get (paths_in shown) i ≡ Some path → AreGiven (tag_files (take i shown.files)) tags
    → with_file tags path octets ≡ tags ++ (path, octets) ∷ []
put_last shown i path octets tags rising at are =
    let here = there shown i path at in
    insert_last tags path octets (λ p has.
    let before = tag_key (take i shown.files) p (given_key (tag_files (take i shown.files)) tags are p has) in
    let less = subst (λ q. slice_cmp nat_cmp p q ≡ Less) here.2 (lesser shown.files i here.0 rising here.1 p before) in
    nat_list_cmp_total.antisymm path p ∙ ap ordering_reverse less)

-- a fault of reading a tag file is one of reading them all
pub met_at : (shown : Shown) (i : ℕ) (path : List ℕ) (fault : BeginFault) → slice_get (paths_in shown) i ≡ Some path → is_payload path ≡ false → IsMetAt shown i fault → IsMetReading shown fault
met_at shown i path own.Tree at tag_file met = tt
met_at shown i path (own.TagTooLarge large) at tag_file met =
    let same : path ≡ large = (let e : Some path ≡ Some large = sym at ∙ met.0 in cc) in
    record { place = i; there = met.0; tag_file = ap is_payload (sym same) ∙ tag_file; heavy = met.1 }
met_at shown i path (own.Keeper why) at tag_file met = met
met_at shown i path own.BadName at tag_file met = absurd met
met_at shown i path (own.TagPath n) at tag_file met = absurd met
met_at shown i path (own.Outside cause) at tag_file met = absurd met
met_at shown i path (own.Rules why) at tag_file met = absurd met
met_at shown i path (own.Clash other) at tag_file met = absurd met
met_at shown i path own.Differs at tag_file met = absurd met

-- A SET OF TAG FILES, given as it is

module _ (tags : Files) (are : AreTagFiles tags) where
  none_misplaced : NoneMisplaced tags
  none_misplaced i misplaced = elim misplaced.misplaced [
    | inl other ↦ other (all_has IsTagFile tags misplaced.file are.each (has_at tags i misplaced.file misplaced.at)).0
    | inr twice ↦
        let less = lesser tags i misplaced.file are.rising misplaced.at misplaced.file.0 (has_from_contains (keys_of (take i tags)) misplaced.file.0 twice) in
        let e : Equal ≡ Less = sym (tied_itself nat_list_cmp_total misplaced.file.0) ∙ less in
        cc
  ]

  none_heavy : (path : List ℕ) → ¬ IsHeavyAt tags path
  none_heavy path (octets, has, heavy) = (let is = all_has IsTagFile tags (path, octets) are.each has in let within = is.1 in omega (arith, heavy, within))

  as_given : tags ≡ light_tags tags
  as_given = sym (ap (with_files []) (all_light tags none_heavy) ∙ by_path tags are.rising)

  pub opens : (plan : Plan) → IsPlanOf tags plan → OpenWith tags plan
  opens plan is = (can_open tags none_misplaced none_heavy tags plan as_given is, is)

  pub refuses : (fault : PlanFault) → RefusesTags tags fault → IsRefusal tags (begin_fault fault)
  refuses fault refused = told tags none_misplaced none_heavy tags fault as_given refused

-- THE ANSWER

module _ {K : Type 0} (holds may_leave : K → Ledger → Type 0) (clean : K → Type 0) (failures : K → ℕ) (name : List ℕ) (receiver : Receiver K) (given : Files) (named : IsTransferName name) where
  abbrev IsAnswered : BeginFault → Type 0
  IsAnswered fault = IsBeginning holds may_leave clean failures name receiver receiver given (Err fault)

  so : (fault : BeginFault) → IsAnswerTo (Err fault) name given → ((now : LedgerState) → BeginStep (Err fault) name given now now)
      → ((store : StoreFault) → ◌≡◌ {A = Result Begun BeginFault} (Err fault) (Err (own.Keeper (Store store))) → ⊥) → IsAnswered fault
  so fault judged step none = record {
    judged = judged;
    begun = does_nothing_so holds may_leave clean receiver (Begins name given (Err fault)) (λ now. begins (Err fault) name given now now (step now));
    store = counts_nothing ((store : StoreFault) × IsErrOf {T = Begun} (Err fault) (own.Keeper (Store store))) (failures receiver.keeper) (λ h. none h.0 h.1);
  }

  -- tag files that are refused change nothing
  pub refused_so : (fault : BeginFault) → IsRefusal given fault → IsAnswered fault
  refused_so fault (inl memory) = subst IsAnswered (sym memory) (so (own.Keeper Memory) tt (λ now. (tt, inl refl)) (λ store e. cc))
  refused_so (own.TagPath i) (inr is) = so (own.TagPath i) (named, is) (λ now. (named, is, refl)) (λ store e. cc)
  refused_so (own.TagTooLarge path) (inr is) = so (own.TagTooLarge path) (named, is) (λ now. (named, is, refl)) (λ store e. cc)
  refused_so (own.Outside cause) (inr is) = so (own.Outside cause) (named, is) (λ now. (named, is, refl)) (λ store e. cc)
  refused_so (own.Rules why) (inr is) = so (own.Rules why) (named, is) (λ now. (named, is, refl)) (λ store e. cc)
  refused_so (own.Clash path) (inr is) = so (own.Clash path) (named, is) (λ now. (named, is, refl)) (λ store e. cc)
  refused_so own.BadName (inr is) = absurd is
  refused_so own.Differs (inr is) = absurd is
  refused_so own.Tree (inr is) = absurd is
  refused_so (own.Keeper why) (inr is) = absurd is

-- the answer to tag files is not that their tree failed
pub not_tree : (answer : Result Begun BeginFault) (name : List ℕ) (given : Files) → IsAnswerTo answer name given → ¬ IsErrOf answer own.Tree
not_tree answer name given judged failed = (subst (λ (a : Result Begun BeginFault). IsAnswerTo a name given) failed judged).1

-- what was done to a tree, with another result that says the same
pub uses_as : {T F G : Type 0} {shown : T → Shown} {failures : T → ℕ} {sure : T → Type 0} {a b : T} → UsesTree shown failures sure a b F → (F → G) → (G → F) → UsesTree shown failures sure a b G
uses_as uses there back = record {
  same = uses.same;
  counted = record { rises = λ g. uses.counted.rises (back g); stays = λ n. uses.counted.stays (λ f. n (there f)) };
  stays_sure = λ s. ((uses.stays_sure s).0, (λ g. (uses.stays_sure s).1 (back g)));
}

pub err_as : {A B : Type 0} (first : Result A BeginFault) (second : Result B BeginFault) (why failed : BeginFault) → first ≡ Err why → second ≡ Err why → IsErrOf first failed → IsErrOf second failed
err_as {A} {B} first second why failed is also e =
    let h : ◌≡◌ {A = Result A BeginFault} (Err why) (Err failed) = sym is ∙ e in
    let same : why ≡ failed = cc in
    also ∙ ap Err same
