-- A check from the declaration on.
use Rattle.std.proofs.Common.{◌≡◌, ◌<◌, ◌≤◌, ◌^◌, ◌∙◌, ℕ, true, false, None, List, [], ◌∷◌, Some, Result, Ok, Err, MatchResult, Global, String, string_bytes, length, slice_get, refl, sym, ap, subst, inl, inr, arith}
use Rattle.bag_rules.proofs.Words.{Algorithm, AreRising, BadDeclaration, Bag, Broken, CheckFault, Declaration, declaration_file, DeclarationStops, Declares, DeclFault, Encoding, excludes, Fault, FirstStops, HasFault, HoldsFile, IsDeclaration, IsDeclarationFault, IsFirstUnknown, IsFirstUnknownOf, IsInScope, IsJudged, IsLongTag, IsOutside, HasScope, IsThere, IsVerdict, Judged, Known, MatchOutside, Means, NoDeclaration, NoneStops, NoneUnknown, one_declaration, one_fault, Outcome, Outside, OutsideCause, ScopeStops, slice_get_within, Stopped, tier_of, Unknown, WorkStops}
use Rattle.bag_path.specs.declared.version.Version as format
use Rattle.bag_tags.specs.Declarations.{version_of as known_version}
use Rattle.bag_tags.proofs.DeclaredVersionLemmas.{begins_with_version}
use Rattle.bag_rules.specs.declared.scope.OutsideCause.TheVariants.{Version}
use Rattle.bag_rules.specs.Bags.{IsDeclared, paths_of, version_in, version_of}
use Rattle.bag_rules.proofs.LimitLemmas.{none_first, stopped_so}
use Rattle.bag_rules.proofs.OneVerdictLemmas.{lone}
use Rattle.bag_rules.proofs.RisingPaths.{higher}
use Rattle.bag_rules.proofs.TreeLemmas.{file_of_path, one_file, one_octets, shown_at, text_of}
use Rattle.bag_rules.proofs.ValidityLemmas.{complete_exactly, valid_exactly}
use Rattle.bag_rules.proofs.VerdictLemmas.{judged_by_declaration}

-- the report of one fault of the declaration is the verdict
one_fault_is : (bag : Bag) (own : Fault) → HasFault bag own → tier_of own ≡ 1 → ((fault : Fault) → tier_of fault < 2 → HasFault bag fault → own ≡ fault) → IsJudged bag (own ∷ [])
one_fault_is bag own broken first only = judged_by_declaration bag own (own ∷ []) broken first only (lone own) (λ fault. (λ h. h, λ h. h))

-- no fault but those of the declaration is below the second tier
only_declaration : (bag : Bag) (own fault : Fault) → tier_of fault < 2 → ((fault ≡ NoDeclaration) → HasFault bag NoDeclaration → own ≡ NoDeclaration) → ((cause : DeclFault) → HasFault bag (BadDeclaration cause) → own ≡ BadDeclaration cause) → HasFault bag fault → own ≡ fault
only_declaration bag own NoDeclaration below none bad broken = none refl broken
only_declaration bag own (BadDeclaration cause) below none bad broken = bad cause broken
only_declaration bag own _ below none bad broken = absurd (omega (arith, below))

pub none_verdict : (bag : Bag) → ¬ IsThere bag declaration_file → IsJudged bag (NoDeclaration ∷ [])
none_verdict bag absent = one_fault_is bag NoDeclaration absent refl (λ fault below broken. only_declaration bag NoDeclaration fault below (λ e b. refl) (λ cause b. absurd (absent (b.0, b.1))) broken)

bad_verdict : (bag : Bag) (octets : List ℕ) (cause : DeclFault) → AreRising (paths_of bag) → HoldsFile bag declaration_file octets → IsDeclarationFault octets cause → IsJudged bag (BadDeclaration cause ∷ [])
bad_verdict bag octets cause rising holds bad = one_fault_is bag (BadDeclaration cause) (octets, holds, bad) refl
    (λ fault below broken. only_declaration bag (BadDeclaration cause) fault below (λ e b. absurd (b (octets, holds)))
    (λ other b. ap BadDeclaration (one_fault octets cause other bad (subst (λ o. IsDeclarationFault o other) (one_octets bag declaration_file b.0 octets rising b.1 holds) b.2))) broken)

-- there is only one declaration
pub first_declaration : (bag : Bag) (i : ℕ) (octets : List ℕ) (fault : CheckFault) → AreRising (paths_of bag) → slice_get bag.files i ≡ Some (declaration_file, octets) → IsLongTag declaration_file octets fault → FirstStops bag DeclarationStops fault
first_declaration bag i octets fault rising there long = record {
  place = i;
  path = declaration_file;
  octets = octets;
  there = there;
  reason = (refl, long);
  first = λ j path other another below here stops.
      (let holds : slice_get bag.files j ≡ Some (declaration_file, other) = here ∙ ap (λ p. Some (p, other)) stops.0 in
      let same : j ≡ i = one_file bag j i declaration_file other octets rising holds there in
      omega (arith, below, same));
}

pub none_declaration : (bag : Bag) → ¬ IsThere bag declaration_file → NoneStops bag DeclarationStops
none_declaration bag absent i path octets fault below here stops = absent (octets, (i, here ∙ ap (λ p. Some (p, octets)) stops.0))

pub short_declaration : (bag : Bag) (octets : List ℕ) → AreRising (paths_of bag) → HoldsFile bag declaration_file octets → length octets ≤ 2 ^ 24 → NoneStops bag DeclarationStops
short_declaration bag octets rising holds short i path other fault below here stops =
    let same : other ≡ octets = one_octets bag declaration_file other octets rising (i, here ∙ ap (λ p. Some (p, other)) stops.0) holds in
    omega (arith, short, stops.1.0, ap length same)

-- the octets of the declaration decide the scope
not_declared : (bag : Bag) → ¬ IsThere bag declaration_file → ¬ IsInScope bag
not_declared bag absent scope = absent (scope.declared.declares.0, scope.declared.declares.1)

declares_so : (bag : Bag) (octets : List ℕ) → AreRising (paths_of bag) → HoldsFile bag declaration_file octets → (declared : IsDeclared bag) → IsDeclaration octets declared.declaration
declares_so bag octets rising holds declared = subst (λ o. IsDeclaration o declared.declaration) (one_octets bag declaration_file declared.declares.0 octets rising declared.declares.1 holds) declared.declares.2

bad_out : (bag : Bag) (octets : List ℕ) (cause : DeclFault) → AreRising (paths_of bag) → HoldsFile bag declaration_file octets → IsDeclarationFault octets cause → ¬ IsInScope bag
bad_out bag octets cause rising holds bad scope = excludes octets scope.declared.declaration cause (declares_so bag octets rising holds scope.declared) bad

-- WHAT THE DECLARATION AND THE NAMES OF THE MANIFESTS SAY

pub no_declaration : (bag : Bag) → ¬ IsThere bag declaration_file → HasScope bag (Broken NoDeclaration)
no_declaration bag absent = (none_verdict bag absent, not_declared bag absent)

pub bad_declaration : (bag : Bag) (octets : List ℕ) (cause : DeclFault) → AreRising (paths_of bag) → HoldsFile bag declaration_file octets → IsDeclarationFault octets cause → HasScope bag (Broken (BadDeclaration cause))
bad_declaration bag octets cause rising holds bad = (bad_verdict bag octets cause rising holds bad, bad_out bag octets cause rising holds bad)

-- tag files are read by the version that is declared
declared_by : (bag : Bag) (declaration : Declaration) (version : format.Version) → AreRising (paths_of bag) → Declares bag declaration → known_version declaration ≡ Some version → version_of bag ≡ version
declared_by bag declaration version rising declares known =
    ap version_in (text_of bag declaration_file declares.0 rising declares.1) ∙ sym (begins_with_version declares.0 declaration version declares.2 known)

pub is_declared : (bag : Bag) (declaration : Declaration) (version : format.Version) → AreRising (paths_of bag) → Declares bag declaration → known_version declaration ≡ Some version → declaration.utf8 ≡ true → IsDeclared bag
is_declared bag declaration version rising declares known utf8 = record {
  declaration = declaration;
  declares = declares;
  version_is = known ∙ ap Some (sym (declared_by bag declaration version rising declares known));
  in_utf8 = utf8;
}

-- another version, or another encoding
outside_verdict : (bag : Bag) (declaration : Declaration) (cause : OutsideCause) → Declares bag declaration → MatchOutside cause declaration → IsOutside bag cause
outside_verdict bag declaration Version declares other = (declaration, declares, other)
outside_verdict bag declaration Encoding declares other = (declaration, declares, other.0, other.1)
outside_verdict bag declaration (Algorithm name) declares other = absurd other

not_outside : (bag : Bag) (declaration : Declaration) (cause : OutsideCause) → known_version declaration ≡ Some (version_of bag) → declaration.utf8 ≡ true → MatchOutside cause declaration → ⊥
not_outside bag declaration Version known utf8 other = let clash : Some (version_of bag) ≡ None = sym known ∙ other in cc
not_outside bag declaration Encoding known utf8 other = let clash : true ≡ false = sym utf8 ∙ other.1 in cc
not_outside bag declaration (Algorithm name) known utf8 other = other

pub other_declaration : (bag : Bag) (declaration : Declaration) (cause : OutsideCause) → AreRising (paths_of bag) → Declares bag declaration → MatchOutside cause declaration → HasScope bag (Unknown cause)
other_declaration bag declaration cause rising declares other = (
  outside_verdict bag declaration cause declares other,
  λ scope.
      let declared = scope.declared in
      let same = one_declaration declares.0 declaration declared.declaration declares.2 (declares_so bag declares.0 rising declares.1 declared) in
      not_outside bag declaration cause (ap known_version same ∙ declared.version_is) (ap (λ (d : Declaration). d.utf8) same ∙ declared.in_utf8) other,
)

-- the first unknown algorithm among the paths is that of the bag
first_unknown : (bag : Bag) (word : List ℕ) → AreRising (paths_of bag) → IsFirstUnknownOf (paths_of bag) word → IsFirstUnknown bag word
first_unknown bag word rising of =
    let file = file_of_path bag of.place of.path of.there in
    record {
      path = of.path;
      there = (file.0, (of.place, file.1));
      unknown = of.unknown;
      first = λ other another there unknown greater.
          (let at = shown_at bag there.1.0 other there.0 there.1.1 in
          of.before there.1.0 other another (higher (paths_of bag) rising of.place there.1.0 of.path other of.there at greater) at unknown);
    }

pub unknown_algorithm : (bag : Bag) (name : String Global) → AreRising (paths_of bag) → IsDeclared bag → IsFirstUnknownOf (paths_of bag) (string_bytes name) → HasScope bag (Unknown (Algorithm name))
unknown_algorithm bag name rising declared of =
    let first = first_unknown bag (string_bytes name) rising of in
    ((declared, first), λ scope. scope.known first.path (string_bytes name) first.there first.unknown)

-- a bag that declares a known version and UTF-8, and whose algorithms are known
pub known_algorithms : (bag : Bag) (declaration : Declaration) (version : format.Version) → AreRising (paths_of bag) → Declares bag declaration → known_version declaration ≡ Some version → declaration.utf8 ≡ true → NoneUnknown (paths_of bag) (length (paths_of bag)) → HasScope bag (Known version)
known_algorithms bag declaration version rising declares known utf8 none = (
  record {
    declared = is_declared bag declaration version rising declares known utf8;
    known = λ path word there unknown. (let at = shown_at bag there.1.0 path there.0 there.1.1 in none there.1.0 path word (slice_get_within (paths_of bag) there.1.0 path at) at unknown);
  },
  declared_by bag declaration version rising declares known,
)

-- THE WHOLE

-- out of scope only the declaration has a limit, and in it the rest of the work decides
pub ended_stops : (bag : Bag) → NoneStops bag DeclarationStops → ¬ IsInScope bag → (fault : CheckFault) → ¬ WorkStops bag fault
ended_stops bag none out fault (inl first) = none_first bag DeclarationStops fault none first
ended_stops bag none out fault (inr rest) = out rest.1

pub scope_stopped : (bag : Bag) (r : Result Outcome CheckFault) → NoneStops bag DeclarationStops → IsInScope bag → MatchResult r (λ outcome. (fault : CheckFault) → ¬ ScopeStops bag fault) (Stopped (ScopeStops bag))
    → MatchResult r (λ outcome. (fault : CheckFault) → ¬ WorkStops bag fault) (Stopped (WorkStops bag))
scope_stopped bag (Ok outcome) none scope rest = λ fault stops. elim stops [ inl first ↦ none_first bag DeclarationStops fault none first | inr later ↦ rest fault later.2 ]
scope_stopped bag (Err fault) none scope rest = stopped_so (ScopeStops bag) (WorkStops bag) fault (λ stops. inr (none, scope, stops)) rest

-- what a verdict means
pub verdict_means : (bag : Bag) (outcome : Outcome) → AreRising (paths_of bag) → IsVerdict bag outcome → Means bag outcome
verdict_means bag (Judged faults) rising judged = (valid_exactly bag faults judged rising, complete_exactly bag faults judged rising)
verdict_means bag (Outside cause) rising outside = tt
