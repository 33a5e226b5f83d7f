-- A bag has at most one verdict, and its files have one order.
use Rattle.std.proofs.Common.{◌≡◌, ◌≢◌, ◌↔◌, ◌∙◌, ℕ, true, false, List, [], ◌∷◌, Some, None, is_some, refl, sym, ap, subst, string_bytes}
use Rattle.bag_rules.proofs.Words.{Algorithm, AreInOrder, AreRising, Bag, Declaration, declaration_file, Declares, Encoding, Equal, exact_bytes, Fault, Greater, Has, HoldsFile, IsDeclaration, IsFirstUnknown, IsInScope, IsJudged, IsOutside, IsUnknownManifest, IsVerdict, Judged, Less, nat_cmp, nat_list_cmp_total, one_word, Ordering, ordering_reverse, Outcome, Outside, OutsideCause, SameCause, SameVerdict, slice_cmp}
use Rattle.std.specs.List.Sorted.{IsStrictlySortedBy}
use Rattle.bag_tags.specs.Declarations.{version_of as known_version}
use Rattle.bag_tags.proofs.DeclarationLemmas as declarations
use Rattle.bag_rules.specs.contracts.fault.FaultOrd.TheImpl as order
use Rattle.bag_rules.specs.contracts.fault.FaultOrd.TheImpl.Laws as laws
use Rattle.bag_rules.specs.declared.scope.OutsideCause.TheVariants.{Version}
use Rattle.bag_rules.specs.Bags.{IsDeclared, paths_of, version_of}
use Rattle.bag_rules.proofs.HasLemmas.{has_at, place_of_has}
use Rattle.bag_rules.proofs.SameListLemmas.{asymmetric, same_list, sorted_by_key}
use Rattle.bag_rules.proofs.TreeLemmas.{one_octets}
use Rattle.bag_rules.proofs.VerdictLemmas.{declared_none}

-- THE ORDER OF FILES

pub same_bag : (a b : Bag) → AreRising (paths_of a) → AreRising (paths_of b) → ((path octets : List ℕ) → HoldsFile a path octets ↔ HoldsFile b path octets) → a.has_payload_dir ≡ b.has_payload_dir → a ≡ b
same_bag a b rising rises same dir =
    let key = λ (file : List ℕ × List ℕ). file.0 in
    let found : (bag : Bag) (file : List ℕ × List ℕ) → HoldsFile bag file.0 file.1 → Has bag.files file = λ bag file holds. has_at bag.files holds.0 file holds.1 in
    let files = same_list (λ x y. slice_cmp nat_cmp (key x) (key y)) (λ x y. asymmetric nat_list_cmp_total (key x) (key y)) a.files b.files
    (sorted_by_key key (slice_cmp nat_cmp) a.files rising) (sorted_by_key key (slice_cmp nat_cmp) b.files rises)
    (λ file has. found b file ((same file.0 file.1).0 (place_of_has a.files file has)))
    (λ file has. found a file ((same file.0 file.1).1 (place_of_has b.files file has))) in
    λ t. record { files = files t; has_payload_dir = dir t }

-- VERDICTS

-- a bag has one list of faults
one_list : (bag : Bag) (faults others : List Fault) → IsJudged bag faults → IsJudged bag others → faults ≡ others
one_list bag faults others p q = same_list order.ghosts.cmp (asymmetric laws.lawful.total) faults others p.in_order q.in_order
    (λ fault has. (q.exact fault).1 ((p.exact fault).0 has))
    (λ fault has. (p.exact fault).1 ((q.exact fault).0 has))

one_declared : (bag : Bag) (d e : Declaration) → AreRising (paths_of bag) → Declares bag d → Declares bag e → d ≡ e
one_declared bag d e rising p q = declarations.one_declaration q.0 d e (subst (λ o. IsDeclaration o d) (one_octets bag declaration_file p.0 q.0 rising p.1 q.1) p.2) q.2

-- what declares a known version and UTF-8 isn't of another
pub not_version : (bag : Bag) → AreRising (paths_of bag) → IsDeclared bag → IsOutside bag Version → ⊥
not_version bag rising declared other = let clash : Some (version_of bag) ≡ None = sym declared.version_is ∙ ap known_version (one_declared bag declared.declaration other.0 rising declared.declares other.1) ∙ other.2 in cc

pub not_encoding : (bag : Bag) → AreRising (paths_of bag) → IsDeclared bag → IsOutside bag Encoding → ⊥
not_encoding bag rising declared other = let clash : true ≡ false = sym declared.in_utf8 ∙ ap (λ (d : Declaration). d.utf8) (one_declared bag declared.declaration other.0 rising declared.declares other.1) ∙ other.3 in cc

not_both : (bag : Bag) → AreRising (paths_of bag) → IsOutside bag Version → IsOutside bag Encoding → ⊥
not_both bag rising v n = let clash : false ≡ true = ap is_some (sym v.2 ∙ ap known_version (one_declared bag v.0 n.0 rising v.1 n.1)) ∙ n.2 in cc

-- a bag that declares something is judged only in scope
in_scope : (bag : Bag) (faults : List Fault) (declaration : Declaration) → AreRising (paths_of bag) → IsJudged bag faults → Declares bag declaration → IsInScope bag
in_scope bag faults declaration rising judged declares = judged.in_scope (declared_none bag declaration rising declares)

not_judged : (bag : Bag) (faults : List Fault) (cause : OutsideCause) → AreRising (paths_of bag) → IsJudged bag faults → IsOutside bag cause → ⊥
not_judged bag faults Version rising judged out = not_version bag rising (in_scope bag faults out.0 rising judged out.1).declared out
not_judged bag faults Encoding rising judged out = not_encoding bag rising (in_scope bag faults out.0 rising judged out.1).declared out
not_judged bag faults (Algorithm name) rising judged out = (in_scope bag faults out.0.declaration rising judged out.0.declares).known out.1.path (string_bytes name) out.1.there out.1.unknown

-- neither is greater, so they are the same
neither : (x y : List ℕ) (o : Ordering) → slice_cmp nat_cmp x y ≡ o → slice_cmp nat_cmp x y ≢ Greater → slice_cmp nat_cmp y x ≢ Greater → x ≡ y
neither x y Less e p q = absurd (q (nat_list_cmp_total.antisymm y x ∙ ap ordering_reverse e))
neither x y Equal e p q = exact_bytes x y e
neither x y Greater e p q = absurd (p e)

one_unknown : (bag : Bag) (word other : List ℕ) → IsFirstUnknown bag word → IsFirstUnknown bag other → word ≡ other
one_unknown bag word other f g =
    let same = neither f.path g.path (slice_cmp nat_cmp f.path g.path) refl (f.first g.path other g.there g.unknown) (g.first f.path word f.there f.unknown) in
    one_word g.path word other (subst (λ p. IsUnknownManifest p word) same f.unknown) g.unknown

one_cause : (bag : Bag) (cause other : OutsideCause) → AreRising (paths_of bag) → IsOutside bag cause → IsOutside bag other → SameCause cause other
one_cause bag Version Version rising p q = tt
one_cause bag Version Encoding rising p q = absurd (not_both bag rising p q)
one_cause bag Version (Algorithm name) rising p q = absurd (not_version bag rising q.0 p)
one_cause bag Encoding Version rising p q = absurd (not_both bag rising q p)
one_cause bag Encoding Encoding rising p q = tt
one_cause bag Encoding (Algorithm name) rising p q = absurd (not_encoding bag rising q.0 p)
one_cause bag (Algorithm name) Version rising p q = absurd (not_version bag rising p.0 q)
one_cause bag (Algorithm name) Encoding rising p q = absurd (not_encoding bag rising p.0 q)
one_cause bag (Algorithm name) (Algorithm other) rising p q = one_unknown bag (string_bytes name) (string_bytes other) p.1 q.1

-- a report of one fault
pub lone : (fault : Fault) → AreInOrder (fault ∷ [])
unfolding IsStrictlySortedBy
lone fault = (tt, tt)

pub lone_report : (fault : Fault) (report : List Fault) → AreInOrder report → ((f : Fault) → Has report f ↔ Has (fault ∷ []) f) → report ≡ fault ∷ []
lone_report fault report in_order same = same_list order.ghosts.cmp (asymmetric laws.lawful.total) report (fault ∷ []) in_order (lone fault) (λ f h. (same f).0 h) (λ f h. (same f).1 h)

pub one_verdict : (bag : Bag) (a b : Outcome) → AreRising (paths_of bag) → IsVerdict bag a → IsVerdict bag b → SameVerdict a b
one_verdict bag (Judged faults) (Judged others) rising p q = one_list bag faults others p q
one_verdict bag (Judged faults) (Outside cause) rising p q = absurd (not_judged bag faults cause rising p q)
one_verdict bag (Outside cause) (Judged faults) rising p q = absurd (not_judged bag faults cause rising q p)
one_verdict bag (Outside cause) (Outside other) rising p q = one_cause bag cause other rising p q
