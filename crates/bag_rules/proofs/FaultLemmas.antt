-- Faults that `==` calls equal are the same.
use Rattle.std.proofs.Common.{◌≡◌, ◌&&◌, ℕ, Bool, true, refl, ap, ◌∙◌}
use Rattle.bag_rules.proofs.Words.{and_parts, BadDeclaration, BadLine, bytes_eq-Decides, false≢true, Fault, FetchLength, FetchList, FetchNotListed, Info, LineCause, LineFile, Manifest, ManifestName, ManifestNotListed, Missing, NoDeclaration, NoManifest, NoPayloadDir, OxumForm, OxumTwice, OxumWrong, Unlisted, unsigned_Decides, WrongDigest}
use denote.Enum.Bare.{same_true}
use Rattle.bag_digest.specs.contracts.algorithm.Alg as algorithm
use Rattle.bag_tags.specs.contracts.listing.Kind as listing
use Rattle.bag_tags.specs.contracts.declaration.DeclFault as declarations
use Rattle.bag_path.specs.contracts.path.PathFault as path_faults
use Rattle.bag_tags.specs.declared.tag_fault.LineCause.TheVariants as cause_of
use Rattle.bag_tags.specs.contracts.tag_fault.LineCausePartialEq.TheImpl as cause
use Rattle.bag_tags.specs.contracts.name.ManifestNamePartialEq.TheImpl as name
use Rattle.bag_tags.specs.contracts.name.LineFilePartialEq.TheImpl as file
use Rattle.bag_rules.specs.contracts.fault.FaultPartialEq.TheImpl as impl

same_both : {A B C : Type 0} (f : A → B → C) {a a' : A} {b b' : B} (s t : Bool) → (s ≡ true → a ≡ a') → (t ≡ true → b ≡ b') → (s && t) ≡ true → f a b ≡ f a' b'
same_both f {a} {a'} {b} {b'} s t first second h = ap (λ x. f x b) (first (and_parts s t h).0) ∙ ap (f a') (second (and_parts s t h).1)

name_same : (x y : ManifestName) → name.ghosts.eq x y ≡ true → x ≡ y
name_same x y h = same_both (λ k a. record { kind = k; alg = a }) _ _ (same_true listing.the_type tt x.kind y.kind) (same_true algorithm.the_type tt x.alg y.alg) h

cause_same : (x y : LineCause) → cause.ghosts.eq x y ≡ true → x ≡ y
cause_same cause_of.NotUtf8 cause_of.NotUtf8 h = refl
cause_same cause_of.NoSeparator cause_of.NoSeparator h = refl
cause_same cause_of.BadDigest cause_of.BadDigest h = refl
cause_same (cause_of.BadPath x) (cause_of.BadPath y) h = ap cause_of.BadPath (same_true path_faults.the_type tt x y h)
cause_same cause_of.WrongPlace cause_of.WrongPlace h = refl
cause_same cause_of.Twice cause_of.Twice h = refl
cause_same cause_of.BadLabel cause_of.BadLabel h = refl
cause_same cause_of.NothingToContinue cause_of.NothingToContinue h = refl
cause_same cause_of.BadUrl cause_of.BadUrl h = refl
cause_same cause_of.BadLength cause_of.BadLength h = refl
cause_same _ _ h = absurd (false≢true h)

file_same : (x y : LineFile) → file.ghosts.eq x y ≡ true → x ≡ y
file_same Info Info h = refl
file_same FetchList FetchList h = refl
file_same (Manifest x) (Manifest y) h = ap Manifest (name_same x y h)
file_same _ _ h = absurd (false≢true h)

pub fault_same : (x y : Fault) → impl.ghosts.eq x y ≡ true → x ≡ y
fault_same NoDeclaration NoDeclaration h = refl
fault_same (BadDeclaration x) (BadDeclaration y) h = ap BadDeclaration (same_true declarations.the_type tt x y h)
fault_same NoPayloadDir NoPayloadDir h = refl
fault_same NoManifest NoManifest h = refl
fault_same (BadLine f n c) (BadLine f' n' c') h =
    same_both (λ (f : LineFile) (rest : ℕ × LineCause). BadLine f rest.0 rest.1) _ _ (file_same f f')
    (same_both (λ n c. (n, c)) _ _ (unsigned_Decides n n').0 (cause_same c c')) h
fault_same (ManifestNotListed a b) (ManifestNotListed a' b') h = same_both ManifestNotListed _ _ (same_true algorithm.the_type tt a a') (same_true algorithm.the_type tt b b') h
fault_same OxumForm OxumForm h = refl
fault_same OxumTwice OxumTwice h = refl
fault_same (Missing a b) (Missing a' b') h = same_both Missing _ _ (name_same a a') (bytes_eq-Decides b b').0 h
fault_same (Unlisted a b) (Unlisted a' b') h = same_both Unlisted _ _ (same_true algorithm.the_type tt a a') (bytes_eq-Decides b b').0 h
fault_same (FetchNotListed a b) (FetchNotListed a' b') h = same_both FetchNotListed _ _ (same_true algorithm.the_type tt a a') (bytes_eq-Decides b b').0 h
fault_same (FetchLength a b) (FetchLength a' b') h = same_both FetchLength _ _ (unsigned_Decides a a').0 (bytes_eq-Decides b b').0 h
fault_same OxumWrong OxumWrong h = refl
fault_same (WrongDigest a b) (WrongDigest a' b') h = same_both WrongDigest _ _ (name_same a a') (bytes_eq-Decides b b').0 h
fault_same _ _ h = absurd (false≢true h)
