-- A line of a manifest adds one pair, or is refused for one cause.
use Rattle.std.proofs.Common.{◌≡◌, ◌==◌, ℕ, true, false, List, [], ◌++◌, sym, ap, ◌∙◌, subst, length}
use Rattle.std.specs.List.{AllByRecursion}
use Rattle.bag_path.specs.declared.version.Version.{Version}
use Rattle.bag_path.specs.declared.path.PathFault.{PathFault}
use Rattle.bag_path.specs.declared.path.PathFault.TheVariants as path
use Rattle.bag_path.specs.Spellings.{RefusesSpelling, Spells}
use Rattle.bag_digest.specs.declared.algorithm.Alg.{Alg}
use Rattle.bag_digest.specs.declared.digest.Digest.{Digest}
use Rattle.bag_digest.specs.Spelling.{SpellsDigest}
use Rattle.bag_tags.specs.Words.{is_blank, IsNotBlank, IsCut}
use Rattle.bag_tags.specs.WordsReading.{until, is_not_blank}
use Rattle.bag_tags.specs.Listings.{Listing, pair, with_pair}
use Rattle.bag_tags.specs.Manifests.{plain_path, HasChecksum, Gives, AddsPair, SpellsNoPath}
use Rattle.bag_tags.specs.declared.tag_fault.LineCause.{LineCause}
use Rattle.bag_tags.specs.declared.tag_fault.LineCause.TheVariants.{BadPath}
use Rattle.bag_tags.specs.TagLines.{Causes, cause_of}
use Rattle.bag_path.proofs.SpellsLemmas.{one_path}
use Rattle.bag_digest.proofs.Spelled.{one_digest_spelled}
use Rattle.bag_tags.proofs.WordsLemmas.{cut_word, cut_blanks, cut_some, cut_at, nothing_left}

-- two cuts of one text
pub same_word : (text w b r v c s : List ℕ) → IsCut text w b r → IsCut text v c s → (w ≡ v) × (b ++ r ≡ c ++ s)
same_word text w b r v c s p q =
    let e : (let u : List ℕ × List ℕ = (w, b ++ r) in u) ≡ (v, c ++ s) = sym (cut_word text w b r p) ∙ cut_word text v c s q in
    (ap (λ (u : List ℕ × List ℕ). u.0) e, ap (λ (u : List ℕ × List ℕ). u.1) e)

pub same_rest : (text w b r v c s : List ℕ) → IsCut text w b r → IsCut text v c s → r ≡ s
same_rest text w b r v c s p q =
    let e : (let u : List ℕ × List ℕ = (b, r) in u) ≡ (c, s) = sym (cut_blanks text w b r p) ∙ ap (until is_not_blank) (same_word text w b r v c s p q).1 ∙ cut_blanks text v c s q in
    ap (λ (u : List ℕ × List ℕ). u.1) e

-- a text without blanks has no cut
pub no_cut : (text w b r : List ℕ) → IsCut text w b r → AllByRecursion IsNotBlank text → ⊥
no_cut text w b r p h =
    let none : b ++ r ≡ [] = sym (ap (λ (u : List ℕ × List ℕ). u.1) (cut_word text w b r p)) ∙ nothing_left is_blank text h in
    let k : true ≡ false = sym (ap (λ xs. length xs == 0) none) ∙ cut_some text w b r p in cc

-- a line has one digest and one text of a path
pub checksum_one : (alg : Alg) (text : List ℕ) (d e : Digest) (p q : List ℕ) → HasChecksum alg text d p → HasChecksum alg text e q → (d ≡ e) × (p ≡ q)
checksum_one alg text d e p q h k = (
  one_digest_spelled alg k.checksum d e (subst (λ w. SpellsDigest alg w d) (same_word text h.checksum h.blanks p k.checksum k.blanks q h.cut k.cut).0 h.spells_digest) k.spells_digest,
  same_rest text h.checksum h.blanks p k.checksum k.blanks q h.cut k.cut,
)

-- a line gives one path, and one digest
pub gives_one : (version : Version) (alg : Alg) (text p q : List ℕ) (d e : Digest) → Gives version alg text p d → Gives version alg text q e → (p ≡ q) × (d ≡ e)
gives_one version alg text p q d e h k =
    let c = checksum_one alg text d e h.path_text k.path_text h.checksum k.checksum in
    (one_path version p q (plain_path k.path_text) (subst (λ t. Spells version p (plain_path t)) c.1 h.spells) k.spells, c.0)

pub adds_one : (version : Version) (value : Listing) (number : ℕ) (text : List ℕ) (next other : Listing) → AddsPair version value number text next → AddsPair version value number text other → next ≡ other
adds_one version value number text next other h k =
    let g = gives_one version value.alg text h.path k.path h.digest k.digest h.gives k.gives in
    h.added ∙ ap (λ p. with_pair value (pair p h.digest)) g.0 ∙ ap (λ d. with_pair value (pair k.path d)) g.1 ∙ sym k.added

-- a line that was cut before its first blank
pub cut_by : (text word rest blanks more : List ℕ) → until is_blank text ≡ (word, rest) → (length rest == 0) ≡ false → until is_not_blank rest ≡ (blanks, more) → IsCut text word blanks more
cut_by text word rest blanks more e some f =
    let cut = cut_at text (ap (λ (u : List ℕ × List ℕ). length u.1 == 0) e ∙ some) in
    subst (λ (u : List ℕ × List ℕ). IsCut text word u.0 u.1) f (subst (λ (u : List ℕ × List ℕ). IsCut text u.0 (until is_not_blank u.1).0 (until is_not_blank u.1).1) e cut)

-- the checksum of a line that was cut twice
pub checksum_by : (alg : Alg) (text word rest blanks path_text : List ℕ) (digest : Digest) → until is_blank text ≡ (word, rest) → (length rest == 0) ≡ false → until is_not_blank rest ≡ (blanks, path_text) → SpellsDigest alg word digest → HasChecksum alg text digest path_text
checksum_by alg text word rest blanks path_text digest e some f spells = record { checksum = word; blanks = blanks; cut = cut_by text word rest blanks path_text e some f; spells_digest = spells }

-- what refuses a text that spells no path, refuses it for the cause of its fault
pub refused_path : (P : LineCause → Type 0) (version : Version) (text : List ℕ) (fault : PathFault) → ((fault : PathFault) → SpellsNoPath fault version text → P (BadPath fault)) → RefusesSpelling fault version text → Causes P (cause_of fault)
refused_path P version text path.Memory f h = tt
refused_path P version text path.Empty f h = f path.Empty h
refused_path P version text path.TooLong f h = f path.TooLong h
refused_path P version text path.EmptySegment f h = f path.EmptySegment h
refused_path P version text path.DotSegment f h = f path.DotSegment h
refused_path P version text path.Nul f h = f path.Nul h
refused_path P version text path.PayloadRoot f h = f path.PayloadRoot h
refused_path P version text path.BadEscape f h = f path.BadEscape h
