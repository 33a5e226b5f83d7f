use Rattle.std.proofs.Common.{◌≡◌, ◌==◌, List, ℕ, true, false, length, refl, sym, ap, ◌∙◌, subst}
use Rattle.std.proofs.lemmas.Result.{err_from_is_err_and}
use Rattle.bag_digest.specs.declared.digest.Digest.{Digest}
use Rattle.bag_digest.specs.Spelling.{SpellsDigest}
use Rattle.bag_path.specs.Spellings.{RefusesSpelling, Spells}
use Rattle.bag_tags.specs.Manifests.{GivesNothing}
use Rattle.bag_tags.specs.Words.{is_blank}
use Rattle.bag_tags.specs.WordsReading.{until, is_not_blank}
use Rattle.bag_tags.proofs.WordsLemmas.{none_passes}
use Rattle.bag_tags.proofs.ManifestLemmas.{cut_by, checksum_by, refused_path}
use Rattle.bag_tags.proofs.manifest.read_pair.Goals as goal

pub returns-then-is_empty-clause-err : goal.returns-then-is_empty-clause-err
returns-then-is_empty-clause-err c =
    let none : (length (until is_blank c.args.text.now).1 == 0) ≡ true = ap (λ (u : List ℕ × List ℕ). length u.1 == 0) c.split_text.ensures ∙ sym c.is_empty.ensures ∙ c.if-is_empty.true in
    none_passes is_blank c.args.text.now none

pub returns-in_default-clause-err : goal.returns-in_default-clause-err
returns-in_default-clause-err c =
    let some : (length c.split_text.result.1.now == 0) ≡ false = sym c.is_empty.ensures ∙ c.if-is_empty.false in
    let rest = c.split_text.result.1.now in
    record {
      checksum = c.split_text.result.0.now;
      blanks = (until is_not_blank rest).0;
      path_text = (until is_not_blank rest).1;
      cut = cut_by _ _ rest _ _ c.split_text.ensures some refl;
      no_digest = subst (λ t. (digest : Digest) → ¬ SpellsDigest c.args.alg t digest) c.as_bytes.ensures.value c.in_default.ensures.none;
    }

pub returns-in_err-path-clause-err : goal.returns-in_err-path-clause-err
returns-in_err-path-clause-err c =
    let some : (length c.split_text.result.1.now == 0) ≡ false = sym c.is_empty.ensures ∙ c.if-is_empty.false in
    let checksum = checksum_by c.args.alg c.args.text.now c.split_text.result.0.now c.split_text.result.1.now c.split_text-2.result.0.now c.split_text-2.result.1.now c.in-Some.digest c.split_text.ensures some c.split_text-2.ensures (subst (λ t. SpellsDigest c.args.alg t c.in-Some.digest) c.as_bytes.ensures.value c.in-Some.ensures.spelled) in
    let p = err_from_is_err_and c.from_residual.result c.from_residual.ensures.1 in
    rw (p.1, p.2) (refused_path (GivesNothing c.args.version c.args.alg c.args.text.now) c.args.version _ _ (λ fault n. record { digest = _; path_text = _; checksum = checksum; no_path = n }) (subst (λ t. RefusesSpelling c.in_err-path.field-0.0 c.args.version t) c.plain_path.ensures c.in_err-path.ensures.fault))

pub returns-clause-ok : goal.returns-clause-ok
returns-clause-ok c =
    let some : (length c.split_text.result.1.now == 0) ≡ false = sym c.is_empty.ensures ∙ c.if-is_empty.false in
    record {
      path_text = c.split_text-2.result.1.now;
      checksum = checksum_by c.args.alg c.args.text.now c.split_text.result.0.now c.split_text.result.1.now c.split_text-2.result.0.now c.split_text-2.result.1.now c.in-Some.digest c.split_text.ensures some c.split_text-2.ensures (subst (λ t. SpellsDigest c.args.alg t c.in-Some.digest) c.as_bytes.ensures.value c.in-Some.ensures.spelled);
      spells = subst (Spells c.args.version c.in_ok-path.path) c.plain_path.ensures c.in_ok-path.ensures.path.0;
      is_path = c.in_ok-path.ensures.path.1;
    }
