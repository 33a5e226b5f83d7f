use Rattle.std.proofs.Common.{◌≡◌, true, false, sym, ◌∙◌, subst}
use Rattle.bag_tags.specs.FetchEntries.{IsUrl}
use Rattle.bag_tags.specs.FetchText.{GivesNoEntry, IsLength}
use Rattle.std.proofs.lemmas.Result.{err_from_is_err_and}
use Rattle.bag_tags.proofs.FetchLineLemmas.{gives_of}
use Rattle.bag_tags.proofs.ManifestLemmas.{refused_path}
use Rattle.bag_tags.proofs.fetch.read_entry.Goals as goal

pub returns-then-not-is_url-clause-err : goal.returns-then-not-is_url-clause-err
returns-then-not-is_url-clause-err c = record {
  url = c.in-Some.url.now;
  length = c.in-Some.length.now;
  path_text = c.in-Some.path.now;
  words = c.in-Some.ensures.some;
  no_url = λ url. let k : false ≡ true = sym c.if-not-is_url.true ∙ c.is_url.ensures.1 (subst IsUrl (sym c.as_bytes.ensures.value) url) in cc;
}

pub returns-in-Err-NotPayload-clause-err : goal.returns-in-Err-NotPayload-clause-err
returns-in-Err-NotPayload-clause-err c =
    let refused = rw c.in-Err-NotPayload.field-0-is at c.in-Err-NotPayload.ensures.refused in
    record {
      entry = _;
      gives = gives_of c.args.version c.args.text.now _ _ _ _ _ c.in-Some.ensures.some (subst IsUrl c.as_bytes.ensures.value (c.is_url.ensures.0 c.if-not-is_url.false)) (subst (λ t. IsLength t c.in-Some-read_length.length) c.as_bytes-2.ensures.value c.in-Some-read_length.ensures.some) c.in_ok-path.ensures.path.0 c.in_ok-path.ensures.path.1;
      no_payload = refused.1;
    }

pub returns-in_err-path-clause-err : goal.returns-in_err-path-clause-err
returns-in_err-path-clause-err c =
    let p = err_from_is_err_and c.from_residual.result c.from_residual.ensures.1 in
    rw (p.1, p.2) (refused_path (GivesNoEntry c.args.version c.args.text.now) c.args.version _ _ (λ fault n. record {
      url = _;
      length = _;
      path_text = _;
      number = _;
      words = c.in-Some.ensures.some;
      is_url = subst IsUrl c.as_bytes.ensures.value (c.is_url.ensures.0 c.if-not-is_url.false);
      is_length = subst (λ t. IsLength t c.in-Some-read_length.length) c.as_bytes-2.ensures.value c.in-Some-read_length.ensures.some;
      no_path = n;
    }) c.in_err-path.ensures.fault)
