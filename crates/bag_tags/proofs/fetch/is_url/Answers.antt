use Rattle.std.proofs.Common.{◌≡◌, true, false, sym, ◌∙◌}
use Rattle.bag_tags.proofs.FetchLineLemmas.{url_of, url_parts}
use Rattle.bag_tags.proofs.fetch.is_url.Goals as goal

pub returns-then-is_scheme : goal.returns-then-is_scheme
returns-then-is_scheme c =
    let scheme = c.is_scheme.ensures.0 c.if-is_scheme.true in (
      λ t. url_of _ _ _ c.split_at_first.ensures scheme (c.is_colon_and_more.ensures.0 t),
      λ url. c.is_colon_and_more.ensures.1 (url_parts _ _ _ c.split_at_first.ensures url).1,
    )

pub returns-else-is_scheme : goal.returns-else-is_scheme
returns-else-is_scheme c = (
  λ t. absurd (let k : false ≡ true = sym c.if-is_scheme.false ∙ t in cc),
  λ url. c.is_scheme.ensures.1 (url_parts _ _ _ c.split_at_first.ensures url).0,
)
