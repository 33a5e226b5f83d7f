use Rattle.std.proofs.Common.{subst}
use Rattle.std.specs.Str.{IsCharBoundary}
use Rattle.bag_tags.proofs.TextCutLemmas.{boundary_of_rest, rest_utf8}
use Rattle.bag_tags.proofs.splitting.split_text.Goals as goal

pub split_at-requires : goal.split_at-requires
split_at-requires c =
    subst (λ t. IsCharBoundary t c.front_len.result) c.as_bytes.ensures.value (boundary_of_rest c.as_bytes.result.now c.front_len.result c.front_len.ensures.within (rest_utf8 c.args.cut c.as_bytes.result.now _ _ c.front_len.ensures.front c.as_bytes.ensures.utf8))
