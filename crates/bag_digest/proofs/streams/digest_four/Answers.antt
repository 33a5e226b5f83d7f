use Rattle.std.proofs.Common.{◌≡◌, ◌∙◌, ◌<◌, Some, ap, arith, get_or, length, refl, slice_get, sym}
use Rattle.std.proofs.lemmas.Option.{same_Some, slice_get_read}
use Rattle.bag_digest.proofs.StreamLemmas.{kept_same}
use Rattle.bag_digest.proofs.streams.digest_four.Goals as goal
use Rattle.bag_digest.proofs.ListLemmas.{set_here, set_there}

pub returns-in-Ok-clause-ended : goal.returns-in-Ok-clause-ended
returns-in-Ok-clause-ended g c = λ k a b from to at now.
    let xs = c.args.streams.now in
    let first = c.args.first in
    let inside : first < length xs = omega (arith, c.requires.fresh.some, c.requires.fresh.inside) in
    let here : k ≡ first = omega (arith, from, to, c.if-end-first-gt1.false) in
    let there = slice_get_read xs (length xs) first c.index-streams-first.result refl inside c.index-streams-first.is in
    let was : get_or xs first c.index-streams-first.result ≡ a = sym c.index-streams-first.is ∙ same_Some _ a (sym there ∙ ap (slice_get xs) (sym here) ∙ at) in
    let is : c.digest_alone.new.stream ≡ b = same_Some _ b (sym (set_here xs first c.digest_alone.new.stream inside) ∙ ap (slice_get _) (sym here) ∙ now) in
    rw (← was, ← is) c.in-Ok.ensures.ended

pub returns-in-Err-clause-stopped : goal.returns-in-Err-clause-stopped
returns-in-Err-clause-stopped g c =
    let xs = c.args.streams.now in
    let first = c.args.first in
    let new = c.digest_alone.new.stream in
    let inside : first < length xs = omega (arith, c.requires.fresh.some, c.requires.fresh.inside) in
    record {
      was = get_or xs first c.index-streams-first.result;
      is = new;
      low = omega arith;
      old_at = slice_get_read xs (length xs) first c.index-streams-first.result refl inside c.index-streams-first.is ∙ ap Some c.index-streams-first.is;
      new_at = set_here xs first new inside;
      stopped = c.in-Err.ensures.stopped;
      before = λ k a b from to. absurd (omega (arith, from, to));
      behind = λ k a b past to at now. kept_same g.S.Source.keeps g.met.S.Source.keeps_itself xs _ k a b (set_there xs first k new (λ e. omega (arith, e, past))) at now;
    }
