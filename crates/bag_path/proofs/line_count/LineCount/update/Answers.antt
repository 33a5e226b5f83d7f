use Rattle.std.proofs.Common.{◌≡◌, ◌+◌, ◌++◌, [], ◌∷◌, take, get_or, sym, ap, ◌∙◌, subst, append_assoc, arith}
use Rattle.std.proofs.lemmas.List.{take_more}
use Rattle.bag_path.proofs.LineCountLemmas.{IsCount, counted_more}
use Rattle.bag_path.proofs.line_count.LineCount.update.Goals as goal

pub loop-octet-preserved : goal.loop-octet-preserved
loop-octet-preserved c = λ octets h.
    let i = c.loop-octet.octet-index in
    let piece = c.args.piece.now in
    let x = get_or piece i 0 in
    let more = counted_more c.loop-octet.lines c.loop-octet.last (octets ++ take i piece) x (c.loop-octet.invariant octets h) in
    let joined : (octets ++ take i piece) ++ x ∷ [] ≡ octets ++ take (i + 1) piece = append_assoc octets (take i piece) (x ∷ []) ∙ ap (λ os. octets ++ os) (sym (take_more piece i 0 (omega arith))) in
    subst (IsCount c.lines_with-lines.result x) joined (subst (λ lines. IsCount lines x ((octets ++ take i piece) ++ x ∷ [])) (sym c.lines_with-lines.ensures) more)
