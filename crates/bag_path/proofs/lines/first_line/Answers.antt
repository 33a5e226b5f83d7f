use Rattle.std.proofs.Common.{◌≡◌, ◌++◌, ◌<◌, length, take-append-drop, arith, rules}
use Rattle.std.specs.List.{All}
use Rattle.bag_path.specs.Lines.{IsPlain}
use Rattle.bag_path.proofs.LinesLemmas.{first_nothing, first_lf, first_crlf, first_cr, get_first}
use Rattle.bag_path.proofs.lines.first_line.Goals as goal
use Rattle.bag_path.proofs.lines.first_line.Goals.{else-rest-gt1-via-then-rest-gt1+else-rest-eq10-2, else-rest-gt1-via-else-rest-gt1}

pub returns-then-is_empty-clause-first : goal.returns-then-is_empty-clause-first
returns-then-is_empty-clause-first c =
    let cut : c.args.octets.now ≡ c.split_at.result.0.now ++ c.split_at.result.1.now = let e = take-append-drop c.text_len.result c.args.octets.now in cc in
    let plain : All IsPlain c.split_at.result.0.now = rw c.split_at.ensures.front c.text_len.ensures.plain in
    let nothing : length c.split_at.result.1.now ≡ 0 = search rules in
    first_nothing _ _ _ c.requires cut plain nothing

pub returns-then-rest-eq10-clause-first : goal.returns-then-rest-eq10-clause-first
returns-then-rest-eq10-clause-first c =
    let cut : c.args.octets.now ≡ c.split_at.result.0.now ++ c.split_at.result.1.now = let e = take-append-drop c.text_len.result c.args.octets.now in cc in
    let plain : All IsPlain c.split_at.result.0.now = rw c.split_at.ensures.front c.text_len.ensures.plain in
    let some : 0 < length c.split_at.result.1.now = search rules in
    first_lf _ _ _ cut plain some c.if-rest-eq10.true

pub returns-then-rest-eq10-2-clause-first : goal.returns-then-rest-eq10-2-clause-first
returns-then-rest-eq10-2-clause-first c =
    let cut : c.args.octets.now ≡ c.split_at.result.0.now ++ c.split_at.result.1.now = let e = take-append-drop c.text_len.result c.args.octets.now in cc in
    let plain : All IsPlain c.split_at.result.0.now = rw c.split_at.ensures.front c.text_len.ensures.plain in
    let inside : c.text_len.result < length c.args.octets.now = omega (arith, c.split_at.ensures.back_len, c.if-rest-gt1.true) in
    let cr = get_first c.args.octets.now c.split_at.result.1.now c.text_len.result c.split_at.ensures.back (c.text_len.ensures.ending inside) c.if-rest-eq10.false in
    first_crlf _ _ _ cut plain c.if-rest-gt1.true cr c.if-rest-eq10-2.true

pub returns-clause-first : goal.returns-clause-first
returns-clause-first c =
    let cut : c.args.octets.now ≡ c.split_at.result.0.now ++ c.split_at.result.1.now = let e = take-append-drop c.text_len.result c.args.octets.now in cc in
    let plain : All IsPlain c.split_at.result.0.now = rw c.split_at.ensures.front c.text_len.ensures.plain in
    let some : 0 < length c.split_at.result.1.now = search rules in
    let inside : c.text_len.result < length c.args.octets.now = omega (arith, c.split_at.ensures.back_len, some) in
    let cr = get_first c.args.octets.now c.split_at.result.1.now c.text_len.result c.split_at.ensures.back (c.text_len.ensures.ending inside) c.if-rest-eq10.false in
    first_cr _ _ _ cut plain some cr (elim c.else-rest-gt1.branch [ else-rest-gt1-via-then-rest-gt1+else-rest-eq10-2 w ↦ λ _. w.if-rest-eq10-2.false | else-rest-gt1-via-else-rest-gt1 w ↦ λ h. absurd (omega (arith, h, w.if-rest-gt1.false)) ])
