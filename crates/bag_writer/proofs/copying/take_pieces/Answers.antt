use Rattle.std.proofs.Common.{◌≡◌, ◌∙◌, ◌+◌, ◌-◌, ◌<◌, ◌%◌, ◌∷◌, ◌++◌, [], None, Some, ap, arith, false, is_some, length, refl, rules, slice_get, subst, sym}
use Rattle.std.proofs.lemmas.Option.{same_Some, slice_get_read}
use Rattle.bag_lanes.specs.Streams.{piece_at}
use Rattle.bag_lanes.proofs.LaneTasks.{message_at_read}
use Rattle.bag_lanes.proofs.Vectors.{each_lane}
use Rattle.bag_digest.specs.Lanes.{HoldsAt}
use Rattle.bag_digest.specs.declared.buffers.TheConstants.{FRONT}
use Rattle.bag_writer.specs.Copying.{AreDone}
use Rattle.bag_writer.specs.declared.copying.Copying.{Copying}
use Rattle.bag_writer.proofs.CopyGroups.{by_none, lone}
use Rattle.bag_writer.proofs.copying.take_pieces.Goals as goal

pub take-requires : goal.take-requires
take-requires g c =
    let first = c.args.first in
    let pieces = c.piece_of.result ∷ c.piece_of-then-is_some.result ∷ c.piece_of-then-is_some-2.result ∷ c.piece_of-then-is_some-3.result ∷ [] in
    let zero_full : length (piece_at pieces 0) ≡ FRONT = ap length (message_at_read pieces 0) ∙ c.piece_of.ensures.full first (omega arith) c.requires.first c.requires.few.full in
    let one_full : length (piece_at pieces 1) ≡ FRONT = ap length (message_at_read pieces 1) ∙ c.piece_of-then-is_some.ensures.full first (omega arith) c.requires.first c.requires.few.full in
    let two_full : length (piece_at pieces 2) ≡ FRONT = ap length (message_at_read pieces 2) ∙ c.piece_of-then-is_some-2.ensures.full first (omega arith) c.requires.first c.requires.few.full in
    let three_full : length (piece_at pieces 3) ≡ FRONT = ap length (message_at_read pieces 3) ∙ c.piece_of-then-is_some-3.ensures.full first (omega arith) c.requires.first c.requires.few.full in
    let blocks : FRONT % 64 ≡ 0 = refl in
    record {
      whole = ap (λ n. n % 64) zero_full ∙ blocks;
      same = each_lane (λ i. length (piece_at pieces i) ≡ length (piece_at pieces 0)) refl (one_full ∙ sym zero_full) (two_full ∙ sym zero_full) (three_full ∙ sym zero_full);
    }

pub returns-else-is_some : goal.returns-else-is_some
returns-else-is_some g c = λ k copy from to at none set octets holds.
    let xs = c.args.copies.now in
    let first = c.args.first in
    let next = c.args.next in
    let nothing : is_some c.next_open.result ≡ false = search rules in
    let done = by_none c.next_open.result (AreDone xs (next + 1) c.args.end) _ c.next_open.ensures nothing in
    let same = lone xs first c.args.end next k copy c.requires.first done from to at none in
    let there = slice_get_read xs (length xs) next c.index-copies-next.result refl (omega (arith, c.requires.first.high, c.requires.few.inside)) c.index-copies-next.is in
    let own : c.index-copies-next.result ≡ copy = same_Some _ _ (sym there ∙ ap (slice_get xs) (sym same) ∙ at) in
    subst (λ n. HoldsAt c.take_alone.new.self set (n - first) (octets ++ copy.piece.items)) (sym same)
    (subst (λ piece. HoldsAt c.take_alone.new.self set (next - first) (octets ++ piece)) (c.as_slice.ensures.value ∙ ap (λ (each : Copying _ _). each.piece.items) (sym c.index-copies-next.is ∙ own))
    (c.take_alone.ensures.taken set octets (subst (λ n. HoldsAt c.args.multi.now set (n - first) octets) same holds)))

pub returns-then-is_some : goal.returns-then-is_some
returns-then-is_some g c = λ k copy from to at none set octets holds.
    let xs = c.args.copies.now in
    let first = c.args.first in
    let end = c.args.end in
    let pieces = c.piece_of.result ∷ c.piece_of-then-is_some.result ∷ c.piece_of-then-is_some-2.result ∷ c.piece_of-then-is_some-3.result ∷ [] in
    let is : piece_at pieces (k - first) ≡ copy.piece.items =
    each_lane (λ i. (each : Copying _ _) → first + i < end → slice_get xs (first + i) ≡ Some each → each.found ≡ None → piece_at pieces i ≡ each.piece.items)
    (λ each below there open_here. message_at_read pieces 0 ∙ c.piece_of.ensures.own (omega (arith, below)) each (let e : first ≡ first + 0 = omega arith in ap (slice_get xs) e ∙ there) open_here)
    (λ each below there open_here. message_at_read pieces 1 ∙ c.piece_of-then-is_some.ensures.own below each there open_here)
    (λ each below there open_here. message_at_read pieces 2 ∙ c.piece_of-then-is_some-2.ensures.own below each there open_here)
    (λ each below there open_here. message_at_read pieces 3 ∙ c.piece_of-then-is_some-3.ensures.own below each there open_here)
    (k - first) (omega (arith, from, to, c.requires.few.few)) copy (omega (arith, from, to)) (let e : first + (k - first) ≡ k = omega (arith, from) in ap (slice_get xs) e ∙ at) none in
    subst (λ piece. HoldsAt c.take.new.self set (k - first) (octets ++ piece)) is (c.take.ensures.taken (k - first) (omega (arith, from, to, c.requires.few.few)) set octets holds)
