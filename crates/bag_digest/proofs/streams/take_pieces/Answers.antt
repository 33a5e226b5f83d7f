use Rattle.std.proofs.Common.{◌≡◌, ◌∙◌, ◌+◌, ◌-◌, ◌<◌, ◌%◌, ◌∷◌, ◌++◌, [], Some, ap, arith, is_none, length, refl, rules, slice_get, subst, sym, true}
use Rattle.std.proofs.lemmas.Option.{same_Some, slice_get_read}
use Rattle.bag_lanes.specs.Streams.{piece_at}
use Rattle.bag_lanes.proofs.LaneTasks.{message_at_read}
use Rattle.bag_lanes.proofs.Vectors.{each_lane}
use Rattle.bag_digest.specs.declared.streams.Stream.{Stream}
use Rattle.bag_digest.specs.declared.buffers.TheConstants.{FRONT}
use Rattle.bag_digest.specs.Lanes.{HoldsAt}
use Rattle.bag_digest.specs.Streams.{AreDone}
use Rattle.bag_digest.proofs.StreamLemmas.{lone, piece_full, piece_is}
use Rattle.bag_digest.proofs.streams.take_pieces.Goals as goal
use Rattle.bag_digest.proofs.ListLemmas.{by_none}

pub take-requires : goal.take-requires
take-requires g c =
    let xs = c.args.streams.now in
    let first = c.args.first in
    let end = c.args.end in
    let pieces = c.piece_of.result ∷ c.piece_of-else-is_none.result ∷ c.piece_of-else-is_none-2.result ∷ c.piece_of-else-is_none-3.result ∷ [] in
    let some : first < end = omega (arith, c.requires.first.low, c.requires.first.high) in
    let inside = c.requires.four.1 in
    let zero_full : length (piece_at pieces 0) ≡ FRONT = ap length (message_at_read pieces 0) ∙ piece_full xs first first end c.piece_of.result.now c.piece_of.ensures (omega arith) some inside c.requires.full in
    let one_full : length (piece_at pieces 1) ≡ FRONT = ap length (message_at_read pieces 1) ∙ piece_full xs first (first + 1) end c.piece_of-else-is_none.result.now c.piece_of-else-is_none.ensures (omega arith) some inside c.requires.full in
    let two_full : length (piece_at pieces 2) ≡ FRONT = ap length (message_at_read pieces 2) ∙ piece_full xs first (first + 2) end c.piece_of-else-is_none-2.result.now c.piece_of-else-is_none-2.ensures (omega arith) some inside c.requires.full in
    let three_full : length (piece_at pieces 3) ≡ FRONT = ap length (message_at_read pieces 3) ∙ piece_full xs first (first + 3) end c.piece_of-else-is_none-3.result.now c.piece_of-else-is_none-3.ensures (omega arith) some inside c.requires.full in
    let blocks : FRONT % 64 ≡ 0 = refl in
    record {
      whole = ap (λ n. n % 64) zero_full ∙ blocks;
      same = each_lane (λ i. length (piece_at pieces i) ≡ length (piece_at pieces 0)) refl (one_full ∙ sym zero_full) (two_full ∙ sym zero_full) (three_full ∙ sym zero_full);
    }

pub returns-then-is_none : goal.returns-then-is_none
returns-then-is_none g c = λ k stream from to at none set octets holds.
    let xs = c.args.streams.now in
    let first = c.args.first in
    let next = c.args.next in
    let nothing : is_none c.unended.result ≡ true = search rules in
    let done = by_none c.unended.result (AreDone xs (next + 1) c.args.end) _ c.unended.ensures nothing in
    let same = lone xs first c.args.end next k stream c.requires.first done from to at none in
    let there = slice_get_read xs (length xs) next c.index-streams-next.result refl (omega (arith, c.requires.first.high, c.requires.four.1)) c.index-streams-next.is in
    let own : c.index-streams-next.result ≡ stream = same_Some _ _ (sym there ∙ ap (slice_get xs) (sym same) ∙ at) in
    subst (λ n. HoldsAt c.take_alone.new.self set (n - first) (octets ++ stream.piece.items)) (sym same)
    (subst (λ piece. HoldsAt c.take_alone.new.self set (next - first) (octets ++ piece)) (c.as_slice.ensures.value ∙ ap (λ (s : Stream _). s.piece.items) (sym c.index-streams-next.is ∙ own))
    (c.take_alone.ensures.taken set octets (subst (λ n. HoldsAt c.args.multi.now set (n - first) octets) same holds)))

pub returns-else-is_none : goal.returns-else-is_none
returns-else-is_none g c = λ k stream from to at none set octets holds.
    let xs = c.args.streams.now in
    let first = c.args.first in
    let end = c.args.end in
    let pieces = c.piece_of.result ∷ c.piece_of-else-is_none.result ∷ c.piece_of-else-is_none-2.result ∷ c.piece_of-else-is_none-3.result ∷ [] in
    let is : piece_at pieces (k - first) ≡ stream.piece.items =
    each_lane (λ i. (s : Stream _) → first + i < end → slice_get xs (first + i) ≡ Some s → piece_at pieces i ≡ s.piece.items)
    (λ s below there. message_at_read pieces 0 ∙ piece_is xs first end c.piece_of.result.now c.piece_of.ensures (omega (arith, below)) s (let e : first ≡ first + 0 = omega arith in ap (slice_get xs) e ∙ there))
    (λ s below there. message_at_read pieces 1 ∙ piece_is xs (first + 1) end c.piece_of-else-is_none.result.now c.piece_of-else-is_none.ensures below s there)
    (λ s below there. message_at_read pieces 2 ∙ piece_is xs (first + 2) end c.piece_of-else-is_none-2.result.now c.piece_of-else-is_none-2.ensures below s there)
    (λ s below there. message_at_read pieces 3 ∙ piece_is xs (first + 3) end c.piece_of-else-is_none-3.result.now c.piece_of-else-is_none-3.ensures below s there)
    (k - first) (omega (arith, from, to, c.requires.four.0)) stream (omega (arith, from, to)) (let e : first + (k - first) ≡ k = omega (arith, from) in ap (slice_get xs) e ∙ at) in
    subst (λ piece. HoldsAt c.take.new.self set (k - first) (octets ++ piece)) is (c.take.ensures.taken (k - first) (omega (arith, from, to, c.requires.four.0)) set octets holds)
