use Rattle.std.proofs.Common.{FitsSigned, rules, sym, w64, arith, subst, ◌/◌, ◌%◌}
use Rattle.bag_sqlite.proofs.Words.{Database, HasCleanDisk, HasPieceRow, IsPieceAt, PIECE, state, to_z-of_z}
use Rattle.bag_sqlite.proofs.AdoptingLemmas.{queries_then}
use Rattle.bag_sqlite.proofs.ContentLemmas.{no_piece_held, piece_held}
use Rattle.bag_sqlite.proofs.ReadingLemmas.{same_shown, still_shows}
use Rattle.bag_sqlite.proofs.item_queries.read_piece.Goals as goal

pub returns-in_default-clause-piece : goal.returns-in_default-clause-piece
returns-in_default-clause-piece g c clean ledger holds =
    let (o, shows) = holds.shows (c.in_ok-item.ensures.opened clean) in
    let none = rw c.in_default.is at (c.in_ok-item.ensures.item clean ledger holds o shows) in
    rw none (search rules)

pub returns-in_default-2-clause-piece : goal.returns-in_default-2-clause-piece
returns-in_default-2-clause-piece g c clean ledger holds =
    let old = state g.S.Store c.args.connection.now in
    let mid = state g.S.Store c.item_of.new.connection in
    let fits : FitsSigned w64 c.in-Some.item.number = search rules in
    let early : HasCleanDisk mid = omega (arith, clean, c.piece_at.ensures.queries.survives.clean) in
    let left = c.in_ok-item.ensures.queries.left early in
    let is_open = c.in_ok-piece.ensures.opened clean in
    let (o, shows) = holds.shows (left.was_open is_open) in
    let same = same_shown old mid left c.requires is_open shows.committed in
    let still = still_shows old mid ledger left c.requires is_open shows in
    let item = rw c.in-Some.is at (c.in_ok-item.ensures.item early ledger holds o shows) in
    let none = rw (c.in_default-2.is, to_z-of_z w64 c.in-Some.item.number fits) at (c.in_ok-piece.ensures.piece clean ledger o still) in
    no_piece_held old.now.trees ledger shows.database.tables.held c.args.name.now c.args.path.now c.in-Some.item.number c.in-Some.item.size c.args.offset c.args.buf.now item
    (λ body row. none body (subst (λ (d : Database). HasPieceRow o d.trees c.in-Some.item.number (c.args.offset / PIECE) body) (sym same) row))

pub returns-clause-piece : goal.returns-clause-piece
returns-clause-piece g c clean ledger holds =
    let old = state g.S.Store c.args.connection.now in
    let mid = state g.S.Store c.item_of.new.connection in
    let fits : FitsSigned w64 c.in-Some.item.number = search rules in
    let early : HasCleanDisk mid = omega (arith, clean, c.piece_at.ensures.queries.survives.clean) in
    let left = c.in_ok-item.ensures.queries.left early in
    let is_open = c.in_ok-piece.ensures.opened clean in
    let (o, shows) = holds.shows (left.was_open is_open) in
    let same = same_shown old mid left c.requires is_open shows.committed in
    let still = still_shows old mid ledger left c.requires is_open shows in
    let item = rw c.in-Some.is at (c.in_ok-item.ensures.item early ledger holds o shows) in
    let row = rw (c.in-Some-2.is, to_z-of_z w64 c.in-Some.item.number fits) at (c.in_ok-piece.ensures.piece clean ledger o still) in
    piece_held old.now.trees ledger shows.database.tables.held c.args.name.now c.args.path.now c.in-Some.item.number c.in-Some.item.size c.args.offset c.copy_piece.new.buf item c.in-Some-2.piece.items c.copy_piece.result
    (subst (λ (d : Database). HasPieceRow o d.trees c.in-Some.item.number (c.args.offset / PIECE) c.in-Some-2.piece.items) same row)
    (subst (λ octets. IsPieceAt octets (c.args.offset % PIECE) c.copy_piece.result c.copy_piece.new.buf) c.as_slice.ensures.value c.copy_piece.ensures)

pub returns-in_err-piece-clause-queries : goal.returns-in_err-piece-clause-queries
returns-in_err-piece-clause-queries g c = queries_then c.item_of.ensures.queries c.piece_at.ensures.queries

pub returns-in_default-2-clause-queries : goal.returns-in_default-2-clause-queries
returns-in_default-2-clause-queries g c = queries_then c.item_of.ensures.queries c.piece_at.ensures.queries

pub returns-clause-queries : goal.returns-clause-queries
returns-clause-queries g c = queries_then c.item_of.ensures.queries c.piece_at.ensures.queries
