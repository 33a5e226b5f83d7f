-- Reading and writing a payload file piece by piece.
use Rattle.std.proofs.Common.{◌≡◌, ◌≤◌, ◌<◌, ◌+◌, ◌-◌, ◌*◌, ◌/◌, ℕ, ℤ, List, [], ◌∷◌, ◌++◌, Option, drop, length, length-drop, map, min, take, pos, true, append_assoc, append-nil, arith, refl, sym, ap, subst, ◌∙◌, length-append}
use Rattle.bag_sqlite.proofs.Words.{AddsItem, AddsPiece, AddsPieces, Alg, AlgSet, AllByRecursion, AreCut, AreDigests, Blob, concat, Consumes-nil, Digests, enumerate_from, GaveBefore, GavePiece, given_by, given_more, has, HasContentMore, HasGiven, HasRead, Holds, in_pieces, Int, IsAtEnd, IsPermutation, IsPermutation-cons, IsPermutation-middle, IsPermutation-refl, IsPermutation-trans, IsUnderWay, LARGEST_ITEM, length-take-le, lists_by, map-append, mul-div_cancel_left, Multi, Origin, PIECE, piece_rows, piece_tree, put_fault, read_fault, RefusesGiven, Row, SetsSize, SourceFault, State, Trees, uses_as, uses_on, UsesSource, Want, without_rowids}
use Rattle.std.proofs.Math.Seq.{take-add}
use Rattle.bag_digest.specs.declared.reading.SourceFault.TheVariants as source
use Rattle.bag_sqlite.proofs.LayoutLemmas.{keeps_transfers_same, keeps_transfers_then}
use Rattle.bag_sqlite.proofs.RowLemmas.{item_written}
use Rattle.bag_sqlite.proofs.PiecesRead.{concat_last, full_last, cut_last}

-- WHAT WAS READ

-- so far, full pieces were read and hashed
pub record HasReadOn (old new : Option (List ℕ)) (want : Want) (multi : Multi) (total : ℕ) (pieces : List (List ℕ)) : Type 0 where
  pub full : AllByRecursion (λ piece. length piece ≡ PIECE) pieces
  pub given : HasGiven old new total LARGEST_ITEM (concat pieces)
  pub count : total ≡ PIECE * length pieces
  pub set : AlgSet
  pub covers : (alg : Alg) → lists_by want.manifests.now want.path.now alg ≡ true → has set alg ≡ true
  pub hashed : Holds multi set (concat pieces)

pub read_nothing : (source : Option (List ℕ)) (want : Want) (multi : Multi) (set : AlgSet) → ((alg : Alg) → has set alg ≡ lists_by want.manifests.now want.path.now alg) → Holds multi set []
    → HasReadOn source source want multi 0 []
read_nothing source want multi set covers hashed = record {
  full = tt;
  given = record { gave = Consumes-nil source; count = refl; within = omega arith };
  count = refl;
  set = set;
  covers = λ alg lists. covers alg ∙ lists;
  hashed = hashed;
}

cut_full : (pieces : List (List ℕ)) → AllByRecursion (λ piece. length piece ≡ PIECE) pieces → AreCut pieces
cut_full [] full = tt
cut_full (p ∷ []) full = (omega (arith, full.0), omega (arith, full.0))
cut_full (p ∷ q ∷ more) full = (full.0, cut_full (q ∷ more) full.1)

-- the number of the piece that begins at the next octet
pub next_number : (old new : Option (List ℕ)) (want : Want) (multi : Multi) (total : ℕ) (pieces : List (List ℕ)) → HasReadOn old new want multi total pieces → total / PIECE ≡ length pieces
next_number old new want multi total pieces read =
    let some : 0 < PIECE = omega arith in
    ap (λ n. n / PIECE) read.count ∙ mul-div_cancel_left (length pieces) some

module _ (old mid new : Option (List ℕ)) (want : Want) (multi : Multi) (total n : ℕ) (pieces : List (List ℕ)) (buffer : List ℕ) (read : HasReadOn old mid want multi total pieces)
    (piece : GavePiece mid new (LARGEST_ITEM - total) n buffer) where
  more : HasGiven old new (total + n) LARGEST_ITEM (concat pieces ++ take n buffer)
  more = given_more old mid new total LARGEST_ITEM n (concat pieces) buffer read.given piece

  -- no octet was read, which is the end
  pub read_to_end : (digests : Digests) → n ≡ 0 → ((set : AlgSet) (octets : List ℕ) → Holds multi set octets → AreDigests digests set octets) → HasRead old new want (record { length = total; digests = digests }) pieces
  read_to_end digests none finished =
      let same : concat pieces ++ take n buffer ≡ concat pieces = ap (λ k. concat pieces ++ take k buffer) none ∙ append-nil (concat pieces) in
      let given : HasGiven old new (total + n) LARGEST_ITEM (concat pieces) = subst (HasGiven old new (total + n) LARGEST_ITEM) same more in
      record {
        gave = record { gave = given.gave; none_left = piece.end none; within = omega (arith, given.count, given.within) };
        cut = cut_full pieces read.full;
        sums = record { set = read.set; are_sums = (read.given.count, finished read.set (concat pieces) read.hashed); covers = read.covers };
      }

  module _ (after : Multi) (updated : (set : AlgSet) (octets : List ℕ) → Holds multi set octets → Holds after set (octets ++ take n buffer)) where
    hashed : Holds after read.set (concat (pieces ++ take n buffer ∷ []))
    hashed = subst (Holds after read.set) (sym (concat_last pieces (take n buffer))) (updated read.set (concat pieces) read.hashed)

    given : HasGiven old new (total + n) LARGEST_ITEM (concat (pieces ++ take n buffer ∷ []))
    given = subst (HasGiven old new (total + n) LARGEST_ITEM) (sym (concat_last pieces (take n buffer))) more

    -- the last piece
    pub read_last : (digests : Digests) → 0 < n → n < PIECE → IsAtEnd new → ((set : AlgSet) (octets : List ℕ) → Holds after set octets → AreDigests digests set octets)
        → HasRead old new want (record { length = total + n; digests = digests }) (pieces ++ take n buffer ∷ [])
    read_last digests some short end finished =
        let size = length-take-le n buffer piece.bound in
        record {
          gave = record { gave = given.gave; none_left = end; within = omega (arith, given.count, given.within) };
          cut = cut_last pieces (take n buffer) read.full (omega (arith, size, some)) (omega (arith, size, short));
          sums = record { set = read.set; are_sums = (given.count, finished read.set (concat (pieces ++ take n buffer ∷ [])) hashed); covers = read.covers };
        }

    -- one more full piece
    pub read_more : n ≡ PIECE → HasReadOn old new want after (total + n) (pieces ++ take n buffer ∷ [])
    read_more whole =
        let size = length-take-le n buffer piece.bound in
        record {
          full = full_last pieces (take n buffer) read.full (size ∙ whole);
          given = given;
          count = omega (arith, read.count, whole, length-append pieces (take n buffer ∷ []));
          set = read.set;
          covers = read.covers;
          hashed = hashed;
        }

-- a fault of the source itself
pub refused_reading : (old new : Option (List ℕ)) (want : Want) (fault : SourceFault) → GaveBefore old new LARGEST_ITEM (read_fault fault) → RefusesGiven (given_by old new) want (put_fault (read_fault fault))
refused_reading old new want source.Read gave = gave
refused_reading old new want source.TooLarge gave = gave

-- a successful read, and what came after it
module _ {S : Type 0} {failures : S → ℕ} {ready : S → Type 0} {keeps : S → S → Type 0} {a b c : S} {failed told : Type 0} where
  pub uses_then : (keeps a b → keeps b c → keeps a c) → UsesSource failures ready keeps a b ⊥ → UsesSource failures ready keeps b c failed → (told → failed) → (failed → told) → UsesSource failures ready keeps a c told
  uses_then on before after to from = uses_as failures ready keeps a c failed told to from (uses_on failures ready keeps a b c failed on before after)

module _ {S : Type 0} {failures : S → ℕ} {ready : S → Type 0} {keeps : S → S → Type 0} {a b : S} {failed told : Type 0} where
  pub uses_told : UsesSource failures ready keeps a b failed → (told → failed) → (failed → told) → UsesSource failures ready keeps a b told
  uses_told uses to from = uses_as failures ready keeps a b failed told to from uses

-- THE ROWS

pub no_pieces : {o : Origin} (a : Trees) (item : ℤ) → AddsPieces o a a (in_pieces item [] [])
no_pieces {o} a item = record { kept = keeps_transfers_same o a; held = refl; pieces = IsPermutation-refl (without_rowids (a (piece_tree o))) }

numbered_last : {X : Type 0} (k : ℕ) (xs : List X) (x : X) → enumerate_from k (xs ++ x ∷ []) ≡ enumerate_from k xs ++ (k + length xs, x) ∷ []
numbered_last k [] x = ap (λ n. (n, x) ∷ []) (omega arith)
numbered_last k (y ∷ ys) x =
    let next : k + 1 + length ys ≡ k + length (y ∷ ys) = omega arith in
    ap (λ l. (k, y) ∷ l) (numbered_last (k + 1) ys x ∙ ap (λ n. enumerate_from (k + 1) ys ++ (n, x) ∷ []) next)

-- one more piece
module _ {o : Origin} (a b c : Trees) (item : ℤ) where
  pub pieces_grow : (pieces : List (List ℕ)) (body : List ℕ) → AddsPieces o a b (in_pieces item [] pieces) → AddsPiece o b c item (length pieces) body → AddsPieces o a c (in_pieces item [] (pieces ++ body ∷ []))
  pieces_grow pieces body p q =
      let row_of = λ (piece : ℕ × List ℕ). let row : Row = Int item ∷ Int (pos piece.0) ∷ Blob piece.1 ∷ [] in row in
      let rows = piece_rows (in_pieces item [] pieces) in
      let was = without_rowids (a (piece_tree o)) in
      let end = without_rowids (c (piece_tree o)) in
      let row = row_of (length pieces, body) in
      let zero_on : 0 + length pieces ≡ length pieces = omega arith in
      let listed : piece_rows (in_pieces item [] (pieces ++ body ∷ [])) ≡ rows ++ row ∷ [] = ap (map row_of) (numbered_last 0 pieces body ∙ ap (λ n. enumerate_from 0 pieces ++ (n, body) ∷ []) zero_on) ∙ map-append row_of (enumerate_from 0 pieces) ((length pieces, body) ∷ []) in
      let split : piece_rows (in_pieces item [] (pieces ++ body ∷ [])) ++ was ≡ rows ++ row ∷ was = ap (λ l. l ++ was) listed ∙ append_assoc rows (row ∷ []) was in
      record {
        kept = keeps_transfers_then o a b c p.kept q.kept;
        held = q.held ∙ p.held;
        pieces = subst (λ l. IsPermutation l end) (sym split) (IsPermutation-trans _ _ end (IsPermutation-middle rows row was)
            (IsPermutation-trans _ _ end (IsPermutation-cons row (rows ++ was) (without_rowids (b (piece_tree o))) p.pieces) q.pieces));
      }

pub rows_then : {o : Origin} (a b c : State) (item : ℤ) (total : ℕ) (pieces : List (List ℕ)) (body : List ℕ) → total / PIECE ≡ length pieces → (IsUnderWay o a → IsUnderWay o b × AddsPieces o a.now.trees b.now.trees (in_pieces item [] pieces))
    → (IsUnderWay o b → IsUnderWay o c × AddsPiece o b.now.trees c.now.trees item (total / PIECE) body) → IsUnderWay o a → IsUnderWay o c × AddsPieces o a.now.trees c.now.trees (in_pieces item [] (pieces ++ body ∷ []))
rows_then {o} a b c item total pieces body number before one way =
    let so_far = before way in
    let more = one so_far.0 in
    (more.0, pieces_grow a.now.trees b.now.trees c.now.trees item pieces body so_far.1 (subst (λ n. AddsPiece o b.now.trees c.now.trees item n body) number more.1))

-- the row of a payload file, its pieces and its size
pub content_then : {o : Origin} (a b c d : State) (item transfer : ℤ) (path : List ℕ) (pieces : List (List ℕ)) (size : ℕ) → AreCut pieces → size ≡ length (concat pieces)
    → (IsUnderWay o a → IsUnderWay o b × AddsItem o a.now.trees b.now.trees item transfer path 0) → (IsUnderWay o b → IsUnderWay o c × AddsPieces o b.now.trees c.now.trees (in_pieces item [] pieces))
    → (IsUnderWay o c → IsUnderWay o d × SetsSize o c.now.trees d.now.trees item size) → IsUnderWay o a → IsUnderWay o d × HasContentMore o a.now.trees d.now.trees transfer path (concat pieces)
content_then a b c d item transfer path pieces size cut sized first second third way =
    let p = first way in
    let q = second p.0 in
    let r = third q.0 in (
      r.0,
      record {
        number = item;
        pieces = pieces;
        cut = cut;
        joined = refl;
        more = item_written a.now.trees b.now.trees c.now.trees d.now.trees transfer item path pieces size sized p.1 q.1 r.1;
      },
    )

-- A CONTENT IN MEMORY

-- its octets before this offset, in pieces
pub record IsCutTo (content : List ℕ) (offset : ℕ) (pieces : List (List ℕ)) : Type 0 where
  pub octets : concat pieces ≡ take offset content
  pub cut : AreCut pieces
  pub within : offset ≤ length content
  pub full : offset < length content → AllByRecursion (λ piece. length piece ≡ PIECE) pieces × (offset ≡ PIECE * length pieces)

pub cut_nothing : (content : List ℕ) → IsCutTo content 0 []
cut_nothing content = record { octets = refl; cut = tt; within = omega arith; full = λ _. (tt, omega arith) }

-- one more piece
pub cut_more : (content : List ℕ) (offset end : ℕ) (pieces : List (List ℕ)) (body : List ℕ) → IsCutTo content offset pieces → offset < length content → end ≡ min (length content) (offset + PIECE) → body ≡ take (end - offset) (drop offset content)
    → IsCutTo content end (pieces ++ body ∷ [])
cut_more content offset end pieces body so_far more is body_is =
    let full = so_far.full more in
    let some : offset < end = omega (arith, is, more) in
    let within : end ≤ length content = omega (arith, is) in
    let enough : end - offset ≤ length (drop offset content) = omega (arith, within, some, length-drop offset content) in
    let long : length body ≡ end - offset = ap length body_is ∙ length-take-le (end - offset) (drop offset content) enough in
    let on : offset + (end - offset) ≡ end = omega (arith, some) in
    record {
      octets = concat_last pieces body ∙ (λ i. so_far.octets i ++ body_is i) ∙ sym (take-add offset (end - offset) content) ∙ ap (λ n. take n content) on;
      cut = cut_last pieces body full.0 (omega (arith, long, some)) (omega (arith, long, is));
      within = within;
      full = λ low. (full_last pieces body full.0 (omega (arith, long, is, low)), omega (arith, full.1, is, low, length-append pieces (body ∷ [])));
    }

-- the number of the piece that begins at the next octet
pub cut_number : (content : List ℕ) (offset : ℕ) (pieces : List (List ℕ)) → IsCutTo content offset pieces → offset < length content → offset / PIECE ≡ length pieces
cut_number content offset pieces so_far more =
    let some : 0 < PIECE = omega arith in
    ap (λ n. n / PIECE) (so_far.full more).1 ∙ mul-div_cancel_left (length pieces) some
