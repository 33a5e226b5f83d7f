-- Reading the pieces of a payload file in sequence.
use Rattle.std.proofs.Common.{◌≡◌, ◌<◌, ◌≤◌, ◌+◌, ℕ, zero, suc, ℤ, pos, List, [], ◌∷◌, ◌++◌, Option, Some, None, append-nil, ap, arith, length, length-append, refl, slice_get, subst, sym, ◌∙◌, append_assoc}
use Rattle.bag_sqlite.proofs.Words.{AlgSet, AreCut, AreFull, Blob, concat, Content, Database, Ghosts, Int, PIECE, piece_text, same_Some, TakesAlso, TellsOne, Took}

pub concat_last : (pieces : List (List ℕ)) (piece : List ℕ) → concat (pieces ++ piece ∷ []) ≡ concat pieces ++ piece
concat_last [] piece = append-nil piece
concat_last (first ∷ pieces) piece = ap (λ rest. first ++ rest) (concat_last pieces piece) ∙ sym (append_assoc first (concat pieces) piece)

pub full_last : (pieces : List (List ℕ)) (piece : List ℕ) → AreFull pieces → length piece ≡ PIECE → AreFull (pieces ++ piece ∷ [])
full_last [] piece full is = (is, tt)
full_last (first ∷ pieces) piece full is = (full.0, full_last pieces piece full.1 is)

pub cut_last : (pieces : List (List ℕ)) (piece : List ℕ) → AreFull pieces → 0 < length piece → length piece ≤ PIECE → AreCut (pieces ++ piece ∷ [])
cut_last [] piece full some most = (some, most)
cut_last (first ∷ []) piece full some most = (full.0, (some, most))
cut_last (first ∷ next ∷ more) piece full some most = (full.0, cut_last (next ∷ more) piece full.1 some most)

pub at_last : (pieces : List (List ℕ)) (last : List ℕ) (P : ℕ → List ℕ → Type 0) → ((n : ℕ) (piece : List ℕ) → slice_get pieces n ≡ Some piece → P n piece) → P (length pieces) last
    → (n : ℕ) (piece : List ℕ) → slice_get (pieces ++ last ∷ []) n ≡ Some piece → P n piece
at_last [] last P each here zero piece is = subst (P 0) (same_Some last piece is) here
at_last [] last P each here (suc n) piece is = absurd (let e : ◌≡◌ {A = Option (List ℕ)} None (Some piece) = is in cc)
at_last (first ∷ pieces) last P each here zero piece is = each 0 piece is
at_last (first ∷ pieces) last P each here (suc n) piece is = at_last pieces last (λ m. P (suc m)) (λ m p at. each (suc m) p at) (subst (λ m. P m last) (omega arith) here) n piece is

module _ {S : Type 0} (g : Ghosts S) (db : Database) (item : ℤ) where
  pub record HasTaken (set : AlgSet) (content : Content) (size taken n : ℕ) : Type 0 where
    pub pieces : List (List ℕ)
    pub each : (k : ℕ) (piece : List ℕ) → slice_get pieces k ≡ Some piece → TellsOne g db piece_text (Int item ∷ Int (pos k) ∷ []) (Blob piece)
    pub cut : AreCut pieces
    pub full : taken < size → AreFull pieces
    pub taken_is : taken ≡ length (concat pieces)
    pub count : n ≡ length pieces
    pub holds : Took content set (concat pieces)

  pub nothing_taken : (set : AlgSet) (content : Content) (size : ℕ) → Took content set [] → HasTaken set content size 0 0
  nothing_taken set content size holds = record {
    pieces = [];
    each = λ k piece is. absurd (let e : ◌≡◌ {A = Option (List ℕ)} None (Some piece) = is in cc);
    cut = tt;
    full = λ _. tt;
    taken_is = refl;
    count = refl;
    holds = holds;
  }

  pub one_taken : (set : AlgSet) (content next : Content) (size taken n : ℕ) (piece : List ℕ) → HasTaken set content size taken n → taken < size
      → 0 < length piece → length piece ≤ PIECE → (taken + length piece < size → length piece ≡ PIECE)
      → TellsOne g db piece_text (Int item ∷ Int (pos n) ∷ []) (Blob piece)
      → TakesAlso content next piece
      → HasTaken set next size (taken + length piece) (n + 1)
  one_taken set content next size taken n piece so_far more some most whole told takes =
      let joined = concat_last so_far.pieces piece in
      record {
        pieces = so_far.pieces ++ piece ∷ [];
        each = at_last so_far.pieces piece (λ k body. TellsOne g db piece_text (Int item ∷ Int (pos k) ∷ []) (Blob body)) so_far.each
            (subst (λ k. TellsOne g db piece_text (Int item ∷ Int (pos k) ∷ []) (Blob piece)) so_far.count told);
        cut = cut_last so_far.pieces piece (so_far.full more) some most;
        full = λ still. full_last so_far.pieces piece (so_far.full more) (whole still);
        taken_is = omega (arith, so_far.taken_is, ap length joined, length-append (concat so_far.pieces) piece);
        count = omega (arith, so_far.count, length-append so_far.pieces (piece ∷ []));
        holds = subst (Took next set) (sym joined) (takes set (concat so_far.pieces) so_far.holds);
      }
