-- What a manifest lists.
use Rattle.std.proofs.Common.{◌≡◌, true, false, ℕ, List, [], ◌∷◌, Option, Some, None, is_some, refl, ap, ◌∙◌, inl, inr}
use Rattle.bag_rules.proofs.Words.{bytes_eq, cases_Bool, Digest, listed_digest, lists_path, Pair}

-- whether it is listed, by its digest
listed_so : (pairs : List Pair) (path : List ℕ) → lists_path pairs path ≡ is_some (listed_digest pairs path)
listed_so [] path = refl
listed_so (p ∷ pairs) path = elim (cases_Bool (bytes_eq p.path path)) [ inl same ↦ rw same refl | inr other ↦ rw other (listed_so pairs path) ]

pub listed_or_not : (pairs : List Pair) (path : List ℕ) (o : Option Digest) → listed_digest pairs path ≡ o → lists_path pairs path ≡ is_some o
listed_or_not pairs path o e = listed_so pairs path ∙ ap is_some e

pub none_listed : (pairs : List Pair) (path : List ℕ) → listed_digest pairs path ≡ None → lists_path pairs path ≡ false
none_listed pairs path e = listed_or_not pairs path None e

pub some_listed : (pairs : List Pair) (path : List ℕ) (digest : Digest) → listed_digest pairs path ≡ Some digest → lists_path pairs path ≡ true
some_listed pairs path digest e = listed_or_not pairs path (Some digest) e
