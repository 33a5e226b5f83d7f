-- The names that a query shows are those of the ledger, in order.
use Rattle.std.proofs.Common.{◌≡◌, ◌<◌, ◌+◌, ℕ, List, [], ◌∷◌, Less, drop, is_lt, length, map, refl, sym, ap, subst, ◌∙◌, arith, slice_index_or}
use Rattle.bag_sqlite.proofs.Words.{All-from_recursion, All-permutation, AllByRecursion, AreRising, bytes, column, flat_map, get_or-map, HoldTransfers, IsAnswer, IsAscending, IsPermutation-map, IsPermutation-trans, IsSorted, IsStrictlySortedBy, keys_of, Layout, Ledger, length-map, map_twice, nat_cmp, nat_list_cmp_total, Null, NumberedTransfer, output, Output, output_cmp, overlay, reads_as, recursion_from_All, Row, schema_of, Shown, slice_cmp, sorted_unique, State, Text, transfer_row, value_cmp-Text, without_number}
use Rattle.std.specs.Prelude.{IsPermutation}
use Rattle.bag_sqlite.proofs.QueryMeanings.{names_command, names_is, names_plain, names_query, names_text, names_unlisted}
use Rattle.bag_rules.proofs.FolderLemmas.{then_end}

-- LISTS

pub flat_single : {X Y : Type 0} (f : X → Y) (xs : List X) → flat_map (λ x. f x ∷ []) xs ≡ map f xs
flat_single f [] = refl
flat_single f (x ∷ xs) = ap (λ ys. f x ∷ ys) (flat_single f xs)

pub drop_zero : {X : Type 0} (xs : List X) → drop 0 xs ≡ xs
drop_zero [] = refl
drop_zero (x ∷ xs) = refl

pub ascends : (names : List (List ℕ)) → AreRising names → IsAscending (λ a b. slice_cmp nat_cmp a b ≡ Less) names
unfolding IsStrictlySortedBy
ascends [] rising = tt
ascends (n ∷ ns) rising = (rising.0, ascends ns rising.1)

-- ROWS OF ONE TEXT

-- rows of one text, sorted by that text
abbrev out : List ℕ → Output
out name = (Text name ∷ [], Text name ∷ [])

abbrev text : Output → List ℕ
text o = bytes (column o.1 0)

all_out : (names : List (List ℕ)) → AllByRecursion (λ o. o ≡ out (text o)) (map out names)
all_out [] = tt
all_out (n ∷ ns) = (refl, all_out ns)

texts_back : (names : List (List ℕ)) → map text (map out names) ≡ names
texts_back [] = refl
texts_back (n ∷ ns) = ap (λ rest. n ∷ rest) (texts_back ns)

outs_back : (os : List Output) → AllByRecursion (λ o. o ≡ out (text o)) os → os ≡ map out (map text os)
outs_back [] all = refl
outs_back (o ∷ os) all = ap (λ w. w ∷ os) all.0 ∙ ap (λ rest. out (text o) ∷ rest) (outs_back os all.1)

by_text : (a b : List ℕ) → output_cmp names_query (out a) (out b) ≡ slice_cmp nat_cmp a b
by_text a b = then_end _ ∙ value_cmp-Text a b

sorted_texts : (names : List (List ℕ)) → IsSorted (output_cmp names_query) (map out names) → IsSorted (slice_cmp nat_cmp) names
sorted_texts names sorted k d low high =
    let within : k + 1 < length (map out names) = rw (length-map names out) high in
    let e = sorted k (out d) low within in
    let at = rw (get_or-map out names (k + 1) d (out d) high, get_or-map out names k d (out d) (omega (arith, high))) at e in
    sym (ap is_lt (by_text (slice_index_or names (k + 1) d) (slice_index_or names k d))) ∙ at

-- sorted rows of ascending names are those names in order
same_outs : (names : List (List ℕ)) (os : List Output) → AreRising names → IsPermutation (map out names) os → IsSorted (output_cmp names_query) os → os ≡ map out names
same_outs names os rising moves sorted =
    let all = recursion_from_All (λ o. o ≡ out (text o)) os (All-permutation (λ o. o ≡ out (text o)) (map out names) os moves (All-from_recursion (λ o. o ≡ out (text o)) (map out names) (all_out names))) in
    let back : os ≡ map out (map text os) = outs_back os all in
    let moved : IsPermutation names (map text os) = subst (λ ns. IsPermutation ns (map text os)) (texts_back names) (IsPermutation-map text (map out names) os moves) in
    let texts : map text os ≡ names = sorted_unique (slice_cmp nat_cmp) nat_list_cmp_total names (map text os) (ascends names rising) moved
    (sorted_texts (map text os) (subst (IsSorted (output_cmp names_query)) back sorted)) in
    back ∙ ap (map out) texts

-- THE QUERY

abbrev made : Row → Output
made r = output names_query ([] ∷ r ∷ [])

pub names_shown : {l : Layout} (s new : State) (rows : List Row) (ledger : Ledger) → s.now.schema ≡ schema_of l → HoldTransfers l s.now.trees ledger → Shown names_text [] s new rows
    → rows ≡ map (λ name. Text name ∷ []) (keys_of ledger)
names_shown {l} s new rows ledger has tables shown =
    let got = reads_as names_text [] s new (schema_of l) has names_command (names_is l) (names_plain l) (names_unlisted l) rows shown in
    let a : IsAnswer names_query (overlay s.now.trees []) [] rows = got.answer Null in
    let db = s.now.trees 2 in
    let staged : a.staged ≡ map (λ r. [] ∷ r ∷ []) db = a.grouped ∙ flat_single (λ r. [] ∷ r ∷ []) db in
    let kept : a.kept ≡ map made db = a.distinct ∙ ap (map (output names_query)) staged ∙ map_twice (λ r. [] ∷ r ∷ []) (output names_query) db in
    let ts = tables.transfers in
    let names : keys_of ledger ≡ map (λ (t : NumberedTransfer). t.name) ts = ap keys_of tables.is ∙ map_twice without_number (λ e. e.0) ts in
    let start : map made (map transfer_row ts) ≡ map out (keys_of ledger) =
    map_twice transfer_row made ts ∙ sym (map_twice (λ (t : NumberedTransfer). t.name) out ts) ∙ ap (map out) (sym names) in
    let moves : IsPermutation (map out (keys_of ledger)) a.ordered =
    subst (λ k. IsPermutation k a.ordered) start (IsPermutation-trans _ _ a.ordered (IsPermutation-map made (map transfer_row ts) db tables.rows.transfers) (subst (λ k. IsPermutation k a.ordered) kept a.same)) in
    let ordered : a.ordered ≡ map out (keys_of ledger) = same_outs (keys_of ledger) a.ordered tables.order.names moves a.sorted in
    a.shown ∙ drop_zero (map (λ (o : Output). o.1) a.ordered) ∙ ap (map (λ (o : Output). o.1)) ordered ∙ map_twice out (λ (o : Output). o.1) (keys_of ledger)
