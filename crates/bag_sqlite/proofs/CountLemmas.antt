-- What `count(*)` shows.
use Rattle.std.proofs.Common.{◌≡◌, List, [], ◌∷◌, ◌++◌, Some, length, map, sym, ap, subst, ◌∙◌}
use Rattle.std.specs.List.{AllZip}
use Rattle.std.specs.Prelude.{IsPermutation}
use Rattle.sqlite_sql.specs.Aggregate.{count}
use Rattle.sqlite_sql.specs.Group.{IsSummary, value_over}
use Rattle.sqlite_sql.specs.Query.{matches}
use Rattle.bag_sqlite.proofs.Words.{end, Env, filter, holds, inner, IsAnswer, length-map, length_permutation, list_all, one_permutation, Origin, Output, output, piece_tree, Row, same_Some, Trees, Value}
use Rattle.bag_sqlite.proofs.AdoptingMeanings.{all_counted, count_query, count_where}
use Rattle.bag_sqlite.proofs.NamesLemmas.{drop_zero}

-- the row of a group
summary : (group : List Env) (row : Row) → IsSummary all_counted group row → row ≡ count (length group) ∷ []
summary group row s = go s.0 s.1 s.2
  where
    go : (values : Row) → AllZip (λ a v. value_over group a ≡ Some v) all_counted.aggregates values → row ≡ [] ++ values → row ≡ count (length group) ∷ []
    go [] zip is = absurd zip
    go (v ∷ []) zip is = is ∙ ap (λ w. w ∷ []) (same_Some v _ (sym zip.0) ∙ ap count (length-map group _))
    go (v ∷ w ∷ more) zip is = absurd zip.1

-- one row is shown, with the number of the rows that pass
pub counted : (o : Origin) (trees : Trees) (params : Row) (rows : List Row) → IsAnswer (count_query o) trees params rows → rows ≡ (count (length (matches trees count_where (inner (piece_tree o) end) (params ∷ []))) ∷ []) ∷ []
counted o trees params rows a = go a.grouped.groups a.grouped.rows a.grouped.grouping.2 a.grouped.summaries a.grouped.having
  where
    all : List Env
    all = matches trees count_where (inner (piece_tree o) end) (params ∷ [])

    number : Value
    number = count (length all)

    go : (groups : List (List Env)) (found : List Row) → groups ≡ a.grouped.grouping.0 ∷ [] → AllZip (IsSummary all_counted) groups found
        → a.staged ≡ filter (λ env. list_all (holds env) []) (map (λ r. params ∷ r ∷ []) found) → rows ≡ (number ∷ []) ∷ []
    go [] found is zip having = absurd (let e = is in cc)
    go (group ∷ []) (row ∷ []) is zip having =
        let order : group ≡ a.grouped.grouping.0 = cc in
        let same : length group ≡ length all = ap length order ∙ length_permutation all a.grouped.grouping.0 a.grouped.grouping.1 in
        let one : row ≡ number ∷ [] = summary group row zip.0 ∙ ap (λ n. count n ∷ []) same in
        let kept : a.kept ≡ ([], number ∷ []) ∷ [] = a.distinct ∙ ap (map (output (count_query o))) having ∙ ap (λ r. output (count_query o) (params ∷ r ∷ []) ∷ []) one in
        let ordered : a.ordered ≡ ([], number ∷ []) ∷ [] = one_permutation ([], number ∷ []) a.ordered (subst (λ k. IsPermutation k a.ordered) kept a.same) in
        a.shown ∙ drop_zero (map (λ (o : Output). o.1) a.ordered) ∙ ap (map (λ (o : Output). o.1)) ordered
    go (group ∷ []) [] is zip having = absurd zip
    go (group ∷ []) (row ∷ more ∷ rest) is zip having = absurd zip.1
    go (group ∷ other ∷ groups) found is zip having = absurd (let e = is in cc)
