-- A small database that holds a ledger, and databases that hold none.
use Rattle.std.proofs.Common.{◌≡◌, List, [], ◌∷◌, codes, lit<, lit≤, map, pos, refl, arith, ℤ}
use Rattle.bag_sqlite.proofs.Words.{AreTablesOf, Blob, First, flat_map, held_rows, Int, IsPermutation, IsPermutation-refl, IsPermutation-swap, IsStrictlySortedBy, item_rows, Layout, Ledger, length_permutation, Migrated, New, Null, NumberedTransfer, Row, Second, Text, transfer_row, Trees, without_rowids}

-- A DATABASE WITH A LEDGER

-- numbers have gaps, and rows are in the order of their rowids, not of names and paths
abbrev meta_rows : ℤ → List Row
meta_rows number = (Int (pos 1) ∷ Text (codes "bag-ledger") ∷ Int number ∷ []) ∷ []

abbrev transfers : List Row
transfers = (Int (pos 1) ∷ Null ∷ Text (codes "b") ∷ []) ∷ (Int (pos 3) ∷ Null ∷ Text (codes "a") ∷ []) ∷ []

abbrev tags : List Row
tags = (Int (pos 1) ∷ Int (pos 3) ∷ Text (codes "bagit.txt") ∷ Blob (1 ∷ []) ∷ []) ∷ (Int (pos 2) ∷ Int (pos 1) ∷ Text (codes "bagit.txt") ∷ Blob [] ∷ []) ∷ []

abbrev held : List Row
held = (Int (pos 2) ∷ Null ∷ Int (pos 3) ∷ Text (codes "data/y") ∷ Int (pos 0) ∷ []) ∷ (Int (pos 5) ∷ Null ∷ Int (pos 3) ∷ Text (codes "data/x") ∷ Int (pos 3) ∷ []) ∷ []

abbrev pieces : List Row
pieces = (Int (pos 1) ∷ Int (pos 5) ∷ Int (pos 0) ∷ Blob (7 ∷ 8 ∷ 9 ∷ []) ∷ []) ∷ []

-- the ledger, and its numbers
abbrev ledger : Ledger
ledger =
    (codes "a", record { tags = (codes "bagit.txt", 1 ∷ []) ∷ []; items = (codes "data/x", 7 ∷ 8 ∷ 9 ∷ []) ∷ (codes "data/y", []) ∷ [] })
    ∷ (codes "b", record { tags = (codes "bagit.txt", []) ∷ []; items = [] }) ∷ []

abbrev numbered : List NumberedTransfer
numbered =
    (record {
      number = pos 3;
      name = codes "a";
      tags = (codes "bagit.txt", 1 ∷ []) ∷ [];
      items = (record { number = pos 5; path = codes "data/x"; pieces = (7 ∷ 8 ∷ 9 ∷ []) ∷ [] }) ∷ (record { number = pos 2; path = codes "data/y"; pieces = [] }) ∷ [];
    }) ∷ (record { number = pos 1; name = codes "b"; tags = (codes "bagit.txt", []) ∷ []; items = [] }) ∷ []

-- in a new database of format 2
example_holds : (trees : Trees) → trees 0 ≡ meta_rows (pos 2) → trees 2 ≡ transfers → trees 4 ≡ tags → trees 6 ≡ held → trees 8 ≡ pieces → AreTablesOf (Second New) trees ledger
unfolding IsStrictlySortedBy
example_holds trees m t g h p = record {
  format = (_, m);
  held = record {
    transfers = numbered;
    rows = record {
      transfers = rw t (IsPermutation-swap (map transfer_row numbered) transfers 0 1 (lit< tt) (lit< tt) refl);
      tags = rw g (IsPermutation-refl (without_rowids tags));
      items = record {
        held = rw h (IsPermutation-swap (flat_map held_rows numbered) held 0 1 (lit< tt) (lit< tt) refl);
        pieces = rw p (IsPermutation-refl (without_rowids pieces));
      };
    };
    numbers = (((λ e. cc), tt), (tt, tt));
    item_numbers = (((λ e. cc), tt), (tt, tt));
    cut = ((lit< tt, lit≤ tt), (tt, tt));
    is = refl;
    order = record { names = ((refl, tt), (tt, tt)); tags = ((tt, tt), ((tt, tt), tt)); items = (((refl, tt), (tt, tt)), (tt, tt)) };
  };
  moved = tt;
}

-- beside the table of format 1, which is empty
example_migrated : (trees : Trees) → trees 0 ≡ meta_rows (pos 2) → trees 2 ≡ transfers → trees 4 ≡ tags → trees 6 ≡ [] → trees 8 ≡ held → trees 10 ≡ pieces → AreTablesOf (Second Migrated) trees ledger
unfolding IsStrictlySortedBy
example_migrated trees m t g none h p = record {
  format = (_, m);
  held = record {
    transfers = numbered;
    rows = record {
      transfers = rw t (IsPermutation-swap (map transfer_row numbered) transfers 0 1 (lit< tt) (lit< tt) refl);
      tags = rw g (IsPermutation-refl (without_rowids tags));
      items = record {
        held = rw h (IsPermutation-swap (flat_map held_rows numbered) held 0 1 (lit< tt) (lit< tt) refl);
        pieces = rw p (IsPermutation-refl (without_rowids pieces));
      };
    };
    numbers = (((λ e. cc), tt), (tt, tt));
    item_numbers = (((λ e. cc), tt), (tt, tt));
    cut = ((lit< tt, lit≤ tt), (tt, tt));
    is = refl;
    order = record { names = ((refl, tt), (tt, tt)); tags = ((tt, tt), ((tt, tt), tt)); items = (((refl, tt), (tt, tt)), (tt, tt)) };
  };
  moved = none;
}

-- in format 1
abbrev items : List Row
items = (Int (pos 2) ∷ Int (pos 3) ∷ Text (codes "data/y") ∷ Int (pos 0) ∷ Blob [] ∷ []) ∷ (Int (pos 5) ∷ Int (pos 3) ∷ Text (codes "data/x") ∷ Int (pos 3) ∷ Blob (7 ∷ 8 ∷ 9 ∷ []) ∷ []) ∷ []

example_first : (trees : Trees) → trees 0 ≡ meta_rows (pos 1) → trees 2 ≡ transfers → trees 4 ≡ tags → trees 6 ≡ items → AreTablesOf First trees ledger
unfolding IsStrictlySortedBy
example_first trees m t g i = record {
  format = (_, m);
  held = record {
    transfers = numbered;
    rows = record {
      transfers = rw t (IsPermutation-swap (map transfer_row numbered) transfers 0 1 (lit< tt) (lit< tt) refl);
      tags = rw g (IsPermutation-refl (without_rowids tags));
      items = rw i (IsPermutation-swap (flat_map item_rows numbered) items 0 1 (lit< tt) (lit< tt) refl);
    };
    numbers = (((λ e. cc), tt), (tt, tt));
    item_numbers = (((λ e. cc), tt), (tt, tt));
    cut = ((lit< tt, lit≤ tt), (tt, tt));
    is = refl;
    order = record { names = ((refl, tt), (tt, tt)); tags = ((tt, tt), ((tt, tt), tt)); items = (((refl, tt), (tt, tt)), (tt, tt)) };
  };
  moved = tt;
}

-- DATABASES WITHOUT ONE

-- a second row of the format
two_formats : (l : Layout) (trees : Trees) (ledger : Ledger) (a b : Row) → trees 0 ≡ a ∷ b ∷ [] → ¬ AreTablesOf l trees ledger
two_formats l trees ledger a b rows h = absurd (let e = rw rows at h.format.1 in cc)

-- another number of the format
other_format : (l : Layout) (trees : Trees) (ledger : Ledger) → trees 0 ≡ meta_rows (pos 9) → ¬ AreTablesOf l trees ledger
other_format First trees ledger rows h = absurd (let e = rw rows at h.format.1 in cc)
other_format (Second New) trees ledger rows h = absurd (let e = rw rows at h.format.1 in cc)
other_format (Second Migrated) trees ledger rows h = absurd (let e = rw rows at h.format.1 in cc)

-- the number of the other format
first_with_two : (trees : Trees) (ledger : Ledger) → trees 0 ≡ meta_rows (pos 2) → ¬ AreTablesOf First trees ledger
first_with_two trees ledger rows h = absurd (let e = rw rows at h.format.1 in cc)

migrated_with_one : (trees : Trees) (ledger : Ledger) → trees 0 ≡ meta_rows (pos 1) → ¬ AreTablesOf (Second Migrated) trees ledger
migrated_with_one trees ledger rows h = absurd (let e = rw rows at h.format.1 in cc)

-- a row of format 1 that stayed
one_left : (trees : Trees) (ledger : Ledger) (row : Row) → trees 6 ≡ row ∷ [] → ¬ AreTablesOf (Second Migrated) trees ledger
one_left trees ledger row left h = absurd (let e = rw left at h.moved in cc)

none_numbered : (all : List NumberedTransfer) → IsPermutation (map transfer_row all) [] → all ≡ []
none_numbered [] h = refl
none_numbered (t ∷ ts) h = absurd (let e = length_permutation (map transfer_row (t ∷ ts)) [] h in omega (arith, e))

-- a payload file whose transfer doesn't exist
held_for_none : (trees : Trees) (ledger : Ledger) (row : Row) → trees 2 ≡ [] → trees 6 ≡ row ∷ [] → ¬ AreTablesOf (Second New) trees ledger
held_for_none trees ledger row none rows h =
    let all = none_numbered h.held.transfers (rw none at h.held.rows.transfers) in
    let moved = rw (all, rows) at h.held.rows.items.held in
    let e = length_permutation [] (row ∷ []) moved in
    absurd (omega (arith, e))

-- the same in format 1
item_for_none : (trees : Trees) (ledger : Ledger) (row : Row) → trees 2 ≡ [] → trees 6 ≡ row ∷ [] → ¬ AreTablesOf First trees ledger
item_for_none trees ledger row none rows h =
    let all = none_numbered h.held.transfers (rw none at h.held.rows.transfers) in
    let moved = rw (all, rows) at h.held.rows.items in
    let e = length_permutation [] (row ∷ []) moved in
    absurd (omega (arith, e))

-- a tag file whose transfer doesn't exist
tag_of_none : (l : Layout) (trees : Trees) (ledger : Ledger) (row : Row) → trees 2 ≡ [] → trees 4 ≡ row ∷ [] → ¬ AreTablesOf l trees ledger
tag_of_none l trees ledger row none rows h =
    let all = none_numbered h.held.transfers (rw none at h.held.rows.transfers) in
    let moved = rw (all, rows) at h.held.rows.tags in
    let e = length_permutation [] (without_rowids (row ∷ [])) moved in
    absurd (omega (arith, e))
