-- The tables of format 2 in a new database, and beside the table of format 1.
use Rattle.std.proofs.Common.{◌≡◌, ◌≢◌, ◌∙◌, ℕ, [], Some, arith, refl, slice_get}
use Rattle.bag_sqlite.proofs.Words.{AllByRecursion, AreMoved, held, held_tree, KeepsFirst, KeepsItems, KeepsTransfers, Migrated, New, Origin, overlay, piece, piece_tree, Second, second_schema, Table, tag_tree, transfer_tree, Trees}

-- THEIR PLACES

-- among the tables of the schema
abbrev pub held_place : Origin → ℕ
held_place New = 3
held_place Migrated = 4

abbrev pub piece_place : Origin → ℕ
piece_place New = 4
piece_place Migrated = 5

abbrev pub stored_held : Origin → Table
stored_held o = record held { tree = held_tree o }

abbrev pub stored_piece : Origin → Table
stored_piece o = record piece { tree = piece_tree o }

pub held_found : (o : Origin) → slice_get (second_schema o).tables (held_place o) ≡ Some (stored_held o)
held_found New = refl
held_found Migrated = refl

pub piece_found : (o : Origin) → slice_get (second_schema o).tables (piece_place o) ≡ Some (stored_piece o)
piece_found New = refl
piece_found Migrated = refl

-- without tables of WITH, a query sees the tables themselves
pub held_seen : (o : Origin) (trees : Trees) → overlay trees [] (held_tree o) ≡ trees (held_tree o)
held_seen New trees = refl
held_seen Migrated trees = refl

pub piece_seen : (o : Origin) (trees : Trees) → overlay trees [] (piece_tree o) ≡ trees (piece_tree o)
piece_seen New trees = refl
piece_seen Migrated trees = refl

-- WHAT A STATEMENT ON ONE TABLE KEEPS

module _ (old new : Trees) where
  -- the tables in other trees are unchanged
  abbrev pub KeepsOthers : Origin → ℕ → Type 0
  KeepsOthers o tree = AllByRecursion (λ (t : Table). t.tree ≢ tree → new t.tree ≡ old t.tree) (second_schema o).tables

  pub kept_by_held : (o : Origin) → KeepsOthers o (held_tree o) → KeepsTransfers o old new × (new (piece_tree o) ≡ old (piece_tree o))
  kept_by_held New all = (
    record { format = all.0 (λ e. omega (arith, e)); transfers = all.1.0 (λ e. omega (arith, e)); tags = all.1.1.0 (λ e. omega (arith, e)); first = tt },
    all.1.1.1.1.0 (λ e. omega (arith, e)),
  )
  kept_by_held Migrated all = (
    record { format = all.0 (λ e. omega (arith, e)); transfers = all.1.0 (λ e. omega (arith, e)); tags = all.1.1.0 (λ e. omega (arith, e)); first = all.1.1.1.0 (λ e. omega (arith, e)) },
    all.1.1.1.1.1.0 (λ e. omega (arith, e)),
  )

  pub kept_by_piece : (o : Origin) → KeepsOthers o (piece_tree o) → KeepsTransfers o old new × (new (held_tree o) ≡ old (held_tree o))
  kept_by_piece New all = (
    record { format = all.0 (λ e. omega (arith, e)); transfers = all.1.0 (λ e. omega (arith, e)); tags = all.1.1.0 (λ e. omega (arith, e)); first = tt },
    all.1.1.1.0 (λ e. omega (arith, e)),
  )
  kept_by_piece Migrated all = (
    record { format = all.0 (λ e. omega (arith, e)); transfers = all.1.0 (λ e. omega (arith, e)); tags = all.1.1.0 (λ e. omega (arith, e)); first = all.1.1.1.0 (λ e. omega (arith, e)) },
    all.1.1.1.1.0 (λ e. omega (arith, e)),
  )

  pub kept_by_transfer : (o : Origin) → KeepsOthers o transfer_tree → KeepsItems o old new × (new tag_tree ≡ old tag_tree)
  kept_by_transfer New all = (
    record { format = all.0 (λ e. omega (arith, e)); held = all.1.1.1.0 (λ e. omega (arith, e)); pieces = all.1.1.1.1.0 (λ e. omega (arith, e)); first = tt },
    all.1.1.0 (λ e. omega (arith, e)),
  )
  kept_by_transfer Migrated all = (
    record { format = all.0 (λ e. omega (arith, e)); held = all.1.1.1.1.0 (λ e. omega (arith, e)); pieces = all.1.1.1.1.1.0 (λ e. omega (arith, e)); first = all.1.1.1.0 (λ e. omega (arith, e)) },
    all.1.1.0 (λ e. omega (arith, e)),
  )

  pub kept_by_tag : (o : Origin) → KeepsOthers o tag_tree → KeepsItems o old new × (new transfer_tree ≡ old transfer_tree)
  kept_by_tag New all = (
    record { format = all.0 (λ e. omega (arith, e)); held = all.1.1.1.0 (λ e. omega (arith, e)); pieces = all.1.1.1.1.0 (λ e. omega (arith, e)); first = tt },
    all.1.0 (λ e. omega (arith, e)),
  )
  kept_by_tag Migrated all = (
    record { format = all.0 (λ e. omega (arith, e)); held = all.1.1.1.1.0 (λ e. omega (arith, e)); pieces = all.1.1.1.1.1.0 (λ e. omega (arith, e)); first = all.1.1.1.0 (λ e. omega (arith, e)) },
    all.1.0 (λ e. omega (arith, e)),
  )

-- IN SEQUENCE

keeps_first_then : (o : Origin) (a b c : Trees) → KeepsFirst o a b → KeepsFirst o b c → KeepsFirst o a c
keeps_first_then New a b c p q = tt
keeps_first_then Migrated a b c p q = q ∙ p

keeps_first_same : (o : Origin) (a : Trees) → KeepsFirst o a a
keeps_first_same New a = tt
keeps_first_same Migrated a = refl

module _ (o : Origin) where
  pub keeps_transfers_same : (a : Trees) → KeepsTransfers o a a
  keeps_transfers_same a = record { format = refl; transfers = refl; tags = refl; first = keeps_first_same o a }

  pub keeps_transfers_then : (a b c : Trees) → KeepsTransfers o a b → KeepsTransfers o b c → KeepsTransfers o a c
  keeps_transfers_then a b c p q = record { format = q.format ∙ p.format; transfers = q.transfers ∙ p.transfers; tags = q.tags ∙ p.tags; first = keeps_first_then o a b c p.first q.first }

  pub keeps_items_same : (a : Trees) → KeepsItems o a a
  keeps_items_same a = record { format = refl; held = refl; pieces = refl; first = keeps_first_same o a }

  pub keeps_items_then : (a b c : Trees) → KeepsItems o a b → KeepsItems o b c → KeepsItems o a c
  keeps_items_then a b c p q = record { format = q.format ∙ p.format; held = q.held ∙ p.held; pieces = q.pieces ∙ p.pieces; first = keeps_first_then o a b c p.first q.first }

-- if the table of format 1 is empty, it stays so
pub still_moved : (o : Origin) (a b : Trees) → KeepsFirst o a b → AreMoved (Second o) a → AreMoved (Second o) b
still_moved New a b kept moved = tt
still_moved Migrated a b kept moved = kept ∙ moved
