-- A database with the tables of a ledger shows to each query what a ledger may show.
use Rattle.std.proofs.Common.{◌≡◌, ◌∙◌, inl, inr, ℕ, ℤ, List, [], ◌∷◌, refl, ap, subst, sym}
use Rattle.bag_sqlite.specs.declared.format.Format.TheVariants as form
use Rattle.bag_sqlite.proofs.Words.{all_texts, AreTablesOf, body_of, body_text, column, count_text, count_under, Database, First, Format, format_of, format_row, format_text, Ghosts, Has, HasFormat, HasNoFormat, Int, IsAsked, IsBlob, IsInt, IsNoLedger, IsPlain, IsText, items_text, items_under, Layout, Ledger, MayShow, number_of, NumberedTransfer, params_of, piece_at, piece_text, Question, Row, SaysFormat, schema_of, Second, strays, tag_files_text, tags_under, Tells, text_of, the_format, the_transfers, transfers_text, understood}
use Rattle.bag_sqlite.proofs.AdoptingMeanings.{body_plain, count_plain, format_plain, items_plain, transfers_plain, whole_plain}
use Rattle.bag_sqlite.proofs.ItemMeanings.{piece_plain}
use Rattle.bag_sqlite.proofs.PieceTold.{count_told}
use Rattle.bag_sqlite.proofs.StrayLemmas.{stray_told}
use Rattle.bag_sqlite.proofs.TextLemmas.{IsInText, text_told}
use Rattle.bag_sqlite.proofs.ToldLemmas.{format_told, item_told, tag_told, transfer_told}
use Rattle.bag_sqlite.proofs.TransferMeanings.{tags_plain}
use Rattle.bag_rules.proofs.HasLemmas.{all_of}

-- WHAT IS ASKED OF ONE FORMAT ALONE

all_items_plain : (l : Layout) → IsPlain (understood (schema_of l) (items_text (format_of l)))
all_items_plain First = whole_plain
all_items_plain (Second o) = items_plain o

any_body_plain : (l : Layout) → format_of l ≡ form.First → IsPlain (understood (schema_of l) body_text)
any_body_plain First is = body_plain
any_body_plain (Second o) is = absurd cc

any_piece_plain : (l : Layout) → format_of l ≡ form.Second → IsPlain (understood (schema_of l) piece_text)
any_piece_plain First is = absurd cc
any_piece_plain (Second o) is = piece_plain o

any_count_plain : (l : Layout) → format_of l ≡ form.Second → IsPlain (understood (schema_of l) count_text)
any_count_plain First is = absurd cc
any_count_plain (Second o) is = count_plain o

any_count_told : (l : Layout) → format_of l ≡ form.Second → {S : Type 0} (g : Ghosts S) (db : Database) → db.schema ≡ schema_of l → (number : ℤ) (rows : List Row) → Tells g db count_text (Int number ∷ []) rows
    → (row : Row) × (rows ≡ row ∷ []) × IsInt (column row 0)
any_count_told First is g db has number rows told = absurd cc
any_count_told (Second o) is g db has number rows told = count_told o g db has number rows told

-- WHAT IS SHOWN

module _ {S : Type 0} {l : Layout} (g : Ghosts S) (db : Database) (ledger : Ledger) (has : db.schema ≡ schema_of l) (tables : AreTablesOf l db.trees ledger) where
  abbrev number : ℤ
  number = number_of (format_of l)

  says_number : (rows : List Row) → Tells g db format_text [] rows → SaysFormat rows number
  says_number rows told = (_, format_told g db ledger has tables rows told, refl, refl)

  may_say : (format : Format) (rows : List Row) → SaysFormat rows (number_of format) → MayShow the_format rows
  may_say form.First rows says = inl says
  may_say form.Second rows says = inr says

  one_number : (a b : Format) → number_of a ≡ number_of b → a ≡ b
  one_number form.First form.First same = refl
  one_number form.First form.Second same = absurd cc
  one_number form.Second form.First same = absurd cc
  one_number form.Second form.Second same = refl

  -- it has no other format
  pub one_format_named : (format : Format) → HasFormat g db (number_of format) → format ≡ format_of l
  one_format_named format named =
      let is = format_told g db ledger has tables (named.row ∷ []) named.told in
      let row : named.row ≡ format_row number = cc in
      let same : Int (number_of format) ≡ Int number = sym named.number_is ∙ ap (λ r. column r 1) row in
      let numbers : number_of format ≡ number = cc in
      one_number format (format_of l) numbers

  pub format_shown : ¬ HasNoFormat g db
  format_shown (inl unknown) = unknown (subst (λ schema. IsPlain (understood schema format_text)) (sym has) (format_plain l))
  format_shown (inr it) = it.2 (may_say (format_of l) it.0 (says_number it.0 it.1))

  module _ (in_text : (t : NumberedTransfer) → Has tables.held.transfers t → IsInText t) where
    -- the query can be understood, and shows only such rows
    abbrev IsAnswered : Question → Type 0
    IsAnswered asked = IsPlain (understood db.schema (text_of (format_of l) asked)) × ((rows : List Row) → Tells g db (text_of (format_of l) asked) (params_of asked) rows → MayShow asked rows)

    understood_here : (sql : List ℕ) → IsPlain (understood (schema_of l) sql) → IsPlain (understood db.schema sql)
    understood_here sql plain = subst (λ schema. IsPlain (understood schema sql)) (sym has) plain

    answered : (asked : Question) → IsAsked (format_of l) asked → IsAnswered asked
    answered the_format is = (understood_here format_text (format_plain l), λ rows told. may_say (format_of l) rows (says_number rows told))
    answered the_transfers is = (
      understood_here transfers_text (transfers_plain l),
      λ rows told. all_of (λ row. IsInt (column row 0) × IsText (column row 1)) rows (λ row here.
          let it = transfer_told g db ledger has tables.held rows told row here in
          let t = it.transfer in
          ((t.number, ap (λ r. column r 0) it.is), (t.name, ap (λ r. column r 1) it.is, (in_text t it.there).name))),
    )
    answered (tags_under transfer) is = (
      understood_here tag_files_text (tags_plain l),
      λ rows told. all_of (λ row. IsText (column row 0) × IsBlob (column row 1)) rows (λ row here.
          let it = tag_told g db ledger has tables.held transfer rows told row here in
          ((it.file.0, ap (λ r. column r 0) it.is, (in_text it.transfer it.there).tags it.file it.owned), (it.file.1, ap (λ r. column r 1) it.is))),
    )
    answered (items_under transfer) is = (
      understood_here (items_text (format_of l)) (all_items_plain l),
      λ rows told. all_of (λ row. IsInt (column row 0) × IsText (column row 1) × IsInt (column row 2)) rows (λ row here.
          let it = item_told g db ledger has tables.held transfer rows told row here in
          let item = it.item in (
            (item.number, ap (λ r. column r 0) it.is),
            (item.path, ap (λ r. column r 1) it.is, (in_text it.transfer it.there).items item it.owned),
            (_, ap (λ r. column r 2) it.is),
          )),
    )
    answered (body_of item) is = (understood_here body_text (any_body_plain l is), λ rows told. tt)
    answered (piece_at item n) is = (understood_here piece_text (any_piece_plain l is), λ rows told. tt)
    answered (count_under item) is = (understood_here count_text (any_count_plain l is), λ rows told. any_count_told l is g db has item rows told)
    answered (strays text) one = stray_told g db ledger has tables.held text one
    answered (all_texts text) one = text_told g db ledger has tables.held in_text text one

    pub is_ledger : ¬ IsNoLedger g db (format_of l)
    is_ledger it = elim it.2 [
      | inl unknown ↦ unknown (answered it.0 it.1).0
      | inr other ↦ other.2 ((answered it.0 it.1).1 other.0 other.1)
    ]

-- tables that name format 1 are those of format 1
pub named_first : {S : Type 0} (g : Ghosts S) (db : Database) (l : Layout) (ledger : Ledger) → db.schema ≡ schema_of l → AreTablesOf l db.trees ledger
    → HasFormat g db (number_of form.First) → l ≡ First
named_first g db First ledger has tables named = refl
named_first g db (Second o) ledger has tables named =
    absurd (let other : form.First ≡ form.Second = one_format_named g db ledger has tables form.First named in cc)
