-- There is a payload that can have been read from a tree.
use Rattle.std.proofs.Common.{◌≡◌, ◌∙◌, ◌∷◌, [], ℕ, List, Option, Some, map, refl, ap, inl, inr}
use Rattle.std.specs.List.{filter}
use Rattle.std.specs.Option.{unwrap_or}
use Rattle.bag_rules.proofs.Words.{Files, cases_Bool, is_payload, keys_of, payload_of, Shown}
use Rattle.bag_writer.specs.Writing.{IsReadFrom}

abbrev ShownFile : Type 0
ShownFile = List ℕ × Option (List ℕ)

-- the payload files that are shown, each with its octets if they are known
abbrev payload_shown : List ShownFile → Files
payload_shown files = map (λ (file : ShownFile). (file.0, unwrap_or file.1 [])) (filter (λ (file : ShownFile). is_payload file.0) files)

shown_paths : (files : List ShownFile) → keys_of (payload_shown files) ≡ filter is_payload (map (λ (file : ShownFile). file.0) files)
shown_paths [] = refl
shown_paths (file ∷ files) = elim (cases_Bool (is_payload file.0)) [
  | inl is ↦ rw is (ap (λ rest. file.0 ∷ rest) (shown_paths files))
  | inr other ↦ rw other (shown_paths files)
]

shown_known : (files : Files) → payload_shown (map (λ (file : List ℕ × List ℕ). (file.0, Some file.1)) files) ≡ payload_of files
shown_known [] = refl
shown_known (file ∷ files) = elim (cases_Bool (is_payload file.0)) [
  | inl is ↦ rw is (ap (λ rest. file ∷ rest) (shown_known files))
  | inr other ↦ rw other (shown_known files)
]

pub some_payload : (shown : Shown) → (payload : Files) × IsReadFrom shown payload
some_payload shown = (
  payload_shown shown.files,
  record {
    paths = shown_paths shown.files;
    known = λ bag is. ap (λ (all : Shown). payload_shown all.files) is ∙ shown_known bag.files;
  },
)
