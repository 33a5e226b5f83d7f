-- The transfer with a name.
use Rattle.std.proofs.Common.{◌≡◌, ℕ, List, Option, None, length, refl, sym, ◌∙◌, inl, inr, arith}
use Rattle.std.specs.List.{list_all}
use Rattle.bag_receiver.specs.TransferNames.{is_of_names}
use Rattle.bag_receiver.specs.declared.transfer_name.TheConstants.{LONGEST_NAME}
use Rattle.bag_receiver.proofs.Words.{Decided, decided_at_most, decided_true, IsNamed, IsTransferName, Ledger, Transfer, transfer_of}

pub name_or_not : (text : List ℕ) → Decided (IsTransferName text)
name_or_not text = elim (decided_at_most 1 (length text)) [
  | inr none ↦ inr (λ h. none (omega (arith, h.some)))
  | inl some ↦ elim (decided_at_most (length text) LONGEST_NAME) [
    | inr long ↦ inr (λ h. long h.within)
    | inl within ↦ elim (decided_true (list_all is_of_names text)) [
      | inr other ↦ inr (λ h. other h.octets)
      | inl octets ↦ inl (record { some = omega (arith, some); within = within; octets = octets })
    ]
  ]
]

pub one_named : (ledger : Ledger) (name : List ℕ) (a b : Option Transfer) → IsNamed ledger name a → IsNamed ledger name b → a ≡ b
one_named ledger name a b h k = elim (name_or_not name) [
  | inl is ↦ h.named is ∙ sym (k.named is)
  | inr other ↦ h.unnamed other ∙ sym (k.unnamed other)
]

pub some_named : (ledger : Ledger) (name : List ℕ) → (transfer : Option Transfer) × IsNamed ledger name transfer
some_named ledger name = elim (name_or_not name) [
  | inl is ↦ (transfer_of ledger name, record { named = λ h. refl; unnamed = λ other. absurd (other is) })
  | inr other ↦ (None, record { named = λ is. absurd (other is); unnamed = λ h. refl })
]
