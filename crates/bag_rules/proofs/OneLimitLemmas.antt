-- At most one limit is the first that a check meets.
use Rattle.std.proofs.Common.{◌≡◌, ◌∙◌, ℕ, List, Some, slice_get, sym, ap, subst, inl, inr, arith}
use Rattle.bag_rules.proofs.Words.{Bag, cases_order, CheckFault, DeclarationStops, FileStops, FirstStops, ScopeStops, Stops, TextStops, WorkStops}
use Rattle.bag_rules.proofs.LimitLemmas.{none_first}

abbrev File : Type 0
File = List ℕ × List ℕ

-- a file stops the work for at most one reason
abbrev IsOneReason : (List ℕ → List ℕ → CheckFault → Type 0) → Type 0
IsOneReason stops = (path octets : List ℕ) (a b : CheckFault) → stops path octets a → stops path octets b → a ≡ b

module _ (bag : Bag) (stops : List ℕ → List ℕ → CheckFault → Type 0) (a b : CheckFault) (f : FirstStops bag stops a) (g : FirstStops bag stops b) where
  same_place : f.place ≡ g.place
  same_place = elim (cases_order f.place g.place) [
    | inl here ↦ here
    | inr other ↦ elim other [ inl below ↦ absurd (g.first f.place f.path f.octets a below f.there f.reason) | inr above ↦ absurd (f.first g.place g.path g.octets b above g.there g.reason) ]
  ]

  pub one_first : IsOneReason stops → a ≡ b
  one_first one =
      let e : Some (f.path, f.octets) ≡ Some (g.path, g.octets) = sym f.there ∙ ap (slice_get bag.files) same_place ∙ g.there in
      let s : (f.path, f.octets) ≡ (g.path, g.octets) = cc in
      one g.path g.octets a b (subst (λ (file : File). stops file.0 file.1 a) s f.reason) g.reason

one_declaration : IsOneReason DeclarationStops
one_declaration path octets a b f g = f.1.1 ∙ sym g.1.1

one_text : IsOneReason TextStops
one_text path octets a b (file, e, inl f) (other, k, inl g) = f.1 ∙ sym g.1
one_text path octets a b (file, e, inl f) (other, k, inr g) = absurd (let long = f.0 in let short = g.0 in omega (arith, long, short))
one_text path octets a b (file, e, inr f) (other, k, inl g) = absurd (let long = g.0 in let short = f.0 in omega (arith, long, short))
one_text path octets a b (file, e, inr f) (other, k, inr g) = f.1.2 ∙ sym g.1.2

one_file : (bag : Bag) → IsOneReason (FileStops bag)
one_file bag path octets a b f g = f.1.1 ∙ sym g.1.1

one_of_scope : (bag : Bag) (a b : CheckFault) → ScopeStops bag a → ScopeStops bag b → a ≡ b
one_of_scope bag a b (inl f) (inl g) = one_first bag TextStops a b f g one_text
one_of_scope bag a b (inl f) (inr g) = absurd (none_first bag TextStops a g.0 f)
one_of_scope bag a b (inr f) (inl g) = absurd (none_first bag TextStops b f.0 g)
one_of_scope bag a b (inr f) (inr g) = one_first bag (FileStops bag) a b f.2 g.2 (one_file bag)

one_of_work : (bag : Bag) (a b : CheckFault) → WorkStops bag a → WorkStops bag b → a ≡ b
one_of_work bag a b (inl f) (inl g) = one_first bag DeclarationStops a b f g one_declaration
one_of_work bag a b (inl f) (inr g) = absurd (none_first bag DeclarationStops a g.0 f)
one_of_work bag a b (inr f) (inl g) = absurd (none_first bag DeclarationStops b f.0 g)
one_of_work bag a b (inr f) (inr g) = one_of_scope bag a b f.2 g.2

pub one_limit : (bag : Bag) (a b : CheckFault) → Stops bag a → Stops bag b → a ≡ b
one_limit bag a b (inl f) (inl g) = f.1 ∙ sym g.1
one_limit bag a b (inl f) (inr g) = absurd (let more = f.0 in let upto = g.0 in omega (arith, more, upto))
one_limit bag a b (inr f) (inl g) = absurd (let more = g.0 in let upto = f.0 in omega (arith, more, upto))
one_limit bag a b (inr f) (inr g) = one_of_work bag a b f.1 g.1
