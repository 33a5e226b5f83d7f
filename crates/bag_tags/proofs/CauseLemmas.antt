-- A line is refused for at most one cause. The facts that it needs are in an order, each with its cause if it fails.
use Rattle.std.proofs.Common.{◌≡◌, ◌⊎◌, Option, Some, None, sym, ◌∙◌, inl, inr}
use Rattle.bag_tags.specs.declared.tag_fault.LineCause.{LineCause}

-- what becomes of a line: it leads on, or is refused for a cause
abbrev pub Fate : Type 0
Fate = Option LineCause

abbrev pub on : Fate
on = None

abbrev pub for : LineCause → Fate
for cause = Some cause

abbrev pub AtMostOne : (Fate → Type 0) → Type 0
AtMostOne P = (fate other : Fate) → P fate → P other → fate ≡ other

-- this fate
abbrev pub Is : Fate → Fate → Type 0
Is fate other = other ≡ fate

-- a fate of the first kind if the fact fails, and otherwise one of the second
abbrev pub Unless : Type 0 → (Fate → Type 0) → (Fate → Type 0) → Fate → Type 0
Unless fact first later fate = (¬ fact × first fate) ⊎ (fact × later fate)

pub one_is : (fate : Fate) → AtMostOne (Is fate)
one_is fate c d h k = h ∙ sym k

pub one_unless : (fact : Type 0) (first later : Fate → Type 0) → AtMostOne first → AtMostOne later → AtMostOne (Unless fact first later)
one_unless fact first later a b c d h k = elim h [
  | inl e ↦ elim k [ inl f ↦ a c d e.1 f.1 | inr f ↦ absurd (e.0 f.0) ]
  | inr e ↦ elim k [ inl f ↦ absurd (f.0 e.0) | inr f ↦ b c d e.1 f.1 ]
]

pub same_cause : (c d : LineCause) → for c ≡ for d → c ≡ d
same_cause c d e = cc

pub on_or_for : (c : LineCause) → on ≡ for c → ⊥
on_or_for c e = cc
