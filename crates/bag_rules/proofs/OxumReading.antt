-- Whether a value can be read as `Payload-Oxum`.
use Rattle.std.proofs.Common.{◌≡◌, ℕ, List, Bool, Option, Some, None, IsTrue, IfSome, is_some, not, true, false, refl, sym, ap, ◌∙◌, subst}
use Rattle.bag_rules.proofs.Words.{Oxum, OxumText}

abbrev pub oxum : ℕ → ℕ → Oxum
oxum octets streams = record { octets = octets; streams = streams }

module _ (value text : List ℕ) (o : Option Oxum) where
  pub unread : (none : Bool) → text ≡ value → ((x : Oxum) → OxumText text x.octets x.streams → o ≡ Some x) → is_some o ≡ not none → IsTrue none → (octets streams : ℕ) → ¬ OxumText value octets streams
  unread none same only e is octets streams h =
      let some : o ≡ Some (oxum octets streams) = only (oxum octets streams) (subst (λ t. OxumText t octets streams) (sym same) h) in
      let k : true ≡ false = sym (ap is_some some) ∙ e ∙ ap not is in cc

  pub read : (none : Bool) → text ≡ value → IfSome o (λ x. OxumText text x.octets x.streams) → is_some o ≡ not none → ((octets streams : ℕ) → ¬ OxumText value octets streams) → IsTrue none
  read none same text_is e bad = by_cases o none text_is e
    where
      by_cases : (p : Option Oxum) (none : Bool) → IfSome p (λ x. OxumText text x.octets x.streams) → is_some p ≡ not none → IsTrue none
      by_cases (Some x) none h e = absurd (bad x.octets x.streams (subst (λ t. OxumText t x.octets x.streams) same h))
      by_cases None true h e = refl
      by_cases None false h e = absurd (let k : false ≡ true = e in cc)
