-- Runs of couriers, one at a time.
use Rattle.std.proofs.Common.{◌≡◌, ◌≢◌, ◌++◌, ◌∷◌, ◌∙◌, List, [], ap, refl, subst}
use Rattle.std.specs.Iterator.{Yields}
use Rattle.std.specs.Vec.Iter.{into_iter_items, into_iter_steps}
use Rattle.std.specs.declared.vec.IntoIter.{IntoIter}
use Rattle.bag_receiver.specs.declared.run.End.{End}
use Rattle.bag_receiver.specs.declared.run.End.TheVariants.{Done, TooMany, Courier, Memory}
use Rattle.bag_commands.specs.Intakes.{IfDone, TakesIn}
use Rattle.bag_commands.specs.IntakeTexts.{Told}

-- these couriers were run in sequence, and each delivered everything
abbrev pub Ran : {R C : Type 0} → (R → R → C → C → Told → Type 0) → List C → List C → List Told → R → R → Type 0
Ran runs [] [] [] old new = new ≡ old
Ran runs (courier ∷ couriers) (later ∷ laters) (told ∷ more) old new = (next : _) × runs old next courier later told × (told.ended ≡ Done) × Ran runs couriers laters more next new
Ran runs couriers laters told old new = ⊥

pub if_done : (ended : End) (on off : Type 0) → ended ≡ Done → on → IfDone ended on off
if_done Done on off is goes_on = goes_on
if_done TooMany on off is goes_on = absurd (cc is)
if_done Courier on off is goes_on = absurd (cc is)
if_done Memory on off is goes_on = absurd (cc is)

pub if_not_done : (ended : End) (on off : Type 0) → ended ≢ Done → off → IfDone ended on off
if_not_done Done on off other stops = absurd (other refl)
if_not_done TooMany on off other stops = stops
if_not_done Courier on off other stops = stops
if_not_done Memory on off other stops = stops

-- all couriers were run
pub ran_all : {R C : Type 0} (runs : R → R → C → C → Told → Type 0) (couriers laters : List C) (told : List Told) (old new : R) → Ran runs couriers laters told old new → TakesIn runs couriers laters told old new
ran_all runs [] [] [] old new ran = ran
ran_all runs [] [] (told ∷ more) old new ran = absurd ran
ran_all runs [] (later ∷ laters) told old new ran = absurd ran
ran_all runs (courier ∷ couriers) [] told old new ran = absurd ran
ran_all runs (courier ∷ couriers) (later ∷ laters) [] old new ran = absurd ran
ran_all runs (courier ∷ couriers) (later ∷ laters) (told ∷ more) old new ran =
    let next = ran.0 in
    let this : runs old next courier later told = ran.1 in
    let done : told.ended ≡ Done = ran.2 in
    let rest : TakesIn runs couriers laters more next new = ran_all runs couriers laters more next new ran.3 in
    (next, this, if_done told.ended (TakesIn runs couriers laters more next new) ((laters ≡ couriers) × (more ≡ []) × (new ≡ next)) done rest)

-- one more run, which delivered everything
pub ran_more : {R C : Type 0} (runs : R → R → C → C → Told → Type 0) (couriers laters : List C) (told : List Told) (courier later : C) (one : Told) (old now new : R)
    → Ran runs couriers laters told old now → runs now new courier later one → one.ended ≡ Done → Ran runs (couriers ++ courier ∷ []) (laters ++ later ∷ []) (told ++ one ∷ []) old new
ran_more runs [] [] [] courier later one old now new ran run done = (new, subst (λ from. runs from new courier later one) ran run, done, refl)
ran_more runs [] [] (first ∷ more) courier later one old now new ran run done = absurd ran
ran_more runs [] (c ∷ laters) told courier later one old now new ran run done = absurd ran
ran_more runs (c ∷ couriers) [] told courier later one old now new ran run done = absurd ran
ran_more runs (c ∷ couriers) (d ∷ laters) [] courier later one old now new ran run done = absurd ran
ran_more runs (c ∷ couriers) (d ∷ laters) (first ∷ more) courier later one old now new ran run done =
    (ran.0, ran.1, ran.2, ran_more runs couriers laters more courier later one ran.0 now new ran.3 run done)

-- one more run, which didn't and so was the last
pub ran_last : {R C : Type 0} (runs : R → R → C → C → Told → Type 0) (couriers laters rest : List C) (told : List Told) (courier later : C) (one : Told) (old now new : R)
    → Ran runs couriers laters told old now → runs now new courier later one → one.ended ≢ Done
    → TakesIn runs (couriers ++ courier ∷ rest) (laters ++ later ∷ rest) (told ++ one ∷ []) old new
ran_last runs [] [] rest [] courier later one old now new ran run other =
    let none : List Told = [] in
    (new, subst (λ from. runs from new courier later one) ran run, if_not_done one.ended (TakesIn runs rest rest none new new) ((rest ≡ rest) × (none ≡ []) × (new ≡ new)) other (refl, refl, refl))
ran_last runs [] [] rest (first ∷ more) courier later one old now new ran run other = absurd ran
ran_last runs [] (c ∷ laters) rest told courier later one old now new ran run other = absurd ran
ran_last runs (c ∷ couriers) [] rest told courier later one old now new ran run other = absurd ran
ran_last runs (c ∷ couriers) (d ∷ laters) rest [] courier later one old now new ran run other = absurd ran
ran_last runs (c ∷ couriers) (d ∷ laters) rest (first ∷ more) courier later one old now new ran run other =
    let next = ran.0 in
    let on : TakesIn runs (couriers ++ courier ∷ rest) (laters ++ later ∷ rest) (more ++ one ∷ []) next new = ran_last runs couriers laters rest more courier later one next now new ran.3 run other in (
      next,
      ran.1,
      if_done first.ended (TakesIn runs (couriers ++ courier ∷ rest) (laters ++ later ∷ rest) (more ++ one ∷ []) next new)
          ((laters ++ later ∷ rest ≡ couriers ++ courier ∷ rest) × (more ++ one ∷ [] ≡ []) × (new ≡ next)) ran.2 on,
    )

-- COURIERS OF A VECTOR

-- those that were yielded are at its front, and those that are left come after them
pub front_yielded : {X A : Type 0} (old : IntoIter X A) (items : List X) (new : IntoIter X A) → Yields into_iter_steps old items new → into_iter_items old ≡ items ++ into_iter_items new
front_yielded old [] new yields = ap into_iter_items yields
front_yielded old (item ∷ items) new yields = yields.1.0 ∙ ap (λ rest. item ∷ rest) (front_yielded yields.0 items new yields.2)
