-- Calls of a sink that didn't fail, and errors that are passed on.
use Rattle.std.proofs.Common.{◌≡◌, ◌∙◌, ℕ, Err, IsErrOf, Ok, ap, subst, sym}
use Rattle.std.specs.Prelude.{IfErr, Result}
use Rattle.bag_writer.specs.Sinks.{UsesSink}
use Rattle.bag_writer.specs.Writing.{IsMetLater}
use Rattle.bag_writer.specs.declared.write_fault.WriteFault.{WriteFault}
use Rattle.bag_writer.specs.declared.write_fault.WriteFault.TheVariants.{Memory, Sink, Tree}

pub err_again : {X Y : Type 0} {y z : WriteFault} → IsErrOf {T = X} (Err y) z → IsErrOf {T = Y} (Err y) z
err_again {X} {Y} {y} {z} e = let k : y ≡ z = cc in ap Err k

pub same_told : {A : Type 0} {x y : WriteFault} → IsErrOf {T = A} (Err x) y → x ≡ y
same_told e = cc

-- what fails only for want of memory
pub met_memory : {X : Type 0} (r : Result X WriteFault) → IfErr r (λ fault. fault ≡ Memory) → IfErr r IsMetLater
met_memory (Ok x) refused = tt
met_memory (Err fault) refused = subst IsMetLater (sym refused) tt

pub not_tree : {X : Type 0} (r : Result X WriteFault) → IfErr r (λ fault. fault ≡ Memory) → ¬ IsErrOf r Tree
not_tree (Ok x) refused e = cc
not_tree (Err fault) refused e = let k : fault ≡ Tree = cc in let m : Memory ≡ Tree = sym refused ∙ k in cc

pub not_sink : {X : Type 0} (r : Result X WriteFault) → IfErr r (λ fault. fault ≡ Memory) → ¬ IsErrOf r Sink
not_sink (Ok x) refused e = cc
not_sink (Err fault) refused e = let k : fault ≡ Sink = cc in let m : Memory ≡ Sink = sym refused ∙ k in cc

-- a call that didn't fail, whatever order is required
pub sink_kept : {S : Type 0} {failures : S → ℕ} {sure : S → Type 0} {a b : S} {In Other F : Type 0} → UsesSink failures sure a b In F → ¬ F → UsesSink failures sure a b Other ⊥
sink_kept p not = record {
  counted = record { rises = λ no. absurd no; stays = λ n. p.counted.stays not };
  stays_sure = λ s. ((p.stays_sure s).0, (λ o no. no));
}
