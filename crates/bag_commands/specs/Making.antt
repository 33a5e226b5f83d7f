-- What `make` does: the names of algorithms, and the results that a written bag allows.
use Rattle.std.specs.Prelude.{◌≡◌, ◌↔◌, ◌++◌, ◌∷◌, ℕ, List, [], All, Contains, IsErrOf, MatchResult, None, Option, Result, Some, codes, slice_get, take, true}
use Rattle.bag_digest.specs.Algorithm.{has, name_of}
use Rattle.bag_digest.specs.declared.algorithm.Alg.{Alg}
use Rattle.bag_digest.specs.declared.algorithm.AlgSet.{AlgSet}
use Rattle.bag_path.specs.Spellings.{written_spelling}
use Rattle.bag_rules.specs.Files as rules
use Rattle.bag_rules.specs.Trees.{Shown, UsesTree}
use Rattle.bag_tags.specs.declared.oxum.Oxum.{Oxum}
use Rattle.bag_writer.specs.Sinks.{IsEmptySink, Stored, UsesSink}
use Rattle.bag_writer.specs.Writing.{IsAccepted, IsDone, IsOfDevice, IsRefusedUnwritten, RefusesBag, payload_paths}
use Rattle.bag_writer.specs.declared.write_fault.WriteFault.{WriteFault}
use Rattle.bag_writer.specs.declared.write_fault.WriteFault.TheVariants.{Tree, Sink}
use Rattle.bag_writer.specs.declared.spec.Spec.{Spec}
use Rattle.bag_commands.specs.declared.output.Output.{Output}
use Rattle.bag_commands.specs.declared.status.TheConstants.{USAGE}
use Rattle.bag_commands.specs.declared.make.MakeEnd.{MakeEnd}
use Rattle.bag_commands.specs.MakeTexts.{large_in, make_status, make_text}
use Rattle.bag_commands.specs.Outputs.{Printed}

-- THE NAMES OF ALGORITHMS

-- the text is the name of an algorithm
abbrev pub NamesAlg : List ℕ → Type 0
NamesAlg word = (alg : Alg) × (word ≡ name_of alg)

-- each text names an algorithm, and the set has exactly those named
pub record NamesSet (words : List (List ℕ)) (set : AlgSet) : Type 0 where
  pub each : All NamesAlg words
  pub exact : (alg : Alg) → (has set alg ≡ true) ↔ Contains words (name_of alg)

-- the first text that names no algorithm
pub record IsFirstUnknown (words : List (List ℕ)) (word : List ℕ) : Type 0 where
  pub place : ℕ
  pub there : slice_get words place ≡ Some word
  pub named : All NamesAlg (take place words)
  pub unknown : ¬ NamesAlg word

-- the text is spelled as a path is in a manifest, so that any text stays on its line
abbrev pub unknown_text : List ℕ → List ℕ
unknown_text word = codes "unknown algorithm " ++ written_spelling word

-- WHAT IS WRITTEN

-- only these algorithms, without elements or holes
pub record IsPlainSpec (set : AlgSet) (spec : Spec) : Type 0 where
  pub algs : spec.algs ≡ set
  pub no_elements : spec.info ≡ []
  pub no_holes : spec.holes.items ≡ []

-- A result of `write_bag`: either the first refusal, before which nothing is written; or the Oxum of the payload that
-- was read, whose bag a sink that was empty holds now. It is a failure of the tree or the sink exactly if that counted
-- one.
pub record IsWriting {T S : Type 0} (shown : T → Shown) (tree_failures : T → ℕ)
    (tree_sure : T → Type 0) (stored : S → Option Stored) (is_open : S → Type 0)
    (sink_failures : S → ℕ) (sink_sure : S → Type 0) (old_tree new_tree : T)
    (old_sink new_sink : S) (spec : Spec) (answer : Result Oxum WriteFault) : Type 0 where
  pub refused : MatchResult answer (λ oxum. IsAccepted (payload_paths (shown old_tree)) spec)
      (RefusesBag (payload_paths (shown old_tree)) spec)
  pub unwritten : IsRefusedUnwritten (payload_paths (shown old_tree)) spec
      → (new_sink ≡ old_sink) × MatchResult answer (λ oxum. ⊥) (λ fault. ¬ IsOfDevice fault)
  pub done : (payload : rules.Files)
      × IsDone (shown old_tree) spec answer (stored old_sink) (stored new_sink) payload
  pub tree : UsesTree shown tree_failures tree_sure old_tree new_tree (IsErrOf answer Tree)
  pub sink : UsesSink sink_failures sink_sure old_sink new_sink
      (is_open old_sink × IsEmptySink (stored old_sink)) (IsErrOf answer Sink)

-- an answer of this kind was printed, with its status, and what is too large in it is told
abbrev pub PrintedMaking : {W : Type 0} → (W → Option (List ℕ)) → Output W → Output W → MakeEnd
    → (Result Oxum WriteFault → Type 0) → Type 0
PrintedMaking contents old new result kind =
    (answer : Result Oxum WriteFault) × kind answer
    × Printed contents old new result.status (make_text answer ∷ []) (make_status answer)
    × (result.large ≡ large_in answer)

-- What `make` did with these names: either it wrote a bag with the algorithms that they name and printed the result; or
-- one of them is unknown, which was printed with the status of an unknown command line, and nothing was read or
-- written.
pub data MakesOf {W : Type 0} (contents : W → Option (List ℕ))
    (writing : Spec → Result Oxum WriteFault → Type 0) (untouched : Type 0)
    (words : List (List ℕ)) (old new : Output W) (result : MakeEnd) : Type 0 where
  Made : (set : AlgSet) (spec : Spec) → NamesSet words set → IsPlainSpec set spec
      → PrintedMaking contents old new result (writing spec)
      → MakesOf contents writing untouched words old new result
  Unknown : (word : List ℕ) → IsFirstUnknown words word → untouched
      → Printed contents old new result.status (unknown_text word ∷ []) USAGE
      → result.large ≡ None
      → MakesOf contents writing untouched words old new result
