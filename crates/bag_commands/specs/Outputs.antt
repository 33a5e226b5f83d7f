-- What a command leaves in its writer.
use Rattle.std.specs.Prelude.{◌≡◌, ◌⊎◌, ◌∷◌, ℕ, List, [], Option}
use Rattle.std.specs.Io.Buffered.{writer_buffer, writer_contents}
use Rattle.std.specs.Io.KnownBytes.{Appends}
use Rattle.bag_digest.specs.Failures.{Rises}
use Rattle.bag_path.specs.Lines.{written_lines}
use Rattle.bag_commands.specs.declared.status.TheConstants.{FAILED}
use Rattle.bag_commands.specs.declared.output.Output.{Output}

-- no write failed, and exactly these lines were written, each ending in LF
pub record WroteLines {W : Type 0} (contents : W → Option (List ℕ)) (old new : Output W)
    (lines : List (List ℕ)) : Type 0 where
  pub octets : Appends (writer_contents contents old.writer)
      (writer_contents contents new.writer) (written_lines lines)
  pub failures : new.failures ≡ old.failures

-- Either a write failed, and the status is 3; or no write failed, exactly these lines were written, nothing is left in
-- the buffer, and the status is the one that belongs to them.
abbrev pub Printed : {W : Type 0} → (W → Option (List ℕ)) → Output W → Output W → ℕ
    → List (List ℕ) → ℕ → Type 0
Printed contents old new result lines status =
    (Rises old.failures new.failures × (result ≡ FAILED))
    ⊎ (WroteLines contents old new lines × (writer_buffer new.writer ≡ []) × (result ≡ status))

-- an answer of this kind was printed as its lines, with its status
abbrev pub PrintedBy : {W A : Type 0} → (W → Option (List ℕ)) → (A → List (List ℕ)) → (A → ℕ)
    → Output W → Output W → ℕ → (A → Type 0) → Type 0
PrintedBy contents lines status old new result kind =
    (answer : _) × kind answer × Printed contents old new result (lines answer) (status answer)

-- the same for an answer that has one line
abbrev pub PrintedOne : {W A : Type 0} → (W → Option (List ℕ)) → (A → List ℕ) → (A → ℕ)
    → Output W → Output W → ℕ → (A → Type 0) → Type 0
PrintedOne contents text status old new result kind =
    (answer : _) × kind answer × Printed contents old new result (text answer ∷ []) (status answer)
