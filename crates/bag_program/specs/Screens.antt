-- What is written to a terminal, or to what is none.
use Rattle.std.specs.Prelude.{◌≡◌, ℕ, Bool, List, None, Option, false, if◌then◌else◌, true}
use Rattle.std.specs.Io.Buffered.{writer_contents}
use Rattle.std.specs.Io.KnownBytes.{Appends}
use Rattle.bag_program.specs.Terminals.{IsShownAs}
use Rattle.bag_program.specs.declared.terminal.Screen.{Screen}

-- what was given to be written: it is not known of a terminal
abbrev pub given_to : {W : Type 0} → (W → Option (List ℕ)) → Screen W → Option (List ℕ)
given_to contents screen =
    if screen.is_terminal then None else writer_contents contents screen.writer

-- a terminal is shown the octets so, and anything else gets them as they are
abbrev pub IsShownOn : Bool → List ℕ → List ℕ → Type 0
IsShownOn true octets shown = IsShownAs octets shown
IsShownOn false octets shown = shown ≡ octets

-- what is shown of these octets was written
abbrev pub Shows : {W : Type 0} → (W → Option (List ℕ)) → Screen W → Screen W → List ℕ → Type 0
Shows contents old new octets = (shown : List ℕ) × IsShownOn old.is_terminal octets shown
    × Appends (writer_contents contents old.writer) (writer_contents contents new.writer) shown
