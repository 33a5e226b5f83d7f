-- What is written to a terminal.
use Rattle.std.proofs.Common.{◌≡◌, ℕ, Bool, List, Option, false, refl, subst, true}
use Rattle.std.proofs.KnownBytes.{Appends-kept}
use Rattle.std.specs.Io.Buffered.{writer_contents}
use Rattle.std.specs.Io.KnownBytes.{Appends, Keeps}
use Rattle.std.specs.List.{flat_map}
use Rattle.std.specs.Str.{IsUtf8, chars}
use Rattle.std.specs.declared.alloc.Global.{Global}
use Rattle.std.specs.declared.io.buffered.BufWriter.{BufWriter}
use Rattle.bag_program.specs.Screens.{IsShownOn, Shows}
use Rattle.bag_program.specs.Terminals.{IsShownAs, escape_of, shown_char}
use Rattle.bag_program.specs.declared.terminal.Screen.{Screen}

pub text_shown : (octets : List ℕ) → IsUtf8 octets → IsShownAs octets (flat_map shown_char (chars octets))
text_shown octets is = record { text = λ _. refl; other = λ none. absurd (none is) }

pub other_shown : (octets : List ℕ) → (IsUtf8 octets → ⊥) → IsShownAs octets (flat_map escape_of octets)
other_shown octets none = record { text = λ is. absurd (none is); other = λ _. refl }

on_terminal : (is_terminal : Bool) (octets shown : List ℕ) → is_terminal ≡ true → IsShownAs octets shown → IsShownOn is_terminal octets shown
on_terminal true octets shown is it = it
on_terminal false octets shown is it = absurd (cc is)

-- what is shown was written, and then handed on
pub shows : {W : Type 0} (contents : W → Option (List ℕ)) (old between : Screen W) (written last : BufWriter W Global) (octets shown : List ℕ) → old.is_terminal ≡ true → IsShownAs octets shown
    → Appends (writer_contents contents old.writer) (writer_contents contents written) shown → between ≡ record { writer = written; is_terminal = old.is_terminal }
    → Keeps (writer_contents contents between.writer) (writer_contents contents last) → Shows contents old (record { writer = last; is_terminal = between.is_terminal }) octets
shows {W} contents old between written last octets shown is it wrote same keeps =
    let kept : Keeps (writer_contents contents written) (writer_contents contents last) = subst (λ (screen : Screen W). Keeps (writer_contents contents screen.writer) (writer_contents contents last)) same keeps in
    (shown, on_terminal old.is_terminal octets shown is it, Appends-kept (writer_contents contents old.writer) (writer_contents contents written) (writer_contents contents last) shown wrote kept)
