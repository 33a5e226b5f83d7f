use Rattle.std.proofs.Common.{subst}
use Rattle.std.proofs.lemmas.Result.{on_ok_weaker}
use Rattle.std.specs.Io.Buffered.{writer_contents}
use Rattle.std.specs.Io.KnownBytes.{Appends}
use Rattle.std.specs.List.{flat_map}
use Rattle.std.specs.Str.{chars}
use Rattle.bag_program.specs.Terminals.{shown_char}
use Rattle.bag_program.proofs.ScreenLemmas.{other_shown, shows, text_shown}
use Rattle.bag_program.proofs.terminal.ScreenWrite.write_all.Goals.{in-Ok+in_ok-write_shown-in-Ok, in-Err+in_ok-write_escaped-in-Err}
use Rattle.bag_program.proofs.terminal.ScreenWrite.write_all.Goals as goal

pub returns-clause-shown : goal.returns-clause-shown
returns-clause-shown g c = elim c.match-from_utf8.branch [
  | in-Ok+in_ok-write_shown-in-Ok w ↦
      let octets = c.args.buf.now in
      let is = w.in-Ok.ensures.cases in
      let wrote = subst (λ text. Appends (writer_contents g.W.Write.contents c.args.self.now.writer) (writer_contents g.W.Write.contents w.write_shown.new.writer) (flat_map shown_char (chars text)))
      is.0 w.in_ok-write_shown-in-Ok.ensures in
      on_ok_weaker c.flush.result (λ handed. shows g.W.Write.contents c.args.self.now c.match-from_utf8.self w.write_shown.new.writer c.flush.new.self octets _ c.if-not-self.false (text_shown octets is.1)
      wrote w.self-is c.flush.ensures.bytes) c.flush.ensures.ok
  | in-Err+in_ok-write_escaped-in-Err w ↦
      on_ok_weaker c.flush.result (λ handed. shows g.W.Write.contents c.args.self.now c.match-from_utf8.self w.write_escaped.new.writer c.flush.new.self c.args.buf.now _ c.if-not-self.false (other_shown c.args.buf.now w.in-Err.ensures.cases.0)
      w.in_ok-write_escaped-in-Err.ensures w.self-is c.flush.ensures.bytes) c.flush.ensures.ok
]
