use Rattle.std.proofs.Common.{◌∙◌, [], arith, subst}
use Rattle.std.specs.Io.KnownBytes.{Consumes}
use Rattle.bag_writer.proofs.Beginning.{take_none}
use Rattle.bag_writer.proofs.payload_beside.open_next.Goals as goal

pub returns-in-Ok-clause-opened : goal.returns-in-Ok-clause-opened
returns-in-Ok-clause-opened g c =
    let opened = c.in_ok-source.ensures.opened in
    let uses = c.in-Ok.ensures.uses in
    let left = g.T.File.Source.remaining c.read.new.self in
    record {
      placed = g.met.T.File.OpenFile.reads_keep_place _ _ uses.kept ∙ opened.placed;
      unread = subst (λ o. Consumes o left []) opened.unread
          (subst (λ octets. Consumes (g.T.File.Source.remaining c.in_ok-source.source) left octets) (take_none c.in-Ok.field-0 c.read.new.buf (omega arith)) c.in-Ok.ensures.octets.0);
      unfailed = uses.counted.stays (λ e. cc e) ∙ opened.unfailed;
      is_ready = λ sure. (uses.stays_ready (opened.is_ready sure)).0;
    }
