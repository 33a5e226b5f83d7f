use Rattle.std.proofs.Common.{◌∙◌, ap, length, refl, subst, sym}
use Rattle.std.specs.Prelude.{IfErr, OnOk}
use Rattle.bag_digest.specs.Streams.{AreFresh, HaveEnded, IsFirstStopped}
use Rattle.bag_rules.proofs.batch_reading.BatchReading.read_on.Goals as goal
use Rattle.bag_digest.proofs.ListLemmas.{refilled}

pub digest_streams-requires-clause-fresh : goal.digest_streams-requires-clause-fresh
digest_streams-requires-clause-fresh g c = subst (λ xs. AreFresh xs) (sym c.as_mut_slice.ensures.value) c.requires

pub returns-clause-ended : goal.returns-clause-ended
returns-clause-ended g c =
    let s = g.F.Source in
    let old = c.args.self.now.streams in
    let new = c.digest_streams.new.streams in
    let set = c.args.self.now.set in
    let value = c.as_mut_slice.ensures.value in
    let back = refilled old.len old.items new old.ok.0 (c.digest_streams.auto.streams ∙ ap length value) in
    subst (λ ys. OnOk c.digest_streams.result (HaveEnded s.remaining s.failures s.ready s.keeps set 1099511627776 old.items ys)) (sym back)
    (subst (λ xs. OnOk c.digest_streams.result (HaveEnded s.remaining s.failures s.ready s.keeps set 1099511627776 xs new)) value c.digest_streams.ensures.ended)

pub returns-clause-stopped : goal.returns-clause-stopped
returns-clause-stopped g c =
    let s = g.F.Source in
    let old = c.args.self.now.streams in
    let new = c.digest_streams.new.streams in
    let set = c.args.self.now.set in
    let value = c.as_mut_slice.ensures.value in
    let back = refilled old.len old.items new old.ok.0 (c.digest_streams.auto.streams ∙ ap length value) in
    subst (λ ys. IfErr c.digest_streams.result (IsFirstStopped s.remaining s.failures s.ready s.keeps set 1099511627776 0 old.items ys)) (sym back)
    (subst (λ xs. IfErr c.digest_streams.result (IsFirstStopped s.remaining s.failures s.ready s.keeps set 1099511627776 0 xs new)) value c.digest_streams.ensures.stopped)

pub returns-clause-rest : goal.returns-clause-rest
returns-clause-rest g c =
    let old = c.args.self.now.streams in
    let same = c.digest_streams.auto.streams ∙ ap length c.as_mut_slice.ensures.value in
    (ap length (refilled old.len old.items c.digest_streams.new.streams old.ok.0 same) ∙ same, refl)
