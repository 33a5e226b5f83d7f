use Rattle.std.proofs.Common.{Err, Some, ◌≡◌, ◌∙◌, ap, arith, subst, sym}
use Rattle.bag_digest.specs.declared.reading.SourceFault.TheVariants as source
use Rattle.bag_digest.proofs.Progress.{more_known}
use Rattle.bag_rules.proofs.GatheringLemmas.{front_is}
use Rattle.bag_rules.proofs.KeptLemmas.{gave_more}
use Rattle.bag_rules.proofs.ReturningLemmas.{leaves_more}
use Rattle.bag_rules.proofs.Words.{octets_in}
use Rattle.bag_rules.proofs.batch_reading.read_front.Goals as goal
use Rattle.bag_digest.proofs.StreamLemmas.{err_same}

pub returns-in-Ok-clause-front : goal.returns-in-Ok-clause-front
returns-in-Ok-clause-front g c =
    let opened = c.in_ok-file.ensures.opened in
    let uses = c.in-Ok.ensures.uses in
    record {
      placed = g.met.T.File.OpenFile.reads_keep_place _ _ uses.kept ∙ opened.placed;
      bound = c.in-Ok.ensures.piece.bound;
      unfailed = uses.counted.stays (λ e. cc e) ∙ opened.unfailed;
      is_ready = λ sure. (uses.stays_ready (opened.is_ready sure)).0;
      known = λ octets is. front_is g.T.File.Source.remaining c.fill.new.reader octets c.fill.new.buffer c.in-Ok.n (g.T.File.Source.remaining c.in_ok-file.file) (opened.unread ∙ is) c.in-Ok.ensures.piece c.in-Ok.ensures.short;
    }

pub returns-in-Ok-clause-tree : goal.returns-in-Ok-clause-tree
returns-in-Ok-clause-tree g c = λ n. leaves_more n (g.met.T.Tree.reads_keep _ _ c.in_ok-file.ensures.rest.kept) c.in_ok-file.ensures.counted

pub returns-in-Err-clause-stopped : goal.returns-in-Err-clause-stopped
returns-in-Err-clause-stopped g c =
    let opened = c.in_ok-file.ensures.opened in
    let uses = c.in-Err.ensures.uses in
    let placed = g.met.T.File.OpenFile.reads_keep_place _ _ uses.kept ∙ opened.placed in (
      placed,
      record {
        inside = omega (arith, placed, c.requires.room.1);
        failed = λ e. omega (arith, uses.counted.rises (ap Err e), opened.unfailed);
        unfailed = λ e. uses.counted.stays (λ r. (let k : source.Read ≡ source.TooLarge = sym (err_same r) ∙ e in cc)) ∙ opened.unfailed;
        large = λ e octets is.
            let known = opened.unread ∙ subst (λ n. octets_in (g.T.Paths.shown c.args.tree.now) n ≡ Some octets) placed is in
            more_known octets _ _ 1099511627776 known (gave_more _ _ 1099511627776 c.in-Err.fault e c.in-Err.ensures.stopped);
      },
      λ sure e. (uses.stays_ready (opened.is_ready sure)).1 (ap Err e),
    )

pub returns-in-Err-clause-tree : goal.returns-in-Err-clause-tree
returns-in-Err-clause-tree g c = λ n. leaves_more n (g.met.T.Tree.reads_keep _ _ c.in_ok-file.ensures.rest.kept) c.in_ok-file.ensures.counted
