use Rattle.std.proofs.Common.{arith, refl, subst, sym}
use Rattle.bag_rules.specs.FileBatchInside.{IsFindingOf}
use Rattle.bag_rules.specs.BatchReading.{IsReadAt}
use Rattle.bag_rules.specs.OctetsRead.{IsUnkept}
use Rattle.bag_rules.proofs.KnownFiles.{known_next}
use Rattle.bag_rules.proofs.OctetsLemmas.{bag_by, file_as, own_paths}
use Rattle.bag_rules.proofs.TreeLemmas.{file_at}
use Rattle.bag_rules.proofs.AddingLemmas.{adds_known, if_stopped}
use Rattle.bag_rules.proofs.Words.{HasFileAt, IfErr-weaker, shown_of}
use Rattle.bag_rules.proofs.batch_reading.read_next.Goals as goal

pub returns-in_ok-add-in-Known-clause-added : goal.returns-in_ok-add-in-Known-clause-added
returns-in_ok-add-in-Known-clause-added g c =
    let file = g.T.File in
    let shown = g.T.Paths.shown c.args.tree.now in
    let next = c.requires.streams.1 in
    adds_known file.OpenFile.place file.Source.remaining file.Source.failures file.Source.ready shown (g.T.Tree.sure c.args.tree.now) c.args.wants.now c.args.gathered.now _
    (omega (arith, c.requires.can_read.inside, next)) c.requires.streams.0 c.in-Known.sums c.in_ok-add-in-Known.ensures.added refl refl
    (λ path octets at. subst (λ finding. IsFindingOf c.args.wants.now path octets finding) c.in-Known.is (c.in_ok-sums.ensures.found (g.T.Paths.shown c.args.tree.now) refl c.requires.can_read.are_kept path octets (subst (λ n. HasFileAt shown n path octets) (sym next) at)))

pub returns-in-ToRead-clause-added : goal.returns-in-ToRead-clause-added
returns-in-ToRead-clause-added g c =
    c.hold_next.ensures.added c.args.wants.now
    (λ path octets at. subst (λ finding. IsFindingOf c.args.wants.now path octets finding) c.in-ToRead.is (c.in_ok-sums.ensures.found (g.T.Paths.shown c.args.tree.now) refl c.requires.can_read.are_kept path octets at))

pub returns-in-ToRead-clause-stopped : goal.returns-in-ToRead-clause-stopped
returns-in-ToRead-clause-stopped g c =
    IfErr-weaker c.hold_next.result _ _
    (λ fault is. (
      is.0,
      is.1,
      if_stopped fault (IsReadAt (g.T.Paths.shown c.args.tree.now) c.args.wants.now c.args.place)
          (λ path octets at. (subst (λ finding. IsFindingOf c.args.wants.now path octets finding) c.in-ToRead.is (c.in_ok-sums.ensures.found (g.T.Paths.shown c.args.tree.now) refl c.requires.can_read.are_kept path octets at)).0),
    ))
    c.hold_next.ensures.stopped

pub returns-in_ok-add-in-Known-clause-some : goal.returns-in_ok-add-in-Known-clause-some
returns-in_ok-add-in-Known-clause-some g c = λ known are listed.
    let wants = c.args.wants.now in
    let next = c.requires.streams.1 in (
      known,
      λ i octets is. is,
      known_next g.T.File.OpenFile.place (g.T.Paths.shown c.args.tree.now) c.args.kept.now wants known c.args.gathered.now _ are c.in-Known.sums c.in_ok-add-in-Known.ensures.added refl refl
          (λ bag is path octets at. subst (IsFindingOf wants path octets) c.in-Known.is
          (c.in_ok-sums.ensures.found (shown_of bag) (own_paths bag is.files) (are.knows.are_kept bag is) path octets (subst (λ n. HasFileAt (shown_of bag) n path octets) (sym next) at))),
    )

pub returns-in-ToRead-clause-some : goal.returns-in-ToRead-clause-some
returns-in-ToRead-clause-some g c = λ known are listed.
    let shown = g.T.Paths.shown c.args.tree.now in
    let wants = c.args.wants.now in
    let unkept = subst (IsUnkept c.args.kept.now c.args.place) c.in-ToRead.is (c.in_ok-sums.ensures.unkept listed) in
    c.hold_next.ensures.some c.args.kept.now wants known are unkept
    (λ path at.
    let bag = bag_by shown known in
    let file = file_as bag.0 bag.1.files c.args.place path at in
    subst (IsFindingOf wants path file.0) c.in-ToRead.is
    (c.in_ok-sums.ensures.found (shown_of bag.0) (own_paths bag.0 bag.1.files) (are.knows.are_kept bag.0 bag.1) path file.0 (file_at {shown = shown_of bag.0} bag.0 refl c.args.place path file.0 file.1)))
