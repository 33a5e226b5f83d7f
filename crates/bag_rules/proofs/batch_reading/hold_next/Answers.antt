use Rattle.std.proofs.Common.{◌≡◌, ◌∙◌, ◌+◌, ◌∷◌, [], Some, ap, arith, length, length-append, refl, slice_get, subst, sym, take}
use Rattle.std.proofs.lemmas.List.{length-take-le}
use Rattle.bag_rules.specs.OctetsRead.{IsKeptAt}
use Rattle.bag_rules.specs.Returning.{LeavesOut}
use Rattle.bag_rules.proofs.KnownFiles.{known_front, known_whole}
use Rattle.bag_rules.proofs.AddingLemmas.{adds_front, adds_whole}
use Rattle.bag_rules.proofs.ReturningLemmas.{leaves_error, leaves_last, leaves_memory}
use Rattle.bag_rules.proofs.TreeLemmas.{octets_shown}
use Rattle.bag_rules.proofs.Words.{err_from_is_err_and, HasFileAt, octets_in, paths_in}
use Rattle.bag_rules.proofs.batch_reading.hold_next.Goals as goal

pub returns-in_err-n-clause-tree : goal.returns-in_err-n-clause-tree
returns-in_err-n-clause-tree g c =
    let n = length c.args.gathered.now.streams.items in
    let p = err_from_is_err_and c.from_residual.result c.from_residual.ensures.1 in
    leaves_error n c.from_residual.result _ c.in_err-n.field-0.0 p.0 p.1 p.2 (c.in_err-n.ensures.tree n)

pub returns-in_err-hold-clause-tree : goal.returns-in_err-hold-clause-tree
returns-in_err-hold-clause-tree g c =
    let n = length c.args.gathered.now.streams.items in
    let p = err_from_is_err_and c.from_residual-in_err-hold.result c.from_residual-in_err-hold.ensures.1 in
    leaves_memory n c.from_residual-in_err-hold.result _ p.0 p.1 p.2
    (leaves_last n (n + 1) n refl (c.in_ok-n.ensures.tree n) (g.met.T.Tree.reads_keep _ _ c.close.ensures.rest.kept) c.close.ensures.counted)

pub returns-then-n-buffer-clause-added : goal.returns-then-n-buffer-clause-added
returns-then-n-buffer-clause-added g c = λ wants known.
    let file = g.T.File in
    let shown = g.T.Paths.shown c.args.tree.now in
    let next = c.requires.streams.1 in
    let front = c.in_ok-n.ensures.front in
    adds_whole file.OpenFile.place file.Source.remaining file.Source.failures file.Source.ready shown (g.T.Tree.sure c.args.tree.now) wants c.args.gathered.now _
    (omega (arith, c.requires.room.1, next)) c.requires.streams.0 c.args.set _ c.in_ok-hold.ensures.held refl refl
    (λ path octets at.
    let here = subst (λ n. HasFileAt shown n path octets) (sym next) at in
    let whole = (front.known octets (octets_shown here)).whole c.if-n-buffer.true in
    (known path octets here, whole.0, whole.1))

pub returns-then-n-buffer-clause-tree : goal.returns-then-n-buffer-clause-tree
returns-then-n-buffer-clause-tree g c =
    let n = length c.args.gathered.now.streams.items in
    leaves_last n (n + 1) n refl (c.in_ok-n.ensures.tree n) (g.met.T.Tree.reads_keep _ _ c.close.ensures.rest.kept) c.close.ensures.counted

pub returns-in-Ok-clause-added : goal.returns-in-Ok-clause-added
returns-in-Ok-clause-added g c = λ wants known.
    let file = g.T.File in
    let shown = g.T.Paths.shown c.args.tree.now in
    let next = c.requires.streams.1 in
    let front = c.in_ok-n.ensures.front in
    adds_front file.OpenFile.place file.Source.remaining file.Source.failures file.Source.ready shown (g.T.Tree.sure c.args.tree.now) wants c.args.gathered.now c.hold-2.new.self
    (omega (arith, c.requires.room.1, next)) c.requires.streams.0 c.args.set _ c.in_ok-n.file c.in-Ok.ensures.held
    (front.placed ∙ next) (c.read_front.auto.buffer ∙ c.requires.room.0) front.unfailed front.is_ready
    (λ path octets at. known path octets (subst (λ n. HasFileAt shown n path octets) (sym next) at))
    (λ octets is. (front.known octets (subst (λ n. octets_in shown n ≡ Some octets) (sym next) is)).more c.if-n-buffer.false)

pub returns-in-Ok-clause-tree : goal.returns-in-Ok-clause-tree
returns-in-Ok-clause-tree g c =
    let held = c.in-Ok.ensures.held in
    let old = c.args.gathered.now.streams.items in
    let more : length old + 1 ≡ length c.hold-2.new.self.streams.items = omega (arith, ap length held.streams, length-append old (held.stream ∷ [])) in
    subst (λ n. LeavesOut g.T.Paths.shown g.T.Source.failures g.T.Tree.sure (length old) n c.args.tree.now c.read_front.new.tree) more (c.in_ok-n.ensures.tree (length old))

pub returns-in-Err-clause-tree : goal.returns-in-Err-clause-tree
returns-in-Err-clause-tree g c =
    let n = length c.args.gathered.now.streams.items in
    leaves_last n (n + 1) (n + 0) (omega arith) (c.in_ok-n.ensures.tree n) (g.met.T.Tree.reads_keep _ _ c.close-in-Err.ensures.rest.kept) c.close-in-Err.ensures.counted

pub returns-then-n-buffer-clause-some : goal.returns-then-n-buffer-clause-some
returns-then-n-buffer-clause-some g c = λ kept wants known are unkept read.
    let shown = g.T.Paths.shown c.args.tree.now in
    let next = c.requires.streams.1 in
    let front = c.in_ok-n.ensures.front in
    let content = take c.in_ok-n.n c.read_front.new.buffer in
    known_whole g.T.File.OpenFile.place shown kept wants known c.args.gathered.now _ are (subst (λ n. ¬ IsKeptAt kept n) next unkept) c.args.set
    (λ path at. read path (subst (λ n. slice_get (paths_in shown) n ≡ Some path) (sym next) at))
    content c.in_ok-hold.ensures.held refl refl
    (λ k stream at. (c.requires.streams.0.each k stream at).before)
    (λ own is. ((front.known own (subst (λ n. octets_in shown n ≡ Some own) (sym next) is)).whole c.if-n-buffer.true).0)
    (let room = c.requires.room.0 in let same = c.read_front.auto.buffer in omega (arith, length-take-le c.in_ok-n.n c.read_front.new.buffer front.bound, front.bound, room, same))

pub returns-in-Ok-clause-some : goal.returns-in-Ok-clause-some
returns-in-Ok-clause-some g c = λ kept wants known are unkept read.
    let shown = g.T.Paths.shown c.args.tree.now in
    let next = c.requires.streams.1 in (
      known,
      λ i octets is. is,
      known_front g.T.File.OpenFile.place shown kept wants known c.args.gathered.now c.hold-2.new.self are (subst (λ n. ¬ IsKeptAt kept n) next unkept) c.args.set
          (λ path at. read path (subst (λ n. slice_get (paths_in shown) n ≡ Some path) (sym next) at))
          _ c.in_ok-n.file c.in-Ok.ensures.held (c.in_ok-n.ensures.front.placed ∙ next),
    )
