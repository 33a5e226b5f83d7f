use Rattle.std.proofs.Common.{ap, sym, ◌∙◌, Some, is_some}
use Rattle.bag_rules.proofs.FilesShown.{body_at}
use Rattle.bag_rules.proofs.MemoryShown.{started_is, read_on, read_view}
use Rattle.bag_rules.proofs.mem_tree.MemTreeSource.read.Goals as goal

pub returns-clause-octets : goal.returns-clause-octets
returns-clause-octets c =
    let reading = c.in-Some.reading in
    let body = body_at c.self.inside.files.items reading.place c.index.result.now (c.self.invariant.reading reading c.in-Some.is) c.index.ensures ∙ ap Some (sym c.deref.ensures.value) in
    let started = started_is c.args.self.now c.self.inside reading c.deref.result.now c.self.view_is c.in-Some.is body in
    read_on c.args.self.now.started _ c.deref.result.now c.copy_from-n.new.buf reading.at c.copy_from-n.result started body c.copy_from-n.ensures.copied c.copy_from-n.ensures.end

pub returns-clause-exactly : goal.returns-clause-exactly
returns-clause-exactly c =
    let reading = c.in-Some.reading in
    let body = body_at c.self.inside.files.items reading.place c.index.result.now (c.self.invariant.reading reading c.in-Some.is) c.index.ensures in
    let started = started_is c.args.self.now c.self.inside reading _ c.self.view_is c.in-Some.is body in
    (ap is_some started, read_view c.args.self.now c.self.inside reading c.copy_from-n.result c.self.view_is c.in-Some.is)
