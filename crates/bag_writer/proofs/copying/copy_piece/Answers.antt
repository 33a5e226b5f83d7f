use Rattle.std.proofs.Common.{refl}
use Rattle.std.proofs.lemmas.Result.{err_from_is_err_and}
use Rattle.bag_writer.specs.Copying.{sides}
use Rattle.bag_writer.proofs.CopyPieces.{read_stops, risen, write_fails}
use Rattle.bag_writer.proofs.copying.copy_piece.Goals as goal

pub returns-in_err-n-clause-copied : goal.returns-in_err-n-clause-copied
returns-in_err-n-clause-copied g c = λ work octets copied count.
    let s = sides g.F.OpenFile.place g.F.Source g.G.SinkFile in
    let p = err_from_is_err_and c.from_residual.result c.from_residual.ensures.1 in
    rw (p.1, p.2) (read_stops s g.F.Source.keeps g.met.F.OpenFile.reads_keep_place work octets c.args.copied count copied c.in_err-n.field-0.0 c.in_err-n.ensures.stopped c.in_err-n.ensures.uses)

pub returns-in_err-write-clause-copied : goal.returns-in_err-write-clause-copied
returns-in_err-write-clause-copied g c = λ work octets copied count.
    let s = sides g.F.OpenFile.place g.F.Source g.G.SinkFile in
    let p = err_from_is_err_and c.from_residual-in_err-write.result c.from_residual-in_err-write.ensures.1 in
    let wrote = c.in_err-write.ensures in
    rw (p.1, p.2) (write_fails s g.F.Source.keeps g.met.F.OpenFile.reads_keep_place work octets c.fill.new.buffer c.args.copied c.in_ok-n.n count copied c.in_ok-n.ensures.piece c.in_ok-n.ensures.uses
    wrote.place (risen (g.G.SinkFile.failures c.args.target.now) (g.G.SinkFile.failures c.write.new.self) _ wrote.counted refl) (λ h. (wrote.sure h).1 refl))
