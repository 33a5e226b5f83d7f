use Rattle.std.proofs.lemmas.Result.{err_from_is_err_and}
use Rattle.bag_writer.proofs.TagSteps.{end_lost, front_written}
use Rattle.bag_receiver.proofs.CountLemmas.{counts_on}
use Rattle.bag_receiver.specs.declared.export.ExportFault.TheVariants.{Keeper}
use Rattle.bag_receiver.proofs.Words.{Store}
use Rattle.bag_receiver.proofs.export.write_item.Goals as goal

pub returns-in_err-write_content-clause-written : goal.returns-in_err-write_content-clause-written
returns-in_err-write_content-clause-written g c =
    let error = err_from_is_err_and c.from_residual-in_err-write_content.result c.from_residual-in_err-write_content.ensures.1 in
    rw error.1 (λ clean content item sized.
    let part = c.in_err-write_content.ensures.written clean content item sized in
    front_written c.args.item.now.path content part.0 _ _ _ c.in_ok-file.ensures.begun part.1)

pub returns-in_err-write_content-clause-keeper : goal.returns-in_err-write_content-clause-keeper
returns-in_err-write_content-clause-keeper g c =
    let error = err_from_is_err_and c.from_residual-in_err-write_content.result c.from_residual-in_err-write_content.ensures.1 in
    rw (error.1, error.2) (record {
      reads = c.write_content.ensures.keeper.reads;
      counted = counts_on _ (λ store. Keeper (Store store)) _ _ c.in_err-write_content.ensures.keeper.counted;
    })

pub returns-in_err-end-clause-written : goal.returns-in_err-end-clause-written
returns-in_err-end-clause-written g c =
    let error = err_from_is_err_and c.from_residual-in_err-end.result c.from_residual-in_err-end.ensures.1 in
    rw error.1 (λ clean content item sized.
    end_lost c.args.item.now.path content _ _ _ _ c.in_ok-file.ensures.begun (c.in_ok-write_content.ensures.written clean content item sized) c.in_err-end.ensures.lost)
