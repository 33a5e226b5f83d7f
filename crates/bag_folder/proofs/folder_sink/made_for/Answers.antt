use Rattle.std.proofs.lemmas.Result.{err_from_is_err_and}
use Rattle.bag_folder.proofs.NameLemmas.{way_done, way_refused}
use Rattle.bag_folder.proofs.folder_sink.made_for.Goals as goal

pub returns-in_err-make_directories-clause-makes : goal.returns-in_err-make_directories-clause-makes
returns-in_err-make_directories-clause-makes g c =
    let error = err_from_is_err_and c.from_residual.result c.from_residual.ensures.1 in
    rw (error.1, error.2) (way_refused _ c.directory_of-directory.result.now c.args.name.now _ _ _ _ c.directory_of-directory.ensures c.in_err-make_directories.ensures)

pub returns-in_err-push_str-clause-makes : goal.returns-in_err-push_str-clause-makes
returns-in_err-push_str-clause-makes g c =
    let error = err_from_is_err_and c.from_residual-in_err-push_str.result c.from_residual-in_err-push_str.ensures.1 in
    rw error.1 (way_refused _ c.directory_of-directory.result.now c.args.name.now _ _ _ _ c.directory_of-directory.ensures c.in_ok-make_directories.ensures)

pub returns-clause-makes : goal.returns-clause-makes
returns-clause-makes g c = way_done _ _ c.directory_of-directory.result.now c.args.name.now _ _ _ _ c.directory_of-directory.ensures c.in_ok-make_directories.ensures
