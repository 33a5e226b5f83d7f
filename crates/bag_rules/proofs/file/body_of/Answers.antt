use Rattle.std.proofs.Common.{Some, ap, sym, ◌∙◌}
use Rattle.bag_rules.proofs.Words.{File, files_of}
use Rattle.bag_rules.proofs.MemoryFiles.{lookup_in_gap}
use Rattle.bag_rules.proofs.FilesShown.{body_found}
use Rattle.bag_rules.proofs.file.body_of.Goals as goal

pub returns-in-Ok : goal.returns-in-Ok
returns-in-Ok c =
    let body = ap (λ (file : File). Some file.body.items) c.index-files-i.is in
    ap Some c.as_slice.ensures.value ∙ sym body ∙ body_found c.args.files.now c.args.path.now c.in-Ok.i c.index-files-i.result c.requires c.in-Ok.ensures.found c.index-files-i.is

pub returns-in-Err : goal.returns-in-Err
returns-in-Err c = sym (lookup_in_gap c.args.path.now (files_of c.args.files.now) c.in-Err.field-0 c.requires c.in-Err.ensures.absent)
