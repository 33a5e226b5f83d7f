use Rattle.bag_folder.proofs.NameLemmas.{last_slash, slash_is_found}
use Rattle.bag_folder.proofs.folder_sink.directory_of.Goals as goal

pub returns-in-Some : goal.returns-in-Some
returns-in-Some c = last_slash c.args.name.now c.in-Some.directory.now c.in-Some.field-0-1.now c.in-Some.ensures.cases

pub returns-in-None : goal.returns-in-None
returns-in-None c = absurd (slash_is_found c.args.name.now c.requires c.in-None.ensures.cases)
