use Rattle.std.proofs.Common.{rules}
use Rattle.bag_driver.proofs.breaking_file.BreakingFileDisk.write_at.Goals as goal

pub returns-in_err-spend-clause-crash : goal.returns-in_err-spend-clause-crash
returns-in_err-spend-clause-crash c = λ file left. (file, left, search rules)
