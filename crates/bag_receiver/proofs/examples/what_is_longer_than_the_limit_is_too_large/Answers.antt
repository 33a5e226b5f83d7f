use Rattle.std.proofs.Common.{refl}
use Rattle.bag_receiver.proofs.Words.{expected, file_a, IsListedPath, path_a, tags_of_two, two}
use Rattle.bag_receiver.proofs.examples.what_is_longer_than_the_limit_is_too_large.Goals as goal

listed : IsListedPath tags_of_two file_a
listed = (path_a, expected tags_of_two two file_a refl)

pub returns : goal.returns
returns c = ((listed, tt), λ content long. (listed, long))
