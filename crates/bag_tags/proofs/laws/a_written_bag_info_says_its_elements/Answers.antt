use Rattle.std.proofs.Common.{refl}
use Rattle.bag_tags.specs.Infos.{written_info}
use Rattle.bag_tags.proofs.InfoWritingLemmas.{info_reads}
use Rattle.bag_tags.proofs.laws.a_written_bag_info_says_its_elements.Goals as goal

pub returns : goal.returns
returns c elements good = info_reads (written_info elements) elements refl good
