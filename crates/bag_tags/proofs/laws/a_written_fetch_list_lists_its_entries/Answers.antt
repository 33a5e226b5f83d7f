use Rattle.std.proofs.Common.{refl}
use Rattle.bag_tags.specs.Fetches.{written_fetch}
use Rattle.bag_tags.proofs.FetchWritingLemmas.{fetch_reads}
use Rattle.bag_tags.proofs.laws.a_written_fetch_list_lists_its_entries.Goals as goal

pub returns : goal.returns
returns c lines good = fetch_reads (written_fetch lines) lines refl good
