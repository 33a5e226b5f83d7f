use Rattle.std.proofs.Common.{◌≡◌, take, true}
use Rattle.bag_rules.proofs.Words.{AlgSet, Files, has}
use Rattle.bag_writer.specs.Steps.{AreItemsOf}
use Rattle.bag_writer.specs.TagWriting.{CanBeListed}
use Rattle.bag_writer.proofs.TagTexts.{listing_by}
use Rattle.bag_writer.proofs.tag_files.texts.manifest_text.Given as goal

abbrev pub invariant-loop-item : goal.invariant-loop-item
invariant-loop-item l = (set : AlgSet) (files : Files) → AreItemsOf set l.items files → has set l.fn.alg ≡ true → CanBeListed l.fn.kind files
    → l.manifest ≡ listing_by l.fn.alg l.fn.kind (take l.item-index files)
