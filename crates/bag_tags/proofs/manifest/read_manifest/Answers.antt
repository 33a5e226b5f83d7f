use Rattle.std.proofs.Common.{sym, ap, subst}
use Rattle.bag_tags.specs.TagLines.{IsTextOf}
use Rattle.bag_tags.specs.Listings.{Listing}
use Rattle.bag_tags.specs.Manifests.{AddsPair}
use Rattle.bag_tags.proofs.ManifestDecisionLemmas.{manifest_exact}
use Rattle.bag_tags.proofs.ManifestTextLemmas.{manifest_listed, listing}
use Rattle.bag_tags.proofs.manifest.read_manifest.Goals as goal

pub read_onto-requires : goal.read_onto-requires
read_onto-requires c = manifest_exact c.args.version

pub returns-clause-listed : goal.returns-clause-listed
returns-clause-listed c = manifest_listed c.args.version c.args.alg c.args.kind c.args.octets.now c.read_onto.new.value
    (subst (λ (start : Listing). IsTextOf (AddsPair c.args.version) start c.args.octets.now c.read_onto.new.value) c.new-manifest.ensures c.in_ok-read_onto.ensures.read)

pub returns-clause-only : goal.returns-clause-only
returns-clause-only c = λ pairs m.
    let all = listing c.args.alg c.args.kind pairs in
    ap (λ (l : Listing). l.pairs) (c.in_ok-read_onto.ensures.only all
    (subst (λ (start : Listing). IsTextOf (AddsPair c.args.version) start c.args.octets.now all) (sym c.new-manifest.ensures) m))
