use Rattle.std.proofs.Common.{◌≡◌, ◌∙◌, Some, true, ap, sym, subst}
use Rattle.bag_rules.proofs.Words.{AreDigests, digest_in, Has, hash, IsOtherDigest, IsWrongIn, Listing, lists_path, OfSome, on_ok_weaker, same_Some}
use Rattle.bag_rules.proofs.AddsLemmas.{adds_so}
use Rattle.bag_rules.proofs.FileFaultLemmas.{taken}
use Rattle.bag_rules.proofs.ListedLemmas.{some_listed}
use Rattle.bag_rules.proofs.plan_fault.add_wrong_file.Goals as goal

pub returns : goal.returns
returns c =
    let path = c.args.file.now.path in
    let octets = c.args.file.now.body.items in
    let listings = c.args.manifests.now in
    let own_path : c.path.result.now ≡ path = c.path.ensures in
    let digests = c.of-sums.result.digests in
    let are : AreDigests digests c.algs.result octets = subst (AreDigests digests c.algs.result) c.body.ensures c.of-sums.ensures.1 in
    let own : (listing : Listing) → Has listings listing → lists_path listing.pairs path ≡ true → digest_in digests listing.alg ≡ Some (hash listing.alg octets) =
    λ listing has listed. taken digests c.algs.result listings listing path octets are (λ alg lists. c.algs.ensures alg ∙ rw own_path lists) has listed in
    on_ok_weaker c.add_other_digests.result
    (λ added. adds_so c.args.faults.now.items c.add_other_digests.new.faults.items (OfSome listings (IsOtherDigest path digests)) (OfSome listings (IsWrongIn path octets))
    (λ f h. (h.0, h.1, (h.2.0, h.2.1, (λ e. h.2.2 (own h.0 h.1 (some_listed h.0.pairs path h.2.0 h.2.1) ∙ ap Some e)), h.2.3)))
    (λ f h. (h.0, h.1, (h.2.0, h.2.1, (λ e. h.2.2 (same_Some _ _ (sym (own h.0 h.1 (some_listed h.0.pairs path h.2.0 h.2.1)) ∙ e))), h.2.3)))
    (rw (← own_path) added))
    c.add_other_digests.ensures
