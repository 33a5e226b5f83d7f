use Rattle.std.proofs.Common.{◌≡◌, ◌∙◌, ℕ, List, ap, subst, sym}
use Rattle.bag_rules.specs.FilesInside.{IsPayloadMissing}
use Rattle.bag_rules.specs.Plans.{item_paths}
use Rattle.bag_rules.specs.Transfers.{held_bag}
use Rattle.bag_rules.proofs.Words.{Adds, AreRising, keys_of, Listing, OfSome, on_ok_weaker}
use Rattle.bag_rules.proofs.AddsLemmas.{adds_on}
use Rattle.bag_rules.proofs.ReportLemmas.{item_keys, missing_broken, missing_or_oxum, oxum_broken, size_is, texts_held}
use Rattle.bag_rules.proofs.transfer_faults.add_item_faults.Goals as goal

pub returns : goal.returns
returns c = λ tags items are opens texts_are held sizes_are.
    let texts = c.args.texts.now in
    let sizes = c.args.sizes.now in
    let old = c.args.faults.now.items in
    let mid = c.add_missing_items.new.faults.items in
    let keys : item_paths sizes ≡ keys_of items = ap item_paths sizes_are ∙ item_keys items in
    let missing : Adds old mid (OfSome texts.manifests.items (IsPayloadMissing (keys_of items))) =
    subst (λ (paths : List (List ℕ)). Adds old mid (OfSome texts.manifests.items (IsPayloadMissing paths))) keys
    (subst (λ (ls : List Listing). Adds old mid (OfSome ls (IsPayloadMissing (item_paths sizes)))) c.deref.ensures.value (c.in_ok-add_missing_items.ensures (subst AreRising (sym keys) held.rising))) in
    on_ok_weaker c.add_wrong_oxum.result (λ oxum.
    adds_on _ _ _ _ _ _ (missing_or_oxum tags items are held opens texts texts_are) (missing_broken tags items are held opens texts texts_are) (oxum_broken tags items are held opens texts texts_are) missing oxum)
    (c.add_wrong_oxum.ensures (held_bag tags items) (texts_held tags items are held opens texts texts_are) (size_is tags items are held opens sizes c.payload_size.result sizes_are c.payload_size.ensures.octets c.payload_size.ensures.streams))
