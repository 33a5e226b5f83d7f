-- A bag by all of its files.
use Rattle.std.proofs.Common.{◌≡◌, ◌↔◌, List, Some, length, sym, ap, subst}
use Rattle.bag_rules.proofs.Words.{AreTextsOf, Bag, FetchLine, front, Has, Listing, Lists, ListsFetch, MetadataElement, name_in, SaysInfo, take-length, TagTexts}
use Rattle.bag_rules.specs.Bags.{ListsBy, ListsFetchBy, SaysInfoBy, version_of}

-- the front of as many files as there are is the bag
pub whole_front : (bag : Bag) → front (length bag.files) bag ≡ bag
whole_front bag = ap (λ files. (let b : Bag = record bag { files = files } in b)) (take-length bag.files)

module _ (bag : Bag) (texts : TagTexts) (are : AreTextsOf (length bag.files) bag texts) where
  pub info_said : (elements : List MetadataElement) → (texts.info ≡ Some elements) ↔ SaysInfo bag elements
  info_said elements = (
    λ e. subst (λ b. SaysInfoBy (version_of bag) b elements) (whole_front bag) ((are.info elements).0 e),
    λ s. (are.info elements).1 (subst (λ b. SaysInfoBy (version_of bag) b elements) (sym (whole_front bag)) s),
  )

  pub fetch_listed : (lines : List FetchLine) → (texts.fetch ≡ Some lines) ↔ ListsFetch bag lines
  fetch_listed lines = (
    λ e. subst (λ b. ListsFetchBy (version_of bag) b lines) (whole_front bag) ((are.fetch lines).0 e),
    λ l. (are.fetch lines).1 (subst (λ b. ListsFetchBy (version_of bag) b lines) (sym (whole_front bag)) l),
  )

  pub manifest_listed : (listing : Listing) → Has texts.manifests.items listing ↔ Lists bag (name_in listing) listing.pairs
  manifest_listed listing = (
    λ h. subst (λ b. ListsBy (version_of bag) b (name_in listing) listing.pairs) (whole_front bag) ((are.manifests listing).0 h),
    λ l. (are.manifests listing).1 (subst (λ b. ListsBy (version_of bag) b (name_in listing) listing.pairs) (sym (whole_front bag)) l),
  )
