-- What a plan says about the payload.
use Rattle.std.proofs.Common.{Contains, ◌≡◌, ◌∙◌, ℕ, List, None, Some, sym, inl, inr}
use Rattle.bag_rules.proofs.Words.{AreLinesOf, BadLine, entries_or_fault, FetchLine, FetchList, Files, IsThere, IsWantBy, ListsFetch, text_file, Want}
use Rattle.bag_rules.specs.declared.plan.Plan.{Plan}
use Rattle.bag_rules.specs.Bags.{version_of}
use Rattle.bag_rules.specs.Opening.{Opens}
use Rattle.bag_rules.specs.Plans.{AreFetchLines, IsPlanOf, IsWantOf}
use Rattle.bag_rules.specs.Transfers.{tag_bag}
use Rattle.bag_rules.proofs.FrontLemmas.{fetch_listed, manifest_listed}

-- if tag files open, `fetch.txt` can be read
pub fetch_reads : (tags : Files) → Opens tags → IsThere (tag_bag tags) (text_file FetchList) → (lines : List FetchLine) × ListsFetch (tag_bag tags) lines
fetch_reads tags opens there = elim (entries_or_fault (version_of (tag_bag tags)) there.0) [
  | inl read ↦ (read.0, record { octets = there.0; there = there.1; text = read.1 })
  | inr bad ↦ absurd (opens.no_fault (BadLine FetchList bad.0.line bad.0.cause) ((there.0, there.1, bad.1), λ mended. mended))
]

module _ (tags : Files) (plan : Plan) (is : IsPlanOf tags plan) where
  -- the lines that were read are those of `fetch.txt`
  pub lines_are : (lines : List FetchLine) → AreLinesOf plan.texts lines → AreFetchLines tags lines
  lines_are lines (inl some) = inl ((fetch_listed (tag_bag tags) plan.texts is.texts lines).0 some)
  lines_are lines (inr none) = inr (
    λ there.
        let read = fetch_reads tags is.opens there in
        let some = (fetch_listed (tag_bag tags) plan.texts is.texts read.0).1 read.1 in
        (let k : None ≡ Some read.0 = sym none.0 ∙ some in cc),
    none.1,
  )

  pub want_is : (path : List ℕ) (want : Want) → Contains plan.paths.items path → IsWantBy plan.texts.manifests.items plan.lengths path want → IsWantOf tags path want
  want_is path want there by = record {
    expected = (is.paths.exact path).0 there;
    path_is = by.path_is;
    manifests = λ listing. rw by.manifests (manifest_listed (tag_bag tags) plan.texts is.texts listing);
    lengths = λ given. rw by.given (is.lengths path given);
  }
