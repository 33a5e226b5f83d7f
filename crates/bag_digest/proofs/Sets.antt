-- Facts about sets of algorithms.
use Rattle.std.proofs.Common.{◌≡◌, ◌&&◌, ◌||◌, Bool, false, true, refl, arith}
use Rattle.std.specs.Bool.{beq}
use Rattle.std.specs.Prelude.{◌↔◌, IsTrue, not}
use Rattle.bag_digest.specs.declared.algorithm.Alg.{Alg}
use Rattle.bag_digest.specs.declared.algorithm.Alg.TheVariants.{Md5, Sha1, Sha256, Sha512}
use Rattle.bag_digest.specs.declared.algorithm.AlgSet.{AlgSet}
use Rattle.bag_digest.specs.Algorithm.{has}

-- if none of four marks is set, each is unset
none_set : (a b c d : Bool) → IsTrue (not (a || b || c || d)) → (a ≡ false) × (b ≡ false) × (c ≡ false) × (d ≡ false)
none_set a b c d h = grind arith

-- an algorithm isn't in a set whose four marks are unset
has_unset : (set : AlgSet) → (set.md5 ≡ false) × (set.sha1 ≡ false) × (set.sha256 ≡ false) × (set.sha512 ≡ false) → (alg : Alg) → has set alg ≡ false
has_unset set none Md5 = none.0
has_unset set none Sha1 = none.1
has_unset set none Sha256 = none.2
has_unset set none Sha512 = none.3

-- a set is empty if none of its four marks is set
pub has_none : (set : AlgSet) (some : Bool) → some ≡ (set.md5 || set.sha1 || set.sha256 || set.sha512)
    → IsTrue (not some) ↔ ((alg : Alg) → has set alg ≡ false)
has_none set some e = (
  λ h. has_unset set (none_set set.md5 set.sha1 set.sha256 set.sha512 (rw e at h)),
  λ h. rw (e, h Md5, h Sha1, h Sha256, h Sha512) refl,
)

-- what holds of each of the four marks holds of each algorithm
has_each : (set other : AlgSet) → (other.md5 ≡ true → set.md5 ≡ true) × (other.sha1 ≡ true → set.sha1 ≡ true) × (other.sha256 ≡ true → set.sha256 ≡ true) × (other.sha512 ≡ true → set.sha512 ≡ true)
    → (alg : Alg) → has other alg ≡ true → has set alg ≡ true
has_each set other each Md5 = each.0
has_each set other each Sha1 = each.1
has_each set other each Sha256 = each.2
has_each set other each Sha512 = each.3

-- a mark of two joined sets is that of the first exactly if the second adds none
same_mark : (joined a b : Bool) → joined ≡ (a || b) → beq joined a ≡ (a || not b)
same_mark joined true b e = rw e refl
same_mark joined false true e = rw e refl
same_mark joined false false e = rw e refl

-- each of four marks is set where another one is
all_marks : (a b c d p q r s : Bool) → IsTrue ((a || not p) && ((b || not q) && ((c || not r) && (d || not s))))
    ↔ ((p ≡ true → a ≡ true) × (q ≡ true → b ≡ true) × (r ≡ true → c ≡ true) × (s ≡ true → d ≡ true))
all_marks a b c d p q r s = grind arith

-- a set has each algorithm of another if that one adds none to it
pub has_all : (set other joined : AlgSet) (same : Bool) → same ≡ (beq joined.md5 set.md5 && (beq joined.sha1 set.sha1 && (beq joined.sha256 set.sha256 && beq joined.sha512 set.sha512)))
    → ((alg : Alg) → has joined alg ≡ (has set alg || has other alg)) → IsTrue same ↔ ((alg : Alg) → has other alg ≡ true → has set alg ≡ true)
has_all set other joined same e either =
    let md5 = same_mark joined.md5 set.md5 other.md5 (either Md5) in
    let sha1 = same_mark joined.sha1 set.sha1 other.sha1 (either Sha1) in
    let sha256 = same_mark joined.sha256 set.sha256 other.sha256 (either Sha256) in
    let sha512 = same_mark joined.sha512 set.sha512 other.sha512 (either Sha512) in
    let marks = all_marks set.md5 set.sha1 set.sha256 set.sha512 other.md5 other.sha1 other.sha256 other.sha512 in (
      λ yes. has_each set other (marks.0 (rw (e, md5, sha1, sha256, sha512) at yes)),
      λ all. rw (e, md5, sha1, sha256, sha512) (marks.1 (all Md5, all Sha1, all Sha256, all Sha512)),
    )
