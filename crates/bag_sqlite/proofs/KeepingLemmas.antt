-- What a keeper that contains the store answers and puts.
use Rattle.std.proofs.Common.{◌≡◌, ◌≤◌, ℕ, List, MatchResult, Option, Some, Result, Ok, Err, ap, inl, inr, length, refl}
use Rattle.bag_sqlite.proofs.Words.{all_known, Digest, GaveAll, Given, given_by, known, LARGEST_ITEM, Ledger, Length, more_known, PutFault, Puts, Reader, RefusesGiven, TooLarge, Want}
use Rattle.bag_digest.specs.declared.reading.SourceFault.TheVariants as source
use Rattle.bag_ledger.specs.declared.keeper_faults.KeepFault.{KeepFault}
use Rattle.bag_ledger.specs.declared.keeper_faults.PutFault.TheVariants.{Keep}
use Rattle.bag_rules.specs.declared.want.WantFault.TheVariants as other
use Rattle.bag_sqlite.specs.Contents.{answer_of}
use Rattle.bag_sqlite.specs.declared.putting.NotPut.{NotPut}
use Rattle.bag_sqlite.specs.declared.putting.NotPut.TheVariants.{Source, Misfit, Store}
use Rattle.bag_sqlite.proofs.SqlLemmas.{same_fault}

-- what holds of each result of the store holds of the answer to it
pub answered : {A E F : Type 0} {P Q : A → Type 0} {S T : Type 0} (R : F → E → Type 0) (stored : Result A E) (answer : Result A F)
    → MatchResult answer (λ value. stored ≡ Ok value) (λ fault. (error : E) × (stored ≡ Err error) × R fault error)
    → ((a : A) → P a → Q a) → (S → T) → MatchResult stored P (λ _. S) → MatchResult answer Q (λ _. T)
answered R stored (Ok a) told ok err it = ok a (rw told at it)
answered R stored (Err fault) told ok err it = err (rw told.1 at it)

-- a fault that is passed on in place of another answer
pub passed_on : {A B E : Type 0} {a b : E} → ◌≡◌ {A = Result A E} (Err a) (Err b) → ◌≡◌ {A = Result B E} (Err a) (Err b)
passed_on e = ap Err (same_fault e)

-- the same for a structure that contains the store
module _ {K L : Type 0} (part : L → K) (holds may_leave : K → Ledger → Type 0) (clean : K → Type 0) (old new : L) (given : Given) (name : List ℕ) (want : Want) where
  pub puts_in : (result : Result Unit PutFault) → Puts holds may_leave clean (part old) (part new) given name want result
      → Puts (λ l. holds (part l)) (λ l. may_leave (part l)) (λ l. clean (part l)) old new given name want result
  puts_in (Ok done) put =
      let writes = put.1.writes in
      (put.0, record { is_given = put.1.is_given; writes = record { was_clean = writes.was_clean; held = writes.held; left = writes.left } })
  puts_in (Err fault) put = (
    put.0,
    elim put.1 [
      | inl reads ↦ inl (record { was_clean = reads.was_clean; held = reads.held; left = reads.left })
      | inr may ↦ (
          let leaves = may.1.leaves in
          inr (may.0, record { keep = may.1.keep; is_given = may.1.is_given; leaves = record { was_clean = leaves.was_clean; held = leaves.held; left = leaves.left } })
          )
    ],
  )

-- a failed read is told as that, and nothing else is
pub a_reader_failed : (told : KeepFault) (put : Result Unit NotPut) → answer_of told put ≡ Err Reader → put ≡ Err (Source source.Read)
a_reader_failed told (Ok done) e = absurd cc
a_reader_failed told (Err (Source source.Read)) e = refl
a_reader_failed told (Err (Source source.TooLarge)) e = absurd cc
a_reader_failed told (Err (Misfit other.Length)) e = absurd cc
a_reader_failed told (Err (Misfit (other.Digest alg))) e = absurd cc
a_reader_failed told (Err (Store error)) e = absurd cc

pub told_a_reader : (told : KeepFault) (put : Result Unit NotPut) → put ≡ Err (Source source.Read) → answer_of told put ≡ Err Reader
told_a_reader told put e = rw e refl

-- THE SAME FOR OCTETS IN MEMORY

module _ (octets : List ℕ) (old new : Option (List ℕ)) (is : old ≡ Some octets) where
  given_whole : (content : List ℕ) → GaveAll old new LARGEST_ITEM content → (content ≡ octets) × (length octets ≤ LARGEST_ITEM)
  given_whole content gave = all_known octets content old new LARGEST_ITEM is gave

  refused_known : (want : Want) (fault : PutFault) → ¬ (fault ≡ Reader) → RefusesGiven (given_by old new) want fault → RefusesGiven (known octets) want fault
  refused_known want Reader other gave = absurd (other refl)
  refused_known want TooLarge other gave = more_known octets old new LARGEST_ITEM is gave
  refused_known want Length other it = (it.0, given_whole it.0 it.1, it.2)
  refused_known want (Digest alg) other it = (it.0, given_whole it.0 it.1, it.2)
  refused_known want (Keep fault) other gave = tt

  module _ {K : Type 0} (holds may_leave : K → Ledger → Type 0) (clean : K → Type 0) (before after : K) (name : List ℕ) (want : Want) where
    pub puts_known : (result : Result Unit PutFault) → ¬ (result ≡ Err Reader) → Puts holds may_leave clean before after (given_by old new) name want result
        → Puts holds may_leave clean before after (known octets) name want result
    puts_known (Ok done) other put = (put.0, record { is_given = (given_whole put.0 put.1.is_given.0, put.1.is_given.1); writes = put.1.writes })
    puts_known (Err fault) other put = (
      refused_known want fault (λ e. other (λ i. Err (e i))) put.0,
      elim put.1 [
        | inl reads ↦ inl reads
        | inr may ↦ inr (may.0, record { keep = may.1.keep; is_given = (given_whole may.0 may.1.is_given.0, may.1.is_given.1); leaves = may.1.leaves })
      ],
    )
