-- Deliveries and transfers that several worked examples use.
use Rattle.std.specs.Prelude.{◌∷◌, [], ℕ, List, codes}
use Rattle.bag_digest.specs.declared.algorithm.Alg.TheVariants.{Sha256}
use Rattle.bag_rules.specs.ExampleBags.{file_a, file_e}
use Rattle.bag_rules.specs.Files.{Files}
use Rattle.bag_receiver.specs.declared.answer.Answer.{Answer}
use Rattle.bag_receiver.specs.declared.answer.Answer.TheVariants.{Taken, Repeated, Refused}
use Rattle.bag_receiver.specs.declared.answer.DeliverFault.TheVariants.{NotListed, Reader, Digest}
use Rattle.bag_receiver.specs.Deliveries.{Delivery, Unread, Whole}

-- a content that was received completely, and its answer
abbrev pub delivered : List ℕ → List ℕ → Answer → Delivery
delivered text content answer = record { text = text; content = Whole content; answer = answer }

abbrev pub abc : List ℕ
abc = codes "abc"

abbrev pub abd : List ℕ
abd = codes "abd"

-- the second file, and both files
abbrev pub only_e : Files
only_e = (file_e, []) ∷ []

abbrev pub both : Files
both = (file_a, abc) ∷ (file_e, []) ∷ []

-- a run with a repeat, another content and a path that isn't listed
abbrev pub one_run : List Delivery
one_run = delivered file_e [] Taken ∷ delivered file_a abc Taken
    ∷ delivered file_a abc Repeated ∷ delivered file_a abd (Refused (Digest Sha256))
    ∷ delivered (codes "data/z") abc (Refused NotListed) ∷ []

-- the same in another order
abbrev pub another_run : List Delivery
another_run = delivered file_a abd (Refused (Digest Sha256))
    ∷ delivered (codes "data/z") abc (Refused NotListed) ∷ delivered file_a abc Taken
    ∷ delivered file_e [] Taken ∷ delivered file_a abc Repeated ∷ []

-- a run in which the first reader fails
abbrev pub run_with_a_failure : List Delivery
run_with_a_failure = (record { text = file_a; content = Unread; answer = Refused Reader })
    ∷ delivered file_a abc Taken ∷ delivered file_e [] Taken ∷ []
