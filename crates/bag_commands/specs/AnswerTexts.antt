-- Answers to deliveries as printed, and the status for each.
use Rattle.std.specs.Prelude.{ℕ, List, ◌++◌, codes}
use Rattle.bag_digest.specs.Algorithm.{name_of}
use Rattle.bag_ledger.specs.declared.keeper_faults.KeepFault.TheVariants as keep
use Rattle.bag_path.specs.Spellings.{written_spelling}
use Rattle.bag_receiver.specs.declared.answer.Answer.{Answer}
use Rattle.bag_receiver.specs.declared.answer.Answer.TheVariants.{Taken, Repeated, Refused}
use Rattle.bag_receiver.specs.declared.answer.DeliverFault.{DeliverFault}
use Rattle.bag_receiver.specs.declared.answer.DeliverFault.TheVariants as fault
use Rattle.bag_commands.specs.declared.status.TheConstants.{DONE, FAILED, REFUSED}

-- why a delivery was refused
abbrev pub refusal_text : DeliverFault → List ℕ
refusal_text fault.NoTransfer = codes "no transfer"
refusal_text (fault.BadPath why) = codes "path"
refusal_text fault.NotListed = codes "not listed"
refusal_text fault.Reader = codes "reader"
refusal_text fault.TooLarge = codes "too large"
refusal_text fault.Length = codes "length"
refusal_text (fault.Digest alg) = codes "digest " ++ name_of alg
refusal_text (fault.Keeper keep.Memory) = codes "memory"
refusal_text (fault.Keeper (keep.Store why)) = codes "store"

-- the line for what was delivered for this path, which is spelled as in a manifest
abbrev pub answer_text : List ℕ → Answer → List ℕ
answer_text path Taken = codes "taken " ++ written_spelling path
answer_text path Repeated = codes "repeated " ++ written_spelling path
answer_text path (Refused why) = codes "refused " ++ written_spelling path ++ codes ": "
    ++ refusal_text why

-- a refusal is no success; a read, the store or memory may also fail
abbrev pub answer_status : Answer → ℕ
answer_status Taken = DONE
answer_status Repeated = DONE
answer_status (Refused fault.Reader) = FAILED
answer_status (Refused (fault.Keeper why)) = FAILED
answer_status (Refused why) = REFUSED
