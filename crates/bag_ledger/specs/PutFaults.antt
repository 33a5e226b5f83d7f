-- The faults of reading and of checking a content, as faults of `put`.
use Rattle.bag_digest.specs.declared.reading.ReadFault.{ReadFault}
use Rattle.bag_digest.specs.declared.reading.ReadFault.TheVariants as read
use Rattle.bag_rules.specs.declared.want.WantFault.{WantFault}
use Rattle.bag_rules.specs.declared.want.WantFault.TheVariants as want
use Rattle.bag_ledger.specs.declared.keeper_faults.KeepFault.TheVariants as keep
use Rattle.bag_ledger.specs.declared.keeper_faults.PutFault.{PutFault}
use Rattle.bag_ledger.specs.declared.keeper_faults.PutFault.TheVariants.{Reader, TooLarge, Length, Digest, Keep}

abbrev pub put_fault : ReadFault → PutFault
put_fault read.Read = Reader
put_fault read.TooLarge = TooLarge
put_fault read.Memory = Keep keep.Memory

abbrev pub misfit_fault : WantFault → PutFault
misfit_fault want.Length = Length
misfit_fault (want.Digest alg) = Digest alg
