-- The faults of `put`, as faults of a delivery.
use Rattle.bag_ledger.specs.declared.keeper_faults.PutFault.{PutFault}
use Rattle.bag_ledger.specs.declared.keeper_faults.PutFault.TheVariants as put
use Rattle.bag_receiver.specs.declared.answer.DeliverFault.{DeliverFault}
use Rattle.bag_receiver.specs.declared.answer.DeliverFault.TheVariants.{Reader, TooLarge, Length, Digest, Keeper}

abbrev pub deliver_fault : PutFault → DeliverFault
deliver_fault put.Reader = Reader
deliver_fault put.TooLarge = TooLarge
deliver_fault put.Length = Length
deliver_fault (put.Digest alg) = Digest alg
deliver_fault (put.Keep fault) = Keeper fault
