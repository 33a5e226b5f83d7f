use Rattle.std.proofs.Common.{take}
use Rattle.bag_receiver.specs.FetchingInside.{AreRequests}
use Rattle.bag_receiver.proofs.fetch.requests_of.Given as goal

abbrev pub invariant-loop-line : goal.invariant-loop-line
invariant-loop-line l = AreRequests l.paths (take l.line-index l.line-items) l.requests.items
