use Rattle.std.proofs.Common.{◌≡◌, ◌||◌}
use Rattle.bag_digest.proofs.Sets.{has_none}
use Rattle.bag_digest.proofs.algorithm.AlgSet.is_empty.Goals as goal
use Rattle.bag_digest.proofs.algorithm.AlgSet.is_empty.Goals.{then-self, else-self, then-self-2, else-self-2, then-self-3, else-self-3}

pub returns : goal.returns
returns c =
    let set = c.args.self in
    let first : c.if-self.value ≡ (set.md5 || set.sha1) =
    elim c.if-self.branch [ then-self w ↦ rw (w.value-is, w.if-self.true) | else-self w ↦ rw (w.value-is, w.if-self.false) ] in
    let second : c.if-self-2.value ≡ (set.md5 || set.sha1 || set.sha256) =
    elim c.if-self-2.branch [ then-self-2 w ↦ rw (← first, w.value-is, w.if-self-2.true) | else-self-2 w ↦ rw (← first, w.value-is, w.if-self-2.false) ] in
    has_none set c.if-self-3.result (elim c.if-self-3.branch [ then-self-3 w ↦ rw (← second, w.result-is, w.if-self-3.true) | else-self-3 w ↦ rw (← second, w.result-is, w.if-self-3.false) ])
