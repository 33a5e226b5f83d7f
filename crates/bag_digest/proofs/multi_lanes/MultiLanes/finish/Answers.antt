use Rattle.std.proofs.Common.{◌++◌, ◌∙◌, ◌-◌, ◌%◌, ap, drop, length, subst, take}
use Rattle.std.proofs.lemmas.List.{append_assoc, take-append-drop, take_rest}
use Rattle.bag_digest.specs.Hash.{AreDigests}
use Rattle.bag_digest.proofs.multi_lanes.MultiLanes.finish.Goals as goal

pub returns-clause-digests : goal.returns-clause-digests
returns-clause-digests c = λ set octets holds.
    let rest = c.args.rest.now in
    let n = length rest - length rest % 64 in
    subst (AreDigests c.finish_block.result set) (append_assoc octets (take n rest) (take (length rest - n) (drop n rest)) ∙ ap (λ xs. octets ++ (take n rest ++ xs)) (take_rest rest n) ∙ ap (λ xs. octets ++ xs) (take-append-drop n rest))
    (c.finish_block.ensures.digests set _ (c.take_alone.ensures.taken set octets holds))
