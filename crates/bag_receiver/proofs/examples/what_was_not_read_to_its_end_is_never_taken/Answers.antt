use Rattle.std.proofs.Common.{◌≡◌, codes, None, refl, sym, ◌∙◌, Some}
use Rattle.bag_path.specs.declared.path.PathFault.TheVariants.{DotSegment}
use Rattle.bag_receiver.proofs.TwoDelivered.{path_z}
use Rattle.bag_path.specs.Paths.{path_fault}
use Rattle.bag_receiver.proofs.Words.{Answer, BadPath, begun, Digest, expected, file_a, IsDue, Keeper, Length, no_fault_if_path, not_expected, NotListed, NoTransfer, path_a, Reader, Refused, Repeated, tags_of_two, Taken, TooLarge, two, Unread}
use Rattle.bag_receiver.proofs.examples.what_was_not_read_to_its_end_is_never_taken.Goals as goal

bad : path_fault (codes "data/../k") ≡ Some DotSegment
unfolding path_fault
bad = refl

never : (answer : Answer) → ¬ IsDue (Some (begun tags_of_two)) file_a Unread answer
never Taken h = h.1
never Repeated h = h.1
never (Refused NoTransfer) h = h
never (Refused (BadPath fault)) h = (let e : None ≡ Some fault = sym (no_fault_if_path file_a path_a) ∙ h in cc)
never (Refused NotListed) h = h.1 (expected tags_of_two two file_a refl)
never (Refused Reader) h = h
never (Refused TooLarge) h = h.1
never (Refused Length) h = h.1
never (Refused (Digest alg)) h = h.1
never (Refused (Keeper fault)) h = h

pub returns : goal.returns
returns c = (bad, (path_z, not_expected tags_of_two two (codes "data/z") refl), never)
