-- A file that stopped while it was copied, as it is taken back.
use Rattle.std.proofs.Common.{◌≡◌, ◌≢◌, ◌⊎◌, ◌<◌, ◌≤◌, ◌++◌, ℕ, List, Option, Some, None, ap, arith, inl, inr, length, length-append, refl, subst}
use Rattle.std.specs.Io.KnownBytes.{Consumes}
use Rattle.bag_rules.specs.OpenTrees.{IsTooLarge}
use Rattle.bag_rules.proofs.Words.{Shown, octets_in, paths_in, slice_get_within}
use Rattle.bag_writer.specs.Copying.{IsStopped, Sides, Work}
use Rattle.bag_writer.specs.Returned.{IsStoppedAt}
use Rattle.bag_writer.specs.declared.copying.Copying.{Copying}
use Rattle.bag_writer.specs.declared.payload.CopyFault.{CopyFault}
use Rattle.bag_writer.specs.declared.payload.CopyFault.TheVariants.{Sink, TooLarge, Tree}

module _ {F G : Type 0} (place : F → ℕ) (failures : F → ℕ) (copy_place : G → ℕ) (copy_failures : G → ℕ) (shown : Shown) where
  -- a file that has failed or is too large, unless its copy couldn't be written
  pub stopped_read : (fault : CopyFault) (each : Copying F G) → fault ≢ Sink → IsStoppedAt place failures copy_place copy_failures shown fault each → (0 < failures each.source) ⊎ IsTooLarge shown (place each.source)
  stopped_read Tree each not is = inl (is.failed refl)
  stopped_read TooLarge each not is = inr (is.large refl)
  stopped_read Sink each not is = absurd (not refl)

-- octets that were given are no more than those that are known
given_known : (o left : Option (List ℕ)) (known given : List ℕ) → o ≡ Some known → Consumes o left given → length given ≤ length known
given_known o None known given e gave = absurd (subst (λ x. Consumes x None given) e gave)
given_known o (Some rest) known given e gave =
    let all : known ≡ given ++ rest = subst (λ x. Consumes x (Some rest) given) e gave in
    omega (arith, ap length all, length-append given rest)

module _ {F G : Type 0} (s : Sides F G) (work : Work) (fault : CopyFault) (each : Copying F G) where
  pub stopped_here : IsStopped s work each.source each.target fault → IsStoppedAt s.place s.failures s.copy_place s.copy_failures work.shown fault each
  stopped_here is = record {
    inside = slice_get_within (paths_in work.shown) (s.place each.source) is.path is.named;
    beside = is.beside;
    failed = λ e. (is.failed e).0;
    unfailed = is.unfailed;
    large = λ e octets known. (
        let most = given_known (octets_in work.shown (s.place each.source)) (s.remaining each.source) octets is.octets known is.until.gave in
        let long = is.until.long e in
        omega (arith, most, long));
    copy_failed = λ e. (is.copy_failed e).0;
  }
