-- How folders are found among paths in order.
use Rattle.std.specs.Prelude.{ℕ, List, [], ◌∷◌}
use Rattle.std.specs.Ordering.{nat_cmp, ordering_then}
use Rattle.std.specs.declared.cmp.Ordering.{Ordering}
use Rattle.std.specs.declared.cmp.Ordering.TheVariants.{Less}
use Rattle.bag_path.specs.Octets.{slash}

-- the place of the second path relative to those in the folder with the first path: before them, among them, or after
-- them
abbrev pub beside_folder : List ℕ → List ℕ → Ordering
beside_folder [] [] = Less
beside_folder [] (octet ∷ rest) = nat_cmp octet slash
beside_folder (x ∷ folder) [] = Less
beside_folder (x ∷ folder) (y ∷ path) = ordering_then (nat_cmp y x) (beside_folder folder path)
