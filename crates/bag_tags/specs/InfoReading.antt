-- How values are read. Laws relate this to the definition of a value.
use Rattle.std.specs.Prelude.{◌==◌, ◌&&◌, ◌||◌, ℕ, Bool}
use Rattle.bag_path.specs.Octets.{cr, lf}
use Rattle.bag_tags.specs.Words.{is_blank}

-- what a value may not contain: a CR, or a blank or another LF after an LF
abbrev pub stops_value : Bool → ℕ → Bool
stops_value after_lf octet = octet == cr || (after_lf && (is_blank octet || octet == lf))
