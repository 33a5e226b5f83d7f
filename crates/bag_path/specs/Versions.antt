-- Versions of the format by their numbers, as `bagit.txt` declares them (RFC 8493 section 2.1.1).
use Rattle.std.specs.Prelude.{◌==◌, ◌&&◌, if◌then◌else◌, ℕ, Option, Some, None}
use Rattle.bag_path.specs.declared.version.Version.{Version}
use Rattle.bag_path.specs.declared.version.Version.TheVariants.{V1, V097}

-- the version with these numbers, before and after the dot, if it is known: 1.0 or 0.97
abbrev pub version_numbered : ℕ → ℕ → Option Version
version_numbered major minor =
    if major == 1 && minor == 0 then Some V1
    else if major == 0 && minor == 97 then Some V097
    else None
