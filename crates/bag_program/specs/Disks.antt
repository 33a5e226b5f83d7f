-- What is known of the disk that a command works on.
use Rattle.std.specs.Prelude.{Option}
use Rattle.bag_folder.specs.Directories.{Listing}
use Rattle.bag_folder.specs.DiskNames.{Standing}
use Rattle.bag_folder.specs.Folders.{DiskShown, disk_of}
use Rattle.bag_program.specs.declared.system.System.{System}

abbrev pub disk_known : {R N D : Type 0} → (D → Option Listing) → (N → Option Standing)
    → System R N D → DiskShown
disk_known listing standing system = disk_of (listing system.disk.now) (standing system.names)
