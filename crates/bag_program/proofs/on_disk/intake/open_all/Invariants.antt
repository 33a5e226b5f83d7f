use Rattle.std.proofs.Common.{◌≡◌, List, map, string_bytes, take}
use Rattle.bag_folder.specs.Bringing.{courier_of}
use Rattle.bag_folder.specs.Folders.{FolderShown, disk_of}
use Rattle.bag_program.specs.Endings.{first_name, name_if_crowded, name_if_empty}
use Rattle.bag_program.specs.Working.{AreOpened}
use Rattle.bag_program.proofs.on_disk.intake.open_all.Given as goal

abbrev pub invariant-loop-folder : goal.invariant-loop-folder
invariant-loop-folder g l =
    (trees : List FolderShown) × AreOpened (disk_of (g.D.Directories.listing l.fn.disk) (g.N.Names.standing l.names)) (map string_bytes (take l.folder-index l.folders)) trees
    × (l.couriers.items ≡ map courier_of trees) × (l.crowded ≡ first_name name_if_crowded trees) × (l.empty ≡ first_name name_if_empty trees)
