use Rattle.std.proofs.Common.{◌≡◌, [], false, is_ok, refl, rules, string_bytes}
use Rattle.bag_folder.specs.MemNames.{standing_of}
use Rattle.bag_folder.proofs.MemNameLemmas.{entry_added, nothing_there}
use Rattle.bag_folder.proofs.mem_names.MemNames.add.Goals as goal

pub returns : goal.returns
returns c =
    let old = c.args.self.now in
    let none : is_ok c.kind.result ≡ false = search rules in
    entry_added old.absent old.entries.items c.push.new.self.items
    (record {
      name = string_bytes c.in_ok-added.added;
      kind = c.args.kind;
      octets = [];
    }) c.args.name.now
    c.args.kind (search rules) c.in_ok-added.ensures.ok refl
    (nothing_there (standing_of old.entries.items old.absent) c.args.name.now c.kind.result
    c.kind.ensures none)
