use Rattle.std.proofs.Common.{◌≡◌, ◌∙◌, ◌<◌, Some, ap, arith, drop, length, refl, rules, sym}
use Rattle.bag_rules.specs.declared.mem_file.MemFile.{MemFile}
use Rattle.bag_rules.proofs.FilesShown.{body_at, length_shown}
use Rattle.bag_rules.proofs.MemoryShown.{known_body, shown_is}
use Rattle.bag_rules.proofs.mem_tree.MemTreeOpenTree.open_file.Goals as goal

pub returns-clause-opened : goal.returns-clause-opened
returns-clause-opened c =
    let files = c.self.inside.files.items in
    let shown = shown_is c.args.self.now c.self.inside c.self.view_is in
    let within : c.args.i < length files = omega (arith, c.requires, length_shown files, ap length shown) in
    let there = body_at files c.args.i c.index.result.now within c.index.ensures in
    let same : c.extend_from_slice.new.self.items ≡ c.index.result.now.body.items = search rules in
    record {
      placed = ap (λ (file : MemFile). file.place) c.new.ensures;
      unread = ap (λ (file : MemFile). Some (drop file.at file.body.items)) c.new.ensures ∙ ap Some same ∙ sym (known_body c.args.self.now c.self.inside c.args.i c.index.result.now.body.items c.self.view_is there);
      unfailed = refl;
      is_ready = λ sure. tt;
    }
