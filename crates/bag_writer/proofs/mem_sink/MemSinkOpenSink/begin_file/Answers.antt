use Rattle.std.proofs.Common.{◌≡◌, ◌∙◌, [], Contains, List, None, Option, Some, ap, false, refl, rules, subst, true, ℕ}
use Rattle.std.specs.Prelude.{is_some}
use Rattle.std.specs.Option.{option_map}
use Rattle.std.proofs.lemmas.Option.{same_Some}
use Rattle.bag_rules.specs.Bags.{paths_of}
use Rattle.bag_writer.specs.Memory.{MemStored, has_begun, known}
use Rattle.bag_writer.specs.MemoryInside.{IsInFile, begun_by}
use Rattle.bag_writer.specs.Sinks.{Begun, IsFree, Stored}
use Rattle.bag_writer.specs.declared.mem_sink_file.BegunFile.{BegunFile}
use Rattle.bag_writer.specs.declared.mem_sink_file.MemSinkFile.{MemSinkFile}
use Rattle.bag_writer.proofs.FreePaths.{free_path}
use Rattle.bag_writer.proofs.mem_sink.MemSinkOpenSink.begin_file.Goals as goal

-- a file with this path, in which nothing is
in_file : (file : MemSinkFile) (begun : BegunFile) (path : List ℕ) → file.begun ≡ Some begun → begun.path ≡ path → begun.octets.items ≡ [] → IsInFile file path []
in_file file begun path is named none =
    let held = λ (p octets : List ℕ). (let one : Begun = record { path = p; octets = octets } in one) in
    ap (option_map begun_by) is ∙ ap (λ p. Some (held p begun.octets.items)) named ∙ ap (λ octets. Some (held path octets)) none

none_begun : (o : Option BegunFile) → is_some o ≡ false → is_some (option_map begun_by o) ≡ false
none_begun None none = refl
none_begun (Some begun) none = absurd (let e : true ≡ false = none in cc)

pub returns-clause-begun : goal.returns-clause-begun
returns-clause-begun c =
    let absent = free_path c.self.inside.ended.files c.args.path.now c.get.result c.get.ensures (search rules) in
    record {
      placed = ap (λ (file : MemSinkFile). file.place) c.new-3.ensures;
      empty = λ unfailed. in_file c.new-3.result _ c.args.path.now (ap (λ (file : MemSinkFile). file.begun) c.new-3.ensures) c.in-Ok.ensures.cases c.new-2.ensures.items;
      free = λ unfailed. (
        subst (λ (sink : MemStored). has_begun sink ≡ false) c.self.view_is (none_begun c.self.inside.begun (search rules)),
        subst (λ (sink : MemStored). IsFree (known sink) c.args.path.now) c.self.view_is (λ stored same. subst (λ (s : Stored). ¬ Contains (paths_of s.bag) c.args.path.now) (same_Some _ stored same) absent),
      );
      is_sure = λ no. absurd no;
    }
