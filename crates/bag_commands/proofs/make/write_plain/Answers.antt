use Rattle.std.proofs.Common.{refl}
use Rattle.bag_writer.specs.declared.spec.Spec.{Spec}
use Rattle.bag_commands.specs.Making.{IsPlainSpec}
use Rattle.bag_commands.proofs.make.write_plain.Goals as goal

pub returns : goal.returns
returns g c =
    let done = c.write_bag.ensures in
    let spec : Spec = record { algs = c.args.algs; info = c.new.result; holes = c.new-2.result } in
    let plain : IsPlainSpec c.args.algs spec = record { algs = refl; no_elements = c.new.ensures; no_holes = c.new-2.ensures.items } in
    (spec, plain, record { refused = done.refused; unwritten = done.unwritten; done = done.done; tree = done.tree; sink = done.sink.uses })
