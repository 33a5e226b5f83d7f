use Rattle.std.proofs.Common.{[], List, subst, sym}
use Rattle.bag_writer.specs.Steps.{AreItemsOf}
use Rattle.bag_writer.specs.declared.item.Item.{Item}
use Rattle.bag_writer.proofs.items.Items.none.Goals as goal

pub returns : goal.returns
returns c = c.of.ensures.all [] (subst (λ (items : List Item). AreItemsOf c.args.set items []) (sym c.new.ensures.items) tt)
