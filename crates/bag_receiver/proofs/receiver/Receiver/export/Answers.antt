use Rattle.std.proofs.Common.{◌∙◌, ◌++◌, rules, subst, sym}
use Rattle.std.proofs.lemmas.Result.{err_from_is_err_and}
use Rattle.bag_writer.specs.Steps.{AreWhole}
use Rattle.bag_writer.specs.TagWriting.{AreFree}
use Rattle.bag_writer.proofs.SinkUses.{sink_if, sink_so}
use Rattle.bag_receiver.specs.declared.export.ExportFault.TheVariants.{Keeper}
use Rattle.bag_receiver.specs.ExportsInside.{IsPartOf, from_opened}
use Rattle.bag_receiver.proofs.CountLemmas.{counts_after, counts_as, counts_on, no_fault}
use Rattle.bag_receiver.proofs.ExportedBags.{all_new, counted, exported_nothing, exported_part, exported_whole, free_all, what_is_held}
use Rattle.bag_receiver.proofs.Words.{Files, Store}
use Rattle.bag_receiver.proofs.receiver.Receiver.export.Goals as goal

pub returns-in_err-items : goal.returns-in_err-items
returns-in_err-items g c =
    let error = err_from_is_err_and c.from_residual-in_err-items.result c.from_residual-in_err-items.ensures.1 in
    record {
      looks = search rules;
      exported = rw (error.1, error.2) (λ clean now in_state. exported_nothing now.held c.args.name.now (g.S.Sink.stored c.args.sink.now) (Keeper c.in_err-items.field-0.0) tt);
      judged = search rules;
      store = rw (error.1, error.2) (counts_after _ _ _ _ _ (no_fault c.in_ok-tags.field-0 Store) c.in_ok-tags.ensures.store.counted (counts_as Keeper (λ a b e. cc) _ _ _ c.in_err-items.ensures.store.counted));
      sink = search rules;
    }

pub returns-in_err-write_bag : goal.returns-in_err-write_bag
returns-in_err-write_bag g c =
    let error = err_from_is_err_and c.from_residual-in_err-write_bag.result c.from_residual-in_err-write_bag.ensures.1 in
    record {
      looks = search rules;
      exported = λ clean now in_state.
          let (it, items, sized) = what_is_held g.K.Keeper.holds g.K.Keeper.may_leave g.K.Keeper.clean g.met.K.Keeper.sound c.args.self.now.keeper c.tags.new.self c.sizes.new.self c.args.name.now c.in-Some.tags
          c.in_ok-items.items.items c.tags.ensures.reads c.sizes.ensures.reads (c.is_name.ensures.0 (search rules)) (λ clean ledger holds. sym (c.in_ok-tags.ensures.tags clean ledger holds) ∙ search rules)
          c.in_ok-items.ensures.sizes (c.write_bag.ensures.keeper.reads.was_clean clean) now.held in_state.kept.held in
          let old = g.S.Sink.stored c.args.sink.now in
          let new = g.S.Sink.stored c.write_bag.new.sink in
          rw (error.1, error.2) (exported_part now.held c.args.name.now it.transfer it.named it.sound c.in_err-write_bag.field-0.0 old new c.in_err-write_bag.ensures.err
          (subst (λ (tags : Files). IsPartOf (tags ++ it.transfer.items) old new) (sym it.tags_are) (c.in_err-write_bag.ensures.written clean it.transfer.items items (c.as_slice.ensures.value ∙ sized))));
      judged = search rules;
      store =
          rw (error.1, error.2) (counts_after _ _ _ _ _ (no_fault c.in_ok-tags.field-0 Store) c.in_ok-tags.ensures.store.counted
          (counts_after _ _ _ _ _ (no_fault c.in_ok-items.items Store) c.in_ok-items.ensures.store.counted (counts_on _ (λ store. Keeper (Store store)) _ _ c.in_err-write_bag.ensures.keeper.counted)));
      sink =
          let old = g.S.Sink.stored c.args.sink.now in
          rw (error.1, error.2) (record {
            uses = sink_so
                (sink_if c.in_err-write_bag.ensures.sink.uses (λ order.
                let now = order.0.1.0 in
                let (it, items, sized) = what_is_held g.K.Keeper.holds g.K.Keeper.may_leave g.K.Keeper.clean g.met.K.Keeper.sound c.args.self.now.keeper c.tags.new.self c.sizes.new.self c.args.name.now c.in-Some.tags
                c.in_ok-items.items.items c.tags.ensures.reads c.sizes.ensures.reads (c.is_name.ensures.0 (search rules)) (λ clean ledger holds. sym (c.in_ok-tags.ensures.tags clean ledger holds) ∙ search rules)
                c.in_ok-items.ensures.sizes (c.write_bag.ensures.keeper.reads.was_clean order.0.0) now.held order.0.1.1.kept.held in (
                  (order.0.0, order.1),
                  (
                    it.transfer.items,
                    items,
                    c.as_slice.ensures.value ∙ sized,
                    subst (λ (tags : Files). AreFree (from_opened old) (tags ++ it.transfer.items)) it.tags_are (free_all _ old (all_new now.held c.args.name.now it.transfer it.named it.sound) order.2),
                  ),
                )))
                (λ e. cc) (λ e. cc);
            closed = λ closed. tt;
          });
    }

pub returns : goal.returns
returns g c =
    record {
      looks = search rules;
      exported = λ clean now in_state.
          let (it, items, sized) = what_is_held g.K.Keeper.holds g.K.Keeper.may_leave g.K.Keeper.clean g.met.K.Keeper.sound c.args.self.now.keeper c.tags.new.self c.sizes.new.self c.args.name.now c.in-Some.tags
          c.in_ok-items.items.items c.tags.ensures.reads c.sizes.ensures.reads (c.is_name.ensures.0 (search rules)) (λ clean ledger holds. sym (c.in_ok-tags.ensures.tags clean ledger holds) ∙ search rules)
          c.in_ok-items.ensures.sizes (c.write_bag.ensures.keeper.reads.was_clean clean) now.held in_state.kept.held in
          let old = g.S.Sink.stored c.args.sink.now in
          let new = g.S.Sink.stored c.write_bag.new.sink in
          exported_whole now.held c.args.name.now it.transfer it.named it.sound _ old new
          (counted c.files.result.now c.in-Some.tags c.in_ok-items.items.items it.transfer c.len.result c.files.ensures.files it.tags_are (search rules) sized)
          (subst (λ (tags : Files). AreWhole (tags ++ it.transfer.items) (from_opened old) new) (sym it.tags_are) (c.in_ok-write_bag.ensures.written clean it.transfer.items items (c.as_slice.ensures.value ∙ sized)));
      judged = search rules;
      store = search rules;
      sink = search rules;
    }
