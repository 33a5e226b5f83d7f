use Rattle.std.proofs.Common.{◌≡◌, ◌++◌, ◌∷◌, [], List, subst, sym, rules}
use Rattle.bag_writer.specs.Steps.{AreItemsOf}
use Rattle.bag_writer.specs.declared.item.Item.{Item}
use Rattle.bag_writer.proofs.ItemLemmas.{File, items_join}
use Rattle.bag_writer.proofs.TagSteps.{writes_forgotten}
use Rattle.bag_writer.proofs.tag_files.tag_file.write_listed.Goals as goal
use Rattle.bag_writer.proofs.tag_files.tag_file.write_listed.Goals.{in-Ok, in-Err}

pub returns-clause-written : goal.returns-clause-written
returns-clause-written g c =
    let file : File = (c.args.path, c.args.octets.now) in
    elim c.match-push.branch [
      | in-Ok w ↦ rw w.result-is c.in_ok-write_whole.ensures
      | in-Err w ↦ rw w.result-is (writes_forgotten g.S.Sink.stored g.S.Sink.is_open g.S.Sink.failures g.S.Sink.sure (file ∷ []) _ _ c.in_ok-write_whole.ensures)
    ]

pub returns-clause-listed : goal.returns-clause-listed
returns-clause-listed g c =
    elim c.match-push.branch [
      | in-Ok w ↦ rw w.result-is (λ before are.
          let items : c.push.new.self.items ≡ c.args.listed.now.items ++ c.item_of.result ∷ [] = search rules in
          subst (λ (all : List Item). AreItemsOf c.args.set all (before ++ (c.args.path, c.args.octets.now) ∷ [])) (sym items)
          (items_join c.args.set c.args.listed.now.items (c.item_of.result ∷ []) before ((c.args.path, c.args.octets.now) ∷ []) are (c.item_of.ensures, tt)))
      | in-Err w ↦ rw w.result-is tt
    ]
