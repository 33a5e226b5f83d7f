use Rattle.std.proofs.Common.{ap, subst, ◌∙◌, arith, string_bytes}
use Rattle.bag_rules.proofs.Words.{Files}
use Rattle.bag_receiver.proofs.BeginFiles.{given_all}
use Rattle.bag_receiver.proofs.BeginPlaces.{placed_at, refused_at, tags_at}
use Rattle.bag_receiver.proofs.Words.{IsPlaced, light_tags, NoneMisplaced}
use Rattle.bag_receiver.proofs.begin.placed.Goals as goal

pub loop-i-preserved : goal.loop-i-preserved
loop-i-preserved c =
    let files = c.args.files.now in
    let i = c.loop-i.i in
    let file = c.index-files-i.result in
    let before = c.loop-i.invariant in
    let placed : IsPlaced c.loop-i.tags (string_bytes file.0) = c.in_default.ensures.placed.0 in
    record {
      tags_are = tags_at files i file c.loop-i.tags c.add_lightened.new.tags c.loop-i-test.true c.index-files-i.is before.tags_are c.in_default.ensures.placed.1;
      none = placed_at files i file c.loop-i-test.true c.index-files-i.is before.none (subst (λ (tags : Files). IsPlaced tags (string_bytes file.0)) before.tags_are placed);
    }

pub returns-in-Err : goal.returns-in-Err
returns-in-Err c =
    let file = c.index-files-i.result in
    let before = c.loop-i.invariant in
    record {
      placed = tt;
      refused = refused_at c.args.files.now c.loop-i.i file c.fault_at.result c.in-Err.fault c.loop-i-test.true c.index-files-i.is before.none
          (λ other. subst (λ (tags : Files). ¬ IsPlaced tags (string_bytes file.0)) before.tags_are (c.in-Err.ensures.refused other)) c.fault_at.ensures;
    }

pub returns : goal.returns
returns c =
    let all = given_all c.args.files.now c.loop-i.i (omega arith) in
    record { placed = (subst NoneMisplaced all c.loop-i.invariant.none, c.loop-i.invariant.tags_are ∙ ap light_tags all); refused = tt }
