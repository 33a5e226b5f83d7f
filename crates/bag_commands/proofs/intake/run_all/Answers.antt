use Rattle.std.proofs.Common.{◌≡◌, ◌≢◌, ◌∙◌, ◌++◌, ◌∷◌, [], ap, map-id, max, refl, rules, subst, sym, List, OnErr, OnOk}
use Rattle.std.proofs.lemmas.Iterator.Adapters.{YieldsList-from_vec}
use Rattle.std.proofs.lemmas.Iterator.Consumers.{YieldsList-end}
use Rattle.std.specs.Vec.Iter.{into_iter_items}
use Rattle.bag_digest.specs.Failures.{Rises}
use Rattle.bag_receiver.specs.declared.run.End.TheVariants.{Done}
use Rattle.bag_commands.specs.Intakes.{IsRun, TakesIn}
use Rattle.bag_commands.specs.IntakesInside.{told_of}
use Rattle.bag_commands.specs.IntakeTexts.{Told, intake_lines, intake_status, run_lines, run_status}
use Rattle.bag_commands.specs.Outputs.{WroteLines}
use Rattle.bag_commands.proofs.IntakeLemmas.{answered, status_more, wrote_no_more, wrote_nothing, wrote_on}
use Rattle.bag_commands.proofs.RunsTaken.{front_yielded, ran_all, ran_last, ran_more}
use Rattle.bag_commands.proofs.intake.run_all.Goals.{in-None, in-Some+then-ne, then-is_ok, else-is_ok}
use Rattle.bag_commands.proofs.intake.run_all.Goals as goal

pub loop-courier-init : goal.loop-courier-init
loop-courier-init g c = record {
  can_next = tt;
  is_finite = tt;
  runs = ([], [], refl, refl, wrote_nothing g.W.Write.contents c.args.out.now, tt);
}

pub loop-courier-preserved : goal.loop-courier-preserved
loop-courier-preserved g c =
    let runs = IsRun g.K.Keeper.holds g.K.Keeper.may_leave g.K.Keeper.clean g.K.Keeper.failures g.C.Courier.coming g.C.Source.failures g.C.Courier.nexts g.C.Courier.steady c.args.name.now in
    let before = c.loop-courier.invariant.runs in
    let told = before.0 in
    let laters = before.1 in
    let courier = c.in-Some.courier in
    let later = c.run_from-run.new.courier in
    let one : Told = told_of c.run_from-run.result.0 c.run_from-run.result.1.items in
    let run : runs c.loop-courier.receiver c.run_from-run.new.self courier later one = record {
      runs = c.run_from-run.ensures.runs;
      within = c.run_from-run.ensures.within;
      failed = c.run_from-run.ensures.failures;
      called = c.run_from-run.ensures.nexts;
      steady = c.run_from-run.ensures.steady;
    } in
    let done : one.ended ≡ Done = search rules in
    let on = ran_more runs c.loop-courier.yielded laters told courier later one c.args.receiver.now c.loop-courier.receiver c.run_from-run.new.self before.2 run done in
    let greater : c.max-status.result ≡ max c.loop-courier.status c.run_status.result = c.max-status.ensures in
    let same : max c.loop-courier.status c.run_status.result ≡ max (intake_status told) (run_status one) = (λ t. max (before.3 t) (c.run_status.ensures one.paths t)) in
    let status : c.max-status.result ≡ intake_status (told ++ one ∷ []) = greater ∙ same ∙ sym (status_more told one) in
    let written : OnOk c.if-is_ok.written (WroteLines g.W.Write.contents c.args.out.now c.if-is_ok.out (intake_lines (told ++ one ∷ []))) × OnErr c.if-is_ok.written (Rises c.args.out.now.failures c.if-is_ok.out.failures) =
    elim c.if-is_ok.branch [
      | then-is_ok w ↦ rw (w.out-is, w.written-is) (wrote_on g.W.Write.contents c.args.out.now c.loop-courier.out w.write_run-written.new.out told one c.loop-courier.written w.write_run-written.result (search rules) before.4
          (subst (λ paths. OnOk w.write_run-written.result (WroteLines g.W.Write.contents c.loop-courier.out w.write_run-written.new.out (run_lines (told_of c.run_from-run.result.0 paths)))) w.deref.ensures.value w.write_run-written.ensures.ok)
          w.write_run-written.ensures.failed)
      | else-is_ok w ↦ rw (w.out-is, w.written-is) (wrote_no_more g.W.Write.contents c.args.out.now c.loop-courier.out (told ++ one ∷ []) c.loop-courier.written (search rules) before.5)
    ] in
    record {
      can_next = tt;
      is_finite = tt;
      runs = (told ++ one ∷ [], laters ++ later ∷ [], on, status, written.0, written.1);
    }

pub returns : goal.returns
returns g c =
    let runs = IsRun g.K.Keeper.holds g.K.Keeper.may_leave g.K.Keeper.clean g.K.Keeper.failures g.C.Courier.coming g.C.Source.failures g.C.Courier.nexts g.C.Courier.steady c.args.name.now in
    let before = c.loop-courier.invariant.runs in
    let told = before.0 in
    let laters = before.1 in
    let yielded = c.loop-courier.yielded in
    let couriers = c.args.couriers.items in
    let gives = c.into_iter-courier-iterator.ensures.into_iter_gives in
    let last = c.match-next in
    let Written : List Told → Type 0 = λ told. OnOk last.written (WroteLines g.W.Write.contents c.args.out.now last.out (intake_lines told)) × OnErr last.written (Rises c.args.out.now.failures last.out.failures) in
    elim c.match-next.branch [
      | in-None w ↦
          let end = YieldsList-end (YieldsList-from_vec {s = c.into_iter-courier-iterator.result} couriers gives.0 (gives.1 ∙ c.args.couriers.ok.0)) yielded _ c.loop-courier.yielded_by _ c.next.new.self w.in-None.is c.next.ensures.steps in
          let all : yielded ≡ couriers = sym (map-id yielded) ∙ end.0 in
          let takes : TakesIn runs couriers laters told c.args.receiver.now last.receiver = rw w.receiver-is
          (subst (λ couriers. TakesIn runs couriers laters told c.args.receiver.now c.loop-courier.receiver) all (ran_all runs yielded laters told c.args.receiver.now c.loop-courier.receiver before.2)) in
          let written : Written told = rw (w.written-is, w.out-is) (before.4, before.5) in
          let end = answered g.W.Write.contents c.args.out.now last.out told last.written last.status c.and.result c.and.ensures (w.status-is ∙ before.3) written in
          (told, laters, takes, end.0, end.1, end.2)
      | in-Some+then-ne w ↦
          let courier = w.in-Some.courier in
          let later = w.run_from-run.new.courier in
          let rest = into_iter_items c.next.new.self in
          let one : Told = told_of w.run_from-run.result.0 w.run_from-run.result.1.items in
          let run : runs c.loop-courier.receiver w.run_from-run.new.self courier later one = record {
            runs = w.run_from-run.ensures.runs;
            within = w.run_from-run.ensures.within;
            failed = w.run_from-run.ensures.failures;
            called = w.run_from-run.ensures.nexts;
            steady = w.run_from-run.ensures.steady;
          } in
          let other : one.ended ≢ Done = search rules in
          let all : yielded ++ courier ∷ rest ≡ couriers =
          sym (ap (λ left. yielded ++ left) w.in-Some.ensures.steps.0) ∙ sym (front_yielded c.into_iter-courier-iterator.result yielded c.loop-courier.courier-iterator c.loop-courier.yielded_by) ∙ gives.0 in
          let stops = ran_last runs yielded laters rest told courier later one c.args.receiver.now c.loop-courier.receiver w.run_from-run.new.self before.2 run other in
          let takes : TakesIn runs couriers (laters ++ later ∷ rest) (told ++ one ∷ []) c.args.receiver.now last.receiver = rw w.receiver-is
          (subst (λ couriers. TakesIn runs couriers (laters ++ later ∷ rest) (told ++ one ∷ []) c.args.receiver.now w.run_from-run.new.self) all stops) in
          let greater : w.max-status.result ≡ max c.loop-courier.status w.run_status.result = w.max-status.ensures in
          let same : max c.loop-courier.status w.run_status.result ≡ max (intake_status told) (run_status one) = (λ t. max (before.3 t) (w.run_status.ensures one.paths t)) in
          let status : last.status ≡ intake_status (told ++ one ∷ []) = w.status-is ∙ greater ∙ same ∙ sym (status_more told one) in
          let written : Written (told ++ one ∷ []) = elim w.if-is_ok.branch [
            | then-is_ok v ↦ rw (w.written-is, w.out-is, v.out-is, v.written-is) (wrote_on g.W.Write.contents c.args.out.now c.loop-courier.out v.write_run-written.new.out told one c.loop-courier.written v.write_run-written.result (search rules) before.4
                (subst (λ paths. OnOk v.write_run-written.result (WroteLines g.W.Write.contents c.loop-courier.out v.write_run-written.new.out (run_lines (told_of w.run_from-run.result.0 paths)))) v.deref.ensures.value v.write_run-written.ensures.ok)
                v.write_run-written.ensures.failed)
            | else-is_ok v ↦ rw (w.written-is, w.out-is, v.out-is, v.written-is) (wrote_no_more g.W.Write.contents c.args.out.now c.loop-courier.out (told ++ one ∷ []) c.loop-courier.written (search rules) before.5)
          ] in
          let end = answered g.W.Write.contents c.args.out.now last.out (told ++ one ∷ []) last.written last.status c.and.result c.and.ensures status written in
          (told ++ one ∷ [], laters ++ later ∷ rest, takes, end.0, end.1, end.2)
    ]
