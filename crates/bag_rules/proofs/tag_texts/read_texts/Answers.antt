use Rattle.std.proofs.Common.{rules, ◌≡◌, ◌<◌, ◌∷◌, [], ap, length, slice_get, sym, ◌∙◌, subst, arith}
use Rattle.bag_rules.specs.KeptInside.{AreKept}
use Rattle.bag_rules.proofs.Words.{Adds, AreTextsOf, Bag, err_from_is_err_and, HasBadLine, HasFaultOf, IsBadLineOf, IsBagOf, NoneStopsBefore, paths_in, ReadsOn, TextStops}
use Rattle.bag_rules.specs.OctetsRead.{KeepsGiven}
use Rattle.bag_rules.proofs.FirstFiles.{once_at, once_in}
use Rattle.bag_rules.proofs.KnownTexts.{only_tags, text_known}
use Rattle.bag_rules.proofs.OctetsLemmas.{count_as, extends_on, file_as, less_known, rises_as}
use Rattle.bag_rules.proofs.AddsLemmas.{adds_so}
use Rattle.bag_rules.proofs.LimitLemmas.{first_stops, none_more}
use Rattle.bag_rules.proofs.TextsMore.{all_bad_lines, faults_more, texts_more}
use Rattle.bag_rules.proofs.TreeLemmas.{file_at, same_count}
use Rattle.bag_rules.proofs.TreeUses.{uses_error, uses_kept, uses_on}
use Rattle.bag_rules.proofs.tag_texts.read_texts.Goals as goal
use Rattle.bag_digest.proofs.ListLemmas.{stands}

pub returns-in_err-read_text-clause-limits : goal.returns-in_err-read_text-clause-limits
returns-in_err-read_text-clause-limits g c = λ bag is.
    let shown = g.T.Paths.shown in
    let before = c.loop-i.invariant in
    let i = c.loop-i.i in
    let inside : i < length bag.files = omega (arith, before.all, same_count bag is, c.loop-i-test.true) in
    let here = stands bag.files i inside in
    let path = here.0.0 in
    let octets = here.0.1 in
    let now = before.used.same ∙ is in
    let error = err_from_is_err_and c.from_residual.result c.from_residual.ensures.1 in
    rw (error.1, error.2) (first_stops bag TextStops i path octets c.in_err-read_text.field-0.0 here.1 (before.limits bag is)
    (c.in_err-read_text.ensures.limits path octets (file_at bag now i path octets here.1)))

pub loop-i-preserved : goal.loop-i-preserved
loop-i-preserved g c =
    let shown = g.T.Paths.shown in
    let before = c.loop-i.invariant in
    let i = c.loop-i.i in
    let inside : (bag : Bag) → IsBagOf (shown c.args.tree.now) bag → i < length bag.files =
    λ bag is. omega (arith, before.all, same_count bag is, c.loop-i-test.true) in
    record {
      read = λ bag is by.
          let here = stands bag.files i (inside bag is) in
          let now = before.used.same ∙ is in
          texts_more bag i here.0.0 here.0.1 here.1
          (once_at bag is c.count-i-end.ensures.rising i here.0.0 here.0.1 here.1)
          c.loop-i.texts c.read_text.new.texts (before.read bag is by)
          (subst (λ version. ReadsOn version here.0.0 here.0.1 c.loop-i.texts c.read_text.new.texts) (sym by) (c.in_ok-read_text.ensures.read here.0.0 here.0.1 (file_at bag now i here.0.0 here.0.1 here.1)).0);
      faulty = λ bag is by.
          let here = stands bag.files i (inside bag is) in
          let now = before.used.same ∙ is in
          faults_more bag i here.0.0 here.0.1 here.1
          (once_at bag is c.count-i-end.ensures.rising i here.0.0 here.0.1 here.1)
          c.args.faults.now.items c.loop-i.faults.items c.read_text.new.faults.items (before.faulty bag is by)
          (subst (λ version. Adds c.loop-i.faults.items c.read_text.new.faults.items (IsBadLineOf version here.0.0 here.0.1)) (sym by) (c.in_ok-read_text.ensures.read here.0.0 here.0.1 (file_at bag now i here.0.0 here.0.1 here.1)).1);
      limits = λ bag is.
          let here = stands bag.files i (inside bag is) in
          let now = before.used.same ∙ is in
          none_more bag TextStops i here.0.0 here.0.1 here.1
          (c.in_ok-read_text.ensures.limits here.0.0 here.0.1 (file_at bag now i here.0.0 here.0.1 here.1))
          (before.limits bag is);
      some = λ known knows only.
          let was = before.some known knows only in
          let paths = paths_in (shown c.args.tree.now) in
          let here = stands paths i (omega (arith, before.all, c.loop-i-test.true)) in
          let path = here.0 in
          let read = c.in_ok-read_text.ensures.some path (ap (λ s. slice_get (paths_in s) i) before.used.same ∙ here.1) in
          let next = text_known (shown c.args.tree.now) i path was.0 c.loop-i.kept c.read_text.new.kept read.0 here.1 was.2 was.3
          (subst (λ s. KeepsGiven s i c.loop-i.kept c.read_text.new.kept read.0) before.used.same read.1) read.2 in (
            next.0,
            extends_on known was.0 next.0 was.1 next.1,
            next.2,
            next.3,
            next.4 ∙ was.4,
            λ bag is by.
                let file = file_as bag is.files i path here.1 in
                let on = was.5 bag (less_known next.1 is) by in
                let reads = read.3 file.0 (λ own given. is.octets i path file.0 file.1 own (next.5 own given)) in
                let once = once_in bag (rises_as bag is.files c.count-i-end.ensures.rising) i path file.0 file.1 in (
                  texts_more bag i path file.0 file.1 once c.loop-i.texts c.read_text.new.texts on.0
                      (subst (λ version. ReadsOn version path file.0 c.loop-i.texts c.read_text.new.texts) (sym by) reads.0),
                  faults_more bag i path file.0 file.1 once c.args.faults.now.items c.loop-i.faults.items c.read_text.new.faults.items on.1
                      (subst (λ version. Adds c.loop-i.faults.items c.read_text.new.faults.items (IsBadLineOf version path file.0)) (sym by) reads.1),
                ),
          );
      kept = λ are.
          let here = subst (λ s. AreKept s c.loop-i.kept) (sym before.used.same) (before.kept are) in
          subst (λ s. AreKept s c.read_text.new.kept) before.used.same (c.in_ok-read_text.ensures.reads.kept here);
      used = uses_kept (uses_on before.used (λ no. no) c.in_ok-read_text.ensures.reads.tree) (λ e. cc e) (λ no. no);
      all = before.all;
      room = search rules;
    }

pub returns-clause-read : goal.returns-clause-read
returns-clause-read g c = λ bag is by.
    let n : c.loop-i.i ≡ length bag.files = omega (arith, c.loop-i.invariant.all, same_count bag is) in
    subst (λ k. AreTextsOf k bag c.loop-i.texts) n (c.loop-i.invariant.read bag is by)

pub returns-clause-faulty : goal.returns-clause-faulty
returns-clause-faulty g c = λ bag is by.
    let n : c.loop-i.i ≡ length bag.files = omega (arith, c.loop-i.invariant.all, same_count bag is) in
    adds_so c.args.faults.now.items c.loop-i.faults.items (HasBadLine (length bag.files) bag) (HasFaultOf bag (5 ∷ [])) (λ f. (all_bad_lines bag f).0) (λ f. (all_bad_lines bag f).1)
    (subst (λ k. Adds c.args.faults.now.items c.loop-i.faults.items (HasBadLine k bag)) n (c.loop-i.invariant.faulty bag is by))

pub returns-clause-some : goal.returns-clause-some
returns-clause-some g c = λ known knows only.
    let shown = g.T.Paths.shown c.args.tree.now in
    let some = c.loop-i.invariant.some known knows only in (
      some.0,
      record { more = some.1; knows = some.2; only = only_tags c.loop-i.i shown c.loop-i.kept some.3; set = some.4 },
      λ bag is by.
          let n : c.loop-i.i ≡ length bag.files = omega (arith, c.loop-i.invariant.all, count_as bag is.files) in
          let all = some.5 bag is by in (
            subst (λ k. AreTextsOf k bag c.loop-i.texts) n all.0,
            adds_so c.args.faults.now.items c.loop-i.faults.items (HasBadLine (length bag.files) bag) (HasFaultOf bag (5 ∷ [])) (λ f. (all_bad_lines bag f).0) (λ f. (all_bad_lines bag f).1)
                (subst (λ k. Adds c.args.faults.now.items c.loop-i.faults.items (HasBadLine k bag)) n all.1),
          ),
    )

pub returns-clause-limits : goal.returns-clause-limits
returns-clause-limits g c = λ bag is.
    let n : c.loop-i.i ≡ length bag.files = omega (arith, c.loop-i.invariant.all, same_count bag is) in
    subst (λ k. NoneStopsBefore k bag TextStops) n (c.loop-i.invariant.limits bag is)

pub returns-in_err-read_text-clause-reads : goal.returns-in_err-read_text-clause-reads
returns-in_err-read_text-clause-reads g c =
    let p = err_from_is_err_and c.from_residual.result c.from_residual.ensures.1 in
    rw (p.1, p.2) (record {
      tree = uses_error (uses_on c.loop-i.invariant.used (λ no. no) c.in_err-read_text.ensures.reads.tree);
      kept = λ are. tt;
    })

pub returns-clause-reads : goal.returns-clause-reads
returns-clause-reads g c = record { tree = uses_kept c.loop-i.invariant.used (λ no. no) (λ e. cc e); kept = c.loop-i.invariant.kept }
