use Rattle.std.proofs.Common.{◌≡◌, ◌∙◌, ℕ, List, sym, subst, arith, take, false, true}
use Rattle.bag_receiver.proofs.BeginFiles.{IsHeavy, first_here, first_of_two, given_all, given_more, heavy_stays, shown_file}
use Rattle.bag_receiver.proofs.Words.{given_in, IsFirstPath, IsHeavyAt}
use Rattle.bag_receiver.proofs.begin.first_heavy.Goals as goal
use Rattle.bag_receiver.proofs.begin.first_heavy.Goals.{then-is_heavy+in-Some, then-is_heavy+in-None, else-is_heavy}

pub loop-file-preserved : goal.loop-file-preserved
loop-file-preserved c =
    let files = c.args.files.now in
    let i = c.loop-file.file-index in
    let file = c.file-item.result in
    let front = given_in (take i files) in
    let more = given_more files i file c.loop-file-test.true c.file-item.is in
    let octets = c.as_slice.ensures.value in
    elim c.if-is_heavy.branch [
      | then-is_heavy+in-Some w ↦
          let heavy : IsHeavy (shown_file file).1 = subst IsHeavy octets (c.is_heavy.ensures.0 w.if-is_heavy.true) in
          let before : IsFirstPath (IsHeavyAt front) w.in-Some.old.now = rw w.in-Some.is at c.loop-file.invariant in
          rw (w.least-is, more) (first_of_two front (shown_file file) heavy w.in-Some.old.now w.lesser.result.now before (rw (← w.as_str-path.ensures.value) w.lesser.ensures))
      | then-is_heavy+in-None w ↦
          let heavy : IsHeavy (shown_file file).1 = subst IsHeavy octets (c.is_heavy.ensures.0 w.if-is_heavy.true) in
          let none : (path : List ℕ) → ¬ IsHeavyAt front path = rw w.in-None.is at c.loop-file.invariant in
          rw (w.least-is, w.as_str-path.ensures.value, more) (first_here front (shown_file file) heavy none)
      | else-is_heavy w ↦
          let light : ¬ IsHeavy (shown_file file).1 = λ heavy. (let e : true ≡ false = sym (c.is_heavy.ensures.1 (subst IsHeavy (sym octets) heavy)) ∙ w.if-is_heavy.false in cc) in
          rw (w.least-is, more) (heavy_stays front (shown_file file) (λ x. x.now) c.loop-file.least light c.loop-file.invariant)
    ]

pub returns : goal.returns
returns c = rw (← given_all c.args.files.now c.loop-file.file-index (omega arith)) c.loop-file.invariant
