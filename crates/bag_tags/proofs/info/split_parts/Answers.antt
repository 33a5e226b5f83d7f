use Rattle.std.proofs.Common.{Some, None, arith}
use Rattle.std.proofs.lemmas.Str.Pattern.{split_parts}
use Rattle.bag_tags.proofs.InfoLineLemmas.{colon_where, none_where, lacks_colon, lacks_first}
use Rattle.bag_tags.proofs.info.split_parts.Goals as goal

pub returns-in_err-before : goal.returns-in_err-before
returns-in_err-before c =
    rw c.from_residual.ensures (lacks_colon c.args.version c.args.text.now (none_where c.args.text.now (split_parts 58 c.args.text.now None c.in_err-before.ensures.cases (omega arith))))

pub returns-in_err-first : goal.returns-in_err-first
returns-in_err-first c =
    let parts = split_parts 58 c.args.text.now (Some (c.in_ok-before.before, c.in_ok-before.after)) c.in_ok-before.ensures.cases (omega arith) in
    rw c.from_residual-in_err-first.ensures (lacks_first c.args.version c.args.text.now c.in_ok-before.before.now c.in_ok-before.after.now (colon_where _ _ _ parts) c.in_err-first.ensures)

pub returns : goal.returns
returns c =
    let parts = split_parts 58 c.args.text.now (Some (c.in_ok-before.before, c.in_ok-before.after)) c.in_ok-before.ensures.cases (omega arith) in
    record {
      before = c.in_ok-before.before.now;
      after = c.in_ok-before.after.now;
      colon = colon_where _ _ _ parts;
      label_is = c.label.ensures;
      first_line = c.in_ok-first.ensures;
    }
