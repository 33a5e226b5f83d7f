use Rattle.std.proofs.Common.{length, map, rules, string_bytes, subst, sym}
use Rattle.std.proofs.lemmas.List.{length-map}
use Rattle.bag_program.proofs.RequestLemmas.{Unlike, none_like}
use Rattle.bag_program.proofs.command_line.Request.of.Goals as goal
use Rattle.bag_program.proofs.command_line.Request.of.Goals.{in_default-via-in-check-0+then-operands-lt1, in_default-via-in-check-0+else-operands-lt1+else-this-lt2, in_default-via-in-make-0+then-this-lt2-2, in_default-via-in-make-len2-up+else-not-is_empty, in_default-via-in-begin-0+then-this-lt3, in_default-via-in-begin-0+else-this-lt3+else-this-lt4, in_default-via-in-intake-0+then-this-lt2-3, in_default-via-in-intake-len2-up+else-not-is_empty-2, in_default-via-in-report-0+then-this-lt2-4, in_default-via-in-report-0+else-this-lt2-4+else-this-lt3-2, in_default-via-in-audit-0+then-this-lt2-5, in_default-via-in-audit-0+else-this-lt2-5+else-this-lt3-3, in_default-via-in-fetch-0+then-this-lt3-4, in_default-via-in-fetch-0+else-this-lt3-4+else-this-lt4-2, in_default-via-in-export-0+then-this-lt3-5, in_default-via-in-export-0+else-this-lt3-5+else-this-lt4-3, in_default-via-in-list-0+then-this-lt1, in_default-via-in-list-0+else-this-lt1+else-this-lt2-6, in_default-via-in_default}

pub returns-in_default-clause-none : goal.returns-in_default-clause-none
returns-in_default-clause-none c =
    let operands = c.args.operands.now in
    let unlike : Unlike c.args.command.now (length operands) = elim c.in_default.branch [
      | in_default-via-in-check-0+then-operands-lt1 w ↦ search rules
      | in_default-via-in-check-0+else-operands-lt1+else-this-lt2 w ↦ search rules
      | in_default-via-in-make-0+then-this-lt2-2 w ↦ search rules
      | in_default-via-in-make-len2-up+else-not-is_empty w ↦ search rules
      | in_default-via-in-begin-0+then-this-lt3 w ↦ search rules
      | in_default-via-in-begin-0+else-this-lt3+else-this-lt4 w ↦ search rules
      | in_default-via-in-intake-0+then-this-lt2-3 w ↦ search rules
      | in_default-via-in-intake-len2-up+else-not-is_empty-2 w ↦ search rules
      | in_default-via-in-report-0+then-this-lt2-4 w ↦ search rules
      | in_default-via-in-report-0+else-this-lt2-4+else-this-lt3-2 w ↦ search rules
      | in_default-via-in-audit-0+then-this-lt2-5 w ↦ search rules
      | in_default-via-in-audit-0+else-this-lt2-5+else-this-lt3-3 w ↦ search rules
      | in_default-via-in-fetch-0+then-this-lt3-4 w ↦ search rules
      | in_default-via-in-fetch-0+else-this-lt3-4+else-this-lt4-2 w ↦ search rules
      | in_default-via-in-export-0+then-this-lt3-5 w ↦ search rules
      | in_default-via-in-export-0+else-this-lt3-5+else-this-lt4-3 w ↦ search rules
      | in_default-via-in-list-0+then-this-lt1 w ↦ search rules
      | in_default-via-in-list-0+else-this-lt1+else-this-lt2-6 w ↦ search rules
      | in_default-via-in_default w ↦ search rules
    ] in
    none_like c.args.command.now (map string_bytes operands) (subst (Unlike c.args.command.now) (sym (length-map operands string_bytes)) unlike)
