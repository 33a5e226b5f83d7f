use Rattle.std.proofs.Common.{refl, rules}
use Rattle.std.proofs.Output.{has_written_append, has_written_of_eq}
use Rattle.bag_path.proofs.WrittenLemmas.{written_more}
use Rattle.bag_path.proofs.spelling.TextSpellingDisplay.fmt.Goals as goal

pub loop-c-preserved : goal.loop-c-preserved
loop-c-preserved g c = λ plain.
    has_written_of_eq _ _ _ _ _ (written_more c.in-Some.c c.loop-c.yielded _ _ refl refl)
    (has_written_append _ _ _ _ _ _ (c.loop-c.invariant plain) (search rules))
