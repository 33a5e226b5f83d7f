use Rattle.std.proofs.Common.{encode_utf8_all}
use Rattle.std.specs.Fmt.{HasWritten, IsPlainFormatter}
use Rattle.bag_path.specs.Spellings.{written_spelling}
use Rattle.bag_path.proofs.spelling.TextSpellingDisplay.fmt.Given as goal

abbrev pub invariant-loop-c : goal.invariant-loop-c
invariant-loop-c g l =
    IsPlainFormatter l.initial.f → HasWritten g.W.Write.write_str_gives l.initial.f (written_spelling (encode_utf8_all l.yielded)) l.f
