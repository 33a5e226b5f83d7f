use Rattle.std.proofs.Common.{codes, [], refl, arith}
use Rattle.bag_tags.specs.WordsReading.{until}
use Rattle.bag_tags.proofs.OxumLemmas.{IsCutOxum, cut_by, no_octets, no_streams}
use Rattle.bag_tags.proofs.examples.other_texts_are_no_oxums.Goals as goal

pub returns : goal.returns
unfolding until
returns c =
    let missing : IsCutOxum (codes "3.") (codes "3") [] [] = cut_by (codes "3.") [] (codes "3.") (codes "3") (codes ".") [] [] [] refl refl refl refl refl in
    let signed : IsCutOxum (codes "+3.2") (codes "+3") (codes "2") [] = cut_by (codes "+3.2") [] (codes "+3.2") (codes "+3") (codes ".2") (codes "2") (codes "2") [] refl refl refl refl refl in
    let blank : IsCutOxum (codes "3 .2") (codes "3 ") (codes "2") [] = cut_by (codes "3 .2") [] (codes "3 .2") (codes "3 ") (codes ".2") (codes "2") (codes "2") [] refl refl refl refl refl in
    let large : IsCutOxum (codes "18446744073709551616.0") (codes "18446744073709551616") (codes "0") [] =
    cut_by (codes "18446744073709551616.0") [] (codes "18446744073709551616.0") (codes "18446744073709551616") (codes ".0") (codes "0") (codes "0") [] refl refl refl refl refl in (
      no_streams (codes "3.") (codes "3") [] [] missing (λ n h below. h.some refl),
      no_octets (codes "+3.2") (codes "+3") (codes "2") [] signed (λ n h below. omega (arith, h.digits.0)),
      no_octets (codes "3 .2") (codes "3 ") (codes "2") [] blank (λ n h below. omega (arith, h.digits.1.0)),
      no_octets (codes "18446744073709551616.0") (codes "18446744073709551616") (codes "0") [] large (λ n h below. omega (arith, h.value_is, below)),
    )
