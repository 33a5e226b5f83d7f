-- The element that says the Oxum of a payload can be written.
use Rattle.std.proofs.Common.{◌≡◌, ◌<◌, ◌++◌, [], ℕ, List, append-nil, codes, lit<, refl, sym, subst, arith}
use Rattle.std.specs.Char.{IsAsciiDigit}
use Rattle.std.specs.Fmt.{decimal}
use Rattle.std.specs.List.{AllByRecursion}
use Rattle.bag_path.specs.Lines.{IsPlain}
use Rattle.bag_tags.specs.Infos.{IsLabel, IsLabelOctet, IsValue}
use Rattle.bag_tags.specs.Oxums.{OxumText, written_oxum}
use Rattle.bag_tags.proofs.OxumLemmas.{decimal_numeral}
use Rattle.bag_tags.proofs.TextCutLemmas.{all_both}
use Rattle.bag_tags.proofs.WordsLemmas.{each}

letter : (x : ℕ) → 58 < x → IsLabelOctet x
letter x above = (λ e. omega arith, (λ e. omega arith, λ e. omega arith))

is_label : IsLabel (codes "Payload-Oxum")
is_label = record { fit = record { some = λ e. cc; begins = refl; ends = refl; unmarked = refl }; octets = (letter 80 (lit< tt), (letter 97 (lit< tt), (letter 121 (lit< tt), (letter 108 (lit< tt), (letter 111 (lit< tt), (letter 97 (lit< tt), (letter 100 (lit< tt), ((λ e. cc, (λ e. cc, λ e. cc)), (letter 79 (lit< tt), (letter 120 (lit< tt), (letter 117 (lit< tt), (letter 109 (lit< tt), tt)))))))))))) }

digit_plain : (x : ℕ) → IsAsciiDigit x → IsPlain x
digit_plain x digit = (λ e. omega (arith, digit), λ e. omega (arith, digit))

is_value : (octets streams : ℕ) → OxumText (written_oxum octets streams) octets streams → IsValue (written_oxum octets streams)
is_value octets streams says =
    let plain = λ (n : ℕ) (digits : AllByRecursion IsAsciiDigit (decimal n)). each IsAsciiDigit IsPlain digit_plain (decimal n) digits in
    record {
      first = written_oxum octets streams;
      further = [];
      lines = record {
        whole = sym (append-nil (written_oxum octets streams));
        first_line = all_both IsPlain (decimal octets ++ codes ".") (decimal streams)
            (all_both IsPlain (decimal octets) (codes ".") (plain octets (decimal_numeral octets says.octets_fit).digits) ((λ e. cc, λ e. cc), tt))
            (plain streams (decimal_numeral streams says.streams_fit).digits);
        further_lines = tt;
      };
    }

-- its label and its value are valid
pub fits : (text : List ℕ) (octets streams : ℕ) → text ≡ written_oxum octets streams → OxumText (written_oxum octets streams) octets streams → IsLabel (codes "Payload-Oxum") × IsValue text
fits text octets streams is says = (is_label, subst IsValue (sym is) (is_value octets streams says))
