use Rattle.std.proofs.Common.{◌≡◌, ◌++◌, ◌∷◌, [], string_bytes, sym, ap, ◌∙◌, subst, arith, append_assoc}
use Rattle.std.proofs.lemmas.Str.{IsUtf8-string_bytes}
use Rattle.bag_tags.specs.Infos.{IsValue, after_lf}
use Rattle.bag_tags.proofs.ValueLemmas.{value_with_line}
use Rattle.bag_tags.proofs.info.Element.with_line.Goals as goal

pub invariant_of-result : goal.invariant_of-result
invariant_of-result c =
    let grown : string_bytes c.push_str.new.self ≡ string_bytes c.self.inside.value ++ after_lf c.args.line.now =
    c.in_ok-push_str.ensures.bytes ∙ ap (λ xs. xs ++ c.args.line.now) (c.in_ok-push.ensures.bytes ∙ ap (λ xs. string_bytes c.self.inside.value ++ xs) (c.in_ok-push.ensures.ascii (omega arith))) ∙ append_assoc (string_bytes c.self.inside.value) (10 ∷ []) c.args.line.now in
    record {
      label_utf8 = c.self.invariant.label_utf8;
      value_utf8 = IsUtf8-string_bytes c.push_str.new.self;
      is_label = c.self.invariant.is_label;
      is_value = subst IsValue (sym grown) (value_with_line _ _ c.self.invariant.is_value c.requires);
    }
