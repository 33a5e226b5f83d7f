use Rattle.std.proofs.Common.{sym, ap, ◌∙◌, Bor, List, ℕ}
use Rattle.bag_tags.specs.Names.{payload_manifest, tag_manifest}
use Rattle.bag_tags.proofs.NameLemmas.{payload_known, tag_known}
use Rattle.bag_tags.proofs.name.unknown_algorithm.Goals as goal
use Rattle.bag_tags.proofs.name.unknown_algorithm.Goals.{in-Some, in-None+in_ok-word-in-None}

pub returns-in-Some-from_name : goal.returns-in-Some-from_name
returns-in-Some-from_name c word u =
    let alg = c.in-Some-from_name.field-0 in
    let found = c.in-Some-from_name.ensures.found in
    elim c.match-manifest_word.branch [
      | in-Some w ↦
          payload_known c.args.path.now alg word u
          (sym c.as_str-text.ensures.text ∙ w.in-Some.ensures.word.1 ∙ ap payload_manifest (ap (λ (b : Bor (List ℕ)). b.now) (sym w.word-is) ∙ found))
      | in-None+in_ok-word-in-None w ↦
          tag_known c.args.path.now alg word u
          (sym c.as_str-text.ensures.text ∙ w.in_ok-word-in-None.ensures.word.1 ∙ ap tag_manifest (ap (λ (b : Bor (List ℕ)). b.now) (sym w.word-is) ∙ found))
    ]
