use Rattle.std.proofs.Common.{rules, ◌≡◌, ◌∙◌, inl, inr, arith}
use Rattle.std.proofs.lemmas.Bool.{cases_lt}
use Rattle.std.proofs.lemmas.List.{get_or-set_other, get_or-set_same}
use Rattle.bag_lanes.proofs.words.block_words.Goals as goal

pub words-preserved : goal.words-preserved
words-preserved c = record {
  count = search rules;
  before = λ k low.
      elim (cases_lt k c.words.k) [
        | inl under ↦ get_or-set_other c.words.words c.words.k k c.word_at.result 0 (omega arith) ∙ c.words.invariant.before k under
        | inr over ↦
            let e : c.words.k ≡ k = omega arith in
            rw (← e) (get_or-set_same c.words.words c.words.k c.word_at.result 0 (omega (arith, c.words.invariant.count)) ∙ c.word_at.ensures)
      ];
}
