use Rattle.std.proofs.Common.{◌∙◌, ap, arith, inl, inr, slice_get, subst, sym}
use Rattle.bag_digest.specs.Reading.{AreSums}
use Rattle.bag_rules.proofs.Words.{declaration_file, DeclarationStops, err_from_is_err_and, FirstStops, HoldsFile, IsLongTag, octets_in, paths_in, same_Some, slice_get_within}
use Rattle.bag_rules.proofs.DeclaredLemmas.{first_declaration, short_declaration}
use Rattle.bag_rules.proofs.LimitLemmas.{stopped_so}
use Rattle.bag_rules.proofs.TreeLemmas.{file_at, rises, there_at}
use Rattle.bag_rules.proofs.TreeUses.{uses_kept}
use Rattle.bag_rules.specs.Bags.{HasFilesOf}
use Rattle.bag_rules.proofs.OctetsLemmas.{file_as, files_of_bag, kept_cases, know_more, knows_shown, none_at, tell, tell_here}
use Rattle.bag_rules.proofs.scope.read_declared.Goals as goal

pub read_tag_file-requires-clause-inside : goal.read_tag_file-requires-clause-inside
read_tag_file-requires-clause-inside g c = slice_get_within _ _ _ c.requires.there

pub returns-in_err-text-clause-limits : goal.returns-in_err-text-clause-limits
returns-in_err-text-clause-limits g c = λ bag is.
    let file = there_at bag is c.args.i declaration_file c.requires.there in
    let p = err_from_is_err_and c.from_residual.result c.from_residual.ensures.1 in
    rw (p.1, p.2) (stopped_so (IsLongTag declaration_file file.0) (FirstStops bag DeclarationStops) c.in_err-text.field-0.0
    (λ long. first_declaration bag c.args.i file.0 c.in_err-text.field-0.0 (rises bag is c.requires.ready.1) file.1 long)
    (c.in_err-text.ensures.known declaration_file file.0 (file_at bag is c.args.i declaration_file file.0 file.1)))

pub returns-clause-scope : goal.returns-clause-scope
returns-clause-scope g c = λ bag is.
    let file = there_at bag is c.args.i declaration_file c.requires.there in
    let read = c.in_ok-text.ensures.known declaration_file file.0 (file_at bag is c.args.i declaration_file file.0 file.1) in
    c.in_ok-scope_of.ensures bag (files_of_bag bag (c.in_ok-text.ensures.tree.same ∙ is)) (subst (HoldsFile bag declaration_file) (sym (c.deref-2.ensures.value ∙ read.0)) (c.args.i, file.1))

pub returns-clause-limits : goal.returns-clause-limits
returns-clause-limits g c = λ bag is.
    let file = there_at bag is c.args.i declaration_file c.requires.there in
    let read = c.in_ok-text.ensures.known declaration_file file.0 (file_at bag is c.args.i declaration_file file.0 file.1) in
    short_declaration bag file.0 (rises bag is c.requires.ready.1) (c.args.i, file.1) read.1

pub returns-clause-reads : goal.returns-clause-reads
returns-clause-reads g c = record {
  tree = uses_kept c.in_ok-text.ensures.tree (λ e. cc e) (λ e. cc e);
  kept = λ are. (c.in_ok-keep.ensures.kept (g.T.Paths.shown c.args.tree.now) are (λ path octets at.
      let known = c.in_ok-text.ensures.known path octets at in (c.deref.ensures.value ∙ known.0, known.1)));
}

pub returns-clause-some : goal.returns-clause-some
returns-clause-some g c = λ empty.
    let shown = g.T.Paths.shown c.args.tree.now in
    let i = c.args.i in
    let text = c.in_ok-text.text.items in
    let read = c.in_ok-text.ensures.some in
    let adds = c.in_ok-keep.ensures.added in
    let more = know_more c.args.kept.now c.keep.new.self i adds.0 adds.2 0 text (knows_shown shown c.args.kept.now empty) (omega arith) (none_at c.args.kept.now empty i) read.0 read.1
    (subst (AreSums adds.0 c.args.kept.now.set) c.deref.ensures.value adds.1) in (
      tell (octets_in shown) i text,
      record {
        more = more.0;
        knows = more.1;
        only = λ place path is at. elim (kept_cases c.args.kept.now c.keep.new.self i adds.0 adds.2 place is) [
          | inl before ↦ absurd (none_at c.args.kept.now empty place before)
          | inr same ↦ same_Some path declaration_file (sym at ∙ ap (slice_get (paths_in shown)) same ∙ c.requires.there)
        ];
        set = adds.2.set;
      },
      λ bag is.
          let file = file_as bag is.files i declaration_file c.requires.there in
          let own = is.octets i declaration_file file.0 file.1 text (tell_here (octets_in shown) i text) in
          c.in_ok-scope_of.ensures bag (subst (λ s. HasFilesOf s bag) (sym c.in_ok-text.ensures.tree.same) is.files)
          (subst (HoldsFile bag declaration_file) (own ∙ sym c.deref-2.ensures.value) (i, file.1)),
    )
