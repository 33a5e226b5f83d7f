use Rattle.std.proofs.Common.{◌≡◌, ◌∷◌, ◌++◌, ◌+◌, ◌<◌, ◌∙◌, [], List, Some, ap, false, refl, rules, slice_get, subst, sym, take, true, ℕ}
use Rattle.bag_path.specs.Paths.{is_payload}
use Rattle.bag_rules.proofs.TreeUses.{uses_kept, uses_none, uses_on}
use Rattle.bag_rules.specs.Files.{AreTagFiles}
use Rattle.bag_rules.specs.Trees.{Shown, octets_in, paths_in}
use Rattle.bag_receiver.specs.BeginningFrom.{AreGiven, IsKnownAs, tag_files}
use Rattle.bag_receiver.proofs.TreeTags.{no_tag_files, passed_over, put_last, taken}
use Rattle.bag_receiver.proofs.Words.{with_file}
use Rattle.bag_receiver.proofs.begin_from.read_each.Goals as goal

pub loop-i-init : goal.loop-i-init
loop-i-init g c = rw c.new-tags.ensures (c.requires, uses_none (λ never. never), no_tag_files, tt)

pub loop-i-preserved-then-is_payload : goal.loop-i-preserved-then-is_payload
loop-i-preserved-then-is_payload g c =
    let shown = g.T.Paths.shown c.args.tree.now in
    let at : slice_get (paths_in shown) c.loop-i.i ≡ Some c.path.result.now = subst (λ (s : Shown). slice_get (paths_in s) c.loop-i.i ≡ Some c.path.result.now) c.loop-i.invariant.1.same c.path.ensures in
    let payload : is_payload c.path.result.now ≡ true = sym c.is_payload.ensures ∙ c.if-is_payload.true in
    (c.loop-i.invariant.0, c.loop-i.invariant.1, c.loop-i.invariant.2, passed_over shown c.loop-i.i c.path.result.now c.loop-i.tags at payload c.loop-i.invariant.3)

pub loop-i-preserved : goal.loop-i-preserved
loop-i-preserved g c =
    let shown = g.T.Paths.shown c.args.tree.now in
    let i = c.loop-i.i in
    let tags = c.loop-i.tags in
    let body = c.in_ok-body.body.items in
    let path = c.in_ok-path.path in
    let before = c.loop-i.invariant.1.same in
    let was : slice_get (paths_in shown) i ≡ Some c.path.result.now = subst (λ (s : Shown). slice_get (paths_in s) i ≡ Some c.path.result.now) before c.path.ensures in
    let again : slice_get (paths_in shown) i ≡ Some c.path-in-loop-i.result.now = subst (λ (s : Shown). slice_get (paths_in s) i ≡ Some c.path-in-loop-i.result.now) before c.path-in-loop-i.ensures in
    let copy : path ≡ c.path-in-loop-i.result.now = search rules in
    let at : slice_get (paths_in shown) i ≡ Some path = again ∙ ap Some (sym copy) in
    let named : c.path.result.now ≡ path = (let e : Some c.path.result.now ≡ Some path = sym was ∙ at in cc) in
    let tag_file : is_payload path ≡ false = ap is_payload (sym named) ∙ sym c.is_payload.ensures ∙ c.if-is_payload.false in
    let known : IsKnownAs (octets_in shown i) body = subst (λ (s : Shown). IsKnownAs (octets_in s i) body) before c.in_ok-body.ensures.read in
    let one : List ℕ × List ℕ = (path, body) in
    let are : AreGiven (tag_files (take (i + 1) shown.files)) (tags ++ one ∷ []) = taken shown i path tags one at tag_file c.loop-i.invariant.3 refl known in
    let last : with_file tags path body ≡ tags ++ one ∷ [] = put_last shown i path body tags c.count-i-end.ensures.rising at c.loop-i.invariant.3 in
    let added : c.insert.new.self ≡ with_file tags path body = c.in-Ok.ensures.added in (
      subst (λ n. 0 < n) (sym c.in_ok-body.ensures.kept) c.loop-i.invariant.0,
      uses_on c.loop-i.invariant.1 (λ never. never) (uses_kept c.in_ok-body.ensures.uses (λ e. cc) (λ never. never)),
      subst AreTagFiles c.tags-in-loop-i.view_is c.tags-in-loop-i.invariant,
      subst (AreGiven (tag_files (take (i + 1) shown.files))) (sym (added ∙ last)) are,
    )
