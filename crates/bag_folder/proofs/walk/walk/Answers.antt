use Rattle.std.proofs.Common.{◌≡◌, ◌++◌, ◌∷◌, [], ℕ, List, map, string_bytes, ap, sym, subst}
use Rattle.std.proofs.lemmas.Result.{err_from_is_err_and}
use Rattle.bag_folder.specs.Directories.{IsBelow, IsUnfit}
use Rattle.bag_folder.specs.Walks.{LooksInto, RefusesFront, Walked}
use Rattle.bag_folder.specs.Unfits.{UnfitShown}
use Rattle.bag_folder.proofs.FaultLemmas.{IfUnfit-weaker}
use Rattle.bag_folder.proofs.WalkLemmas.{walking_begins, walking_on, walk_ends, walk_refuses}
use Rattle.bag_folder.proofs.walk.walk.Goals as goal

pub loop-init : goal.loop-init
loop-init g c = λ listing known.
    let none : c.new.result.items ≡ [] = c.new.ensures.items in
    let first : map string_bytes c.push.new.self.items ≡ [] ∷ [] = rw (c.in_ok-push.ensures.items, c.new-2.ensures.items) (ap (λ (bs : List ℕ). bs ∷ []) c.new-3.ensures.bytes) in
    ([], walking_begins listing c.args.folder.now _ (cc (none, first)))

pub loop-preserved : goal.loop-preserved
loop-preserved g c = λ listing known.
    let before = c.loop.invariant listing known in
    let front = string_bytes c.in-Some.front in
    let looks = c.in_ok-look_into.ensures listing known in
    (before.0 ++ front ∷ [], walking_on listing c.args.folder.now c.loop.found c.next.new.self c.look_into.new.found before.0 front c.in-Some.ensures before.1 (subst (λ f. LooksInto listing c.args.folder.now f c.next.new.self c.look_into.new.found) c.as_str.ensures.value looks))

pub returns-in_default : goal.returns-in_default
returns-in_default g c = λ listing known.
    let before = c.loop.invariant listing known in
    let same : c.loop.found ≡ c.next.new.self = sym c.in_default.ensures.1 in
    let shown = walk_ends listing c.args.folder.now c.loop.found before.0 c.in_default.ensures.0 before.1 in
    let now : IsBelow listing c.args.folder.now c.next.new.self.paths c.next.new.self.has_dir = subst (λ (w : Walked). IsBelow listing c.args.folder.now w.paths w.has_dir) same shown in
    subst (λ (w : Walked). IsBelow listing c.args.folder.now w.paths w.has_dir) (sym c.found.view_is) now

pub returns-in_err-look_into : goal.returns-in_err-look_into
returns-in_err-look_into g c = λ listing known.
    let before = c.loop.invariant listing known in
    let front = string_bytes c.in-Some.front in
    let error = err_from_is_err_and c.from_residual-in_err-look_into.result c.from_residual-in_err-look_into.ensures.1 in
    let Refuses = λ (f : List ℕ) (unfit : UnfitShown). RefusesFront listing c.args.folder.now f unfit.path unfit.cause in
    rw (error.1, error.2) (IfUnfit-weaker c.in_err-look_into.field-0.0 (Refuses c.as_str.result.now) (λ unfit. IsUnfit listing c.args.folder.now unfit.path unfit.cause)
    (λ unfit refuses. walk_refuses listing c.args.folder.now c.loop.found c.next.new.self before.0 front unfit.path unfit.cause c.in-Some.ensures before.1
    (subst (λ (f : List ℕ). Refuses f unfit) c.as_str.ensures.value refuses)) (c.in_err-look_into.ensures listing known))
