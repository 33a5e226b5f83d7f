use Rattle.std.proofs.Common.{◌≡◌, ◌++◌, ◌<◌, ◌+◌, ℕ, List, All, get_or, take, length, string_bytes, ap, subst, arith}
use Rattle.std.specs.Prelude.{fold}
use Rattle.std.proofs.lemmas.Grind.{common_steps}
use Rattle.std.proofs.lemmas.List.Elements.{All-more}
use Rattle.bag_folder.specs.declared.entry_kind.EntryKind.{EntryKind}
use Rattle.bag_folder.specs.Directories.{EntryShown}
use Rattle.bag_folder.specs.Walks.{EntryFits, FitsBag, Walked, with_entry, with_path}
use Rattle.bag_folder.proofs.walk.look_into.Goals as goal

fold_more : (front : List ℕ) (walked : Walked) (entries : List EntryShown) (i : ℕ) (entry : EntryShown) → i < length entries
    → fold (with_entry front) walked (take (i + 1) entries) ≡ with_entry front (fold (with_entry front) walked (take i entries)) (get_or entries i entry)
fold_more front walked entries i entry inside = grind (arith, common_steps)

-- one more entry
look_more : (front : List ℕ) (walked now new : Walked) (entries : List EntryShown) (i : ℕ) (entry : EntryShown) (path : List ℕ) (kind : EntryKind)
    → i < length entries → entry ≡ get_or entries i entry → path ≡ front ++ entry.name → kind ≡ entry.kind
    → (now ≡ fold (with_entry front) walked (take i entries)) × All (EntryFits front) (take i entries) → new ≡ with_path now path kind → FitsBag path kind
    → (new ≡ fold (with_entry front) walked (take (i + 1) entries)) × All (EntryFits front) (take (i + 1) entries)
look_more front walked now new entries i entry path kind inside item path_is kind_is before taken fits =
    let here : new ≡ with_path (fold (with_entry front) walked (take i entries)) (front ++ entry.name) entry.kind = rw (← before.0, ← path_is, ← kind_is) taken in
    let this : EntryFits front entry = rw (← path_is, ← kind_is) fits in (
      rw (fold_more front walked entries i entry inside) (subst (λ (e : EntryShown). new ≡ with_entry front (fold (with_entry front) walked (take i entries)) e) item here),
      All-more (EntryFits front) entries i entry inside before.1 (subst (EntryFits front) item this),
    )

pub loop-entry-preserved : goal.loop-entry-preserved
loop-entry-preserved g c =
    let name_is = ap (λ (e : EntryShown). e.name) c.entry.view_is in
    let kind_is = ap (λ (e : EntryShown). e.kind) c.entry.view_is in
    look_more c.args.front.now c.args.found.now c.loop-entry.found c.take.new.self c.deref-entry-items.result.now c.loop-entry.entry-index c.entry-item.result (string_bytes c.push_str.new.self) c.entry.inside.kind
    c.loop-entry-test.true c.entry-item.is (cc (name_is, c.in_ok-push_str.ensures.bytes, c.in_ok-path.ensures.ok, c.as_str-in-loop-entry.ensures.value)) (cc kind_is) c.loop-entry.invariant c.in_ok-take.ensures.taken c.in_ok-take.ensures.fits
