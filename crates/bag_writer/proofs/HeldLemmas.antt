-- Files that are held, and the items of files so far.
use Rattle.std.proofs.Common.{◌≡◌, ◌∙◌, ◌++◌, ◌∷◌, ◌+◌, ◌≤◌, [], ℕ, Err, IfOk, List, Ok, Result, Some, Vec, ap, append_assoc, arith, length, map, refl, slice_get, suc, subst, sym, take, zero}
use Rattle.std.proofs.lemmas.List.{length-map, take_all}
use Rattle.std.specs.declared.alloc.Global.{Global}
use Rattle.std.specs.Option.{option_map}
use Rattle.bag_digest.specs.Hash.{AreDigests}
use Rattle.bag_digest.specs.ShortContents.{AreSumsOfEach}
use Rattle.bag_digest.specs.declared.algorithm.AlgSet.{AlgSet}
use Rattle.bag_digest.specs.declared.sums.Sums.{Sums}
use Rattle.bag_rules.proofs.Words.{Files, same_Some, slice_get-map}
use Rattle.bag_writer.specs.HeldFiles.{AddsFile, AreItemsSoFar}
use Rattle.bag_writer.specs.Steps.{AreItemsOf, IsItemOf}
use Rattle.bag_writer.specs.declared.item.Item.{Item}
use Rattle.bag_writer.specs.declared.items.Items.{Items}
use Rattle.bag_writer.proofs.PayloadLists.{File}
use Rattle.bag_digest.proofs.ListLemmas.{next_taken}

abbrev octets_of : Vec ℕ Global → List ℕ
octets_of content = content.items

-- one more item
items_on : (set : AlgSet) (items : List Item) (files : Files) (item : Item) (file : File) → AreItemsOf set items files → IsItemOf set item file.0 file.1 → AreItemsOf set (items ++ item ∷ []) (files ++ file ∷ [])
items_on set [] [] item file h k = (k, tt)
items_on set [] (f ∷ files) item file h k = absurd h
items_on set (i ∷ items) [] item file h k = absurd h
items_on set (i ∷ items) (f ∷ files) item file h k = (h.0, items_on set items files item file h.1 k)

-- the file that is held at a place
at_place : {X : Type 0} (f : File → X) (files : Files) (n : ℕ) (x : X) → slice_get (map f files) n ≡ Some x → (file : File) × (slice_get files n ≡ Some file) × (f file ≡ x)
at_place f [] n x e = absurd (cc)
at_place f (file ∷ files) zero x e = let k : f file ≡ x = cc in (file, refl, k)
at_place f (file ∷ files) (suc n) x e = at_place f files n x e

-- the item of the next file that is held
pub item_next : (set : AlgSet) (old : Items) (files : Files) (so_far : AreItemsSoFar set old files) (each : List Sums) (place : ℕ) (items : List Item) (item : Item) (content : Vec ℕ Global)
    → AreSumsOfEach old.held.set old.held.contents.items each → AreItemsOf set items (so_far.first ++ take place so_far.held) → slice_get old.held.known.items place ≡ Some item.path → slice_get old.held.contents.items place ≡ Some content
    → slice_get each place ≡ Some item.sums → AreItemsOf set (items ++ item ∷ []) (so_far.first ++ take (place + 1) so_far.held)
item_next set old files so_far each place items item content summed are path_at content_at sums_at =
    let held = so_far.held_are in
    let (file, here, named) = at_place (λ (f : File). f.0) so_far.held place item.path (ap (λ list. slice_get list place) (sym held.paths_are) ∙ path_at) in
    let octets : slice_get (map (λ (f : File). f.1) so_far.held) place ≡ Some content.items = ap (λ list. slice_get list place) (sym held.octets_are) ∙ slice_get-map octets_of old.held.contents.items place ∙ ap (option_map octets_of) content_at in
    let (same, there, is) = at_place (λ (f : File). f.1) so_far.held place content.items octets in
    let one : same ≡ file = same_Some same file (sym there ∙ here) in
    let own : content.items ≡ file.1 = sym is ∙ ap (λ (f : File). f.1) one in
    let sums = summed.sums place content item.sums content_at sums_at in
    subst (AreItemsOf set (items ++ item ∷ [])) (append_assoc so_far.first (take place so_far.held) (file ∷ []) ∙ ap (λ list. so_far.first ++ list) (sym (next_taken so_far.held place file here)))
    (items_on set items (so_far.first ++ take place so_far.held) item file are record {
      path_is = sym named;
      sums = (sums.0 ∙ ap length own, subst (λ s. AreDigests item.sums.digests s file.1) so_far.held_set (subst (AreDigests item.sums.digests old.held.set) own sums.1));
    })

-- the items of all files
pub items_all : (set : AlgSet) (old : Items) (files : Files) (so_far : AreItemsSoFar set old files) (place : ℕ) (items : List Item) → AreItemsOf set items (so_far.first ++ take place so_far.held) → length old.held.known.items ≤ place → AreItemsOf set items files
items_all set old files so_far place items are end =
    let count : length so_far.held ≤ place = omega (arith, end, ap length so_far.held_are.paths_are, length-map {A = File} so_far.held (λ (f : File). f.0)) in
    subst (AreItemsOf set items) (ap (λ list. so_far.first ++ list) (take_all place so_far.held count) ∙ sym so_far.all) are

-- the items of all files are those so far, with no file held
of_all : (set : AlgSet) (items : List Item) (files : Files) (new : Items) (mine : AlgSet) → mine ≡ set → AreItemsOf set items files → (AreItemsOf mine items files → AreItemsSoFar mine new files) → AreItemsSoFar set new files
of_all set items files new mine same are made = subst (λ s. AreItemsSoFar s new files) same (made (subst (λ s. AreItemsOf s items files) (sym same) are))

-- one more file whose digests were taken, after all those before it
pub adds_hashed : (set : AlgSet) (item : Item) (octets : List ℕ) (old new : Items) (ready more : List Item) → IsItemOf set item item.path octets → ((files : Files) → AreItemsSoFar set old files → AreItemsOf set ready files) → more ≡ ready ++ item ∷ []
    → ((files : Files) → AreItemsOf old.set more files → AreItemsSoFar old.set new files) → AddsFile set (item.path, octets) old new
adds_hashed set item octets old new ready more is all pushed made files so_far =
    let after = files ++ (item.path, octets) ∷ [] in
    of_all set more after new old.set so_far.set_is (subst (λ items. AreItemsOf set items after) (sym pushed) (items_on set ready files item (item.path, octets) (all files so_far) is)) (made after)

-- a file that comes after those before it does so too where the same files are held otherwise
pub adds_after : {E : Type 0} (r : Result Items E) (set : AlgSet) (file : File) (old mid : Items) → ((files : Files) → AreItemsSoFar set old files → AreItemsSoFar set mid files)
    → IfOk r (AddsFile set file mid) → IfOk r (AddsFile set file old)
adds_after (Ok new) set file old mid same adds = λ files so_far. adds files (same files so_far)
adds_after (Err fault) set file old mid same adds = tt
