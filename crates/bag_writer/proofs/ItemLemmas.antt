-- Items of files, as manifests and `fetch.txt` list them.
use Rattle.std.proofs.Common.{◌≡◌, ◌∙◌, ◌++◌, ◌∷◌, ◌+◌, ◌*◌, ◌<◌, ◌≤◌, ◌^◌, [], ℕ, true, false, List, Some, None, length, map, slice_get, suc, take, zero, refl, sym, ap, subst, inl, inr, arith}
use Rattle.std.specs.List.{AllByRecursion, sum_by}
use Rattle.std.specs.List.Sorted.{IsStrictlySortedBy}
use Rattle.std.specs.Ordering.{is_eq}
use Rattle.std.proofs.lemmas.List.Sums.{sum_by-cons}
use Rattle.bag_rules.specs.Bags.{octet_count}
use Rattle.bag_rules.specs.declared.limits.TheConstants.{LARGEST_FILE, MOST_LINES}
use Rattle.bag_rules.proofs.Words.{Alg, AlgSet, AreRising, Files, Less, bytes_eq, digest_in, has, hash, is_eq-slice_cmp, keys_of, lists_path, nat_cmp, slice_cmp}
use Rattle.bag_writer.specs.Steps.{AreItemsOf, IsItemOf}
use Rattle.bag_rules.proofs.OxumReading.{oxum}
use Rattle.bag_writer.specs.Writing.{HasLongFile, oxum_of}
use Rattle.bag_writer.specs.WrittenBags.{pairs_by}
use Rattle.bag_writer.specs.declared.item.Item.{Item}

abbrev pub File : Type 0
File = List ℕ × List ℕ

pub items_paths : (set : AlgSet) (items : List Item) (files : Files) → AreItemsOf set items files → map (λ (item : Item). item.path) items ≡ keys_of files
items_paths set [] [] are = refl
items_paths set (item ∷ items) (file ∷ files) are = λ t. are.0.path_is t ∷ items_paths set items files are.1 t
items_paths set _ _ are = absurd are

pub items_length : (set : AlgSet) (items : List Item) (files : Files) → AreItemsOf set items files → length items ≡ length files
items_length set [] [] are = refl
items_length set (item ∷ items) (file ∷ files) are = ap suc (items_length set items files are.1)
items_length set _ _ are = absurd are

-- the item at a place is that of the file there
pub item_at : (set : AlgSet) (items : List Item) (files : Files) (i : ℕ) (item : Item) → AreItemsOf set items files → slice_get items i ≡ Some item → (file : File) × (slice_get files i ≡ Some file) × IsItemOf set item file.0 file.1
item_at set [] files i item are at = (let no : None ≡ Some item = at in cc)
item_at set (first ∷ items) (file ∷ files) zero item are at = (file, refl, (let same : first ≡ item = cc in subst (λ (it : Item). IsItemOf set it file.0 file.1) same are.0))
item_at set (first ∷ items) (file ∷ files) (suc i) item are at = item_at set items files i item are.1 at
item_at set _ _ i item are at = absurd are

pub items_join : (set : AlgSet) (items more : List Item) (files others : Files) → AreItemsOf set items files → AreItemsOf set more others → AreItemsOf set (items ++ more) (files ++ others)
items_join set [] more [] others are rest = rest
items_join set (item ∷ items) more (file ∷ files) others are rest = (are.0, items_join set items more files others are.1 rest)
items_join set _ more _ others are rest = absurd are

-- HOW MANY OCTETS

abbrev pub octets_of : Item → ℕ
octets_of item = item.sums.length

pub items_octets : (set : AlgSet) (items : List Item) (files : Files) → AreItemsOf set items files → sum_by octets_of items ≡ octet_count files
unfolding octet_count
items_octets set [] [] are = refl
items_octets set (item ∷ items) (file ∷ files) are = sum_by-cons octets_of item items ∙ (λ t. are.0.sums.0 t + items_octets set items files are.1 t)
items_octets set _ _ are = absurd are

count_bound : (files : Files) → (HasLongFile files LARGEST_FILE → ⊥) → octet_count files ≤ length files * LARGEST_FILE
unfolding octet_count
count_bound [] short = omega arith
count_bound (file ∷ files) short =
    let rest = count_bound files (λ long. short (long.0, (long.1.0, inr long.1.1, long.1.2))) in
    let one : (LARGEST_FILE < length file.1 → ⊥) = λ long. short (file.0, (file.1, inl refl, long)) in
    omega (arith, rest, one)

-- the sum is that of the files, and fits
pub total_fits : (set : AlgSet) (items : List Item) (files : Files) → AreItemsOf set items files → length files ≤ MOST_LINES → (HasLongFile files LARGEST_FILE → ⊥) → sum_by octets_of items < 2 ^ 64
total_fits set items files are few short = omega (arith, items_octets set items files are, count_bound files short, few)

pub oxum_is : (set : AlgSet) (items : List Item) (files : Files) → AreItemsOf set items files → (total : ℕ) → total ≡ sum_by octets_of items → oxum total (length items) ≡ oxum_of files
oxum_is set items files are total is = λ t. oxum ((is ∙ items_octets set items files are) t) (items_length set items files are t)

-- WHAT A MANIFEST LISTS

pub item_digest : (set : AlgSet) (item : Item) (file : File) (alg : Alg) → IsItemOf set item file.0 file.1 → has set alg ≡ true → digest_in item.sums.digests alg ≡ Some (hash alg file.1)
item_digest set item file alg is wanted = rw wanted at (is.sums.1 alg)

-- what holds for each path holds for the one at a place
pub each_at : (P : List ℕ → Type 0) (files : Files) (i : ℕ) (file : File) → AllByRecursion P (keys_of files) → slice_get files i ≡ Some file → P file.0
each_at P [] i file all at = (let no : None ≡ Some file = at in cc)
each_at P (first ∷ files) zero file all at = (let same : first ≡ file = cc in subst (λ (f : File). P f.0) same all.0)
each_at P (first ∷ files) (suc i) file all at = each_at P files i file all.1 at

other_path : (a b : List ℕ) → slice_cmp nat_cmp a b ≡ Less → bytes_eq a b ≡ false
other_path a b less = sym (is_eq-slice_cmp a b) ∙ ap is_eq less

-- a path isn't among the earlier ones
pub not_before : (alg : Alg) (files : Files) (i : ℕ) (file : File) → AreRising (keys_of files) → slice_get files i ≡ Some file → lists_path (pairs_by alg (take i files)) file.0 ≡ false
unfolding IsStrictlySortedBy
not_before alg [] i file rising at = (let no : None ≡ Some file = at in cc)
not_before alg (first ∷ files) zero file rising at = refl
not_before alg (first ∷ files) (suc i) file rising at =
    let less = each_at (λ y. slice_cmp nat_cmp first.0 y ≡ Less) files i file rising.0 at in
    rw (other_path first.0 file.0 less) (not_before alg files i file rising.1 at)
