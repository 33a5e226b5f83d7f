-- The bag of the tag files of a transfer.
use Rattle.std.proofs.Common.{◌≡◌, ℕ, List, Some, slice_get, ap, sym, ◌∙◌}
use Rattle.bag_rules.proofs.Words.{AreRising, File, Files, files_of, keys_of, option_map, slice_get-map}
use Rattle.bag_rules.specs.Transfers.{tag_bag}
use Rattle.bag_rules.proofs.TreeLemmas.{one_file}

-- the tag file at a place, with its octets
pub tag_at : (items : List File) (tags : Files) (i : ℕ) (file : File) → files_of items ≡ tags → slice_get items i ≡ Some file → slice_get tags i ≡ Some (file.path, file.body.items)
tag_at items tags i file same at =
    ap (λ (fs : Files). slice_get fs i) (sym same)
    ∙ slice_get-map (λ (f : File). (f.path, f.body.items)) items i
    ∙ ap (option_map (λ (f : File). (f.path, f.body.items))) at

-- a path has one tag file
pub tag_once : (tags : Files) → AreRising (keys_of tags) → (n : ℕ) (path octets : List ℕ) → slice_get tags n ≡ Some (path, octets) → (i : ℕ) (other : List ℕ) → slice_get tags i ≡ Some (path, other) → i ≡ n
tag_once tags rising n path octets there i other e = one_file (tag_bag tags) i n path other octets rising e there
