-- What is at a place of a list.
use Rattle.std.proofs.Common.{◌≡◌, ℕ, List, Option, Some, sym, ◌∙◌}
use Rattle.bag_rules.proofs.Words.{some_pair_parts}

-- there is one thing at a place
pub path_here : {X : Type 0} (o : Option X) (own other : X) → o ≡ Some own → o ≡ Some other → own ≡ other
path_here o own other h k = let e : Some own ≡ Some other = sym h ∙ k in let s : own ≡ other = cc in s

-- and so one path and its octets
pub same_file : (o : Option (List ℕ × List ℕ)) (path octets path' octets' : List ℕ) → o ≡ Some (path, octets) → o ≡ Some (path', octets') → (path ≡ path') × (octets ≡ octets')
same_file o path octets path' octets' h k = some_pair_parts path path' octets octets' (sym h ∙ k)
