-- The digests of this crate's definition are those of the crates md5, sha1 and sha2.
use Rattle.std.proofs.Common.{◌≡◌, ℕ, zero, suc, ◌≤◌, List, [], ◌∷◌, ◌++◌, length, map, take, slice_index, refl, sym, ap, ◌∙◌, arith, add-one}
use Rattle.std.proofs.lemmas.List.{flat_map_more, take_all, take_more}
use Rattle.std.specs.Borrow.{Bor}
use Rattle.std.specs.Int.{w32}
use Rattle.std.specs.List.{flat_map}
use Rattle.md5.specs.Md5 as MD5
use Rattle.sha1.specs.Sha1 as SHA1
use Rattle.sha2.specs.Sha256 as SHA256
use Rattle.md5.specs.Md5.{md5}
use Rattle.sha1.specs.Sha1.{sha1}
use Rattle.sha2.specs.Sha256.{sha256}
use Rattle.bag_lanes.specs.Standard.{HashFunction, block, block_count, digest, final_value, hash_value, md5_function, octets_of, padded, sha1_function, sha256_function}

-- a hash value that is the initial one or comes of a block has as many words as both of these
length-hash_value : (f : HashFunction) (words : ℕ) → length f.initial ≡ words → ((h b : List ℕ) → length (f.compress h b) ≡ words)
    → (octets : List ℕ) (n : ℕ) → length (hash_value f octets n) ≡ words
unfolding hash_value
length-hash_value f words first next octets zero = first
length-hash_value f words first next octets (suc n) = next (hash_value f octets n) (block octets n)

-- a function that adds what f makes of one word after another
written_is : (f : ℕ → List ℕ) (h : List ℕ) (written : ℕ → List ℕ) → written zero ≡ [] → ((n : ℕ) → written (suc n) ≡ written n ++ f (slice_index h n))
    → (n : ℕ) → n ≤ length h → written n ≡ flat_map f (take n h)
written_is f h written first next zero low = first
written_is f h written first next (suc n) low =
    let before : written n ≡ flat_map f (take n h) = written_is f h written first next n (omega arith) in
    next n ∙ ap (λ (xs : List ℕ). xs ++ f (slice_index h n)) before ∙ flat_map_more f [] (take n h) (slice_index h n)
    ∙ ap (flat_map f) (sym (take_more h n 0 (omega arith)) ∙ rw add-one refl)

-- the same of all words
written_all : (f : ℕ → List ℕ) (h : List ℕ) (written : ℕ → List ℕ) → written zero ≡ [] → ((n : ℕ) → written (suc n) ≡ written n ++ f (slice_index h n))
    → (n : ℕ) → length h ≡ n → written n ≡ flat_map f h
written_all f h written first next n count =
    written_is f h written first next n (omega arith) ∙ ap (flat_map f) (take_all n h (omega arith))

md5_value : (octets : List ℕ) (n : ℕ) → hash_value md5_function octets n ≡ MD5.hash_after octets n
unfolding hash_value MD5.hash_after
md5_value octets zero = refl
md5_value octets (suc n) = ap (λ (h : List ℕ). MD5.compress h (block octets n)) (md5_value octets n)

sha1_value : (octets : List ℕ) (n : ℕ) → hash_value sha1_function octets n ≡ SHA1.hash_after octets n
unfolding hash_value SHA1.hash_after
sha1_value octets zero = refl
sha1_value octets (suc n) = ap (λ (h : List ℕ). SHA1.compress h (block octets n)) (sha1_value octets n)

sha256_value : (octets : List ℕ) (n : ℕ) → hash_value sha256_function octets n ≡ SHA256.hash_after SHA256.initial_hash_256 octets n
unfolding hash_value SHA256.hash_after
sha256_value octets zero = refl
sha256_value octets (suc n) = ap (λ (h : List ℕ). SHA256.compress h (block octets n)) (sha256_value octets n)

length-md5 : (h b : List ℕ) → length (MD5.compress h b) ≡ 4
unfolding MD5.compress
length-md5 h b = refl

length-sha1 : (h b : List ℕ) → length (SHA1.compress h b) ≡ 5
unfolding SHA1.compress
length-sha1 h b = refl

length-sha256 : (h b : List ℕ) → length (SHA256.compress h b) ≡ 8
unfolding SHA256.compress
length-sha256 h b = refl

pub md5_is : (m : List ℕ) → digest md5_function m ≡ md5 m
unfolding md5 MD5.digest_bytes
md5_is m =
    let h : List ℕ = final_value md5_function m in
    let octets : List ℕ = padded md5_function.order m in
    sym (written_all (octets_of md5_function.order w32) h (MD5.digest_bytes h) refl (λ n. refl) 4 (length-hash_value md5_function 4 refl length-md5 octets (block_count octets)))
    ∙ ap (λ (v : List ℕ). MD5.digest_bytes v 4) (md5_value octets (block_count octets))

pub sha1_is : (m : List ℕ) → digest sha1_function m ≡ sha1 m
unfolding sha1 SHA1.digest_bytes
sha1_is m =
    let h : List ℕ = final_value sha1_function m in
    let octets : List ℕ = padded sha1_function.order m in
    sym (written_all (octets_of sha1_function.order w32) h (SHA1.digest_bytes h) refl (λ n. refl) 5 (length-hash_value sha1_function 5 refl length-sha1 octets (block_count octets)))
    ∙ ap (λ (v : List ℕ). SHA1.digest_bytes v 5) (sha1_value octets (block_count octets))

pub sha256_is : (m : List ℕ) → digest sha256_function m ≡ sha256 m
unfolding sha256 SHA256.digest_bytes
sha256_is m =
    let h : List ℕ = final_value sha256_function m in
    let octets : List ℕ = padded sha256_function.order m in
    sym (written_all (octets_of sha256_function.order w32) h (SHA256.digest_bytes h) refl (λ n. refl) 8 (length-hash_value sha256_function 8 refl length-sha256 octets (block_count octets)))
    ∙ ap (λ (v : List ℕ). SHA256.digest_bytes v 8) (sha256_value octets (block_count octets))

-- the same of each message
pub map_same : (f g : List ℕ → List ℕ) → ((m : List ℕ) → f m ≡ g m) → (messages : List (Bor (List ℕ))) → map (λ m. f m.now) messages ≡ map (λ m. g m.now) messages
map_same f g same [] = refl
map_same f g same (m ∷ messages) = rw (same m.now, map_same f g same messages) refl
