-- The four algorithms.
use Rattle.std.proofs.Common.{◌≡◌, true, refl, inl, inr}
use Rattle.bag_digest.specs.declared.algorithm.TheConstants.Alg.{ALL}
use Rattle.bag_rules.proofs.Words.{Alg, Has, is_alg, Md5, Sha1, Sha256, Sha512}
use Rattle.bag_tags.proofs.TextFiles.{each_alg}

pub in_all : (alg : Alg) → Has ALL alg
in_all = each_alg (Has ALL) (inl refl) (inr (inl refl)) (inr (inr (inl refl))) (inr (inr (inr (inl refl))))

pub itself : (alg : Alg) → is_alg alg alg ≡ true
itself = each_alg (λ alg. is_alg alg alg ≡ true) refl refl refl refl

pub same_alg : (a b : Alg) → is_alg a b ≡ true → a ≡ b
same_alg Md5 = each_alg (λ b. is_alg Md5 b ≡ true → Md5 ≡ b) (λ e. refl) (λ e. cc) (λ e. cc) (λ e. cc)
same_alg Sha1 = each_alg (λ b. is_alg Sha1 b ≡ true → Sha1 ≡ b) (λ e. cc) (λ e. refl) (λ e. cc) (λ e. cc)
same_alg Sha256 = each_alg (λ b. is_alg Sha256 b ≡ true → Sha256 ≡ b) (λ e. cc) (λ e. cc) (λ e. refl) (λ e. cc)
same_alg Sha512 = each_alg (λ b. is_alg Sha512 b ≡ true → Sha512 ≡ b) (λ e. cc) (λ e. cc) (λ e. cc) (λ e. refl)
