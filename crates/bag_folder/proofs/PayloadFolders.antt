-- The directories below a folder that is a payload directory.
use Rattle.std.proofs.Common.{◌≡◌, ◌∷◌, ◌∙◌, ◌++◌, ℕ, List, [], Bool, true, drop, length, take, Option, None, Some, Result, Ok, Err, codes, false, ap, refl, subst, sym}
use Rattle.std.specs.Prelude.{if◌then◌else◌, nat_eq}
use Rattle.std.specs.Str.{bytes_eq}
use Rattle.std.specs.List.{starts_with}
use Rattle.std.proofs.Math.Seq.{take-append_seam}
use Rattle.std.proofs.lemmas.List.{take-append-drop}
use Rattle.std.proofs.lemmas.Slice.Eq.{bytes_eq-Decides}
use Rattle.bag_tags.specs.Words.{without}
use Rattle.std.specs.declared.io.Error.{Error}
use Rattle.bag_folder.specs.Directories.{AnswersEntries, EntryShown, Listing, data_entry, in_payload, name_below, payload_listing}

same_listing : (a b : Listing) → Some a ≡ Some b → a ≡ b
same_listing a b h = cc

none_is_not_some : (a : Listing) → None ≡ Some a → ⊥
none_is_not_some a h = cc

answers_same : {Entries : Type 0} (shown : Entries → List EntryShown) (a b : Listing) (at there : List ℕ) (answer : Result Entries Error) → a at ≡ b there
    → AnswersEntries shown b there answer → AnswersEntries shown a at answer
answers_same shown a b at there (Ok entries) same h = same ∙ h
answers_same shown a b at there (Err error) same h = λ not_memory. same ∙ h not_memory

listed_below : (folder directory name : List ℕ) (inner : Listing) → bytes_eq directory (name_below folder []) ≡ false
    → name ≡ name_below folder (without (name_below folder (codes "data/")) directory) → payload_listing folder inner directory ≡ inner name
listed_below folder directory name inner not_base named =
    let outside = inner (name_below folder (without (name_below folder (codes "data/")) directory)) in
    subst (λ (b : Bool). (if b then Ok (data_entry ∷ []) else outside) ≡ inner name) (sym not_base) (ap inner (sym named))

-- the answer for a directory outside is the right answer for the one in the payload directory
pub answers_below : {Entries : Type 0} (shown : Entries → List EntryShown) (folder directory name : List ℕ) (listed : Option Listing) (answer : Result Entries Error)
    → bytes_eq directory (name_below folder []) ≡ false → name ≡ name_below folder (without (name_below folder (codes "data/")) directory)
    → ((inner : Listing) → listed ≡ Some inner → AnswersEntries shown inner name answer)
    → (known : Listing) → in_payload listed folder ≡ Some known → AnswersEntries shown known directory answer
answers_below shown folder directory name None answer not_base named answers known is = absurd (none_is_not_some known is)
answers_below shown folder directory name (Some inner) answer not_base named answers known is =
    let same : payload_listing folder inner ≡ known = same_listing (payload_listing folder inner) known is in
    answers_same shown known inner directory name answer (subst (λ (k : Listing). k directory ≡ inner name) same (listed_below folder directory name inner not_base named)) (answers inner refl)

pub without_there : (front text : List ℕ) (n : ℕ) → n ≡ length front → text ≡ front ++ drop n text → without front text ≡ drop n text
without_there front text n is at =
    let begins : starts_with nat_eq text front ≡ true = (bytes_eq-Decides front (take (length front) text)).1 (sym (ap (take (length front)) at ∙ take-append_seam front (drop n text))) in
    subst (λ (b : Bool). (if b then drop (length front) text else text) ≡ drop n text) (sym begins) (ap (λ k. drop k text) (sym is))

stays : (b : Bool) (front text : List ℕ) → starts_with nat_eq text front ≡ b → ((rest : List ℕ) → text ≡ front ++ rest → ⊥) → (if b then drop (length front) text else text) ≡ text
stays true front text begins lacks =
    absurd (lacks (drop (length front) text) (sym (take-append-drop (length front) text) ∙ ap (λ xs. xs ++ drop (length front) text) (sym ((bytes_eq-Decides front (take (length front) text)).0 begins))))
stays false front text begins lacks = refl

pub without_lacking : (front text : List ℕ) → ((rest : List ℕ) → text ≡ front ++ rest → ⊥) → without front text ≡ text
without_lacking front text lacks = stays (starts_with nat_eq text front) front text refl lacks
