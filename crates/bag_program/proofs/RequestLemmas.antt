-- The operands among the arguments, one argument at a time.
use Rattle.std.proofs.Common.{◌≡◌, ◌≢◌, ◌∷◌, ◌++◌, ◌+◌, ◌<◌, ◌≤◌, ◌∙◌, [], ℕ, Bool, List, None, Option, Some, ap, append_assoc, arith, codes, drop, false, get_or, length, map, refl, remove, string_bytes, suc, sym, take, true, zero}
use Rattle.std.specs.Prelude.{if◌then◌else◌, option_map, slice_get}
use Rattle.std.specs.Str.{bytes_eq}
use Rattle.std.proofs.lemmas.Option.{slice_get-map, slice_get_read}
use Rattle.std.proofs.lemmas.List.{append-nil, drop_all, take_all}
use Rattle.bag_program.specs.declared.command_line.Request.{Request}
use Rattle.bag_program.specs.declared.command_line.Request.TheVariants.{Check, Ledger, Make}
use Rattle.bag_program.specs.declared.command_line.Work.{Work}
use Rattle.bag_program.specs.declared.command_line.Work.TheVariants.{Audit, Begin, Export, Fetch, Intake, List as Listing, Report}
use Rattle.bag_program.specs.CommandLines.{AsksFor, IsRequest, IsWholeWork, NamesCommand, is_option, operands_in, operands_of, request_name, work_name, work_operands}
use Rattle.bag_digest.proofs.ListLemmas.{rest_from, next_taken}

-- the first arguments are operands, and what follows decides about the rest
abbrev pub IsFront : List (List ℕ) → ℕ → Type 0
IsFront words i = operands_of words ≡ option_map (λ more. take i words ++ more) (operands_of (drop i words))

as_it_is : (operands : Option (List (List ℕ))) → operands ≡ option_map (λ more. [] ++ more) operands
as_it_is None = refl
as_it_is (Some more) = refl

pub front_begins : (words : List (List ℕ)) → IsFront words 0
front_begins words = as_it_is (operands_of words)

onward : (front after : List (List ℕ)) (word : List ℕ) (operands : Option (List (List ℕ))) → after ≡ front ++ word ∷ []
    → option_map (λ more. front ++ more) (option_map (λ more. word ∷ more) operands) ≡ option_map (λ more. after ++ more) operands
onward front after word None is = refl
onward front after word (Some more) is = ap Some (sym (ap (λ (xs : List (List ℕ)). xs ++ more) is ∙ append_assoc front (word ∷ []) more))

operands_at : (word : List ℕ) (rest : List (List ℕ)) (mark option : Bool) → bytes_eq word (codes "--") ≡ mark → is_option word ≡ option
    → operands_of (word ∷ rest) ≡ (if mark then Some rest else if option then None else option_map (λ more. word ∷ more) (operands_of rest))
operands_at word rest mark option is_mark is_option = rw (is_mark, is_option) refl

pub front_next : (words : List (List ℕ)) (i : ℕ) (word : List ℕ) → slice_get words i ≡ Some word → bytes_eq word (codes "--") ≡ false → is_option word ≡ false → IsFront words i → IsFront words (i + 1)
front_next words i word here no_mark no_option front =
    let rest = drop (i + 1) words in
    front ∙ ap (λ (ws : List (List ℕ)). option_map (λ more. take i words ++ more) (operands_of ws)) (rest_from words i word here)
    ∙ ap (option_map (λ more. take i words ++ more)) (operands_at word rest false false no_mark no_option)
    ∙ onward (take i words) (take (i + 1) words) word (operands_of rest) (next_taken words i word here)

pub front_marked : (words : List (List ℕ)) (i : ℕ) (word : List ℕ) → slice_get words i ≡ Some word → bytes_eq word (codes "--") ≡ true → IsFront words i → operands_of words ≡ Some (take i words ++ drop (i + 1) words)
front_marked words i word here mark front =
    let rest = drop (i + 1) words in
    front ∙ ap (λ (ws : List (List ℕ)). option_map (λ more. take i words ++ more) (operands_of ws)) (rest_from words i word here)
    ∙ ap (option_map (λ more. take i words ++ more)) (operands_at word rest true (is_option word) mark refl)

pub front_refused : (words : List (List ℕ)) (i : ℕ) (word : List ℕ) → slice_get words i ≡ Some word → bytes_eq word (codes "--") ≡ false → is_option word ≡ true → IsFront words i → operands_of words ≡ None
front_refused words i word here no_mark option front =
    let rest = drop (i + 1) words in
    front ∙ ap (λ (ws : List (List ℕ)). option_map (λ more. take i words ++ more) (operands_of ws)) (rest_from words i word here)
    ∙ ap (option_map (λ more. take i words ++ more)) (operands_at word rest false true no_mark option)

pub front_ends : (words : List (List ℕ)) (i : ℕ) → i ≡ length words → IsFront words i → operands_of words ≡ Some words
front_ends words i end front =
    let past : length words ≤ i = omega (arith, end) in
    front ∙ ap (λ (ws : List (List ℕ)). option_map (λ more. take i words ++ more) (operands_of ws)) (drop_all i words past)
    ∙ ap Some (append-nil (take i words) ∙ take_all i words past)

-- ARGUMENTS AS OCTETS

module _ {X : Type 0} (octets : X → List ℕ) where
  -- the octets of the argument at an index
  pub word_at : (all words : List X) (i n : ℕ) (word : X) (text : List ℕ) → words ≡ all → n ≡ length all → i < n → word ≡ get_or words i word → text ≡ octets word → slice_get (map octets all) i ≡ Some text
  word_at all words i n word text same long within here is =
      slice_get-map octets all i ∙ ap (option_map octets) (slice_get_read all n i word long within (here ∙ ap (λ (ws : List X). get_or ws i word) same)) ∙ ap Some (sym is)

  cut : (xs : List X) (n : ℕ) → map octets (take n xs ++ drop (n + 1) xs) ≡ take n (map octets xs) ++ drop (n + 1) (map octets xs)
  cut [] zero = refl
  cut [] (suc n) = let s : suc n + 1 ≡ suc (n + 1) = omega arith in rw s refl
  cut (x ∷ xs) zero = refl
  cut (x ∷ xs) (suc n) = let s : suc n + 1 ≡ suc (n + 1) = omega arith in rw s (ap (λ list. octets x ∷ list) (cut xs n))

  pub without_word : (all words : List X) (i : ℕ) → words ≡ take i all ++ drop (i + 1) all → map octets words ≡ take i (map octets all) ++ drop (i + 1) (map octets all)
  without_word all words i is = ap (map octets) is ∙ cut all i

-- the first of some arguments, and the others
pub first_taken : {X : Type 0} (xs rest : List X) (x : X) → 0 < length xs → x ≡ get_or xs 0 x → rest ≡ remove xs 0 → xs ≡ x ∷ rest
first_taken [] rest x some first others = absurd (omega arith)
first_taken (y ∷ ys) rest x some first others = let head : y ≡ x = sym first in let tail : ys ≡ rest = sym others in cc (head, tail)

-- the same of the octets that they have
pub first_named : {X : Type 0} (octets : X → List ℕ) (xs rest : List X) (x : X) → 0 < length xs → x ≡ get_or xs 0 x → rest ≡ remove xs 0 → map octets xs ≡ octets x ∷ map octets rest
first_named octets xs rest x some first others = ap (map octets) (first_taken xs rest x some first others)

pub none_named : {X : Type 0} (octets : X → List ℕ) (xs : List X) → map octets xs ≡ [] → length xs ≡ 0
none_named octets [] none = refl
none_named octets (x ∷ xs) none = absurd (cc)

-- the command's name and the arguments after it
module _ (words rest : List (List ℕ)) (command : List ℕ) (is : words ≡ command ∷ rest) where
  pub asked : (operands : List (List ℕ)) (request : Request) → operands_of rest ≡ Some operands → IsRequest command operands request → AsksFor words request
  asked operands request given it = (
    (rest, is ∙ ap (λ (name : List ℕ). name ∷ rest) it.0, given ∙ ap Some it.1),
    it.2,
  )

  -- these arguments have operands, but there is no such command
  pub not_asked : (operands : List (List ℕ)) → operands_of rest ≡ Some operands → ((request : Request) → IsRequest command operands request → ⊥) → ¬ NamesCommand words
  not_asked operands given none named =
      let at = named.1.0 in
      let both : command ∷ rest ≡ request_name named.0 ∷ at.0 = sym is ∙ at.1 in
      let name : command ≡ request_name named.0 = cc both in
      let others : rest ≡ at.0 = cc both in
      let same : Some operands ≡ Some (operands_in named.0) = sym given ∙ ap operands_of others ∙ at.2 in
      let operands_are : operands ≡ operands_in named.0 = cc same in
      none named.0 (name, operands_are, named.1.1)

  -- one of these arguments is an option
  pub no_operands : operands_of rest ≡ None → ¬ NamesCommand words
  no_operands given named =
      let at = named.1.0 in
      let both : command ∷ rest ≡ request_name named.0 ∷ at.0 = sym is ∙ at.1 in
      let others : rest ≡ at.0 = cc both in
      let same : None ≡ Some (operands_in named.0) = sym given ∙ ap operands_of others ∙ at.2 in
      cc same

-- no command has this name and this number of operands
pub record Unlike (command : List ℕ) (count : ℕ) : Type 0 where
  pub check : command ≡ codes "check" → count ≢ 1
  pub make : command ≡ codes "make" → count < 3
  pub begin : command ≡ codes "begin" → count ≢ 3
  pub intake : command ≡ codes "intake" → count < 3
  pub report : command ≡ codes "report" → count ≢ 2
  pub audit : command ≡ codes "audit" → count ≢ 2
  pub fetch : command ≡ codes "fetch" → count ≢ 3
  pub export : command ≡ codes "export" → count ≢ 3
  pub list : command ≡ codes "list" → count ≢ 1

-- after a first and a second operand, these are not enough
none_after : {X : Type 0} (octets : X → List ℕ) (xs : List X) (first second : List ℕ) (operands : List (List ℕ)) → operands ≡ first ∷ second ∷ map octets xs → length operands < 3 → xs ≡ []
none_after octets [] first second operands are short = refl
none_after octets (x ∷ xs) first second operands are short = absurd (omega (arith, short, ap length are))

module _ (command : List ℕ) (operands : List (List ℕ)) (unlike : Unlike command (length operands)) where
  no_work_like : (ledger : List ℕ) (work : Work) → command ≡ work_name work → operands ≡ ledger ∷ work_operands work → IsWholeWork work → ⊥
  no_work_like ledger (Begin name folder) is are whole = unlike.begin is (ap length are)
  no_work_like ledger (Intake name folders) is are whole = whole (none_after string_bytes folders.now ledger name.now operands are (unlike.intake is))
  no_work_like ledger (Report name) is are whole = unlike.report is (ap length are)
  no_work_like ledger (Audit name) is are whole = unlike.audit is (ap length are)
  no_work_like ledger (Fetch name folder) is are whole = unlike.fetch is (ap length are)
  no_work_like ledger (Export name folder) is are whole = unlike.export is (ap length are)
  no_work_like ledger Listing is are whole = unlike.list is (ap length are)

  pub none_like : (request : Request) → ¬ IsRequest command operands request
  none_like (Check folder) it = unlike.check it.0 (ap length it.1)
  none_like (Make source destination algorithms) it = it.2 (none_after string_bytes algorithms.now source.now destination.now operands it.1 (unlike.make it.0))
  none_like (Ledger ledger work) it = no_work_like ledger.now work it.0 it.1 it.2

no_work : (work : Work) → [] ≡ work_name work → ⊥
no_work (Begin name folder) is = cc
no_work (Intake name folders) is = cc
no_work (Report name) is = cc
no_work (Audit name) is = cc
no_work (Fetch name folder) is = cc
no_work (Export name folder) is = cc
no_work Listing is = cc

no_request : (request : Request) → [] ≡ request_name request → ⊥
no_request (Check folder) is = cc
no_request (Make source destination algorithms) is = cc
no_request (Ledger ledger work) is = no_work work is

-- an empty argument is no command
pub unnamed : (words : List (List ℕ)) → words ≡ [] ∷ [] → ¬ NamesCommand words
unnamed words is named =
    let first : [] ≡ request_name named.0 = let at = named.1.0.1 in cc (is, at) in
    no_request named.0 first
