-- What is due at a listed path, by what its transfer wants there.
use Rattle.std.proofs.Common.{◌≡◌, ◌≢◌, ◌≤◌, ℕ, Bool, true, false, List, [], ◌∷◌, Option, Some, None, Contains, cond, length, refl, sym, ap, subst, ◌∙◌, inl, inr, arith}
use Rattle.bag_rules.specs.declared.want.Want.{Want}
use Rattle.bag_rules.specs.Wants.{IsFirstMisfitOf}
use Rattle.bag_rules.proofs.PassingLemmas.{misfit_so, wanted_passes}
use Rattle.bag_ledger.specs.declared.keeper_faults.PutFault.TheVariants as put
use Rattle.bag_ledger.specs.Keeping.{Awaits}
use Rattle.bag_ledger.specs.Ledgers.{content_of}
use Rattle.bag_receiver.specs.ReceiversInside.{IsNoPlan, RefusesText}
use Rattle.bag_receiver.proofs.ReceivingLemmas.{named_there}
use Rattle.bag_receiver.proofs.Words.{Adds, Answer, ArePlansIn, BadPath, Brought, bytes_eq, bytes_eq-Decides, contains_from_has, Content, deliver_fault, DeliverFault, delivery_of, DeliveryStep, Digest, Files, given_by, Has, has_from_contains, is_some, IsDueThere, IsExpected, IsMisfitIn, IsNamed, IsPath, IsPlaceIn, IsPlanOf, IsTooLong, IsTransferName, IsWanted, IsWantOf, Judges, Keeper, keys_of, known, LARGEST_ITEM, Ledger, LedgerState, Length, lookup, NotListed, NoTransfer, option_map, OtherDigest, OtherLength, PassesIn, Plan, PutFault, Reader, Refused, RefusesAny, RefusesGiven, Repeated, Slot, Taken, TooLarge, TooLong, Transfer, transfer_of, Unread, unwrap_or, WantFault, Whole, with_item}

-- A LOOK-UP AMONG FILES

module _ (path : List ℕ) where
  abbrev Finds : Bool → List ℕ × List ℕ → Files → Bool
  Finds b file files = is_some (cond b (Some file.1) (lookup (bytes_eq path) files))

  there_by : (b : Bool) (file : List ℕ × List ℕ) (files : Files) → bytes_eq path file.0 ≡ b → (is_some (lookup (bytes_eq path) files) ≡ true → Has (keys_of files) path)
      → Finds b file files ≡ true → Has (keys_of (file ∷ files)) path
  there_by true file files is rest e = inl (sym ((bytes_eq-Decides path file.0).0 is))
  there_by false file files is rest e = inr (rest e)

  has_found : (files : Files) → is_some (lookup (bytes_eq path) files) ≡ true → Has (keys_of files) path
  has_found [] e = absurd (let h : false ≡ true = e in cc)
  has_found (file ∷ files) e = there_by (bytes_eq path file.0) file files refl (has_found files) e

  found_by : (b : Bool) (file : List ℕ × List ℕ) (files : Files) → bytes_eq path file.0 ≡ b → (Has (keys_of files) path → is_some (lookup (bytes_eq path) files) ≡ true)
      → Has (keys_of (file ∷ files)) path → Finds b file files ≡ true
  found_by true file files is rest has = refl
  found_by false file files is rest (inl e) = absurd (let h : true ≡ false = sym ((bytes_eq-Decides path file.0).1 (sym e)) ∙ is in cc)
  found_by false file files is rest (inr has) = rest has

  found_has : (files : Files) → Has (keys_of files) path → is_some (lookup (bytes_eq path) files) ≡ true
  found_has [] has = absurd has
  found_has (file ∷ files) has = found_by (bytes_eq path file.0) file files refl (found_has files) has

  looked_up : (files : Files) → is_some (lookup (bytes_eq path) files) ≡ true → Contains (keys_of files) path
  looked_up files e = contains_from_has (keys_of files) path (has_found files e)

  not_looked_up : (files : Files) → is_some (lookup (bytes_eq path) files) ≡ false → ¬ Contains (keys_of files) path
  not_looked_up files e contains = absurd (let h : true ≡ false = sym (found_has files (has_from_contains (keys_of files) path contains)) ∙ e in cc)

none_of : (o : Option (List ℕ)) → is_some o ≡ false → o ≡ None
none_of None e = refl
none_of (Some x) e = absurd (let h : true ≡ false = e in cc)

-- THE TRANSFER OF A PLAN

some_transfer : (name : List ℕ) (ledger : Ledger) (tags : Files) (found : Option Transfer) → transfer_of ledger name ≡ found
    → option_map (λ (transfer : Transfer). transfer.tags) found ≡ Some tags → (transfer : Transfer) × (transfer_of ledger name ≡ Some transfer) × (transfer.tags ≡ tags)
some_transfer name ledger tags None is e = absurd (let h : None ≡ Some tags = e in cc)
some_transfer name ledger tags (Some transfer) is e = (transfer, is, (let h : Some transfer.tags ≡ Some tags = e in cc))

-- the plan kept for a name is that of the transfer with this name
pub of_plan : (ledger : Ledger) (name : List ℕ) (plans : List (List ℕ × Plan)) (plan : Plan) → ArePlansIn ledger plans → IsTransferName name → lookup (bytes_eq name) plans ≡ Some plan
    → (transfer : Transfer) × IsNamed ledger name (Some transfer) × IsPlanOf transfer.tags plan
of_plan ledger name plans plan are is at =
    let (tags, there, planned) = are name plan at in
    let found = some_transfer name ledger tags (transfer_of ledger name) refl there in
    (found.0, record { named = λ h. sym found.1; unnamed = λ other. absurd (other is) }, subst (λ t. IsPlanOf t plan) (sym found.2) planned)

-- what a look-up of its length says about a content
sized : (o : Option (List ℕ)) → is_some (option_map (λ (c : List ℕ). length c) o) ≡ is_some o
sized None = refl
sized (Some c) = refl

pub held_by : (ledger : Ledger) (name path text : List ℕ) (size : Option ℕ) (held : Bool) → path ≡ text → size ≡ option_map (λ (c : List ℕ). length c) (content_of ledger name path) → held ≡ is_some size
    → is_some (content_of ledger name text) ≡ held
held_by ledger name path text size held same is found =
    ap (λ p. is_some (content_of ledger name p)) (sym same) ∙ sym (sized (content_of ledger name path)) ∙ ap is_some (sym is) ∙ sym found

pub place_found : (ledger : Ledger) (name text : List ℕ) (transfer : Transfer) (want : Want) (held : Bool) → IsNamed ledger name (Some transfer) → IsPath text → IsWantOf transfer.tags text want
    → is_some (content_of ledger name text) ≡ held → IsPlaceIn ledger name text (record { want = want; is_held = held })
place_found ledger name text transfer want held named is wanted found = record { transfer = transfer; named = named; listed = (is, wanted.expected); wanted = wanted; held = found }

-- WHAT A READER GAVE that is refused

module _ (want : Want) (old new : Option (List ℕ)) where
  abbrev pub content_read : (fault : PutFault) → RefusesGiven (given_by old new) want fault → Content
  content_read put.Reader gave = Unread
  content_read put.TooLarge gave = TooLong
  content_read put.Length gave = Whole gave.0
  content_read (put.Digest alg) gave = Whole gave.0
  content_read (put.Keep fault) gave = Unread

  pub read_brought : (fault : PutFault) (gave : RefusesGiven (given_by old new) want fault) → Brought old new (content_read fault gave)
  read_brought put.Reader gave = gave
  read_brought put.TooLarge gave = gave
  read_brought put.Length gave = gave.1
  read_brought (put.Digest alg) gave = gave.1
  read_brought (put.Keep fault) gave = gave

  pub read_judged : (text : List ℕ) (fault : PutFault) (gave : RefusesGiven (given_by old new) want fault) → IsPath text → Judges (Refused (deliver_fault fault)) text (content_read fault gave)
  read_judged text put.Reader gave is = (is, refl)
  read_judged text put.TooLarge gave is = (is, tt)
  read_judged text put.Length gave is = (is, gave.1.within)
  read_judged text (put.Digest alg) gave is = (is, gave.1.within)
  read_judged text (put.Keep fault) gave is = tt

-- nothing was read
pub nothing_brought : (octets : Option (List ℕ)) → Brought octets octets Unread
nothing_brought None = ([], tt, omega arith)
nothing_brought (Some octets) = ([], refl, omega arith)

pub known_judged : (want : Want) (text octets : List ℕ) (fault : PutFault) → IsPath text → RefusesGiven (known octets) want fault → Judges (Refused (deliver_fault fault)) text (Whole octets)
known_judged want text octets put.Reader is gave = absurd gave
known_judged want text octets put.TooLarge is gave = (is, gave)
known_judged want text octets put.Length is gave = (is, gave.1.1)
known_judged want text octets (put.Digest alg) is gave = (is, gave.1.1)
known_judged want text octets (put.Keep fault) is gave = tt

-- AT A LISTED PATH

module _ (now : LedgerState) (name text : List ℕ) (place : Slot) (at : IsPlaceIn now.held name text place) where
  abbrev tags : Files
  tags = at.transfer.tags

  there : transfer_of now.held name ≡ Some at.transfer
  there = named_there now.held name at.transfer at.named

  held_in : is_some (lookup (bytes_eq text) at.transfer.items) ≡ place.is_held
  held_in = sym (ap (λ (t : Option Transfer). is_some (lookup (bytes_eq text) (unwrap_or (option_map (λ (transfer : Transfer). transfer.items) t) []))) there) ∙ at.held

  passes : (content : List ℕ) → length content ≤ LARGEST_ITEM → IsWanted place.want content → PassesIn tags text (Whole content)
  passes content within wanted = wanted_passes tags text content place.want at.wanted within wanted

  -- what is due to a valid content
  pub repeated : (content : List ℕ) → length content ≤ LARGEST_ITEM → IsWanted place.want content → place.is_held ≡ true
      → DeliveryStep name (delivery_of text (Whole content) Repeated) now now
  repeated content within wanted held = ((Some at.transfer, at.named, (at.listed, passes content within wanted, looked_up text at.transfer.items (held_in ∙ held))), refl)

  due_taken : (content : List ℕ) (answer : Answer) → length content ≤ LARGEST_ITEM → IsWanted place.want content → place.is_held ≡ false
      → IsDueThere name now.held (delivery_of text (Whole content) answer) Taken
  due_taken content answer within wanted held = (Some at.transfer, at.named, (at.listed, passes content within wanted, not_looked_up text at.transfer.items (held_in ∙ held)))

  pub adds : (content : List ℕ) (answer : Answer) → length content ≤ LARGEST_ITEM → IsWanted place.want content → place.is_held ≡ false
      → Adds name now.held (delivery_of text (Whole content) answer) (with_item now.held name text content)
  adds content answer within wanted held = (content, refl, due_taken content answer within wanted held, refl)

  pub awaits : place.is_held ≡ false → Awaits name place.want now.held
  awaits held = record {
    transfer = at.transfer;
    there = there;
    wanted = subst (λ p. IsWantOf tags p place.want) (sym at.wanted.path_is) at.wanted;
    not_held = none_of (content_of now.held name place.want.path.now) (ap (λ p. is_some (content_of now.held name p)) at.wanted.path_is ∙ at.held ∙ held);
  }

  -- what is due to another content
  too_large : (content : Content) → IsTooLong content → DeliveryStep name (delivery_of text content (Refused TooLarge)) now now
  too_large content long = ((Some at.transfer, at.named, (at.listed, long)), refl)

  misfit : (content : List ℕ) (fault : WantFault) → length content ≤ LARGEST_ITEM → IsFirstMisfitOf place.want content fault → IsMisfitIn tags text (Whole content) fault
  misfit content fault within first = (within, misfit_so tags text content place.want at.wanted fault first)

  other_length : (content : List ℕ) → length content ≤ LARGEST_ITEM → IsFirstMisfitOf place.want content OtherLength
      → DeliveryStep name (delivery_of text (Whole content) (Refused Length)) now now
  other_length content within first = ((Some at.transfer, at.named, (at.listed, misfit content OtherLength within first)), refl)

  -- what is due to a content from a reader
  pub read_refused : (old new : Option (List ℕ)) (fault : PutFault) (gave : RefusesGiven (given_by old new) place.want fault)
      → DeliveryStep name (delivery_of text (content_read place.want old new fault gave) (Refused (deliver_fault fault))) now now
  read_refused old new put.Reader gave = ((refl, (at.transfer, at.named, at.listed)), refl)
  read_refused old new put.TooLarge gave = too_large TooLong tt
  read_refused old new put.Length (content, gave, first) = other_length content gave.within first
  read_refused old new (put.Digest alg) (content, gave, first) =
      ((Some at.transfer, at.named, (at.listed, misfit content (OtherDigest alg) gave.within first)), refl)
  read_refused old new (put.Keep fault) gave = inl refl

  -- a content in memory is refused
  pub known_refused : (octets : List ℕ) (fault : PutFault) → RefusesGiven (known octets) place.want fault
      → DeliveryStep name (delivery_of text (Whole octets) (Refused (deliver_fault fault))) now now
  known_refused octets put.Reader h = absurd h
  known_refused octets put.TooLarge h = too_large (Whole octets) h
  known_refused octets put.Length (content, (is, within), first) =
      other_length octets within (subst (λ c. IsFirstMisfitOf place.want c OtherLength) is first)
  known_refused octets (put.Digest alg) (content, (is, within), first) =
      ((Some at.transfer, at.named, (at.listed, misfit octets (OtherDigest alg) within (subst (λ c. IsFirstMisfitOf place.want c (OtherDigest alg)) is first))), refl)
  known_refused octets (put.Keep fault) h = inl refl

-- NO LISTED PATH

pub text_refused : (now : LedgerState) (name text : List ℕ) (transfer : Transfer) (fault : DeliverFault) → IsNamed now.held name (Some transfer) → RefusesText text fault → RefusesAny name text now fault
text_refused now name text transfer (BadPath fault) named none content = ((Some transfer, named, none), refl)
text_refused now name text transfer (Keeper fault) named none content = inl refl
text_refused now name text transfer NoTransfer named none content = absurd none
text_refused now name text transfer NotListed named none content = absurd none
text_refused now name text transfer Reader named none content = absurd none
text_refused now name text transfer TooLarge named none content = absurd none
text_refused now name text transfer Length named none content = absurd none
text_refused now name text transfer (Digest alg) named none content = absurd none

pub not_listed : (now : LedgerState) (name text : List ℕ) (transfer : Transfer) → IsNamed now.held name (Some transfer) → IsPath text → ¬ IsExpected transfer.tags text → RefusesAny name text now NotListed
not_listed now name text transfer named is other content = ((Some transfer, named, (is, other)), refl)

pub no_plan_judged : (text : List ℕ) (content : Content) (fault : DeliverFault) → IsNoPlan fault → Judges (Refused fault) text content
no_plan_judged text content NoTransfer is = tt
no_plan_judged text content (Keeper fault) is = tt
no_plan_judged text content (BadPath fault) is = absurd is
no_plan_judged text content NotListed is = absurd is
no_plan_judged text content Reader is = absurd is
no_plan_judged text content TooLarge is = absurd is
no_plan_judged text content Length is = absurd is
no_plan_judged text content (Digest alg) is = absurd is

pub not_reader : (text : List ℕ) (fault : DeliverFault) → ((content : Content) → Judges (Refused fault) text content) → fault ≢ Reader
not_reader text fault judges e = (let h : TooLong ≡ Unread = (subst (λ f. Judges (Refused f) text TooLong) e (judges TooLong)).1 in cc)
