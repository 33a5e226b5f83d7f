-- The receiver's calls in sequence, and what they find.
use Rattle.std.proofs.Common.{◌≡◌, ◌⊎◌, ◌≤◌, ℕ, true, false, List, [], ◌∷◌, Option, Some, None, map, length, refl, sym, ap, subst, ◌∙◌, inl, inr}
use Rattle.std.specs.BTreeMap.{get_by, is_at}
use Rattle.std.specs.String.{string_cmp}
use Rattle.bag_ledger.specs.declared.keeper_faults.PutFault.TheVariants as put
use Rattle.bag_ledger.specs.Keeping.{HasPut, MayPut}
use Rattle.bag_ledger.proofs.EntryLemmas.{lookup_shown}
use Rattle.bag_ledger.proofs.StoredLemmas.{by_name}
use Rattle.bag_receiver.proofs.ReceivingLemmas.{receives}
use Rattle.bag_receiver.proofs.PlaceLemmas.{adds, awaits, content_read, known_refused, read_brought, read_judged, read_refused}
use Rattle.bag_receiver.proofs.Words.{Adds, Answer, ArePlansIn, Brought, BTreeMap, bytes_eq, Content, deliver_fault, DeliverFault, Delivery, delivery_of, DeliveryStep, Does, entry_here, entry_others, Files, Given, given_by, Global, holding, insert_entry, insert_shown, is_eq-slice_cmp, is_some, IsInState, IsPath, IsPlaceIn, IsPlanned, IsPlanOf, item_here, item_others, Judges, Keeper, known, LARGEST_ITEM, Ledger, LedgerState, lookup, nat_cmp, option_map, Plan, plans_in, PutFault, Reads, Receiver, Receives, Refused, RefusesAny, RefusesGiven, Same, settled, slice_cmp, Slot, String, string_bytes, tags_of, Taken, Transfer, transfer_of, Whole, with_doubtful_ledger, with_item}
use Rattle.bag_rules.proofs.ValidityLemmas.{decided_octets}

abbrev pub Plans : Type 0
Plans = BTreeMap (String Global) Plan

-- PLANS

same_option : {X : Type 0} (o : Option X) → option_map (λ (x : X). x) o ≡ o
same_option None = refl
same_option (Some x) = refl

pub plan_at : (name : List ℕ) (plans : Plans) → lookup (bytes_eq name) (plans_in plans) ≡ get_by (by_name name) plans
plan_at name plans =
    lookup_shown string_bytes (λ (plan : Plan). plan) (is_at (by_name name)) name (λ k. is_eq-slice_cmp name (string_bytes k)) plans.entries
    ∙ same_option (get_by (by_name name) plans)

-- a plan that is there is found
pub found_there : (name : List ℕ) (ledger : Ledger) (plans : Plans) → IsPlanned name ledger (plans_in plans) true → get_by (by_name name) plans ≡ None → ⊥
found_there name ledger plans planned none =
    let plan = planned.1 in
    let both : Some plan.0 ≡ None = sym plan.1 ∙ plan_at name plans ∙ none in
    cc both

pub plan_added : (old new : Plans) (key : String Global) (plan : Plan) (name : List ℕ) → new.entries ≡ insert_entry string_cmp old.entries key plan
    → string_bytes key ≡ name → plans_in new ≡ insert_entry (slice_cmp nat_cmp) (plans_in old) name plan
plan_added old new key plan name entries named =
    ap (map (λ (entry : String Global × Plan). (string_bytes entry.0, entry.1))) entries
    ∙ insert_shown string_bytes (λ (plan : Plan). plan) string_cmp (λ k q. refl) old.entries key plan
    ∙ ap (λ n. insert_entry (slice_cmp nat_cmp) (plans_in old) n plan) named

same_plan : (plans : List (List ℕ × Plan)) (name other : List ℕ) (plan found : Plan) → other ≡ name
    → lookup (bytes_eq other) (insert_entry (slice_cmp nat_cmp) plans name plan) ≡ Some found → plan ≡ found
same_plan plans name other plan found e at =
    let same : Some plan ≡ Some found = sym (entry_here name plan plans) ∙ ap (λ n. lookup (bytes_eq n) (insert_entry (slice_cmp nat_cmp) plans name plan)) (sym e) ∙ at in
    cc

pub plans_grow : (ledger : Ledger) (plans : List (List ℕ × Plan)) (name : List ℕ) (plan : Plan) (tags : Files) → ArePlansIn ledger plans
    → tags_of ledger name ≡ Some tags → IsPlanOf tags plan → ArePlansIn ledger (insert_entry (slice_cmp nat_cmp) plans name plan)
plans_grow ledger plans name plan tags are there is other found at = elim (decided_octets other name) [
  | inl e ↦ (tags, ap (tags_of ledger) e ∙ there, subst (IsPlanOf tags) (same_plan plans name other plan found e at) is)
  | inr apart ↦ are other found (sym (entry_others name plan other apart plans) ∙ at)
]

some_of : {X : Type 0} (o : Option X) → is_some o ≡ true → (x : X) × (o ≡ Some x)
some_of None e = absurd (let h : false ≡ true = e in cc)
some_of (Some x) e = (x, refl)

-- another payload file changes no tag file
tags_by : (path content : List ℕ) (t : Option Transfer) → option_map (λ (transfer : Transfer). transfer.tags) (option_map (λ (t : Transfer). holding t path content) t) ≡ option_map (λ (transfer : Transfer). transfer.tags) t
tags_by path content None = refl
tags_by path content (Some t) = refl

tags_stay : (ledger : Ledger) (name path content other : List ℕ) → tags_of (with_item ledger name path content) other ≡ tags_of ledger other
tags_stay ledger name path content other = elim (decided_octets other name) [
  | inl e ↦ subst (λ n. tags_of (with_item ledger name path content) n ≡ tags_of ledger n) (sym e)
      (ap (option_map (λ (transfer : Transfer). transfer.tags)) (item_here name path content ledger) ∙ tags_by path content (transfer_of ledger name))
  | inr apart ↦ ap (option_map (λ (transfer : Transfer). transfer.tags)) (item_others name path content other apart ledger)
]

pub plans_stay : (ledger : Ledger) (name path content : List ℕ) (plans : List (List ℕ × Plan)) → ArePlansIn ledger plans → ArePlansIn (with_item ledger name path content) plans
plans_stay ledger name path content plans are other plan at = (let k = are other plan at in (k.0, tags_stay ledger name path content other ∙ k.1, k.2))

-- CALLS

module _ {K : Type 0} (holds may_leave : K → Ledger → Type 0) (clean : K → Type 0) where
  abbrev Did : Receiver K → Receiver K → (LedgerState → LedgerState → Type 0) → Type 0
  Did old new step = Does holds may_leave clean old new step

  abbrev InState : Receiver K → LedgerState → Type 0
  InState receiver now = IsInState holds may_leave receiver now

  abbrev pub over : K → Plans → Receiver K
  over keeper plans = record { keeper = keeper; plans = plans }

  pub does_nothing : (receiver : Receiver K) → Did receiver receiver Same
  does_nothing receiver = record { was_clean = λ c. c; leads = λ c now in_state. (now, in_state, refl) }

  pub does_after : (old middle new : Receiver K) (step : LedgerState → LedgerState → Type 0) → Did old middle Same → Did middle new step → Did old new step
  does_after old middle new step h k = record {
    was_clean = λ c. h.was_clean (k.was_clean c);
    leads = λ c before in_state. (let m = h.leads (k.was_clean c) before in_state in k.leads c before (subst (InState middle) m.2 m.1));
  }

  -- what was true before a call that changes nothing is true after it
  pub still : (old new : Receiver K) (now : LedgerState) → Did old new Same → clean new.keeper → InState old now → InState new now
  still old new now h c in_state = (let m = h.leads c now in_state in subst (InState new) m.2 m.1)

  pub does_read : (old new : K) (plans : Plans) → Reads holds may_leave clean old new → Did (over old plans) (over new plans) Same
  does_read old new plans reads = record {
    was_clean = reads.was_clean;
    leads = λ c now in_state. (
      now,
      record {
        kept = record { held = reads.held c now.held in_state.kept.held; left = λ crashed left. in_state.kept.left crashed (reads.left c crashed left) };
        plans = in_state.plans;
      },
      refl,
    );
  }

  -- the same with another plan
  pub does_plan : (old new : K) (plans more : Plans) (name : List ℕ) (tags : Files) (plan : Plan) → Reads holds may_leave clean old new
      → plans_in more ≡ insert_entry (slice_cmp nat_cmp) (plans_in plans) name plan → IsPlanOf tags plan
      → (clean new → (ledger : Ledger) → holds old ledger → tags_of ledger name ≡ Some tags) → Did (over old plans) (over new more) Same
  does_plan old new plans more name tags plan reads kept is there = record {
    was_clean = reads.was_clean;
    leads = λ c now in_state. (
      now,
      record {
        kept = (still (over old plans) (over new plans) now (does_read old new plans reads) c in_state).kept;
        plans = subst (ArePlansIn now.held) (sym kept) (plans_grow now.held (plans_in plans) name plan tags in_state.plans (there c now.held in_state.kept.held) is);
      },
      refl,
    );
  }

  -- if there was a plan before, it is the transfer's
  pub plan_found : (name : List ℕ) (plans : Plans) → is_some (get_by (by_name name) plans) ≡ true → (plan : Plan) × (lookup (bytes_eq name) (plans_in plans) ≡ Some plan)
  plan_found name plans found = some_of (lookup (bytes_eq name) (plans_in plans)) (ap is_some (plan_at name plans) ∙ found)

  -- one delivery
  pub does_receive : (old new : Receiver K) (name : List ℕ) (delivery : Delivery) → Did old new (DeliveryStep name delivery) → Did old new (Receives name (delivery ∷ []))
  does_receive old new name delivery h = record {
    was_clean = h.was_clean;
    leads = λ c now in_state. (let k = h.leads c now in_state in (k.0, k.1, receives name (delivery ∷ []) now k.0 (k.0, k.2, refl)));
  }

  -- CALLS THAT CHANGE NOTHING AND FIND A FACT

  abbrev pub Found : Receiver K → Receiver K → (LedgerState → Type 0) → Type 0
  Found old new fact = Did old new Same × (clean new.keeper → (now : LedgerState) → InState old now → fact now)

  pub found_then : (old middle new : Receiver K) (fact other : LedgerState → Type 0) → Found old middle fact → Did middle new Same
      → (clean new.keeper → (now : LedgerState) → InState middle now → fact now → other now) → Found old new other
  found_then old middle new fact other (looks, finds) more then = (
    does_after old middle new Same looks more,
    λ c now in_state. then c now (still old middle now looks (more.was_clean c) in_state) (finds (more.was_clean c) now in_state),
  )

  -- if nothing changes, what was found is the step
  pub found_step : (old new : Receiver K) (step : LedgerState → LedgerState → Type 0) → Found old new (λ now. step now now) → Did old new step
  found_step old new step (looks, finds) = record {
    was_clean = looks.was_clean;
    leads = λ c now in_state. (now, still old new now looks c in_state, finds c now in_state);
  }

  -- a call that relies on what was found
  pub does_then : (old middle new : Receiver K) (fact : LedgerState → Type 0) (step : LedgerState → LedgerState → Type 0) → Found old middle fact
      → (clean new.keeper → clean middle.keeper) → (clean new.keeper → (now : LedgerState) → InState middle now → fact now → (after : LedgerState) × InState new after × step now after) → Did old new step
  does_then old middle new fact step (looks, finds) was_clean then = record {
    was_clean = λ c. looks.was_clean (was_clean c);
    leads = λ c now in_state. then c now (still old middle now looks (was_clean c) in_state) (finds (was_clean c) now in_state);
  }

  -- a refusal that doesn't depend on the content
  pub refused_step : (old new : Receiver K) (name text : List ℕ) (content : Content) (fault : DeliverFault) → Found old new (λ now. RefusesAny name text now fault)
      → Did old new (DeliveryStep name (delivery_of text content (Refused fault)))
  refused_step old new name text content fault (looks, finds) =
      found_step old new (DeliveryStep name (delivery_of text content (Refused fault))) (looks, λ c now in_state. finds c now in_state content)

  -- PUTTING a file at a path that isn't held

  module _ (old new : K) (plans : Plans) (given : Given) (name text : List ℕ) (place : Slot) (free : place.is_held ≡ false) where
    abbrev After : (LedgerState → LedgerState → Type 0) → LedgerState → Type 0
    After step now = (after : LedgerState) × InState (over new plans) after × step now after

    abbrev puts_to : LedgerState → List ℕ → Ledger
    puts_to now content = with_item now.held name text content

    abbrev PutTo : LedgerState → List ℕ → K → Type 0
    PutTo now content keeper = holds keeper (puts_to now content)

    -- the path of the want is the given text
    with_path : (now : LedgerState) (content path : List ℕ) → path ≡ text → with_item now.held name path content ≡ puts_to now content
    with_path now content path e = ap (λ p. with_item now.held name p content) e

    pub was_put : (content : List ℕ) → HasPut holds may_leave clean old new given name place.want content → clean new → (now : LedgerState) → InState (over old plans) now
        → IsPlaceIn now.held name text place → InState (over new plans) (settled (puts_to now content))
    was_put content h c now in_state at = record {
      kept = record {
        held = subst (holds new) (with_path now content place.want.path.now at.wanted.path_is) (h.writes.held c now.held in_state.kept.held (awaits now name text place at free));
        left = λ crashed left. inl (h.writes.left c now.held crashed in_state.kept.held (awaits now name text place at free) left ∙ with_path now content place.want.path.now at.wanted.path_is);
      };
      plans = plans_stay now.held name text content (plans_in plans) in_state.plans;
    }

    pub may_be_put : (content : List ℕ) (fault : PutFault) → MayPut holds may_leave clean old new given name place.want fault content → clean new → (now : LedgerState) → InState (over old plans) now
        → IsPlaceIn now.held name text place → InState (over new plans) (with_doubtful_ledger now (puts_to now content))
    may_be_put content fault h c now in_state at = record {
      kept = record {
        held = h.leaves.held c now.held in_state.kept.held (awaits now name text place at free);
        left = λ crashed left. elim (h.leaves.left c now.held crashed in_state.kept.held (awaits now name text place at free) left) [
          | inl before ↦ elim (in_state.kept.left crashed before) [ inl same ↦ inl same | inr doubtful ↦ inr (inr doubtful) ]
          | inr written ↦ inr (inl (sym (written ∙ with_path now content place.want.path.now at.wanted.path_is)))
        ];
      };
      plans = in_state.plans;
    }

  -- a content in memory is put or refused
  module _ (old new : K) (plans : Plans) (name text octets : List ℕ) (place : Slot) (free : place.is_held ≡ false) where
    abbrev AnswersTo : Answer → LedgerState → Type 0
    AnswersTo answer now = (after : LedgerState) × InState (over new plans) after × DeliveryStep name (delivery_of text (Whole octets) answer) now after

    pub known_taken : (content : List ℕ) → HasPut holds may_leave clean old new (known octets) name place.want content → clean new → (now : LedgerState) → InState (over old plans) now
        → IsPlaceIn now.held name text place → AnswersTo Taken now
    known_taken content h c now in_state at =
        let within : length content ≤ LARGEST_ITEM = subst (λ (o : List ℕ). length o ≤ LARGEST_ITEM) (sym h.is_given.0.0) h.is_given.0.1 in (
          settled (with_item now.held name text content),
          was_put old new plans (known octets) name text place free content h c now in_state at,
          (subst (λ o. Adds name now.held (delivery_of text (Whole o) Taken) (with_item now.held name text content)) h.is_given.0.0 (adds now name text place at content Taken within h.is_given.1 free), refl),
        )

    pub known_refused_by : (fault : PutFault) → RefusesGiven (known octets) place.want fault
        → Reads holds may_leave clean old new ⊎ ((content : List ℕ) × MayPut holds may_leave clean old new (known octets) name place.want fault content)
        → clean new → (now : LedgerState) → InState (over old plans) now → IsPlaceIn now.held name text place → AnswersTo (Refused (deliver_fault fault)) now
    known_refused_by fault refused (inl reads) c now in_state at =
        (now, still (over old plans) (over new plans) now (does_read old new plans reads) c in_state, known_refused now name text place at octets fault refused)
    known_refused_by (put.Keep fault) refused (inr (content, h)) c now in_state at =
        let within : length content ≤ LARGEST_ITEM = subst (λ (o : List ℕ). length o ≤ LARGEST_ITEM) (sym h.is_given.0.0) h.is_given.0.1 in (
          with_doubtful_ledger now (with_item now.held name text content),
          may_be_put old new plans (known octets) name text place free content (put.Keep fault) h c now in_state at,
          inr (
            with_item now.held name text content,
            subst (λ o. Adds name now.held (delivery_of text (Whole o) (Refused (Keeper fault))) (with_item now.held name text content)) h.is_given.0.0
                (adds now name text place at content (Refused (Keeper fault)) within h.is_given.1 free),
            refl,
          ),
        )
    known_refused_by put.Reader refused (inr (content, h)) c now in_state at = absurd h.keep
    known_refused_by put.TooLarge refused (inr (content, h)) c now in_state at = absurd h.keep
    known_refused_by put.Length refused (inr (content, h)) c now in_state at = absurd h.keep
    known_refused_by (put.Digest alg) refused (inr (content, h)) c now in_state at = absurd h.keep

  -- a content from a reader is put or refused
  module _ (old new : K) (plans : Plans) (before after : Option (List ℕ)) (name text : List ℕ) (place : Slot) (free : place.is_held ≡ false) where
    abbrev AnswersRead : Content → Answer → LedgerState → Type 0
    AnswersRead content answer now = (after : LedgerState) × InState (over new plans) after × DeliveryStep name (delivery_of text content answer) now after

    pub read_taken : (content : List ℕ) → HasPut holds may_leave clean old new (given_by before after) name place.want content → clean new → (now : LedgerState) → InState (over old plans) now
        → IsPlaceIn now.held name text place → AnswersRead (Whole content) Taken now
    read_taken content h c now in_state at = (
      settled (with_item now.held name text content),
      was_put old new plans (given_by before after) name text place free content h c now in_state at,
      (adds now name text place at content Taken h.is_given.0.within h.is_given.1 free, refl),
    )

    abbrev pub PutOrRead : PutFault → Type 0
    PutOrRead fault = Reads holds may_leave clean old new ⊎ ((content : List ℕ) × MayPut holds may_leave clean old new (given_by before after) name place.want fault content)

    abbrev pub content_put : (fault : PutFault) → RefusesGiven (given_by before after) place.want fault → PutOrRead fault → Content
    content_put fault refused (inl reads) = content_read place.want before after fault refused
    content_put fault refused (inr h) = Whole h.0

    pub put_brought : (fault : PutFault) (refused : RefusesGiven (given_by before after) place.want fault) (how : PutOrRead fault) → Brought before after (content_put fault refused how)
    put_brought fault refused (inl reads) = read_brought place.want before after fault refused
    put_brought fault refused (inr h) = h.1.is_given.0

    pub put_judged : (fault : PutFault) (refused : RefusesGiven (given_by before after) place.want fault) (how : PutOrRead fault) → IsPath text
        → Judges (Refused (deliver_fault fault)) text (content_put fault refused how)
    put_judged fault refused (inl reads) is = read_judged place.want before after text fault refused is
    put_judged (put.Keep fault) refused (inr h) is = tt
    put_judged put.Reader refused (inr h) is = absurd h.1.keep
    put_judged put.TooLarge refused (inr h) is = absurd h.1.keep
    put_judged put.Length refused (inr h) is = absurd h.1.keep
    put_judged (put.Digest alg) refused (inr h) is = absurd h.1.keep

    pub read_refused_by : (fault : PutFault) (refused : RefusesGiven (given_by before after) place.want fault) (how : PutOrRead fault)
        → clean new → (now : LedgerState) → InState (over old plans) now → IsPlaceIn now.held name text place → AnswersRead (content_put fault refused how) (Refused (deliver_fault fault)) now
    read_refused_by fault refused (inl reads) c now in_state at =
        (now, still (over old plans) (over new plans) now (does_read old new plans reads) c in_state, read_refused now name text place at before after fault refused)
    read_refused_by (put.Keep fault) refused (inr (content, h)) c now in_state at = (
      with_doubtful_ledger now (with_item now.held name text content),
      may_be_put old new plans (given_by before after) name text place free content (put.Keep fault) h c now in_state at,
      inr (with_item now.held name text content, adds now name text place at content (Refused (Keeper fault)) h.is_given.0.within h.is_given.1 free, refl),
    )
    read_refused_by put.Reader refused (inr (content, h)) c now in_state at = absurd h.keep
    read_refused_by put.TooLarge refused (inr (content, h)) c now in_state at = absurd h.keep
    read_refused_by put.Length refused (inr (content, h)) c now in_state at = absurd h.keep
    read_refused_by (put.Digest alg) refused (inr (content, h)) c now in_state at = absurd h.keep
