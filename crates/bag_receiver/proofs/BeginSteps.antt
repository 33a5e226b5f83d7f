-- How `begin` changes what is held, and what happened to each transfer before it.
use Rattle.std.proofs.Common.{◌≡◌, ◌≢◌, ◌⊎◌, ℕ, List, [], Option, Some, None, Result, Ok, Err, refl, sym, ap, subst, ◌∙◌, inl, inr}
use Rattle.std.specs.Result.{IsErrAnd, IsErrOf, OnErr, OnOk}
use Rattle.bag_ledger.specs.Keeping.{IsUnused, Leaves, Writes}
use Rattle.bag_ledger.specs.Ledgers.{with_transfer}
use Rattle.bag_receiver.specs.declared.begin.Begun.{Begun}
use Rattle.bag_receiver.specs.declared.begin.Begun.TheVariants.{New, Again}
use Rattle.bag_receiver.specs.declared.begin.BeginFault.TheVariants.{BadName, Outside, Rules, Clash, Differs, Tree, Keeper}
use Rattle.bag_receiver.specs.Beginning.{IsAnswerTo, MayFail, Opened}
use Rattle.bag_receiver.proofs.ReceiverLemmas.{plans_grow}
use Rattle.bag_receiver.proofs.Words.{ArePlansIn, AreTaken, BeginFault, Begins, BeginStep, begun, BTreeMap, CountsIf, Does, entry_here, entry_others, Files, Global, Has, HasTransfer, insert_entry, IsPlanOf, IsTransferName, KeepFault, Ledger, LedgerState, Memory, nat_cmp, nothing_held, option_map, Plan, plans_in, Reads, Receiver, settled, slice_cmp, Store, StoreFault, String, TagPath, tags_of, TagTooLarge, Transfer, transfer_of, TransferState, with_doubtful_ledger, with_files}
use Rattle.bag_rules.proofs.ValidityLemmas.{decided_octets}

-- A TRANSFER IS OPENED

module _ (name : List ℕ) (given : Files) (old new : Ledger) (opened : Opened name given old new) where
  there : transfer_of new name ≡ Some (begun (with_files [] given))
  there = (let (tags, named, taken, unused, is) = opened in ap (λ l. transfer_of l name) is ∙ entry_here name (begun tags) old ∙ ap (λ (t : Files). Some (begun t)) taken.tags_are)

  apart_stays : (other : List ℕ) → other ≢ name → transfer_of new other ≡ transfer_of old other
  apart_stays other apart = (let (tags, named, taken, unused, is) = opened in ap (λ l. transfer_of l other) is ∙ entry_others name (begun tags) other apart old)

module _ (result : Result Begun BeginFault) (name : List ℕ) (given : Files) (old new : LedgerState) (step : BeginStep result name given old new) where
  -- nothing changed
  same_begins : result ≢ Ok New → new ≡ old → Begins name given result old new
  same_begins other same = record {
    step = step;
    opened = λ is. absurd (other is);
    left = λ crashed has. inl (subst (λ (s : LedgerState). Has s.doubtful crashed) same has);
    kept = λ tags files present. subst (λ (s : LedgerState). HasTransfer s name tags files) (sym same) present;
    others = record {
      same = λ one apart. ap (λ (s : LedgerState). transfer_of s.held one) same;
      left = λ one apart crashed has. (crashed, inr (subst (λ (s : LedgerState). Has s.doubtful crashed) same has), refl);
    };
  }

  -- the name was not used
  was_none : (ledger : Ledger) → Opened name given old.held ledger → (tags : Files) (files : TransferState) → HasTransfer old name tags files → HasTransfer new name tags files
  was_none ledger opened tags files present = absurd (let e = sym present.there ∙ opened.3 in cc e)

  new_begins : Opened name given old.held new.held → new.doubtful ≡ [] → Begins name given result old new
  new_begins opened settled = record {
    step = step;
    opened = λ is. (
      nothing_held,
      refl,
      record {
        there = there name given old.held new.held opened;
        left = λ crashed has. absurd (subst (λ ledgers. Has ledgers crashed) settled has);
      },
    );
    left = λ crashed has. absurd (subst (λ ledgers. Has ledgers crashed) settled has);
    kept = was_none new.held opened;
    others = record {
      same = apart_stays name given old.held new.held opened;
      left = λ one apart crashed has. absurd (subst (λ ledgers. Has ledgers crashed) settled has);
    };
  }

  doubtful_begins : result ≢ Ok New → (ledger : Ledger) → Opened name given old.held ledger → new ≡ with_doubtful_ledger old ledger → Begins name given result old new
  doubtful_begins other ledger opened is = record {
    step = step;
    opened = λ e. absurd (other e);
    left = λ crashed has. elim (subst (λ (s : LedgerState). Has s.doubtful crashed) is has) [
      | inl here ↦ inr (ap (λ l. transfer_of l name) (sym here) ∙ there name given old.held ledger opened)
      | inr before ↦ inl before
    ];
    kept = was_none ledger opened;
    others = record {
      same = λ one apart. ap (λ (s : LedgerState). transfer_of s.held one) is;
      left = λ one apart crashed has. elim (subst (λ (s : LedgerState). Has s.doubtful crashed) is has) [
        | inl here ↦ (old.held, inl refl, ap (λ l. transfer_of l one) (sym here) ∙ apart_stays name given old.held ledger opened one apart)
        | inr before ↦ (crashed, inr before, refl)
      ];
    };
  }

pub begins : (result : Result Begun BeginFault) (name : List ℕ) (given : Files) (old new : LedgerState) → BeginStep result name given old new → Begins name given result old new
begins (Ok New) name given old new step = new_begins (Ok New) name given old new step step.0 step.1
begins (Ok Again) name given old new step = same_begins (Ok Again) name given old new step (λ e. cc) step.4
begins (Err BadName) name given old new step = same_begins (Err BadName) name given old new step (λ e. cc) step.1
begins (Err (TagPath i)) name given old new step = same_begins (Err (TagPath i)) name given old new step (λ e. cc) step.2
begins (Err (TagTooLarge path)) name given old new step = same_begins (Err (TagTooLarge path)) name given old new step (λ e. cc) step.2
begins (Err (Outside cause)) name given old new step = same_begins (Err (Outside cause)) name given old new step (λ e. cc) step.2
begins (Err (Rules fault)) name given old new step = same_begins (Err (Rules fault)) name given old new step (λ e. cc) step.2
begins (Err (Clash path)) name given old new step = same_begins (Err (Clash path)) name given old new step (λ e. cc) step.2
begins (Err Tree) name given old new step = absurd step.1
begins (Err Differs) name given old new step = same_begins (Err Differs) name given old new step (λ e. cc) step.4
begins (Err (Keeper fault)) name given old new step = elim step.1 [
  | inl same ↦ same_begins (Err (Keeper fault)) name given old new step (λ e. cc) same
  | inr doubt ↦ doubtful_begins (Err (Keeper fault)) name given old new step (λ e. cc) doubt.0 doubt.1 doubt.2
]

-- THE CALLS OF THE KEEPER

abbrev Plans : Type 0
Plans = BTreeMap (String Global) Plan

none_there : (found : Option Transfer) → option_map (λ (transfer : Transfer). transfer.tags) found ≡ None → found ≡ None
none_there None e = refl
none_there (Some transfer) e = absurd (let k : ◌≡◌ {A = Option Files} (Some transfer.tags) None = e in cc)

-- the plans are still those of their transfers
plans_after : (ledger : Ledger) (name : List ℕ) (tags : Files) (plans : List (List ℕ × Plan)) → IsUnused name ledger → ArePlansIn ledger plans → ArePlansIn (with_transfer ledger name tags) plans
plans_after ledger name tags plans unused are other found at =
    let k = are other found at in
    elim (decided_octets other name) [
      | inl e ↦ (
          let none : tags_of ledger other ≡ None = ap (tags_of ledger) e ∙ ap (option_map (λ (transfer : Transfer). transfer.tags)) unused in
          let some : Some k.0 ≡ None = sym k.1 ∙ none in
          absurd (cc)
          )
      | inr apart ↦ (k.0, ap (option_map (λ (transfer : Transfer). transfer.tags)) (entry_others name (begun tags) other apart ledger) ∙ k.1, k.2)
    ]

may_fail : (name : List ℕ) (given tags : Files) → IsTransferName name → AreTaken given tags → (fault : KeepFault) → MayFail fault name given
may_fail name given tags named taken Memory = tt
may_fail name given tags named taken (Store fault) = (named, (tags, taken))

pub failed_answers : (result : Result Begun BeginFault) (name : List ℕ) (given tags : Files) (fault : KeepFault) → IsTransferName name → AreTaken given tags → result ≡ Err (Keeper fault) → IsAnswerTo result name given
failed_answers result name given tags fault named taken is = subst (λ (r : Result Begun BeginFault). IsAnswerTo r name given) (sym is) (may_fail name given tags named taken fault)

module _ {K : Type 0} (holds may_leave : K → Ledger → Type 0) (clean : K → Type 0) where
  abbrev over : K → Plans → Receiver K
  over keeper plans = record { keeper = keeper; plans = plans }

  pub does_nothing_so : (receiver : Receiver K) (step : LedgerState → LedgerState → Type 0) → ((now : LedgerState) → step now now) → Does holds may_leave clean receiver receiver step
  does_nothing_so receiver step is = record { was_clean = λ c. c; leads = λ c now in_state. (now, in_state, is now) }

  pub does_so : (old new : Receiver K) (step other : LedgerState → LedgerState → Type 0) → ((before after : LedgerState) → step before after → other before after) → Does holds may_leave clean old new step → Does holds may_leave clean old new other
  does_so old new step other so does = record {
    was_clean = does.was_clean;
    leads = λ c before in_state. (let k = does.leads c before in_state in (k.0, k.1, so before k.0 k.2));
  }

  module _ (name : List ℕ) (given tags : Files) (named : IsTransferName name) (taken : AreTaken given tags) (plans : Plans) where
    abbrev Stepped : K → K → Plans → Result Begun BeginFault → Type 0
    Stepped old new after result = Does holds may_leave clean (over old plans) (over new after) (BeginStep result name given)

    -- the tag files are looked up, and nothing else is done
    pub looked : (old new : K) (result : Result Begun BeginFault) → Reads holds may_leave clean old new → (clean new → (now : LedgerState) → holds old now.held → BeginStep result name given now now) → Stepped old new plans result
    looked old new result reads step = record {
      was_clean = reads.was_clean;
      leads = λ c now in_state. (
        now,
        record {
          kept = record { held = reads.held c now.held in_state.kept.held; left = λ crashed left. in_state.kept.left crashed (reads.left c crashed left) };
          plans = in_state.plans;
        },
        step c now in_state.kept.held,
      );
    }

    pub looked_failed : (old new : K) (fault : KeepFault) → Reads holds may_leave clean old new → Stepped old new plans (Err (Keeper fault))
    looked_failed old new fault reads = looked old new (Err (Keeper fault)) reads (λ c now held. (may_fail name given tags named taken fault, inl refl))

    pub found_same : (old new : K) (held : Files) → Reads holds may_leave clean old new → (clean new → (ledger : Ledger) → holds old ledger → Some held ≡ tags_of ledger name) → held ≡ tags
        → Stepped old new plans (Ok Again)
    found_same old new held reads found same = looked old new (Ok Again) reads (λ c now holding. (tags, named, taken, sym (found c now.held holding) ∙ ap (λ (t : Files). Some t) same, refl))

    pub found_other : (old new : K) (held : Files) → Reads holds may_leave clean old new → (clean new → (ledger : Ledger) → holds old ledger → Some held ≡ tags_of ledger name) → held ≢ tags
        → Stepped old new plans (Err Differs)
    found_other old new held reads found other = looked old new (Err Differs) reads (λ c now holding. (tags, named, taken, (held, sym (found c now.held holding), other), refl))

    -- there are none, and the transfer is opened, or the keeper fails while opening it
    module _ (old middle new : K) (reads : Reads holds may_leave clean old middle) (found : clean middle → (ledger : Ledger) → holds old ledger → None ≡ tags_of ledger name) where
      unused : clean middle → (ledger : Ledger) → holds old ledger → IsUnused name ledger
      unused c ledger held = none_there (transfer_of ledger name) (sym (found c ledger held))

      opened_now : clean middle → (ledger : Ledger) → holds old ledger → Opened name given ledger (with_transfer ledger name tags)
      opened_now c ledger held = (tags, named, taken, unused c ledger held, refl)

      pub opening_failed : (fault : KeepFault) → Leaves holds may_leave clean (IsUnused name) middle new (λ ledger. with_transfer ledger name tags) → Stepped old new plans (Err (Keeper fault))
      opening_failed fault leaves = record {
        was_clean = λ c. reads.was_clean (leaves.was_clean c);
        leads = λ c now in_state.
            let m = leaves.was_clean c in
            let holding = reads.held m now.held in_state.kept.held in (
              with_doubtful_ledger now (with_transfer now.held name tags),
              record {
                kept = record {
                  held = leaves.held c now.held holding (unused m now.held in_state.kept.held);
                  left = λ crashed left. elim (leaves.left c now.held crashed holding (unused m now.held in_state.kept.held) left) [
                    | inl before ↦ elim (in_state.kept.left crashed (reads.left m crashed before)) [ inl same ↦ inl same | inr doubtful ↦ inr (inr doubtful) ]
                    | inr written ↦ inr (inl (sym written))
                  ];
                };
                plans = in_state.plans;
              },
              (may_fail name given tags named taken fault, inr (with_transfer now.held name tags, opened_now m now.held in_state.kept.held, refl)),
            );
      }

      pub opened_new : (after : Plans) (plan : Plan) → IsPlanOf tags plan → (plans_in after ≡ insert_entry (slice_cmp nat_cmp) (plans_in plans) name plan) ⊎ (plans_in after ≡ plans_in plans)
          → Writes holds may_leave clean (IsUnused name) middle new (λ ledger. with_transfer ledger name tags) → Stepped old new after (Ok New)
      opened_new after plan is_plan kept writes = record {
        was_clean = λ c. reads.was_clean (writes.was_clean c);
        leads = λ c now in_state.
            let m = writes.was_clean c in
            let holding = reads.held m now.held in_state.kept.held in
            let free = unused m now.held in_state.kept.held in
            let still = plans_after now.held name tags (plans_in plans) free in_state.plans in
            let here : tags_of (with_transfer now.held name tags) name ≡ Some tags = ap (option_map (λ (transfer : Transfer). transfer.tags)) (entry_here name (begun tags) now.held) in (
              settled (with_transfer now.held name tags),
              record {
                kept = record {
                  held = writes.held c now.held holding free;
                  left = λ crashed left. inl (writes.left c now.held crashed holding free left);
                };
                plans = elim kept [
                  | inl more ↦ subst (ArePlansIn (with_transfer now.held name tags)) (sym more) (plans_grow (with_transfer now.held name tags) (plans_in plans) name plan tags still here is_plan)
                  | inr same ↦ subst (ArePlansIn (with_transfer now.held name tags)) (sym same) still
                ];
              },
              (opened_now m now.held in_state.kept.held, refl),
            );
      }

-- THE COUNT OF FAILURES

pub counts_so : (A B : Type 0) (old new : ℕ) → (A → B) → (B → A) → CountsIf A old new → CountsIf B old new
counts_so A B old new to from counts = record { rises = λ b. counts.rises (from b); stays = λ none. counts.stays (λ a. none (to a)) }

pub counts_nothing : (A : Type 0) (n : ℕ) → ¬ A → CountsIf A n n
counts_nothing A n none = record { rises = λ a. absurd (none a); stays = λ _. refl }

-- WHAT `?` RETURNS

pub err_is : (r : Result Begun BeginFault) (fault : BeginFault) → IsErrAnd r (λ f. f ≡ fault) → r ≡ Err fault
err_is (Ok x) fault h = absurd h
err_is (Err f) fault h = ap (λ (e : BeginFault). Err e) h

module _ {A : Type 0} (call : Result A KeepFault) where
  -- a fault of the store
  abbrev pub StoreFailed : Type 0
  StoreFailed = (fault : StoreFault) × IsErrOf call (Store fault)

  pub store_counted : (result : Result Begun BeginFault) (fault : KeepFault) (old new : ℕ) → call ≡ Err fault → result ≡ Err (Keeper fault)
      → CountsIf StoreFailed old new → CountsIf ((fault : StoreFault) × IsErrOf result (Keeper (Store fault))) old new
  store_counted result fault old new was is counts =
      counts_so StoreFailed ((fault : StoreFault) × IsErrOf result (Keeper (Store fault))) old new
      (λ h. (h.0, (let e : Err fault ≡ Err (Store h.0) = sym was ∙ h.1 in let k : fault ≡ Store h.0 = same_err fault (Store h.0) e in is ∙ ap (λ (f : KeepFault). Err (Keeper f)) k)))
      (λ h. (h.0, (let e : Err (Keeper fault) ≡ Err (Keeper (Store h.0)) = sym is ∙ h.1 in let k : fault ≡ Store h.0 = same_keeper fault (Store h.0) e in was ∙ ap (λ (f : KeepFault). Err f) k)))
      counts
    where
      same_err : (f k : KeepFault) → ◌≡◌ {A = Result A KeepFault} (Err f) (Err k) → f ≡ k
      same_err f k e = cc

      same_keeper : (f k : KeepFault) → ◌≡◌ {A = Result Begun BeginFault} (Err (Keeper f)) (Err (Keeper k)) → f ≡ k
      same_keeper f k e = cc

  pub not_failed : (x : A) → call ≡ Ok x → ¬ StoreFailed
  not_failed x is h = absurd (let e : Ok x ≡ Err (Store h.0) = sym is ∙ h.1 in cc)

pub one_of : {A E : Type 0} (r : Result A E) (P Q : Type 0) → OnOk r P → OnErr r Q → P ⊎ Q
one_of (Ok x) P Q h k = inl h
one_of (Err e) P Q h k = inr k
