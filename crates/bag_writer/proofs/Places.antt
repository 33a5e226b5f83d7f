-- Payload files of a tree that are copied side by side, by their places: all those from one place to another.
use Rattle.std.proofs.Common.{◌≡◌, ◌∙◌, ◌+◌, ◌-◌, ◌<◌, ◌≤◌, ◌++◌, ◌∷◌, [], ℕ, zero, suc, Bool, false, true, List, Option, Some, None, Contains, ap, append_assoc, arith, drop, inl, inr, length, length-append, refl, slice_get, subst, sym, take}
use Rattle.std.proofs.lemmas.Bool.{cases_lt}
use Rattle.std.proofs.lemmas.List.{take-append-drop, take-take}
use Rattle.std.proofs.lemmas.List.Elements.{Contains-append_left}
use Rattle.std.proofs.lemmas.Option.{same_Some, slice_get_within}
use Rattle.std.specs.Map.{keys_of}
use Rattle.std.specs.Option.{option_map}
use Rattle.bag_rules.proofs.FileReadLemmas.{push_at, push_before}
use Rattle.bag_rules.proofs.Words.{AreRising, Files, is_payload, paths_in, payload_of, Shown}
use Rattle.bag_rules.specs.declared.limits.TheConstants.{LARGEST_FILE}
use Rattle.bag_writer.specs.Finishing.{AreFilesAt, AreFinished, CanEnd, IsCutAt}
use Rattle.bag_writer.specs.HeldFiles.{AreItemsSoFar}
use Rattle.bag_writer.specs.PayloadSteps.{AreOctetsOf}
use Rattle.bag_writer.specs.Sinks.{IsFree, Stored}
use Rattle.bag_writer.specs.Steps.{ArePart, AreWhole, HasNoFile, NamesLong, with_whole, written_payload}
use Rattle.bag_writer.specs.TagWriting.{AreFree}
use Rattle.bag_writer.specs.Writing.{HasLongFile, IsReadFrom}
use Rattle.bag_writer.specs.declared.items.Items.{Items}
use Rattle.bag_writer.specs.declared.spec.Spec.{Spec}
use Rattle.bag_writer.specs.declared.too_large.Large.TheVariants as large
use Rattle.bag_writer.specs.declared.write_fault.WriteFault.{WriteFault}
use Rattle.bag_writer.proofs.FileSteps.{octets_here}
use Rattle.bag_writer.proofs.PayloadLists.{absent_written, AreReadAs, File, payload_on, payload_read, read_on, ShownFile, unread, unread_is, written_of, written_on}
use Rattle.bag_writer.proofs.PayloadSoFar.{HasWritten, shown_at}
use Rattle.bag_writer.proofs.ReadFiles.{AreAllBetween, AreReadEach, AreRisingBetween, all_behind, all_read, no_holes, none_before, one_read, past_others}
use Rattle.bag_writer.proofs.StepLemmas.{free_at_first, free_still, part_after, part_more, whole_on}
use Rattle.bag_rules.proofs.HasLemmas.{has_either, has_left, has_right}

abbrev own : ℕ → ℕ
own n = n

-- these are the places of all payload files from one place to another
pub record IsBetween (tree : Shown) (n i : ℕ) (places : List ℕ) : Type 0 where
  pub inside : i ≤ length tree.files
  pub rising : AreRisingBetween own n i places
  pub all : AreAllBetween own tree n i places
  pub payload : (k j : ℕ) (s : ShownFile) → slice_get places k ≡ Some j → slice_get tree.files j ≡ Some s → is_payload s.0 ≡ true

-- FROM ONE PLACE TO THE NEXT

pub between_none : (tree : Shown) (n : ℕ) → n ≤ length tree.files → IsBetween tree n n []
between_none tree n inside = record {
  inside = inside;
  rising = omega arith;
  all = λ j s from to there is. absurd (omega (arith, from, to));
  payload = λ k j s at there. absurd (let e : None ≡ Some j = at in cc);
}

rising_wider : (n i : ℕ) (xs : List ℕ) → AreRisingBetween own n i xs → AreRisingBetween own n (i + 1) xs
rising_wider n i [] rising = let low : n ≤ i = rising in omega (arith, low)
rising_wider n i (x ∷ xs) rising = let high = rising.1 in (rising.0, omega (arith, high), rising_wider (x + 1) i xs rising.2)

rising_push : (n i : ℕ) (xs : List ℕ) → AreRisingBetween own n i xs → AreRisingBetween own n (i + 1) (xs ++ i ∷ [])
rising_push n i [] rising = (rising, omega arith, omega arith)
rising_push n i (x ∷ xs) rising = let high = rising.1 in (rising.0, omega (arith, high), rising_push (x + 1) i xs rising.2)

pub rising_below : (n i : ℕ) (xs : List ℕ) → AreRisingBetween own n i xs → (k x : ℕ) → slice_get xs k ≡ Some x → x < i
rising_below n i [] rising k x at = absurd (let e : None ≡ Some x = at in cc)
rising_below n i (y ∷ xs) rising zero x at = (let e : y ≡ x = cc in subst (λ z. z < i) e rising.1)
rising_below n i (y ∷ xs) rising (suc k) x at = rising_below (y + 1) i xs rising.2 k x at

module _ (tree : Shown) (n i : ℕ) (places : List ℕ) (between : IsBetween tree n i places) (shown : ShownFile) (here : slice_get tree.files i ≡ Some shown) where
  inside_next : i + 1 ≤ length tree.files
  inside_next = let below = slice_get_within tree.files i shown here in omega (arith, below)

  -- a file that isn't payload
  pub between_passed : is_payload shown.0 ≡ false → IsBetween tree n (i + 1) places
  between_passed other = record {
    inside = inside_next;
    rising = rising_wider n i places between.rising;
    all = λ j s from to there is. elim (cases_lt j i) [
      | inl below ↦ between.all j s from below there is
      | inr above ↦
          let e : j ≡ i = omega (arith, to, above) in
          let same : s ≡ shown = same_Some s shown (sym there ∙ ap (slice_get tree.files) e ∙ here) in
          absurd (let k : true ≡ false = sym is ∙ ap (λ (f : ShownFile). is_payload f.0) same ∙ other in cc)
    ];
    payload = between.payload;
  }

  -- a payload file, which is copied
  pub between_next : is_payload shown.0 ≡ true → IsBetween tree n (i + 1) (places ++ i ∷ [])
  between_next own_is = record {
    inside = inside_next;
    rising = rising_push n i places between.rising;
    all = λ j s from to there is. elim (cases_lt j i) [
      | inl below ↦ (let one = between.all j s from below there is in (one.0, one.1, push_before places i one.0 (slice_get_within places one.0 one.1 one.2) ∙ one.2, one.3))
      | inr above ↦ (length places, i, push_at places i, (let e : i ≡ j = omega (arith, to, above) in e))
    ];
    payload = λ k j s at there. elim (cases_lt k (length places)) [
      | inl below ↦ between.payload k j s (sym (push_before places i k below) ∙ at) there
      | inr above ↦
          let inside = slice_get_within (places ++ i ∷ []) k j at in
          let e : k ≡ length places = omega (arith, above, inside, length-append places (i ∷ [])) in
          let same : i ≡ j = same_Some i j (sym (push_at places i) ∙ ap (slice_get (places ++ i ∷ [])) (sym e) ∙ at) in
          let shown_same : shown ≡ s = same_Some shown s (sym here ∙ ap (slice_get tree.files) same ∙ there) in
          ap (λ (f : ShownFile). is_payload f.0) (sym shown_same) ∙ own_is
    ];
  }

-- behind the first of them
between_behind : (tree : Shown) (n i p : ℕ) (places : List ℕ) → IsBetween tree n i (p ∷ places) → IsBetween tree (p + 1) i places
between_behind tree n i p places between = record {
  inside = between.inside;
  rising = between.rising.2;
  all = all_behind own tree n i p places between.rising.0 between.all;
  payload = λ k j s at there. between.payload (suc k) j s at there;
}

-- some of the first of them are all up to some place
pub between_front : (tree : Shown) (n i count : ℕ) (places : List ℕ) → n ≤ i → IsBetween tree n i places → (m : ℕ) × (n ≤ m) × (m ≤ i) × IsBetween tree n m (take count places)
between_front tree n i zero [] low between = (i, low, omega arith, between)
between_front tree n i (suc count) [] low between = (i, low, omega arith, between)
between_front tree n i zero (p ∷ places) low between = (n, omega arith, low, between_none tree n (let inside = between.inside in omega (arith, inside, low)))
between_front tree n i (suc count) (p ∷ places) low between =
    let from = between.rising.0 in
    let high = between.rising.1 in
    let rest = between_front tree (p + 1) i count places (omega (arith, high)) (between_behind tree n i p places between) in
    let past = rest.1 in
    let end = rest.2 in (
      rest.0,
      omega (arith, from, past),
      end,
      record {
        inside = rest.3.inside;
        rising = (from, omega (arith, past), rest.3.rising);
        all = λ j s at below there is. elim (cases_lt j p) [
          | inl before ↦ absurd (let no : is_payload s.0 ≡ false = none_before own tree n i p places between.rising between.all j s at before there in let k : true ≡ false = sym is ∙ no in cc)
          | inr behind ↦ elim (cases_lt p j) [
            | inl later ↦ (let one = rest.3.all j s (omega (arith, later)) below there is in (suc one.0, one.1, one.2, one.3))
            | inr same ↦ (zero, p, refl, (let e : p ≡ j = omega (arith, behind, same) in e))
          ]
        ];
        payload = λ k. elim k as (λ k. (j : ℕ) (s : ShownFile) → slice_get (p ∷ take count places) k ≡ Some j → slice_get tree.files j ≡ Some s → is_payload s.0 ≡ true) [
          | zero ↦ λ j s at there. between.payload zero j s at there
          | suc l ↦ λ j s at there. rest.3.payload l j s at there
        ];
      },
    )

-- WHAT WAS READ OF THEM

read_each : (tree : Shown) (places : List ℕ) (files : Files) → ((k j : ℕ) (s : ShownFile) → slice_get places k ≡ Some j → slice_get tree.files j ≡ Some s → is_payload s.0 ≡ true) → AreFilesAt tree places files → AreReadEach own tree places files
read_each tree [] [] payload are = tt
read_each tree [] (file ∷ files) payload are = absurd are
read_each tree (p ∷ places) [] payload are = absurd are
read_each tree (p ∷ places) (file ∷ files) payload are =
    let shown = shown_at tree tree refl p file.0 are.0.named in (
      record {
        shown = shown.0;
        there = shown.1.0;
        read_as = (sym shown.1.1, subst (λ o. AreOctetsOf o file.1) (octets_here tree p shown.0 shown.1.0) are.0.known);
        payload = payload zero p shown.0 refl shown.1.0;
      },
      read_each tree places files (λ k j s at there. payload (suc k) j s at there) are.1,
    )

pub between_read : (tree : Shown) (n i : ℕ) (places : List ℕ) (more files : Files) → IsBetween tree n i places → AreFilesAt tree places more → AreReadAs (take n tree.files) files
    → (all : Files) × AreReadAs (take i tree.files) all × (payload_of all ≡ payload_of files ++ more)
between_read tree n i places more files between are read = all_read own tree n i places more files between.inside between.rising between.all (read_each tree places more between.payload are) read

short_join : (xs ys : Files) → ¬ HasLongFile xs LARGEST_FILE → ¬ HasLongFile ys LARGEST_FILE → ¬ HasLongFile (xs ++ ys) LARGEST_FILE
short_join xs ys a b (path, (octets, has, long)) = elim (has_either xs ys (path, octets) has) [
  | inl first ↦ a (path, (octets, first, long))
  | inr other ↦ b (path, (octets, other, long))
]

names_more : (before more rest : Files) (fault : WriteFault) → NamesLong large.File more LARGEST_FILE fault → NamesLong large.File (before ++ more ++ rest) LARGEST_FILE fault
names_more before more rest fault names what e =
    let one = names what e in
    (one.0, one.1, (one.2.0, has_left (before ++ more) rest (one.0, one.2.0) (has_right before more (one.0, one.2.0) one.2.1), one.2.2))

module _ (spec : Spec) (none : spec.holes.items ≡ []) (tree : Shown) (n i : ℕ) (old mid : Option Stored) (items : Items) (files : Files) (so_far : HasWritten spec (take n tree.files) old mid items files) (places : List ℕ) (between : IsBetween tree n i places) where
  before_whole : AreWhole (payload_of files) old mid
  before_whole = subst (λ list. AreWhole list old mid) (no_holes spec (payload_of files) none) so_far.whole

  -- they were written whole
  pub group_written : (new : Option Stored) (more : Items) → AreFinished spec.algs tree places items more mid new → (all : Files) × HasWritten spec (take i tree.files) old new more all
  group_written new more done =
      let read = between_read tree n i places done.files files between done.are so_far.read in (
        read.0,
        record {
          read = read.1;
          items_are = subst (AreItemsSoFar spec.algs more) (sym read.2) (done.added (payload_of files) so_far.items_are);
          short = subst (λ list. ¬ HasLongFile list LARGEST_FILE) (sym read.2) (short_join (payload_of files) done.files so_far.short done.short);
          whole = subst (λ list. AreWhole list old new) (sym (no_holes spec (payload_of read.0) none ∙ read.2)) (whole_on (payload_of files) done.files old mid new before_whole done.whole);
        },
      )

  -- writing stopped among them
  pub group_cut : n ≤ i → (end : Option Stored) (fault : WriteFault) → IsCutAt tree places mid end fault
      → (payload : Files) × IsReadFrom tree payload × (NamesLong large.File payload LARGEST_FILE fault × ArePart (written_payload spec payload) old end)
  group_cut low end fault cut =
      let front = between_front tree n i cut.count places low between in
      let m = front.0 in
      let read = between_read tree n m (take cut.count places) cut.files files front.3 cut.are so_far.read in
      let rest = unread (drop m tree.files) in
      let all = read_on (take m tree.files) (drop m tree.files) read.0 rest read.1 (unread_is (drop m tree.files)) in
      let is : payload_of (read.0 ++ rest) ≡ payload_of files ++ cut.files ++ payload_of rest = payload_on read.0 rest ∙ ap (λ list. list ++ payload_of rest) read.2 in (
        payload_of (read.0 ++ rest),
        payload_read tree (read.0 ++ rest) (subst (λ list. AreReadAs list (read.0 ++ rest)) (take-append-drop m tree.files) all),
        (
          subst (λ list. NamesLong large.File list LARGEST_FILE fault) (sym is) (names_more (payload_of files) cut.files (payload_of rest) fault cut.long),
          subst (λ list. ArePart list old end) (sym (no_holes spec (payload_of (read.0 ++ rest)) none ∙ is ∙ append_assoc (payload_of files) cut.files (payload_of rest)))
              (part_after (payload_of files) (cut.files ++ payload_of rest) old mid end before_whole (part_more cut.files (payload_of rest) mid end cut.part)),
        ),
      )

-- the paths of files that are copied are free when it is their turn
free_files : (spec : Spec) → spec.holes.items ≡ [] → (tree : Shown) → AreRising (paths_in tree) → (old : Option Stored) → HasNoFile old → (n i : ℕ) (places : List ℕ) (files more : Files) (mid : Option Stored)
    → AreReadAs (take n tree.files) files → AreWhole (payload_of files) old mid → IsBetween tree n i places → AreFilesAt tree places more → AreFree mid more
free_files spec none tree rising old empty n i [] files [] mid read whole between are = tt
free_files spec none tree rising old empty n i [] files (file ∷ more) mid read whole between are = absurd are
free_files spec none tree rising old empty n i (p ∷ places) files [] mid read whole between are = absurd are
free_files spec none tree rising old empty n i (p ∷ places) files (file ∷ more) mid read whole between are =
    let low = between.rising.0 in
    let high = between.rising.1 in
    let inside = between.inside in
    let e : n + (p - n) ≡ p = omega (arith, low) in
    let past = past_others tree files n (p - n) (omega (arith, inside, low, high)) (λ j s from to there. none_before own tree n i p places between.rising between.all j s from (omega (arith, to, low)) there) read in
    let up_to = subst (λ k. AreReadAs (take k tree.files) past.0) e past.1 in
    let before : AreWhole (payload_of past.0) old mid = subst (λ list. AreWhole list old mid) (sym past.2) whole in
    let absent = absent_written tree spec past.0 p file.0 rising up_to are.0.named in
    let one = one_read tree past.0 p file (read_each tree (p ∷ places) (file ∷ more) between.payload are).0 up_to in
    let next = option_map (λ (stored : Stored). with_whole stored file) mid in (
      free_still (payload_of past.0) file.0 old mid (free_at_first old file.0 empty) (subst (λ list. ¬ Contains (keys_of list) file.0) (no_holes spec (payload_of past.0) none) absent) before,
      free_files spec none tree rising old empty (p + 1) i places (past.0 ++ file ∷ []) more next one.0
          (subst (λ list. AreWhole list old next) (sym one.1) (whole_on (payload_of past.0) (file ∷ []) old mid next before refl)) (between_behind tree n i p places between) are.1,
    )

pub can_end : (spec : Spec) → spec.holes.items ≡ [] → (tree : Shown) → AreRising (paths_in tree) → (old : Option Stored) → HasNoFile old → (n i : ℕ) → n ≤ i → (places : List ℕ) → IsBetween tree n i places → (files : Files) (mid : Option Stored) (items : Items)
    → HasWritten spec (take n tree.files) old mid items files → (sure : Type 0) (is_open : Bool) → sure → is_open ≡ false → CanEnd sure is_open mid tree places
can_end spec none tree rising old empty n i low places between files mid items so_far sure is_open is_sure closed = record {
  is_sure = is_sure;
  closed = closed;
  free = λ count more are.
      let front = between_front tree n i count places low between in
      free_files spec none tree rising old empty n front.0 (take count places) files more mid so_far.read (subst (λ list. AreWhole list old mid) (no_holes spec (payload_of files) none) so_far.whole) front.3 are;
}

keys_on : (xs ys : Files) → keys_of (xs ++ ys) ≡ keys_of xs ++ keys_of ys
keys_on [] ys = refl
keys_on (x ∷ xs) ys = λ t. x.0 ∷ keys_on xs ys t

-- the path of the file that is begun next is free
pub free_here : (spec : Spec) (tree : Shown) → AreRising (paths_in tree) → (old : Option Stored) → HasNoFile old → (n i : ℕ) → n ≤ i → (files : Files) (mid : Option Stored) (items : Items)
    → HasWritten spec (take n tree.files) old mid items files → (path : List ℕ) → slice_get (paths_in tree) i ≡ Some path → IsFree mid path
free_here spec tree rising old empty n i low files mid items so_far path named =
    let xs = tree.files in
    let more = drop n (take i xs) in
    let same : take n xs ++ more ≡ take i xs = ap (λ list. list ++ more) (sym (take-take n i xs low)) ∙ take-append-drop n (take i xs) in
    let all = subst (λ list. AreReadAs list (files ++ unread more)) same (read_on (take n xs) more files (unread more) so_far.read (unread_is more)) in
    let absent = absent_written tree spec (files ++ unread more) i path rising all named in
    free_still (written_of spec files) path old mid (free_at_first old path empty)
    (λ found. absent (subst (λ list. Contains (keys_of list) path) (sym (written_on spec files (unread more)))
    (subst (λ list. Contains list path) (sym (keys_on (written_of spec files) (written_of spec (unread more)))) (Contains-append_left (keys_of (written_of spec files)) (keys_of (written_of spec (unread more))) path found))))
    so_far.whole
