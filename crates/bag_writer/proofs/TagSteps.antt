-- Files that are written one after another.
use Rattle.std.proofs.Common.{◌≡◌, ◌∙◌, ◌<◌, ◌++◌, ◌∷◌, [], ℕ, Bool, List, OnOk, Option, Result, Some, None, append-nil, append_assoc, drop, length, take, refl, sym, subst, inl, inr}
use Rattle.std.proofs.lemmas.List.{take-append-drop}
use Rattle.std.specs.Option.{option_map}
use Rattle.bag_digest.specs.Failures.{Rises}
use Rattle.bag_rules.specs.declared.limits.TheConstants.{LARGEST_TAG_FILE}
use Rattle.bag_rules.proofs.Words.{AlgSet, Files}
use Rattle.bag_writer.specs.Sinks.{StaysOrIsLost, Stored, with_begun, with_ended, with_octets}
use Rattle.bag_writer.specs.Steps.{AreItemsOf, ArePart, AreWhole, HasFrontOf, NamesLong, with_whole, with_wholes}
use Rattle.bag_writer.specs.TagWriting.{AddsItems, AreFree, WritesAll, WritesFiles}
use Rattle.bag_writer.specs.Writing.{HasLongFile}
use Rattle.bag_writer.specs.declared.too_large.Large.{Large}
use Rattle.bag_writer.specs.declared.too_large.Large.TheVariants.{TagFile}
use Rattle.bag_writer.specs.declared.write_fault.WriteFault.{WriteFault}
use Rattle.bag_writer.specs.declared.item.Item.{Item}
use Rattle.bag_writer.specs.declared.write_fault.WriteFault.TheVariants.{Memory, Sink, TooLarge, Tree}
use Rattle.bag_writer.proofs.StepLemmas.{begun_empty, begun_ended, begun_front, begun_lost, begun_more, front_part, part_after, part_more, part_none, part_whole, whole_none, whole_on}
use Rattle.bag_rules.proofs.HasLemmas.{has_either, has_left, has_right}

abbrev File : Type 0
File = List ℕ × List ℕ

-- WHAT A SINK HOLDS

-- one more whole file, if it is known what the sink holds
abbrev pub step : File → Option Stored → Option Stored
step file known = option_map (λ (stored : Stored). with_whole stored file) known

nothing_more : (known : Option Stored) → option_map (with_wholes []) known ≡ known
nothing_more None = refl
nothing_more (Some stored) = refl

one_more : (file : File) (files : Files) (known : Option Stored) → option_map (with_wholes (file ∷ files)) known ≡ option_map (with_wholes files) (step file known)
one_more file files None = refl
one_more file files (Some stored) = refl

pub one_whole : (file : File) (known : Option Stored) → AreWhole (file ∷ []) known (step file known)
one_whole file known = sym (one_more file [] known ∙ nothing_more (step file known))

-- ONE FILE

module _ (path octets : List ℕ) where
  -- some first octets of it
  pub front_written : (n : ℕ) (old mid new : Option Stored) → mid ≡ option_map (with_begun path) old → new ≡ option_map (with_octets (take n octets)) mid → ArePart ((path, octets) ∷ []) old new
  front_written n old mid new begun more =
      front_part (path, octets) [] old new
      (subst (λ (all : List ℕ). HasFrontOf (Some (path, all)) old new) (take-append-drop n octets) (begun_front (drop n octets) (begun_more (take n octets) (begun_empty path begun) more)))

  -- all octets, and it is ended, or begun still, or lost
  pub end_written : (old mid late new : Option Stored) → mid ≡ option_map (with_begun path) old → late ≡ option_map (with_octets octets) mid → new ≡ option_map with_ended late → AreWhole ((path, octets) ∷ []) old new
  end_written old mid late new begun more ended = begun_ended (begun_more octets (begun_empty path begun) more) ended

  pub end_lost : (old mid late new : Option Stored) → mid ≡ option_map (with_begun path) old → late ≡ option_map (with_octets octets) mid → StaysOrIsLost late new → ArePart ((path, octets) ∷ []) old new
  end_lost old mid late new begun more lost =
      front_part (path, octets) [] old new
      (subst (λ (all : List ℕ). HasFrontOf (Some (path, all)) old new) (append-nil octets) (begun_lost [] (begun_more octets (begun_empty path begun) more) lost))

whole_part : (files : Files) (old new : Option Stored) → AreWhole files old new → ArePart files old new
whole_part files old new whole = subst (λ (fs : Files). ArePart fs old new) (append-nil files) (part_whole files [] old new whole)

-- WHICH PATHS ARE FREE

pub free_front : (files more : Files) (known : Option Stored) → AreFree known (files ++ more) → AreFree known files
free_front [] more known free = tt
free_front (file ∷ files) more known free = (free.0, free_front files more (step file known) free.1)

pub free_after : (files more : Files) (old mid : Option Stored) → AreFree old (files ++ more) → AreWhole files old mid → AreFree mid more
free_after [] more old mid free whole = subst (λ (known : Option Stored). AreFree known more) (sym (whole ∙ nothing_more old)) free
free_after (file ∷ files) more old mid free whole = free_after files more (step file old) mid free.1 (whole ∙ one_more file files old)

-- WHICH FILES ARE LONG

module _ (named : List ℕ → Large) (files more : Files) (limit : ℕ) (fault : WriteFault) where
  pub long_front : NamesLong named files limit fault → NamesLong named (files ++ more) limit fault
  long_front long = λ what is. let it = long what is in (it.0, it.1, (it.2.0, has_left files more (it.0, it.2.0) it.2.1, it.2.2))

  pub long_back : NamesLong named more limit fault → NamesLong named (files ++ more) limit fault
  long_back long = λ what is. let it = long what is in (it.0, it.1, (it.2.0, has_right files more (it.0, it.2.0) it.2.1, it.2.2))

pub none_long : (files more : Files) (limit : ℕ) → (HasLongFile files limit → ⊥) → (HasLongFile more limit → ⊥) → HasLongFile (files ++ more) limit → ⊥
none_long files more limit front back long = elim (has_either files more (long.0, long.1.0) long.1.1) [
  | inl h ↦ front (long.0, (long.1.0, h, long.1.2))
  | inr h ↦ back (long.0, (long.1.0, h, long.1.2))
]

-- CALLS THAT WRITE FILES, ONE AFTER ANOTHER

all_after : (files more : Files) (old mid new : Option Stored) (fault : Option WriteFault) → WritesAll files old mid None → WritesAll more mid new fault → WritesAll (files ++ more) old new fault
all_after files more old mid new None first second = (whole_on files more old mid new first.0 second.0, none_long files more LARGEST_TAG_FILE first.1 second.1)
all_after files more old mid new (Some fault) first second = (part_after files more old mid new first.0 second.0, second.1, long_back TagFile files more LARGEST_TAG_FILE fault second.2)

module _ {S : Type 0} (stored : S → Option Stored) (is_open : S → Bool) (failures : S → ℕ) (sure : S → Type 0) where
  abbrev pub Writes : Files → S → S → Option WriteFault → Type 0
  Writes files old new fault = WritesFiles stored is_open failures sure files old new fault

  no_fault : None ≡ Some Sink → ⊥
  no_fault is = cc

  -- nothing is to be written, or nothing was since memory ran out
  pub writes_none : (now : S) → Writes [] now now None
  writes_none now = record {
    written = (whole_none (stored now), λ long. long.1.1);
    closed = λ closed _. closed;
    uses = record {
      counted = record { rises = λ is. (let no : None ≡ Some Sink = is in cc); stays = λ _. refl };
      stays_sure = λ surely. (surely, λ _ is. (let no : None ≡ Some Sink = is in cc));
    };
  }

  pub writes_stopped : (files : Files) (now : S) → Writes files now now (Some Memory)
  writes_stopped files now = record {
    written = (part_none files (stored now), (tt, λ is. (let no : Memory ≡ Tree = is in cc)), λ what is. (let no : Memory ≡ TooLarge what = is in cc));
    closed = λ _ is. (let no : Some Memory ≡ None = is in cc);
    uses = record {
      counted = record { rises = λ is. (let no : Some Memory ≡ Some Sink = is in cc); stays = λ _. refl };
      stays_sure = λ surely. (surely, λ _ is. (let no : Some Memory ≡ Some Sink = is in cc));
    };
  }

  -- a file that is too long isn't begun
  pub writes_refused : (file : File) (now : S) → LARGEST_TAG_FILE < length file.1 → Writes (file ∷ []) now now (Some (TooLarge (TagFile file.0)))
  writes_refused file now long =
      let told : WriteFault = TooLarge (TagFile file.0) in record {
        written = (part_none (file ∷ []) (stored now), (tt, λ is. (let no : told ≡ Tree = is in cc)), λ what is. (let same : TagFile file.0 ≡ what = cc in (file.0, sym same, (file.1, inl refl, long))));
        closed = λ _ is. (let no : Some told ≡ None = is in cc);
        uses = record {
          counted = record { rises = λ is. (let no : Some told ≡ Some Sink = is in cc); stays = λ _. refl };
          stays_sure = λ surely. (surely, λ _ is. (let no : Some told ≡ Some Sink = is in cc));
        };
      }

  -- all was written, and then memory ran out
  pub writes_forgotten : (files : Files) (old new : S) → Writes files old new None → Writes files old new (Some Memory)
  writes_forgotten files old new all = record {
    written = (whole_part files (stored old) (stored new) all.written.0, (tt, λ is. (let no : Memory ≡ Tree = is in cc)), λ what is. (let no : Memory ≡ TooLarge what = is in cc));
    closed = λ _ is. (let no : Some Memory ≡ None = is in cc);
    uses = record {
      counted = record { rises = λ is. (let no : Some Memory ≡ Some Sink = is in cc); stays = λ _. all.uses.counted.stays no_fault };
      stays_sure = λ surely. ((all.uses.stays_sure surely).0, λ _ is. (let no : Some Memory ≡ Some Sink = is in cc));
    };
  }

  pub writes_after : (files more : Files) (old mid new : S) (fault : Option WriteFault) → Writes files old mid None → Writes more mid new fault → Writes (files ++ more) old new fault
  writes_after files more old mid new fault first second =
      let same : failures mid ≡ failures old = first.uses.counted.stays no_fault in
      record {
        written = all_after files more (stored old) (stored mid) (stored new) fault first.written second.written;
        closed = λ closed none. second.closed (first.closed closed refl) none;
        uses = record {
          counted = record {
            rises = λ is. subst (λ (count : ℕ). Rises count (failures new)) same (second.uses.counted.rises is);
            stays = λ other. second.uses.counted.stays other ∙ same;
          };
          stays_sure = λ surely.
              let mid_sure = first.uses.stays_sure surely in
              let end_sure = second.uses.stays_sure mid_sure.0 in
              (end_sure.0, λ order is. end_sure.1 (first.closed order.0 refl, free_after files more (stored old) (stored mid) order.1 first.written.0) is);
        };
      }

  -- a fault ends the writing
  pub writes_cut : (files more : Files) (old new : S) (fault : WriteFault) → Writes files old new (Some fault) → Writes (files ++ more) old new (Some fault)
  writes_cut files more old new fault first = record {
    written = (part_more files more (stored old) (stored new) first.written.0, first.written.1, long_front TagFile files more LARGEST_TAG_FILE fault first.written.2);
    closed = λ _ is. (let no : Some fault ≡ None = is in cc);
    uses = record {
      counted = first.uses.counted;
      stays_sure = λ surely.
          let end_sure = first.uses.stays_sure surely in
          (end_sure.0, λ order is. end_sure.1 (order.0, free_front files more (stored old) order.1) is);
    };
  }

  -- one more file, followed by others or none
  pub writes_more : (files : Files) (file : File) (all : Files) (old mid new : S) → all ≡ files ++ file ∷ [] → Writes files old mid None → Writes (file ∷ []) mid new None → Writes all old new None
  writes_more files file all old mid new is first second = subst (λ (fs : Files). Writes fs old new None) (sym is) (writes_after files (file ∷ []) old mid new None first second)

  pub writes_part : (files : Files) (file : File) (more all : Files) (old mid new : S) (fault : WriteFault) → files ++ (file ∷ more) ≡ all → Writes files old mid None → Writes (file ∷ []) mid new (Some fault) → Writes all old new (Some fault)
  writes_part files file more all old mid new fault is first second =
      subst (λ (fs : Files). Writes fs old new (Some fault)) is (writes_after files (file ∷ more) old mid new (Some fault) first (writes_cut (file ∷ []) more mid new fault second))

  -- a file that is written under this name, and with these octets
  pub as_written : (file : File) (path octets : List ℕ) (old new : S) (fault : Option WriteFault) → path ≡ file.0 → octets ≡ file.1 → Writes ((path, octets) ∷ []) old new fault → Writes (file ∷ []) old new fault
  as_written file path octets old new fault named made = subst (λ (f : File). Writes (f ∷ []) old new fault) (λ t. (named t, made t))

pub as_listed : {A E : Type 0} (set : AlgSet) (file : File) (path octets : List ℕ) (old new : List Item) (result : Result A E) → path ≡ file.0 → octets ≡ file.1 → OnOk result (AddsItems set ((path, octets) ∷ []) old new) → OnOk result (AddsItems set (file ∷ []) old new)
as_listed set file path octets old new result named made = subst (λ (f : File). OnOk result (AddsItems set (f ∷ []) old new)) (λ t. (named t, made t))

-- the items of some files, and then those of more
pub adds_after : (set : AlgSet) (files more : Files) (old mid new : List Item) → AddsItems set files old mid → AddsItems set more mid new → AddsItems set (files ++ more) old new
adds_after set files more old mid new first second = λ before are. subst (AreItemsOf set new) (append_assoc before files more) (second (before ++ files) (first before are))

pub adds_more : (set : AlgSet) (files : Files) (file : File) (all : Files) (old mid new : List Item) → all ≡ files ++ file ∷ [] → AddsItems set files old mid → AddsItems set (file ∷ []) mid new → AddsItems set all old new
adds_more set files file all old mid new is first second = subst (λ (fs : Files). AddsItems set fs old new) (sym is) (adds_after set files (file ∷ []) old mid new first second)

pub adds_none : (set : AlgSet) (now : List Item) → AddsItems set [] now now
adds_none set now = λ before are. subst (AreItemsOf set now) (sym (append-nil before)) are
