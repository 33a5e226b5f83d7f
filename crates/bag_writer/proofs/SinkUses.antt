-- What calls of a sink do to it, one after another.
use Rattle.std.proofs.Common.{◌≡◌, ◌∙◌, ℕ, true, List, Option, Some, None, Ok, IsErrOf, refl, sym, ap, subst}
use Rattle.std.specs.List.{All, AllByRecursion}
use Rattle.std.specs.Option.{option_map}
use Rattle.std.proofs.lemmas.List.Elements.{All-contains, All-from_recursion, All-nil}
use Rattle.bag_rules.specs.Bags.{paths_of}
use Rattle.bag_rules.proofs.Words.{CountsIf, Files, is_payload, keys_of}
use Rattle.bag_writer.specs.Sinks.{IsEmptySink, Stored, UsesSink, with_payload_dir}
use Rattle.bag_writer.specs.Steps.{AreWhole, HasNoFile, HasPayloadAlone, with_wholes}
use Rattle.bag_writer.proofs.StepLemmas.{all_paths}

pub ok_is_no_error : {X E : Type 0} {fault : E} (x : X) → IsErrOf {T = X} (Ok x) fault → ⊥
ok_is_no_error x e = cc

module _ {S : Type 0} {failures : S → ℕ} {sure : S → Type 0} where
  -- the same for another result
  pub sink_so : {a b : S} {In F G : Type 0} → UsesSink failures sure a b In F → (F → G) → (G → F) → UsesSink failures sure a b In G
  sink_so p there back = record {
    counted = record { rises = λ g. p.counted.rises (back g); stays = λ n. p.counted.stays (λ f. n (there f)) };
    stays_sure = λ s. ((p.stays_sure s).0, (λ i g. (p.stays_sure s).1 i (back g)));
  }

  -- nothing was done
  pub sink_none : {a : S} {In F : Type 0} → ¬ F → UsesSink failures sure a a In F
  sink_none not = record {
    counted = record { rises = λ f. absurd (not f); stays = λ n. refl };
    stays_sure = λ s. (s, (λ i. not));
  }

  -- a call that didn't fail and then another, which is in the right order if both have to be
  pub sink_on : {a b c : S} {In Then F G : Type 0} → UsesSink failures sure a b In F → ¬ F → UsesSink failures sure b c Then G → (In → Then) → UsesSink failures sure a c In G
  sink_on {a} {b} {c} {In} {Then} {F} {G} p not q goes = record {
    counted = subst (λ n. CountsIf G n (failures c)) (p.counted.stays not) q.counted;
    stays_sure = λ s. (let t = q.stays_sure (p.stays_sure s).0 in (t.0, (λ i. t.1 (goes i))));
  }

  -- more is required of the order
  pub sink_if : {a b : S} {In More F : Type 0} → UsesSink failures sure a b In F → (More → In) → UsesSink failures sure a b More F
  sink_if p less = record {
    counted = p.counted;
    stays_sure = λ s. (let t = p.stays_sure s in (t.0, (λ i. t.1 (less i))));
  }

-- a sink that was empty has no file when its payload directory is made
pub no_file_yet : (old mid : Option Stored) → mid ≡ option_map with_payload_dir old → IsEmptySink old → HasNoFile mid
no_file_yet None mid made empty stored e = absurd (cc)
no_file_yet (Some before) mid made empty stored e =
    let nothing = empty before refl in
    let same : with_payload_dir before ≡ stored = cc in
    sym (ap (λ (s : Stored). s.bag.files) same) ∙ ap (λ (s : Stored). s.bag.files) nothing

-- only payload files were written
pub payload_alone : (files : Files) (mid new : Option Stored) → AreWhole files mid new → AllByRecursion (λ path. is_payload path ≡ true) (keys_of files) → HasNoFile mid → HasPayloadAlone new
payload_alone files None new whole are none stored e = absurd (cc)
payload_alone files (Some before) new whole are none stored e =
    let same : with_wholes files before ≡ stored = cc in
    let P : List ℕ → Type 0 = λ path. is_payload path ≡ true in
    let start = subst (λ (fs : Files). All P (keys_of fs)) (sym (none before refl)) (All-nil P) in
    let all = all_paths P files before start (All-from_recursion P (keys_of files) are) in
    λ path found. All-contains P (paths_of stored.bag) path (subst (λ (s : Stored). All P (paths_of s.bag)) same all) found
