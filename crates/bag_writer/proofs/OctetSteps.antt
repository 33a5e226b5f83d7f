-- Octets that were read from a source, hashed and written so far.
use Rattle.std.proofs.Common.{◌≡◌, ◌<◌, ◌-◌, ◌+◌, ℕ, List, [], ◌∷◌, ◌++◌, Option, Some, None, length, take, arith, refl, sym, ap, ◌∙◌, subst, length-append, append-nil, append_assoc}
use Rattle.std.specs.Io.KnownBytes.{Consumes, IsAtEnd}
use Rattle.std.specs.Option.{option_map}
use Rattle.std.proofs.KnownBytes.{Consumes-trans}
use Rattle.std.proofs.Math.Seq.{take-append-add}
use Rattle.std.proofs.lemmas.List.{length-take-le}
use Rattle.bag_digest.proofs.Progress.{HasGiven}
use Rattle.bag_digest.specs.Hash.{AreDigests, Holds}
use Rattle.bag_digest.specs.Reading.{GaveAll, GaveBefore, GaveMoreThan, GavePiece, GaveWithin, read_fault}
use Rattle.bag_digest.specs.declared.reading.SourceFault.{SourceFault}
use Rattle.bag_digest.specs.declared.reading.SourceFault.TheVariants as cause
use Rattle.bag_digest.specs.declared.algorithm.AlgSet.{AlgSet}
use Rattle.bag_digest.specs.declared.multi.Digests.{Digests}
use Rattle.bag_digest.specs.declared.multi.Multi.{Multi}
use Rattle.bag_digest.specs.declared.reading.SourceRead.TheVariants.{Hashed}
use Rattle.bag_rules.specs.declared.limits.TheConstants.{LARGEST_FILE}
use Rattle.bag_writer.specs.PayloadSteps.{copy_fault, IsReadUntil, IsReadWhole, Writes, WritesFront}
use Rattle.bag_writer.specs.Sinks.{Begun, Stored, with_octets}
use Rattle.bag_writer.specs.declared.payload.CopyFault.{CopyFault}
use Rattle.bag_writer.specs.declared.payload.CopyFault.TheVariants.{Sink, TooLarge, Tree}

-- WHAT IS WRITTEN

none_more : (file : Option Begun) → file ≡ option_map (λ (f : Begun). record f { octets = f.octets ++ [] }) file
none_more None = refl
none_more (Some file) = ap (λ octets. Some (record file { octets = octets })) (sym (append-nil file.octets))

twice_more : (a b : List ℕ) (file : Option Begun) → option_map (λ (f : Begun). record f { octets = f.octets ++ b }) (option_map (λ (f : Begun). record f { octets = f.octets ++ a }) file) ≡ option_map (λ (f : Begun). record f { octets = f.octets ++ (a ++ b) }) file
twice_more a b None = refl
twice_more a b (Some file) = ap (λ octets. Some (record file { octets = octets })) (append_assoc file.octets a b)

-- nothing, or octets after others
pub writes_none : (s : Option Stored) → Writes [] s s
writes_none None = refl
writes_none (Some stored) = ap (λ file. Some (record stored { begun = file })) (none_more stored.begun)

both : (octets more : List ℕ) (a : Option Stored) → option_map (with_octets more) (option_map (with_octets octets) a) ≡ option_map (with_octets (octets ++ more)) a
both octets more None = refl
both octets more (Some stored) = ap (λ file. Some (record stored { begun = file })) (twice_more octets more stored.begun)

pub writes_on : (octets more : List ℕ) (a b c : Option Stored) → Writes octets a b → Writes more b c → Writes (octets ++ more) a c
writes_on octets more a b c first second = second ∙ ap (option_map (with_octets more)) first ∙ both octets more a

-- what is written of octets that come after others
pub front_on : (octets more : List ℕ) (a b c : Option Stored) → Writes octets a b → WritesFront more b c → WritesFront (octets ++ more) a c
front_on octets more a b c first (n, second) =
    (length octets + n, subst (λ list. Writes list a c) (sym (take-append-add octets more n)) (writes_on octets (take n more) a b c first second))

pub front_whole : (octets more : List ℕ) (a b : Option Stored) → Writes octets a b → WritesFront (octets ++ more) a b
front_whole octets more a b whole = front_on octets more a b b whole (0, writes_none b)

-- SO FAR

-- these octets were given by the source, within the limit of a file, and hashed and written
pub record HasCopied (set : AlgSet) (source left : Option (List ℕ)) (old new : Option Stored) (multi : Multi) (total : ℕ) (octets : List ℕ) : Type 0 where
  pub given : HasGiven source left total LARGEST_FILE octets
  pub hashed : Holds multi set octets
  pub written : Writes octets old new

nothing : (octets : List ℕ) → length octets ≡ 0 → octets ≡ []
nothing [] e = refl
nothing (octet ∷ octets) e = absurd (omega (arith, e))

module _ {set : AlgSet} {source left : Option (List ℕ)} {old new : Option Stored} {multi : Multi} {total : ℕ} {octets : List ℕ} (so_far : HasCopied set source left old new multi total octets) where
  -- one more piece, of which a front is written
  pub piece_given : {after : Option (List ℕ)} {n : ℕ} {buffer : List ℕ} → GavePiece left after (LARGEST_FILE - total) n buffer → HasGiven source after (total + n) LARGEST_FILE (octets ++ take n buffer)
  piece_given {after} {n} {buffer} piece =
      let e = length-take-le n buffer piece.bound in record {
        gave = Consumes-trans source left after octets (take n buffer) so_far.given.gave piece.gave;
        count = omega (arith, so_far.given.count, e, length-append octets (take n buffer));
        within = omega (arith, so_far.given.within, piece.within);
      }

  -- what was given before a fault
  pub until_fault : (last : List ℕ) (after : Option (List ℕ)) (fault : CopyFault) → Consumes left after last → (fault ≡ TooLarge → LARGEST_FILE < length (octets ++ last)) → IsReadUntil source after fault (octets ++ last)
  until_fault last after fault gave long = record { gave = Consumes-trans source left after octets last so_far.given.gave gave; long = long }

  -- a read failed, a piece was too long, or the sink failed
  pub read_failed : {after : Option (List ℕ)} → GaveWithin left after (LARGEST_FILE - total) → (all : List ℕ) × (IsReadUntil source after Tree all × WritesFront all old new)
  read_failed {after} (last, gave, within) = (octets ++ last, (until_fault last after Tree gave (λ e. cc), front_whole octets last old new so_far.written))

  pub read_too_long : {after : Option (List ℕ)} → GaveMoreThan left after (LARGEST_FILE - total) → (all : List ℕ) × (IsReadUntil source after TooLarge all × WritesFront all old new)
  read_too_long {after} (last, gave, count) = (
    octets ++ last,
    (
      until_fault last after TooLarge gave (λ e. omega (arith, so_far.given.count, so_far.given.within, count, length-append octets last)),
      front_whole octets last old new so_far.written,
    ),
  )

  pub write_failed : {after : Option (List ℕ)} {n : ℕ} {buffer : List ℕ} {end : Option Stored} → GavePiece left after (LARGEST_FILE - total) n buffer → WritesFront (take n buffer) new end → (all : List ℕ) × (IsReadUntil source after Sink all × WritesFront all old end)
  write_failed {after} {n} {buffer} {end} piece part =
      (octets ++ take n buffer, (until_fault (take n buffer) after Sink piece.gave (λ e. cc), front_on octets (take n buffer) old new end so_far.written part))

  -- a source that ended, all in the buffer or in its last piece
  gave_all : {after : Option (List ℕ)} {n : ℕ} {buffer : List ℕ} → GavePiece left after (LARGEST_FILE - total) n buffer → IsAtEnd after → GaveAll source after LARGEST_FILE (octets ++ take n buffer)
  gave_all {after} {n} {buffer} piece end =
      let given = piece_given piece in
      record { gave = given.gave; none_left = end; within = omega (arith, given.count, given.within) }

  pub found_hashed : {after : Option (List ℕ)} {n : ℕ} {buffer : List ℕ} {end : Option Stored} {digests : Digests} → GavePiece left after (LARGEST_FILE - total) n buffer → IsAtEnd after → AreDigests digests set (octets ++ take n buffer)
      → Writes (take n buffer) new end → (all : List ℕ) × (IsReadWhole set source after buffer (Hashed (record { length = total + n; digests = digests })) all × Writes all old end)
  found_hashed {after} {n} {buffer} {end} {digests} piece at_end digested written = (
    octets ++ take n buffer,
    (
      record { gave = gave_all piece at_end; found_is = ((piece_given piece).count, digested) },
      writes_on octets (take n buffer) old new end so_far.written written,
    ),
  )

  -- the same for the result of reading
  pub read_stops : {after : Option (List ℕ)} (fault : SourceFault) → GaveBefore left after (LARGEST_FILE - total) (read_fault fault) → (all : List ℕ) × (IsReadUntil source after (copy_fault fault) all × WritesFront all old new)
  read_stops cause.Read gave = read_failed gave
  read_stops cause.TooLarge gave = read_too_long gave
