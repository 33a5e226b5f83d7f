-- The payload as far as it was read and written.
use Rattle.std.proofs.Common.{◌≡◌, ◌≤◌, ◌+◌, ◌∷◌, [], ◌++◌, ℕ, zero, suc, Bool, true, false, cond, map, List, Option, Some, None, IfErr, IfOk, MatchResult, Result, Ok, Err, Vec, length, take, drop, slice_get, get_or, refl, sym, ap, ◌∙◌, subst, inl, inr, arith, append-nil}
use Rattle.std.proofs.lemmas.List.{take-append-drop, take_all}
use Rattle.std.specs.List.{filter}
use Rattle.std.specs.declared.alloc.Global.{Global}
use Rattle.bag_digest.specs.declared.reading.SourceRead.{SourceRead}
use Rattle.bag_rules.proofs.HasLemmas.{has_push}
use Rattle.bag_rules.proofs.Words.{AreRising, cases_Bool, Files, Has, is_payload, get_or_from_slice_get, option_map, paths_in, payload_of, Shown, slice_get-map}
use Rattle.bag_rules.specs.declared.limits.TheConstants.{LARGEST_FILE}
use Rattle.bag_writer.specs.PayloadSteps.{IsCutShort, IsReadAs, IsTaken, unless_hole}
use Rattle.bag_writer.specs.Sinks.{IsFree, Stored}
use Rattle.bag_writer.specs.HeldFiles.{AddsFile, AreItemsSoFar}
use Rattle.bag_writer.specs.Steps.{AreHoleMarks, AreItemsOf, ArePart, AreWhole, HasNoFile, NamesLong, is_hole, written_payload}
use Rattle.bag_writer.specs.Writing.{HasLongFile, IsReadFrom}
use Rattle.bag_writer.specs.declared.too_large.Large.TheVariants as large
use Rattle.bag_writer.specs.declared.write_fault.WriteFault.{WriteFault}
use Rattle.bag_writer.specs.declared.write_fault.WriteFault.TheVariants.{Memory}
use Rattle.bag_writer.specs.declared.item.Item.{Item}
use Rattle.bag_writer.specs.declared.items.Items.{Items}
use Rattle.bag_writer.specs.declared.spec.Spec.{Spec}
use Rattle.bag_writer.proofs.FileSteps.{octets_unread, path_here}
use Rattle.bag_writer.proofs.PayloadLists.{absent_written, AreReadAs, File, payload_next, payload_on, payload_passed, payload_read, read_on, ShownFile, unread, unread_is, written_next, written_of, written_on}
use Rattle.bag_writer.proofs.StepLemmas.{free_at_first, free_still, part_after, part_more, part_whole, whole_none, whole_on}
use Rattle.bag_digest.proofs.ListLemmas.{rest_from, next_taken}

-- these files of a tree were read, the payload among them was written except for the holes, and these are its items
pub record HasWritten (spec : Spec) (shown : List ShownFile) (old new : Option Stored) (items : Items) (files : Files) : Type 0 where
  pub read : AreReadAs shown files
  pub items_are : AreItemsSoFar spec.algs items (payload_of files)
  pub short : ¬ HasLongFile (payload_of files) LARGEST_FILE
  pub whole : AreWhole (written_of spec files) old new

pub nothing_written : (spec : Spec) (s : Option Stored) (items : Items) → AreItemsSoFar spec.algs items [] → HasWritten spec [] s s items []
nothing_written spec s items none = record { read = tt; items_are = none; short = λ h. h.1.1; whole = whole_none s }

-- where no file is payload, none is at any place
pub none_at : (files : List ShownFile) (n : ℕ) (shown : ShownFile) → slice_get files n ≡ Some shown → is_payload shown.0 ≡ true → filter is_payload (map (λ (s : ShownFile). s.0) files) ≡ [] → ⊥
none_at [] n shown here is none = cc
none_at (s ∷ files) zero shown here is none =
    let rest = filter is_payload (map (λ (s : ShownFile). s.0) files) in
    let same : s ≡ shown = cc in
    let e : s.0 ∷ rest ≡ [] = subst (λ b. cond b (s.0 ∷ rest) rest ≡ []) (ap (λ (f : ShownFile). is_payload f.0) same ∙ is) none in
    cc
none_at (s ∷ files) (suc n) shown here is none =
    let rest = filter is_payload (map (λ (s : ShownFile). s.0) files) in
    elim (cases_Bool (is_payload s.0)) [
      | inl told ↦ (let e : s.0 ∷ rest ≡ [] = subst (λ b. cond b (s.0 ∷ rest) rest ≡ []) told none in cc)
      | inr told ↦ none_at files n shown here is (subst (λ b. cond b (s.0 ∷ rest) rest ≡ []) told none)
    ]

short_on : (files : Files) (file : File) → ¬ HasLongFile files LARGEST_FILE → length file.1 ≤ LARGEST_FILE → ¬ HasLongFile (files ++ file ∷ []) LARGEST_FILE
short_on files file short within (path, (octets, has, long)) = elim ((has_push files file (path, octets)).0 has) [
  | inl before ↦ short (path, (octets, before, long))
  | inr last ↦ (let e : length file.1 ≡ length octets = ap (λ (f : File). length f.1) last in omega (arith, within, long, e))
]

has_middle : (files rest : Files) (file : File) → Has (files ++ file ∷ rest) file
has_middle [] rest file = inl refl
has_middle (f ∷ files) rest file = inr (has_middle files rest file)

module _ (spec : Spec) (tree : Shown) (n : ℕ) (old new : Option Stored) (items : Items) (files : Files) (so_far : HasWritten spec (take n tree.files) old new items files) where
  -- all files were read
  pub all_written : length tree.files ≤ n → IsReadFrom tree (payload_of files)
  all_written all = payload_read tree files (subst (λ shown. AreReadAs shown files) (take_all n tree.files all) so_far.read)

  -- the same for the items of all, or if memory ran out for them
  pub all_finished : length tree.files ≤ n → (result : Result (Vec Item Global) WriteFault) → IfOk result (λ all. AreItemsOf spec.algs all.items (payload_of files)) → IfErr result (λ fault. fault ≡ Memory)
      → (payload : Files) × IsReadFrom tree payload × MatchResult result (λ all. AreItemsOf spec.algs all.items payload × (¬ HasLongFile payload LARGEST_FILE) × AreWhole (written_payload spec payload) old new)
      (λ fault. NamesLong large.File payload LARGEST_FILE fault × ArePart (written_payload spec payload) old new)
  all_finished all (Ok made) are refused = (payload_of files, all_written all, (are, so_far.short, so_far.whole))
  all_finished all (Err fault) are refused = (
    payload_of files,
    all_written all,
    ((λ large e. cc), subst (λ list. ArePart list old new) (append-nil (written_of spec files)) (part_whole (written_of spec files) [] old new so_far.whole)),
  )

  module _ (shown : ShownFile) (here : slice_get tree.files n ≡ Some shown) where
    next : take (n + 1) tree.files ≡ take n tree.files ++ shown ∷ []
    next = next_taken tree.files n shown here

    -- a file that isn't payload
    pub passed : is_payload shown.0 ≡ false → (more : Files) × HasWritten spec (take (n + 1) tree.files) old new items more
    passed other =
        let file : File = (shown.0, (octets_unread shown.1).0) in
        let same : payload_of (files ++ file ∷ []) ≡ payload_of files = payload_on files (file ∷ []) ∙ ap (λ list. payload_of files ++ list) (payload_passed file [] other) ∙ append-nil (payload_of files) in (
          files ++ file ∷ [],
          record {
            read = subst (λ list. AreReadAs list (files ++ file ∷ [])) (sym next) (read_on (take n tree.files) (shown ∷ []) files (file ∷ []) so_far.read (unread_is (shown ∷ [])));
            items_are = subst (AreItemsSoFar spec.algs items) (sym same) so_far.items_are;
            short = subst (λ list. ¬ HasLongFile list LARGEST_FILE) (sym same) so_far.short;
            whole = subst (λ list. AreWhole (written_payload spec list) old new) (sym same) so_far.whole;
          },
        )

    module _ (mark : Bool) (file : File) (payload : is_payload shown.0 ≡ true) (marked : is_hole spec.holes.items shown.0 ≡ mark) (read_as : IsReadAs shown file) where
      is_one : is_payload file.0 ≡ true
      is_one = ap is_payload read_as.0 ∙ payload

      is_marked : is_hole spec.holes.items file.0 ≡ mark
      is_marked = ap (is_hole spec.holes.items) read_as.0 ∙ marked

      next_payload : (rest : Files) → payload_of (files ++ file ∷ rest) ≡ payload_of files ++ file ∷ payload_of rest
      next_payload rest = payload_on files (file ∷ rest) ∙ ap (λ list. payload_of files ++ list) (payload_next file rest is_one)

      next_written : (rest : Files) → written_of spec (files ++ file ∷ rest) ≡ written_of spec files ++ (unless_hole mark file ++ written_of spec rest)
      next_written rest = written_on spec files (file ∷ rest) ∙ ap (λ list. written_of spec files ++ list) (written_next spec file rest mark is_one is_marked)

      -- a payload file that was processed
      pub one_more : (end : Option Stored) (buffer : List ℕ) (path : List ℕ) (found : SourceRead) (more : Items) → IsTaken spec.algs mark file new end buffer (path, found) → AddsFile spec.algs (path, file.1) items more → HasWritten spec (take (n + 1) tree.files) old end more (files ++ file ∷ [])
      one_more end buffer path found more taken adds = record {
        read = subst (λ list. AreReadAs list (files ++ file ∷ [])) (sym next) (read_on (take n tree.files) (shown ∷ []) files (file ∷ []) so_far.read (read_as, tt));
        items_are = subst (AreItemsSoFar spec.algs more) (ap (λ p. payload_of files ++ (p, file.1) ∷ []) taken.path_is ∙ sym (next_payload [])) (adds (payload_of files) so_far.items_are);
        short = subst (λ list. ¬ HasLongFile list LARGEST_FILE) (sym (next_payload [])) (short_on (payload_of files) file so_far.short taken.within);
        whole = subst (λ list. AreWhole list old end) (sym (next_written [] ∙ ap (λ list. written_of spec files ++ list) (append-nil (unless_hole mark file)))) (whole_on (written_of spec files) (unless_hole mark file) old new end so_far.whole taken.written);
      }

      -- a payload file at which writing stopped
      pub stopped_in : (end : Option Stored) (fault : WriteFault) → IsCutShort mark file new end fault
          → (all : Files) × IsReadFrom tree all × (NamesLong large.File all LARGEST_FILE fault × ArePart (written_payload spec all) old end)
      stopped_in end fault cut =
          let rest = unread (drop (n + 1) tree.files) in
          let shown_rest = shown ∷ drop (n + 1) tree.files in
          let joined = read_on (take n tree.files) shown_rest files (file ∷ rest) so_far.read (read_as, unread_is (drop (n + 1) tree.files)) in (
            payload_of (files ++ file ∷ rest),
            payload_read tree (files ++ file ∷ rest)
                (subst (λ list. AreReadAs list (files ++ file ∷ rest)) (ap (λ list. take n tree.files ++ list) (sym (rest_from tree.files n shown here)) ∙ take-append-drop n tree.files) joined),
            (
              (λ what e. let long = cut.long what e in (file.0, long.0, (file.1, subst (λ list. Has list file) (sym (next_payload rest)) (has_middle (payload_of files) (payload_of rest) file), long.1))),
              subst (λ list. ArePart list old end) (sym (next_written rest))
                  (part_after (written_of spec files) (unless_hole mark file ++ written_of spec rest) old new end so_far.whole (part_more (unless_hole mark file) (written_of spec rest) new end cut.written)),
            ),
          )

  -- the sink has no file yet at the path of the next one
  pub free_next : AreRising (paths_in tree) → (path : List ℕ) → slice_get (paths_in tree) n ≡ Some path → HasNoFile old → IsFree new path
  free_next rising path here none =
      free_still (written_of spec files) path old new (free_at_first old path none)
      (absent_written tree spec files n path rising so_far.read here) so_far.whole

-- THE FILE AT A PLACE

found_shown : (o : Option ShownFile) (path : List ℕ) → option_map (λ (s : ShownFile). s.0) o ≡ Some path → (s : ShownFile) × ((o ≡ Some s) × (s.0 ≡ path))
found_shown None path e = absurd (cc)
found_shown (Some s) path e = let k : s.0 ≡ path = cc in (s, (refl, k))

-- the file at the place of a path, if the tree still shows the same
pub shown_at : (tree now : Shown) → now ≡ tree → (i : ℕ) (path : List ℕ) → slice_get (paths_in now) i ≡ Some path → (s : ShownFile) × ((slice_get tree.files i ≡ Some s) × (s.0 ≡ path))
shown_at tree now same i path e =
    found_shown (slice_get tree.files i) path (sym (slice_get-map (λ (s : ShownFile). s.0) tree.files i) ∙ subst (λ (s : Shown). slice_get (paths_in s) i ≡ Some path) same e)

pub marked_at : (spec : Spec) (tree : Shown) (marks : List Bool) (i : ℕ) (shown : ShownFile) → AreHoleMarks (paths_in tree) spec marks → slice_get tree.files i ≡ Some shown → is_hole spec.holes.items shown.0 ≡ get_or marks i false
marked_at spec tree marks i shown are here =
    sym (get_or_from_slice_get marks i (is_hole spec.holes.items shown.0) false (
    ap (λ list. slice_get list i) are.each
    ∙ slice_get-map (is_hole spec.holes.items) (paths_in tree) i
    ∙ ap (option_map (is_hole spec.holes.items)) (path_here tree i shown here)
    ))
