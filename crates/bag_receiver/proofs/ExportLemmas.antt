-- Held files, read and written to a sink.
use Rattle.std.proofs.Common.{◌≡◌, ◌<◌, ◌≤◌, ◌+◌, ◌-◌, ◌++◌, ◌∷◌, [], ℕ, List, Option, Some, None, drop, length, slice_get, take, append_assoc, refl, sym, ap, subst, ◌∙◌, arith}
use Rattle.std.proofs.lemmas.List.{length-take-le, take-append-drop, take_all}
use Rattle.std.proofs.Math.Seq.{take-append_seam}
use Rattle.bag_rules.proofs.TreeLemmas.{text_of}
use Rattle.bag_rules.specs.declared.file.File.{File as FileOf}
use Rattle.bag_rules.specs.declared.plan.ItemSize.{ItemSize}
use Rattle.bag_rules.specs.Files.{files_of}
use Rattle.bag_rules.specs.Plans.{sizes_of}
use Rattle.bag_rules.specs.Transfers.{held_bag}
use Rattle.bag_writer.proofs.OctetSteps.{front_on, writes_none, writes_on}
use Rattle.bag_writer.proofs.StepLemmas.{part_after, part_more, whole_on}
use Rattle.bag_writer.proofs.TagSteps.{free_after}
use Rattle.bag_writer.specs.PayloadSteps.{Writes, WritesFront}
use Rattle.bag_writer.specs.Sinks.{IsFree, Stored}
use Rattle.bag_writer.specs.Steps.{ArePart, AreWhole}
use Rattle.bag_writer.specs.TagWriting.{AreFree}
use Rattle.bag_receiver.specs.ExportsInside.{HasItems, WritesAsMany}
use Rattle.bag_receiver.specs.Holdings.{HasItem}
use Rattle.bag_receiver.proofs.AuditLemmas.{GavePiece, item_stays, take_next}
use Rattle.bag_receiver.proofs.Words.{bytes_eq, Files, Ledger, length-append, length-map, lookup, option_map, Reads, slice_get-map}
use Rattle.bag_digest.proofs.ListLemmas.{rest_from, next_taken}

-- THE OCTETS OF A FILE

-- a front of some octets is also a front of more octets
front_longer : (octets more : List ℕ) (a b : Option Stored) → WritesFront octets a b → WritesFront (octets ++ more) a b
front_longer octets more a b (n, written) =
    let front = take n octets in
    let all : octets ++ more ≡ front ++ (drop n octets ++ more) = ap (λ list. list ++ more) (sym (take-append-drop n octets)) ∙ append_assoc front (drop n octets) more in
    (length front, subst (λ list. Writes list a b) (sym (ap (take (length front)) all ∙ take-append_seam front (drop n octets ++ more))) written)

pub wrote_more : (read n : ℕ) (buffer : List ℕ) (a b c : Option Stored) → n ≤ length buffer → WritesAsMany read a b → Writes (take n buffer) b c → WritesAsMany (read + n) a c
wrote_more read n buffer a b c within (octets, count, written) more =
    let both = length-append octets (take n buffer) in
    let piece = length-take-le n buffer within in
    (octets ++ take n buffer, omega (arith, count, both, piece), writes_on octets (take n buffer) a b c written more)

pub wrote_all : (n read : ℕ) (a b : Option Stored) → read ≡ n → WritesAsMany read a b → WritesAsMany n a b
wrote_all n read a b all (octets, count, written) = (octets, sym all ∙ count, written)

module _ {K : Type 0} (holds : K → Ledger → Type 0) (clean : K → Type 0) where
  -- this many octets of what is held at the path were written
  abbrev pub HasWritten : K → K → List ℕ → List ℕ → ℕ → ℕ → Option Stored → Option Stored → Type 0
  HasWritten old now name path octets read before after = clean now → (content : List ℕ) → HasItem holds old name path content → octets ≡ length content → Writes (take read content) before after

  pub written_none : (old : K) (name path : List ℕ) (octets : ℕ) (s : Option Stored) → HasWritten old old name path octets 0 s s
  written_none old name path octets s c content item sized = writes_none s

  pub written_all : (old now : K) (name path : List ℕ) (octets read : ℕ) (before after : Option Stored) → octets ≤ read → HasWritten old now name path octets read before after
      → clean now → (content : List ℕ) → HasItem holds old name path content → octets ≡ length content → Writes content before after
  written_all old now name path octets read before after all written c content item sized =
      subst (λ list. Writes list before after) (take_all read content (omega (arith, all, sized))) (written c content item sized)

module _ {K : Type 0} (holds may_leave : K → Ledger → Type 0) (clean : K → Type 0) (old middle new : K) (name path : List ℕ) (octets read n : ℕ) (buffer : List ℕ) (within : read ≤ octets)
    (before : Reads holds may_leave clean old middle) (reads : Reads holds may_leave clean middle new) where
  -- the keeper failed
  pub written_until : (a b : Option Stored) → HasWritten holds clean old middle name path octets read a b
      → clean new → (content : List ℕ) → HasItem holds old name path content → octets ≡ length content → WritesFront content a b
  written_until a b written c content item sized = (read, written (reads.was_clean c) content item sized)

  module _ (gave : GavePiece holds may_leave clean middle new name path read (octets - read) n buffer) where
    piece : clean new → (content : List ℕ) → HasItem holds old name path content → octets ≡ length content → (0 < n) × (take n buffer ≡ take n (drop read content))
    piece c content item sized = gave c content (item_stays holds may_leave clean old middle name path content before (reads.was_clean c) item) (omega (arith, within, sized))

    -- it gives some octets
    pub none_given : n ≡ 0 → clean new → (content : List ℕ) → HasItem holds old name path content → octets ≡ length content → ⊥
    none_given none c content item sized = (let some = (piece c content item sized).0 in omega (arith, none, some))

    joined : clean new → (content : List ℕ) → HasItem holds old name path content → octets ≡ length content → take read content ++ take n buffer ≡ take (read + n) content
    joined c content item sized = ap (λ p. take read content ++ p) (piece c content item sized).1 ∙ sym (take_next content read n (omega (arith, within, sized)))

    module _ (a b d : Option Stored) (written : HasWritten holds clean old middle name path octets read a b) where
      -- one more piece
      pub written_more : Writes (take n buffer) b d → HasWritten holds clean old new name path octets (read + n) a d
      written_more more c content item sized =
          subst (λ list. Writes list a d) (joined c content item sized) (writes_on (take read content) (take n buffer) a b d (written (reads.was_clean c) content item sized) more)

      -- and part of a piece
      pub written_part : WritesFront (take n buffer) b d → clean new → (content : List ℕ) → HasItem holds old name path content → octets ≡ length content → WritesFront content a d
      written_part part c content item sized =
          subst (λ list. WritesFront list a d) (ap (λ list. list ++ drop (read + n) content) (joined c content item sized) ∙ take-append-drop (read + n) content)
          (front_longer (take read content ++ take n buffer) (drop (read + n) content) a d (front_on (take read content) (take n buffer) a b d (written (reads.was_clean c) content item sized) part))

-- FILES IN SEQUENCE

abbrev File : Type 0
File = List ℕ × List ℕ

module _ (files : Files) (i : ℕ) (file : File) (here : slice_get files i ≡ Some file) (old mid new : Option Stored) (so_far : AreWhole (take i files) old mid) where
  parted : take i files ++ file ∷ drop (i + 1) files ≡ files
  parted = ap (λ rest. take i files ++ rest) (sym (rest_from files i file here)) ∙ take-append-drop i files

  pub whole_more : AreWhole (file ∷ []) mid new → AreWhole (take (i + 1) files) old new
  whole_more whole = subst (λ (fs : Files). AreWhole fs old new) (sym (next_taken files i file here)) (whole_on (take i files) (file ∷ []) old mid new so_far whole)

  pub part_here : ArePart (file ∷ []) mid new → ArePart files old new
  part_here part = subst (λ (fs : Files). ArePart fs old new) parted
      (part_after (take i files) (file ∷ drop (i + 1) files) old mid new so_far (part_more (file ∷ []) (drop (i + 1) files) mid new part))

  pub free_here : AreFree old files → IsFree mid file.0
  free_here free = (free_after (take i files) (file ∷ drop (i + 1) files) old mid (subst (AreFree old) (sym parted) free) so_far).0

pub whole_all : (files : Files) (i : ℕ) (old new : Option Stored) → length files ≤ i → AreWhole (take i files) old new → AreWhole files old new
whole_all files i old new past whole = subst (λ (fs : Files). AreWhole fs old new) (take_all i files past) whole

-- the tag file at an index
pub tag_at : (tags : Files) (files : List FileOf) (i : ℕ) (file : FileOf) → files_of files ≡ tags → slice_get files i ≡ Some file → slice_get tags i ≡ Some (file.path, file.body.items)
tag_at tags files i file same here =
    ap (λ (fs : Files). slice_get fs i) (sym same) ∙ slice_get-map (λ (file : FileOf). (file.path, file.body.items)) files i ∙ ap (option_map (λ (file : FileOf). (file.path, file.body.items))) here

-- PAYLOAD FILES THAT ARE HELD

pub of_some : {X Y : Type 0} (f : X → Y) (o : Option X) (y : Y) → option_map f o ≡ Some y → (x : X) × (o ≡ Some x) × (f x ≡ y)
of_some f None y e = absurd (cc)
of_some f (Some x) y e = (x, refl, let k : f x ≡ y = cc in k)

module _ {K : Type 0} (holds : K → Ledger → Type 0) where
  -- the payload file with this size
  record IsItemAt (keeper : K) (name : List ℕ) (files : Files) (i : ℕ) (item : ItemSize) : Type 0 where
    file : File
    here : slice_get files i ≡ Some file
    path_is : file.0 ≡ item.path
    sized : item.octets ≡ length file.1
    held : HasItem holds keeper name item.path file.1

  item_at : (keeper : K) (name : List ℕ) (files : Files) (sizes : List ItemSize) (i : ℕ) (item : ItemSize) → HasItems holds keeper name files → sizes ≡ sizes_of files → slice_get sizes i ≡ Some item → IsItemAt keeper name files i item
  item_at keeper name files sizes i item (ledger, h, are, rising) sized at =
      let (file, here, is) = of_some (λ (file : File). record { path = file.0; octets = length file.1 }) (slice_get files i) item
      (sym (slice_get-map (λ (file : File). record { path = file.0; octets = length file.1 }) files i) ∙ ap (λ list. slice_get list i) (sym sized) ∙ at) in
      let path_is : file.0 ≡ item.path = ap (λ (s : ItemSize). s.path) is in
      let found : lookup (bytes_eq file.0) files ≡ Some file.1 = text_of (held_bag files []) file.0 file.1 rising (i, here) in
      record {
        file = file;
        here = here;
        path_is = path_is;
        sized = sym (ap (λ (s : ItemSize). s.octets) is);
        held = (ledger, h, ap (lookup (bytes_eq item.path)) are ∙ subst (λ path. lookup (bytes_eq path) files ≡ Some file.1) path_is found);
      }

  abbrev pub Written : (K → Type 0) → K → K → List ℕ → List ItemSize → ℕ → Option Stored → Option Stored → Type 0
  Written clean old now name sizes i a b = clean now → (files : Files) → HasItems holds old name files → sizes ≡ sizes_of files → AreWhole (take i files) a b

  pub items_all : (clean : K → Type 0) (old now : K) (name : List ℕ) (sizes : List ItemSize) (i : ℕ) (a b : Option Stored) → length sizes ≤ i → Written clean old now name sizes i a b
      → clean now → (files : Files) → HasItems holds old name files → sizes ≡ sizes_of files → AreWhole files a b
  items_all clean old now name sizes i a b past written c files items sized =
      let count = ap length sized ∙ length-map files (λ (file : File). record { path = file.0; octets = length file.1 }) in
      whole_all files i a b (omega (arith, past, count)) (written c files items sized)

module _ {K : Type 0} (holds may_leave : K → Ledger → Type 0) (clean : K → Type 0) where
  pub items_stay : (old new : K) (name : List ℕ) (files : Files) → Reads holds may_leave clean old new → clean new → HasItems holds old name files → HasItems holds new name files
  items_stay old new name files reads c (ledger, h, are, rising) = (ledger, reads.held c ledger h, are, rising)

  module _ (old middle new : K) (name : List ℕ) (sizes : List ItemSize) (i : ℕ) (item : ItemSize) (at : slice_get sizes i ≡ Some item)
      (before : Reads holds may_leave clean old middle) (reads : Reads holds may_leave clean middle new) (a b d : Option Stored) (so_far : Written holds clean old middle name sizes i a b) where
    -- what is reported of the writing of this file
    abbrev Told : (Files → Type 0) → Type 0
    Told such = clean new → (content : List ℕ) → HasItem holds middle name item.path content → item.octets ≡ length content → such ((item.path, content) ∷ [])

    the_item : clean new → (files : Files) → HasItems holds old name files → sizes ≡ sizes_of files → IsItemAt holds middle name files i item
    the_item c files items sized = item_at holds middle name files sizes i item (items_stay old middle name files before (reads.was_clean c) items) sized at

    of_it : (such : Files → Type 0) → Told such → (c : clean new) (files : Files) (items : HasItems holds old name files) (sized : sizes ≡ sizes_of files) → such ((the_item c files items sized).file ∷ [])
    of_it such told c files items sized =
        let it = the_item c files items sized in
        subst (λ path. such ((path, it.file.1) ∷ [])) (sym it.path_is) (told c it.file.1 it.held it.sized)

    pub items_more : Told (λ fs. AreWhole fs b d) → Written holds clean old new name sizes (i + 1) a d
    items_more told c files items sized =
        let it = the_item c files items sized in
        whole_more files i it.file it.here a b d (so_far (reads.was_clean c) files items sized) (of_it (λ fs. AreWhole fs b d) told c files items sized)

    pub items_part : Told (λ fs. ArePart fs b d) → clean new → (files : Files) → HasItems holds old name files → sizes ≡ sizes_of files → ArePart files a d
    items_part told c files items sized =
        let it = the_item c files items sized in
        part_here files i it.file it.here a b d (so_far (reads.was_clean c) files items sized) (of_it (λ fs. ArePart fs b d) told c files items sized)

    pub items_free : clean new → (files : Files) → HasItems holds old name files → sizes ≡ sizes_of files → AreFree a files → IsFree b item.path
    items_free c files items sized free =
        let it = the_item c files items sized in
        subst (IsFree b) it.path_is (free_here files i it.file it.here a b d (so_far (reads.was_clean c) files items sized) free)
