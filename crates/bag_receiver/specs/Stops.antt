-- Deliveries that are cut by stops: a crash or the end of the program, after which the ledger is opened again.
use Rattle.std.specs.Prelude.{◌≡◌, ◌⊎◌, ◌∷◌, [], List, ℕ, Contains}
use Rattle.std.specs.Map.{keys_of}
use Rattle.std.specs.BTreeMap.{insert_entry}
use Rattle.std.specs.Ordering.{nat_cmp}
use Rattle.std.specs.Cmp.Lexicographic.{slice_cmp}
use Rattle.bag_rules.specs.Faults.{Has}
use Rattle.bag_rules.specs.Files.{Files}
use Rattle.bag_rules.specs.Transfers.{Passes}
use Rattle.bag_receiver.specs.declared.answer.Answer.{Answer}
use Rattle.bag_receiver.specs.declared.answer.Answer.TheVariants.{Taken, Repeated, Refused}
use Rattle.bag_receiver.specs.declared.answer.DeliverFault.TheVariants.{Keeper}
use Rattle.bag_receiver.specs.Deliveries.{Brings, Content, Delivery, PassesIn, Whole}

-- what happens to a transfer
pub data Event : Type 0 where
  -- a delivery was answered
  Answered : Delivery → Event
  -- a stop came before the answer to this content for this path
  Cut : List ℕ → Content → Event
  -- the program stopped, and the ledger was opened again
  Stop : Event

-- the event brought this content for the path
abbrev pub BringsAt : Event → List ℕ → List ℕ → Type 0
BringsAt (Answered delivery) path content = Brings delivery path content
BringsAt (Cut text brought) path content = (text ≡ path) × (brought ≡ Whole content)
BringsAt Stop path content = ⊥

-- some event brought this content for the path
abbrev pub OffersIn : List Event → List ℕ → List ℕ → Type 0
OffersIn events path content = (event : Event) × Has events event × BringsAt event path content

-- What one transfer holds: the payload files, and those of which only a stop will show whether they were written.
pub record TransferState : Type 0 where
  pub held : Files
  pub doubtful : Files

abbrev pub transfer_state : Files → Files → TransferState
transfer_state held doubtful = record { held = held; doubtful = doubtful }

-- nothing is held, and nothing is doubtful
abbrev pub nothing_held : TransferState
nothing_held = transfer_state [] []

-- a file is added
abbrev pub with_file : Files → List ℕ → List ℕ → Files
with_file held path content = insert_entry (slice_cmp nat_cmp) held path content

-- a content that was received completely is doubtful
abbrev pub with_doubtful_file : TransferState → List ℕ → Content → TransferState
with_doubtful_file old path (Whole content) =
    record old { doubtful = (path, content) ∷ old.doubtful }
with_doubtful_file old path content = old

-- The content is valid, and the path isn't held. The file is added.
pub record Gains (tags held : Files) (path content : List ℕ) (new : Files) : Type 0 where
  pub passes : Passes tags path content
  pub not_held : ¬ Contains (keys_of held) path
  pub becomes : new ≡ with_file held path content

-- What an answer says about what is held. What was taken is held for certain, and what was doubtful before it isn't
-- held.
abbrev pub AnswerStep : Files → List ℕ → Content → Answer → TransferState → TransferState → Type 0
AnswerStep tags path content Taken old new = (octets : List ℕ) × (content ≡ Whole octets)
    × Gains tags old.held path octets new.held × (new.doubtful ≡ [])
AnswerStep tags path content Repeated old new = PassesIn tags path content
    × Contains (keys_of old.held) path × (new ≡ old)
AnswerStep tags path content (Refused (Keeper fault)) old new =
    new ≡ with_doubtful_file old path content
AnswerStep tags path content (Refused fault) old new = new ≡ old

-- after a stop one of the doubtful files may be held, if it is valid and its path wasn't held; nothing is doubtful any
-- more
pub record StopStep (tags : Files) (old new : TransferState) : Type 0 where
  pub settled : new.doubtful ≡ []
  pub held : (new.held ≡ old.held)
      ⊎ ((path : List ℕ) × (content : List ℕ) × Has old.doubtful (path, content)
      × Gains tags old.held path content new.held)

abbrev pub Step : Files → Event → TransferState → TransferState → Type 0
Step tags (Answered delivery) old new =
    AnswerStep tags delivery.text delivery.content delivery.answer old new
Step tags (Cut path content) old new = new ≡ with_doubtful_file old path content
Step tags Stop old new = StopStep tags old new

-- these events lead from the one state to the other
abbrev pub Steps : Files → List Event → TransferState → TransferState → Type 0
Steps tags [] old new = new ≡ old
Steps tags (event ∷ events) old new = (next : TransferState) × Step tags event old next
    × Steps tags events next new

-- these files are held by a transfer with these tag files after these events since it was opened
abbrev pub StopRun : Files → List Event → Files → Type 0
StopRun tags events held = (doubtful : Files)
    × Steps tags events nothing_held (transfer_state held doubtful)
