use Rattle.std.proofs.Common.{◌≡◌, ◌≤◌, ◌-◌, ◌∙◌, MatchOption, Some, ap, arith, length, refl, slice_get, subst}
use Rattle.std.proofs.lemmas.Option.{slice_get_read}
use Rattle.bag_rules.specs.declared.file_batch.FileSums.TheVariants.{Unread, Taken, Waiting, Streamed}
use Rattle.bag_rules.proofs.BatchLemmas.{held_at, reading_at, streamed_at}
use Rattle.bag_rules.proofs.file_batch.FileBatch.sums.Goals as goal

pub returns-in-Unread : goal.returns-in-Unread
returns-in-Unread c = λ shown wants path octets are at.
    let there : slice_get c.args.self.now.read.items (c.args.place - c.args.self.now.first) ≡ Some Unread = slice_get_read c.args.self.now.read.items (length c.args.self.now.read.items) (c.args.place - c.args.self.now.first) c.index.result.now refl (omega (arith, c.requires.0, c.requires.1)) c.index.ensures ∙ ap Some c.in-Unread.is in
    reading_at shown wants c.args.self.now c.args.place path octets Unread are c.requires at there

pub returns-in-Taken : goal.returns-in-Taken
returns-in-Taken c = λ shown wants path octets are at.
    let there : slice_get c.args.self.now.read.items (c.args.place - c.args.self.now.first) ≡ Some (Taken c.in-Taken.sums) = slice_get_read c.args.self.now.read.items (length c.args.self.now.read.items) (c.args.place - c.args.self.now.first) c.index.result.now refl (omega (arith, c.requires.0, c.requires.1)) c.index.ensures ∙ ap Some c.in-Taken.is in
    reading_at shown wants c.args.self.now c.args.place path octets (Taken c.in-Taken.sums) are c.requires at there

pub returns-in-Waiting : goal.returns-in-Waiting
returns-in-Waiting c = λ shown wants path octets are at.
    let there : slice_get c.args.self.now.read.items (c.args.place - c.args.self.now.first) ≡ Some (Waiting c.in-Waiting.place) = slice_get_read c.args.self.now.read.items (length c.args.self.now.read.items) (c.args.place - c.args.self.now.first) c.index.result.now refl (omega (arith, c.requires.0, c.requires.1)) c.index.ensures ∙ ap Some c.in-Waiting.is in
    held_at c.args.self.now wants path octets c.in-Waiting.place c.sums_at.result are.sums (reading_at shown wants c.args.self.now c.args.place path octets (Waiting c.in-Waiting.place) are c.requires at there)
    (subst (λ xs. MatchOption c.sums_at.result (length xs ≤ c.in-Waiting.place) (λ sums. slice_get xs c.in-Waiting.place ≡ Some sums)) c.deref.ensures.value c.sums_at.ensures)

pub returns-in-Streamed : goal.returns-in-Streamed
returns-in-Streamed c = λ shown wants path octets are at.
    let there : slice_get c.args.self.now.read.items (c.args.place - c.args.self.now.first) ≡ Some (Streamed c.in-Streamed.place) = slice_get_read c.args.self.now.read.items (length c.args.self.now.read.items) (c.args.place - c.args.self.now.first) c.index.result.now refl (omega (arith, c.requires.0, c.requires.1)) c.index.ensures ∙ ap Some c.in-Streamed.is in
    streamed_at c.args.self.now wants path octets c.in-Streamed.place c.sums_at-in-Streamed.result (reading_at shown wants c.args.self.now c.args.place path octets (Streamed c.in-Streamed.place) are c.requires at there)
    (subst (λ xs. MatchOption c.sums_at-in-Streamed.result (length xs ≤ c.in-Streamed.place) (λ sums. slice_get xs c.in-Streamed.place ≡ Some sums)) c.deref-in-Streamed.ensures.value c.sums_at-in-Streamed.ensures)
