use Rattle.std.proofs.Common.{◌∙◌, Contains, ap, arith, subst, sym}
use Rattle.bag_rules.specs.Files.{IsTagPath, paths_of}
use Rattle.bag_rules.proofs.Words.{File, files_of, insert_entry, IsGapFor, keys_of, nat_cmp, slice_cmp}
use Rattle.bag_rules.proofs.MemoryFiles.{absent_in_gap}
use Rattle.bag_rules.proofs.FilesShown.{same_gap}
use Rattle.bag_rules.proofs.TagSetLemmas.{files_put, not_refused, tags_put}
use Rattle.bag_rules.proofs.tag_set.TagSet.insert.Goals.{In-Err}
use Rattle.bag_rules.proofs.tag_set.TagSet.insert.Goals as goal

-- it is the path of a tag file, and no file has it yet
is_tag : (c : In-Err) → IsTagPath c.args.path
is_tag c = (c.as_str-text.ensures.path, sym c.is_payload.ensures ∙ c.if-is_payload.false)

gap_is : (c : In-Err) → IsGapFor (paths_of c.self.inside.files.items) c.args.path c.in-Err.place
gap_is c = same_gap c.self.inside.files.items c.deref.result.now c.args.path c.as_str-text.result.now c.in-Err.place c.deref.ensures.value c.as_str-text.ensures.text c.in-Err.ensures.absent

absent : (c : In-Err) → ¬ Contains (keys_of c.args.self.now) c.args.path
absent c = λ found. absent_in_gap c.args.path (files_of c.self.inside.files.items) _ c.self.invariant.rising (gap_is c) (subst (λ files. Contains (keys_of files) c.args.path) (sym c.self.view_is) found)

pub returns-then-len-gt-LARGEST_TAG_FILE-clause-fault : goal.returns-then-len-gt-LARGEST_TAG_FILE-clause-fault
returns-then-len-gt-LARGEST_TAG_FILE-clause-fault c =
    let at = (goal.at.returns-then-len-gt-LARGEST_TAG_FILE-clause-fault c).In-Err in
    (is_tag at, absent at, omega arith)

file : goal.In-Ok → File
file c = record { path = c.args.path; body = c.args.body }

pub invariant_of-self-2 : goal.invariant_of-self-2
unfolding file
invariant_of-self-2 c =
    let at = (goal.at.invariant_of-self-2 c).In-Err in
    tags_put c.self.inside.files.items c.insert.new.self.items c.in-Err.place (file c) (gap_is at) c.in-Ok.ensures.items c.self.invariant (is_tag at, omega arith)

pub returns-clause-added : goal.returns-clause-added
unfolding file
returns-clause-added c =
    let at = (goal.at.returns-clause-added c).In-Err in
    files_put c.self.inside.files.items c.insert.new.self.items c.in-Err.place (file c) (gap_is at) c.in-Ok.ensures.items
    ∙ ap (λ files. insert_entry (slice_cmp nat_cmp) files c.args.path c.args.body.items) c.self.view_is

pub returns-clause-fault : goal.returns-clause-fault
returns-clause-fault c =
    let at = (goal.at.returns-clause-fault c).In-Err in
    not_refused c.args.self.now c.args.path c.args.body.items (is_tag at) (absent at) (omega arith)
