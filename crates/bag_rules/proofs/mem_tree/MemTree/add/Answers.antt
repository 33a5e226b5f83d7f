use Rattle.std.proofs.Common.{ap, sym, subst, refl, ◌∙◌, ◌||◌, Contains}
use Rattle.bag_rules.specs.Memory.{FindsAlso}
use Rattle.bag_rules.specs.Files.{files_of}
use Rattle.bag_rules.proofs.Words.{Inside, mem_paths, view_of, with_file}
use Rattle.bag_rules.proofs.MemoryFiles.{absent_in_gap}
use Rattle.bag_rules.proofs.FilesShown.{same_gap}
use Rattle.bag_rules.proofs.MemoryAdded.{HasAdded, view_added, sound_added, finds_added}
use Rattle.bag_rules.proofs.mem_tree.MemTree.add.Goals as goal

-- memory ran out: the path has a gap, so it isn't there
pub returns-in_default-clause-twice : goal.returns-in_default-clause-twice
returns-in_default-clause-twice c =
    let gap = same_gap c.self.inside.files.items c.deref.result.now c.args.path c.as_str.result.now c.in-Err.place c.deref.ensures.value c.as_str.ensures.text c.in-Err.ensures.absent in (
      λ e. absurd (cc),
      λ found. absurd (absent_in_gap c.args.path (files_of c.self.inside.files.items) _ c.self.invariant.rising gap (subst (λ t. Contains (mem_paths t) c.args.path) (sym c.self.view_is) found)),
    )

-- the file went into the gap
abbrev new : goal.After-self-2-1 → Inside
new c = record {
  files = c.insert.new.self;
  has_payload_dir = c.self.inside.has_payload_dir || c.is_payload-is_payload.result;
  reading = c.moved_up-self-inside.result;
  failures = c.self.inside.failures;
}

added : (c : goal.After-self-2-1) → HasAdded c.self.inside (new c) c.in-Err.place (record { path = c.args.path; body = c.args.body })
added c = record {
  gap = same_gap c.self.inside.files.items c.deref.result.now c.args.path c.as_str.result.now c.in-Err.place c.deref.ensures.value c.as_str.ensures.text c.in-Err.ensures.absent;
  files = c.in-Ok-insert.ensures.items;
  has_payload_dir = ap (λ b. c.self.inside.has_payload_dir || b) c.is_payload-is_payload.ensures;
  reading = c.moved_up-self-inside.ensures;
  failures = refl;
}

pub invariant_of-self-2 : goal.invariant_of-self-2
invariant_of-self-2 c = sound_added c.self.inside (new c) c.in-Err.place _ c.self.invariant (added c)

pub returns-clause-added : goal.returns-clause-added
returns-clause-added c = view_added c.self.inside (new c) c.in-Err.place _ c.self.invariant (added c) ∙ ap (λ t. with_file t c.args.path c.args.body.items) c.self.view_is

pub returns-clause-twice : goal.returns-clause-twice
returns-clause-twice c = (
  λ e. absurd (cc),
  λ found. absurd (absent_in_gap c.args.path (files_of c.self.inside.files.items) _ c.self.invariant.rising (added c).gap (subst (λ t. Contains (mem_paths t) c.args.path) (sym c.self.view_is) found)),
)

pub returns-clause-found : goal.returns-clause-found
returns-clause-found c = subst (λ t. FindsAlso t (view_of (new c)) c.args.path c.args.body.items) c.self.view_is (finds_added c.self.inside (new c) c.in-Err.place _ c.self.invariant (added c))

pub returns-clause-rising : goal.returns-clause-rising
returns-clause-rising c = (sound_added c.self.inside (new c) c.in-Err.place _ c.self.invariant (added c)).rising
