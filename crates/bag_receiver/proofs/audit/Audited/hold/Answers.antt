use Rattle.std.proofs.Common.{◌≤◌, ℕ, Vec, arith, ap, length, refl}
use Rattle.std.specs.declared.alloc.Global.{Global}
use Rattle.bag_digest.specs.declared.buffers.TheConstants.{PIECE}
use Rattle.std.proofs.lemmas.List.{length_push}
use Rattle.bag_receiver.proofs.AuditedLemmas.{all_small, held_more, sound_more, whole_more}
use Rattle.bag_receiver.proofs.audit.Audited.hold.Goals as goal

pub invariant_of-result : goal.invariant_of-result
invariant_of-result c =
    let contents = c.args.self.held.contents.items in
    let more = held_more c.args.self.held c.want.new.self c.add.new.self c.algs.result c.args.known c.args.content c.want.ensures c.in_ok-add.ensures.added in
    record {
      few = omega (arith, c.requires.room, ap length more, length_push contents c.args.content);
      small = rw more (all_small (λ (v : Vec ℕ Global). length v.items ≤ PIECE) contents c.args.content c.args.self.small c.requires.small);
    }

pub returns-clause-sound : goal.returns-clause-sound
returns-clause-sound c = λ tags sound is. sound_more c.args.self _ c.args.known c.args.content c.want.new.self c.algs.result c.algs.ensures c.want.ensures c.in_ok-add.ensures.added refl tags sound is

pub returns-clause-whole : goal.returns-clause-whole
returns-clause-whole c = λ sizes whole wanted. whole_more c.args.self _ c.args.known c.args.content c.want.new.self c.algs.result c.algs.ensures c.want.ensures c.in_ok-add.ensures.added refl sizes whole wanted
