use Rattle.std.proofs.Common.{[], ap, ◌∙◌, slice_index_or}
use Rattle.sha1.specs.Sha1.{add_state, compress}
use Rattle.bag_lanes.specs.Lanes.{lane}
use Rattle.bag_lanes.proofs.Sha1Rounds.{sha1_start}
use Rattle.bag_lanes.proofs.Vectors.{lane_at, length-lane}
use Rattle.bag_lanes.proofs.sha1_rounds.Sha1Algorithm5.compress.Goals as goal

pub returns : goal.returns
unfolding compress
returns c = λ i l.
    let s = c.args.state.now in
    let b = slice_index_or c.args.blocks.now i [] in
    let h = lane i s in
    let v = c.four_steps-v-20.result in
    let w = c.words_of-w.result in
    let start = sha1_start b h (lane i w) (length-lane i w ∙ c.words_of-w.ensures.count) (c.words_of-w.ensures.words i l) in
    let s1 = c.four_steps-v.ensures i l b h start in
    let s2 = c.four_steps-v-2.ensures i l b h s1 in
    let s3 = c.four_steps-v-3.ensures i l b h s2 in
    let s4 = c.four_steps-v-4.ensures i l b h s3 in
    let s5 = c.four_steps-v-5.ensures i l b h s4 in
    let s6 = c.four_steps-v-6.ensures i l b h s5 in
    let s7 = c.four_steps-v-7.ensures i l b h s6 in
    let s8 = c.four_steps-v-8.ensures i l b h s7 in
    let s9 = c.four_steps-v-9.ensures i l b h s8 in
    let s10 = c.four_steps-v-10.ensures i l b h s9 in
    let s11 = c.four_steps-v-11.ensures i l b h s10 in
    let s12 = c.four_steps-v-12.ensures i l b h s11 in
    let s13 = c.four_steps-v-13.ensures i l b h s12 in
    let s14 = c.four_steps-v-14.ensures i l b h s13 in
    let s15 = c.four_steps-v-15.ensures i l b h s14 in
    let s16 = c.four_steps-v-16.ensures i l b h s15 in
    let s17 = c.four_steps-v-17.ensures i l b h s16 in
    let s18 = c.four_steps-v-18.ensures i l b h s17 in
    let s19 = c.four_steps-v-19.ensures i l b h s18 in
    let s20 = c.four_steps-v-20.ensures i l b h s19 in
    rw (
      c.plus.ensures i l,
      c.plus-2.ensures i l,
      c.plus-3.ensures i l,
      c.plus-4.ensures i l,
      c.plus-5.ensures i l,
      ← lane_at i 0 s,
      ← lane_at i 1 s,
      ← lane_at i 2 s,
      ← lane_at i 3 s,
      ← lane_at i 4 s,
      ← lane_at i 0 v,
      ← lane_at i 1 v,
      ← lane_at i 2 v,
      ← lane_at i 3 v,
      ← lane_at i 4 v,
    )
    (ap (add_state h) s20.variables)
