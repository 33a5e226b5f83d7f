use Rattle.std.proofs.Common.{ap}
use Rattle.sha1.specs.Sha1.{add_state, compress}
use Rattle.bag_lanes.proofs.Sha1Rounds.{sha1_start}
use Rattle.bag_lanes.proofs.sha1_alone.compress_alone.Goals as goal

pub returns : goal.returns
unfolding compress
returns c =
    let h = c.args.value.now in
    let b = c.args.block.now in
    let w = c.block_words-w.result in
    let start = sha1_start b h w c.block_words-w.ensures.count c.block_words-w.ensures.words in
    let s1 = c.four_steps-v.ensures b h start in
    let s2 = c.four_steps-v-2.ensures b h s1 in
    let s3 = c.four_steps-v-3.ensures b h s2 in
    let s4 = c.four_steps-v-4.ensures b h s3 in
    let s5 = c.four_steps-v-5.ensures b h s4 in
    let s6 = c.four_steps-v-6.ensures b h s5 in
    let s7 = c.four_steps-v-7.ensures b h s6 in
    let s8 = c.four_steps-v-8.ensures b h s7 in
    let s9 = c.four_steps-v-9.ensures b h s8 in
    let s10 = c.four_steps-v-10.ensures b h s9 in
    let s11 = c.four_steps-v-11.ensures b h s10 in
    let s12 = c.four_steps-v-12.ensures b h s11 in
    let s13 = c.four_steps-v-13.ensures b h s12 in
    let s14 = c.four_steps-v-14.ensures b h s13 in
    let s15 = c.four_steps-v-15.ensures b h s14 in
    let s16 = c.four_steps-v-16.ensures b h s15 in
    let s17 = c.four_steps-v-17.ensures b h s16 in
    let s18 = c.four_steps-v-18.ensures b h s17 in
    let s19 = c.four_steps-v-19.ensures b h s18 in
    let s20 = c.four_steps-v-20.ensures b h s19 in
    ap (add_state h) s20.variables
