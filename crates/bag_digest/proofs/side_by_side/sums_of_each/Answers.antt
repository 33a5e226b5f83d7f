use Rattle.std.proofs.Common.{◌≡◌, ◌∙◌, ℕ, Some, Vec, ap, length, rules, slice_get, subst, sym}
use Rattle.md5.specs.Md5.{md5}
use Rattle.sha1.specs.Sha1.{sha1}
use Rattle.sha2.specs.Sha256.{sha256}
use Rattle.sha2.specs.Sha512.{sha512}
use Rattle.std.specs.declared.alloc.Global.{Global}
use Rattle.std.proofs.lemmas.Option.{get_or_from_slice_get}
use Rattle.bag_digest.specs.declared.algorithm.Alg.TheVariants.{Md5, Sha1, Sha256, Sha512}
use Rattle.bag_digest.specs.declared.multi.Digests.{Digests}
use Rattle.bag_digest.specs.Algorithm.{has}
use Rattle.bag_digest.specs.Each.{digest_if}
use Rattle.bag_digest.specs.Reading.{AreSums}
use Rattle.bag_digest.specs.declared.sums.Sums.{Sums}
use Rattle.bag_digest.proofs.EachLemmas.{all_digests, at_last, slice_at}
use Rattle.bag_digest.proofs.side_by_side.sums_of_each.Goals as goal

pub loop-i-preserved : goal.loop-i-preserved
loop-i-preserved c =
    let messages = c.args.messages.now in
    let set = c.args.set in
    let before = c.loop-i.invariant in
    let found : Digests = record { md5 = c.digest_at.result; sha1 = c.digest_at-in-loop-i.result; sha256 = c.digest_at-in-loop-i-2.result; sha512 = c.sha512_of-sha512.result } in
    let last : Sums = record { length = c.len.result; digests = found } in
    record {
      count = search rules;
      all = before.all;
      sums = λ i sums at. at_last c.loop-i.each.items last
          (λ n (one : Sums). (message : Vec ℕ Global) → slice_get messages n ≡ Some message → AreSums one set message.items)
          before.sums
          (λ message there.
          let here : slice_get messages c.loop-i.i ≡ Some message = ap (λ n. slice_get messages n) (sym before.count) ∙ there in
          let slice = slice_at messages c.in_ok-slices.slices.items c.loop-i.i message c.in_ok-slices.ensures here in
          let own : c.as_slice-in-loop-i.result.now ≡ message.items = c.as_slice-in-loop-i.ensures.value ∙ ap (λ (m : Vec ℕ Global). m.items) (c.index-messages-i.is ∙ get_or_from_slice_get messages c.loop-i.i message c.index-messages-i.result here) in
          let same : c.index-messages-i-in-loop-i.result ≡ message = c.index-messages-i-in-loop-i.is ∙ get_or_from_slice_get messages c.loop-i.i message c.index-messages-i-in-loop-i.result here in
          let long : c.len.result ≡ length message.items = c.len.ensures ∙ c.index-messages-i-in-loop-i.result.ok.0 ∙ ap (λ (m : Vec ℕ Global). length m.items) same in (
            long,
            all_digests set found message.items
                (c.digest_at.ensures md5 (has set Md5) c.as_slice.result.now c.in_ok-md5.ensures slice.0 (ap (λ xs. slice_get xs c.loop-i.i) c.as_slice.ensures.value ∙ slice.1) ∙ ap (digest_if md5 (has set Md5)) slice.2)
                (c.digest_at-in-loop-i.ensures sha1 (has set Sha1) c.as_slice-2.result.now c.in_ok-sha1.ensures slice.0 (ap (λ xs. slice_get xs c.loop-i.i) c.as_slice-2.ensures.value ∙ slice.1) ∙ ap (digest_if sha1 (has set Sha1)) slice.2)
                (c.digest_at-in-loop-i-2.ensures sha256 (has set Sha256) c.as_slice-3.result.now c.in_ok-sha256.ensures slice.0 (ap (λ xs. slice_get xs c.loop-i.i) c.as_slice-3.ensures.value ∙ slice.1) ∙ ap (digest_if sha256 (has set Sha256)) slice.2)
                (c.sha512_of-sha512.ensures ∙ ap (digest_if sha512 (has set Sha512)) own),
          ))
          i sums (subst (λ xs. slice_get xs i ≡ Some sums) c.in_ok-push.ensures.items at);
    }
