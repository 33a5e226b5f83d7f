use Rattle.std.proofs.Common.{Some, sym, ap, ◌∙◌, arith}
use Rattle.bag_rules.proofs.Words.{exact_bytes}
use Rattle.bag_rules.proofs.RisingPaths.{place_of, lower, higher, one_place}
use Rattle.bag_rules.proofs.tree.find.Goals as goal

-- the path in the middle is less, so each place that has the path is higher
pub loop-low-preserved-in-Less : goal.loop-low-preserved-in-Less
loop-low-preserved-in-Less g c =
    let here = c.path.ensures ∙ ap Some (sym c.as_str.ensures.text) in
    record {
      inside = c.loop-low.invariant.inside;
      left = λ k there.
          let above = lower _ c.count-high.ensures.rising _ k _ _ here there (sym c.in-Less.ensures) in
          (omega (arith, above), (c.loop-low.invariant.left k there).1);
    }

-- the path in the middle is this one
pub returns-in-Equal-clause-found : goal.returns-in-Equal-clause-found
returns-in-Equal-clause-found g c = c.path.ensures ∙ ap Some (sym c.as_str.ensures.text ∙ exact_bytes _ _ (sym c.in-Equal.ensures))

pub returns-in-Equal-clause-only : goal.returns-in-Equal-clause-only
returns-in-Equal-clause-only g c = λ k there.
    let here = c.path.ensures ∙ ap Some (sym c.as_str.ensures.text ∙ exact_bytes _ _ (sym c.in-Equal.ensures)) in
    one_place _ c.count-high.ensures.rising k _ _ there here

-- the path in the middle is greater, so each place that has the path is lower
pub loop-low-preserved : goal.loop-low-preserved
loop-low-preserved g c =
    let here = c.path.ensures ∙ ap Some (sym c.as_str.ensures.text) in
    record {
      inside = omega (arith, c.loop-low.invariant.inside);
      left = λ k there.
          let below = higher _ c.count-high.ensures.rising _ k _ _ here there (sym c.in-Greater.ensures) in
          ((c.loop-low.invariant.left k there).0, below);
    }

-- no place is left that could have the path
pub returns-clause-absent : goal.returns-clause-absent
returns-clause-absent g c = λ found.
    let at = place_of _ _ found in
    let left = c.loop-low.invariant.left at.0 at.1 in
    omega (arith, left)
