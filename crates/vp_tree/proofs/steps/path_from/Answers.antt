use Rattle.std.proofs.Common.{ap, not, arith}
use Rattle.vp_tree.proofs.Walks.{further, there}
use Rattle.vp_tree.proofs.Searches.{on_path, goes_more, goes_to}
use Rattle.vp_tree.proofs.steps.path_from.Goals as goal

pub returns-in-Leaf : goal.returns-in-Leaf
returns-in-Leaf g c =
    let t = c.args.tree.now in
    let i = c.walk.invariant in
    let eq = g.T.PartialEq.eq c.args.leaf in
    let same = c.requires.exact _ (on_path eq t c.walk.place _ _ _ c.requires.formed i.pair_in i.leaf_in (ap not c.leads_to-bit.ensures) c.in-Leaf.is) in
    let to = goes_to t c.args.from c.walk.place _ c.walk.path.items _ i.so_far (there t c.walk.place _ _ _ i.pair_in c.in-Leaf.is) in
    rw (c.push.ensures.items, same) to

pub walk-smaller : goal.walk-smaller
walk-smaller g c =
    let f = further c.args.tree.now _ c.in-Pair.pair c.requires.formed (there c.args.tree.now c.walk.place _ _ _ c.walk.invariant.pair_in c.in-Pair.is) in
    omega arith

pub walk-preserved : goal.walk-preserved
walk-preserved g c =
    let t = c.args.tree.now in
    let i = c.walk.invariant in
    let here = there t c.walk.place _ _ _ i.pair_in c.in-Pair.is in
    let f = further t _ c.in-Pair.pair c.requires.formed here in
    let eq = g.T.PartialEq.eq c.args.leaf in
    record {
      pair_in = f.within;
      even = f.even;
      leaf_in = on_path eq t c.walk.place _ _ _ c.requires.formed i.pair_in i.leaf_in (ap not c.leads_to-bit.ensures) c.in-Pair.is;
      room = omega (arith, f.later, f.even, i.even, i.room, c.push.ensures.len);
      so_far = rw (c.push.ensures.items) (goes_more t c.args.from c.walk.place c.in-Pair.pair _ c.walk.path.items i.so_far here);
    }
