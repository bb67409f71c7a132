use Rattle.std.proofs.Common.{sym, ◌∙◌, arith}
use Rattle.vp_tree.proofs.Walks.{walk_on, there, goes_on}
use Rattle.vp_tree.proofs.Paths.{walk_leads, leads_passes}
use Rattle.vp_tree.proofs.reading.read_tree_from.Goals as goal

pub returns-in-Leaf : goal.returns-in-Leaf
returns-in-Leaf g c =
    let t = c.args.tree.now in
    let ps = c.args.probabilities.now in
    let here = there t c.walk.place _ _ _ c.walk.invariant.pair_in c.in-Leaf.is in
    let e = λ (default : g.row.T.Denot). sym (walk_on default t ps c.walk.place _ _ _ _ c.requires.formed c.walk.invariant.pair_in c.read-bit.ensures.value c.read-bit.ensures.rest here) ∙ c.walk.invariant.so_far default in
    let x = c.in-Leaf.leaf in
    let l = rw (← (e x)) at (walk_leads x t ps c.args.from c.args.decoder.now c.requires.formed c.requires.from_in) in
    record {
      value = λ default i. (e default i).0;
      rest = λ default i. (e default i).1;
      path = l;
      leaf = leads_passes t ps c.args.from c.args.decoder.now _ _ l;
    }

pub walk-smaller : goal.walk-smaller
walk-smaller g c =
    let o = goes_on c.args.tree.now c.walk.place c.in-Pair.pair _ _ c.requires.formed c.walk.invariant.pair_in c.in-Pair.is in
    omega arith

pub walk-preserved : goal.walk-preserved
walk-preserved g c =
    let t = c.args.tree.now in
    let here = there t c.walk.place _ _ _ c.walk.invariant.pair_in c.in-Pair.is in
    let o = goes_on t c.walk.place c.in-Pair.pair _ _ c.requires.formed c.walk.invariant.pair_in c.in-Pair.is in
    record {
      pair_in = o.1;
      so_far = λ default. sym (walk_on default t c.args.probabilities.now c.walk.place _ _ _ _ c.requires.formed c.walk.invariant.pair_in c.read-bit.ensures.value c.read-bit.ensures.rest here) ∙ c.walk.invariant.so_far default;
    }
