use Rattle.std.proofs.Common.{arith, refl}
use Rattle.vp_tree.proofs.Walks.{further}
use Rattle.vp_tree.proofs.Searches.{at_entry, has_leaf_step}
use Rattle.vp_tree.proofs.steps.+leads_to.Goals as goal

pub leads_to-requires : goal.leads_to-requires
leads_to-requires g t c κs within =
    let f = further c.args.tree.now c.args.place c.in-Pair.pair c.requires.formed (at_entry _ _ _ _ c.requires.place_in c.in-Pair.is) in
    (omega arith, (within, (c.requires.formed, omega arith)))

pub leads_to-requires-else-leads_to : goal.leads_to-requires-else-leads_to
leads_to-requires-else-leads_to g t c κs within =
    let f = further c.args.tree.now c.args.place c.in-Pair.pair c.requires.formed (at_entry _ _ _ _ c.requires.place_in c.in-Pair.is) in
    (omega arith, (within, (c.requires.formed, omega arith)))

pub returns-in-Leaf : goal.returns-in-Leaf
returns-in-Leaf g t c = rw (at_entry c.args.tree.now c.args.place _ _ c.requires.place_in c.in-Leaf.is) c.eq.ensures

pub returns-then-leads_to : goal.returns-then-leads_to
returns-then-leads_to g t c =
    let here = at_entry c.args.tree.now c.args.place _ _ c.requires.place_in c.in-Pair.is in
    let f = further c.args.tree.now c.args.place c.in-Pair.pair c.requires.formed here in
    rw (here, has_leaf_step (g.T.PartialEq.eq c.args.leaf) c.args.tree.now c.in-Pair.pair c.requires.formed f.within, ← c.leads_to.ensures, c.if-leads_to.true) refl

pub returns-else-leads_to : goal.returns-else-leads_to
returns-else-leads_to g t c =
    let here = at_entry c.args.tree.now c.args.place _ _ c.requires.place_in c.in-Pair.is in
    let f = further c.args.tree.now c.args.place c.in-Pair.pair c.requires.formed here in
    rw (here, has_leaf_step (g.T.PartialEq.eq c.args.leaf) c.args.tree.now c.in-Pair.pair c.requires.formed f.within, ← c.leads_to.ensures, c.if-leads_to.false)
    c.leads_to-else-leads_to.ensures
