use Rattle.std.proofs.Common.{◌∙◌, ◌++◌, ap}
use Rattle.vp_motion.specs.Vector.{MacroblockMotion}
use Rattle.vp_motion.specs.Near.{candidates, clamped_vector, neighbours, split_count, weighted_neighbour}
use Rattle.vp_motion.proofs.FirstTwo.{chosen, entries_are_chosen}
use Rattle.vp_motion.proofs.candidates.count_neighbours.Goals as goal

pub returns-clause-value : goal.returns-clause-value
unfolding candidates neighbours
returns-clause-value g c =
    let by = λ (weight : _) (e : MacroblockMotion). weighted_neighbour c.args.reference c.args.biases weight e in
    let above = c.seen_vector.ensures 2 ∙ ap (by 2) c.row_above.ensures.above in
    let left = c.seen_vector-2.ensures 2 ∙ ap (by 2) c.left-left.ensures in
    let corner = c.seen_vector-3.ensures 1 ∙ ap (by 1) c.row_above.ensures.corner in
    let clamp = clamped_vector (g.G.MotionGrid.grid c.args.map.now) c.args.place in
    let splits = split_count (g.G.MotionGrid.grid c.args.map.now) c.args.place in
    c.count.ensures.value clamp splits ∙ entries_are_chosen c.seen_vector.result c.seen_vector-2.result c.seen_vector-3.result clamp splits ∙ (λ i. chosen clamp splits (above i ++ (left i ++ corner i)))
