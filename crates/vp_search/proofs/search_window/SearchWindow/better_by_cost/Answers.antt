use Rattle.std.proofs.Common.{refl, inl, inr}
use Rattle.vp_search.proofs.OrderLemmas.{same}
use Rattle.vp_search.proofs.SearchLemmas.{one_taken}
use Rattle.vp_search.proofs.search_window.SearchWindow.better_by_cost.Goals as goal

pub returns-then-is_better : goal.returns-then-is_better
returns-then-is_better c =
    one_taken c.args.self.now c.args.spot.row c.args.spot.column c.args.cost c.vector-vector.result c.args.best _ c.requires.spot.0 c.requires.spot.1 c.vector-vector.ensures c.requires.cost
    (c.is_better.ensures.yes c.if-is_better.true) (same c.args.cost c.vector-vector.result) (inr refl)

pub returns-else-is_better : goal.returns-else-is_better
returns-else-is_better c =
    one_taken c.args.self.now c.args.spot.row c.args.spot.column c.args.cost c.vector-vector.result c.args.best c.args.best c.requires.spot.0 c.requires.spot.1 c.vector-vector.ensures c.requires.cost
    (same c.args.best.cost c.args.best.vector) (c.is_better.ensures.no c.if-is_better.false) (inl refl)
