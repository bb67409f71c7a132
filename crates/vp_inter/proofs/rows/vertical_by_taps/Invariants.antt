use Rattle.std.proofs.Common.{◌+◌, ◌*◌, get_or}
use Rattle.vp_inter.specs.Filter.{filter_six}
use Rattle.vp_inter.specs.Written.{IsBlockWritten}
use Rattle.vp_inter.proofs.rows.vertical_by_taps.Given as goal

abbrev pub invariant-loop-r : goal.invariant-loop-r
invariant-loop-r g l = record {
  done : IsBlockWritten g.row.N l.r l.initial.pixels l.pixels l.at l.stride (λ r c. filter_six l.weights (λ k. get_or l.rows ((r + k) * g.row.N + c) 0));
}
