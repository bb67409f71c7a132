use Rattle.std.proofs.Common.{ℕ, ◌+◌, arith}
use Rattle.vp_inter.proofs.panel.pair_at.Goals as goal

pub returns : goal.returns
returns c pixel from left right = (
  c.pair_of.ensures pixel from 7 left (omega arith),
  c.pair_of-2.ensures (λ (r x : ℕ). pixel r (8 + x)) from 7 right (omega arith),
)
