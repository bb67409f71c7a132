use Rattle.std.proofs.Common.{◌∙◌, ℕ, ◌+◌, ◌-◌, min, arith}
use Rattle.std.proofs.lemmas.List.FromFn.{get_or-map-range_with_len}
use Rattle.vp_inter.proofs.reference.indices.Goals as goal

pub returns : goal.returns
returns c j h = c.load.ensures j h ∙ get_or-map-range_with_len (λ (k : ℕ). min (k - 16) 15) 0 48 (c.args.from + j) (c.args.from + j) 0 (omega arith) (omega arith)
