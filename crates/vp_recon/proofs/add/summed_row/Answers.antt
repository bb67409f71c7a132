use Rattle.std.proofs.Common.{◌∙◌, ◌+◌, ℕ, get_or, ap, arith}
use Rattle.vp_recon.proofs.Words.{lane, handed16, passed16, summed}
use Rattle.vp_recon.proofs.SumLemmas.{low_handed}
use Rattle.vp_recon.proofs.add.summed_row.Goals as goal

pub summed-requires : goal.summed-requires
summed-requires g c = (omega arith, (omega (arith, c.requires.few), (c.requires.few, low_handed g.row.N c.args.numbers c.requires.low)))

pub returns-clause-value : goal.returns-clause-value
returns-clause-value g c j h =
    c.summed.ensures j h
    ∙ ap (λ (b : ℕ). summed b (lane (handed16 c.args.numbers) j)) (c.load.ensures j h)
    ∙ ap (summed (get_or c.args.pixels.now (c.args.at + j) 0)) (passed16 c.args.numbers j 8800 (omega arith) (c.requires.low j h))
