use Rattle.std.proofs.lemmas.Simd.{get_or-chunk}
use Rattle.vp_search.proofs.sums.load_sums.Goals as goal

pub returns : goal.returns
returns c j h = get_or-chunk c.args.at 8 c.args.s.now j 0 h
