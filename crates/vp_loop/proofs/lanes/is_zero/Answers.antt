use Rattle.std.proofs.Common.{◌∙◌, ◌^◌, ◌%◌, Bool, List, replicate, sym, ap, w8}
use Rattle.std.proofs.lemmas.Simd.{tops_compared}
use lib.Dec.{eqb}
use lib.Lanes.{mask_l}
use Rattle.vp_loop.proofs.NearLemmas.{all_zero}
use Rattle.vp_loop.proofs.lanes.is_zero.Goals as goal

pub returns : goal.returns
returns c full j h =
    all_zero c.args.v c.fits-v.0 (ap (λ (ms : List Bool). eqb (mask_l ms % 2 ^ 64) 65535) (sym (tops_compared w8 eqb c.args.v (replicate 16 0))) ∙ full) j h
