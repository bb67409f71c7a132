use Rattle.std.proofs.Common.{arith}
use Rattle.vp_recon.specs.Parts.{residue_in}
use Rattle.vp_recon.proofs.StripLemmas.{pairs_none, pairs_more, pairs_all}
use Rattle.vp_recon.proofs.add.add_to_strip.Goals as goal

pub loop-i-init : goal.loop-i-init
loop-i-init g c = pairs_none g.row.ACROSS (residue_in c.args.inputs.now) c.args.pixels.now c.args.at c.args.stride c.args.k

pub loop-i-preserved : goal.loop-i-preserved
loop-i-preserved g c =
    pairs_more g.row.ACROSS (residue_in c.args.inputs.now) c.args.pixels.now c.args.at c.args.stride c.args.k c.loop-i.i c.loop-i.pixels c.add_to_pair.new.pixels (omega arith) c.loop-i.invariant c.add_to_pair.ensures

pub returns : goal.returns
returns g c = pairs_all g.row.ACROSS (residue_in c.args.inputs.now) c.args.pixels.now c.args.at c.args.stride c.args.k c.loop-i.pixels c.loop-i.i (omega arith) c.loop-i.invariant
