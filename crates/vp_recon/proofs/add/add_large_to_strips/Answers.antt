use Rattle.std.proofs.Common.{length, arith}
use Rattle.vp_recon.specs.Parts.{large_residue_in}
use Rattle.vp_recon.proofs.StripLemmas.{strips_none, strip_room, strips_more, strips_all}
use Rattle.vp_recon.proofs.add.add_large_to_strips.Goals as goal

pub add_large_to_strip-requires-clause-room : goal.add_large_to_strip-requires-clause-room
add_large_to_strip-requires-clause-room g c =
    strip_room g.row.ACROSS c.loop-i.i c.args.at c.loop-i.strip c.args.stride (length c.loop-i.pixels) (omega arith) (omega (arith, c.loop-i.invariant.pixels.len)) c.loop-i.invariant.here

pub loop-i-init : goal.loop-i-init
loop-i-init g c = record { here = omega arith; pixels = strips_none g.row.ACROSS (large_residue_in c.args.inputs.now) c.args.pixels.now c.args.at c.args.stride }

pub loop-i-preserved : goal.loop-i-preserved
loop-i-preserved g c = record {
  here = omega arith;
  pixels = strips_more g.row.ACROSS (large_residue_in c.args.inputs.now) c.args.pixels.now c.args.at c.args.stride c.loop-i.i c.loop-i.strip c.loop-i.pixels c.add_large_to_strip.new.pixels
      (omega arith) c.loop-i.invariant.here c.loop-i.invariant.pixels c.add_large_to_strip.ensures;
}

pub returns : goal.returns
returns g c = strips_all g.row.ACROSS (large_residue_in c.args.inputs.now) c.args.pixels.now c.args.at c.args.stride c.loop-i.pixels c.loop-i.i (omega arith) c.loop-i.invariant.pixels
