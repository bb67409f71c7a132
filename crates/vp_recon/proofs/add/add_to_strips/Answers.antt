use Rattle.std.proofs.Common.{rules, ◌+◌, ◌*◌, ◌<◌, ◌≤◌, List, ℕ, length, sym, subst, arith}
use Rattle.vp_recon.proofs.Words.{IsAdded, residue_in, mul-le-mul}
use Rattle.vp_recon.proofs.StripLemmas.{strips_none, strip_room, strips_more, strips_all}
use Rattle.vp_recon.proofs.add.add_to_strips.Goals.{then-this-ne0, else-this-ne0}
use Rattle.vp_recon.proofs.add.add_to_strips.Goals as goal

pub add_dcs_to_strip-requires-clause-dc_only : goal.add_dcs_to_strip-requires-clause-dc_only
add_dcs_to_strip-requires-clause-dc_only g c i below =
    let inside : i < g.row.ACROSS = below in
    let m : (c.loop-i.i + 1) * g.row.ACROSS ≤ g.row.ACROSS * g.row.ACROSS = mul-le-mul (omega arith) (omega arith) in
    c.requires.dc_only (search rules) (g.row.ACROSS * c.loop-i.i + i) (omega arith)

pub add_dcs_to_strip-requires-clause-room : goal.add_dcs_to_strip-requires-clause-room
add_dcs_to_strip-requires-clause-room g c =
    strip_room g.row.ACROSS c.loop-i.i c.args.at c.loop-i.strip c.args.stride (length c.loop-i.pixels) (omega arith) (omega (arith, c.loop-i.invariant.pixels.len)) c.loop-i.invariant.here

pub add_to_strip-requires-clause-room : goal.add_to_strip-requires-clause-room
add_to_strip-requires-clause-room g c =
    strip_room g.row.ACROSS c.loop-i.i c.args.at c.loop-i.strip c.args.stride (length c.loop-i.pixels) (omega arith) (omega (arith, c.loop-i.invariant.pixels.len)) c.loop-i.invariant.here

pub loop-i-init : goal.loop-i-init
loop-i-init g c = record { here = omega arith; pixels = strips_none g.row.ACROSS (residue_in c.args.inputs.now) c.args.pixels.now c.args.at c.args.stride }

pub loop-i-preserved : goal.loop-i-preserved
loop-i-preserved g c =
    let own = residue_in c.args.inputs.now in
    let is = λ (ns : List ℕ). IsAdded (4 * g.row.ACROSS) c.loop-i.pixels ns c.loop-i.strip c.args.stride (λ j. residue_in c.args.inputs.now (g.row.ACROSS * c.loop-i.i + j)) in
    record {
      here = omega arith;
      pixels = strips_more g.row.ACROSS own c.args.pixels.now c.args.at c.args.stride c.loop-i.i c.loop-i.strip c.loop-i.pixels c.if-this-ne0.pixels
          (omega arith) c.loop-i.invariant.here c.loop-i.invariant.pixels
          (elim c.if-this-ne0.branch [
            | then-this-ne0 w ↦ subst is (sym w.pixels-is) w.add_dcs_to_strip.ensures
            | else-this-ne0 w ↦ subst is (sym w.pixels-is) w.add_to_strip.ensures
          ]);
    }

pub returns : goal.returns
returns g c = strips_all g.row.ACROSS (residue_in c.args.inputs.now) c.args.pixels.now c.args.at c.args.stride c.loop-i.pixels c.loop-i.i (omega arith) c.loop-i.invariant.pixels
