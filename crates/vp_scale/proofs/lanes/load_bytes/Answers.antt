use Rattle.std.proofs.Common.{◌∙◌, take, drop, arith, length-drop}
use Rattle.std.proofs.lemmas.List.{length-take, get_or-take, get_or-drop}
use Rattle.vp_lanes.proofs.Shape.{lanes_of, mapped, lane_is}
use mir.Syntax.{w8, w16, unsigned, cast}
use borrow.Rule.Simd.Lanes.{act1}
use borrow.Table.Row.{s_int}
use Rattle.vp_scale.proofs.lanes.load_bytes.Goals as goal

pub returns-clause-value : goal.returns-clause-value
returns-clause-value c j h =
    let d = length-drop c.args.at c.args.s.now in
    lane_is 0 (mapped (act1 (cast unsigned unsigned w16) (s_int w8) (s_int w16)) (lanes_of 0 8 (take 8 (drop c.args.at c.args.s.now)) (length-take 8 (drop c.args.at c.args.s.now) ∙ omega arith))) j h
    ∙ get_or-take 8 (drop c.args.at c.args.s.now) j 0 h
    ∙ get_or-drop c.args.at c.args.s.now j 0
