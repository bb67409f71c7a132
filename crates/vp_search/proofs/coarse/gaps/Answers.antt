use Rattle.std.proofs.Common.{◌∙◌, ap, ap₂, get_or}
use Rattle.std.specs.Int.{abs_diff}
use Rattle.std.proofs.lemmas.Simd.{get_or-chunk}
use Rattle.vp_lanes.proofs.Shape.{splatted, lane_is}
use Rattle.vp_search.proofs.coarse.gaps.Goals as goal

pub returns : goal.returns
returns c j h =
    c.abs_diff16.ensures j h
    ∙ ap₂ abs_diff (lane_is 0 (splatted 16 c.args.sum) j h) (ap (λ l. get_or l j 0) c.load16.ensures ∙ get_or-chunk c.args.at 16 c.args.coarse.now j 0 h)
