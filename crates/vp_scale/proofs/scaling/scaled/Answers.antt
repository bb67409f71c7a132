use Rattle.std.proofs.Common.{◌∙◌, ap}
use Rattle.vp_base.specs.Image.{i420}
use Rattle.vp_scale.proofs.FullLemmas.{full}
use Rattle.vp_scale.proofs.scaling.scaled.Goals as goal
use Rattle.vp_scale.proofs.scaling.scaled.Goals.{in-Full, in-Half, in-Quarter, in-Eighth}

pub returns-clause-same : goal.returns-clause-same
returns-clause-same c is =
    elim c.match-scale.branch [
      | in-Full w ↦ ap i420 w.picture-is ∙ w.scale_planes.ensures.shown ∙ full c.args.dim.w c.args.dim.h c.args.pixels.now c.requires
      | in-Half w ↦ cc
      | in-Quarter w ↦ cc
      | in-Eighth w ↦ cc
    ]
