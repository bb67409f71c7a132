use Rattle.std.proofs.Common.{◌∙◌, ◌-◌, ◌+◌, ℕ, min, get_or, ap, ap₂}
use Rattle.std.proofs.lemmas.List.FromFn.{fill_by_all}
use Rattle.std.proofs.Common.{w8}
use Rattle.vp_lanes.proofs.Shape.{unsigned_lanes}
use Rattle.vp_lanes.proofs.Bytes.{byte_lane}
use Rattle.vp_intra.specs.Edges.{clamped_pixel}
use Rattle.vp_intra.proofs.BlockLemmas.{moved_either_way}
use Rattle.vp_intra.proofs.modes.clamped.Goals as goal

pub returns : goal.returns
returns c =
    fill_by_all (λ (j : ℕ). clamped_pixel (get_or c.args.left j 0) (get_or c.args.above j 0) (get_or c.args.corner j 0)) c.saturating_difference-3.result 16 0
    (unsigned_lanes w8 16 c.saturating_difference-3.result _ c.saturating_difference-3.type_inv).0
    (λ j h.
    c.saturating_difference-3.ensures j h
    ∙ ap₂ (λ (a b : ℕ). a - b)
    (c.saturating_sum.ensures j h ∙ ap (λ (u : ℕ). min (get_or c.args.above j 0 + u) 255) (c.saturating_difference.ensures j h))
    (c.saturating_difference-2.ensures j h)
    ∙ moved_either_way (get_or c.args.left j 0) (get_or c.args.above j 0) (get_or c.args.corner j 0) (byte_lane _ c.fits-above j h))
