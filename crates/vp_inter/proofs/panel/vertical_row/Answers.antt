use Rattle.std.proofs.Common.{◌∙◌, ℕ, ◌+◌}
use Rattle.vp_inter.specs.Filter.{filter_six}
use Rattle.vp_inter.specs.Patches.{weights_of}
use Rattle.vp_inter.proofs.PanelLemmas.{from_pairs}
use Rattle.vp_inter.proofs.WideLemmas.{by_halves}
use Rattle.vp_inter.proofs.panel.vertical_row.Goals as goal

pub returns : goal.returns
returns c pixel r xa xb xc =
    by_halves c.joined_halves.result (λ x. filter_six (weights_of c.args.weights.now) (λ k. pixel (r + k) x))
    (λ x h. c.joined_halves.ensures.front x h
    ∙ from_pairs (weights_of c.args.weights.now) c.args.a.now.left c.args.b.now.left c.args.c.now.left c.filtered_pairs.result pixel r c.filtered_pairs.ensures xa.0 xb.0 xc.0 x h)
    (λ x h. c.joined_halves.ensures.back x h
    ∙ from_pairs (weights_of c.args.weights.now) c.args.a.now.right c.args.b.now.right c.args.c.now.right c.filtered_pairs-2.result (λ (i j : ℕ). pixel i (8 + j)) r c.filtered_pairs-2.ensures xa.1 xb.1 xc.1 x h)
