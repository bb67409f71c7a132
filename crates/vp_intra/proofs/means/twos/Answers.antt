use Rattle.std.proofs.Common.{◌∙◌, ℕ, [], ◌∷◌, get_or, ap}
use Rattle.vp_intra.specs.Sub.{avg2, avg2_at}
use Rattle.vp_intra.proofs.MeanLemmas.{avg2-same}
use Rattle.vp_intra.proofs.means.twos.Goals as goal

pub returns : goal.returns
returns c es e =
    c.mean2.ensures
    ∙ rw e (ap (λ (v : ℕ).
    avg2_at es 0 ∷ avg2_at es 1 ∷ avg2_at es 2 ∷ avg2_at es 3 ∷ avg2_at es 4 ∷ avg2_at es 5 ∷ avg2_at es 6 ∷ avg2_at es 7 ∷ avg2_at es 8 ∷ avg2_at es 9 ∷
    avg2_at es 10 ∷ avg2_at es 11 ∷ avg2 (get_or es 12 0) (get_or es 12 0) ∷ v ∷ v ∷ v ∷ []) (avg2-same (get_or es 0 0)))
