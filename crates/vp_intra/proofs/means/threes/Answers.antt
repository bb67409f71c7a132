use Rattle.std.proofs.Common.{◌∙◌, ℕ, [], ◌∷◌, get_or, ap₂}
use Rattle.vp_intra.specs.Sub.{avg3, avg3_at}
use Rattle.vp_intra.proofs.MeanLemmas.{avg3-same, avg3-turned}
use Rattle.vp_intra.proofs.means.threes.Goals as goal

pub returns : goal.returns
returns c es e =
    c.mean3.ensures
    ∙ rw e (ap₂ (λ (u v : ℕ).
    u ∷ avg3_at es 1 ∷ avg3_at es 2 ∷ avg3_at es 3 ∷ avg3_at es 4 ∷ avg3_at es 5 ∷ avg3_at es 6 ∷ avg3_at es 7 ∷ avg3_at es 8 ∷
    avg3_at es 9 ∷ avg3_at es 10 ∷ avg3_at es 11 ∷ avg3 (get_or es 11 0) (get_or es 12 0) (get_or es 12 0) ∷ v ∷ v ∷ v ∷ [])
    (avg3-turned (get_or es 0 0) (get_or es 0 0) (get_or es 1 0)) (avg3-same (get_or es 0 0)))
