use Rattle.std.proofs.Common.{rules, ◌≡◌, ℕ, ◌+◌, ◌*◌, ◌∙◌, ap, sym, add-zero, ℤ, List}
use Rattle.vp_transform.specs.Fits.{Fits}
use Rattle.vp_transform.specs.Steps.{mixed}
use Rattle.vp_transform.specs.Transform.{element_at}
use Rattle.vp_transform.proofs.Along.{get, mixed_along}
use Rattle.vp_transform.proofs.Signs.{mixed-row}
use Rattle.vp_transform.proofs.Words.{coded, read}
use Rattle.vp_transform.proofs.hadamard.row.Goals as goal

-- the four numbers that are read
mixed_of : (x : List ℤ) (k : ℕ) → Fits (get x (4 * k)) → Fits (get x (4 * k + 1)) → Fits (get x (4 * k + 2)) → Fits (get x (4 * k + 3)) →
    mixed (coded (get x (4 * k))) (coded (get x (4 * k + 1))) (coded (get x (4 * k + 2))) (coded (get x (4 * k + 3))) ≡ mixed (element_at x k 0) (element_at x k 1) (element_at x k 2) (element_at x k 3)
mixed_of x k f0 f1 f2 f3 = mixed_along (read _ f0 ∙ ap (λ i. get x i) (sym (add-zero (4 * k)))) (read _ f1) (read _ f2) (read _ f3)

pub returns : goal.returns
returns c = c.mix.ensures ∙ mixed_of c.args.x.now c.args.r (search rules) (search rules) (search rules) (search rules) ∙ mixed-row c.args.x.now c.args.r
