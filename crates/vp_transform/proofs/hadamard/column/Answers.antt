use Rattle.std.proofs.Common.{rules, ◌≡◌, ℕ, ◌+◌, ◌∙◌, ap, sym, zero-add, ℤ, List}
use Rattle.vp_transform.specs.Fits.{Fits}
use Rattle.vp_transform.specs.Steps.{mixed, column_product}
use Rattle.vp_transform.proofs.Along.{get, mixed_along}
use Rattle.vp_transform.proofs.Signs.{mixed-column}
use Rattle.vp_transform.proofs.Words.{coded, read}
use Rattle.vp_transform.proofs.hadamard.column.Goals as goal

-- the four numbers that are read
mixed_of : (x : List ℤ) (k : ℕ) → Fits (get x k) → Fits (get x (4 + k)) → Fits (get x (8 + k)) → Fits (get x (12 + k)) →
    mixed (coded (get x k)) (coded (get x (4 + k))) (coded (get x (8 + k))) (coded (get x (12 + k))) ≡ column_product x k
mixed_of x k f0 f1 f2 f3 =
    mixed_along (read _ f0 ∙ ap (λ i. get x i) (sym (zero-add k))) (read _ f1) (read _ f2) (read _ f3) ∙ mixed-column x k

pub returns : goal.returns
returns c = c.mix.ensures ∙ mixed_of c.args.x.now c.args.c (search rules) (search rules) (search rules) (search rules)
