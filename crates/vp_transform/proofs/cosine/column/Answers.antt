use Rattle.std.proofs.Common.{rules, ◌≡◌, ℕ, ◌+◌, ℤ, pos, slice_index_or, ap, ◌∙◌, zero-add, sym, List}
use Rattle.vp_transform.specs.Fits.{Fits, TurnFits}
use Rattle.vp_transform.specs.Transform.{element_at, turned, column_turned}
use Rattle.vp_transform.proofs.Along.{turn_along, turned_along}
use Rattle.vp_transform.proofs.Words.{coded, read}
use Rattle.vp_transform.proofs.cosine.column.Goals as goal

-- the four numbers that are read
module _ (x : List ℤ) (k : ℕ) (f0 : Fits (slice_index_or x k (pos 0))) (f1 : Fits (slice_index_or x (4 + k) (pos 0))) (f2 : Fits (slice_index_or x (8 + k) (pos 0))) (f3 : Fits (slice_index_or x (12 + k) (pos 0))) where
  zeroth : coded (slice_index_or x k (pos 0)) ≡ element_at x 0 k
  zeroth = read _ f0 ∙ ap (λ i. slice_index_or x i (pos 0)) (sym (zero-add k))

  turn_of : TurnFits (element_at x 0 k) (element_at x 1 k) (element_at x 2 k) (element_at x 3 k) → TurnFits (coded (slice_index_or x k (pos 0))) (coded (slice_index_or x (4 + k) (pos 0))) (coded (slice_index_or x (8 + k) (pos 0))) (coded (slice_index_or x (12 + k) (pos 0)))
  turn_of = turn_along zeroth (read _ f1) (read _ f2) (read _ f3)

  turned_of : turned (coded (slice_index_or x k (pos 0))) (coded (slice_index_or x (4 + k) (pos 0))) (coded (slice_index_or x (8 + k) (pos 0))) (coded (slice_index_or x (12 + k) (pos 0))) ≡ column_turned x k
  turned_of = turned_along zeroth (read _ f1) (read _ f2) (read _ f3)

pub idct_1d-requires : goal.idct_1d-requires
idct_1d-requires c = turn_of c.args.x.now c.args.c (search rules) (search rules) (search rules) (search rules) c.requires.fits

pub returns : goal.returns
returns c = c.idct_1d.ensures ∙ turned_of c.args.x.now c.args.c (search rules) (search rules) (search rules) (search rules)
