use Rattle.std.proofs.Common.{rules, ◌≡◌, ℕ, ◌+◌, ◌*◌, ℤ, pos, ap, ◌∙◌, add-zero, sym, List, ◌+ℤ◌, lit<}
use Rattle.vp_transform.specs.Fits.{Fits, TurnFits}
use Rattle.vp_transform.specs.Transform.{element_at, turned, rounded, row_turned}
use Rattle.vp_transform.proofs.Along.{get, turn_along, turned_along}
use Rattle.vp_transform.proofs.Words.{coded, read, fits-along, four}
use Rattle.vp_transform.proofs.cosine.row.Goals as goal

-- the four numbers that are read
module _ (x : List ℤ) (k : ℕ) (f0 : Fits (get x (4 * k))) (f1 : Fits (get x (4 * k + 1))) (f2 : Fits (get x (4 * k + 2))) (f3 : Fits (get x (4 * k + 3))) where
  zeroth : coded (get x (4 * k)) ≡ element_at x k 0
  zeroth = read _ f0 ∙ ap (λ i. get x i) (sym (add-zero (4 * k)))

  turn_of : TurnFits (element_at x k 0) (element_at x k 1) (element_at x k 2) (element_at x k 3) → TurnFits (coded (get x (4 * k))) (coded (get x (4 * k + 1))) (coded (get x (4 * k + 2))) (coded (get x (4 * k + 3)))
  turn_of = turn_along zeroth (read _ f1) (read _ f2) (read _ f3)

  turned_of : turned (coded (get x (4 * k))) (coded (get x (4 * k + 1))) (coded (get x (4 * k + 2))) (coded (get x (4 * k + 3))) ≡ row_turned x k
  turned_of = turned_along zeroth (read _ f1) (read _ f2) (read _ f3)

-- number k of the results
more_of : (xs ys : List ℤ) (k : ℕ) → xs ≡ ys → Fits (get xs k) → Fits (get ys k +ℤ pos 4) → Fits (coded (get xs k) +ℤ pos 4)
more_of xs ys k e f h = fits-along (ap (λ v. v +ℤ pos 4) (read _ f ∙ ap (λ v. get v k) e)) h

rounded_of : (xs ys : List ℤ) (k : ℕ) (r : ℤ) → xs ≡ ys → Fits (get xs k) → Fits r → r ≡ rounded (coded (get xs k)) → coded r ≡ rounded (get ys k)
rounded_of xs ys k r e f g h =
    read r g ∙ h ∙ ap (λ v. rounded v) (read _ f ∙ ap (λ v. get v k) e)

pub idct_1d-requires : goal.idct_1d-requires
idct_1d-requires c = turn_of c.args.x.now c.args.r (search rules) (search rules) (search rules) (search rules) c.requires.fits.idct_1d

pub round-requires : goal.round-requires
round-requires c =
    let e = c.idct_1d.ensures ∙ turned_of c.args.x.now c.args.r (search rules) (search rules) (search rules) (search rules) in
    more_of c.idct_1d.result _ 0 e (search rules) (c.requires.fits.more 0 (lit< tt))

pub round-requires-2 : goal.round-requires-2
round-requires-2 c =
    let e = c.idct_1d.ensures ∙ turned_of c.args.x.now c.args.r (search rules) (search rules) (search rules) (search rules) in
    more_of c.idct_1d.result _ 1 e (search rules) (c.requires.fits.more 1 (lit< tt))

pub round-requires-3 : goal.round-requires-3
round-requires-3 c =
    let e = c.idct_1d.ensures ∙ turned_of c.args.x.now c.args.r (search rules) (search rules) (search rules) (search rules) in
    more_of c.idct_1d.result _ 2 e (search rules) (c.requires.fits.more 2 (lit< tt))

pub round-requires-4 : goal.round-requires-4
round-requires-4 c =
    let e = c.idct_1d.ensures ∙ turned_of c.args.x.now c.args.r (search rules) (search rules) (search rules) (search rules) in
    more_of c.idct_1d.result _ 3 e (search rules) (c.requires.fits.more 3 (lit< tt))

pub returns : goal.returns
returns c =
    let e = c.idct_1d.ensures ∙ turned_of c.args.x.now c.args.r (search rules) (search rules) (search rules) (search rules) in
    four (rounded_of _ _ 0 _ e (search rules) (search rules) c.round.ensures)
    (rounded_of _ _ 1 _ e (search rules) (search rules) c.round-2.ensures)
    (rounded_of _ _ 2 _ e (search rules) (search rules) c.round-3.ensures)
    (rounded_of _ _ 3 _ e (search rules) (search rules) c.round-4.ensures)
