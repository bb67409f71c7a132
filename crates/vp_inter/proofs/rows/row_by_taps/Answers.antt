use Rattle.std.proofs.Common.{◌≡◌, ◌∙◌, ℕ, pos, ◌+◌, ◌*◌, ◌+ℤ◌, List, ap, get_or, arith, to_z, of_z, w32}
use Rattle.std.proofs.lemmas.Int.{ints}
use lib.IntN.{nat_abs}
use Rattle.vp_inter.specs.Inter.{horizontal_pass}
use Rattle.vp_inter.specs.Patches.{raster, patch_pixel}
use Rattle.vp_inter.proofs.FilterLemmas.{filter_six-same}
use Rattle.vp_inter.proofs.ReferenceLemmas.{line_inside}
use Rattle.vp_inter.proofs.WrittenLemmas.{is_set}
use Rattle.vp_inter.proofs.rows.row_by_taps.Goals as goal

pub returns-then-this-ne0 : goal.returns-then-this-ne0
unfolding horizontal_pass
returns-then-this-ne0 g c k kin =
    let q = c.args.patch.now in
    let line : List ℕ = c.row.result.now in
    let start : ℕ = nat_abs (to_z w32 (of_z w32 q.left)) in
    let columns = (c.requires.inside (is_set g.row.INSIDE c.if-this-ne0.true)).0 in
    c.pass.ensures k kin
    ∙ filter_six-same c.args.weights.now (λ i. get_or line (start + i * 1 + k) 0) (λ i. patch_pixel q c.args.i (k + i))
    (λ i iin. ap (λ (j : ℕ). get_or line j 0) (let place : start + i * 1 + k ≡ start + (k + i) = omega arith in place)
    ∙ line_inside (raster q) line q.left (q.top +ℤ pos c.args.i) start (k + i) c.row.ensures.value c.row.ensures.len (omega (arith, ints)) (omega (arith, ints)))

pub returns : goal.returns
unfolding horizontal_pass
returns g c k kin =
    let line : List ℕ = c.reference_line.result in
    c.pass-2.ensures k kin
    ∙ filter_six-same c.args.weights.now (λ i. get_or line (0 + i * 1 + k) 0) (λ i. patch_pixel c.args.patch.now c.args.i (k + i))
    (λ i iin. ap (λ (j : ℕ). get_or line j 0) (let place : 0 + i * 1 + k ≡ k + i = omega arith in place) ∙ c.reference_line.ensures (k + i) (omega arith))
