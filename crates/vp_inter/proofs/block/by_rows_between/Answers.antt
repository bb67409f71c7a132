use Rattle.std.proofs.Common.{◌≡◌, ◌∙◌, ◌+◌, ◌*◌, ℕ, ℤ, List, ap, get_or, subst, refl, arith}
use Rattle.vp_inter.specs.Filter.{taps, filter_six}
use Rattle.vp_inter.specs.Inter.{inter_pixel, horizontal_pass}
use Rattle.vp_inter.specs.Patches.{first_read, IsForRows}
use Rattle.vp_inter.specs.Vectors.{fraction, first_tap}
use Rattle.vp_inter.specs.declared.vector.PlaneVector.{PlaneVector}
use Rattle.vp_inter.proofs.FilterLemmas.{filter_six-same}
use Rattle.vp_inter.proofs.PassLemmas.{read_first, inter_passes}
use Rattle.vp_inter.proofs.WrittenLemmas.{written_alike}
use Rattle.vp_inter.proofs.block.by_rows_between.Goals as goal

pub returns : goal.returns
returns g c plane x y is =
    let n : ℕ = g.row.N in
    let version : ℕ = c.args.version in
    let v : PlaneVector = c.args.vector in
    let own : List ℤ = c.taps-weights.result.six.now in
    let rows : List ℕ = c.rows_between.new.pixels in
    let pixel : ℕ → ℕ → ℕ = horizontal_pass (taps version (fraction v.column)) plane (first_tap x v.column) (first_tap y v.row) in
    let first : first_read y (fraction v.row) ≡ y = read_first y _ (fraction v.row) refl (λ none. absurd (omega (arith, none, c.requires.vertical))) in
    let are = c.rows_between.ensures plane x y (subst (λ (i : ℕ). IsForRows c.args.patch.now plane x i v) first is) in
    written_alike n n c.args.pixels.now c.vertical_rows.new.pixels c.args.at c.args.stride (λ r k. filter_six own (λ j. get_or rows ((r + j) * n + k) 0)) (inter_pixel version plane x y v) c.vertical_rows.ensures
    (λ r k rin kin.
    filter_six-same own (λ j. get_or rows ((r + j) * n + k) 0) (λ j. pixel (r + j) k) (λ j jin. are (r + j) k (omega arith) kin)
    ∙ ap (λ (w : List ℤ). filter_six w (λ j. pixel (r + j) k)) (c.taps-weights.ensures ∙ ap (taps version) c.vertical_fraction.ensures.value)
    ∙ inter_passes version plane x y v r k)
