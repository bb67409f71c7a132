use Rattle.std.proofs.Common.{◌≡◌, ◌∙◌, ℕ, ℤ, pos, ◌+◌, ◌*◌, ◌<◌, ◌+ℤ◌, List, length, ap, sym, get_or, arith}
use Rattle.vp_base.specs.Raster.{Raster, row_of}
use Rattle.vp_inter.specs.Inter.{nearest, reference_pixel, horizontal_pass}
use Rattle.vp_inter.specs.Patches.{raster, weights_of}
use Rattle.vp_inter.proofs.ReferenceLemmas.{line_beyond}
use Rattle.vp_inter.proofs.WideLemmas.{from_three}
use Rattle.vp_inter.proofs.six_tap.horizontal_row.Goals as goal

-- the pixel of a row that a place selects
at_place : (p : Raster) (line : List ℕ) (left row : ℤ) (place n m : ℕ) → line ≡ row_of p (nearest p.height row) → length line ≡ p.width → 0 < p.width
    → place ≡ nearest p.width (left +ℤ pos n) → n ≡ m → get_or line place 0 ≡ reference_pixel p (left +ℤ pos m) row
at_place p line left row place n m is long some e f =
    ap (λ (i : ℕ). get_or line i 0) (e ∙ ap (λ (i : ℕ). nearest p.width (left +ℤ pos i)) f ∙ ap (λ (i : ℕ). nearest i (left +ℤ pos m)) (sym long))
    ∙ line_beyond p line (left +ℤ pos m) row is long some

pub returns : goal.returns
unfolding horizontal_pass
returns g c from selects j h =
    let q = c.args.patch.now in
    let row : ℤ = q.top +ℤ pos c.args.i in
    let lanes = c.args.filter.now.lanes in
    let at = λ (place n m : ℕ). at_place (raster q) c.row.result.now q.left row place n m c.row.ensures.value c.row.ensures.len q.wide.0 in
    c.filtered_pairs.ensures j h
    ∙ from_three (weights_of c.args.weights.now) c.shuffle.result c.shuffle-2.result c.shuffle-3.result (2 * j) (λ k. reference_pixel (raster q) (q.left +ℤ pos (from + j + k)) row)
    (λ t tin. let s = selects (2 * j + t) (omega arith) in
    c.shuffle.ensures (2 * j + t) (omega arith) ∙ c.load-pixels.ensures _ (lanes (2 * j + t) (omega arith)).0 ∙ at _ _ (from + j + 3 * t) s.0 (omega arith))
    (λ t tin. let s = selects (2 * j + t) (omega arith) in
    c.shuffle-2.ensures (2 * j + t) (omega arith) ∙ c.load-pixels.ensures _ (lanes (2 * j + t) (omega arith)).1 ∙ at _ _ (from + j + (3 * t + 1)) s.1 (omega arith))
    (λ t tin. let s = selects (2 * j + t) (omega arith) in
    c.shuffle-3.ensures (2 * j + t) (omega arith) ∙ c.load-pixels.ensures _ (lanes (2 * j + t) (omega arith)).2 ∙ at _ _ (from + j + (3 * t + 2)) s.2 (omega arith))
