use Rattle.std.proofs.Common.{◌≡◌, ◌∙◌, ℕ, ℤ, pos, ◌+◌, ◌*◌, ◌+ℤ◌, ◌-ℤ◌, ap, arith, to_z, of_z, w32}
use Rattle.std.proofs.lemmas.Int.{ints}
use Rattle.vp_base.specs.Raster.{Raster, row_of}
use Rattle.vp_inter.specs.Inter.{nearest}
use Rattle.vp_search.proofs.WindowLemmas.{filled_more}
use Rattle.vp_search.proofs.window.cut_window.Goals as goal

pub loop-i-preserved : goal.loop-i-preserved
loop-i-preserved c =
    let p : Raster = c.args.reference.now in
    let column : ℕ = c.args.place.column in
    let row : ℕ = c.args.place.row in
    let range : ℕ = c.args.range in
    let small = c.requires.range in
    let i = c.loop-i.i in
    let left : ℤ = to_z w32 (of_z w32 (to_z w32 (16 * column) -ℤ to_z w32 (of_z w32 c.from-2.result))) in
    let top : ℤ = to_z w32 (of_z w32 (to_z w32 (of_z w32 (to_z w32 (16 * row) -ℤ to_z w32 (of_z w32 c.from-3.result))) +ℤ to_z w32 i)) in
    let el : left ≡ pos (16 * column) -ℤ pos range = omega (arith, ints) in
    let et : top ≡ pos (16 * row + i) -ℤ pos range = omega (arith, ints) in
    filled_more p c.args.place range i c.loop-i.window c.cut_row.new.window c.row-line.result.now left top small c.requires.wide
    (c.row-line.ensures.value ∙ ap (row_of p) (c.nearest.ensures.value ∙ ap (λ (n : ℕ). nearest n top) c.height.ensures.value)) c.row-line.ensures.len el et
    c.loop-i.invariant (λ j h. c.cut_row.ensures.here j (omega arith)) c.cut_row.ensures.before
