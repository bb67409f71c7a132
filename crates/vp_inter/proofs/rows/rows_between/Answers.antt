use Rattle.std.proofs.Common.{◌∙◌, ap, sym}
use Rattle.vp_inter.specs.Filter.{taps}
use Rattle.vp_inter.specs.Patches.{patch_pixel, patch_pass}
use Rattle.vp_inter.specs.Vectors.{fraction}
use Rattle.vp_inter.proofs.PassLemmas.{read_own, read_first, rows_read, patch_rows, patch_horizontal}
use Rattle.vp_inter.proofs.WrittenLemmas.{in_array}
use Rattle.vp_inter.proofs.rows.rows_between.Goals as goal

pub returns-then-eighths-eq0 : goal.returns-then-eighths-eq0
returns-then-eighths-eq0 g c plane x y is i k iin kin =
    let v = c.args.vector in
    let whole = c.horizontal_fraction-eighths.ensures.value in
    in_array g.row.N c.args.rows c.args.pixels.now c.copy_rows.new.pixels (patch_pixel c.args.patch.now) c.requires.whole c.copy_rows.ensures i k iin kin
    ∙ patch_horizontal c.args.version plane x y v i k c.args.patch.now (rows_read c.args.patch.now plane x y v _ is (read_own x c.horizontal_fraction-eighths.result (fraction v.column) whole c.if-eighths-eq0.true))
    (sym whole ∙ c.if-eighths-eq0.true) is.1

pub returns-else-eighths-eq0 : goal.returns-else-eighths-eq0
returns-else-eighths-eq0 g c plane x y is i k iin kin =
    let v = c.args.vector in
    let some = c.horizontal_fraction-eighths.ensures.value in
    in_array g.row.N c.args.rows c.args.pixels.now c.horizontal_rows.new.pixels (patch_pass c.taps.result.six.now c.args.patch.now) c.requires.whole c.horizontal_rows.ensures i k iin kin
    ∙ patch_rows plane x y v i k c.args.patch.now _ _ (rows_read c.args.patch.now plane x y v _ is (read_first x c.horizontal_fraction-eighths.result (fraction v.column) some c.if-eighths-eq0.false))
    (c.taps.ensures ∙ ap (taps c.args.version) some)
