use Rattle.std.proofs.Common.{◌∙◌, ◌+◌, ap, sym, arith}
use Rattle.vp_inter.specs.Filter.{taps, filter_six}
use Rattle.vp_inter.specs.Inter.{inter_pixel}
use Rattle.vp_inter.specs.Patches.{patch_pixel, patch_pass}
use Rattle.vp_inter.specs.Vectors.{fraction}
use Rattle.vp_inter.proofs.PassLemmas.{read_own, read_first, reads, patch_whole, patch_level, patch_vertical, patch_both}
use Rattle.vp_inter.proofs.WrittenLemmas.{written_alike}
use Rattle.vp_inter.proofs.block.predict.Goals as goal

pub returns-in-0-eq0 : goal.returns-in-0-eq0
returns-in-0-eq0 g c plane x y is =
    written_alike g.row.N g.row.N c.args.pixels.now c.copy_rows.new.pixels c.args.at c.args.stride (patch_pixel c.args.patch.now) (inter_pixel c.args.version plane x y c.args.vector) c.copy_rows.ensures
    (λ r j rin jin. patch_whole c.args.version plane x y c.args.vector r j c.args.patch.now (reads c.args.patch.now plane x y c.args.vector _ _ is (read_own x c.horizontal_fraction-horizontal.result (fraction c.args.vector.column) c.horizontal_fraction-horizontal.ensures.value c.in-0-eq0.is-0) (read_own y c.vertical_fraction-vertical.result (fraction c.args.vector.row) c.vertical_fraction-vertical.ensures.value c.in-0-eq0.is-1))
    (sym c.vertical_fraction-vertical.ensures.value ∙ c.in-0-eq0.is-1) (sym c.horizontal_fraction-horizontal.ensures.value ∙ c.in-0-eq0.is-0) is.1)

pub returns-in_default-eq0 : goal.returns-in_default-eq0
returns-in_default-eq0 g c plane x y is =
    written_alike g.row.N g.row.N c.args.pixels.now c.horizontal_rows.new.pixels c.args.at c.args.stride (patch_pass c.taps-in_default-eq0.result.six.now c.args.patch.now) (inter_pixel c.args.version plane x y c.args.vector) c.horizontal_rows.ensures
    (λ r j rin jin. patch_level c.args.version plane x y c.args.vector r j c.args.patch.now _ (reads c.args.patch.now plane x y c.args.vector _ _ is (read_first x c.horizontal_fraction-horizontal.result (fraction c.args.vector.column) c.horizontal_fraction-horizontal.ensures.value c.in_default-eq0.is-0.1) (read_own y c.vertical_fraction-vertical.result (fraction c.args.vector.row) c.vertical_fraction-vertical.ensures.value c.in_default-eq0.is-1))
    (c.taps-in_default-eq0.ensures ∙ ap (taps c.args.version) c.horizontal_fraction-horizontal.ensures.value) (sym c.vertical_fraction-vertical.ensures.value ∙ c.in_default-eq0.is-1))

pub returns-in-0-default : goal.returns-in-0-default
returns-in-0-default g c plane x y is =
    written_alike g.row.N g.row.N c.args.pixels.now c.vertical_by_panels.new.pixels c.args.at c.args.stride (λ r j. filter_six c.taps.result.six.now (λ k. patch_pixel c.args.patch.now (r + k) j)) (inter_pixel c.args.version plane x y c.args.vector) c.vertical_by_panels.ensures
    (λ r j rin jin. patch_vertical c.args.version plane x y c.args.vector r j c.args.patch.now _ (reads c.args.patch.now plane x y c.args.vector _ _ is (read_own x c.horizontal_fraction-horizontal.result (fraction c.args.vector.column) c.horizontal_fraction-horizontal.ensures.value c.in-0-default.is-0) (read_first y c.vertical_fraction-vertical.result (fraction c.args.vector.row) c.vertical_fraction-vertical.ensures.value c.in-0-default.is-1.1))
    (sym c.horizontal_fraction-horizontal.ensures.value ∙ c.in-0-default.is-0) is.1 (c.taps.ensures ∙ ap (taps c.args.version) c.vertical_fraction-vertical.ensures.value))

pub returns-in-1-to-max-default : goal.returns-in-1-to-max-default
returns-in-1-to-max-default g c plane x y is =
    written_alike g.row.N g.row.N c.args.pixels.now c.both_by_panels.new.pixels c.args.at c.args.stride (λ r j. filter_six c.taps-vertical.result.six.now (λ k. patch_pass c.taps-horizontal.result.six.now c.args.patch.now (r + k) j)) (inter_pixel c.args.version plane x y c.args.vector) c.both_by_panels.ensures
    (λ r j rin jin. patch_both c.args.version plane x y c.args.vector r j c.args.patch.now _ _ (reads c.args.patch.now plane x y c.args.vector _ _ is (read_first x c.horizontal_fraction-horizontal.result (fraction c.args.vector.column) c.horizontal_fraction-horizontal.ensures.value (λ none. absurd (omega (arith, none, c.in-1-to-max-default.is-0)))) (read_first y c.vertical_fraction-vertical.result (fraction c.args.vector.row) c.vertical_fraction-vertical.ensures.value c.in-1-to-max-default.is-1.1))
    (c.taps-horizontal.ensures ∙ ap (taps c.args.version) c.horizontal_fraction-horizontal.ensures.value) (c.taps-vertical.ensures ∙ ap (taps c.args.version) c.vertical_fraction-vertical.ensures.value))
