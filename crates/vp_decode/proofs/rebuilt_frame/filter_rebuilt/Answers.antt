use Rattle.vp_decode.proofs.Words.{◌≡◌, ◌∙◌, ℕ, refl, sym, ap, arith, macroblocks, over, over-none, filtered, row_filtered, level_by}
use Rattle.vp_decode.proofs.RowsLemmas.{row_sized, row_more}
use Rattle.vp_decode.proofs.rebuilt_frame.filter_rebuilt.Goals as goal

pub loop-row-init : goal.loop-row-init
loop-row-init g c = record { columns = c.in_ok-levels.ensures.columns ∙ c.columns.ensures.value; rows = c.in_ok-levels.ensures.rows ∙ c.rows-rows.ensures.value; width = refl; height = refl; filtered = λ tokens skips. sym (over-none _ _) }

pub loop-row-preserved : goal.loop-row-preserved
loop-row-preserved g c =
    let same = row_sized _ c.loop-row.row c.loop-row.picture c.row.new.picture c.row.ensures in
    let made = c.loop-row.invariant in
    record {
      columns = c.set_levels.ensures.columns ∙ made.columns;
      rows = c.set_levels.ensures.rows ∙ made.rows;
      width = same.width ∙ made.width;
      height = same.height ∙ made.height;
      filtered = λ tokens skips.
          row_more c.args.info.now tokens c.loop-row.row c.set_levels.new.levels c.as_slice.result.now c.args.rebuilt c.loop-row.picture c.row.new.picture
          (omega (arith, c.loop-row-test.true, c.rows-rows.ensures.value))
          (c.set_levels.ensures.columns ∙ made.columns)
          (c.requires.columns ∙ sym (ap (λ (n : ℕ). macroblocks n) made.width))
          c.as_slice.ensures.value c.set_levels.ensures.levels skips (made.filtered tokens skips) c.row.ensures;
    }

pub returns : goal.returns
unfolding filtered
returns g c = λ tokens skips.
    let end : c.loop-row.row ≡ macroblocks c.args.rebuilt.height = omega (arith, c.loop-row-test.false, c.rows-rows.ensures.value, c.requires.rows, c.loop-row.auto.row-end) in
    c.loop-row.invariant.filtered tokens skips ∙ ap (λ (n : ℕ). over n (row_filtered (level_by c.args.info.now tokens)) c.args.rebuilt) end
