use Rattle.std.proofs.Common.{◌≡◌, ◌∙◌, ℕ, ap, refl, sym, arith}
use Rattle.vp_base.specs.Image.{Image, macroblocks}
use Rattle.vp_base.specs.Over.{over}
use Rattle.vp_base.proofs.OverLemmas.{over-none, over-next}
use Rattle.vp_loop.specs.Filtered.{row_filtered, level_in}
use Rattle.vp_loop.proofs.FrameLemmas.{filtered_at}
use Rattle.vp_loop.proofs.frame.filter_row.Goals as goal

pub loop-column-init : goal.loop-column-init
loop-column-init c = record { done = sym (over-none (filtered_at (level_in c.args.levels.now c.from-cols.result) c.args.row) c.args.picture.now); width = refl; height = refl }

pub loop-column-preserved : goal.loop-column-preserved
loop-column-preserved c =
    let own = filtered_at (level_in c.args.levels.now c.from-cols.result) c.args.row in
    record {
      done = c.filter_macroblock.ensures ∙ over-next c.loop-column.column own c.args.picture.now c.loop-column.picture c.loop-column.invariant.done;
      width = ap (λ (p : Image). p.width) c.filter_macroblock.ensures ∙ c.loop-column.invariant.width;
      height = ap (λ (p : Image). p.height) c.filter_macroblock.ensures ∙ c.loop-column.invariant.height;
    }

pub returns : goal.returns
unfolding row_filtered
returns c =
    let p = c.args.picture.now in
    let levels = c.args.levels.now in
    let e = c.mb_cols.ensures.value in
    let d = c.dim.ensures.width in
    let all : c.loop-column.column ≡ macroblocks p.width = omega arith in
    let cols : c.from-cols.result ≡ macroblocks p.width = omega arith in
    c.loop-column.invariant.done
    ∙ (ap (λ (n : ℕ). over n (filtered_at (level_in levels c.from-cols.result) c.args.row) p) all
    ∙ ap (λ (n : ℕ). over (macroblocks p.width) (filtered_at (level_in levels n) c.args.row) p) cols)
