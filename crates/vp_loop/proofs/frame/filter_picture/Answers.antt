use Rattle.std.proofs.Common.{◌≡◌, ◌∙◌, ℕ, ◌+◌, ◌*◌, ◌≤◌, ap, refl, sym, subst, arith, length}
use Rattle.std.proofs.lemmas.Nat.{row_fits}
use Rattle.vp_base.specs.Image.{Image, macroblocks}
use Rattle.vp_base.specs.Over.{over}
use Rattle.vp_base.proofs.OverLemmas.{over-none, over-next}
use Rattle.vp_loop.specs.Filtered.{row_filtered, filtered, level_in}
use Rattle.vp_loop.proofs.FrameLemmas.{keeps_row}
use Rattle.vp_loop.proofs.frame.filter_picture.Goals as goal

pub loop-row-init : goal.loop-row-init
loop-row-init c = record {
  done = sym (over-none (row_filtered (level_in c.args.levels.now (macroblocks c.args.picture.now.width))) c.args.picture.now);
  width = refl;
  height = refl;
}

pub filter_row-requires-clause-levels : goal.filter_row-requires-clause-levels
filter_row-requires-clause-levels c =
    let e = c.mb_rows.ensures.value in
    let d = c.dim.ensures.height in
    let cols = macroblocks c.args.picture.now.width in
    let rows = macroblocks c.args.picture.now.height in
    let fits : c.loop-row.row * cols + cols ≤ rows * cols = row_fits c.loop-row.row cols rows cols (omega arith) (omega arith) in
    let all = c.requires in
    subst (λ (n : ℕ). c.loop-row.row * macroblocks n + macroblocks n ≤ length c.args.levels.now) (sym c.loop-row.invariant.width) (omega arith)

pub loop-row-preserved : goal.loop-row-preserved
loop-row-preserved c =
    let level = level_in c.args.levels.now (macroblocks c.args.picture.now.width) in
    let own : c.filter_row.new.picture ≡ row_filtered level c.loop-row.row c.loop-row.picture =
    c.filter_row.ensures ∙ ap (λ (n : ℕ). row_filtered (level_in c.args.levels.now (macroblocks n)) c.loop-row.row c.loop-row.picture) c.loop-row.invariant.width in
    record {
      done = own ∙ over-next c.loop-row.row (row_filtered level) c.args.picture.now c.loop-row.picture c.loop-row.invariant.done;
      width = ap (λ (p : Image). p.width) own ∙ (keeps_row (λ q. q.width) (λ l m n q. refl) level c.loop-row.row c.loop-row.picture ∙ c.loop-row.invariant.width);
      height = ap (λ (p : Image). p.height) own ∙ (keeps_row (λ q. q.height) (λ l m n q. refl) level c.loop-row.row c.loop-row.picture ∙ c.loop-row.invariant.height);
    }

pub returns : goal.returns
unfolding filtered
returns c =
    let p = c.args.picture.now in
    let e = c.mb_rows.ensures.value in
    let d = c.dim.ensures.height in
    let all : c.loop-row.row ≡ macroblocks p.height = omega arith in
    c.loop-row.invariant.done ∙ ap (λ (n : ℕ). over n (row_filtered (level_in c.args.levels.now (macroblocks p.width))) p) all
