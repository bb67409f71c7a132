use Rattle.std.proofs.Common.{◌≡◌, ℕ, ◌+◌, ◌*◌, ◌∙◌, ap, arith}
use Rattle.vp_search.specs.declared.window.TheConstants.{WINDOW_WIDTH}
use Rattle.vp_search.specs.Bounds.{column_sum}
use Rattle.vp_search.proofs.SquareLemmas.{row_more}
use Rattle.vp_search.proofs.sums.fill_sums.Goals as goal

pub loop-y-init : goal.loop-y-init
loop-y-init c =
    let first : ℕ = c.args.kept.columns in
    record {
      columns = λ x h. c.put_columns.ensures x h ∙ (let e : first + x ≡ 0 + first + x = omega arith in ap (λ (k : ℕ). column_sum c.args.window.now k WINDOW_WIDTH) e);
      coarse = c.put_squares.ensures.coarse;
      squares = row_more c.args.window.now c.args.sums.now c.put_squares.new.sums c.put_columns.new.columns c.args.range c.args.kept.start first 0 _ first _
          (record { made = λ y x h k. absurd (omega arith); known = c.requires.known }) (omega arith) (omega arith) (omega arith) (omega arith) (omega arith)
          c.put_columns.ensures c.put_squares.ensures.here c.put_squares.ensures.before c.put_squares.ensures.after;
    }

pub loop-y-preserved : goal.loop-y-preserved
loop-y-preserved c =
    let first : ℕ = c.args.kept.columns in
    let i : ℕ = c.loop-y.y in
    let at : ℕ = i * WINDOW_WIDTH + first + WINDOW_WIDTH in
    let next : at ≡ (i + 1) * WINDOW_WIDTH + first = omega arith in
    let put = c.put_squares-in-loop-y.ensures in
    record {
      columns = λ x h. c.slide_columns.ensures x h ∙ ap (λ (k : ℕ). column_sum c.args.window.now (k + x) WINDOW_WIDTH) next;
      coarse = λ some n all. put.coarse (omega arith) n (c.loop-y.invariant.coarse some n all);
      squares = row_more c.args.window.now c.loop-y.sums c.put_squares-in-loop-y.new.sums c.slide_columns.new.columns c.args.range c.args.kept.start first (i + 1) _ at _
          c.loop-y.invariant.squares next (omega arith) (omega arith) (omega arith) (omega arith)
          c.slide_columns.ensures put.here put.before put.after;
    }

pub returns-clause-sums : goal.returns-clause-sums
returns-clause-sums c y x h k =
    c.loop-y.invariant.squares.made y x (omega arith) (omega arith)
