use Rattle.std.proofs.Common.{◌≡◌, ◌∙◌, ◌+◌, ◌*◌, ◌<◌, ℕ, ℤ, List, get_or, ap, subst, sym, arith}
use Rattle.vp_inter.specs.Filter.{filter_six}
use Rattle.vp_inter.specs.Written.{IsBlockWritten}
use Rattle.vp_inter.proofs.FilterLemmas.{filter_six-same}
use Rattle.vp_inter.proofs.WrittenLemmas.{none_written}
use Rattle.vp_inter.proofs.rows.vertical_by_taps.Goals as goal

-- a filtered pixel, by the row that it begins in
abbrev value : List ℤ → List ℕ → ℕ → ℕ → ℕ → ℕ
value weights rows n r c = filter_six weights (λ k. get_or rows ((r + k) * n + c) 0)

row_is : (weights : List ℤ) (rows : List ℕ) (n r c at : ℕ) → ((k : ℕ) → k < 6 → at + k * n + c ≡ (r + k) * n + c) → filter_six weights (λ k. get_or rows (at + k * n + c) 0) ≡ value weights rows n r c
row_is weights rows n r c at same =
    filter_six-same weights (λ k. get_or rows (at + k * n + c) 0) (λ k. get_or rows ((r + k) * n + c) 0) (λ k kin. ap (λ (i : ℕ). get_or rows i 0) (same k kin))

pub returns-then-this-eq4 : goal.returns-then-this-eq4
returns-then-this-eq4 g c =
    let w : List ℤ = c.args.weights.now in
    let rows : List ℕ = c.args.rows.now in
    subst (λ (n : ℕ). IsBlockWritten n n c.args.pixels.now c.put_sixteen.new.pixels c.args.at c.args.stride (value w rows n)) (sym c.if-this-eq4.true)
    (c.put_sixteen.ensures (value w rows 4) (λ r k rin kin.
    c.pass-block.ensures (4 * r + k) (omega arith)
    ∙ filter_six-same w (λ j. get_or rows (0 + j * 4 + (4 * r + k)) 0) (λ j. get_or rows ((r + j) * 4 + k) 0)
    (λ j jin. ap (λ (i : ℕ). get_or rows i 0) (let e : 0 + j * 4 + (4 * r + k) ≡ (r + j) * 4 + k = omega arith in e))))

pub loop-r-init : goal.loop-r-init
loop-r-init g c = record { done = none_written g.row.N c.args.pixels.now c.args.at c.args.stride (value c.args.weights.now c.args.rows.now g.row.N) }

pub loop-r-preserved : goal.loop-r-preserved
loop-r-preserved g c =
    let n : ℕ = g.row.N in
    let r : ℕ = c.loop-r.r in
    record {
      done = c.put_row.ensures c.args.pixels.now (value c.args.weights.now c.args.rows.now n) c.loop-r.invariant.done (λ k kin.
          c.pass-row.ensures k kin ∙ row_is c.args.weights.now c.args.rows.now n r k (r * n) (λ j jin. omega arith));
    }
