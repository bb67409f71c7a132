use Rattle.std.proofs.Common.{◌≡◌, ◌∙◌, ℕ, ◌+◌, ◌*◌, ◌<◌, ◌≤◌, List, get_or, sym, ap, arith, inl, inr, rules}
use Rattle.std.proofs.lemmas.Bool.{cases_lt}
use Rattle.std.proofs.lemmas.Nat.{row_fits}
use Rattle.vp_base.specs.Raster.{Raster, pixel}
use Rattle.vp_base.proofs.BlockLemmas.{get_or-row_of}
use Rattle.vp_search.proofs.CutLemmas.{part_at, part_long}
use Rattle.vp_search.proofs.block.cut_block.Goals as goal

pub loop-r-preserved : goal.loop-r-preserved
loop-r-preserved g c =
    let n : ℕ = g.row.SIDE in
    let p : Raster = c.args.plane.now in
    let i : ℕ = c.loop-r.r in
    let new : List ℕ = c.put_part.new.window in
    let x : ℕ = g.row.SIDE * c.args.place.column in
    let y : ℕ = g.row.SIDE * c.args.place.row in
    let here : (j : ℕ) → j < n → get_or new (i * n + j) 0 ≡ pixel p (x + j) (y + i) =
    λ j jin. c.put_part.ensures.here j (part_long c.row-line.result.now x n j (omega arith) jin) ∙ part_at c.row-line.result.now x n j jin
    ∙ ap (λ (line : List ℕ). get_or line (x + j) 0) c.row-line.ensures.value
    ∙ get_or-row_of p (x + j) (y + i) (omega arith) in
    record {
      size = search rules;
      done = λ k j kin jin. elim (cases_lt k i) [
        | inl less ↦
            let room : k * n + n ≤ i * n = row_fits k n i n less (omega arith) in
            c.put_part.ensures.before (k * n + j) (omega arith) ∙ c.loop-r.invariant.done k j less jin
        | inr same ↦
            let e : k ≡ i = omega arith in
            ap (λ (t : ℕ). get_or new (t * n + j) 0) e ∙ here j jin ∙ ap (λ (t : ℕ). pixel p (x + j) (y + t)) (sym e)
      ];
    }
