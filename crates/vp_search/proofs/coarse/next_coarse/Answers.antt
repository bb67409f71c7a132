use Rattle.std.proofs.Common.{◌≡◌, ℕ, ◌+◌, ◌-◌, ◌*◌, ◌<◌, get_or, ap, subst, ◌∙◌, arith, inl, inr}
use Rattle.std.proofs.lemmas.Bool.{cases_lt}
use Rattle.vp_search.specs.Coarse.{coarse_bound_of}
use Rattle.vp_search.proofs.CoarseLemmas.{coarse_excludes}
use Rattle.vp_search.proofs.coarse.next_coarse.Goals as goal

pub loop-pair-preserved : goal.loop-pair-preserved
loop-pair-preserved c g t low high within eight =
    let first : ℕ = c.args.start + 2 * c.loop-pair.pair in
    elim (cases_lt g first) [
      | inl less ↦ c.loop-pair.invariant g t low less within eight
      | inr more ↦
          let j : ℕ = 8 * (g - first) + t in
          let place : c.args.at + 8 * first + j ≡ c.args.at + 8 * g + t = omega arith in
          let in_lanes : j < 16 = omega arith in
          let here : get_or c.coarse_bounds_at-bounds.result j 0 ≡ coarse_bound_of c.args.sums.coarse_block c.args.sums.coarse.now (c.args.at + 8 * g + t) =
          c.coarse_bounds_at-bounds.ensures j in_lanes ∙ ap (λ (i : ℕ). coarse_bound_of c.args.sums.coarse_block c.args.sums.coarse.now i) place in
          let over = c.any_within.ensures c.if-any_within.false j in_lanes in
          coarse_excludes c.args.sums.block c.args.sums.places.now c.args.sums.coarse_block c.args.sums.coarse.now (c.args.at + 8 * g + t) c.args.limit
          c.args.sums.coarse_block_is (λ k h. let e = c.args.sums.coarse_size (omega arith) in c.args.sums.coarse_is (omega arith) k (omega arith))
          (subst (λ (n : ℕ). c.args.limit + 252 < 64 * n) here over)
    ]
