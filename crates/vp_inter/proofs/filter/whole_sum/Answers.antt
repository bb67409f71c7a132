use Rattle.std.proofs.Common.{◌≡◌, ◌∙◌, ℕ, ◌+◌, ◌*◌, ◌<◌, ℤ, pos, List, ap, sym, subst, get_or, arith, rules, w16}
use Rattle.std.proofs.lemmas.Int.{ints, to_z-of_z}
use mir.Val.{SFits}
use Rattle.vp_lanes.proofs.Signed.{signed_param, signed_out}
use Rattle.vp_inter.specs.Narrow.{IsShort}
use Rattle.vp_inter.proofs.LongLanes.{sum_same}
use Rattle.vp_inter.proofs.NarrowLemmas.{pair_same, whole_fits}
use Rattle.vp_inter.proofs.filter.whole_sum.Goals as goal

pub more-requires : goal.more-requires
more-requires g c =
    let s : List ℕ = c.args.s.now in
    let w : List ℤ = c.args.weights.now in
    let at : ℕ = c.args.at in
    let step : ℕ = c.args.step in
    let first : SFits w16 (get_or c.args.weights.now 0 (pos 0)) = search rules in
    let last : SFits w16 (get_or c.args.weights.now 5 (pos 0)) = search rules in (
      omega arith,
      (
        omega arith,
        (
          omega arith,
          (
            (omega (arith, ints), omega (arith, ints)),
            (
              (omega (arith, ints), omega (arith, ints)),
              (λ (j : ℕ) (h : j < g.row.N).
                  let place : at + j ≡ at + 0 * step + j = omega arith in
                  let sum = signed_out (signed_param g.row.N c.inner.result _ c.inner.type_inv) j h ∙ c.inner.ensures j h in
                  let added = pair_same _ _ _ _ _ _ _ _ (c.load.ensures j h ∙ ap (λ (i : ℕ). get_or s i 0) place) (c.load-2.ensures j h) (to_z-of_z w16 _ first) (to_z-of_z w16 _ last) in
                  subst (λ (z : ℤ). IsShort z) (sym (sum_same _ _ _ _ sum added)) (whole_fits w (λ k. get_or s (at + k * step + j) 0) c.requires.gentle (λ k. omega (arith, c.type_inv.s (at + k * step + j))))),
            ),
          ),
        ),
      ),
    )

pub returns : goal.returns
returns g c j h =
    let s : List ℕ = c.args.s.now in
    let w : List ℤ = c.args.weights.now in
    let at : ℕ = c.args.at in
    let step : ℕ = c.args.step in
    let first : SFits w16 (get_or c.args.weights.now 0 (pos 0)) = search rules in
    let last : SFits w16 (get_or c.args.weights.now 5 (pos 0)) = search rules in
    let place : at + j ≡ at + 0 * step + j = omega arith in
    let sum = signed_out (signed_param g.row.N c.inner.result _ c.inner.type_inv) j h ∙ c.inner.ensures j h in
    let added = pair_same _ _ _ _ _ _ _ _ (c.load.ensures j h ∙ ap (λ (i : ℕ). get_or s i 0) place) (c.load-2.ensures j h) (to_z-of_z w16 _ first) (to_z-of_z w16 _ last) in
    signed_out (signed_param g.row.N c.more.result _ c.more.type_inv) j h ∙ c.more.ensures j h ∙ sum_same _ _ _ _ sum added
