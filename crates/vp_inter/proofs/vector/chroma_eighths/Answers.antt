use Rattle.std.proofs.Common.{◌≡◌, ◌∙◌, Bool, cond, ℤ, pos, ◌+ℤ◌, ◌*ℤ◌, ap, sym, get_or, arith, rules, to_z, of_z, w32, eq-eqb}
use Rattle.std.proofs.lemmas.Int.{ints, to_z-of_z}
use Rattle.std.proofs.lemmas.Bool.{ne_eqb}
use mir.Val.{SFits}
use Rattle.vp_inter.specs.Vectors.{whole_pixels, mean_of_four, chroma_eighths, IsFarBelowI32}
use Rattle.vp_inter.proofs.vector.chroma_eighths.Goals as goal

abbrev same : ℤ → ℤ
same z = to_z w32 (of_z w32 z)

-- the sum, as the code computes it
summed : (a b c d : ℤ) → IsFarBelowI32 a → IsFarBelowI32 b → IsFarBelowI32 c → IsFarBelowI32 d
    → same (same (same a +ℤ same b) +ℤ same (same c +ℤ same d)) ≡ (a +ℤ b) +ℤ (c +ℤ d)
summed a b c d na nb nc nd = omega (arith, ints)

pub returns-then-version-eq3 : goal.returns-then-version-eq3
unfolding chroma_eighths
returns-then-version-eq3 c =
    let v : ℤ = mean_of_four ((get_or c.args.quarters.now 0 (pos 0) +ℤ get_or c.args.quarters.now 1 (pos 0)) +ℤ (get_or c.args.quarters.now 2 (pos 0) +ℤ get_or c.args.quarters.now 3 (pos 0))) in
    let fits : SFits w32 c.mean_of_four-mean.result = search rules in
    let mean = to_z-of_z w32 c.mean_of_four-mean.result fits ∙ c.mean_of_four-mean.ensures ∙ ap mean_of_four (summed _ _ _ _ c.requires.0 c.requires.1 c.requires.2 c.requires.3) in
    (let eight : to_z w32 (of_z w32 (to_z w32 (of_z w32 c.whole_pixels.result) *ℤ pos 8)) ≡ c.whole_pixels.result *ℤ pos 8 = omega (arith, ints) in eight)
    ∙ ap (λ (z : ℤ). z *ℤ pos 8) (c.whole_pixels.ensures.value ∙ ap whole_pixels mean)
    ∙ ap (λ (b : Bool). cond b (whole_pixels v *ℤ pos 8) v) (sym (eq-eqb c.args.version 3 c.if-version-eq3.true))

pub returns-else-version-eq3 : goal.returns-else-version-eq3
unfolding chroma_eighths
returns-else-version-eq3 c =
    let v : ℤ = mean_of_four ((get_or c.args.quarters.now 0 (pos 0) +ℤ get_or c.args.quarters.now 1 (pos 0)) +ℤ (get_or c.args.quarters.now 2 (pos 0) +ℤ get_or c.args.quarters.now 3 (pos 0))) in
    let fits : SFits w32 c.mean_of_four-mean.result = search rules in
    to_z-of_z w32 c.mean_of_four-mean.result fits ∙ c.mean_of_four-mean.ensures ∙ ap mean_of_four (summed _ _ _ _ c.requires.0 c.requires.1 c.requires.2 c.requires.3)
    ∙ ap (λ (b : Bool). cond b (whole_pixels v *ℤ pos 8) v) (sym (ne_eqb c.args.version 3 c.if-version-eq3.false))
