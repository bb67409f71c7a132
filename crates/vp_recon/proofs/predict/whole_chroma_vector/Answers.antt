use Rattle.std.proofs.Common.{◌≡◌, ◌∙◌, ℤ, sym, ap, subst, get_or, to_z, of_z, w32, rules}
use Rattle.vp_recon.proofs.Words.{Vector, MacroblockMotion, AreOne, PlaneVector, to_z-of_z}
use mir.Val.{SFits}
use Rattle.vp_recon.proofs.MovedLemmas.{chroma_whole}
use Rattle.vp_recon.proofs.predict.whole_chroma_vector.Goals as goal

pub returns : goal.returns
returns c =
    let e : MacroblockMotion = c.args.motion.now in
    let none : Vector = c.index-motion-0.result in
    let y : ℤ = c.vector.inside.row in
    let x : ℤ = c.vector.inside.column in
    let vector : Vector = record { row = y; column = x } in
    let one : AreOne e.mode e.vectors = subst (λ (a : MacroblockMotion). AreOne a.mode a.vectors) c.motion.view_is c.motion.invariant in
    let first : get_or e.vectors 0 none ≡ vector = ap (λ (a : MacroblockMotion). get_or a.vectors 0 none) (sym c.motion.view_is) ∙ sym c.vector.view_is in
    let row_fits : SFits w32 c.vector.inside.row = search rules in
    let column_fits : SFits w32 c.vector.inside.column = search rules in
    let made : ℤ → ℤ → PlaneVector = λ r c. record { row = r; column = c } in
    ap (λ (z : ℤ). made z (to_z w32 (of_z w32 x))) (to_z-of_z w32 y row_fits)
    ∙ ap (λ (z : ℤ). made y z) (to_z-of_z w32 x column_fits)
    ∙ chroma_whole c.args.version e vector none one c.requires c.if-version-eq3.false first
