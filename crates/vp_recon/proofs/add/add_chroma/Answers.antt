use Rattle.std.proofs.Common.{◌∙◌, ◌+◌, ◌*◌, ◌≤◌, ℕ, ℤ, pos, drop, take, unsigned_abs, sym, ap, subst, arith}
use Rattle.vp_recon.proofs.Words.{Raster, with_plane, chroma_residue, with_sums, le_or_l, le_or_r, get_or-drop}
use Rattle.vp_recon.proofs.ResidueLemmas.{u_dcs, v_dcs, four_small, chroma_sums, chroma_none, chroma_nothing, block_alone}
use Rattle.vp_recon.proofs.PlaneLemmas.{both_chroma}
use Rattle.vp_recon.proofs.add.add_chroma.Goals as goal

pub returns-then-u-v-eq0 : goal.returns-then-u-v-eq0
returns-then-u-v-eq0 c =
    let p = c.args.picture.now in
    let t = c.args.tokens.now in
    let f = c.args.factors.now in
    let x : ℕ = 8 * c.args.place.column in
    let y : ℕ = 8 * c.args.place.row in
    let l = le_or_l c.ends_in.result c.ends_in-2.result in
    let r = le_or_r c.ends_in.result c.ends_in-2.result in
    let step : ℕ → Raster → Raster = λ k q. with_sums 2 q x y (chroma_residue t f k) in
    ap (λ (q : Raster). record p { u = q })
    (block_alone p.u x y 2 (chroma_residue t f 1) c.know_plane.ensures.whole c.know_plane.ensures.bytes
    (λ k below. chroma_nothing t f 1 k (let own = c.ends_in.ensures k below in (own.0, omega (arith, own.1, l, c.if-u-v-eq0.true)))))
    ∙ ap (λ (q : Raster). record p { u = step 1 p.u; v = q })
    (block_alone p.v x y 2 (chroma_residue t f 2) c.know_plane-2.ensures.whole c.know_plane-2.ensures.bytes
    (λ k below. chroma_nothing t f 2 k (let own = c.ends_in-2.ensures k below in (own.0, omega (arith, own.1, r, c.if-u-v-eq0.true)))))

pub invariant_of-of_u : goal.invariant_of-of_u
invariant_of-of_u c = record {
  small = four_small c.in-Some.dcs (λ k below. c.eight_dcs.ensures.small c.in-Some.dcs c.factors.inside.raw.uv_dc c.in-Some.is c.factors.invariant.uv_dc k (omega arith));
  ready = c.factors.invariant.uv_ac;
}

pub invariant_of-of_v : goal.invariant_of-of_v
invariant_of-of_v c = record {
  small = four_small (drop 4 c.in-Some.dcs)
      (λ k below. subst (λ (z : ℤ). unsigned_abs z ≤ 2200) (sym (get_or-drop 4 c.in-Some.dcs k (pos 0))) (c.eight_dcs.ensures.small c.in-Some.dcs c.factors.inside.raw.uv_dc c.in-Some.is c.factors.invariant.uv_dc (4 + k) (omega arith)));
  ready = c.factors.invariant.uv_ac;
}

pub add_chroma_plane-requires-clause-none : goal.add_chroma_plane-requires-clause-none
add_chroma_plane-requires-clause-none c none i below =
    let own = c.ends_in.ensures i below in
    let g = c.factors.inside.raw in
    chroma_none c.args.tokens.now g 1 (take 4 c.in-Some.dcs) (u_dcs c.args.tokens.now g.uv_dc c.in-Some.dcs (c.eight_dcs.ensures.value c.in-Some.dcs g.uv_dc c.in-Some.is c.factors.invariant.uv_dc)) i below
    (own.0, omega (arith, own.1, none))

pub add_chroma_plane-requires-2-clause-none : goal.add_chroma_plane-requires-2-clause-none
add_chroma_plane-requires-2-clause-none c none i below =
    let own = c.ends_in-2.ensures i below in
    let g = c.factors.inside.raw in
    chroma_none c.args.tokens.now g 2 (take 4 (drop 4 c.in-Some.dcs)) (v_dcs c.args.tokens.now g.uv_dc c.in-Some.dcs (c.eight_dcs.ensures.value c.in-Some.dcs g.uv_dc c.in-Some.is c.factors.invariant.uv_dc)) i below
    (own.0, omega (arith, own.1, none))

pub returns : goal.returns
returns c =
    let p = c.args.picture.now in
    let one = c.add_chroma_plane.new.picture in
    let t = c.args.tokens.now in
    let f = c.args.factors.now in
    let g = c.factors.inside.raw in
    let x : ℕ = 8 * c.args.place.column in
    let y : ℕ = 8 * c.args.place.row in
    let are = c.eight_dcs.ensures.value c.in-Some.dcs g.uv_dc c.in-Some.is c.factors.invariant.uv_dc in
    let sums = λ (q : Raster). chroma_sums t f c.factors.inside.raw c.factors.view_is q x y in
    both_chroma p one c.add_chroma_plane-2.new.picture (λ k q. with_sums 2 q x y (chroma_residue t f k))
    (c.add_chroma_plane.ensures ∙ ap (with_plane p 1) (sums p.u 1 _ (u_dcs t g.uv_dc c.in-Some.dcs are)))
    (c.add_chroma_plane-2.ensures ∙ ap (with_plane one 2) (sums one.v 2 _ (v_dcs t g.uv_dc c.in-Some.dcs are)))
