use Rattle.std.proofs.Common.{◌≡◌, ◌∙◌, ℕ, ◌+◌, ◌*◌, ◌≤◌, List, length, sym, ap, subst, arith, get_or}
use Rattle.vp_base.specs.Raster.{Raster, pixel}
use Rattle.vp_base.proofs.BlockLemmas.{row_of_block_fits}
use Rattle.vp_base.proofs.plane.Plane.copy_block.Goals as goal

pub copy_rows-requires-clause-room : goal.copy_rows-requires-clause-room
copy_rows-requires-clause-room g c r within =
    let wide : c.self.inside.width ≡ c.args.self.now.width = ap (λ (p : Raster). p.width) c.self.view_is in
    let high : c.self.inside.height ≡ c.args.self.now.height = ap (λ (p : Raster). p.height) c.self.view_is in
    row_of_block_fits c.args.x c.args.y c.self.inside.width c.self.inside.height g.row.N r (length c.as_mut_slice-to.result.now)
    (ap length c.as_mut_slice-to.ensures.value ∙ sym c.self.inside.bytes.ok.0 ∙ c.self.invariant.0) (omega arith) (omega arith) within

pub copy_rows-requires-clause-source : goal.copy_rows-requires-clause-source
copy_rows-requires-clause-source g c r within =
    let wide : c.from.inside.width ≡ c.args.from.now.width = ap (λ (p : Raster). p.width) c.from.view_is in
    let high : c.from.inside.height ≡ c.args.from.now.height = ap (λ (p : Raster). p.height) c.from.view_is in
    row_of_block_fits c.args.left c.args.top c.from.inside.width c.from.inside.height g.row.N r (length c.deref.result.now)
    (ap length c.deref.ensures.value ∙ sym c.from.inside.bytes.ok.0 ∙ c.from.invariant.0) (omega arith) (omega arith) within

pub returns-clause-bytes : goal.returns-clause-bytes
returns-clause-bytes g c r k below within =
    let width : ℕ = c.from.inside.width in
    let place : c.args.top * width + c.args.left + r * width + k ≡ (c.args.top + r) * width + (c.args.left + k) = omega arith in
    subst (λ (p : Raster). pixel p (c.args.left + k) (c.args.top + r) ≤ 255) c.from.view_is
    (subst (λ (v : ℕ). v ≤ 255)
    (ap (λ (ns : List ℕ). get_or ns (c.args.top * width + c.args.left + r * width + k) 0) c.deref.ensures.value
    ∙ ap (λ (i : ℕ). get_or c.from.inside.bytes.items i 0) place)
    (c.copy_rows.ensures.bytes r k below within))
