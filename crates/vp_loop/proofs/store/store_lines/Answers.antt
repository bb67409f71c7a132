use Rattle.std.proofs.Common.{◌≡◌, ◌∙◌, ℕ, ◌+◌, List, Bool, get_or, ap, refl, sym, subst, arith}
use Rattle.vp_loop.specs.declared.edges.Orientation.{Orientation}
use Rattle.vp_loop.specs.declared.edges.Orientation.TheVariants.{Vertical}
use Rattle.vp_loop.specs.Edges.{pixel_at}
use Rattle.vp_loop.specs.Lanes.{line_of, on_planes, with_lines, unwritten}
use Rattle.vp_loop.proofs.RowWrites.{columns_stored, middle_pixel}
use Rattle.vp_loop.proofs.store.store_lines.Goals as goal

pub returns-in-Vertical : goal.returns-in-Vertical
returns-in-Vertical c =
    let e = c.args.edge in
    let p = c.args.picture.now in
    let l = c.args.lines in
    let q = c.write_sixteen_rows.new.picture in
    let rows = c.untranspose_middle-rows in
    subst (λ (o : Orientation). q ≡ on_planes e.planes (with_lines o e.x e.y (unwritten c.args.inside o) l) p) (sym c.in-Vertical.is)
    (subst (λ (b : Bool). q ≡ on_planes e.planes (with_lines Vertical e.x e.y (unwritten b Vertical) l) p) (sym c.if-inside.true)
    (c.write_sixteen_rows.ensures
    ∙ columns_stored e.planes e.x e.y 2 (e.x + 2) 4 l rows.result refl refl (λ j i h g. ap (λ (v : List ℕ). get_or v i 0) (rows.ensures.value j h) ∙ middle_pixel (line_of l j) i g) p))

pub returns-in-Vertical-2 : goal.returns-in-Vertical-2
returns-in-Vertical-2 c =
    let e = c.args.edge in
    let p = c.args.picture.now in
    let l = c.args.lines in
    let q = c.write_sixteen_rows-in-Vertical-2.new.picture in
    let rows = c.untranspose-rows in
    subst (λ (o : Orientation). q ≡ on_planes e.planes (with_lines o e.x e.y (unwritten c.args.inside o) l) p) (sym c.in-Vertical-2.is)
    (subst (λ (b : Bool). q ≡ on_planes e.planes (with_lines Vertical e.x e.y (unwritten b Vertical) l) p) (sym c.if-inside.false)
    (c.write_sixteen_rows-in-Vertical-2.ensures
    ∙ columns_stored e.planes e.x e.y 0 e.x 8 l rows.result (omega arith) refl
    (λ j i h g. ap (λ (v : List ℕ). get_or v i 0) (rows.ensures.value j h) ∙ ap (pixel_at (line_of l j)) (let e : i ≡ i + 0 = omega arith in e)) p))
