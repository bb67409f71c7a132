use Rattle.std.proofs.Common.{◌≡◌, ◌∙◌, ℕ, ◌+◌, ◌-◌, List, [], ◌∷◌, get_or, length, ap, ap₂, refl, sym, subst}
use Rattle.std.specs.List.{slice_range}
use Rattle.vp_base.specs.Raster.{Raster}
use Rattle.vp_base.specs.Block.{with_block}
use Rattle.vp_base.specs.Image.{Image}
use Rattle.vp_loop.specs.declared.edges.Orientation.TheVariants.{Horizontal}
use Rattle.vp_loop.specs.declared.edges.Planes.{Planes}
use Rattle.vp_loop.specs.Edges.{pixel_at}
use Rattle.vp_loop.specs.Lanes.{line_of, on_planes, pixel_of, with_lines}
use Rattle.vp_loop.proofs.TransposeLemmas.{below_eight}
use Rattle.vp_loop.proofs.RowWrites.{rows_stored}
use Rattle.vp_loop.proofs.store.store_rows.Goals as goal

pub returns-in-Luma : goal.returns-in-Luma
returns-in-Luma c =
    let e = c.args.edge in
    let p = c.args.picture.now in
    let l = c.args.l in
    let k = c.args.kept in
    let rows : List (List ℕ) = l.p3 ∷ l.p2 ∷ l.p1 ∷ l.p0 ∷ l.q0 ∷ l.q1 ∷ l.q2 ∷ l.q3 ∷ [] in
    subst (λ (planes : Planes). c.write_rows.new.picture ≡ on_planes planes (with_lines Horizontal e.x e.y k l) p) (sym c.in-Luma.is)
    (c.write_rows.ensures
    ∙ ap (λ (q : Raster). record p { luma = q }) (rows_stored e.x e.y k 16 (λ j. j) l p.luma rows refl c.requires.few
    (λ r d h g. below_eight (λ r. get_or (get_or rows r []) d 0 ≡ pixel_at (line_of l d) r) refl refl refl refl refl refl refl refl r h)))

pub returns-in-Chroma : goal.returns-in-Chroma
returns-in-Chroma c =
    let e = c.args.edge in
    let p = c.args.picture.now in
    let l = c.args.l in
    let k = c.args.kept in
    let u = c.first_halves-u_rows in
    let v = c.second_halves-v_rows in
    let part : List (List ℕ) = slice_range v.result k (8 - k) in
    let f : Raster → Raster = λ q. with_block q e.x (e.y + k) 8 (length part) (pixel_of (λ v. v) part) in
    subst (λ (planes : Planes). c.write_rows-in-Chroma-2.new.picture ≡ on_planes planes (with_lines Horizontal e.x e.y k l) p) (sym c.in-Chroma.is)
    (c.write_rows-in-Chroma-2.ensures
    ∙ (ap (λ (q : Image). record q { v = f q.v }) c.write_rows-in-Chroma.ensures
    ∙ ap₂ (λ (a b : Raster). record p { u = a; v = b }) (rows_stored e.x e.y k 8 (λ j. j) l p.u u.result u.ensures.len c.requires.few (λ r d h g. u.ensures.value d g r h))
    (rows_stored e.x e.y k 8 (λ j. j + 8) l p.v v.result v.ensures.len c.requires.few (λ r d h g. v.ensures.value d g r h))))
