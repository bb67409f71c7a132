use Rattle.std.proofs.Common.{◌≡◌, ◌∙◌, ◌+◌, ◌*◌, ℕ, length, ap, sym, subst, arith, refl}
use Rattle.vp_base.specs.Raster.{Raster, with_pixels}
use Rattle.vp_base.specs.Block.{with_block}
use Rattle.vp_base.specs.Image.{Image}
use Rattle.vp_inter.specs.declared.vector.PlaneVector.{PlaneVector}
use Rattle.vp_inter.specs.Filter.{taps, filter_six}
use Rattle.vp_inter.specs.Inter.{inter_pixel}
use Rattle.vp_inter.specs.Patches.{IsAt, patch_pass, weights_of}
use Rattle.vp_inter.proofs.ChromaLemmas.{other_plane}
use Rattle.vp_inter.proofs.PassLemmas.{patch_both}
use Rattle.vp_inter.proofs.PanelLemmas.{first_columns_of_short}
use Rattle.vp_inter.proofs.WrittenLemmas.{block_put, plane_room, written_alike}
use Rattle.vp_inter.proofs.chroma.filter_into_chroma.Goals as goal

pub vertical_from_panel-requires : goal.vertical_from_panel-requires
vertical_from_panel-requires c =
    let wide : c.width-stride.result ≡ c.args.picture.now.u.width = c.width-stride.ensures.value ∙ ap (λ (s : Raster). s.width) c.plane-3.ensures in
    plane_room c.args.picture.now.u c.args.x c.args.y 8 8 c.width-stride.result _ wide c.pixels_mut.ensures.len c.requires.room.0 c.requires.room.1

pub vertical_from_panel-requires-2 : goal.vertical_from_panel-requires-2
vertical_from_panel-requires-2 c =
    let wide : c.width-stride.result ≡ c.args.picture.now.u.width = c.width-stride.ensures.value ∙ ap (λ (s : Raster). s.width) c.plane-3.ensures in
    plane_room c.args.picture.now.v c.args.x c.args.y 8 8 c.width-stride.result _ (omega (arith, wide, c.dim-2.ensures.aligned)) c.pixels_mut-2.ensures.len c.requires.room.2 c.requires.room.3

pub returns : goal.returns
returns c =
    let p : Image = c.args.picture.now in
    let ref : Image = c.args.reference.now in
    let version : ℕ = c.args.version in
    let x : ℕ = c.args.x in
    let y : ℕ = c.args.y in
    let v : PlaneVector = c.args.vector in
    let from_u = c.at-from_u.result in
    let from_v = c.at-from_v.result in
    let at_u = subst (λ (s : Raster). IsAt from_u s x y v) c.plane-u.ensures c.at-from_u.ensures.place in
    let at_v = subst (λ (s : Raster). IsAt from_v s x y v) c.plane-v.ensures c.at-from_v.ensures.place in
    let stride : ℕ = c.width-stride.result in
    let wide_u : stride ≡ p.u.width = c.width-stride.ensures.value ∙ ap (λ (s : Raster). s.width) c.plane-3.ensures in
    let wide_v : stride ≡ p.v.width = omega (arith, wide_u, c.dim-2.ensures.aligned) in
    let selects = c.horizontal_filter-filter.ensures.selects in
    let also = other_plane c.horizontal_filter-filter.result from_u from_v ref.u ref.v x y v at_u at_v (omega (arith, c.dim.ensures.aligned)) selects in
    let horizontal = c.horizontal_filter-filter.ensures.weights ∙ c.taps.ensures ∙ ap (taps version) c.horizontal_fraction.ensures.value in
    let vertical = c.panel_filter-vertical.ensures ∙ c.taps-2.ensures ∙ ap (taps version) c.vertical_fraction.ensures.value in
    let pass = patch_pass (weights_of c.horizontal_filter-filter.result.weights) in
    let first : with_pixels p.u c.vertical_from_panel.new.pixels ≡ with_block p.u x y 8 8 (inter_pixel version ref.u x y v) =
    block_put p.u x y 8 8 stride (inter_pixel version ref.u x y v) c.pixels_mut.result.now c.vertical_from_panel.new.pixels (ap length (sym c.pixels_mut.ensures.value) ∙ c.pixels_mut.ensures.len) wide_u c.pixels_mut.ensures.value c.requires.room.0 c.requires.room.1
    (written_alike 8 8 c.pixels_mut.result.now c.vertical_from_panel.new.pixels (y * stride + x) stride (λ r j. filter_six (weights_of c.panel_filter-vertical.result.weights) (λ k. pass from_u (r + k) j)) (inter_pixel version ref.u x y v) (c.vertical_from_panel.ensures (pass from_u) (first_columns_of_short _ (pass from_u) ((c.horizontal_to_panel.ensures 0 selects).0 refl)))
    (λ i j iin jin. patch_both version ref.u x y v i j from_u _ _ at_u horizontal vertical)) in
    let second : with_pixels p.v c.vertical_from_panel-2.new.pixels ≡ with_block p.v x y 8 8 (inter_pixel version ref.v x y v) =
    block_put p.v x y 8 8 stride (inter_pixel version ref.v x y v) c.pixels_mut-2.result.now c.vertical_from_panel-2.new.pixels (ap length (sym c.pixels_mut-2.ensures.value) ∙ c.pixels_mut-2.ensures.len) wide_v c.pixels_mut-2.ensures.value c.requires.room.2 c.requires.room.3
    (written_alike 8 8 c.pixels_mut-2.result.now c.vertical_from_panel-2.new.pixels (y * stride + x) stride (λ r j. filter_six (weights_of c.panel_filter-vertical.result.weights) (λ k. pass from_v (r + k) j)) (inter_pixel version ref.v x y v) (c.vertical_from_panel-2.ensures (pass from_v) (first_columns_of_short _ (pass from_v) ((c.horizontal_to_panel-2.ensures 0 also).0 refl)))
    (λ i j iin jin. patch_both version ref.v x y v i j from_v _ _ at_v horizontal vertical)) in
    ap (λ (q : Raster). record p { u = q; v = with_pixels p.v c.vertical_from_panel-2.new.pixels }) first
    ∙ ap (λ (q : Raster). record p { u = with_block p.u x y 8 8 (inter_pixel version ref.u x y v); v = q }) second
