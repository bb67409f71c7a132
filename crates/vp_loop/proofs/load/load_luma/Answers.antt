use Rattle.std.proofs.Common.{◌≡◌, ◌∙◌, ℕ, ◌+◌, ◌*◌, ◌<◌, ◌≤◌, [], get_or, ap, refl, sym, subst, arith, length}
use Rattle.vp_base.specs.Raster.{Raster}
use Rattle.vp_loop.specs.declared.edges.Orientation.{Orientation}
use Rattle.vp_loop.specs.declared.edges.Orientation.TheVariants.{Vertical, Horizontal}
use Rattle.vp_loop.specs.declared.edges.Edge.{Edge}
use Rattle.vp_loop.specs.Edges.{pick}
use Rattle.vp_loop.specs.Lanes.{line_of, own_line, IsEdgeIn}
use Rattle.vp_loop.proofs.RowReads.{block_room, pixel_is, own_line_is, both_halves}
use Rattle.vp_loop.proofs.load.load_luma.Goals as goal

-- an edge within a plane is within the list of its pixels
room : (edge : Edge) (p : Raster) (w size : ℕ) (o : Orientation) → edge.orientation ≡ o → IsEdgeIn edge.orientation 16 edge.x edge.y p → w ≡ p.width → size ≡ p.height * p.width
    → edge.y * w + edge.x + pick o 15 7 * w + pick o 8 16 ≤ size
room edge p w size o e fits wide whole = go o (subst (λ (o : Orientation). IsEdgeIn o 16 edge.x edge.y p) e fits)
  where
    long : size ≡ p.height * w
    long = whole ∙ ap (λ (k : ℕ). p.height * k) (sym wide)

    go : (o : Orientation) → IsEdgeIn o 16 edge.x edge.y p → edge.y * w + edge.x + pick o 15 7 * w + pick o 8 16 ≤ size
    go Vertical fits = let columns = fits.0 in let rows = fits.1 in block_room edge.x edge.y w p.height 8 15 size long (omega arith) (omega arith)
    go Horizontal fits = let columns = fits.0 in let rows = fits.1 in block_room edge.x edge.y w p.height 16 7 size long (omega arith) (omega arith)

pub rows8-requires : goal.rows8-requires
rows8-requires c =
    let all = room c.args.edge c.args.plane.now c.width-stride.result (length c.pixels-pixels.result.now) Vertical c.in-Vertical.is c.requires c.width-stride.ensures.value c.pixels-pixels.ensures.len in
    record { room = omega arith }

pub rows8-requires-in-Vertical : goal.rows8-requires-in-Vertical
rows8-requires-in-Vertical c =
    let all = room c.args.edge c.args.plane.now c.width-stride.result (length c.pixels-pixels.result.now) Vertical c.in-Vertical.is c.requires c.width-stride.ensures.value c.pixels-pixels.ensures.len in
    record { room = omega arith }

pub rows16-requires : goal.rows16-requires
rows16-requires c =
    let all = room c.args.edge c.args.plane.now c.width-stride.result (length c.pixels-pixels.result.now) Horizontal c.in-Horizontal.is c.requires c.width-stride.ensures.value c.pixels-pixels.ensures.len in
    record { room = omega arith }

pub returns-in-Vertical : goal.returns-in-Vertical
returns-in-Vertical c =
    let e = c.args.edge in
    let p = c.args.plane.now in
    let ps = c.pixels-pixels.result.now in
    let w = c.width-stride.result in
    let at = e.y * w + e.x in
    let lines : (j : ℕ) → j < 16 → line_of c.transpose.result j ≡ own_line Vertical p e.x e.y j =
    both_halves p c.transpose.result e.x e.y
    (λ k h. c.transpose.ensures.first k h ∙ own_line_is Vertical p (λ m. get_or (get_or c.rows8.result k []) m 0) e.x e.y k (λ m below.
    c.rows8.ensures k m h below ∙ pixel_is p ps e.x e.y at w k m c.pixels-pixels.ensures.value c.width-stride.ensures.value refl))
    (λ k h. c.transpose.ensures.second k h ∙ own_line_is Vertical p (λ m. get_or (get_or c.rows8-in-Vertical.result k []) m 0) e.x (e.y + 8) k (λ m below.
    c.rows8-in-Vertical.ensures k m h below ∙ pixel_is p ps e.x (e.y + 8) (at + 8 * w) w k m c.pixels-pixels.ensures.value c.width-stride.ensures.value (omega arith))) in
    record { whole = c.width-stride.ensures.whole; fits = c.requires; lines = subst (λ (o : Orientation). (j : ℕ) → j < 16 → line_of c.transpose.result j ≡ own_line o p e.x e.y j) (sym c.in-Vertical.is) lines }

pub returns-in-Horizontal : goal.returns-in-Horizontal
returns-in-Horizontal c =
    let e = c.args.edge in
    let p = c.args.plane.now in
    let ps = c.pixels-pixels.result.now in
    let w = c.width-stride.result in
    let at = e.y * w + e.x in
    let lines : (j : ℕ) → j < 16 → line_of c.rows16.result j ≡ own_line Horizontal p e.x e.y j =
    λ k h. c.rows16.ensures k h ∙ own_line_is Horizontal p (λ m. get_or ps (at + m * w + k) 0) e.x e.y k (λ m below. pixel_is p ps e.x e.y at w m k c.pixels-pixels.ensures.value c.width-stride.ensures.value refl) in
    record { whole = c.width-stride.ensures.whole; fits = c.requires; lines = subst (λ (o : Orientation). (j : ℕ) → j < 16 → line_of c.rows16.result j ≡ own_line o p e.x e.y j) (sym c.in-Horizontal.is) lines }
