-- The edges of a macroblock in its planes.
use Rattle.std.proofs.Common.{◌≡◌, ◌∙◌, ℕ, ◌+◌, ◌-◌, ◌*◌, ◌/◌, Some, None, ◌<◌, refl, ap, ap₂, sym, arith}
use Rattle.vp_base.specs.Raster.{Raster}
use Rattle.vp_base.specs.Image.{Image}
use Rattle.vp_base.specs.Over.{over}
use Rattle.vp_base.proofs.OverLemmas.{over-more}
use Rattle.vp_loop.specs.declared.edges.Orientation.{Orientation}
use Rattle.vp_loop.specs.declared.edges.Planes.{Planes}
use Rattle.vp_loop.specs.declared.edges.Planes.TheVariants.{Luma, Chroma}
use Rattle.vp_loop.specs.declared.lines.LineStep.{LineStep}
use Rattle.vp_loop.specs.declared.limits.EdgeLimits.{EdgeLimits}
use Rattle.vp_loop.specs.Edges.{pick, edge_lines, subblock_edges, macroblock_edge, block_edges, macroblock_step, subblock_step}
use Rattle.vp_loop.specs.Lanes.{size_in, EachPlane, on_planes}

pub on_planes-then : (planes : Planes) (f g : ℕ → (ℕ → ℕ) → Raster → Raster) (p : Image) → on_planes planes g (on_planes planes f p) ≡ on_planes planes (λ n lane q. g n lane (f n lane q)) p
on_planes-then Luma f g p = refl
on_planes-then Chroma f g p = refl

pub on_planes-none : (planes : Planes) (p : Image) → p ≡ on_planes planes (λ n lane q. q) p
on_planes-none Luma p = refl
on_planes-none Chroma p = refl

-- what f and g do alike to each plane, they do alike to the planes
pub on_planes-same : (planes : Planes) (P : ℕ → (ℕ → ℕ) → Raster → Type 0) (f g : ℕ → (ℕ → ℕ) → Raster → Raster) (p : Image) → EachPlane planes P p
    → ((n : ℕ) (lane : ℕ → ℕ) (q : Raster) → ((k : ℕ) → k < n → lane k < 16) → P n lane q → f n lane q ≡ g n lane q) → on_planes planes f p ≡ on_planes planes g p
on_planes-same Luma P f g p has same = ap (λ (q : Raster). record p { luma = q }) (same 16 (λ k. k) p.luma (λ k h. h) has)
on_planes-same Chroma P f g p has same =
    ap₂ (λ (q r : Raster). record p { u = q; v = r }) (same 8 (λ k. k) p.u (λ k h. omega arith) has.0) (same 8 (λ k. k + 8) p.v (λ k h. omega arith) has.1)

-- ---- the edges inside

-- the first m of the edges inside a macroblock
unfoldable pub first_edges : Orientation → LineStep → ℕ → ℕ → ℕ → ℕ → (ℕ → ℕ) → Raster → Raster
first_edges orientation step x y m size lane p = over m (λ i. edge_lines orientation step size (pick orientation (x + 4 * i) x) (pick orientation y (y + 4 * i))) p

pub first_edges-none : (planes : Planes) (orientation : Orientation) (step : LineStep) (x y : ℕ) (p : Image) → p ≡ on_planes planes (first_edges orientation step x y 0) p
unfolding first_edges over
first_edges-none planes orientation step x y p = on_planes-none planes p

pub first_edges-more : (planes : Planes) (orientation : Orientation) (step : LineStep) (x y m : ℕ) (p : Image)
    → on_planes planes (λ n lane. edge_lines orientation step n (pick orientation (x + 4 * m) x) (pick orientation y (y + 4 * m))) (on_planes planes (first_edges orientation step x y m) p)
    ≡ on_planes planes (first_edges orientation step x y (m + 1)) p
unfolding first_edges
first_edges-more planes orientation step x y m p =
    let edge : ℕ → ℕ → Raster → Raster = λ n i. edge_lines orientation step n (pick orientation (x + 4 * i) x) (pick orientation y (y + 4 * i)) in
    on_planes-then planes (first_edges orientation step x y m) (λ n lane. edge n m) p
    ∙ sym (λ i. on_planes planes (λ n lane q. over-more m (edge n) q i) p)

pub first_edges-all : (planes : Planes) (orientation : Orientation) (step : LineStep) (x y : ℕ) (p : Image)
    → on_planes planes (first_edges orientation step x y (size_in planes / 4 - 1)) p ≡ on_planes planes (λ n lane. subblock_edges orientation step n x y) p
unfolding first_edges subblock_edges
first_edges-all Luma orientation step x y p = refl
first_edges-all Chroma orientation step x y p = refl

-- ---- all edges in one direction

pub own_alone : (planes : Planes) (orientation : Orientation) (limits : EdgeLimits) (x y : ℕ) (p : Image)
    → on_planes planes (λ n lane. macroblock_edge orientation (macroblock_step limits) n x y) p ≡ on_planes planes (λ n lane. block_edges orientation n (record limits { subblock = None }) x y) p
unfolding block_edges
own_alone planes orientation limits x y p = refl

pub own_and_inner : (planes : Planes) (orientation : Orientation) (limits : EdgeLimits) (limit x y : ℕ) (p q : Image) → q ≡ on_planes planes (λ n lane. macroblock_edge orientation (macroblock_step limits) n x y) p
    → on_planes planes (λ n lane. subblock_edges orientation (subblock_step limits limit) n x y) q ≡ on_planes planes (λ n lane. block_edges orientation n (record limits { subblock = Some limit }) x y) p
unfolding block_edges
own_and_inner planes orientation limits limit x y p q e =
    ap (on_planes planes (λ n lane. subblock_edges orientation (subblock_step limits limit) n x y)) e
    ∙ on_planes-then planes (λ n lane. macroblock_edge orientation (macroblock_step limits) n x y) (λ n lane. subblock_edges orientation (subblock_step limits limit) n x y) p
