use Rattle.std.proofs.Common.{◌≡◌, ◌∙◌, ℕ, ◌+◌, ◌-◌, ◌*◌, ◌<◌, ◌≤◌, List, get_or, set, sym, ap, arith, subst, length-set}
use Rattle.std.proofs.lemmas.List.Edits.{fill_by_more}
use Rattle.std.proofs.lemmas.List.FromFn.{fill_by_all}
use Rattle.std.proofs.lemmas.Nat.{row_fits}
use Rattle.vp_base.specs.Raster.{Raster}
use Rattle.vp_intra.specs.Edges.{left_pixel}
use Rattle.vp_intra.proofs.EdgeLemmas.{left_inside, left_fill}
use Rattle.vp_intra.proofs.edges.edge_left.Goals as goal

pub bounds-pixels-at : goal.bounds-pixels-at
bounds-pixels-at g c =
    let p : Raster = c.args.plane.now in
    let place : c.loop-r.at ≡ (c.args.y + c.loop-r.r) * p.width + (c.args.x - 1) =
    c.loop-r.invariant.place ∙ ap (λ (w : ℕ). (c.args.y + c.loop-r.r) * w + (c.args.x - 1)) c.width-stride.ensures.value in
    let room : (c.args.y + c.loop-r.r) * p.width + p.width ≤ p.height * p.width = row_fits (c.args.y + c.loop-r.r) p.width p.height p.width (omega arith) (omega arith) in
    omega arith

pub overflow_add-at-in-loop-r : goal.overflow_add-at-in-loop-r
overflow_add-at-in-loop-r g c = let inside = bounds-pixels-at g c in omega arith

pub loop-r-preserved : goal.loop-r-preserved
loop-r-preserved g c =
    let p : Raster = c.args.plane.now in
    let x : ℕ = c.args.x in
    let y : ℕ = c.args.y in
    let value : left_pixel c.args.plane.now c.args.x c.args.y c.loop-r.r ≡ get_or c.pixels-pixels.result.now c.loop-r.at 0 =
    left_inside p x y c.loop-r.r c.if-x-gt0.true
    ∙ ap (λ (w : ℕ). get_or p.pixels ((y + c.loop-r.r) * w + (x - 1)) 0) (sym c.width-stride.ensures.value)
    ∙ ap (λ (i : ℕ). get_or p.pixels i 0) (sym c.loop-r.invariant.place)
    ∙ ap (λ (ps : List ℕ). get_or ps c.loop-r.at 0) (sym c.pixels-pixels.ensures.value) in
    let P : ℕ → Type 0 = λ (v : ℕ). (k : ℕ) → k < c.loop-r.r + 1 → get_or (set c.loop-r.edge c.loop-r.r v) k 0 ≡ left_pixel p x y k in
    record {
      size = length-set c.loop-r.edge c.loop-r.r (get_or c.pixels-pixels.result.now c.loop-r.at 0) ∙ c.loop-r.invariant.size;
      place = omega (arith, c.loop-r.invariant.place);
      done = subst P value (fill_by_more (left_pixel p x y) c.loop-r.edge c.loop-r.r 0 (omega arith) c.loop-r.invariant.done);
    }

pub returns-after-loop-r : goal.returns-after-loop-r
returns-after-loop-r g c = fill_by_all (left_pixel c.args.plane.now c.args.x c.args.y) c.loop-r.edge g.row.N 0 c.loop-r.invariant.size (λ k below. c.loop-r.invariant.done k (omega arith))

pub returns-else-x-gt0 : goal.returns-else-x-gt0
returns-else-x-gt0 g c = left_fill c.args.plane.now c.args.x c.args.y g.row.N (omega arith)
