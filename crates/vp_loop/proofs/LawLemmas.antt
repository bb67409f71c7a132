-- Line steps that share no pixel.
use Rattle.std.proofs.Common.{◌≡◌, ◌∙◌, ℕ, ◌-◌, ◌<◌, ◌&&◌, Bool, true, false, cond, refl, ap, sym, arith}
use Rattle.vp_base.specs.Raster.{Raster, pixel}
use Rattle.vp_base.proofs.BlockLemmas.{same_raster}
use Rattle.vp_loop.specs.declared.edges.Orientation.TheVariants.{Vertical, Horizontal}
use Rattle.vp_loop.specs.declared.lines.Line.{Line}
use Rattle.vp_loop.specs.declared.lines.LineStep.{LineStep}
use Rattle.vp_loop.specs.LineSteps.{stepped}
use Rattle.vp_loop.specs.Edges.{pick, line_at, pixel_at}
use Rattle.vp_loop.specs.Laws.{PlaneLine, has_pixel, IsLineWithin, SharesNoPixel, step_of, DisjointStepsCommute, EdgesAtOnce}
use Rattle.vp_loop.proofs.StepLemmas.{pixel-line_step, line_at-same, IsWhole-line_step, at_once}

-- what a line step puts at column i of row j of its line
abbrev put : LineStep → PlaneLine → Raster → ℕ → ℕ → ℕ
put step l p i j = pixel_at (stepped step (line_at l.orientation p l.x l.y)) (pick l.orientation (i - l.x) (j - l.y))

pixel-step_of : (step : LineStep) (l : PlaneLine) (p : Raster) (i j : ℕ) → i < p.width → j < p.height
    → pixel (step_of step l p) i j ≡ cond (has_pixel l i j) (put step l p i j) (pixel p i j)
pixel-step_of step l p i j iin jin = pixel-line_step l.orientation step l.x l.y p i j iin jin

other_false : (a b : Bool) → (a && b) ≡ false → b ≡ true → a ≡ false
other_false a b e h = grind arith

flipped : (a b : Bool) → (a && b) ≡ false → (b && a) ≡ false
flipped a b e = grind arith

-- a step leaves the pixels of the other line, and so the line, as they are
put-after : (a b : LineStep) (l m : PlaneLine) (p : Raster) → IsLineWithin m p → SharesNoPixel l m → (i j : ℕ) → put b m (step_of a l p) i j ≡ put b m p i j
put-after a b l m p fits apart i j =
    ap (λ (n : Line). pixel_at (stepped b n) (pick m.orientation (i - m.x) (j - m.y)))
    (line_at-same m.orientation (step_of a l p) p m.x m.y
    fits (λ u v uin vin here.
    pixel-step_of a l p u v uin vin
    ∙ ap (λ (t : Bool). cond t (put a l p u v) (pixel p u v)) (other_false (has_pixel l u v) (has_pixel m u v) (apart u v) here)))

chosen : (s t : Bool) (x y z : ℕ) → (s && t) ≡ false → cond t x (cond s y z) ≡ cond s y (cond t x z)
chosen s t x y z e = grind arith

both : (a b : LineStep) (l m : PlaneLine) (p : Raster) → IsLineWithin m p → SharesNoPixel l m → (i j : ℕ) → i < p.width → j < p.height
    → pixel (step_of b m (step_of a l p)) i j ≡ cond (has_pixel m i j) (put b m p i j) (cond (has_pixel l i j) (put a l p i j) (pixel p i j))
both a b l m p fits apart i j iin jin =
    pixel-step_of b m (step_of a l p) i j iin jin
    ∙ (ap (λ (n : ℕ). cond (has_pixel m i j) n (pixel (step_of a l p) i j)) (put-after a b l m p fits apart i j)
    ∙ ap (λ (n : ℕ). cond (has_pixel m i j) (put b m p i j) n) (pixel-step_of a l p i j iin jin))

pub commutes : DisjointStepsCommute
commutes p l m a b lin min apart =
    same_raster (step_of b m (step_of a l p)) (step_of a l (step_of b m p)) refl refl
    (IsWhole-line_step m.orientation b m.x m.y (step_of a l p)) (IsWhole-line_step l.orientation a l.x l.y (step_of b m p)) (λ i j iin jin.
    both a b l m p min apart i j iin jin
    ∙ (chosen (has_pixel l i j) (has_pixel m i j) (put b m p i j) (put a l p i j) (pixel p i j) (apart i j)
    ∙ sym (both b a m l p lin (λ u v. flipped (has_pixel l u v) (has_pixel m u v) (apart u v)) i j iin jin)))

pub edges_at_once : EdgesAtOnce
edges_at_once step n x y p whole = (λ columns rows. at_once Vertical step x y p n whole (columns, rows), λ columns rows. at_once Horizontal step x y p n whole (columns, rows))
