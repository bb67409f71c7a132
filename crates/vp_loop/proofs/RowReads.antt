-- Lines of a plane, by the list of its pixels.
use Rattle.std.proofs.Common.{◌≡◌, ◌∙◌, ℕ, ◌+◌, ◌-◌, ◌*◌, ◌<◌, ◌≤◌, List, [], get_or, ap, sym, arith, inl, inr}
use Rattle.std.proofs.lemmas.Simd.{get_or-chunk}
use Rattle.std.proofs.lemmas.Bool.{cases_lt}
use Rattle.std.proofs.lemmas.Nat.{row_fits}
use lib.Lanes.{chunk}
use Rattle.vp_base.specs.Raster.{Raster, pixel}
use Rattle.vp_loop.specs.declared.edges.Orientation.{Orientation}
use Rattle.vp_loop.specs.declared.edges.Orientation.TheVariants.{Vertical, Horizontal}
use Rattle.vp_loop.specs.declared.edges.Edge.{Edge}
use Rattle.vp_loop.specs.declared.lanes.Lines.{Lines}
use Rattle.vp_loop.specs.Edges.{pick, line_from, line_at}
use Rattle.vp_loop.specs.Lanes.{line_of, own_line, IsEdgeIn, HasLines, HasCorner}
use Rattle.vp_loop.proofs.TransposeLemmas.{line_from-same}

-- a block's last row ends within the list
pub block_room : (x y w h n r size : ℕ) → size ≡ h * w → x + n ≤ w → y + r < h → (y * w + x) + r * w + n ≤ size
block_room x y w h n r size whole columns rows =
    let room : (y + r) * w + w ≤ h * w = row_fits (y + r) w h w rows (omega arith) in
    omega arith

pub at_row : (ps r : List ℕ) (n a i c : ℕ) → r ≡ chunk a n ps → c < n → a + c ≡ i → get_or r c 0 ≡ get_or ps i 0
at_row ps r n a i c e within here = ap (λ l. get_or l c 0) e ∙ (get_or-chunk a n ps c 0 within ∙ ap (λ (k : ℕ). get_or ps k 0) here)

pub pixel_is : (p : Raster) (ps : List ℕ) (x y at w r c : ℕ) → ps ≡ p.pixels → w ≡ p.width → at ≡ y * w + x → get_or ps (at + r * w + c) 0 ≡ pixel p (x + c) (y + r)
pixel_is p ps x y at w r c same wide here =
    ap (λ (l : List ℕ). get_or l (at + r * w + c) 0) same
    ∙ (ap (λ (n : ℕ). get_or p.pixels n 0) (let e : at + r * w + c ≡ (y + r) * w + (x + c) = omega arith in e)
    ∙ ap (λ (v : ℕ). get_or p.pixels ((y + r) * v + (x + c)) 0) wide)

-- a line of those pixels
pub own_line_is : (orientation : Orientation) (p : Raster) (f : ℕ → ℕ) (x y k : ℕ) → ((m : ℕ) → m < 8 → f m ≡ pixel p (x + pick orientation m k) (y + pick orientation k m)) → line_from f ≡ own_line orientation p x y k
unfolding line_at
own_line_is Vertical p f x y k same = line_from-same f (λ m. pixel p (x + m) (y + k)) same
own_line_is Horizontal p f x y k same = line_from-same f (λ m. pixel p (x + k) (y + m)) same

-- the lines of a corner
pub corner_lines : (edge : Edge) (rows : List (List ℕ)) (l : Lines) (lane : ℕ → ℕ) (p : Raster) (orientation : Orientation) → edge.orientation ≡ orientation → HasCorner edge rows p → IsEdgeIn edge.orientation 8 edge.x edge.y p
    → ((k : ℕ) → k < 8 → line_of l (lane k) ≡ line_from (λ m. get_or (get_or rows (pick orientation k m) []) (pick orientation m k) 0)) → HasLines edge l 8 lane p
corner_lines edge rows l lane p orientation e corner fits read = record {
  whole = corner.whole;
  fits = fits;
  lines = λ k h.
      read k h
      ∙ (own_line_is orientation p (λ m. get_or (get_or rows (pick orientation k m) []) (pick orientation m k) 0) edge.x edge.y k (λ m below. each orientation k m h below)
      ∙ ap (λ (o : Orientation). own_line o p edge.x edge.y k) (sym e));
}
  where
    each : (o : Orientation) (k m : ℕ) → k < 8 → m < 8 → get_or (get_or rows (pick o k m) []) (pick o m k) 0 ≡ pixel p (edge.x + pick o m k) (edge.y + pick o k m)
    each Vertical k m h below = corner.pixels k m h below
    each Horizontal k m h below = corner.pixels m k below h

pub corner_fits : (orientation : Orientation) (x y : ℕ) (p : Raster) → IsEdgeIn orientation 8 x y p → (x + 8 ≤ p.width) × (y + 8 ≤ p.height)
corner_fits orientation x y p fits = let columns = fits.0 in let rows = fits.1 in (grind arith, grind arith)

-- eight lines, and eight more
pub both_halves : (p : Raster) (l : Lines) (x y : ℕ) → ((j : ℕ) → j < 8 → line_of l j ≡ own_line Vertical p x y j) → ((j : ℕ) → j < 8 → line_of l (j + 8) ≡ own_line Vertical p x (y + 8) j)
    → (j : ℕ) → j < 16 → line_of l j ≡ own_line Vertical p x y j
both_halves p l x y first second j below = elim (cases_lt j 8) [
  | inl early ↦ first j early
  | inr late ↦
      let back : j - 8 + 8 ≡ j = omega arith in
      let down : y + 8 + (j - 8) ≡ y + j = omega arith in
      ap (line_of l) (sym back) ∙ (second (j - 8) (omega arith) ∙ ap (λ (n : ℕ). line_at Vertical p x n) down)
]
