-- Private to the crate: sixteen lines side by side, as stored in lanes.
use Rattle.std.specs.Prelude.{ℕ, ◌≡◌, ◌<◌, ◌≤◌, ◌+◌, ◌*◌, ◌-◌, List, [], ◌∷◌, slice_index, slice_index_or, map}
use Rattle.std.specs.Prelude.{Option, Some, None, Bool, if◌then◌else◌}
use Rattle.vp_base.specs.Raster.{Raster, pixel}
use Rattle.vp_base.specs.Block.{with_block, IsWhole}
use Rattle.vp_base.specs.Image.{Image, macroblocks}
use Rattle.vp_loop.specs.declared.edges.Orientation.{Orientation}
use Rattle.vp_loop.specs.declared.edges.Planes.{Planes}
use Rattle.vp_loop.specs.declared.edges.Planes.TheVariants.{Luma, Chroma}
use Rattle.vp_loop.specs.declared.edges.Edge.{Edge}
use Rattle.vp_loop.specs.declared.lines.Line.{Line}
use Rattle.vp_loop.specs.declared.lines.LineStep.{LineStep}
use Rattle.vp_loop.specs.declared.lanes.Lines.{Lines}
use Rattle.vp_loop.specs.LineSteps.{stepped}
use Rattle.vp_loop.specs.Edges.{line_from, pixel_at, line_at, pick}

-- line j
abbrev pub line_of : Lines → ℕ → Line
line_of l j = record {
  p3 = slice_index l.p3 j;
  p2 = slice_index l.p2 j;
  p1 = slice_index l.p1 j;
  p0 = slice_index l.p0 j;
  q0 = slice_index l.q0 j;
  q1 = slice_index l.q1 j;
  q2 = slice_index l.q2 j;
  q3 = slice_index l.q3 j;
}

-- the lines that replace l, or l itself
abbrev pub lines_or : Lines → Option Lines → Lines
lines_or l None = l
lines_or l (Some m) = m

-- the line of the first eight numbers of a list
abbrev pub line_in : List ℕ → Line
line_in r = line_from (slice_index r)

-- the pixels of a line, from p3 to q3
abbrev pub pixels_of : Line → List ℕ
pixels_of l = l.p3 ∷ l.p2 ∷ l.p1 ∷ l.p0 ∷ l.q0 ∷ l.q1 ∷ l.q2 ∷ l.q3 ∷ []

-- the step does not change the first n and the last n pixels of a line
abbrev pub KeepsEnds : ℕ → LineStep → Type 0
KeepsEnds n step =
    (l : Line) (k : ℕ) → k < n
    → (pixel_at (stepped step l) k ≡ pixel_at l k) × (pixel_at (stepped step l) (7 - k) ≡ pixel_at l (7 - k))

-- the pixels that a step may change are bytes
pub record AreBytes (l : Line) : Type 0 where
  pub p2 : l.p2 < 256
  pub p1 : l.p1 < 256
  pub p0 : l.p0 < 256
  pub q0 : l.q0 < 256
  pub q1 : l.q1 < 256
  pub q2 : l.q2 < 256

-- the middle four pixels of a line
abbrev pub middle_of : Line → List ℕ
middle_of l = l.p1 ∷ l.p0 ∷ l.q0 ∷ l.q1 ∷ []

-- line k of the edge whose first line begins at column x of row y
abbrev pub own_line : Orientation → Raster → ℕ → ℕ → ℕ → Line
own_line orientation p x y k = line_at orientation p (pick orientation x (x + k)) (pick orientation (y + k) y)

-- an edge of n lines is inside a plane
abbrev pub IsEdgeIn : Orientation → ℕ → ℕ → ℕ → Raster → Type 0
IsEdgeIn orientation n x y p = (x + pick orientation 8 n ≤ p.width) × (y + pick orientation n 8 ≤ p.height)

-- pixel c of row r, of rows each of which has such pixels
abbrev pub pixel_of : {A : Type 0} → (A → List ℕ) → List A → ℕ → ℕ → ℕ
pixel_of pixels rows r c = slice_index (slice_index_or (map pixels rows) r []) c

-- ---- luma, or both chroma planes. Of sixteen lines, a plane of luma has all; u has the first eight, v the others

-- the columns and rows of a macroblock
abbrev pub size_in : Planes → ℕ
size_in Luma = 16
size_in Chroma = 8

-- what holds of each plane, by the number of its lines and where line k of them is
abbrev pub EachPlane : Planes → (ℕ → (ℕ → ℕ) → Raster → Type 0) → Image → Type 0
EachPlane Luma P p = P 16 (λ k. k) p.luma
EachPlane Chroma P p = P 8 (λ k. k) p.u × P 8 (λ k. k + 8) p.v

-- p with f applied to each plane, by the number of its lines and where line k of them is
abbrev pub on_planes : Planes → (ℕ → (ℕ → ℕ) → Raster → Raster) → Image → Image
on_planes Luma f p = record p { luma = f 16 (λ k. k) p.luma }
on_planes Chroma f p = record p { u = f 8 (λ k. k) p.u; v = f 8 (λ k. k + 8) p.v }

-- an edge of a macroblock is inside its planes
pub record IsEdgeWithin (edge : Edge) (p : Image) : Type 0 where
  pub columns : edge.x + pick edge.orientation 8 (size_in edge.planes) ≤ size_in edge.planes * macroblocks p.width
  pub rows : edge.y + pick edge.orientation (size_in edge.planes) 8 ≤ size_in edge.planes * macroblocks p.height

-- a macroblock is inside these planes
pub record IsBlockWithin (planes : Planes) (x y : ℕ) (p : Image) : Type 0 where
  pub columns : x + size_in planes ≤ size_in planes * macroblocks p.width
  pub rows : y + size_in planes ≤ size_in planes * macroblocks p.height
  pub left : 0 < x → 4 ≤ x
  pub top : 0 < y → 4 ≤ y

-- l has the n lines of an edge of a plane, line k as line `lane k`
pub record HasLines (edge : Edge) (l : Lines) (n : ℕ) (lane : ℕ → ℕ) (p : Raster) : Type 0 where
  pub whole : IsWhole p
  pub fits : IsEdgeIn edge.orientation n edge.x edge.y p
  pub lines : (k : ℕ) → k < n → line_of l (lane k) ≡ own_line edge.orientation p edge.x edge.y k

-- the first eight pixels of eight rows of a plane, at the corner of an edge
pub record HasCorner (edge : Edge) (rows : List (List ℕ)) (p : Raster) : Type 0 where
  pub whole : IsWhole p
  pub pixels : (r c : ℕ) → r < 8 → c < 8 → slice_index (slice_index_or rows r []) c ≡ pixel p (edge.x + c) (edge.y + r)

-- a plane with n lines of l stored, line m from line `lane m`, without the first and last k pixels of each
abbrev pub with_lines : Orientation → ℕ → ℕ → ℕ → Lines → ℕ → (ℕ → ℕ) → Raster → Raster
with_lines orientation x y k l n lane p =
    with_block p (pick orientation (x + k) x) (pick orientation y (y + k)) (pick orientation (8 - k - k) n)
    (pick orientation n (8 - k - k))
    (λ r c. pixel_at (line_of l (lane (pick orientation r c))) (pick orientation c r + k))

-- the number of pixels at each end of its lines that are not written, at an edge inside a macroblock or at another
abbrev pub unwritten : Bool → Orientation → ℕ
unwritten inside orientation = if inside then 2 else pick orientation 0 1
