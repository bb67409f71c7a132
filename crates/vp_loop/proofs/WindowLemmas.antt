-- What a filtered row of macroblocks keeps, and what it depends on.
use Rattle.std.proofs.Common.{◌≡◌, ◌∙◌, ℕ, zero, suc, ◌+◌, ◌-◌, ◌*◌, ◌<◌, ◌≤◌, Bool, true, false, cond, Option, refl, ap, ap₂, sym, subst, arith}
use Rattle.std.proofs.lemmas.Bool.Decides.{nat_tests}
use Rattle.std.proofs.lemmas.Nat.{column_fits}
use Rattle.vp_base.specs.declared.place.Place.{Place}
use Rattle.vp_base.specs.Raster.{Raster, pixel}
use Rattle.vp_base.specs.Block.{is_in_block, IsWhole}
use Rattle.vp_base.specs.Image.{Image, macroblocks, IsCovering, IsAligned}
use Rattle.vp_base.specs.Rows.{IsSameAbove, IsSameFrom, AreOneSize}
use Rattle.vp_base.specs.Over.{over}
use Rattle.vp_loop.specs.declared.edges.Orientation.{Orientation}
use Rattle.vp_loop.specs.declared.edges.Orientation.TheVariants.{Vertical, Horizontal}
use Rattle.vp_loop.specs.declared.lines.Line.{Line}
use Rattle.vp_loop.specs.declared.lines.LineStep.{LineStep}
use Rattle.vp_loop.specs.declared.limits.EdgeLimits.{EdgeLimits}
use Rattle.vp_loop.specs.declared.strength.Level.{Level}
use Rattle.vp_loop.specs.LineSteps.{stepped}
use Rattle.vp_loop.specs.Edges.{pick, edge_limits, chroma_limits, line_at, pixel_at, line_step, block_filtered}
use Rattle.vp_loop.specs.Filtered.{macroblock_filtered, row_filtered}
use Rattle.vp_loop.specs.Laws.{columns_of, rows_of, RowKeepsBelow, RowReadsAbove, RowKeepsAbove, RowKeepsSize, RowKeepsAligned, RowKeepsWhole}
use Rattle.vp_loop.proofs.StepLemmas.{pixel-line_step, line_at-same, pixel_at-line_at, stepped_ends, IsWhole-line_step}
use Rattle.vp_loop.proofs.BandLemmas.{IsInBand, IsBlockIn, holds-over, holds-block}
use Rattle.vp_loop.proofs.FrameLemmas.{filtered_at, keeps_row}

-- a plane of w columns and h rows
abbrev pub Sized : ℕ → ℕ → Raster → Type 0
Sized w h p = (p.width ≡ w) × (p.height ≡ h)

-- of such planes, f changes nothing from row k on, and what it makes of the rest depends on the rest alone
pub record IsAbove (w h k : ℕ) (f : Raster → Raster) : Type 0 where
  pub sized : (p : Raster) → Sized w h p → Sized w h (f p)
  pub keeps : (p : Raster) → Sized w h p → (i j : ℕ) → i < w → k ≤ j → j < h → pixel (f p) i j ≡ pixel p i j
  pub reads : (p q : Raster) → Sized w h p → Sized w h q → ((i j : ℕ) → i < w → j < k → pixel p i j ≡ pixel q i j)
      → (i j : ℕ) → i < w → j < k → pixel (f p) i j ≡ pixel (f q) i j

-- .. f changes nothing above row k
pub record IsFrom (w h k : ℕ) (f : Raster → Raster) : Type 0 where
  pub sized : (p : Raster) → Sized w h p → Sized w h (f p)
  pub keeps : (p : Raster) → Sized w h p → (i j : ℕ) → i < w → j < k → j < h → pixel (f p) i j ≡ pixel p i j

-- f keeps what Q says of planes
abbrev Keeps : (Raster → Type 0) → (Raster → Raster) → Type 0
Keeps Q f = (p : Raster) → Q p → Q (f p)

keeps-then : (Q : Raster → Type 0) (f g : Raster → Raster) → Keeps Q f → Keeps Q g → Keeps Q (λ p. g (f p))
keeps-then Q f g a b p e = b (f p) (a p e)

module _ (w h k : ℕ) where
  above-same : IsAbove w h k (λ p. p)
  above-same = record { sized = λ p s. s; keeps = λ p s i j a b c. refl; reads = λ p q s t e. e }

  above-then : (f g : Raster → Raster) → IsAbove w h k f → IsAbove w h k g → IsAbove w h k (λ p. g (f p))
  above-then f g a b = record {
    sized = λ p s. b.sized (f p) (a.sized p s);
    keeps = λ p s i j x y z. b.keeps (f p) (a.sized p s) i j x y z ∙ a.keeps p s i j x y z;
    reads = λ p q s t e. b.reads (f p) (f q) (a.sized p s) (a.sized q t) (a.reads p q s t e);
  }

  from-same : IsFrom w h k (λ p. p)
  from-same = record { sized = λ p s. s; keeps = λ p s i j a b c. refl }

  from-then : (f g : Raster → Raster) → IsFrom w h k f → IsFrom w h k g → IsFrom w h k (λ p. g (f p))
  from-then f g a b = record {
    sized = λ p s. b.sized (f p) (a.sized p s);
    keeps = λ p s i j x y z. b.keeps (f p) (a.sized p s) i j x y z ∙ a.keeps p s i j x y z;
  }

  -- one line step
  outside_below : (x y columns rows i j : ℕ) → y + rows ≤ k → k ≤ j → is_in_block x y columns rows i j ≡ false
  outside_below x y columns rows i j fits below = grind (arith, nat_tests)

  row_of_line : (x y columns rows i j : ℕ) → y + rows ≤ k → is_in_block x y columns rows i j ≡ true → j < k
  row_of_line x y columns rows i j fits e = grind (arith, nat_tests)

  above-line : (orientation : Orientation) (step : LineStep) (x y : ℕ) → k ≤ h → x + columns_of orientation ≤ w → y + rows_of orientation ≤ k → IsAbove w h k (λ p. line_step orientation step x y p)
  above-line orientation step x y low columns rows = record {
    sized = λ p s. s;
    keeps = λ p s i j a b c.
        pixel-line_step orientation step x y p i j (omega arith) (omega arith)
        ∙ ap (λ (t : Bool). cond t (pixel_at (stepped step (line_at orientation p x y)) (pick orientation (i - x) (j - y))) (pixel p i j)) (outside_below x y (columns_of orientation) (rows_of orientation) i j rows b);
    reads = λ p q s t e i j a b.
        let n : ℕ = pick orientation (i - x) (j - y) in
        let in_line : Bool = is_in_block x y (columns_of orientation) (rows_of orientation) i j in
        let line : line_at orientation p x y ≡ line_at orientation q x y =
        line_at-same orientation p q x y (omega arith, omega arith) (λ u v uin vin here. e u v (omega arith) (row_of_line x y (columns_of orientation) (rows_of orientation) u v rows here)) in
        pixel-line_step orientation step x y p i j (omega arith) (omega arith)
        ∙ (ap (λ (l : Line). cond in_line (pixel_at (stepped step l) n) (pixel p i j)) line
        ∙ (ap (λ (m : ℕ). cond in_line (pixel_at (stepped step (line_at orientation q x y)) n) m) (e i j a b)
        ∙ sym (pixel-line_step orientation step x y q i j (omega arith) (omega arith))));
  }

-- a pixel above a line along a row, or in the first row of a line down a column, stays as it is
above_line : (orientation : Orientation) (x y top i j : ℕ) → top ≤ y + pick orientation 0 4 → j < top - 3 → is_in_block x y (columns_of orientation) (rows_of orientation) i j ≡ true
    → (pick orientation (i - x) (j - y) ≡ 0) × (i ≡ x) × (j ≡ y)
above_line orientation x y top i j begins above e = grind (arith, nat_tests)

first_pixel : (orientation : Orientation) (p : Raster) (x y : ℕ) → pixel_at (line_at orientation p x y) 0 ≡ pixel p x y
first_pixel Vertical p x y = pixel_at-line_at Vertical p x y 0 (omega arith) ∙ ap (λ (n : ℕ). pixel p n y) (let e : x + 0 ≡ x = omega arith in e)
first_pixel Horizontal p x y = pixel_at-line_at Horizontal p x y 0 (omega arith) ∙ ap (pixel p x) (let e : y + 0 ≡ y = omega arith in e)

line_kept : (orientation : Orientation) (step : LineStep) (x y top : ℕ) (p : Raster) (i j : ℕ) → top ≤ y + pick orientation 0 4 → i < p.width → j < p.height → j < top - 3
    → pixel (line_step orientation step x y p) i j ≡ pixel p i j
line_kept orientation step x y top p i j begins iin jin above =
    pixel-line_step orientation step x y p i j iin jin ∙ go (is_in_block x y (columns_of orientation) (rows_of orientation) i j) refl
  where
    go : (t : Bool) → is_in_block x y (columns_of orientation) (rows_of orientation) i j ≡ t → cond t (pixel_at (stepped step (line_at orientation p x y)) (pick orientation (i - x) (j - y))) (pixel p i j) ≡ pixel p i j
    go true e =
        let here = above_line orientation x y top i j begins above e in
        ap (pixel_at (stepped step (line_at orientation p x y))) here.0
        ∙ ((stepped_ends step (line_at orientation p x y)).0 ∙ (first_pixel orientation p x y ∙ ap₂ (pixel p) (sym here.1) (sym here.2)))
    go false e = refl

from-line : (w h top : ℕ) (orientation : Orientation) (step : LineStep) (x y : ℕ) → top ≤ y + pick orientation 0 4 → IsFrom w h (top - 3) (λ p. line_step orientation step x y p)
from-line w h top orientation step x y begins = record {
  sized = λ p s. s;
  keeps = λ p s i j a b c. line_kept orientation step x y top p i j begins (omega arith) (omega arith) b;
}

-- ---- a row of macroblocks, plane by plane

over-look : {A B : Type 0} (look : A → B) (n : ℕ) (f : ℕ → A → A) (g : ℕ → B → B) (a : A) → ((k : ℕ) (b : A) → look (f k b) ≡ g k (look b)) → look (over n f a) ≡ over n g (look a)
unfolding over
over-look look zero f g a each = refl
over-look look (suc n) f g a each = each n (over n f a) ∙ ap (g n) (over-look look n f g a each)

abbrev chroma : Level → Option EdgeLimits
chroma level = chroma_limits (edge_limits level)

-- a plane whose macroblocks are of size by size pixels
module _ (size : ℕ) (big : 8 ≤ size) (limits : Level → Option EdgeLimits) (look : Image → Raster)
    (is : (level : Level) (column row : ℕ) (p : Image) → look (macroblock_filtered level column row p) ≡ block_filtered size (limits level) (size * column) (size * row) (look p))
    (level : Place → Level) (row : ℕ) where
  abbrev block_in : ℕ → Raster → Raster
  block_in column = block_filtered size (limits (level (record { column = column; row = row }))) (size * column) (size * row)

  row_is : (p : Image) → look (row_filtered level row p) ≡ over (macroblocks p.width) block_in (look p)
  unfolding row_filtered
  row_is p = over-look look (macroblocks p.width) (filtered_at level row) block_in p (λ k q. is (level (record { column = k; row = row })) k row q)

  holds-row : (P : (Raster → Raster) → Type 0) → P (λ p. p) → ((f g : Raster → Raster) → P f → P g → P (λ p. g (f p))) → (cols : ℕ)
      → ((orientation : Orientation) (step : LineStep) (x y : ℕ) → IsInBand (size * cols) (size * row) (size * (row + 1)) orientation 1 x y → P (λ p. line_step orientation step x y p))
      → P (λ p. over cols block_in p)
  holds-row P same next cols line =
      holds-over P same next cols block_in (λ m left.
      holds-block P same next (size * cols) (size * row) (size * (row + 1)) line size (limits (level (record { column = m; row = row }))) (size * m) (size * row) (in_row cols m left))
    where
      in_row : (cols m : ℕ) → m < cols → IsBlockIn (size * cols) (size * row) (size * (row + 1)) size (size * m) (size * row)
      in_row cols m left = record { big = big; left = far m; high = far row; columns = column_fits size m size cols left (omega arith); rows = omega arith; begins = omega arith }
        where
          far : (n : ℕ) → 0 < size * n → 4 ≤ size * n
          far zero some = absurd (omega arith)
          far (suc n) some = omega arith

  above-row : (cols rows : ℕ) → row < rows → IsAbove (size * cols) (size * rows) (size * (row + 1)) (over cols block_in)
  above-row cols rows below =
      let w : ℕ = size * cols in
      let h : ℕ = size * rows in
      let k : ℕ = size * (row + 1) in
      let low : size * row + size ≤ size * rows = column_fits size row size rows below (omega arith) in
      holds-row (IsAbove w h k) (above-same w h k) (above-then w h k) cols (λ orientation step x y b. above-line w h k orientation step x y (omega arith) b.columns b.rows)

  from-row : (cols rows : ℕ) → IsFrom (size * cols) (size * rows) (size * row - 3) (over cols block_in)
  from-row cols rows =
      let w : ℕ = size * cols in
      let h : ℕ = size * rows in
      let k : ℕ = size * row - 3 in
      holds-row (IsFrom w h k) (from-same w h k) (from-then w h k) cols (λ orientation step x y b. from-line w h (size * row) orientation step x y b.begins)

  plane_whole : (p : Image) → IsWhole (look p) → IsWhole (look (row_filtered level row p))
  plane_whole p =
      subst (λ (r : Raster). IsWhole (look p) → IsWhole r) (sym (row_is p))
      (holds-row (Keeps IsWhole) (λ p e. e) (keeps-then IsWhole) (macroblocks p.width) (λ orientation step x y b p e. IsWhole-line_step orientation step x y p) (look p))

  module _ (p : Image) (covers : IsCovering size p.width p.height (look p)) where
    plane_covers : IsCovering size p.width p.height (look (row_filtered level row p))
    plane_covers = subst (IsCovering size p.width p.height) (sym (row_is p)) ((from-row (macroblocks p.width) (macroblocks p.height)).sized (look p) covers)

    plane_keeps : row < macroblocks p.height → IsSameFrom (size * (row + 1)) (look (row_filtered level row p)) (look p)
    plane_keeps low i j iin jin below =
        let own = plane_covers in
        let wide = own.0 in
        let high = own.1 in
        ap (λ (t : Raster). pixel t i j) (row_is p) ∙ (above-row (macroblocks p.width) (macroblocks p.height) low).keeps (look p) covers i j (omega arith) below (omega arith)

    plane_final : IsSameAbove (size * row - 3) (look (row_filtered level row p)) (look p)
    plane_final i j iin jin above =
        let own = plane_covers in
        let wide = own.0 in
        let high = own.1 in
        ap (λ (t : Raster). pixel t i j) (row_is p) ∙ (from-row (macroblocks p.width) (macroblocks p.height)).keeps (look p) covers i j (omega arith) above (omega arith)

    plane_reads : (q : Image) → AreOneSize p q → IsCovering size q.width q.height (look q) → row < macroblocks p.height → IsSameAbove (size * (row + 1)) (look p) (look q)
        → IsSameAbove (size * (row + 1)) (look (row_filtered level row p)) (look (row_filtered level row q))
    plane_reads q one other low same i j iin jin above =
        let own = plane_covers in
        let wide = own.0 in
        let own_wide = covers.0 in
        let own_high = covers.1 in
        let fits : size * row + size ≤ size * macroblocks p.height = column_fits size row size (macroblocks p.height) low (omega arith) in
        let s : IsCovering size p.width p.height (look q) =
        subst (λ (n : ℕ). IsCovering size p.width n (look q)) (sym one.height) (subst (λ (n : ℕ). IsCovering size n q.height (look q)) (sym one.width) other) in
        ap (λ (t : Raster). pixel t i j) (row_is p)
        ∙ ((above-row (macroblocks p.width) (macroblocks p.height) low).reads (look p) (look q) covers s (λ m n min nin. same m n (omega arith) (omega arith) nin) i j (omega arith) above
        ∙ sym (ap (λ (t : Raster). pixel t i j) (row_is q ∙ ap (λ (n : ℕ). over (macroblocks n) block_in (look q)) (sym one.width))))

pub row_keeps : RowKeepsBelow
row_keeps level row p aligned below = record {
  luma = plane_keeps 16 (omega arith) edge_limits (λ q. q.luma) (λ l m n q. refl) level row p aligned.0 below;
  u = plane_keeps 8 (omega arith) chroma (λ q. q.u) (λ l m n q. refl) level row p aligned.1 below;
  v = plane_keeps 8 (omega arith) chroma (λ q. q.v) (λ l m n q. refl) level row p aligned.2 below;
}

pub row_final : RowKeepsAbove
row_final level row p aligned below = record {
  luma = plane_final 16 (omega arith) edge_limits (λ q. q.luma) (λ l m n q. refl) level row p aligned.0;
  u = plane_final 8 (omega arith) chroma (λ q. q.u) (λ l m n q. refl) level row p aligned.1;
  v = plane_final 8 (omega arith) chroma (λ q. q.v) (λ l m n q. refl) level row p aligned.2;
}

pub row_reads : RowReadsAbove
row_reads level row p q aligned other one below same = record {
  luma = plane_reads 16 (omega arith) edge_limits (λ q. q.luma) (λ l m n q. refl) level row p aligned.0 q one other.0 below same.luma;
  u = plane_reads 8 (omega arith) chroma (λ q. q.u) (λ l m n q. refl) level row p aligned.1 q one other.1 below same.u;
  v = plane_reads 8 (omega arith) chroma (λ q. q.v) (λ l m n q. refl) level row p aligned.2 q one other.2 below same.v;
}

pub row_size : RowKeepsSize
row_size level row p = record { width = keeps_row (λ q. q.width) (λ level column row q. refl) level row p; height = keeps_row (λ q. q.height) (λ level column row q. refl) level row p }

pub row_aligned : RowKeepsAligned
row_aligned level row p aligned =
    let q : Image = row_filtered level row p in
    let one = row_size level row p in
    subst (λ (n : ℕ). IsAligned (record q { width = n })) (sym one.width) (subst (λ (n : ℕ). IsAligned (record q { width = p.width; height = n })) (sym one.height) (
      plane_covers 16 (omega arith) edge_limits (λ q. q.luma) (λ l m n q. refl) level row p aligned.0,
      plane_covers 8 (omega arith) chroma (λ q. q.u) (λ l m n q. refl) level row p aligned.1,
      plane_covers 8 (omega arith) chroma (λ q. q.v) (λ l m n q. refl) level row p aligned.2,
    ))

pub row_whole : RowKeepsWhole
row_whole level row p whole = (
  plane_whole 16 (omega arith) edge_limits (λ q. q.luma) (λ l m n q. refl) level row p whole.0,
  plane_whole 8 (omega arith) chroma (λ q. q.u) (λ l m n q. refl) level row p whole.1,
  plane_whole 8 (omega arith) chroma (λ q. q.v) (λ l m n q. refl) level row p whole.2,
)
