-- Lemmas on the two passes over a block.
use Rattle.std.proofs.Common.{◌≡◌, ◌∙◌, refl, ℕ, ◌+◌, ◌-◌, ◌*◌, ◌<◌, ◌≤◌, ℤ, pos, ◌+ℤ◌, List, get_or, ap, subst, sym, arith, inl, inr, min}
use Rattle.std.proofs.lemmas.Int.{ints}
use Rattle.std.proofs.lemmas.Nat.{row_fits}
use Rattle.std.proofs.lemmas.Bool.{cases_lt}
use Rattle.std.proofs.lemmas.Bool.Decides.{nat_tests}
use Rattle.vp_base.specs.Raster.{Raster, pixel}
use Rattle.vp_base.specs.Block.{with_block}
use Rattle.vp_base.proofs.BlockLemmas.{with_block_same}
use Rattle.vp_inter.specs.declared.vector.PlaneVector.{PlaneVector}
use Rattle.vp_inter.specs.Vectors.{fraction, first_tap}
use Rattle.vp_inter.specs.Filter.{taps, filter_six}
use Rattle.vp_inter.specs.Inter.{reference_pixel, horizontal_pass, inter_pixel}
use Rattle.vp_inter.specs.declared.patch.Patch.{Patch}
use Rattle.vp_inter.specs.Patches.{raster, IsAt, IsFor, IsForRows, first_read, patch_pixel, patch_pass}
use Rattle.vp_inter.proofs.FilterLemmas.{filter_six-same, filter_six-whole_pixels, filtered_bound}

-- from column 0 on
pub from_zero : (c : ℕ) → 0 + c ≡ c
from_zero c = omega arith

-- one row more, of which the pixels are known
pub row_more : (n i : ℕ) (old new : List ℕ) (value : ℕ → ℕ → ℕ)
    → ((k c : ℕ) → k < i → c < n → get_or old (k * n + c) 0 ≡ value k c)
    → ((c : ℕ) → c < n → get_or new (i * n + c) 0 ≡ value i c)
    → ((j : ℕ) → j < i * n → get_or new j 0 ≡ get_or old j 0)
    → (k c : ℕ) → k < i + 1 → c < n → get_or new (k * n + c) 0 ≡ value k c
row_more n i old new value done here before k c kin cin =
    elim (cases_lt k i) [
      | inl less ↦
          let room : k * n + n ≤ i * n = row_fits k n i n less (omega arith) in
          before (k * n + c) (omega arith) ∙ done k c less cin
      | inr same ↦
          let e : k ≡ i = omega arith in
          ap (λ (j : ℕ). get_or new (j * n + c) 0) e ∙ here c cin ∙ ap (λ (j : ℕ). value j c) (sym e)
    ]

-- both passes
pub inter_passes : (version : ℕ) (p : Raster) (x y : ℕ) (v : PlaneVector) (r c : ℕ)
    → filter_six (taps version (fraction v.row)) (λ k. horizontal_pass (taps version (fraction v.column)) p (first_tap x v.column) (first_tap y v.row) (r + k) c) ≡ inter_pixel version p x y v r c
unfolding inter_pixel
inter_passes version p x y v r c = refl

-- a filtered pixel is a byte
pub horizontal_bound : (weights : List ℤ) (p : Raster) (left top : ℤ) (i c : ℕ) → horizontal_pass weights p left top i c ≤ 255
unfolding horizontal_pass
horizontal_bound weights p left top i c = filtered_bound weights _ _ _ _ _ _

lower : (weights : List ℤ) (p : Raster) (left top : ℤ) (r c : ℕ) → horizontal_pass weights p left (top +ℤ pos 2) r c ≡ horizontal_pass weights p left top (r + 2) c
unfolding horizontal_pass
lower weights p left top r c =
    ap (λ (z : ℤ). filter_six weights (λ k. reference_pixel p (left +ℤ pos (c + k)) z)) (let e : top +ℤ pos 2 +ℤ pos r ≡ top +ℤ pos (r + 2) = omega (arith, ints) in e)

-- at whole rows the horizontal pass is all
pub inter_level : (version : ℕ) (p : Raster) (x y : ℕ) (v : PlaneVector) (r c : ℕ) → fraction v.row ≡ 0
    → horizontal_pass (taps version (fraction v.column)) p (first_tap x v.column) (first_tap y v.row +ℤ pos 2) r c ≡ inter_pixel version p x y v r c
unfolding inter_pixel
inter_level version p x y v r c none =
    let row : ℕ → ℕ = λ (k : ℕ). horizontal_pass (taps version (fraction v.column)) p (first_tap x v.column) (first_tap y v.row) (r + k) c in
    lower (taps version (fraction v.column)) p (first_tap x v.column) (first_tap y v.row) r c
    ∙ sym (filter_six-whole_pixels version row (horizontal_bound (taps version (fraction v.column)) p (first_tap x v.column) (first_tap y v.row) (r + 2) c))
    ∙ ap (λ (n : ℕ). filter_six (taps version n) row) (sym none)

-- at whole rows and columns neither pass does anything
pub inter_whole : (version : ℕ) (p : Raster) (x y : ℕ) (v : PlaneVector) (r c : ℕ) → fraction v.row ≡ 0 → fraction v.column ≡ 0
    → reference_pixel p (first_tap x v.column +ℤ pos 2 +ℤ pos c) (first_tap y v.row +ℤ pos 2 +ℤ pos r) ≤ 255
    → reference_pixel p (first_tap x v.column +ℤ pos 2 +ℤ pos c) (first_tap y v.row +ℤ pos 2 +ℤ pos r) ≡ inter_pixel version p x y v r c
unfolding horizontal_pass
inter_whole version p x y v r c rows columns byte =
    let line : ℕ → ℕ = λ (k : ℕ). reference_pixel p (first_tap x v.column +ℤ pos (c + k)) (first_tap y v.row +ℤ pos 2 +ℤ pos r) in
    let e : first_tap x v.column +ℤ pos 2 +ℤ pos c ≡ first_tap x v.column +ℤ pos (c + 2) = omega (arith, ints) in
    let at : reference_pixel p (first_tap x v.column +ℤ pos 2 +ℤ pos c) (first_tap y v.row +ℤ pos 2 +ℤ pos r) ≡ line 2 =
    ap (λ (z : ℤ). reference_pixel p z (first_tap y v.row +ℤ pos 2 +ℤ pos r)) e in
    at
    ∙ sym (filter_six-whole_pixels version line (subst (λ (n : ℕ). n ≤ 255) at byte))
    ∙ ap (λ (n : ℕ). filter_six (taps version n) line) (sym columns)
    ∙ inter_level version p x y v r c rows

-- at whole columns the horizontal pass does nothing
pub horizontal_whole : (version eighths : ℕ) (p : Raster) (left top : ℤ) (i c : ℕ) → eighths ≡ 0 → reference_pixel p (left +ℤ pos 2 +ℤ pos c) (top +ℤ pos i) ≤ 255
    → reference_pixel p (left +ℤ pos 2 +ℤ pos c) (top +ℤ pos i) ≡ horizontal_pass (taps version eighths) p left top i c
unfolding horizontal_pass
horizontal_whole version eighths p left top i c none byte =
    let line : ℕ → ℕ = λ (k : ℕ). reference_pixel p (left +ℤ pos (c + k)) (top +ℤ pos i) in
    let e : left +ℤ pos 2 +ℤ pos c ≡ left +ℤ pos (c + 2) = omega (arith, ints) in
    let at : reference_pixel p (left +ℤ pos 2 +ℤ pos c) (top +ℤ pos i) ≡ line 2 = ap (λ (z : ℤ). reference_pixel p z (top +ℤ pos i)) e in
    at
    ∙ sym (filter_six-whole_pixels version line (subst (λ (n : ℕ). n ≤ 255) at byte))
    ∙ ap (λ (n : ℕ). filter_six (taps version n) line) (sym none)

-- a pixel inside the plane
pub inside_pixel : (p : Raster) (column row : ℕ) → column < p.width → row < p.height → reference_pixel p (pos column) (pos row) ≡ pixel p column row
unfolding reference_pixel
inside_pixel p column row xin yin =
    ap (λ (n : ℕ). pixel p n (min row (p.height - 1))) (let e : min column (p.width - 1) ≡ column = omega arith in e)
    ∙ ap (λ (n : ℕ). pixel p column n) (let e : min row (p.height - 1) ≡ row = omega arith in e)

-- ---- a block of a patch

further : (at : ℕ) (z : ℤ) → first_tap (at + 2) z ≡ first_tap at z +ℤ pos 2
unfolding first_tap
further at z = omega (arith, ints)

-- what is read at a patch
at_place : (f : Raster → ℤ → ℤ → ℕ) (q : Patch) (p : Raster) (x y : ℕ) (v : PlaneVector) → IsAt q p x y v
    → f (raster q) q.left q.top ≡ f p (first_tap x v.column) (first_tap y v.row)
at_place f q p x y v at =
    ap (λ (s : Raster). f s q.left q.top) at.0 ∙ ap (λ (z : ℤ). f p z q.top) at.1 ∙ ap (λ (z : ℤ). f p (first_tap x v.column) z) at.2

module _ (version : ℕ) (p : Raster) (x y : ℕ) (v : PlaneVector) (r c : ℕ) (q : Patch) where
  pub patch_whole : IsAt q p (x + 2) (y + 2) v → fraction v.row ≡ 0 → fraction v.column ≡ 0 → ((column row : ℤ) → reference_pixel p column row ≤ 255)
      → patch_pixel q r c ≡ inter_pixel version p x y v r c
  patch_whole at rows columns bytes =
      at_place (λ s left top. reference_pixel s (left +ℤ pos c) (top +ℤ pos r)) q p (x + 2) (y + 2) v at
      ∙ ap (λ (z : ℤ). reference_pixel p (z +ℤ pos c) (first_tap (y + 2) v.row +ℤ pos r)) (further x v.column)
      ∙ ap (λ (z : ℤ). reference_pixel p (first_tap x v.column +ℤ pos 2 +ℤ pos c) (z +ℤ pos r)) (further y v.row)
      ∙ inter_whole version p x y v r c rows columns (bytes (first_tap x v.column +ℤ pos 2 +ℤ pos c) (first_tap y v.row +ℤ pos 2 +ℤ pos r))

  pub patch_level : (weights : List ℤ) → IsAt q p x (y + 2) v → weights ≡ taps version (fraction v.column) → fraction v.row ≡ 0
      → patch_pass weights q r c ≡ inter_pixel version p x y v r c
  patch_level weights at e level =
      at_place (λ s left top. horizontal_pass weights s left top r c) q p x (y + 2) v at
      ∙ ap (λ (w : List ℤ). horizontal_pass w p (first_tap x v.column) (first_tap (y + 2) v.row) r c) e
      ∙ ap (λ (z : ℤ). horizontal_pass (taps version (fraction v.column)) p (first_tap x v.column) z r c) (further y v.row)
      ∙ inter_level version p x y v r c level

  pub patch_both : (horizontal vertical : List ℤ) → IsAt q p x y v → horizontal ≡ taps version (fraction v.column) → vertical ≡ taps version (fraction v.row)
      → filter_six vertical (λ k. patch_pass horizontal q (r + k) c) ≡ inter_pixel version p x y v r c
  patch_both horizontal vertical at e f =
      at_place (λ s left top. filter_six vertical (λ k. horizontal_pass horizontal s left top (r + k) c)) q p x y v at
      ∙ ap (λ (w : List ℤ). filter_six vertical (λ k. horizontal_pass w p (first_tap x v.column) (first_tap y v.row) (r + k) c)) e
      ∙ ap (λ (w : List ℤ). filter_six w (λ k. horizontal_pass (taps version (fraction v.column)) p (first_tap x v.column) (first_tap y v.row) (r + k) c)) f
      ∙ inter_passes version p x y v r c

-- where a block is read, by its fractions
pub read_own : (at h n : ℕ) → h ≡ n → h ≡ 0 → first_read at n ≡ at + 2
read_own at h n same none = ap (first_read at) (sym same ∙ none)

pub read_first : (at h n : ℕ) → h ≡ n → (h ≡ 0 → ⊥) → first_read at n ≡ at
read_first at h n same some = let none : n ≡ 0 → ⊥ = λ e. some (same ∙ e) in grind (arith, nat_tests)

pub rows_read : (q : Patch) (p : Raster) (x y : ℕ) (v : PlaneVector) (i : ℕ) → IsForRows q p x y v → first_read x (fraction v.column) ≡ i → IsAt q p i y v
rows_read q p x y v i is left = (is.0.0, is.0.1 ∙ ap (λ (n : ℕ). first_tap n v.column) left, is.0.2)

pub reads : (q : Patch) (p : Raster) (x y : ℕ) (v : PlaneVector) (i j : ℕ) → IsFor q p x y v → first_read x (fraction v.column) ≡ i → first_read y (fraction v.row) ≡ j → IsAt q p i j v
reads q p x y v i j is left top = subst (λ (n : ℕ). IsAt q p i n v) top (rows_read q p x (first_read y (fraction v.row)) v i is left)

-- the horizontal pass by weights that are known
pub patch_rows : (p : Raster) (x y : ℕ) (v : PlaneVector) (i c : ℕ) (q : Patch) (weights horizontal : List ℤ) → IsAt q p x y v → weights ≡ horizontal
    → patch_pass weights q i c ≡ horizontal_pass horizontal p (first_tap x v.column) (first_tap y v.row) i c
patch_rows p x y v i c q weights horizontal at e =
    at_place (λ s left top. horizontal_pass weights s left top i c) q p x y v at ∙ ap (λ (w : List ℤ). horizontal_pass w p (first_tap x v.column) (first_tap y v.row) i c) e

-- at whole columns the horizontal pass does nothing
pub patch_horizontal : (version : ℕ) (p : Raster) (x y : ℕ) (v : PlaneVector) (i c : ℕ) (q : Patch) → IsAt q p (x + 2) y v → fraction v.column ≡ 0
    → ((column row : ℤ) → reference_pixel p column row ≤ 255)
    → patch_pixel q i c ≡ horizontal_pass (taps version (fraction v.column)) p (first_tap x v.column) (first_tap y v.row) i c
patch_horizontal version p x y v i c q at none bytes =
    at_place (λ s left top. reference_pixel s (left +ℤ pos c) (top +ℤ pos i)) q p (x + 2) y v at
    ∙ ap (λ (z : ℤ). reference_pixel p (z +ℤ pos c) (first_tap y v.row +ℤ pos i)) (further x v.column)
    ∙ horizontal_whole version (fraction v.column) p (first_tap x v.column) (first_tap y v.row) i c none (bytes (first_tap x v.column +ℤ pos 2 +ℤ pos c) (first_tap y v.row +ℤ pos i))

pub patch_vertical : (version : ℕ) (p : Raster) (x y : ℕ) (v : PlaneVector) (r c : ℕ) (q : Patch) (vertical : List ℤ) → IsAt q p (x + 2) y v → fraction v.column ≡ 0
    → ((column row : ℤ) → reference_pixel p column row ≤ 255) → vertical ≡ taps version (fraction v.row)
    → filter_six vertical (λ k. patch_pixel q (r + k) c) ≡ inter_pixel version p x y v r c
patch_vertical version p x y v r c q vertical at none bytes e =
    ap (λ (w : List ℤ). filter_six w (λ k. patch_pixel q (r + k) c)) e
    ∙ filter_six-same (taps version (fraction v.row)) (λ k. patch_pixel q (r + k) c) (λ k. horizontal_pass (taps version (fraction v.column)) p (first_tap x v.column) (first_tap y v.row) (r + k) c)
    (λ k kin. patch_horizontal version p x y v (r + k) c q at none bytes)
    ∙ inter_passes version p x y v r c

-- a block that is inside the reference, copied by a vector of whole pixels
pub copied : (version n x y column row : ℕ) (v : PlaneVector) (from p q : Raster) → from ≡ p → column + n ≤ p.width → row + n ≤ p.height
    → pos column ≡ first_tap (x + 2) v.column → pos row ≡ first_tap (y + 2) v.row → fraction v.column ≡ 0 → fraction v.row ≡ 0
    → ((i j : ℕ) → i < n → j < n → pixel from (column + j) (row + i) ≤ 255)
    → with_block q x y n n (λ i j. pixel from (column + j) (row + i)) ≡ with_block q x y n n (inter_pixel version p x y v)
copied version n x y column row v from p q is xin yin left top columns rows bytes =
    with_block_same q x y n n (λ i j. pixel from (column + j) (row + i)) (inter_pixel version p x y v)
    (λ i j iin jin.
    let at : pixel from (column + j) (row + i) ≡ reference_pixel p (first_tap x v.column +ℤ pos 2 +ℤ pos j) (first_tap y v.row +ℤ pos 2 +ℤ pos i) =
    ap (λ (s : Raster). pixel s (column + j) (row + i)) is
    ∙ sym (inside_pixel p (column + j) (row + i) (omega arith) (omega arith))
    ∙ ap (λ (z : ℤ). reference_pixel p (z +ℤ pos j) (pos row +ℤ pos i)) (left ∙ further x v.column)
    ∙ ap (λ (z : ℤ). reference_pixel p (first_tap x v.column +ℤ pos 2 +ℤ pos j) (z +ℤ pos i)) (top ∙ further y v.row) in
    at ∙ inter_whole version p x y v i j rows columns (subst (λ (n : ℕ). n ≤ 255) at (bytes i j iin jin)))
