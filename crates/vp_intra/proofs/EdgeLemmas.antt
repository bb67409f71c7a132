-- Lemmas on the numbers round a block.
use Rattle.std.proofs.Common.{◌≡◌, ◌∙◌, ℕ, ◌+◌, ◌-◌, ◌<◌, ◌≤◌, min, Bool, cond, List, length, take, drop, get_or, replicate, slice_range, ap, sym, subst, arith, rules}
use Rattle.std.proofs.lemmas.List.{places, length-take, length-drop, length-replicate, get_or-replicate}
use Rattle.std.proofs.lemmas.List.FromFn.{fill_by_all, get_or-map-range_with_len}
use Rattle.std.proofs.lemmas.Bool.{eq-eqb, ne_eqb}
use Rattle.std.proofs.lemmas.Simd.{length-chunk, get_or-chunk}
use lib.Lanes.{chunk}
use Rattle.vp_base.specs.Raster.{Raster, pixel, row_of}
use Rattle.vp_intra.specs.Edges.{first, above_pixel, left_pixel}
use Rattle.vp_intra.specs.Sub.{above_right_row, above_right_pixel}

pub above_inside : (p : Raster) (x y c : ℕ) → 0 < y → above_pixel p x y c ≡ pixel p (x + c) (y - 1)
unfolding above_pixel
above_inside p x y c pos = ap (λ (b : Bool). cond b 127 (pixel p (x + c) (y - 1))) (ne_eqb y 0 (λ e. omega arith))

pub above_outside : (p : Raster) (x y c : ℕ) → y ≡ 0 → above_pixel p x y c ≡ 127
unfolding above_pixel
above_outside p x y c none = ap (λ (b : Bool). cond b 127 (pixel p (x + c) (y - 1))) (eq-eqb y 0 none)

pub left_inside : (p : Raster) (x y r : ℕ) → 0 < x → left_pixel p x y r ≡ pixel p (x - 1) (y + r)
unfolding left_pixel
left_inside p x y r pos = ap (λ (b : Bool). cond b 129 (pixel p (x - 1) (y + r))) (ne_eqb x 0 (λ e. omega arith))

pub left_outside : (p : Raster) (x y r : ℕ) → x ≡ 0 → left_pixel p x y r ≡ 129
unfolding left_pixel
left_outside p x y r none = ap (λ (b : Bool). cond b 129 (pixel p (x - 1) (y + r))) (eq-eqb x 0 none)

pub above_run : (p : Raster) (x y n : ℕ) → 0 < y → x + n ≤ p.width → length (row_of p (y - 1)) ≡ p.width
    → slice_range (row_of p (y - 1)) x (x + n) ≡ first n (above_pixel p x y)
above_run p x y n pos fits long =
    let lift : length (row_of p (y - 1)) ≡ p.width = long in
    fill_by_all (above_pixel p x y) (slice_range (row_of p (y - 1)) x (x + n)) n 0
    (length-take (x + n - x) (drop x (row_of p (y - 1))) ∙ (let l : length (drop x (row_of p (y - 1))) ≡ p.width - x = length-drop x (row_of p (y - 1)) ∙ ap (λ (k : ℕ). k - x) long in omega arith))
    (λ k below. (let s : get_or (slice_range (row_of p (y - 1)) x (x + n)) k 0 ≡ pixel p (x + k) (y - 1) = search (rules, places) in s) ∙ sym (above_inside p x y k pos))

pub above_fill : (p : Raster) (x y n : ℕ) → y ≡ 0 → replicate n 127 ≡ first n (above_pixel p x y)
above_fill p x y n none = fill_by_all (above_pixel p x y) (replicate n 127) n 0 (length-replicate n 127)
    (λ k below. get_or-replicate n k 127 0 below ∙ sym (above_outside p x y k none))

pub left_fill : (p : Raster) (x y n : ℕ) → x ≡ 0 → replicate n 129 ≡ first n (left_pixel p x y)
left_fill p x y n none = fill_by_all (left_pixel p x y) (replicate n 129) n 0 (length-replicate n 129)
    (λ k below. get_or-replicate n k 129 0 below ∙ sym (left_outside p x y k none))

-- one of the numbers of a list that is `first n f`
pub read_first : (xs : List ℕ) (n : ℕ) (f : ℕ → ℕ) (k : ℕ) → xs ≡ first n f → k < n → get_or xs k 0 ≡ f k
read_first xs n f k e below = ap (λ (ys : List ℕ). get_or ys k 0) e ∙ get_or-map-range_with_len f 0 n k k 0 below (omega arith)

-- the same of four pixels in lanes
pub above_lanes : (p : Raster) (x y : ℕ) → 0 < y → x + 4 ≤ p.width → length (row_of p (y - 1)) ≡ p.width
    → chunk x 4 (row_of p (y - 1)) ≡ first 4 (above_pixel p x y)
above_lanes p x y pos fits long =
    let four : 4 ≡ x + 4 - x = omega arith in
    ap (λ (k : ℕ). take k (drop x (row_of p (y - 1)))) four ∙ above_run p x y 4 pos fits long

-- ---- the pixels above and to the right

pub right_inside : (p : Raster) (x y i : ℕ) → 0 < above_right_row x y → x + 4 + i < p.width
    → above_right_pixel p x y i ≡ pixel p (x + 4 + i) (above_right_row x y - 1)
unfolding above_right_pixel
right_inside p x y i pos within =
    let inside : min (x + 4 + i) (p.width - 1) ≡ x + 4 + i = omega arith in
    ap (λ (b : Bool). cond b 127 (pixel p (min (x + 4 + i) (p.width - 1)) (above_right_row x y - 1))) (ne_eqb (above_right_row x y) 0 (λ e. omega arith))
    ∙ ap (λ (c : ℕ). pixel p c (above_right_row x y - 1)) inside

pub right_run : (p : Raster) (x y row : ℕ) → row ≡ above_right_row x y → 0 < row → x + 8 ≤ p.width → length (row_of p (row - 1)) ≡ p.width
    → chunk (x + 4) 4 (row_of p (row - 1)) ≡ first 4 (above_right_pixel p x y)
right_run p x y row is pos fits long =
    let room : x + 4 + 4 ≤ length (row_of p (row - 1)) = omega arith in
    fill_by_all (above_right_pixel p x y) (chunk (x + 4) 4 (row_of p (row - 1))) 4 0 (length-chunk (x + 4) 4 (row_of p (row - 1)) room)
    (λ k below.
    get_or-chunk (x + 4) 4 (row_of p (row - 1)) k 0 below
    ∙ (let s : get_or (row_of p (row - 1)) (x + 4 + k) 0 ≡ pixel p (x + 4 + k) (row - 1) = search (rules, places) in s)
    ∙ ap (λ (r : ℕ). pixel p (x + 4 + k) (r - 1)) is
    ∙ sym (right_inside p x y k (subst (λ (r : ℕ). 0 < r) is pos) (omega arith)))
