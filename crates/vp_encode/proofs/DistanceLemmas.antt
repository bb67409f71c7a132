-- Sums of squared differences of lists that follow one another.
use Rattle.std.proofs.Common.{◌≡◌, ◌∙◌, ℕ, ◌+◌, ◌*◌, ◌/◌, ◌≤◌, ◌++◌, List, [], length, take, get_or, refl, sym, ap, ap₂, arith, length-append}
use Rattle.std.specs.Int.{abs_diff}
use Rattle.std.proofs.lemmas.List.{get_or_append_left, get_or-append-add}
use Rattle.vp_base.specs.Raster.{Raster, pixel, row_of}
use Rattle.vp_base.specs.Block.{numbers}
use Rattle.vp_base.specs.Image.{Image, i420}
use Rattle.vp_base.proofs.BlockLemmas.{length-numbers, numbers_none, cropped_row}
use Rattle.vp_search.specs.Sums.{sum_below}
use Rattle.vp_search.specs.Differences.{squared_difference, sum_of_squares}
use Rattle.vp_search.proofs.SumLemmas.{sum_below-none, sum_below-same, sum_below-add}
use Rattle.vp_encode.specs.Choice.{squared_distance}

abbrev square : ℕ → ℕ → ℕ
square x y = abs_diff x y * abs_diff x y

pub squares-append : (a b c d : List ℕ) → length a ≡ length c → sum_of_squares (a ++ b) (c ++ d) ≡ sum_of_squares a c + sum_of_squares b d
squares-append a b c d long =
    ap (λ (n : ℕ). sum_below n (squared_difference (a ++ b) (c ++ d))) (length-append a b)
    ∙ sum_below-add (length a) (length b) (squared_difference (a ++ b) (c ++ d))
    ∙ ap₂ (λ x y. x + y)
    (sum_below-same (length a) (squared_difference (a ++ b) (c ++ d)) (squared_difference a c) (λ k below.
    ap₂ square (get_or_append_left a b 0 k below) (get_or_append_left c d 0 k (omega arith))))
    (sum_below-same (length b) (λ k. squared_difference (a ++ b) (c ++ d) (length a + k)) (squared_difference b d) (λ k below.
    ap₂ square (get_or-append-add a b k 0) (ap (λ (n : ℕ). get_or (c ++ d) (n + k) 0) long ∙ get_or-append-add c d k 0)))

pub squares-none : (p q : Raster) (width : ℕ) → sum_of_squares (numbers width 0 (pixel p)) (numbers width 0 (pixel q)) ≡ 0
squares-none p q width =
    (λ i. sum_of_squares (numbers_none width (pixel p) i) (numbers_none width (pixel q) i)) ∙ sum_below-none (squared_difference [] [])

-- one row more
pub squares-row : (p q : Raster) (width y : ℕ) (a b : List ℕ) → a ≡ row_of p y → b ≡ row_of q y → length a ≡ p.width → length b ≡ q.width → width ≤ p.width → width ≤ q.width
    → sum_of_squares (numbers width y (pixel p)) (numbers width y (pixel q)) + sum_of_squares (take width a) (take width b)
    ≡ sum_of_squares (numbers width (y + 1) (pixel p)) (numbers width (y + 1) (pixel q))
squares-row p q width y a b is_a is_b long_a long_b fits_a fits_b =
    sym (squares-append (numbers width y (pixel p)) (take width a) (numbers width y (pixel q)) (take width b)
    (length-numbers width y (pixel p) ∙ sym (length-numbers width y (pixel q))))
    ∙ (λ i. sum_of_squares (cropped_row p width y a is_a long_a fits_a i) (cropped_row q width y b is_b long_b fits_b i))

-- three planes
pub squares-three : (a b c d e f : List ℕ) → length a ≡ length d → length b ≡ length e
    → sum_of_squares (a ++ b ++ c) (d ++ e ++ f) ≡ sum_of_squares a d + sum_of_squares b e + sum_of_squares c f
squares-three a b c d e f long wide =
    squares-append (a ++ b) c (d ++ e) f (length-append a b ∙ (λ i. long i + wide i) ∙ sym (length-append d e))
    ∙ ap (λ (n : ℕ). n + sum_of_squares c f) (squares-append a b d e long)

half : {m n : ℕ} → m ≡ n → (m + 1) / 2 ≡ (n + 1) / 2
half same = ap (λ (k : ℕ). (k + 1) / 2) same

-- the sums of the planes of two pictures of one size
pub distance_is : (p q : Image) (w h : ℕ) → w ≡ p.width → h ≡ p.height → p.width ≡ q.width → p.height ≡ q.height
    → sum_of_squares (numbers w h (pixel p.luma)) (numbers w h (pixel q.luma))
    + sum_of_squares (numbers ((w + 1) / 2) ((h + 1) / 2) (pixel p.u)) (numbers ((w + 1) / 2) ((h + 1) / 2) (pixel q.u))
    + sum_of_squares (numbers ((w + 1) / 2) ((h + 1) / 2) (pixel p.v)) (numbers ((w + 1) / 2) ((h + 1) / 2) (pixel q.v)) ≡ squared_distance p q
unfolding i420
distance_is p q w h wide high width height =
    let long : (a b x y : ℕ) (f g : ℕ → ℕ → ℕ) → a ≡ x → b ≡ y → length (numbers a b f) ≡ length (numbers x y g) =
    λ a b x y f g across down. length-numbers a b f ∙ (λ i. down i * across i) ∙ sym (length-numbers x y g) in
    rw (wide, high)
    (sym (squares-three (numbers p.width p.height (pixel p.luma)) (numbers ((p.width + 1) / 2) ((p.height + 1) / 2) (pixel p.u)) (numbers ((p.width + 1) / 2) ((p.height + 1) / 2) (pixel p.v))
    (numbers p.width p.height (pixel q.luma)) (numbers ((p.width + 1) / 2) ((p.height + 1) / 2) (pixel q.u)) (numbers ((p.width + 1) / 2) ((p.height + 1) / 2) (pixel q.v))
    (long _ _ _ _ _ _ refl refl) (long _ _ _ _ _ _ refl refl))
    ∙ (λ i. sum_of_squares (i420 p) (numbers (width i) (height i) (pixel q.luma) ++ numbers (half width i) (half height i) (pixel q.u) ++ numbers (half width i) (half height i) (pixel q.v))))
