-- Lemmas on the pixels of a block.
use Rattle.std.proofs.Common.{◌≡◌, ◌∙◌, ℕ, ◌+◌, ◌-◌, ◌*◌, ◌<◌, ◌≤◌, min, List, length, get_or, replicate, ap, sym, arith, Fits, w8, zero, suc}
use lib.Lanes.{Each1}
use Rattle.vp_lanes.proofs.Shape.{lane_fits}
use Rattle.std.proofs.lemmas.Nat.{row_fits}
use Rattle.std.proofs.lemmas.List.{length-replicate, get_or-replicate}
use Rattle.vp_base.proofs.BlockLemmas.{length-numbers, get_or-numbers, same_numbers, with_block_same}
use Rattle.vp_base.specs.Block.{with_block}
use Rattle.vp_base.specs.Image.{Image, plane_of, with_plane}
use Rattle.vp_base.specs.Raster.{Raster}
use Rattle.vp_intra.specs.Edges.{block, first, above_pixel, left_pixel, corner_pixel, clamped_pixel, true_motion}
use Rattle.vp_intra.proofs.EdgeLemmas.{read_first}

pub length-block : (n : ℕ) (f : ℕ → ℕ → ℕ) → length (block n f) ≡ n * n
unfolding block
length-block n f = length-numbers n n (λ c r. f r c)

-- the pixel at row r and column c
pub read_block : (n : ℕ) (f : ℕ → ℕ → ℕ) (r c : ℕ) → r < n → c < n → get_or (block n f) (r * n + c) 0 ≡ f r c
unfolding block
read_block n f r c rin cin = get_or-numbers n n (λ v u. f u v) c r cin rin

-- a list that has these pixels
pub is_block : (n : ℕ) (f : ℕ → ℕ → ℕ) (xs : List ℕ) → length xs ≡ n * n
    → ((r c : ℕ) → r < n → c < n → get_or xs (r * n + c) 0 ≡ f r c) → xs ≡ block n f
is_block n f xs len same =
    same_numbers n n xs (block n f) len (length-block n f)
    (λ c r cin rin. same r c rin cin ∙ sym (read_block n f r c rin cin))

pub block_same : (n : ℕ) (f g : ℕ → ℕ → ℕ) → ((r c : ℕ) → r < n → c < n → f r c ≡ g r c) → block n f ≡ block n g
block_same n f g same =
    is_block n g (block n f) (length-block n f) (λ r c rin cin. read_block n f r c rin cin ∙ same r c rin cin)

-- one pixel at each place
pub even_block : (n m v : ℕ) → m ≡ n * n → replicate m v ≡ block n (λ r c. v)
even_block n m v e =
    is_block n (λ r c. v) (replicate m v) (length-replicate m v ∙ e)
    (λ r c rin cin. let room : r * n + n ≤ n * n = row_fits r n n n rin (omega arith) in get_or-replicate m (r * n + c) v 0 (omega arith))

-- ---- blocks made of the edges

pub vertical_block : (n : ℕ) (p : Raster) (x y : ℕ) (es : List ℕ) → es ≡ first n (above_pixel p x y)
    → block n (λ r c. get_or es c 0) ≡ block n (λ r c. above_pixel p x y c)
vertical_block n p x y es e =
    block_same n (λ r c. get_or es c 0) (λ r c. above_pixel p x y c) (λ r c rin cin. read_first es n (above_pixel p x y) c e cin)

pub horizontal_block : (n : ℕ) (p : Raster) (x y : ℕ) (es : List ℕ) → es ≡ first n (left_pixel p x y)
    → block n (λ r c. get_or es r 0) ≡ block n (λ r c. left_pixel p x y r)
horizontal_block n p x y es e =
    block_same n (λ r c. get_or es r 0) (λ r c. left_pixel p x y r) (λ r c rin cin. read_first es n (left_pixel p x y) r e rin)

pub true_motion_block : (n : ℕ) (p : Raster) (x y : ℕ) (us ls : List ℕ) (k : ℕ)
    → us ≡ first n (above_pixel p x y) → ls ≡ first n (left_pixel p x y) → k ≡ corner_pixel p x y
    → block n (λ r c. clamped_pixel (get_or ls r 0) (get_or us c 0) k) ≡ block n (true_motion p x y)
true_motion_block n p x y us ls k a l e =
    block_same n (λ r c. clamped_pixel (get_or ls r 0) (get_or us c 0) k) (true_motion p x y) (λ r c rin cin.
    ap (λ (v : ℕ). clamped_pixel v (get_or us c 0) k) (read_first ls n (left_pixel p x y) r l rin)
    ∙ ap (λ (v : ℕ). clamped_pixel (left_pixel p x y r) v k) (read_first us n (above_pixel p x y) c a cin)
    ∙ ap (clamped_pixel (left_pixel p x y r) (above_pixel p x y c)) e)

-- what the left is above the corner is added, or what it is below it is taken away
pub moved_either_way : (l a p : ℕ) → a < 256 → min (a + (l - p)) 255 - (p - l) ≡ clamped_pixel l a p
moved_either_way l a p byte = grind arith

each_even : (m v : ℕ) → v < 256 → Each1 (Fits w8) (replicate m v)
each_even zero v byte = tt
each_even (suc m) v byte = (record { fits = byte }, each_even m v byte)

-- a picture with such a block written, given as its list
pub block_written : (image : Image) (k x y n : ℕ) (xs : List ℕ) (p : Raster) (f : Raster → ℕ → ℕ → ℕ → ℕ → ℕ) → p ≡ plane_of image k
    → xs ≡ block n (f p x y)
    → with_plane image k (with_block (plane_of image k) x y n n (λ r c. get_or xs (r * n + c) 0)) ≡ with_plane image k (with_block (plane_of image k) x y n n (f (plane_of image k) x y))
block_written image k x y n xs p f here is =
    ap (with_plane image k) (with_block_same (plane_of image k) x y n n (λ r c. get_or xs (r * n + c) 0) (f (plane_of image k) x y)
    (λ r c rin cin. ap (λ (ys : List ℕ). get_or ys (r * n + c) 0) is ∙ read_block n (f p x y) r c rin cin ∙ ap (λ (q : Raster). f q x y r c) here))

-- its pixels are bytes
pub block_bytes : (image : Image) (k x y n : ℕ) (xs : List ℕ) (p : Raster) (f : Raster → ℕ → ℕ → ℕ → ℕ → ℕ) → p ≡ plane_of image k
    → xs ≡ block n (f p x y) → (length xs ≡ n * n) × Each1 (Fits w8) xs
    → (r c : ℕ) → r < n → c < n → f (plane_of image k) x y r c ≤ 255
block_bytes image k x y n xs p f here is lanes r c rin cin =
    let room : r * n + n ≤ n * n = row_fits r n n n rin (omega arith) in
    let byte : get_or xs (r * n + c) 0 < 256 = (lane_fits (Fits w8) 0 (n * n) xs lanes.0 lanes.1 (r * n + c) (omega arith)).fits in
    let same : get_or xs (r * n + c) 0 ≡ f (plane_of image k) x y r c =
    ap (λ (ys : List ℕ). get_or ys (r * n + c) 0) is ∙ read_block n (f p x y) r c rin cin ∙ ap (λ (q : Raster). f q x y r c) here in
    omega arith

pub even_bytes : (m v : ℕ) → v < 256 → (length (replicate m v) ≡ m) × Each1 (Fits w8) (replicate m v)
even_bytes m v byte = (length-replicate m v, each_even m v byte)
