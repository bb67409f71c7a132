-- A smaller plane in a picture, row after row, and the three planes of the smaller picture.
use Rattle.std.proofs.Common.{◌≡◌, ◌∙◌, ℕ, ◌+◌, ◌-◌, ◌<◌, ◌≤◌, ◌++◌, Bool, true, List, length, take, drop, get_or, if◌then◌else◌, sym, ap, arith}
use Rattle.std.proofs.lemmas.List.{length-take, get_or-take, take-append-drop}
use Rattle.std.proofs.lemmas.Bool.Decides.{nat_tests}
use Rattle.vp_base.specs.Raster.{Raster, pixel, row_of, with_row, with_run}
use Rattle.vp_base.specs.Block.{numbers, with_block, is_in_block, IsWhole}
use Rattle.vp_base.specs.Image.{Image, i420, plane_of, with_plane, IsAligned}
use Rattle.vp_base.proofs.BlockLemmas.{run_in_row, with_block_more, pixel-with_block, length-numbers, get_or-numbers, same_numbers}
use Rattle.vp_base.proofs.ImageLemmas.{plane_of-with_plane, with_plane-with_plane}
use Rattle.vp_scale.specs.Scale.{IsFactor, scaled_side}
use Rattle.vp_scale.specs.Planes.{half, luma_in, u_in, v_in}
use Rattle.vp_scale.specs.Means.{mean_at, means, scaled_i420}
use Rattle.vp_scale.proofs.SideLemmas.{halves}

-- a row whose first w pixels are written is a row with a run
pub row_with_run : (p : Raster) (w y : ℕ) (row old : List ℕ) → IsWhole p → length row ≡ length old → length old ≡ p.width → w ≤ p.width → y < p.height
    → old ≡ row_of p y → drop w row ≡ drop w old → with_row p y row ≡ with_run p 0 y (take w row)
row_with_run p w y row old whole len wide fits yin here behind =
    let l : length (take w row) ≡ w = length-take w row ∙ omega arith in
    let e : 0 + length (take w row) - 0 ≡ w = omega arith in
    let f : with_row p y (take w row ++ drop w old) ≡ with_run p 0 y (take w row) = rw e at (run_in_row p 0 y (take w row) old whole (omega arith) yin here) in
    let g : take w row ++ drop w old ≡ row = rw (← behind) (take-append-drop w row) in
    rw g at f

-- what a row of the smaller plane makes of a picture
abbrev pub PutsRow : ℕ → ℕ → (ℕ → ℕ → ℕ) → Image → ℕ → Image → Type 0
PutsRow w y g old k new = (run : List ℕ) × (length run ≡ w) × ((c : ℕ) → c < w → get_or run c 0 ≡ g c y)
    × (new ≡ with_plane old k (with_run (plane_of old k) 0 y run))

pub row_put : (w y : ℕ) (g : ℕ → ℕ → ℕ) (old : Image) (k : ℕ) (row was : List ℕ) → IsWhole (plane_of old k) → length row ≡ length was → length was ≡ (plane_of old k).width
    → w ≤ (plane_of old k).width → y < (plane_of old k).height → was ≡ row_of (plane_of old k) y → drop w row ≡ drop w was
    → ((c : ℕ) → c < w → get_or row c 0 ≡ g c y)
    → PutsRow w y g old k (with_plane old k (with_row (plane_of old k) y row))
row_put w y g old k row was whole len wide fits yin here behind each = (
  take w row,
  length-take w row ∙ omega arith,
  λ c below. get_or-take w row c 0 below ∙ each c below,
  ap (with_plane old k) (row_with_run (plane_of old k) w y row was whole len wide fits yin here behind),
)

-- one row more
pub plane_more : (w y : ℕ) (g : ℕ → ℕ → ℕ) (old at new : Image) (k : ℕ) → w ≤ (plane_of old k).width → y < (plane_of old k).height
    → at ≡ with_plane old k (with_block (plane_of old k) 0 0 w y (λ r c. g c r)) → PutsRow w y g at k new
    → new ≡ with_plane old k (with_block (plane_of old k) 0 0 w (y + 1) (λ r c. g c r))
plane_more w y g old at new k wide high is_at puts =
    let b : Raster = with_block (plane_of old k) 0 0 w y (λ r c. g c r) in
    let run : List ℕ = puts.0 in
    puts.3
    ∙ (λ i. with_plane (is_at i) k (with_run ((ap (λ (z : Image). plane_of z k) is_at ∙ plane_of-with_plane old k b) i) 0 y run))
    ∙ with_plane-with_plane old k b (with_run b 0 y run)
    ∙ ap (with_plane old k) (ap (λ (j : ℕ). with_run b 0 j run) (let t : y ≡ 0 + y = omega arith in t)
    ∙ with_block_more (plane_of old k) 0 0 w y (λ r c. g c r) run (omega arith) (omega arith) puts.1 puts.2)

-- the shown pixels of a plane with a block in its corner
pub corner : (p : Raster) (w h : ℕ) (g : ℕ → ℕ → ℕ) → w ≤ p.width → h ≤ p.height → numbers w h (pixel (with_block p 0 0 w h (λ r c. g c r))) ≡ numbers w h g
corner p w h g wide high =
    let q : Raster = with_block p 0 0 w h (λ r c. g c r) in
    same_numbers w h (numbers w h (pixel q)) (numbers w h g) (length-numbers w h (pixel q)) (length-numbers w h g)
    (λ x y xin yin.
    let inside : is_in_block 0 0 w h x y ≡ true = grind (arith, nat_tests) in
    get_or-numbers w h (pixel q) x y xin yin
    ∙ pixel-with_block p 0 0 w h (λ r c. g c r) x y (omega arith) (omega arith)
    ∙ ap (λ (b : Bool). if b then g (x - 0) (y - 0) else pixel p x y) inside
    ∙ (λ i. g ((let t : x - 0 ≡ x = omega arith in t) i) ((let t : y - 0 ≡ y = omega arith in t) i))
    ∙ sym (get_or-numbers w h g x y xin yin))

-- ---- the three planes

-- a plane with the means of another in its corner
abbrev pub with_means : ℕ → Raster → Raster → Raster
with_means k q p = with_block p 0 0 (scaled_side k q.width) (scaled_side k q.height) (λ r c. mean_at k q c r)

corner_of : (k : ℕ) (q p : Raster) → scaled_side k q.width ≤ p.width → scaled_side k q.height ≤ p.height
    → numbers (scaled_side k q.width) (scaled_side k q.height) (pixel (with_means k q p)) ≡ means k q
corner_of k q p wide high = corner p (scaled_side k q.width) (scaled_side k q.height) (mean_at k q) wide high

three : (k w h : ℕ) (bytes : List ℕ) (p : Image) → IsFactor k → p.width ≡ scaled_side k w → p.height ≡ scaled_side k h → IsAligned p
    → i420 (record p { luma = with_means k (luma_in w h bytes) p.luma; u = with_means k (u_in w h bytes) p.u; v = with_means k (v_in w h bytes) p.v })
    ≡ scaled_i420 k w h bytes
unfolding i420 scaled_i420
three k w h bytes p is wide high aligned =
    let a : scaled_side k (half w) ≡ half p.width = halves k w is ∙ ap half (sym wide) in
    let b : scaled_side k (half h) ≡ half p.height = halves k h is ∙ ap half (sym high) in
    let luma = corner_of k (luma_in w h bytes) p.luma (omega (arith, wide, aligned.0.0)) (omega (arith, high, aligned.0.1)) in
    let u = corner_of k (u_in w h bytes) p.u (omega (arith, a, aligned.1.0)) (omega (arith, b, aligned.1.1)) in
    let v = corner_of k (v_in w h bytes) p.v (omega (arith, a, aligned.2.0)) (omega (arith, b, aligned.2.1)) in
    (λ i. numbers (wide i) (high i) (pixel (with_means k (luma_in w h bytes) p.luma))
    ++ numbers (sym a i) (sym b i) (pixel (with_means k (u_in w h bytes) p.u))
    ++ numbers (sym a i) (sym b i) (pixel (with_means k (v_in w h bytes) p.v)))
    ∙ (λ i. luma i ++ u i ++ v i)

-- the picture after the three planes
pub planes_scaled : (k w h : ℕ) (bytes : List ℕ) (p one two new : Image) (a b c : Raster) → IsFactor k → p.width ≡ scaled_side k w → p.height ≡ scaled_side k h → IsAligned p
    → a ≡ luma_in w h bytes → b ≡ u_in w h bytes → c ≡ v_in w h bytes
    → one ≡ with_plane p 0 (with_means k a p.luma) → two ≡ with_plane one 1 (with_means k b one.u) → new ≡ with_plane two 2 (with_means k c two.v)
    → i420 new ≡ scaled_i420 k w h bytes
planes_scaled k w h bytes p one two new a b c is wide high aligned is_a is_b is_c first second third =
    ap i420 (third
    ∙ ap (λ (z : Image). with_plane z 2 (with_means k c z.v)) (second
    ∙ ap (λ (z : Image). with_plane z 1 (with_means k b z.u)) first)
    ∙ (λ i. record p { luma = with_means k (is_a i) p.luma; u = with_means k (is_b i) p.u; v = with_means k (is_c i) p.v }))
    ∙ three k w h bytes p is wide high aligned
