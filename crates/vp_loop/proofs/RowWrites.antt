-- Rows of a block, stored one after another.
use Rattle.std.proofs.Common.{◌≡◌, ◌∙◌, ℕ, ◌+◌, ◌-◌, ◌*◌, ◌<◌, ◌≤◌, List, [], ◌++◌, length, take, drop, map, get_or, sym, ap, ap₂, arith, rules, length-append, length-drop}
use Rattle.std.specs.List.{slice_range}
use Rattle.std.proofs.lemmas.Simd.{put_chunk_is}
use Rattle.std.proofs.lemmas.List.{length-take, length-map, map-id, take-map, drop-map, take_all, take-append-le, places}
use lib.Lanes.{put_chunk}
use Rattle.vp_base.specs.Raster.{Raster, pixel_index, overlay, with_pixels}
use Rattle.vp_base.proofs.RasterLemmas.{raster}
use Rattle.vp_base.specs.Block.{written, with_block, IsWhole}
use Rattle.vp_base.specs.Image.{Image}
use Rattle.vp_loop.specs.declared.edges.Planes.{Planes}
use Rattle.vp_loop.specs.declared.edges.Planes.TheVariants.{Luma, Chroma}
use Rattle.vp_loop.specs.declared.edges.Orientation.TheVariants.{Vertical, Horizontal}
use Rattle.vp_loop.specs.declared.lines.Line.{Line}
use Rattle.vp_loop.specs.declared.lanes.Lines.{Lines}
use Rattle.vp_loop.specs.Edges.{pixel_at}
use Rattle.vp_loop.specs.Lanes.{line_of, middle_of, with_lines, pixel_of, on_planes}
use Rattle.vp_base.proofs.BlockLemmas.{with_block_none, with_block_more, with_block_same}

pub put_over : (xs : List ℕ) (i : ℕ) (vs : List ℕ) → i + length vs ≤ length xs → put_chunk i xs vs ≡ overlay xs i vs
unfolding overlay
put_over xs i vs fits =
    let long : length (take i xs ++ (vs ++ drop (length vs) (drop i xs))) ≡ length xs = simp (length-append, length-take, length-drop) (omega arith) in
    put_chunk_is i xs vs fits ∙ sym (take_all (length xs) (take i xs ++ (vs ++ drop (length vs) (drop i xs))) (omega arith))

pub none_yet : (p : Raster) (x y n : ℕ) (f : ℕ → ℕ → ℕ) (to : List ℕ) → IsWhole p → p.pixels ≡ to → to ≡ written p x y n 0 f
none_yet p x y n f to whole same = sym same ∙ sym (ap (λ (q : Raster). q.pixels) (with_block_none p x y n f whole))

pub place_is : (p : Raster) (x y r at width : ℕ) → p.width ≡ width → at ≡ pixel_index p x y → at + r * width ≡ pixel_index p x (y + r)
place_is p x y r at width wide here =
    let same : r * p.width ≡ r * width = ap (λ (k : ℕ). r * k) wide in
    omega arith

pub one_more : (p : Raster) (x y n r : ℕ) (f : ℕ → ℕ → ℕ) (before after row : List ℕ) (at next width : ℕ) → x + n ≤ p.width → y + r < p.height
    → p.width ≡ width → at ≡ pixel_index p x y → next ≡ at + r * width
    → before ≡ written p x y n r f → next + n ≤ length before → after ≡ put_chunk next before row
    → length row ≡ n → ((c : ℕ) → c < n → get_or row c 0 ≡ f r c) → after ≡ written p x y n (r + 1) f
one_more p x y n r f before after row at next width columns high wide here where_next done fits put size value =
    put
    ∙ put_over before next row (omega arith)
    ∙ ap (λ (i : ℕ). overlay before i row) (where_next ∙ place_is p x y r at width wide here)
    ∙ ap (λ (ns : List ℕ). overlay ns (pixel_index p x (y + r)) row) done
    ∙ ap (λ (q : Raster). q.pixels) (with_block_more p x y n r f row columns high size value)

over_all : (xs vs : List ℕ) → length vs ≡ length xs → overlay xs 0 vs ≡ vs
unfolding overlay
over_all xs vs same = ap (λ (n : ℕ). take n (vs ++ drop (length vs) xs)) (sym same) ∙ take-append-le (length vs) vs (drop (length vs) xs) (omega arith) ∙ take_all (length vs) vs (omega arith)

-- all pixels put back
pub all_put : (p : Raster) (x y n h : ℕ) (f : ℕ → ℕ → ℕ) (vs : List ℕ) → vs ≡ written p x y n h f → length vs ≡ length p.pixels → with_pixels p vs ≡ with_block p x y n h f
all_put p x y n h f vs done size = ap (raster p.width p.height) (over_all p.pixels vs size ∙ done)

-- ---- rows that hold lines

plain : (rows : List (List ℕ)) (r c : ℕ) → pixel_of (λ v. v) rows r c ≡ get_or (get_or rows r []) c 0
plain rows r c = ap (λ (vs : List (List ℕ)). get_or (get_or vs r []) c 0) (map-id rows)

-- eight of sixteen rows
pub half_written : {A : Type 0} (pixels : A → List ℕ) (rows : List A) (first : ℕ) (lane : ℕ → ℕ) (p : Raster) (x y w : ℕ) → length rows ≡ 16 → first ≤ 8 → ((j : ℕ) → j + first ≡ lane j)
    → let part = slice_range rows first (first + 8) in
    with_block p x y w (length part) (pixel_of pixels part) ≡ with_block p x y w 8 (λ r. pixel_of pixels rows (lane r))
half_written {A} pixels rows first lane p x y w long few place =
    let part : List A = slice_range rows first (first + 8) in
    let size : length part ≡ 8 = simp (length-take, length-drop) (omega arith) in
    let all : length (map pixels rows) ≡ 16 = simp length-map long in
    let same : slice_range (map pixels rows) first (first + 8) ≡ map pixels part = ap (take (first + 8 - first)) (drop-map pixels first rows) ∙ take-map pixels (first + 8 - first) (drop first rows) in
    with_block_same p x y w (length part) (pixel_of pixels part) (λ r. pixel_of pixels rows (lane r)) (λ r c h g.
    let own : get_or (slice_range (map pixels rows) first (first + 8)) r [] ≡ get_or (map pixels rows) (r + first) [] = search (rules, places) in
    ap (λ (vs : List (List ℕ)). get_or (get_or vs r []) c 0) (sym same) ∙ (ap (λ (v : List ℕ). get_or v c 0) own ∙ ap (λ (j : ℕ). get_or (get_or (map pixels rows) j []) c 0) (place r)))
    ∙ ap (λ (n : ℕ). with_block p x y w n (λ r. pixel_of pixels rows (lane r))) size

-- rows of the middle pixels of sixteen lines
pub columns_stored : (planes : Planes) (x y k s w : ℕ) (l : Lines) (rows : List (List ℕ)) → s ≡ x + k → w ≡ 8 - k - k
    → ((j c : ℕ) → j < 16 → c < w → get_or (get_or rows j []) c 0 ≡ pixel_at (line_of l j) (c + k))
    → (p : Image) → on_planes planes (λ n lane q. with_block q s y w n (λ r. pixel_of (λ v. v) rows (lane r))) p ≡ on_planes planes (with_lines Vertical x y k l) p
columns_stored planes x y k s w l rows left wide same p = go planes
  where
    each : (n : ℕ) (lane : ℕ → ℕ) (q : Raster) → ((j : ℕ) → j < n → lane j < 16) → with_block q s y w n (λ r. pixel_of (λ v. v) rows (lane r)) ≡ with_lines Vertical x y k l n lane q
    each n lane q few =
        with_block_same q s y w n (λ r. pixel_of (λ v. v) rows (lane r)) (λ r c. pixel_at (line_of l (lane r)) (c + k)) (λ r c h g. plain rows (lane r) c ∙ same (lane r) c (few r h) g)
        ∙ (λ i. with_block q (left i) y (wide i) n (λ r c. pixel_at (line_of l (lane r)) (c + k)))

    go : (planes : Planes) → on_planes planes (λ n lane q. with_block q s y w n (λ r. pixel_of (λ v. v) rows (lane r))) p ≡ on_planes planes (with_lines Vertical x y k l) p
    go Luma = ap (λ (q : Raster). record p { luma = q }) (each 16 (λ j. j) p.luma (λ j h. h))
    go Chroma = ap₂ (λ (q r : Raster). record p { u = q; v = r }) (each 8 (λ j. j) p.u (λ j h. omega arith)) (each 8 (λ j. j + 8) p.v (λ j h. omega arith))

pub middle_pixel : (l : Line) (c : ℕ) → c < 4 → get_or (middle_of l) c 0 ≡ pixel_at l (c + 2)
middle_pixel l c h = grind arith

-- eight rows of lines, but for those at both ends
pub rows_stored : (x y k n : ℕ) (lane : ℕ → ℕ) (l : Lines) (p : Raster) (rows : List (List ℕ)) → length rows ≡ 8 → k ≤ 4
    → ((r c : ℕ) → r < 8 → c < n → get_or (get_or rows r []) c 0 ≡ pixel_at (line_of l (lane c)) r) → let part = slice_range rows k (8 - k) in
    with_block p x (y + k) n (length part) (pixel_of (λ v. v) part) ≡ with_lines Horizontal x y k l n lane p
rows_stored x y k n lane l p rows long few same =
    let part : List (List ℕ) = slice_range rows k (8 - k) in
    let size : length part ≡ 8 - k - k = simp (length-take, length-drop) (omega arith) in
    with_block_same p x (y + k) n (length part) (pixel_of (λ v. v) part) (λ r c. pixel_at (line_of l (lane c)) (r + k)) (λ r c h g.
    let own : get_or part r [] ≡ get_or rows (r + k) [] = search (rules, places) in
    plain part r c ∙ (ap (λ (v : List ℕ). get_or v c 0) own ∙ same (r + k) c (omega arith) g))
    ∙ ap (λ (m : ℕ). with_block p x (y + k) n m (λ r c. pixel_at (line_of l (lane c)) (r + k))) size
