-- The equation of the unfiltered picture: what is rebuilt solves it, and nothing else does.
use Rattle.std.proofs.Common.{◌≡◌, ◌∙◌, ℕ, suc, Bool, true, false, cond, ◌+◌, ◌-◌, ◌*◌, ◌/◌, ◌%◌, ◌<◌, ◌≤◌, sym, refl, ap, subst, arith, inl, inr}
use Rattle.vp_recon.proofs.Words.{Place, Raster, pixel, IsWhole, Image, IsAligned, IsCovering, AreWhole, macroblocks, AreOneSize, over, IsWhole-with_block, over-holds, Macroblock, predicts_by_subblocks, luma_made, chroma_made, sub_step, luma_rebuilt, chroma_rebuilt, rebuilt, row_rebuilt, all_rebuilt, IsUnfiltered, cases_Bool, cases_lt, row_fits, same_from_place, div-add-mod', div_below, mod_below, mul_comm}
use Rattle.vp_recon.proofs.LumaLemmas.{luma_at_once, luma_by_subs}
use Rattle.vp_recon.proofs.Alike.{stage, luma_made_alike, chroma_made_alike}
use Rattle.vp_recon.proofs.Turns.{over-grows, grid-grows, MadeTo, ByTurns, block_made, one_plane}

abbrev at : ℕ → ℕ → Place
at x y = record { column = x; row = y }

-- what the macroblock of each place makes of it; the turns of luma are by subblocks
abbrev luma_at : (Place → Macroblock) → Raster → ℕ → ℕ → ℕ
luma_at f p u v = luma_made (f (at (u / 16) (v / 16))) (at (u / 16) (v / 16)) p (v % 16) (u % 16)

abbrev luma_turn : (Place → Macroblock) → ℕ → ℕ → ℕ → ℕ
luma_turn f cols u v = 16 * (v / 16 * cols + u / 16) + stage (f (at (u / 16) (v / 16))).predictor (v % 16) (u % 16)

abbrev chroma_at : (Place → Macroblock) → ℕ → Raster → ℕ → ℕ → ℕ
chroma_at f k p u v = chroma_made (f (at (u / 8) (v / 8))) k (at (u / 8) (v / 8)) p (v % 8) (u % 8)

abbrev chroma_turn : ℕ → ℕ → ℕ → ℕ
chroma_turn cols u v = v / 8 * cols + u / 8

stage_low : (b : Bool) (n : ℕ) → cond b n 0 ≤ n
stage_low true n = omega arith
stage_low false n = omega arith

module _ (f : Place → Macroblock) (cols rows : ℕ) where
  -- ---- chroma

  chroma_by_turns : (k : ℕ) → ByTurns (8 * cols) (8 * rows) (chroma_turn cols) (chroma_at f k)
  chroma_by_turns k p q u v pw ph qw uin vin same =
      chroma_made_alike (at (u / 8) (v / 8)) p q (f (at (u / 8) (v / 8))) k (v % 8) (u % 8) (omega arith) (omega arith)
      (λ i j iin jin low high right left. same i j (omega arith) (omega arith) (elim (cases_lt j (8 * (v / 8))) [
        | inl above ↦ let room : j / 8 * cols + cols ≤ v / 8 * cols = row_fits (j / 8) cols (v / 8) cols (omega arith) (omega arith) in omega arith
        | inr level ↦
            let row : j / 8 ≡ v / 8 = omega arith in
            let across : j / 8 * cols ≡ v / 8 * cols = ap (λ (n : ℕ). n * cols) row in
            omega arith
      ])) (omega arith) (omega arith)

  chroma_step : (k x y : ℕ) → x < cols → (p : Raster) → MadeTo (8 * cols) (8 * rows) (chroma_turn cols) (chroma_at f k) (y * cols + x) p
      → MadeTo (8 * cols) (8 * rows) (chroma_turn cols) (chroma_at f k) (y * cols + x + 1) (chroma_rebuilt (f (at x y)) k (at x y) p)
  chroma_step k x y xin p so_far =
      block_made (8 * cols) (8 * rows) (chroma_turn cols) (chroma_at f k) (chroma_by_turns k) (y * cols + x) (y * cols + x + 1) (8 * x) (8 * y) 8
      (chroma_made (f (at x y)) k (at x y) p) p so_far
      (λ u v l.
      let row : v / 8 ≡ y = omega arith in
      let column : u / 8 ≡ x = omega arith in
      cc)
      (λ u v uin vin low high.
      let place = same_from_place (v / 8) (u / 8) y x cols (omega arith) xin (omega arith) in
      record { left = omega (arith, place); right = omega (arith, place); top = omega (arith, place); bottom = omega (arith, place) })
      (λ u v l.
      let row : v / 8 ≡ y = omega arith in
      let column : u / 8 ≡ x = omega arith in
      let r : v - 8 * y ≡ v % 8 = omega arith in
      let c : u - 8 * x ≡ u % 8 = omega arith in
      cc)

  -- ---- luma

  luma_by_turns : ByTurns (16 * cols) (16 * rows) (luma_turn f cols) (luma_at f)
  luma_by_turns p q u v pw ph qw uin vin same =
      luma_made_alike (at (u / 16) (v / 16)) p q (f (at (u / 16) (v / 16))) (v % 16) (u % 16) (omega arith) (omega arith) (pw ∙ sym qw)
      (λ i j iin jin ready.
      let low : luma_turn f cols i j ≤ 16 * (j / 16 * cols + i / 16) + (4 * (j % 16 / 4) + i % 16 / 4) =
      let s = stage_low (predicts_by_subblocks (f (at (i / 16) (j / 16))).predictor) (4 * (j % 16 / 4) + i % 16 / 4) in omega arith in
      same i j (omega arith) (omega arith) (elim (cases_lt j (16 * (v / 16))) [
        | inl above ↦ let room : j / 16 * cols + cols ≤ v / 16 * cols = row_fits (j / 16) cols (v / 16) cols (omega arith) (omega arith) in omega arith
        | inr level ↦
            let row : j / 16 ≡ v / 16 = omega arith in
            let across : j / 16 * cols ≡ v / 16 * cols = ap (λ (n : ℕ). n * cols) row in
            elim (cases_lt i (16 * (u / 16))) [ inl left ↦ omega arith | inr own ↦ let earlier = ready.own (omega arith) own in omega arith ]
      ])) (omega arith) (omega arith)

  module _ (x y : ℕ) (xin : x < cols) where
    -- a place of this macroblock
    turn_in : (u v : ℕ) → u / 16 ≡ x → v / 16 ≡ y → luma_turn f cols u v ≡ 16 * (y * cols + x) + stage (f (at x y)).predictor (v % 16) (u % 16)
    turn_in u v column row = cc

    value_in : (p : Raster) (u v r c : ℕ) → u / 16 ≡ x → v / 16 ≡ y → v % 16 ≡ r → u % 16 ≡ c → luma_made (f (at x y)) (at x y) p r c ≡ luma_at f p u v
    value_in p u v r c column row re ce = cc

    -- only its places have its turns
    place_of : (u v n : ℕ) → u < 16 * cols → n < 16 → luma_turn f cols u v ≡ 16 * (y * cols + x) + n → (v / 16 ≡ y) × (u / 16 ≡ x)
    place_of u v n uin few turn =
        let s = stage_low (predicts_by_subblocks (f (at (u / 16) (v / 16))).predictor) (4 * (v % 16 / 4) + u % 16 / 4) in
        same_from_place (v / 16) (u / 16) y x cols (omega arith) xin (omega arith)

    abbrev Made : ℕ → Raster → Type 0
    Made = MadeTo (16 * cols) (16 * rows) (luma_turn f cols) (luma_at f)

    luma_sub : predicts_by_subblocks (f (at x y)).predictor ≡ true → (k : ℕ) → k < 16 → (p : Raster) → Made (16 * (y * cols + x) + k) p
        → Made (16 * (y * cols + x) + suc k) (sub_step (f (at x y)) (at x y) k p)
    luma_sub subs k few p so_far =
        let own : (r c : ℕ) → stage (f (at x y)).predictor r c ≡ 4 * (r / 4) + c / 4 = λ r c. ap (λ (b : Bool). cond b (4 * (r / 4) + c / 4) 0) subs in
        block_made (16 * cols) (16 * rows) (luma_turn f cols) (luma_at f) luma_by_turns (16 * (y * cols + x) + k) (16 * (y * cols + x) + suc k)
        (16 * x + 4 * (k % 4)) (16 * y + 4 * (k / 4)) 4 (λ r c. luma_made (f (at x y)) (at x y) p (4 * (k / 4) + r) (4 * (k % 4) + c)) p so_far
        (λ u v l. turn_in u v (omega arith) (omega arith) ∙ (let s = own (v % 16) (u % 16) in omega arith))
        (λ u v uin vin low high.
        let turn : luma_turn f cols u v ≡ 16 * (y * cols + x) + k = omega arith in
        let place = place_of u v k uin few turn in
        let s = own (v % 16) (u % 16) in
        let is = turn_in u v place.1 place.0 in
        record { left = omega (arith, place); right = omega (arith, place); top = omega (arith, place); bottom = omega (arith, place) })
        (λ u v l. value_in p u v (4 * (k / 4) + (v - (16 * y + 4 * (k / 4)))) (4 * (k % 4) + (u - (16 * x + 4 * (k % 4)))) (omega arith) (omega arith) (omega arith) (omega arith))

    luma_step : (p : Raster) → Made (16 * (y * cols + x)) p → Made (16 * (y * cols + x + 1)) (luma_rebuilt (f (at x y)) (at x y) p)
    luma_step p so_far = elim (cases_Bool (predicts_by_subblocks (f (at x y)).predictor)) [
      | inl subs ↦
          subst (λ (q : Raster). Made (16 * (y * cols + x + 1)) q) (luma_by_subs (f (at x y)) (at x y) p subs)
          (subst (λ (n : ℕ). Made n (over 16 (sub_step (f (at x y)) (at x y)) p)) (let e : 16 * (y * cols + x) + 16 ≡ 16 * (y * cols + x + 1) = omega arith in e)
          (over-grows (λ k. Made (16 * (y * cols + x) + k)) 16 (sub_step (f (at x y)) (at x y)) p (luma_sub subs)
          (subst (λ (n : ℕ). Made n p) (let e : 16 * (y * cols + x) ≡ 16 * (y * cols + x) + 0 = omega arith in e) so_far)))
      | inr whole ↦
          let none : (r c : ℕ) → stage (f (at x y)).predictor r c ≡ 0 = λ r c. ap (λ (b : Bool). cond b (4 * (r / 4) + c / 4) 0) whole in
          subst (λ (q : Raster). Made (16 * (y * cols + x + 1)) q) (luma_at_once (f (at x y)) (at x y) p whole)
          (block_made (16 * cols) (16 * rows) (luma_turn f cols) (luma_at f) luma_by_turns (16 * (y * cols + x)) (16 * (y * cols + x + 1))
          (16 * x) (16 * y) 16 (luma_made (f (at x y)) (at x y) p) p so_far
          (λ u v l. turn_in u v (omega arith) (omega arith) ∙ (let s = none (v % 16) (u % 16) in omega arith))
          (λ u v uin vin low high.
          let turn : luma_turn f cols u v ≡ 16 * (y * cols + x) + (luma_turn f cols u v - 16 * (y * cols + x)) = omega arith in
          let place = place_of u v (luma_turn f cols u v - 16 * (y * cols + x)) uin (omega arith) turn in
          record { left = omega (arith, place); right = omega (arith, place); top = omega (arith, place); bottom = omega (arith, place) })
          (λ u v l. value_in p u v (v - 16 * y) (u - 16 * x) (omega arith) (omega arith) (omega arith) (omega arith)))
    ]

  -- ---- the picture

  record Built (n : ℕ) (p : Image) : Type 0 where
    luma : MadeTo (16 * cols) (16 * rows) (luma_turn f cols) (luma_at f) (16 * n) p.luma
    u : MadeTo (8 * cols) (8 * rows) (chroma_turn cols) (chroma_at f 1) n p.u
    v : MadeTo (8 * cols) (8 * rows) (chroma_turn cols) (chroma_at f 2) n p.v

  all_built : (p : Image) → IsAligned p → cols ≡ macroblocks p.width → rows ≡ macroblocks p.height
      → Built (rows * cols) (over rows (row_rebuilt cols f) p)
  all_built p aligned across down =
      grid-grows Built cols rows (λ x y. rebuilt (f (at x y)) (at x y)) p
      (λ x y xin yin q b. record { luma = luma_step x y xin q.luma b.luma; u = chroma_step 1 x y xin q.u b.u; v = chroma_step 2 x y xin q.v b.v })
      (record {
        luma = record { wide = omega (arith, aligned); high = omega (arith, aligned); value = λ i j iin jin below. absurd (omega arith) };
        u = record { wide = omega (arith, aligned); high = omega (arith, aligned); value = λ i j iin jin below. absurd (omega arith) };
        v = record { wide = omega (arith, aligned); high = omega (arith, aligned); value = λ i j iin jin below. absurd (omega arith) };
      })

  -- by macroblocks and their rows and columns
  luma_law : (p : Raster) → MadeTo (16 * cols) (16 * rows) (luma_turn f cols) (luma_at f) (16 * (rows * cols)) p
      → (x y r c : ℕ) → x < cols → y < rows → r < 16 → c < 16 → pixel p (16 * x + c) (16 * y + r) ≡ luma_made (f (at x y)) (at x y) p r c
  luma_law p made x y r c xin yin rin cin =
      let room : y * cols + cols ≤ rows * cols = row_fits y cols rows cols yin (omega arith) in
      let column : (16 * x + c) / 16 ≡ x = omega arith in
      let row : (16 * y + r) / 16 ≡ y = omega arith in
      let low = stage_low (predicts_by_subblocks (f (at x y)).predictor) (4 * ((16 * y + r) % 16 / 4) + (16 * x + c) % 16 / 4) in
      made.value (16 * x + c) (16 * y + r) (omega arith) (omega arith) (let e = turn_in x y xin (16 * x + c) (16 * y + r) column row in omega arith)
      ∙ sym (value_in x y xin p (16 * x + c) (16 * y + r) r c column row (omega arith) (omega arith))

  chroma_law : (k : ℕ) (p : Raster) → MadeTo (8 * cols) (8 * rows) (chroma_turn cols) (chroma_at f k) (rows * cols) p
      → (x y r c : ℕ) → x < cols → y < rows → r < 8 → c < 8 → pixel p (8 * x + c) (8 * y + r) ≡ chroma_made (f (at x y)) k (at x y) p r c
  chroma_law k p made x y r c xin yin rin cin =
      let room : y * cols + cols ≤ rows * cols = row_fits y cols rows cols yin (omega arith) in
      let column : (8 * x + c) / 8 ≡ x = omega arith in
      let row : (8 * y + r) / 8 ≡ y = omega arith in
      let across : (8 * y + r) / 8 * cols ≡ y * cols = ap (λ (n : ℕ). n * cols) row in
      let re : (8 * y + r) % 8 ≡ r = omega arith in
      let ce : (8 * x + c) % 8 ≡ c = omega arith in
      made.value (8 * x + c) (8 * y + r) (omega arith) (omega arith) (omega arith) ∙ cc

-- ---- what each macroblock keeps

all_keep : (P : Image → Type 0) (f : Place → Macroblock) (p : Image) → ((m : Macroblock) (place : Place) (q : Image) → P q → P (rebuilt m place q)) → P p → P (all_rebuilt f p)
all_keep P f p keeps =
    over-holds P (macroblocks p.height) (row_rebuilt (macroblocks p.width) f) p
    (λ row rin b. over-holds P (macroblocks p.width) (λ column. rebuilt (f (at column row)) (at column row)) b
    (λ column cin. keeps (f (at column row)) (at column row)))

luma_is_whole : (m : Macroblock) (place : Place) (p : Raster) → IsWhole p → IsWhole (luma_rebuilt m place p)
luma_is_whole m place p whole = elim (cases_Bool (predicts_by_subblocks m.predictor)) [
  | inl subs ↦
      subst IsWhole (luma_by_subs m place p subs) (over-holds IsWhole 16 (sub_step m place) p
      (λ k below q h. IsWhole-with_block q (16 * place.column + 4 * (k % 4)) (16 * place.row + 4 * (k / 4)) 4 4 (λ r c. luma_made m place q (4 * (k / 4) + r) (4 * (k % 4) + c))) whole)
  | inr once ↦ subst IsWhole (luma_at_once m place p once) (IsWhole-with_block p (16 * place.column) (16 * place.row) 16 16 (luma_made m place p))
]

pub whole_kept : (m : Macroblock) (place : Place) (p : Image) → AreWhole p → AreWhole (rebuilt m place p)
whole_kept m place p h = (
  luma_is_whole m place p.luma h.0,
  IsWhole-with_block p.u (8 * place.column) (8 * place.row) 8 8 (chroma_made m 1 place p.u),
  IsWhole-with_block p.v (8 * place.column) (8 * place.row) 8 8 (chroma_made m 2 place p.v),
)

pub one_size : (f : Place → Macroblock) (p : Image) → AreOneSize (all_rebuilt f p) p
one_size f p = all_keep (λ q. AreOneSize q p) f p (λ m place q h. record { width = h.width; height = h.height }) (record { width = refl; height = refl })

pub still_aligned : (f : Place → Macroblock) (p : Image) → IsAligned p → IsAligned (all_rebuilt f p)
still_aligned f p = all_keep IsAligned f p (λ m place q h. h)

pub still_whole : (f : Place → Macroblock) (p : Image) → AreWhole p → AreWhole (all_rebuilt f p)
still_whole f p = all_keep AreWhole f p whole_kept

-- ---- the laws

pub solves : (f : Place → Macroblock) (p : Image) → IsAligned p → IsUnfiltered f (all_rebuilt f p)
solves f p aligned place xin yin =
    let cols : ℕ = macroblocks p.width in
    let rows : ℕ = macroblocks p.height in
    let xs : place.column < macroblocks p.width = let e : macroblocks (all_rebuilt f p).width ≡ macroblocks p.width = ap (λ (n : ℕ). macroblocks n) (one_size f p).width in omega arith in
    let ys : place.row < macroblocks p.height = let e : macroblocks (all_rebuilt f p).height ≡ macroblocks p.height = ap (λ (n : ℕ). macroblocks n) (one_size f p).height in omega arith in
    let built = all_built f cols rows p aligned refl refl in
    record {
      luma = λ r c. luma_law f cols rows (all_rebuilt f p).luma built.luma place.column place.row r c xs ys;
      u = λ r c. chroma_law f cols rows 1 (all_rebuilt f p).u built.u place.column place.row r c xs ys;
      v = λ r c. chroma_law f cols rows 2 (all_rebuilt f p).v built.v place.column place.row r c xs ys;
    }

-- a plane that solves it, by columns and rows of pixels
module _ (s cols rows : ℕ) (p : Raster) (made : ℕ → ℕ → ℕ → ℕ → ℕ) (some : 0 < s)
    (each : (x y r c : ℕ) → x < cols → y < rows → r < s → c < s → pixel p (s * x + c) (s * y + r) ≡ made x y r c) where
  by_pixels : (u v : ℕ) → u < s * cols → v < s * rows → pixel p u v ≡ made (u / s) (v / s) (v % s) (u % s)
  by_pixels u v uin vin =
      let column : s * (u / s) + u % s ≡ u = let e = div-add-mod' u s in let t = mul_comm s (u / s) in omega arith in
      let row : s * (v / s) + v % s ≡ v = let e = div-add-mod' v s in let t = mul_comm s (v / s) in omega arith in
      let is = each (u / s) (v / s) (v % s) (u % s) (div_below u s cols some (let t = mul_comm s cols in omega arith))
      (div_below v s rows some (let t = mul_comm s rows in omega arith)) (mod_below v s some) (mod_below u s some) in
      cc

abbrev image : ℕ → ℕ → Raster → Raster → Raster → Image
image w h l u v = record { width = w; height = h; luma = l; u = u; v = v }

-- two pictures of one size that both solve the equation of a frame are equal
pub one : (f : Place → Macroblock) (p q : Image) → IsAligned p → IsAligned q → AreOneSize p q → AreWhole p → AreWhole q → IsUnfiltered f p → IsUnfiltered f q → p ≡ q
one f p q pa qa size pw qw pe qe =
    let cols : ℕ = macroblocks p.width in
    let rows : ℕ = macroblocks p.height in
    let cw : macroblocks q.width ≡ macroblocks p.width = ap (λ (n : ℕ). macroblocks n) (sym size.width) in
    let ch : macroblocks q.height ≡ macroblocks p.height = ap (λ (n : ℕ). macroblocks n) (sym size.height) in
    let luma : p.luma ≡ q.luma =
    one_plane (16 * cols) (16 * rows) (luma_turn f cols) (luma_at f) (luma_by_turns f cols rows) p.luma q.luma pa.0.0 pa.0.1 (omega (arith, qa)) (omega (arith, qa))
    (by_pixels 16 cols rows p.luma (λ x y r c. luma_made (f (at x y)) (at x y) p.luma r c) (omega arith) (λ x y r c xin yin rin cin. (pe (at x y) xin yin).luma r c rin cin))
    (by_pixels 16 cols rows q.luma (λ x y r c. luma_made (f (at x y)) (at x y) q.luma r c) (omega arith) (λ x y r c xin yin rin cin. (qe (at x y) (omega arith) (omega arith)).luma r c rin cin)) pw.0 qw.0 in
    let chroma : (k : ℕ) (a b : Raster) → IsCovering 8 p.width p.height a → IsCovering 8 p.width p.height b
    → ((x y r c : ℕ) → x < cols → y < rows → r < 8 → c < 8 → pixel a (8 * x + c) (8 * y + r) ≡ chroma_made (f (at x y)) k (at x y) a r c)
    → ((x y r c : ℕ) → x < cols → y < rows → r < 8 → c < 8 → pixel b (8 * x + c) (8 * y + r) ≡ chroma_made (f (at x y)) k (at x y) b r c)
    → IsWhole a → IsWhole b → a ≡ b =
    λ k a b ac bc ae be.
    one_plane (8 * cols) (8 * rows) (chroma_turn cols) (chroma_at f k) (chroma_by_turns f cols rows k) a b ac.0 ac.1 bc.0 bc.1
    (by_pixels 8 cols rows a (λ x y r c. chroma_made (f (at x y)) k (at x y) a r c) (omega arith) ae)
    (by_pixels 8 cols rows b (λ x y r c. chroma_made (f (at x y)) k (at x y) b r c) (omega arith) be) in
    let u : p.u ≡ q.u = chroma 1 p.u q.u pa.1 (omega (arith, qa), omega (arith, qa)) (λ x y r c xin yin. (pe (at x y) xin yin).u r c) (λ x y r c xin yin. (qe (at x y) (omega arith) (omega arith)).u r c) pw.1 qw.1 in
    let v : p.v ≡ q.v = chroma 2 p.v q.v pa.2 (omega (arith, qa), omega (arith, qa)) (λ x y r c xin yin. (pe (at x y) xin yin).v r c) (λ x y r c xin yin. (qe (at x y) (omega arith) (omega arith)).v r c) pw.2 qw.2 in
    let e : image p.width p.height p.luma p.u p.v ≡ image q.width q.height q.luma q.u q.v = cc in
    e
