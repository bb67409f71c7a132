-- A block that is made subblock after subblock.
use Rattle.std.proofs.Common.{◌≡◌, ◌∙◌, ℕ, ◌+◌, ◌-◌, ◌*◌, ◌/◌, ◌%◌, ◌<◌, ◌≤◌, Bool, true, false, cond, nat_lt, refl, sym, ap, subst, arith}
use Rattle.vp_recon.proofs.Words.{Raster, pixel, is_in_block, with_block, IsWhole, pixel-with_block, IsWhole-with_block, same_raster, with_block_same, lt-ltb, le-ltb, nat_tests, row_fits, mul_comm}

-- ---- a pixel of a plane with a block written

-- the place at column u of row v lies in the block of n columns and h rows at column x of row y
pub record Lies (x y n h u v : ℕ) : Type 0 where
  pub left : x ≤ u
  pub right : u < x + n
  pub top : y ≤ v
  pub bottom : v < y + h

is_in : (x y n h u v : ℕ) → is_in_block x y n h u v ≡ true → Lies x y n h u v
is_in x y n h u v e = record { left = grind (arith, nat_tests); right = grind (arith, nat_tests); top = grind (arith, nat_tests); bottom = grind (arith, nat_tests) }

in_it : (x y n h u v : ℕ) → Lies x y n h u v → is_in_block x y n h u v ≡ true
in_it x y n h u v l = grind (arith, nat_tests)

-- it is the block's where the place lies in it, else what it was
pub in_or_out : (P : ℕ → Type 0) (p : Raster) (x y n h : ℕ) (f : ℕ → ℕ → ℕ) (u v : ℕ) → u < p.width → v < p.height
    → (Lies x y n h u v → P (f (v - y) (u - x))) → ((Lies x y n h u v → ⊥) → P (pixel p u v)) → P (pixel (with_block p x y n h f) u v)
in_or_out P p x y n h f u v uin vin inside outside =
    subst P (sym (pixel-with_block p x y n h f u v uin vin))
    (either (is_in_block x y n h u v) (λ e. inside (is_in x y n h u v e)) (λ e. outside (λ l. let never : true ≡ false = sym (in_it x y n h u v l) ∙ e in cc)))
  where
    either : (b : Bool) → (b ≡ true → P (f (v - y) (u - x))) → (b ≡ false → P (pixel p u v)) → P (cond b (f (v - y) (u - x)) (pixel p u v))
    either true inside outside = inside refl
    either false inside outside = outside refl

pub pixel_inside : (p : Raster) (x y n h : ℕ) (f : ℕ → ℕ → ℕ) (u v : ℕ) → u < p.width → v < p.height → Lies x y n h u v
    → pixel (with_block p x y n h f) u v ≡ f (v - y) (u - x)
pixel_inside p x y n h f u v uin vin l = in_or_out (λ a. a ≡ f (v - y) (u - x)) p x y n h f u v uin vin (λ _. refl) (λ apart. absurd (apart l))

pub pixel_outside : (p : Raster) (x y n h : ℕ) (f : ℕ → ℕ → ℕ) (u v : ℕ) → u < p.width → v < p.height → (Lies x y n h u v → ⊥)
    → pixel (with_block p x y n h f) u v ≡ pixel p u v
pixel_outside p x y n h f u v uin vin apart = in_or_out (λ a. a ≡ pixel p u v) p x y n h f u v uin vin (λ l. absurd (apart l)) (λ _. refl)

-- by its row and column in the block
pub block_pixel : (p : Raster) (x y n h : ℕ) (f : ℕ → ℕ → ℕ) (r c : ℕ) → x + n ≤ p.width → y + h ≤ p.height → r < h → c < n
    → pixel (with_block p x y n h f) (x + c) (y + r) ≡ f r c
block_pixel p x y n h f r c columns rows rin cin =
    let row : y + r - y ≡ r = omega arith in
    let column : x + c - x ≡ c = omega arith in
    pixel_inside p x y n h f (x + c) (y + r) (omega arith) (omega arith) (record { left = omega arith; right = omega arith; top = omega arith; bottom = omega arith }) ∙ cc

-- p with a block of what it has there is p
pub with_block_of : (p : Raster) (x y n h : ℕ) → IsWhole p → p ≡ with_block p x y n h (λ r c. pixel p (x + c) (y + r))
with_block_of p x y n h whole =
    same_raster p (with_block p x y n h (λ r c. pixel p (x + c) (y + r))) refl refl whole (IsWhole-with_block p x y n h (λ r c. pixel p (x + c) (y + r)))
    (λ u v uin vin. in_or_out (λ a. pixel p u v ≡ a) p x y n h (λ r c. pixel p (x + c) (y + r)) u v uin vin
    (λ l.
    let row : y + (v - y) ≡ v = omega arith in
    let column : x + (u - x) ≡ u = omega arith in
    cc)
    (λ _. refl))

-- a block is written over a part of another
with_block_inside : (p : Raster) (x y n o : ℕ) (f : ℕ → ℕ → ℕ) (a b m l : ℕ) (g h : ℕ → ℕ → ℕ) → a + m ≤ n → b + l ≤ o
    → ((r c : ℕ) → r < l → c < m → g r c ≡ h (b + r) (a + c))
    → ((r c : ℕ) → r < o → c < n → (Lies a b m l c r → ⊥) → f r c ≡ h r c)
    → with_block (with_block p x y n o f) (x + a) (y + b) m l g ≡ with_block p x y n o h
with_block_inside p x y n o f a b m l g h afits bfits inside outside =
    let q : Raster = with_block p x y n o f in
    same_raster (with_block q (x + a) (y + b) m l g) (with_block p x y n o h) refl refl (IsWhole-with_block q (x + a) (y + b) m l g) (IsWhole-with_block p x y n o h)
    (λ u v uin vin. in_or_out (λ s. s ≡ pixel (with_block p x y n o h) u v) q (x + a) (y + b) m l g u v uin vin
    (λ at.
    let row : b + (v - (y + b)) ≡ v - y = omega arith in
    let column : a + (u - (x + a)) ≡ u - x = omega arith in
    let same : g (v - (y + b)) (u - (x + a)) ≡ h (b + (v - (y + b))) (a + (u - (x + a))) = inside (v - (y + b)) (u - (x + a)) (omega arith) (omega arith) in
    let there : pixel (with_block p x y n o h) u v ≡ h (v - y) (u - x) =
    pixel_inside p x y n o h u v uin vin (record { left = omega arith; right = omega arith; top = omega arith; bottom = omega arith }) in
    cc)
    (λ apart. in_or_out (λ s. s ≡ pixel (with_block p x y n o h) u v) p x y n o f u v uin vin
    (λ at.
    outside (v - y) (u - x) (omega arith) (omega arith)
    (λ l. apart (record { left = omega arith; right = omega arith; top = omega arith; bottom = omega arith }))
    ∙ sym (pixel_inside p x y n o h u v uin vin at))
    (λ past. sym (pixel_outside p x y n o h u v uin vin past))))

-- a pixel of the block at a place
abbrev pub was : Raster → ℕ → ℕ → ℕ → ℕ → ℕ
was p x y r c = pixel p (x + c) (y + r)

-- ---- subblock after subblock

-- which subblock of a block row r and column c lie in
abbrev pub sub_at : ℕ → ℕ → ℕ → ℕ
sub_at across r c = across * (r / 4) + c / 4

-- it is one of them
pub sub_below : (across r c : ℕ) → r < 4 * across → c < 4 * across → sub_at across r c < across * across
sub_below across r c rin cin =
    let turn : across * (r / 4) ≡ r / 4 * across = mul_comm across (r / 4) in
    let room : r / 4 * across + across ≤ across * across = row_fits (r / 4) across across across (omega arith) (omega arith) in
    omega arith

-- the pixels f of the parts before k, and g of the others, where row r and column c lie in part `at r c`
abbrev pub until : (ℕ → ℕ → ℕ) → ℕ → (ℕ → ℕ → ℕ) → (ℕ → ℕ → ℕ) → ℕ → ℕ → ℕ
until at k f g r c = cond (nat_lt (at r c) k) (f r c) (g r c)

module _ (p : Raster) (x y n o : ℕ) (at : ℕ → ℕ → ℕ) (f g : ℕ → ℕ → ℕ) where
  pub until_none : with_block p x y n o g ≡ with_block p x y n o (until at 0 f g)
  until_none = with_block_same p x y n o g (until at 0 f g)
      (λ r c rin cin. ap (λ (t : Bool). cond t (f r c) (g r c)) (sym (le-ltb (at r c) 0 (omega arith))))

  later : (k r c : ℕ) → (at r c ≡ k → ⊥) → until at k f g r c ≡ until at (k + 1) f g r c
  later k r c apart = grind (arith, nat_tests)

  -- part k is written: m columns and rows from column a of row b on
  pub until_written : (k a b m l : ℕ) (h : ℕ → ℕ → ℕ) → a + m ≤ n → b + l ≤ o
      → ((r c : ℕ) → r < l → c < m → at (b + r) (a + c) ≡ k)
      → ((r c : ℕ) → r < o → c < n → at r c ≡ k → Lies a b m l c r)
      → ((r c : ℕ) → r < l → c < m → h r c ≡ f (b + r) (a + c))
      → with_block (with_block p x y n o (until at k f g)) (x + a) (y + b) m l h ≡ with_block p x y n o (until at (k + 1) f g)
  until_written k a b m l h afits bfits has lies is =
      with_block_inside p x y n o (until at k f g) a b m l h (until at (k + 1) f g) afits bfits
      (λ r c rin cin.
      let e : at (b + r) (a + c) ≡ k = has r c rin cin in
      is r c rin cin ∙ sym (ap (λ (t : Bool). cond t (f (b + r) (a + c)) (g (b + r) (a + c))) (lt-ltb (at (b + r) (a + c)) (k + 1) (omega arith))))
      (λ r c rin cin past. later k r c (λ same. past (lies r c rin cin same)))

  -- all of them
  pub until_all : (k : ℕ) → ((r c : ℕ) → r < o → c < n → at r c < k) → with_block p x y n o (until at k f g) ≡ with_block p x y n o f
  until_all k all = with_block_same p x y n o (until at k f g) f
      (λ r c rin cin.
      let below : at r c < k = all r c rin cin in
      ap (λ (t : Bool). cond t (f r c) (g r c)) (lt-ltb (at r c) k (omega arith)))

-- ---- by the four quarters of 8 by 8 or of 16 by 16 pixels
abbrev pub quarter_at : ℕ → ℕ → ℕ
quarter_at r c = 2 * (r / 8) + c / 8

module _ (p : Raster) (x y : ℕ) (f g : ℕ → ℕ → ℕ) where
  pub sub_written : (k : ℕ) (h : ℕ → ℕ → ℕ) → k < 4 → ((r c : ℕ) → r < 4 → c < 4 → h r c ≡ f (4 * (k / 2) + r) (4 * (k % 2) + c))
      → with_block (with_block p x y 8 8 (until (sub_at 2) k f g)) (x + 4 * (k % 2)) (y + 4 * (k / 2)) 4 4 h ≡ with_block p x y 8 8 (until (sub_at 2) (k + 1) f g)
  sub_written k h total is =
      until_written p x y 8 8 (sub_at 2) f g k (4 * (k % 2)) (4 * (k / 2)) 4 4 h (omega arith) (omega arith) (λ r c rin cin. omega arith)
      (λ r c rin cin same. record { left = omega arith; right = omega arith; top = omega arith; bottom = omega arith }) is

  pub subs_all : (k : ℕ) → k ≡ 4 → with_block p x y 8 8 (until (sub_at 2) k f g) ≡ with_block p x y 8 8 f
  subs_all k all = until_all p x y 8 8 (sub_at 2) f g k (λ r c rin cin. omega arith)

  pub quarter_written : (k : ℕ) (h : ℕ → ℕ → ℕ) → k < 4 → ((r c : ℕ) → r < 8 → c < 8 → h r c ≡ f (8 * (k / 2) + r) (8 * (k % 2) + c))
      → with_block (with_block p x y 16 16 (until quarter_at k f g)) (x + 8 * (k % 2)) (y + 8 * (k / 2)) 8 8 h ≡ with_block p x y 16 16 (until quarter_at (k + 1) f g)
  quarter_written k h total is =
      until_written p x y 16 16 quarter_at f g k (8 * (k % 2)) (8 * (k / 2)) 8 8 h (omega arith) (omega arith) (λ r c rin cin. omega arith)
      (λ r c rin cin same. record { left = omega arith; right = omega arith; top = omega arith; bottom = omega arith }) is

  pub quarters_all : (k : ℕ) → k ≡ 4 → with_block p x y 16 16 (until quarter_at k f g) ≡ with_block p x y 16 16 f
  quarters_all k all = until_all p x y 16 16 quarter_at f g k (λ r c rin cin. omega arith)
