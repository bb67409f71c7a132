-- Lemmas on blocks that are written to a picture, and on rows of them.
use Rattle.std.proofs.Common.{◌≡◌, ◌∙◌, ℕ, zero, suc, ◌+◌, ◌-◌, ◌*◌, ◌<◌, ◌≤◌, ◌⊎◌, inl, inr, Bool, true, cond, List, [], ◌∷◌, ◌++◌, length, take, drop, get_or, refl, ap, sym, subst, arith, not, eqb, length-append, length-drop}
use Rattle.std.proofs.lemmas.Simd.{put_chunk_is, length-put_chunk}
use Rattle.std.proofs.lemmas.List.{length-take, take_all, take-append-le, take-append-drop, get_or-take, get_or-drop}
use Rattle.std.proofs.lemmas.Nat.{row_fits}
use Rattle.std.proofs.lemmas.Bool.Decides.{nat_tests}
use lib.Lanes.{put_chunk}
use Rattle.vp_base.specs.Raster.{Raster, pixel_index, overlay, with_pixels}
use Rattle.vp_base.specs.Block.{IsWhole, is_in_block, with_block}
use Rattle.vp_base.proofs.BlockLemmas.{pixel-with_block, with_block_none, with_block_more, with_block_same}
use Rattle.vp_base.proofs.RasterLemmas.{raster}
use Rattle.vp_inter.specs.Written.{IsBlockWritten}

-- a bool that isn't 0
pub is_set : (n : ℕ) → (n ≡ 0 → ⊥) → not (eqb n 0) ≡ true
is_set n h = grind (arith, nat_tests)

-- ---- rows of a block

put_over : (xs : List ℕ) (i : ℕ) (vs : List ℕ) → i + length vs ≤ length xs → put_chunk i xs vs ≡ overlay xs i vs
unfolding overlay
put_over xs i vs fits =
    let long : length (take i xs ++ (vs ++ drop (length vs) (drop i xs))) ≡ length xs = simp (length-append, length-take, length-drop) (omega arith) in
    put_chunk_is i xs vs fits ∙ sym (take_all (length xs) (take i xs ++ (vs ++ drop (length vs) (drop i xs))) (omega arith))

place_is : (p : Raster) (x y r at stride : ℕ) → p.width ≡ stride → at ≡ pixel_index p x y → at + r * stride ≡ pixel_index p x (y + r)
place_is p x y r at stride wide start =
    let same : r * p.width ≡ r * stride = ap (λ (k : ℕ). r * k) wide in
    omega arith

pub none_written : (n : ℕ) (bytes : List ℕ) (at stride : ℕ) (f : ℕ → ℕ → ℕ) → IsBlockWritten n 0 bytes bytes at stride f
none_written n bytes at stride f = record {
  value = λ p x y lies. sym lies.same ∙ sym (ap (λ (q : Raster). q.pixels) (with_block_none p x y n f lies.whole));
  len = refl;
}

-- one row more
pub row_written : (n h : ℕ) (first now next row : List ℕ) (at stride : ℕ) (f : ℕ → ℕ → ℕ) → IsBlockWritten n h first now at stride f
    → at + h * stride + n ≤ length now → next ≡ put_chunk (at + h * stride) now row → length row ≡ n → ((c : ℕ) → c < n → get_or row c 0 ≡ f h c)
    → IsBlockWritten n (h + 1) first next at stride f
row_written n h first now next row at stride f done room put size value = record {
  value = λ p x y lies.
      let high = lies.rows in
      put
      ∙ put_over now (at + h * stride) row (omega arith)
      ∙ ap (λ (i : ℕ). overlay now i row) (place_is p x y h at stride lies.wide lies.start)
      ∙ ap (λ (ns : List ℕ). overlay ns (pixel_index p x (y + h)) row)
      (done.value p x y (record { whole = lies.whole; same = lies.same; wide = lies.wide; start = lies.start; columns = lies.columns; rows = omega arith }))
      ∙ ap (λ (q : Raster). q.pixels) (with_block_more p x y n h f row lies.columns (omega arith) size value);
  len = ap length put ∙ length-put_chunk (at + h * stride) now row ∙ done.len;
}

-- elements that are written in two pieces
put_split : (i : ℕ) (xs a b : List ℕ) → put_chunk i xs (a ++ b) ≡ put_chunk (i + length a) (put_chunk i xs a) b
put_split i [] a b = refl
put_split zero (x ∷ xs) [] b = ap (λ (k : ℕ). put_chunk k (x ∷ xs) b) (let e : 0 ≡ 0 + 0 = omega arith in e)
put_split zero (x ∷ xs) (y ∷ a) b =
    ap (λ (l : List ℕ). y ∷ l) (put_split zero xs a b ∙ ap (λ (k : ℕ). put_chunk k (put_chunk zero xs a) b) (let e : 0 + length a ≡ length a = omega arith in e))
    ∙ ap (λ (k : ℕ). put_chunk k (y ∷ put_chunk zero xs a) b) (let e : suc (length a) ≡ 0 + suc (length a) = omega arith in e)
put_split (suc i) (x ∷ xs) a b =
    ap (λ (l : List ℕ). x ∷ l) (put_split i xs a b)
    ∙ ap (λ (k : ℕ). put_chunk k (x ∷ put_chunk i xs a) b) (let e : suc (i + length a) ≡ suc i + length a = omega arith in e)

-- two rows more, which follow one another
pub rows_written : (h more : ℕ) (first now next rows : List ℕ) (at : ℕ) (f : ℕ → ℕ → ℕ) → more ≡ h + 1 + 1 → IsBlockWritten 4 h first now at 4 f
    → at + h * 4 + 8 ≤ length now → next ≡ put_chunk (at + h * 4) now rows → length rows ≡ 8
    → ((c : ℕ) → c < 4 → get_or rows c 0 ≡ f h c) → ((c : ℕ) → c < 4 → get_or rows (4 + c) 0 ≡ f (h + 1) c)
    → IsBlockWritten 4 more first next at 4 f
rows_written h more first now next rows at f two done room put size upper lower =
    let a : List ℕ = take 4 rows in
    let b : List ℕ = drop 4 rows in
    let one : List ℕ = put_chunk (at + h * 4) now a in
    let front : length a ≡ 4 = length-take 4 rows ∙ omega arith in
    let back : length b ≡ 4 = length-drop 4 rows ∙ omega arith in
    let kept : length one ≡ length now = length-put_chunk (at + h * 4) now a in
    subst (λ (k : ℕ). IsBlockWritten 4 k first next at 4 f) (sym two)
    (row_written 4 (h + 1) first one next b at 4 f
    (row_written 4 h first now one a at 4 f done (omega arith) refl front (λ c cin. get_or-take 4 rows c 0 cin ∙ upper c cin))
    (omega arith)
    (put ∙ ap (put_chunk (at + h * 4) now) (sym (take-append-drop 4 rows)) ∙ put_split (at + h * 4) now a b
    ∙ ap (λ (k : ℕ). put_chunk k one b) (omega arith))
    back (λ c cin. get_or-drop 4 rows c 0 ∙ lower c cin))

-- rows of the same pixels
pub written_alike : (n h : ℕ) (old new : List ℕ) (at stride : ℕ) (f g : ℕ → ℕ → ℕ) → IsBlockWritten n h old new at stride f
    → ((r c : ℕ) → r < h → c < n → f r c ≡ g r c) → IsBlockWritten n h old new at stride g
written_alike n h old new at stride f g done same = record {
  value = λ p x y lies. done.value p x y lies ∙ ap (λ (q : Raster). q.pixels) (with_block_same p x y n h f g same);
  len = done.len;
}

-- ---- rows one after the other

in_whole : (n h x y : ℕ) → x < n → y < h → is_in_block 0 0 n h x y ≡ true
in_whole n h x y xin yin = grind (arith, nat_tests)

-- four or eight columns are among eight
pub within : (n k : ℕ) → (n ≡ 4) ⊎ (n ≡ 8) → k < n → k < 8
within n k size h = elim size [ inl four ↦ omega arith | inr eight ↦ omega arith ]

-- all bytes are written
pub in_array : (n h : ℕ) (old new : List ℕ) (f : ℕ → ℕ → ℕ) → length old ≡ h * n → IsBlockWritten n h old new 0 n f
    → (r c : ℕ) → r < h → c < n → get_or new (r * n + c) 0 ≡ f r c
in_array n h old new f whole done r c rin cin =
    ap (λ (ns : List ℕ). get_or ns (r * n + c) 0)
    (done.value (raster n h old) 0 0 (record { whole = whole; same = refl; wide = refl; start = omega arith; columns = omega arith; rows = omega arith }))
    ∙ pixel-with_block (raster n h old) 0 0 n h f c r cin rin
    ∙ ap (λ (b : Bool). cond b (f (r - 0) (c - 0)) (get_or old (r * n + c) 0)) (in_whole n h c r cin rin)
    ∙ ap (λ (k : ℕ). f k (c - 0)) (let e : r - 0 ≡ r = omega arith in e)
    ∙ ap (f r) (let e : c - 0 ≡ c = omega arith in e)

-- ---- rows of a plane

over_all : (xs vs : List ℕ) → length vs ≡ length xs → overlay xs 0 vs ≡ vs
unfolding overlay
over_all xs vs same = ap (λ (n : ℕ). take n (vs ++ drop (length vs) xs)) (sym same) ∙ take-append-le (length vs) vs (drop (length vs) xs) (omega arith) ∙ take_all (length vs) vs (omega arith)

pub plane_room : (p : Raster) (x y n h stride size : ℕ) → stride ≡ p.width → size ≡ p.height * p.width → x + n ≤ p.width → y + h ≤ p.height
    → (r : ℕ) → r < h → (y * stride + x) + r * stride + n ≤ size
plane_room p x y n h stride size wide whole columns rows r below =
    let room : (y + r) * p.width + p.width ≤ p.height * p.width = row_fits (y + r) p.width p.height p.width (omega arith) (omega arith) in
    rw wide (omega arith)

-- a block is written in the bytes of a plane, which are lent and put back
pub block_put : (q : Raster) (x y n h stride : ℕ) (f : ℕ → ℕ → ℕ) (bytes new : List ℕ) → IsWhole q → stride ≡ q.width → bytes ≡ q.pixels → x + n ≤ q.width → y + h ≤ q.height
    → IsBlockWritten n h bytes new (y * stride + x) stride f → with_pixels q new ≡ with_block q x y n h f
block_put q x y n h stride f bytes new whole wide same columns rows done =
    let start : y * stride + x ≡ y * q.width + x = ap (λ (w : ℕ). y * w + x) wide in
    ap (raster q.width q.height) (over_all q.pixels new (done.len ∙ ap length same)
    ∙ done.value q x y (record { whole = whole; same = sym same; wide = sym wide; start = start; columns = columns; rows = rows }))
