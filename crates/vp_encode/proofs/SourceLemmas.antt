-- A plane of the source, continued row after row.
use Rattle.std.proofs.Common.{◌≡◌, ◌∙◌, ℕ, zero, suc, ◌+◌, ◌-◌, ◌*◌, ◌<◌, ◌≤◌, List, length, take, get_or, replicate, min, sym, ap, subst, arith, inl, inr}
use Rattle.std.proofs.lemmas.List.{length-take, length-replicate, take-replicate, get_or-take, get_or-replicate}
use Rattle.std.proofs.lemmas.Nat.{row_fits}
use Rattle.std.proofs.lemmas.Bool.{cases_lt}
use Rattle.vp_base.specs.Raster.{Raster, pixel, row_of, with_run}
use Rattle.vp_base.specs.Block.{IsWhole}
use Rattle.vp_base.specs.Image.{Image, plane_of, with_plane}
use Rattle.vp_base.specs.Over.{over}
use Rattle.vp_base.proofs.ImageLemmas.{plane_of-with_plane, with_plane-with_plane}
use Rattle.vp_base.proofs.OverLemmas.{over-more}
use Rattle.vp_base.proofs.BlockLemmas.{length-overlay, length-numbers, get_or-numbers, length-row_of, get_or-row_of, pixel-with_run_inside, pixel-with_run_outside, otherRow, before, same_raster}
use Rattle.vp_encode.specs.Encoder.{continued_plane}
use Rattle.vp_encode.specs.Continued.{ExtendsPlane, row_continued}

with_run_whole : (p : Raster) (x y : ℕ) (run : List ℕ) → IsWhole p → x + length run ≤ p.width → y < p.height → IsWhole (with_run p x y run)
with_run_whole p x y run whole fits inside =
    let room : y * p.width + p.width ≤ p.height * p.width = row_fits y p.width p.height p.width inside (omega arith) in
    length-overlay p.pixels (y * p.width + x) run (omega arith) ∙ whole

-- the first n rows of q are p, continued
record AreContinued (width height : ℕ) (p : Raster) (n : ℕ) (q : Raster) : Type 0 where
  pub size : ExtendsPlane width height p q
  pub each : (x y : ℕ) → x < p.width → y < n → pixel q x y ≡ pixel p (min x (width - 1)) (min y (height - 1))

module _ (width height : ℕ) (p : Raster) (n : ℕ) (q : Raster) (whole : IsWhole p) (inside : n < p.height) (made : AreContinued width height p n q) where
  abbrev m : ℕ
  m = min n (height - 1)

  abbrev own : List ℕ
  own = take width (row_of p m)

  abbrev behind : List ℕ
  behind = replicate (p.width - width) (pixel p (width - 1) m)

  abbrev begun : Raster
  begun = with_run q 0 n own

  own_length : length own ≡ width
  own_length = length-take width (row_of p m) ∙ (let long : length (row_of p m) ≡ p.width = length-row_of p m whole (omega arith) in omega arith)

  behind_length : length behind ≡ p.width - width
  behind_length = length-replicate (p.width - width) (pixel p (width - 1) m)

  begun_whole : IsWhole begun
  begun_whole = with_run_whole q 0 n own made.size.whole (omega (arith, own_length)) (omega arith)

  next_whole : IsWhole (row_continued width height p n q)
  next_whole = with_run_whole begun width n behind begun_whole (omega (arith, behind_length)) (omega arith)

  -- the rows before stay
  earlier : (x y : ℕ) → x < p.width → y < n → pixel (row_continued width height p n q) x y ≡ pixel p (min x (width - 1)) (min y (height - 1))
  earlier x y xin yin =
      let a = own_length in
      let b = behind_length in
      pixel-with_run_outside begun width n behind x y begun_whole (omega arith) (omega arith) (omega arith) (omega arith) (otherRow (λ e. omega arith))
      ∙ pixel-with_run_outside q 0 n own x y made.size.whole (omega arith) (omega arith) (omega arith) (omega arith) (otherRow (λ e. omega arith))
      ∙ made.each x y xin yin

  shown : (x : ℕ) → x < width → pixel (row_continued width height p n q) x n ≡ pixel p (min x (width - 1)) (min n (height - 1))
  shown x xin =
      let a = own_length in
      let b = behind_length in
      pixel-with_run_outside begun width n behind x n begun_whole (omega arith) (omega arith) (omega arith) (omega arith) (before xin)
      ∙ pixel-with_run_inside q 0 n own x made.size.whole (omega arith) (omega arith) (omega arith) (omega arith)
      ∙ ap (λ (k : ℕ). get_or own k 0) (let e : x - 0 ≡ x = omega arith in e)
      ∙ get_or-take width (row_of p m) x 0 (omega arith)
      ∙ get_or-row_of p x m (omega arith)
      ∙ ap (λ (k : ℕ). pixel p k m) (let e : x ≡ min x (width - 1) = omega arith in e)

  hidden : (x : ℕ) → width ≤ x → x < p.width → pixel (row_continued width height p n q) x n ≡ pixel p (min x (width - 1)) (min n (height - 1))
  hidden x out xin =
      let b = behind_length in
      pixel-with_run_inside begun width n behind x begun_whole (omega arith) (omega arith) out (omega arith)
      ∙ get_or-replicate (p.width - width) (x - width) (pixel p (width - 1) m) 0 (omega arith)
      ∙ ap (λ (k : ℕ). pixel p k m) (let e : width - 1 ≡ min x (width - 1) = omega arith in e)

  row_more : AreContinued width height p (suc n) (row_continued width height p n q)
  row_more = record {
    size = record {
      some_columns = made.size.some_columns;
      columns = made.size.columns;
      few = made.size.few;
      some_rows = made.size.some_rows;
      rows = made.size.rows;
      width_is = made.size.width_is;
      height_is = made.size.height_is;
      whole = next_whole;
    };
    each = λ x y xin yin. elim (cases_lt y n) [
      | inl up ↦ earlier x y xin up
      | inr here ↦
          let same : n ≡ y = omega arith in
          subst (λ (k : ℕ). pixel (row_continued width height p n q) x k ≡ pixel p (min x (width - 1)) (min k (height - 1))) same
          (elim (cases_lt x width) [
            | inl left ↦ shown x left
            | inr right ↦ hidden x right xin
          ])
    ];
  }

rows_continued : (width height : ℕ) (p : Raster) (n : ℕ) (q : Raster) → IsWhole p → ExtendsPlane width height p q → n ≤ p.height
    → AreContinued width height p n (over n (row_continued width height p) q)
unfolding over
rows_continued width height p zero q whole size fits = record { size = size; each = λ x y xin never. absurd (omega arith) }
rows_continued width height p (suc n) q whole size fits =
    row_more width height p n (over n (row_continued width height p) q) whole (omega arith) (rows_continued width height p n q whole size (omega arith))

-- a row of a plane of this size leaves one of this size
pub row_size : (width height : ℕ) (p : Raster) (n : ℕ) (q : Raster) → IsWhole p → n ≤ p.height → ExtendsPlane width height p q → ExtendsPlane width height p (over n (row_continued width height p) q)
row_size width height p n q whole fits size = (rows_continued width height p n q whole size fits).size

pub plane_continued : (width height : ℕ) (p : Raster) (n : ℕ) (q : Raster) → IsWhole p → n ≡ p.height → ExtendsPlane width height p q
    → over n (row_continued width height p) q ≡ continued_plane width height p
plane_continued width height p n q whole all size =
    let made = rows_continued width height p n q whole size (omega arith) in
    let r : Raster = over n (row_continued width height p) q in
    let w = made.size.width_is in
    let h = made.size.height_is in
    same_raster r (continued_plane width height p) w h made.size.whole
    (length-numbers p.width p.height (λ x y. pixel p (min x (width - 1)) (min y (height - 1))))
    (λ x y xin yin.
    made.each x y (omega arith) (omega arith)
    ∙ sym (get_or-numbers p.width p.height (λ u v. pixel p (min u (width - 1)) (min v (height - 1))) x y (omega arith) (omega arith)))

-- ---- in a picture

pub row_written : (old one two : Image) (k width height y m : ℕ) (p : Raster) (first second : List ℕ)
    → one ≡ with_plane old k (with_run (plane_of old k) 0 y first) → two ≡ with_plane one k (with_run (plane_of one k) width y second)
    → m ≡ min y (height - 1) → first ≡ take width (row_of p m) → second ≡ replicate (p.width - width) (pixel p (width - 1) m)
    → two ≡ with_plane old k (row_continued width height p y (plane_of old k))
row_written old one two k width height y m p first second is_one is_two at is_first is_second =
    let a : Raster = with_run (plane_of old k) 0 y first in
    is_two
    ∙ ap (λ (z : Image). with_plane z k (with_run (plane_of z k) width y second)) is_one
    ∙ ap (λ (r : Raster). with_plane (with_plane old k a) k (with_run r width y second)) (plane_of-with_plane old k a)
    ∙ with_plane-with_plane old k a (with_run a width y second)
    ∙ (λ i. with_plane old k (with_run (with_run (plane_of old k) 0 y (is_first i)) width y (is_second i)))
    ∙ ap (λ (j : ℕ). with_plane old k (with_run (with_run (plane_of old k) 0 y (take width (row_of p j))) width y (replicate (p.width - width) (pixel p (width - 1) j)))) at

pub behind_is : (n m : ℕ) (v : ℕ) (p : Raster) (x y : ℕ) (row : List ℕ) → n ≡ m → n ≤ 16 → row ≡ row_of p y → v ≡ get_or row x 0 → x < p.width → take n (replicate 16 v) ≡ replicate m (pixel p x y)
behind_is n m v p x y row same few is value inside =
    take-replicate n 16 v few
    ∙ (λ i. replicate (same i) ((value ∙ ap (λ (r : List ℕ). get_or r x 0) is ∙ get_or-row_of p x y inside) i))

pub plane_at : (old at : Image) (k : ℕ) (q : Raster) → at ≡ with_plane old k q → plane_of at k ≡ q
plane_at old at k q is = ap (λ (z : Image). plane_of z k) is ∙ plane_of-with_plane old k q

pub plane_more : (old at new : Image) (k y : ℕ) (f : ℕ → Raster → Raster) → at ≡ with_plane old k (over y f (plane_of old k)) → new ≡ with_plane at k (f y (plane_of at k))
    → new ≡ with_plane old k (over (y + 1) f (plane_of old k))
plane_more old at new k y f is_at is_new =
    let q : Raster = over y f (plane_of old k) in
    is_new
    ∙ ap (λ (r : Raster). with_plane at k (f y r)) (plane_at old at k q is_at)
    ∙ ap (λ (z : Image). with_plane z k (f y q)) is_at
    ∙ with_plane-with_plane old k q (f y q)
    ∙ ap (with_plane old k) (sym (over-more y f (plane_of old k)))
