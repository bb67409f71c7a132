-- Planes whose pixels are made in turns, each from those of earlier turns.
use Rattle.std.proofs.Common.{◌≡◌, ◌∙◌, ℕ, zero, suc, ◌+◌, ◌-◌, ◌*◌, ◌<◌, ◌≤◌, sym, subst, arith, inl, inr}
use Rattle.vp_recon.proofs.Words.{Raster, pixel, with_block, IsWhole, same_raster, cases_lt}
use Rattle.vp_base.specs.Over.{over}
use Rattle.vp_recon.proofs.Parts.{Lies, pixel_inside, pixel_outside}

-- what each step takes one further
pub over-grows : {A : Type 0} (P : ℕ → A → Type 0) (n : ℕ) (f : ℕ → A → A) (a : A) → ((k : ℕ) → k < n → (b : A) → P k b → P (suc k) (f k b)) → P 0 a → P n (over n f a)
unfolding over
over-grows P zero f a grows start = start
over-grows P (suc n) f a grows start =
    grows n (omega arith) (over n f a) (over-grows P n f a (λ k below. grows k (let i : k < suc n = omega arith in i)) start)

-- row after row
pub grid-grows : {A : Type 0} (P : ℕ → A → Type 0) (cols rows : ℕ) (f : ℕ → ℕ → A → A) (a : A)
    → ((x y : ℕ) → x < cols → y < rows → (b : A) → P (y * cols + x) b → P (y * cols + x + 1) (f x y b)) → P 0 a
    → P (rows * cols) (over rows (λ y. over cols (λ x. f x y)) a)
grid-grows P cols rows f a grows start =
    over-grows (λ y. P (y * cols)) rows (λ y. over cols (λ x. f x y)) a
    (λ y yin b row. subst (λ (n : ℕ). P n (over cols (λ x. f x y) b)) (let e : y * cols + cols ≡ suc y * cols = omega arith in e)
    (over-grows (λ x. P (y * cols + x)) cols (λ x. f x y) b
    (λ x xin c so_far. subst (λ (n : ℕ). P n (f x y c)) (let e : y * cols + x + 1 ≡ y * cols + suc x = omega arith in e) (grows x y xin yin c so_far))
    (subst (λ (n : ℕ). P n b) (let e : y * cols ≡ y * cols + 0 = omega arith in e) row)))
    (subst (λ (n : ℕ). P n a) (let e : 0 ≡ 0 * cols = omega arith in e) start)

-- a plane of this size has the pixels that are made from it, at all turns before n
pub record MadeTo (w h : ℕ) (turn : ℕ → ℕ → ℕ) (made : Raster → ℕ → ℕ → ℕ) (n : ℕ) (p : Raster) : Type 0 where
  pub wide : p.width ≡ w
  pub high : p.height ≡ h
  pub value : (u v : ℕ) → u < w → v < h → turn u v < n → pixel p u v ≡ made p u v

-- each pixel is made from those of earlier turns
abbrev pub ByTurns : ℕ → ℕ → (ℕ → ℕ → ℕ) → (Raster → ℕ → ℕ → ℕ) → Type 0
ByTurns w h turn made =
    (p q : Raster) (u v : ℕ) → p.width ≡ w → p.height ≡ h → q.width ≡ w → u < w → v < h
    → ((i j : ℕ) → i < w → j < h → turn i j < turn u v → pixel p i j ≡ pixel q i j) → made p u v ≡ made q u v

module _ (w h : ℕ) (turn : ℕ → ℕ → ℕ) (made : Raster → ℕ → ℕ → ℕ) (by_turns : ByTurns w h turn made) where
  -- a block of turn n is written, where no other place has a turn from n to before `next`
  pub block_made : (n next x y s : ℕ) (f : ℕ → ℕ → ℕ) (p : Raster) → MadeTo w h turn made n p
      → ((u v : ℕ) → Lies x y s s u v → turn u v ≡ n)
      → ((u v : ℕ) → u < w → v < h → n ≤ turn u v → turn u v < next → Lies x y s s u v)
      → ((u v : ℕ) → Lies x y s s u v → f (v - y) (u - x) ≡ made p u v)
      → MadeTo w h turn made next (with_block p x y s s f)
  block_made n next x y s f p so_far here all is = record {
    wide = so_far.wide;
    high = so_far.high;
    value = λ u v uin vin below.
        let first : (i j : ℕ) → i < w → j < h → turn i j < n → pixel (with_block p x y s s f) i j ≡ pixel p i j =
        λ i j iin jin early. pixel_outside p x y s s f i j (omega (arith, so_far.wide)) (omega (arith, so_far.high)) (λ l. let e = here i j l in absurd (omega arith)) in
        elim (cases_lt (turn u v) n) [
          | inl early ↦
              first u v uin vin early
              ∙ so_far.value u v uin vin early
              ∙ by_turns p (with_block p x y s s f) u v so_far.wide so_far.high so_far.wide uin vin (λ i j iin jin earlier. sym (first i j iin jin (omega arith)))
          | inr late ↦
              let l : Lies x y s s u v = all u v uin vin late below in
              let now : turn u v ≡ n = here u v l in
              pixel_inside p x y s s f u v (omega (arith, so_far.wide)) (omega (arith, so_far.high)) l
              ∙ is u v l
              ∙ by_turns p (with_block p x y s s f) u v so_far.wide so_far.high so_far.wide uin vin (λ i j iin jin earlier. sym (first i j iin jin (omega arith)))
        ];
  }

  -- only one plane has the pixels that are made from it
  module _ (p q : Raster) (pw : p.width ≡ w) (ph : p.height ≡ h) (qw : q.width ≡ w) (qh : q.height ≡ h)
      (pe : (u v : ℕ) → u < w → v < h → pixel p u v ≡ made p u v) (qe : (u v : ℕ) → u < w → v < h → pixel q u v ≡ made q u v) where
    to_turn : (n u v : ℕ) → u < w → v < h → turn u v < n → pixel p u v ≡ pixel q u v
    to_turn zero u v uin vin below = absurd (omega arith)
    to_turn (suc n) u v uin vin below =
        pe u v uin vin ∙ by_turns p q u v pw ph qw uin vin (λ i j iin jin earlier. to_turn n i j iin jin (omega arith)) ∙ sym (qe u v uin vin)

    pub one_plane : IsWhole p → IsWhole q → p ≡ q
    one_plane p_whole q_whole =
        same_raster p q (pw ∙ sym qw) (ph ∙ sym qh) p_whole q_whole (λ u v uin vin. to_turn (suc (turn u v)) u v (omega arith) (omega arith) (omega arith))
