-- What the lanes compute on one line is the line step.
use Rattle.std.proofs.Common.{◌≡◌, ℕ, ◌<◌, Bool, true, false, cond, ◌&&◌, ◌||◌, nat_le, nat_lt, max, refl, ap, ap₂, sym, ◌∙◌, arith, ℤ, pos, ◌+ℤ◌, ◌-ℤ◌, ◌*ℤ◌, unsigned_abs}
use Rattle.std.proofs.lemmas.Int.{ints, clamps}
use Rattle.std.specs.Int.{int_min, int_max}
use lib.Signed.{shr_z as floor_div}
use Rattle.vp_lanes.specs.Lane.{clamp_to_byte}
use Rattle.vp_loop.specs.declared.lines.Line.{Line}
use Rattle.vp_loop.specs.LineSteps.{clamp8, signed, pixel_from, filter_value, eighth, common_adjusted, subblock_edge_filtered, macroblock_edge_filtered}
use Rattle.vp_loop.specs.Lanes.{AreBytes}

-- ---- tests
pub le_max : (a b i : ℕ) → nat_le (max a b) i ≡ (nat_le a i && nat_le b i)
le_max a b i = grind arith

pub lt_max : (i a b : ℕ) → nat_lt i (max a b) ≡ (nat_lt i a || nat_lt i b)
lt_max i a b = grind arith

pub smooth_is : (i a b c d e f : ℕ) → nat_le (max (max (max a b) c) (max (max d e) f)) i
    ≡ (nat_le a i && nat_le b i && nat_le c i && nat_le d i && nat_le e i && nat_le f i)
smooth_is i a b c d e f = grind (arith, le_max)

pub all_smooth : (s : Bool) (a : ℕ) → a < 256 → (s && nat_le a 255) ≡ s
all_smooth s a p = grind arith

-- ---- pixels: 128 less and 128 more cancel out
apart_is : (a b : ℕ) → pos a -ℤ pos b ≡ signed a -ℤ signed b
apart_is a b = omega (arith, ints)

up_is : (x : ℕ) (t : ℤ) → clamp_to_byte (pos x +ℤ t) ≡ pixel_from (signed x +ℤ t)
up_is x t = let e : int_min (pos 255) (int_max (pos 0) (pos x +ℤ t)) ≡ clamp8 (signed x +ℤ t) +ℤ pos 128 = omega (arith, ints, clamps) in ap unsigned_abs e

down_is : (x : ℕ) (t : ℤ) → clamp_to_byte (pos x -ℤ t) ≡ pixel_from (signed x -ℤ t)
down_is x t = let e : int_min (pos 255) (int_max (pos 0) (pos x -ℤ t)) ≡ clamp8 (signed x -ℤ t) +ℤ pos 128 = omega (arith, ints, clamps) in ap unsigned_abs e

up_none : (x : ℕ) (t : ℤ) → x < 256 → t ≡ pos 0 → x ≡ clamp_to_byte (pos x +ℤ t)
up_none x t h e = let f : pos x ≡ int_min (pos 255) (int_max (pos 0) (pos x +ℤ t)) = omega (arith, ints, clamps) in ap unsigned_abs f

down_none : (x : ℕ) (t : ℤ) → x < 256 → t ≡ pos 0 → x ≡ clamp_to_byte (pos x -ℤ t)
down_none x t h e = let f : pos x ≡ int_min (pos 255) (int_max (pos 0) (pos x -ℤ t)) = omega (arith, ints, clamps) in ap unsigned_abs f

either_none : (b : Bool) (s t : ℤ) → s ≡ pos 0 → t ≡ pos 0 → cond b s t ≡ pos 0
either_none b s t e f = grind arith

-- ---- the filter value z, and adjustments by it

pub filter_value_is : (outer : Bool) (l : Line) (taps : ℤ) → taps ≡ cond outer (clamp8 (pos l.p1 -ℤ pos l.q1)) (pos 0) → clamp8 (taps +ℤ pos 3 *ℤ (pos l.q0 -ℤ pos l.p0)) ≡ filter_value outer l
filter_value_is outer l taps e = ap₂ (λ x y. clamp8 (x +ℤ pos 3 *ℤ y)) (e ∙ ap (λ x. cond outer (clamp8 x) (pos 0)) (apart_is l.p1 l.q1)) (apart_is l.q0 l.p0)

abbrev pub share : ℤ → ℤ → ℤ
share z k = clamp8 (floor_div (z *ℤ k +ℤ pos 63) 128)

abbrev pub halved : Bool → ℤ → ℤ
halved high z = cond high (pos 0) (floor_div (eighth z (pos 4) +ℤ pos 1) 2)

-- z changes no pixel
abbrev pub HasNoEighth : ℤ → Type 0
HasNoEighth z = (eighth z (pos 3) ≡ pos 0) × (eighth z (pos 4) ≡ pos 0)

abbrev pub HasNoShare : ℤ → Type 0
HasNoShare z = (share z (pos 9) ≡ pos 0) × (share z (pos 18) ≡ pos 0) × (share z (pos 27) ≡ pos 0)

-- ---- the simple filter
abbrev pub lane_simple : ℤ → Line → Line
lane_simple z l = record l { p0 = clamp_to_byte (pos l.p0 +ℤ eighth z (pos 3)); q0 = clamp_to_byte (pos l.q0 -ℤ eighth z (pos 4)) }

pub simple_none : (z : ℤ) (l : Line) → AreBytes l → HasNoEighth z → l ≡ lane_simple z l
simple_none z l bytes none = grind (arith, up_none, down_none)

pub simple_is : (m : Bool) (z : ℤ) (l : Line) → AreBytes l → z ≡ cond m (filter_value true l) (pos 0) → lane_simple z l ≡ cond m (common_adjusted true l) l
simple_is true z l bytes e = ap (λ z. lane_simple z l) e ∙ simp up_is refl
simple_is false z l bytes e = ap (λ z. lane_simple z l) e ∙ sym (simple_none (pos 0) l bytes (refl, refl))

-- ---- the normal filter of subblock edges
abbrev pub lane_subblock : Bool → ℤ → Line → Line
lane_subblock high z l = record l {
  p1 = clamp_to_byte (pos l.p1 +ℤ halved high z);
  p0 = clamp_to_byte (pos l.p0 +ℤ eighth z (pos 3));
  q0 = clamp_to_byte (pos l.q0 -ℤ eighth z (pos 4));
  q1 = clamp_to_byte (pos l.q1 -ℤ halved high z);
}

pub subblock_none : (high : Bool) (z : ℤ) (l : Line) → AreBytes l → HasNoEighth z → l ≡ lane_subblock high z l
subblock_none high z l bytes none =
    let half : halved high z ≡ pos 0 = either_none high (pos 0) (floor_div (eighth z (pos 4) +ℤ pos 1) 2) refl (ap (λ z. floor_div (z +ℤ pos 1) 2) none.1) in
    grind (arith, up_none, down_none)

pub subblock_is : (m high : Bool) (z : ℤ) (l : Line) → AreBytes l → z ≡ cond m (filter_value high l) (pos 0) → lane_subblock high z l ≡ cond m (subblock_edge_filtered high l) l
subblock_is true high z l bytes e = ap (λ z. lane_subblock high z l) e ∙ simp up_is refl
subblock_is false high z l bytes e = ap (λ z. lane_subblock high z l) e ∙ sym (subblock_none high (pos 0) l bytes (refl, refl))

-- ---- the normal filter of macroblock edges
abbrev pub lane_macroblock : Bool → ℤ → Line → Line
lane_macroblock high z l = record l {
  p2 = clamp_to_byte (pos l.p2 +ℤ cond high (pos 0) (share z (pos 9)));
  p1 = clamp_to_byte (pos l.p1 +ℤ cond high (pos 0) (share z (pos 18)));
  p0 = clamp_to_byte (pos l.p0 +ℤ cond high (eighth z (pos 3)) (share z (pos 27)));
  q0 = clamp_to_byte (pos l.q0 -ℤ cond high (eighth z (pos 4)) (share z (pos 27)));
  q1 = clamp_to_byte (pos l.q1 -ℤ cond high (pos 0) (share z (pos 18)));
  q2 = clamp_to_byte (pos l.q2 -ℤ cond high (pos 0) (share z (pos 9)));
}

pub macroblock_none : (high : Bool) (z : ℤ) (l : Line) → AreBytes l → HasNoEighth z → HasNoShare z → l ≡ lane_macroblock high z l
macroblock_none high z l bytes none small = grind (arith, either_none, up_none, down_none)

filtered_high : (high : Bool) (l : Line) → AreBytes l → lane_macroblock high (filter_value true l) l ≡ macroblock_edge_filtered high l
filtered_high true l bytes =
    let p2 = sym (up_none l.p2 (pos 0) bytes.p2 refl) in
    let p1 = sym (up_none l.p1 (pos 0) bytes.p1 refl) in
    let p0 = up_is l.p0 (eighth (filter_value true l) (pos 3)) in
    let q0 = down_is l.q0 (eighth (filter_value true l) (pos 4)) in
    let q1 = sym (down_none l.q1 (pos 0) bytes.q1 refl) in
    let q2 = sym (down_none l.q2 (pos 0) bytes.q2 refl) in
    λ i. record l { p2 = p2 i; p1 = p1 i; p0 = p0 i; q0 = q0 i; q1 = q1 i; q2 = q2 i }
filtered_high false l bytes = simp up_is refl

pub macroblock_is : (m high : Bool) (z : ℤ) (l : Line) → AreBytes l → z ≡ cond m (filter_value true l) (pos 0) → lane_macroblock high z l ≡ cond m (macroblock_edge_filtered high l) l
macroblock_is true high z l bytes e = ap (λ z. lane_macroblock high z l) e ∙ filtered_high high l bytes
macroblock_is false high z l bytes e = ap (λ z. lane_macroblock high z l) e ∙ sym (macroblock_none high (pos 0) l bytes (refl, refl) (refl, refl, refl))
