-- One line step: it filters eight pixels across an edge (RFC 6386, chapters 15.2 and 15.3). There are the simple
-- filter, and the normal filter of macroblock edges and of subblock edges. Pinned by the tests `filter_one_line` and
-- `steps_are_held`.
use Rattle.std.specs.Prelude.{ℕ, ℤ, pos, negsuc, Bool, cond, ◌+◌, ◌*◌, ◌/◌, ◌+ℤ◌, ◌-ℤ◌, ◌*ℤ◌, ◌&&◌, ◌||◌, nat_le}
use Rattle.std.specs.Prelude.{nat_lt, unsigned_abs}
use Rattle.std.specs.Int.{abs_diff, int_min, int_max}
use lib.Signed.{shr_z as floor_div}
use Rattle.vp_loop.specs.declared.lines.Line.{Line}
use Rattle.vp_loop.specs.declared.lines.LineStep.{LineStep}
use Rattle.vp_loop.specs.declared.lines.EdgeKind.TheVariants.{Simple, Subblock, Macroblock}

-- z clamped to -128 to 127 (`c` of chapter 15.2)
abbrev pub clamp8 : ℤ → ℤ
clamp8 z = int_min (pos 127) (int_max (negsuc 127) z)

-- a pixel minus 128; and back: clamped, plus 128 (`u2s` and `s2u`)
abbrev pub signed : ℕ → ℤ
signed n = pos n -ℤ pos 128

abbrev pub pixel_from : ℤ → ℕ
pixel_from z = unsigned_abs (clamp8 z +ℤ pos 128)

-- the differences at the edge are within the edge limit
abbrev pub is_small_step : ℕ → Line → Bool
is_small_step limit l = nat_le (abs_diff l.p0 l.q0 * 2 + abs_diff l.p1 l.q1 / 2) limit

-- the differences of adjacent pixels on either side are within the interior limit
abbrev pub is_smooth : ℕ → Line → Bool
is_smooth interior l =
    nat_le (abs_diff l.p3 l.p2) interior && nat_le (abs_diff l.p2 l.p1) interior && nat_le (abs_diff l.p1 l.p0) interior
    && nat_le (abs_diff l.q1 l.q0) interior && nat_le (abs_diff l.q2 l.q1) interior
    && nat_le (abs_diff l.q3 l.q2) interior

-- high edge variance
abbrev pub is_high : ℕ → Line → Bool
is_high threshold l = nat_lt threshold (abs_diff l.p1 l.p0) || nat_lt threshold (abs_diff l.q1 l.q0)

-- the filter value, with or without the outer taps p1 and q1
abbrev pub filter_value : Bool → Line → ℤ
filter_value outer l = clamp8 (cond outer (clamp8 (signed l.p1 -ℤ signed l.q1)) (pos 0) +ℤ pos 3 *ℤ
    (signed l.q0 -ℤ signed l.p0))

-- (a + by) / 8, clamped before and rounded down
abbrev pub eighth : ℤ → ℤ → ℤ
eighth a by = floor_div (clamp8 (a +ℤ by)) 8

-- p0 and q0 adjusted by an eighth of the filter value (`common_adjust`)
abbrev pub common_adjusted : Bool → Line → Line
common_adjusted outer l = record l {
  p0 = pixel_from (signed l.p0 +ℤ eighth (filter_value outer l) (pos 3));
  q0 = pixel_from (signed l.q0 -ℤ eighth (filter_value outer l) (pos 4));
}

-- the adjustment of p1 and q1 at a subblock edge: half of the adjustment of q0, or 0 if there is high edge variance
abbrev pub outer_tap_adjustment : Bool → Line → ℤ
outer_tap_adjustment high l = cond high (pos 0) (floor_div (eighth (filter_value high l) (pos 4) +ℤ pos 1) 2)

-- a filtered line across a subblock edge (`subblock_filter`)
abbrev pub subblock_edge_filtered : Bool → Line → Line
subblock_edge_filtered high l = record (common_adjusted high l) {
  p1 = pixel_from (signed l.p1 +ℤ outer_tap_adjustment high l);
  q1 = pixel_from (signed l.q1 -ℤ outer_tap_adjustment high l);
}

-- k / 128 of the filter value, rounded to the nearest and clamped
abbrev pub weighted_filter_value : ℤ → Line → ℤ
weighted_filter_value k l = clamp8 (floor_div (filter_value Bool.true l *ℤ k +ℤ pos 63) 128)

-- a filtered line across a macroblock edge (`MBfilter`)
abbrev pub macroblock_edge_filtered : Bool → Line → Line
macroblock_edge_filtered high l = cond high (common_adjusted Bool.true l) (record l {
  p2 = pixel_from (signed l.p2 +ℤ weighted_filter_value (pos 9) l);
  p1 = pixel_from (signed l.p1 +ℤ weighted_filter_value (pos 18) l);
  p0 = pixel_from (signed l.p0 +ℤ weighted_filter_value (pos 27) l);
  q0 = pixel_from (signed l.q0 -ℤ weighted_filter_value (pos 27) l);
  q1 = pixel_from (signed l.q1 -ℤ weighted_filter_value (pos 18) l);
  q2 = pixel_from (signed l.q2 -ℤ weighted_filter_value (pos 9) l);
})

-- the line step; filter mask and high edge variance are those of this line
unfoldable pub stepped : LineStep → Line → Line
stepped step l =
    let small = is_small_step step.limit l in
    let smooth = small && is_smooth step.interior l in
    let high = is_high step.hev l in
    elim step.kind [
      | Simple ↦ cond small (common_adjusted Bool.true l) l
      | Subblock ↦ cond smooth (subblock_edge_filtered high l) l
      | Macroblock ↦ cond smooth (macroblock_edge_filtered high l) l
    ]
