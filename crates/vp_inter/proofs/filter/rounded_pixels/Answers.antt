use Rattle.std.proofs.Common.{◌∙◌, ℕ, pos, negsuc, arith, w16}
use Rattle.std.proofs.lemmas.Int.{ints}
use lib.Signed.{shr_z as floor_div}
use mir.Syntax.{signed, shr}
use mir.Val.{of_z}
use borrow.Rule.Simd.Lanes.{Asks2}
use borrow.Table.Row.{s_int}
use Rattle.vp_lanes.proofs.Shape.{signed_lanes, lanes_of, mapped, splatted, each_lanes}
use Rattle.vp_lanes.proofs.Signed.{signed_param, signed_splat, stands_pos, stands_of, signed_add, signed_shr, signed_clamp, to_bytes_fits, to_bytes_out}
use Rattle.vp_lanes.specs.Lane.{lane}
use Rattle.vp_inter.proofs.NarrowLemmas.{ended_byte, ended_is}
use Rattle.vp_inter.proofs.filter.rounded_pixels.Goals as goal

pub overflow_shr-result : goal.overflow_shr-result
overflow_shr-result g c =
    let n : ℕ = g.row.N in
    let v = signed_lanes w16 n c.args.sum _ c.well_formed.0 in
    each_lanes (Asks2 (shr signed) (s_int w16) (s_int w16)) (mapped (of_z w16) (lanes_of (pos 0) n c.args.sum v.0)) (splatted n 7) (λ j h. omega arith)

-- a signed byte and 128 more, lane by lane
pub overflow_cast-result : goal.overflow_cast-result
overflow_cast-result g c =
    let n : ℕ = g.row.N in
    let s = signed_shr (signed_param n c.args.sum _ c.well_formed.0) 7 in
    let held = signed_clamp s 65408 127 (negsuc 127) (pos 127) (stands_of (negsuc 127) (record { sfits = omega arith })) (stands_pos 127 (omega arith)) in
    let t = signed_add held (signed_splat n 128 (pos 128) (stands_pos 128 (omega arith)))
    (λ i k. let b = ended_byte (floor_div (lane c.args.sum i) 128) in (omega (arith, ints), omega (arith, ints))) in
    to_bytes_fits t (λ i k. ended_byte (floor_div (lane c.args.sum i) 128))

pub returns : goal.returns
returns g c j h =
    let n : ℕ = g.row.N in
    let s = signed_shr (signed_param n c.args.sum _ c.well_formed.0) 7 in
    let held = signed_clamp s 65408 127 (negsuc 127) (pos 127) (stands_of (negsuc 127) (record { sfits = omega arith })) (stands_pos 127 (omega arith)) in
    let t = signed_add held (signed_splat n 128 (pos 128) (stands_pos 128 (omega arith)))
    (λ i k. let b = ended_byte (floor_div (lane c.args.sum i) 128) in (omega (arith, ints), omega (arith, ints))) in
    to_bytes_out t j h ∙ ended_is (floor_div (lane c.args.sum j) 128)
