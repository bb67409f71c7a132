use Rattle.std.proofs.Common.{◌∙◌, ℕ, ◌+◌, get_or, arith}
use Rattle.vp_lanes.proofs.Shape.{splatted, lane_is}
use Rattle.vp_scale.proofs.LaneLemmas.{no_block, column_more}
use Rattle.vp_scale.proofs.plane.PlaneView.column_sums.Goals as goal

pub loop-row-init : goal.loop-row-init
loop-row-init c = record {
  value = λ j h. lane_is {A = ℕ} 0 (splatted 8 0) j h ∙ no_block 1 c.args.self.now (c.args.x + j) c.args.y;
  bound = λ j h. omega (arith, lane_is {A = ℕ} 0 (splatted 8 0) j h);
}

pub plus-sums-requires : goal.plus-sums-requires
plus-sums-requires c j h = omega (arith, c.loop-row.invariant.bound j h, c.eight_pixels.ensures.bytes j h)

pub loop-row-preserved : goal.loop-row-preserved
loop-row-preserved c =
    record {
      value = λ j h.
          c.plus-sums.ensures j h
          ∙ column_more c.loop-row.row c.args.self.now (c.args.x + j) c.args.y (get_or c.eight_pixels.result j 0) (get_or c.loop-row.sums j 0)
          (omega arith) (omega arith) (c.loop-row.invariant.value j h) (c.eight_pixels.ensures.value j h);
      bound = λ j h. omega (arith, c.plus-sums.ensures j h, c.loop-row.invariant.bound j h, c.eight_pixels.ensures.bytes j h);
    }
