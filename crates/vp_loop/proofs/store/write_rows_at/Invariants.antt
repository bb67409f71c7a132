use Rattle.std.proofs.Common.{◌≡◌, ℕ, ◌+◌, ◌*◌, ◌≤◌, length}
use Rattle.vp_base.specs.Raster.{Raster, pixel_index}
use Rattle.vp_base.specs.Block.{written, IsWhole}
use Rattle.vp_loop.specs.Lanes.{pixel_of}
use Rattle.vp_loop.proofs.store.write_rows_at.Given as goal

abbrev pub invariant-loop-r : goal.invariant-loop-r
invariant-loop-r g l = record {
  size : length l.pixels ≡ length l.initial.pixels;
  here : l.next ≡ l.at + l.r * l.stride;
  copied : (p : Raster) (x y : ℕ) → IsWhole p → p.pixels ≡ l.initial.pixels → p.width ≡ l.stride → l.at ≡ pixel_index p x y → x + g.R.Row.count ≤ p.width → y + length l.rows ≤ p.height
      → l.pixels ≡ written p x y g.R.Row.count l.r (pixel_of g.R.Row.pixels l.rows);
}
