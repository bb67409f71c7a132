use Rattle.std.proofs.Common.{◌≡◌, ℕ, ◌+◌, ◌*◌, ◌<◌, ◌≤◌, get_or, length}
use Rattle.vp_base.specs.Raster.{Raster, pixel_index}
use Rattle.vp_base.specs.Block.{written, IsWhole}
use Rattle.vp_base.proofs.plane.copy_rows.Given as goal

abbrev pub invariant-loop-r : goal.invariant-loop-r
invariant-loop-r g l = record {
  size : length l.to ≡ length l.initial.to;
  target : l.r < g.row.N → l.target ≡ l.at + l.r * l.width;
  source : l.r < g.row.N → l.source ≡ l.start + l.r * l.step;
  copied : (p : Raster) (x y : ℕ) → IsWhole p → p.pixels ≡ l.initial.to → p.width ≡ l.width → l.at ≡ pixel_index p x y → x + g.row.N ≤ p.width → y + g.row.N ≤ p.height
      → l.to ≡ written p x y g.row.N l.r (λ r c. get_or l.from (l.start + r * l.step + c) 0);
  bytes : (r c : ℕ) → r < l.r → c < g.row.N → get_or l.from (l.start + r * l.step + c) 0 ≤ 255;
}
