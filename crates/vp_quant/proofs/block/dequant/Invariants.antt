use Rattle.std.proofs.Common.{◌≡◌, ℕ, ◌^◌, ◌≤◌, ℤ, pos, List, slice_index_or, unsigned_abs}
use Rattle.vp_quant.specs.Quant.{dequantised_prefix}
use Rattle.vp_quant.proofs.block.dequant.Given as goal

pub record IsPlaced (levels : List ℤ) (dc ac position : ℕ) (block : List ℤ) : Type 0 where
  pub placed : block ≡ dequantised_prefix levels dc ac position
  pub within : (i : ℕ) → unsigned_abs (slice_index_or block i (pos 0)) ≤ 2 ^ 31

abbrev pub invariant-loop-position : goal.invariant-loop-position
invariant-loop-position l = IsPlaced l.levels l.dc l.ac l.position l.block
