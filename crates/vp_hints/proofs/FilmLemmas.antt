-- Sums and products that stop at the greatest number of 64 bits.
use Rattle.std.proofs.Common.{◌≡◌, ℕ, ◌+◌, ◌-◌, ◌*◌, ◌^◌, min, arith}
use Rattle.vp_hints.specs.Film.{saturated}

-- luma and twice chroma, each of which stops there
pub saturated_planes : (luma chroma : ℕ)
    → min (min luma (2 ^ 64 - 1) + min (min chroma (2 ^ 64 - 1) * 2) (2 ^ 64 - 1)) (2 ^ 64 - 1)
    ≡ saturated (luma + 2 * chroma)
saturated_planes luma chroma = omega arith
