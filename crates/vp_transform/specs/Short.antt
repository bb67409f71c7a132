-- Numbers clamped to 16 bits. Pinned by the test `cut_blocks`.
use Rattle.std.specs.Prelude.{min, ℤ, pos, negsuc}

-- z clamped to -32768 to 32767
unfoldable pub cut : ℤ → ℤ
cut (pos n) = pos (min n 32767)
cut (negsuc n) = negsuc (min n 32767)
