-- The limits that the commands use. Pinned by the test `limits_of_files`.
use Rattle.std.specs.Prelude.{◌≡◌, ℕ}
use Rattle.vp_base.specs.declared.limits.Limits.{Limits}
use Rattle.vp_args.specs.declared.file_limits.FileLimits.{FileLimits}

-- the limits, with this number of cached pictures
pub record AreLimits (cache : ℕ) (limits : Limits) : Type 0 where
  pub pixels : limits.pixels ≡ 16777216
  pub packet_bytes : limits.packet_bytes ≡ 16777216
  pub packets : limits.packets ≡ 1048576
  pub cache_is : limits.cache ≡ cache

-- the limits, with these on files
pub record AreLimitsOf (most : FileLimits) (limits : Limits) : Type 0 where
  pub pixels : limits.pixels ≡ most.pixels
  pub packet_bytes : limits.packet_bytes ≡ 16777216
  pub packets : limits.packets ≡ most.packets
  pub cache_is : limits.cache ≡ 16
