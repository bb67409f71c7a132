-- A film that is encoded: the sides of its pictures, its rate, and the bytes of its file.
use Rattle.std.specs.Prelude.{ℕ, ◌+◌, ◌-◌, ◌*◌, ◌^◌, min, List, length, drop, nat_lt, if◌then◌else◌}
use Rattle.byteorder.specs.Endian.{little_number}
use Rattle.std.specs.Int.{div_ceil}
use Rattle.vp_hints.specs.declared.film.Film.{Film}

-- a number as 64 bits hold it: at most 2^64 - 1
abbrev pub saturated : ℕ → ℕ
saturated n = min n (2 ^ 64 - 1)

-- the samples of Y, U and V of a picture with these sides; U and V have half the width and height, rounded up
abbrev pub plane_samples : ℕ → ℕ → ℕ
plane_samples width height = saturated (width * height + 2 * (div_ceil width 2 * div_ceil height 2))

-- the samples of a number of frames of a film
abbrev pub film_samples : Film → ℕ → ℕ
film_samples f frames = saturated (plane_samples f.width f.height * frames)

-- the frames in `film_scale` seconds
abbrev pub film_rate : Film → ℕ
film_rate f = f.rate

abbrev pub film_scale : Film → ℕ
film_scale f = f.scale

-- the film of a number of packets with `bytes` bytes in all: their file has 32 bytes before them, and 12 before each
abbrev pub film_of_packets : ℕ → ℕ → ℕ → ℕ → ℕ → ℕ → Film
film_of_packets width height rate scale packets bytes = record {
  width = width;
  height = height;
  rate = rate;
  scale = scale;
  bytes = saturated (bytes + (32 + 12 * packets));
}

-- a number of `count` bytes at a place in the head of an IVF file, little endian; 0 if they are not all there
abbrev pub head_number : List ℕ → ℕ → ℕ → ℕ
head_number head place count = if nat_lt (length head) (place + count) then 0 else little_number count (drop place head)

-- the film of an IVF file with this head and a number of bytes
abbrev pub film_of_head : List ℕ → ℕ → Film
film_of_head head bytes = record {
  width = head_number head 12 2;
  height = head_number head 14 2;
  rate = head_number head 16 4;
  scale = head_number head 20 4;
  bytes = bytes;
}
