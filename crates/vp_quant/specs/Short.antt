-- When products of levels and a factor fit in 16 bits, so that narrow lanes compute the transforms exactly, and blocks
-- of such coefficients, alone and by turns in lanes (RFC 6386, chapters 13 and 14.1). Pinned by the tests
-- `short_coefficients` and `coefficients_of_two_blocks`.
use Rattle.std.specs.Prelude.{◌≡◌, ℕ, ◌+◌, ◌*◌, ◌/◌, ◌%◌, ◌<◌, ◌≤◌, ◌==◌, nat_lt, max, min, ℤ, pos, List, [], ◌∷◌, map}
use Rattle.std.specs.Prelude.{unsigned_abs, slice_index_or, slice_set, if◌then◌else◌}
use Rattle.std.specs.List.{range_with_len}
use Rattle.vp_lanes.specs.Lane.{lane}
use Rattle.vp_quant.specs.Quant.{position_at, dequantised}
use Rattle.vp_quant.specs.declared.short.ShortFactor.{ShortFactor}

-- f is the factor made ready, for products from -most to most
abbrev pub IsShortFactor : ShortFactor → ℕ → ℕ → Type 0
IsShortFactor f factor most =
    (f.bound ≡ most / max factor 1 + 1) × (f.factor ≡ pos (min factor most)) × (most ≤ 32767)

-- the level, and its product with the factor, is from -most to most
abbrev pub HasSmallProduct : ℤ → ℕ → ℕ → Type 0
HasSmallProduct level factor most = unsigned_abs level * max factor 1 ≤ most

-- the coefficients of a block, in raster order: `dc`, and the AC levels times the factor
abbrev pub coefficients_after : ℤ → List ℤ → ℕ → List ℤ
coefficients_after dc levels factor = slice_set (dequantised levels 0 factor) 0 dc

-- four rows
abbrev pub Four : Type 0
Four = List ℤ × List ℤ × List ℤ × List ℤ

-- the numbers of two blocks alternate in four rows of eight: block k (0 or 1) has every second lane from lane k on
abbrev pub HasBlock : Four → ℕ → List ℤ → Type 0
HasBlock rows k block =
    (r c : ℕ) → r < 4 → c < 4 → lane (slice_index_or (rows.0 ∷ rows.1 ∷ rows.2 ∷ rows.3 ∷ []) r []) (2 * c + k)
    ≡ slice_index_or block (4 * r + c) (pos 0)

-- ---- Private to the crate: sixteen numbers each

-- in raster order, numbers that are given by their zigzag positions
abbrev pub in_raster : (ℕ → ℤ) → List ℤ
in_raster number = map (λ place. number (position_at place)) (range_with_len 0 16)

-- the first n are those of `dcs`, the others those of `numbers`
abbrev pub after_dcs : ℕ → List ℤ → List ℤ → List ℤ
after_dcs n dcs numbers = map (λ j. if nat_lt j n then lane dcs j else lane numbers j) (range_with_len 0 16)

-- by turns, eight numbers of each block from number `start` on
abbrev pub by_turns : List ℤ → List ℤ → ℕ → List ℤ
by_turns left right start = map (λ j. lane (if j % 2 == 0 then left else right) (start + j / 2)) (range_with_len 0 16)
