-- Private to the crate: the contexts of blocks by flags, and the flags after a macroblock.
use Rattle.std.specs.Prelude.{ℕ, ◌+◌, ◌-◌, ◌/◌, ◌%◌, ◌==◌, Bool, false, nat_lt, List, [], replicate, slice_index_or}
use Rattle.std.specs.Prelude.{slice_set, if◌then◌else◌}
use Rattle.vp_base.specs.declared.place.Place.{Place}
use Rattle.vp_tokens.specs.Blocks.{Blocks}
use Rattle.vp_tokens.specs.Contexts.{flag_at, Contexts, bottom_row_flags, right_column_flags}
use Rattle.vp_tokens.specs.Pieces.{true_count, y2_or}

-- whether the block above block k has a token, and the one to its left: a flag outside the macroblock, else in had
unfoldable pub above_flag : List Bool → List Bool → ℕ → Bool
above_flag above had k =
    if k == 0 then flag_at above 8
    else if nat_lt k 5 then flag_at above (k - 1)
    else if nat_lt k 17 then flag_at had (k - 4)
    else if nat_lt k 19 then flag_at above (k - 13)
    else if nat_lt k 21 then flag_at had (k - 2)
    else if nat_lt k 23 then flag_at above (k - 15)
    else flag_at had (k - 2)

unfoldable pub left_flag : List Bool → List Bool → ℕ → Bool
left_flag left had k =
    if k == 0 then flag_at left 8
    else if nat_lt k 17 then (if (k - 1) % 4 == 0 then flag_at left ((k - 1) / 4) else flag_at had (k - 1))
    else if nat_lt k 21 then (if (k - 17) % 2 == 0 then flag_at left (4 + (k - 17) / 2) else flag_at had (k - 1))
    else (if (k - 21) % 2 == 0 then flag_at left (6 + (k - 21) / 2) else flag_at had (k - 1))

-- the context of the first token of block k
abbrev pub by_flags : List Bool → List Bool → List Bool → ℕ → ℕ
by_flags above left had k = true_count (above_flag above had k) (left_flag left had k)

-- the flags to the left of the macroblock at p
abbrev pub left_at : Contexts → Place → List Bool
left_at c p = if p.column == 0 then replicate 9 false else c.left

-- the flags after the macroblock at p
abbrev pub flags_after : Contexts → Place → Blocks → Contexts
flags_after c p m = record {
  above = slice_set c.above p.column (bottom_row_flags m.had (y2_or m
      (flag_at (slice_index_or c.above p.column []) 8)));
  left = right_column_flags m.had (y2_or m (flag_at (left_at c p) 8));
}
