-- The filter level of a macroblock, its limits and thresholds (RFC 6386, chapters 9.3, 9.4 and 15.2 to 15.4). Pinned by
-- the tests `filter_one_line`, `thresholds_by_frame`, `interior_limits`, `deltas_by_kind`, `no_level_no_filter` and
-- `levels_are_held`.
use Rattle.std.specs.Prelude.{ℕ, ℤ, pos, Bool, List, ◌+◌, ◌-◌, ◌*◌, ◌/◌, ◌+ℤ◌, ◌==◌, ◌||◌, nat_le, nat_lt, min, max}
use Rattle.std.specs.Prelude.{unsigned_abs, slice_index_or, if◌then◌else◌}
use Rattle.std.specs.Int.{int_min, int_max}
use Rattle.vp_head.specs.declared.fields.Header.{Header}
use Rattle.vp_head.specs.declared.fields.LevelDeltas.{LevelDeltas}
use Rattle.vp_head.specs.declared.fields.Reference.{Reference}
use Rattle.vp_head.specs.declared.fields.Reference.TheVariants.{Intra, Last, Golden, Alt}
use Rattle.vp_loop.specs.declared.strength.Level.{Level}
use Rattle.vp_loop.specs.declared.strength.MacroblockKind.{MacroblockKind}
use Rattle.vp_loop.specs.declared.strength.ModeClass.{ModeClass}
use Rattle.vp_loop.specs.declared.strength.ModeClass.TheVariants.{Whole, Subblocks, Zero, Moved, Split}

-- z clamped to 0 to 63
abbrev pub clamped_level : ℤ → ℕ
clamped_level z = unsigned_abs (int_min (pos 63) (int_max (pos 0) z))

abbrev pub signed_at : List ℤ → ℕ → ℤ
signed_at xs i = slice_index_or xs i (pos 0)

-- the level of the frame or, with segmentation, of the segment: absolute, or added to the frame's (chapter 9.3)
abbrev pub segment_level : Header → ℕ → ℕ
segment_level header segment =
    let values = header.segmentation.values in
    let value = signed_at values.levels segment in
    if header.segmentation.enabled then clamped_level (if values.absolute then value else pos header.filter.level +ℤ value)
    else header.filter.level

-- the delta of the reference frame (chapter 9.4)
abbrev pub reference_delta : LevelDeltas → Reference → ℤ
reference_delta deltas Intra = signed_at deltas.reference 0
reference_delta deltas Last = signed_at deltas.reference 1
reference_delta deltas Golden = signed_at deltas.reference 2
reference_delta deltas Alt = signed_at deltas.reference 3

-- the delta of the mode (chapter 9.4)
abbrev pub mode_delta : LevelDeltas → ModeClass → ℤ
mode_delta deltas Whole = pos 0
mode_delta deltas Subblocks = signed_at deltas.mode 0
mode_delta deltas Zero = signed_at deltas.mode 1
mode_delta deltas Moved = signed_at deltas.mode 2
mode_delta deltas Split = signed_at deltas.mode 3

-- the segment level plus the deltas of reference frame and mode, clamped
abbrev pub summed_level : Header → ℕ → MacroblockKind → ℕ
summed_level header segment kind = clamped_level (pos (segment_level header segment)
    +ℤ (if header.deltas_enabled then reference_delta header.deltas kind.reference +ℤ mode_delta header.deltas
    kind.prediction else pos 0))

-- the level of the macroblock; 0 if the frame's level is 0, whatever segments and deltas are
abbrev pub macroblock_level : Header → ℕ → MacroblockKind → ℕ
macroblock_level header segment kind = if header.filter.level == 0 then 0 else summed_level header segment kind

-- the interior limit of a level (chapter 15.4)
abbrev pub interior_limit : ℕ → ℕ → ℕ
interior_limit sharpness level =
    max 1 (if sharpness == 0 then level else min (9 - sharpness) (level / (if nat_lt 4 sharpness then 4 else 2)))

-- the threshold of high edge variance (chapter 15.4)
abbrev pub variance_threshold : Bool → ℕ → ℕ
variance_threshold key level =
    if key
    then (if nat_le 40 level then 2 else (if nat_le 15 level then 1 else 0))
    else (if nat_le 40 level then 3 else (if nat_le 20 level then 2 else (if nat_le 15 level then 1 else 0)))

-- whether the edges between subblocks are filtered: some block has a token, or the mode is B_PRED or SPLITMV
abbrev pub has_inner_edges : MacroblockKind → Bool
has_inner_edges kind =
    kind.coded || elim kind.prediction [ Subblocks ↦ Bool.true | Split ↦ Bool.true | class ↦ Bool.false ]

-- the limits of a macroblock that isn't filtered
abbrev pub no_level : Level
no_level = record { edge = 0; inner = 0; interior = 0; hev = 0 }

-- the limits of a macroblock's edges; the simple filter has no interior limit and no threshold
unfoldable pub filter_level : Header → ℕ → MacroblockKind → Level
filter_level header segment kind =
    let level = macroblock_level header segment kind in
    let interior = interior_limit header.filter.sharpness level in
    if level == 0 then no_level
    else record {
      edge = (level + 2) * 2 + interior;
      inner = if has_inner_edges kind then level * 2 + interior else 0;
      interior = if header.filter.simple then 0 else interior;
      hev = if header.filter.simple then 0 else variance_threshold header.key level;
    }
