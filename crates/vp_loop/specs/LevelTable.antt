-- The table of a frame's levels, and where it has that of a kind of macroblock.
use Rattle.std.specs.Prelude.{◌≡◌, ◌<◌, ℕ, Bool, [], slice_index_or, if◌then◌else◌}
use Rattle.vp_head.specs.declared.fields.Header.{Header}
use Rattle.vp_head.specs.declared.fields.Reference.{Reference}
use Rattle.vp_head.specs.declared.fields.Reference.TheVariants.{Intra, Last, Golden, Alt}
use Rattle.vp_loop.specs.declared.strength.ModeClass.{ModeClass}
use Rattle.vp_loop.specs.declared.strength.ModeClass.TheVariants.{Whole, Subblocks, Zero, Moved, Split}
use Rattle.vp_loop.specs.declared.strength.Level.{Level}
use Rattle.vp_loop.specs.declared.level_table.KindLevels.{KindLevels}
use Rattle.vp_loop.specs.declared.level_table.ClassLevels.{ClassLevels}
use Rattle.vp_loop.specs.declared.level_table.SegmentLevels.{SegmentLevels}
use Rattle.vp_loop.specs.declared.level_table.LevelTable.{LevelTable}
use Rattle.vp_loop.specs.Levels.{no_level, filter_level}

-- the place of a reference frame in the table
abbrev pub reference_index : Reference → ℕ
reference_index Intra = 0
reference_index Last = 1
reference_index Golden = 2
reference_index Alt = 3

-- the place of a mode class among those of one reference frame
abbrev pub class_index : ModeClass → ℕ
class_index Whole = 0
class_index Subblocks = 1
class_index Zero = 2
class_index Moved = 3
class_index Split = 4

abbrev pub level_if : Bool → KindLevels → Level
level_if coded levels = if coded then levels.coded else levels.uncoded

abbrev pub no_levels : KindLevels
no_levels = record { coded = no_level; uncoded = no_level }

-- the parameters of macroblocks of one reference frame in a segment, by mode class
abbrev pub AreLevels : Header → ℕ → Reference → ClassLevels → Type 0
AreLevels header segment reference levels =
    (class : ModeClass) (coded : Bool) → level_if coded (slice_index_or levels.classes (class_index class) no_levels)
    ≡ filter_level header segment (record { reference = reference; prediction = class; coded = coded })

-- the parameters of macroblocks of a segment, by reference frame
abbrev pub AreSegmentLevels : Header → ℕ → SegmentLevels → Type 0
AreSegmentLevels header segment levels =
    (reference : Reference) → AreLevels header segment reference
    (slice_index_or levels.references (reference_index reference) (record { classes = [] }))

-- the table has the parameters of macroblocks, by segment
abbrev pub AreFrameLevels : Header → LevelTable → Type 0
AreFrameLevels header table =
    (segment : ℕ) → segment < 4 → AreSegmentLevels header segment
    (slice_index_or table.segments segment (record { references = [] }))
