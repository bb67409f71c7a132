-- The statements of the laws of reconstruction: its equation, the rows that it reads, and the pixels that it leaves
-- unchanged.
use Rattle.std.specs.Prelude.{◌≡◌, ℕ, ◌+◌, ◌-◌, ◌*◌, ◌<◌, ◌≤◌, true, slice_index_or}
use Rattle.vp_base.specs.declared.place.Place.{Place}
use Rattle.vp_base.specs.Raster.{Raster}
use Rattle.vp_base.specs.Image.{Image, IsAligned, AreWhole, macroblocks}
use Rattle.vp_base.specs.Rows.{AreSameFrom, AreOneSize}
use Rattle.vp_base.specs.Near.{block_place}
use Rattle.vp_base.specs.Over.{over}
use Rattle.vp_tables.specs.declared.modes.SubMode.TheVariants.{Dc}
use Rattle.vp_tables.specs.Modes.{is_by_subblocks}
use Rattle.vp_modes.specs.Entry.{Modes}
use Rattle.vp_tokens.specs.declared.contexts.Tokens.{Tokens}
use Rattle.vp_tokens.specs.Blocks.{block_of}
use Rattle.vp_quant.specs.declared.factors.Factors.{Factors}
use Rattle.vp_recon.specs.Predictor.{Macroblock, Intra, macroblock_of}
use Rattle.vp_recon.specs.Residue.{residue}
use Rattle.vp_recon.specs.Rebuilt.{luma_rebuilt, rebuilt, with_sub}
use Rattle.vp_recon.specs.Equation.{IsUnfiltered}

-- two pictures of one size that solve the equation of a frame are equal
abbrev pub HasOneSolution : (Place → Macroblock) → Type 0
HasOneSolution f =
    (p q : Image) → IsAligned p → IsAligned q → AreOneSize p q → AreWhole p → AreWhole q → IsUnfiltered f p
    → IsUnfiltered f q → p ≡ q

-- from any row on, the result of rebuilding a macroblock depends only on the rows from there on, if these include the
-- last row above the macroblock
abbrev pub ReadsOneRowAbove : Macroblock → Place → Type 0
ReadsOneRowAbove m place =
    (p q : Image) (a b : ℕ) → IsAligned p → IsAligned q → AreOneSize p q
    → place.column < macroblocks p.width → place.row < macroblocks p.height → a ≤ 16 * place.row - 1
    → b ≤ 8 * place.row - 1
    → AreSameFrom a b p q → AreSameFrom a b (rebuilt m place p) (rebuilt m place q)

-- an inter macroblock doesn't need the row above it
abbrev pub ReadsNoRowAbove : Macroblock → Place → Type 0
ReadsNoRowAbove m place =
    (p q : Image) (a b : ℕ) → IsAligned p → IsAligned q → AreOneSize p q
    → AreSameFrom a b p q → AreSameFrom a b (rebuilt m place p) (rebuilt m place q)

-- the luma of a B_PRED macroblock is rebuilt subblock by subblock
abbrev pub IsBySubblocks : Modes → Tokens → Factors → Place → Raster → Type 0
IsBySubblocks modes tokens factors place p =
    is_by_subblocks modes.luma ≡ true
    → luma_rebuilt (macroblock_of (Intra modes) tokens factors) place p
    ≡ over 16 (λ k q. with_sub q (block_place 4 place k) (slice_index_or modes.subs k Dc)
    (residue (block_of tokens (1 + k)).levels factors.y_dc factors.y_ac)) p
