-- The level of a kind of macroblock in all segments.
use Rattle.std.proofs.Common.{◌≡◌, ℕ, false, arith}
use Rattle.vp_head.specs.declared.fields.Header.{Header}
use Rattle.vp_loop.specs.declared.strength.MacroblockKind.{MacroblockKind}
use Rattle.vp_loop.specs.Levels.{filter_level}

-- without segmentation all segments have the same ones
pub one_segment : (header : Header) (s t : ℕ) (kind : MacroblockKind) → header.segmentation.enabled ≡ false
    → filter_level header s kind ≡ filter_level header t kind
unfolding filter_level
one_segment header s t kind off = grind arith
