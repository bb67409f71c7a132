-- Which macroblocks are intra predicted (RFC 6386, chapter 9.7).
use Rattle.std.specs.Prelude.{Bool, true, false}
use Rattle.vp_head.specs.declared.fields.Reference.{Reference}
use Rattle.vp_head.specs.declared.fields.Reference.TheVariants as reference_is

-- whether the macroblock is predicted from its own frame
abbrev pub is_intra : Reference → Bool
is_intra reference_is.Intra = true
is_intra reference = false
