-- The inputs of reconstruction: a macroblock's predictor (its own picture or a reference frame), its tokens, and its
-- factors (RFC 6386, chapters 5 and 13.1).
use Rattle.std.specs.Prelude.{ℕ, Bool, false, not}
use Rattle.vp_base.specs.Image.{Image}
use Rattle.vp_tables.specs.Modes.{is_by_subblocks, is_split}
use Rattle.vp_modes.specs.Entry.{Modes}
use Rattle.vp_motion.specs.Vector.{MacroblockMotion}
use Rattle.vp_tokens.specs.declared.contexts.Tokens.{Tokens}
use Rattle.vp_quant.specs.declared.factors.Factors.{Factors}
use Rattle.vp_recon.specs.declared.predictor.Predictor.{Predictor as Lent}
use Rattle.vp_recon.specs.declared.predictor.Predictor.TheVariants as lent

-- intra: the macroblock's own picture; inter: its motion, a reference frame, and the version that selects the
-- interpolation filter
pub data Predictor : Type 0 where
  Intra : Modes → Predictor
  Inter : MacroblockMotion → Image → ℕ → Predictor

-- a macroblock: its predictor, its tokens, and its dequantisation factors
pub record Macroblock : Type 0 where
  pub predictor : Predictor
  pub tokens : Tokens
  pub factors : Factors

-- the macroblock with these parts
abbrev pub macroblock_of : Predictor → Tokens → Factors → Macroblock
macroblock_of predictor tokens factors = record { predictor = predictor; tokens = tokens; factors = factors }

-- the value of a borrowed predictor in the code
abbrev pub predictor_of : Lent → Predictor
predictor_of (lent.Intra modes) = Intra modes.now
predictor_of (lent.Inter motion reference version) = Inter motion.now reference.now version

-- whether the luma subblocks have intra modes of their own (B_PRED)
abbrev pub predicts_by_subblocks : Predictor → Bool
predicts_by_subblocks (Intra modes) = is_by_subblocks modes.luma
predicts_by_subblocks (Inter motion reference version) = false

-- whether there is a Y2 block: not with B_PRED or split vectors (chapter 13)
abbrev pub has_y2 : Predictor → Bool
has_y2 (Intra modes) = not (is_by_subblocks modes.luma)
has_y2 (Inter motion reference version) = not (is_split motion.mode)
