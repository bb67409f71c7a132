-- The inputs of the choice for a frame's macroblocks: source, factors, search range and reference frames.
use Rattle.std.specs.Prelude.{ℕ, Bool, false, Option, Some, None, if◌then◌else◌}
use Rattle.std.specs.Option.{option_map}
use Rattle.vp_base.specs.Image.{Image}
use Rattle.vp_head.specs.Reference.{is_intra}
use Rattle.vp_head.specs.declared.fields.SignBiases.{SignBiases}
use Rattle.vp_motion.specs.Vector.{MacroblockMotion}
use Rattle.vp_quant.specs.declared.factors.Factors.{Factors}
use Rattle.vp_refs.specs.References.{References, reference_picture}
use Rattle.vp_recon.specs.Predictor.{Predictor, Intra, Inter}
use Rattle.vp_choose.specs.declared.frame.Search.{Search as LentSearch}
use Rattle.vp_choose.specs.declared.frame.FrameSearch.{FrameSearch as LentFrame}
use Rattle.vp_choose.specs.declared.frame.Choice.{Choice}

-- where vectors are searched: the reference frames, whether golden is searched too, the range in whole pixels, and
-- whether vectors are refined to quarter pixels
pub record Search : Type 0 where
  pub references : References
  pub golden : Bool
  pub range : ℕ
  pub subpel : Bool

-- the source, the factors, and the search; a key frame has none
pub record FrameSearch : Type 0 where
  pub source : Image
  pub factors : Factors
  pub search : Option Search

-- the values of a borrowed search in the code
abbrev pub search_of : LentSearch → Search
search_of s = record { references = s.references.now; golden = s.golden; range = s.range; subpel = s.subpel }

-- the value of the borrowed inputs in the code
abbrev pub lent_frame : LentFrame → FrameSearch
lent_frame f = record { source = f.source.now; factors = f.factors.now; search = option_map search_of f.search }

-- no sign bias is set
abbrev pub no_biases : SignBiases
no_biases = record { golden = false; alt = false }

-- a macroblock's motion with its reference frame
abbrev pub choice_motion : Choice → MacroblockMotion
choice_motion c = record { reference = c.modes.reference; mode = c.motion.mode; vectors = c.motion.vectors }

-- the predictor of a macroblock by its choice
abbrev pub source_by : Option Search → Choice → Predictor
source_by None c = Intra c.modes
source_by (Some s) c =
    if is_intra c.modes.reference then Intra c.modes
    else Inter (choice_motion c) (reference_picture s.references c.modes.reference) 0
