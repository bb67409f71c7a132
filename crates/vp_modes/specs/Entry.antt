-- The modes of one macroblock: segment, skip flag, reference frame, luma, subblock and chroma modes (RFC 6386, chapter
-- 19.3).
use Rattle.std.specs.Prelude.{ℕ, Bool, false, List, replicate}
use Rattle.vp_head.specs.declared.fields.Reference.{Reference}
use Rattle.vp_head.specs.declared.fields.Reference.TheVariants as reference_is
use Rattle.vp_tables.specs.declared.modes.ChromaMode.{ChromaMode}
use Rattle.vp_tables.specs.declared.modes.ChromaMode.TheVariants as chroma_is
use Rattle.vp_tables.specs.declared.modes.LumaMode.{LumaMode}
use Rattle.vp_tables.specs.declared.modes.LumaMode.TheVariants as luma_is
use Rattle.vp_tables.specs.declared.modes.SubMode.{SubMode}
use Rattle.vp_tables.specs.declared.modes.SubMode.TheVariants as sub_is

-- the header of a macroblock, without motion vectors
pub record Modes : Type 0 where
  pub segment : ℕ
  pub skip : Bool
  pub reference : Reference
  pub luma : LumaMode
  pub subs : List SubMode
  pub chroma : ChromaMode

-- the header of a macroblock whose modes aren't read: they are DC
abbrev pub unread : ℕ → Bool → Reference → Modes
unread segment skip reference = record {
  segment = segment;
  skip = skip;
  reference = reference;
  luma = luma_is.Dc;
  subs = replicate 16 sub_is.Dc;
  chroma = chroma_is.Dc;
}

-- the default modes: intra, not skipped, segment 0, DC
unfoldable pub plain : Modes
plain = unread 0 false reference_is.Intra

-- the default modes, with this segment
abbrev pub plain_of : ℕ → Modes
plain_of segment = record plain { segment = segment }
