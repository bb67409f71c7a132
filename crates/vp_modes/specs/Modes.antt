-- The mode syntax elements of a macroblock, in order (RFC 6386, chapters 10, 11, 16.1, 16.2 and 19.3). Pinned by the
-- tests `all_ones_header` and `modes_of_a_picture`; inter frames by streams of other encoders in the gate.
use Rattle.std.specs.Prelude.{ℕ, Bool, false, not, List, replicate, slice_set, Option, if◌then◌else◌}
use Rattle.std.specs.Option.{option_map_or}
use Rattle.vp_base.specs.declared.place.Place.{Place}
use Rattle.vp_base.specs.Grid.{Grid, at}
use Rattle.vp_bool.specs.Bools.{read}
use Rattle.vp_bool.specs.Reader.{Reader, ◌>>=◌, give, when, rows}
use Rattle.vp_tree.specs.Tree.{walk_from}
use Rattle.vp_tables.specs.declared.mode_probabilities.TheConstants.{KEY_CHROMA_PROBABILITIES, KEY_LUMA_PROBABILITIES}
use Rattle.vp_tables.specs.declared.mode_probabilities.TheConstants.{SUB_PROBABILITIES}
use Rattle.vp_tables.specs.declared.modes.ChromaMode.{ChromaMode}
use Rattle.vp_tables.specs.declared.modes.ChromaMode.TheVariants as chroma_is
use Rattle.vp_tables.specs.declared.modes.LumaMode.{LumaMode}
use Rattle.vp_tables.specs.declared.modes.LumaMode.TheVariants as luma_is
use Rattle.vp_tables.specs.declared.modes.SubMode.{SubMode}
use Rattle.vp_tables.specs.declared.modes.SubMode.TheVariants as sub_is
use Rattle.vp_tables.specs.declared.trees.TheConstants.{CHROMA_TREE, KEY_LUMA_TREE, LUMA_TREE, SEGMENT_TREE, SUB_TREE}
use Rattle.vp_tables.specs.Modes.{is_by_subblocks}
use Rattle.vp_tables.specs.Tables.{key_sub_probabilities}
use Rattle.vp_head.specs.declared.fields.Header.{Header}
use Rattle.vp_head.specs.declared.fields.Reference.{Reference}
use Rattle.vp_head.specs.declared.fields.Reference.TheVariants as reference_is
use Rattle.vp_head.specs.declared.fields.ReferenceProbabilities.{ReferenceProbabilities}
use Rattle.vp_head.specs.Reference.{is_intra}
use Rattle.vp_modes.specs.Entry.{Modes, plain, unread}
use Rattle.vp_modes.specs.Map.{context_above, context_left}

-- The segment is read, by the segment tree (chapter 10), if the map is updated. Otherwise it is 0 in a key frame, and
-- unchanged in an inter frame.
unfoldable pub segment_of : Header → ℕ → Reader ℕ
segment_of h kept = when h.segmentation.update_map (walk_from 0 SEGMENT_TREE h.segmentation.tree_probabilities 0)
    (if h.key then 0 else kept)

-- whether the macroblock has no tokens (`mb_skip_coeff`, chapter 11.1)
abbrev pub skip_by : Option ℕ → Reader Bool
skip_by p = option_map_or read p (give false)

-- the reference frame of an inter macroblock: last (`mb_ref_frame_sel1`), golden or altref (`mb_ref_frame_sel2`,
-- chapter 16.2)
unfoldable pub inter_reference : ReferenceProbabilities → Reader Reference
inter_reference p = do
  far ← read p.last
  when far (read p.golden >>= λ alt. give (if alt then reference_is.Alt else reference_is.Golden)) reference_is.Last

-- the reference frame (`is_inter_mb`); in a key frame it is intra
unfoldable pub reference_of : Header → Reader Reference
reference_of h = do
  inter ← when (not h.key) (read h.references.intra) false
  when inter (inter_reference h.references) reference_is.Intra

-- the luma mode of an intra macroblock (chapters 11.2, 16.1)
unfoldable pub luma_mode : Header → Reader LumaMode
luma_mode h = if h.key then walk_from luma_is.Dc KEY_LUMA_TREE KEY_LUMA_PROBABILITIES 0 else walk_from luma_is.Dc
    LUMA_TREE h.probabilities.luma 0

-- the chroma mode of an intra macroblock (chapters 11.4, 16.1)
unfoldable pub chroma_mode : Header → Reader ChromaMode
chroma_mode h = walk_from chroma_is.Dc CHROMA_TREE
    (if h.key then KEY_CHROMA_PROBABILITIES else h.probabilities.chroma) 0

-- The probabilities of a subblock mode (chapters 11.3, 16.1). In a key frame they depend on the modes above and to the
-- left. In an inter frame they are fixed.
unfoldable pub sub_probabilities : Header → Grid Modes → Place → List SubMode → ℕ → List ℕ
sub_probabilities h g p found k =
    if h.key then key_sub_probabilities (context_above g p found k) (context_left g p found k) else SUB_PROBABILITIES

-- the mode of subblock k, added to those of the subblocks before it
unfoldable pub sub_row : Header → Grid Modes → Place → ℕ → List SubMode → Reader (List SubMode)
sub_row h g p k found = do
  mode ← walk_from sub_is.Dc SUB_TREE (sub_probabilities h g p found k) 0
  give (slice_set found k mode)

-- the sixteen subblock modes of the macroblock at p
unfoldable pub sub_modes : Header → Grid Modes → Place → Reader (List SubMode)
sub_modes h g p = rows 16 (sub_row h g p) (replicate 16 sub_is.Dc)

-- the modes of an intra macroblock; its subblocks have modes if its luma mode is B_PRED
unfoldable pub intra_modes : Header → Grid Modes → Place → Modes → Reader Modes
intra_modes h g p m = do
  luma ← luma_mode h
  subs ← when (is_by_subblocks luma) (sub_modes h g p) (replicate 16 sub_is.Dc)
  chroma ← chroma_mode h
  give (record m { luma = luma; subs = subs; chroma = chroma })

-- the header of the macroblock at p; g contains the modes of this frame's earlier macroblocks, and at p those of the
-- previous frame, of which the segment alone is used; an inter macroblock's mode is read with its motion vectors
unfoldable pub modes_at : Header → Grid Modes → Place → Reader Modes
modes_at h g p = do
  segment ← segment_of h (at plain g p).segment
  skip ← skip_by h.skip
  reference ← reference_of h
  let m = unread segment skip reference in when (is_intra reference) (intra_modes h g p m) m
