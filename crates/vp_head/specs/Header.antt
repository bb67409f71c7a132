-- The frame header's syntax elements, in order (RFC 6386, chapters 9.2 to 9.11 and 19.2). Pinned by the tests
-- `key_rows_of_a_stream`, `inter_rows_of_a_stream`, `all_ones_header` and `all_ones_inter_header`.
use Rattle.std.specs.Prelude.{ℕ, zero, suc, pos, Bool, true, false, not, List, [], ◌∷◌, Option, Some, None, is_some}
use Rattle.std.specs.Prelude.{if◌then◌else◌}
use Rattle.vp_bool.specs.Bools.{literal}
use Rattle.vp_bool.specs.Reader.{Reader, ◌>>=◌, give, when}
use Rattle.vp_head.specs.Rows.{flag, flagged, list_of, optional_signed, renewed, four_signed}
use Rattle.vp_head.specs.Probabilities.{token_probability_updates, luma_mode_probabilities, chroma, vectors}
use Rattle.vp_head.specs.Saved.{defaults, kept_after}
use Rattle.vp_head.specs.declared.fields.Tag.{Tag}
use Rattle.vp_head.specs.declared.fields.SegmentValues.{SegmentValues}
use Rattle.vp_head.specs.declared.fields.Segmentation.{Segmentation}
use Rattle.vp_head.specs.declared.fields.Filter.{Filter}
use Rattle.vp_head.specs.declared.fields.LevelDeltas.{LevelDeltas}
use Rattle.vp_head.specs.declared.fields.QuantiserIndices.{QuantiserIndices}
use Rattle.vp_head.specs.declared.fields.ReferenceCopy.{ReferenceCopy}
use Rattle.vp_head.specs.declared.fields.ReferenceCopy.TheVariants.{Nothing, Last, Other, Unused}
use Rattle.vp_head.specs.declared.fields.SignBiases.{SignBiases}
use Rattle.vp_head.specs.declared.fields.ReferenceProbabilities.{ReferenceProbabilities}
use Rattle.vp_head.specs.declared.fields.Header.{Header}
use Rattle.vp_head.specs.declared.fields.Saved.{Saved}
use Rattle.vp_head.specs.declared.rows.Refreshes.{Refreshes}

-- ---- segmentation (chapter 9.3); without an update the saved values stay in force; in an update, a value whose flag
-- isn't set is 0

-- `segment_feature_mode` (1 is absolute), four times `quantizer_update_value`, four times `lf_update_value`
unfoldable pub segment_values : Reader SegmentValues
segment_values = do
  absolute ← flag
  quantisers ← list_of 4 (λ i. optional_signed 7 (pos 0))
  levels ← list_of 4 (λ i. optional_signed 6 (pos 0))
  give (record { absolute = absolute; quantisers = quantisers; levels = levels })

-- three times `segment_prob`
unfoldable pub tree_probabilities : Reader (List ℕ)
tree_probabilities = list_of 3 (λ i. renewed 128 255)

-- `segmentation_enabled`, `update_mb_segmentation_map`, `update_segment_feature_data`
unfoldable pub segmentation : SegmentValues → Reader Segmentation
segmentation kept = do
  enabled ← flag
  update_map ← when enabled flag false
  update_data ← when enabled flag false
  values ← when update_data segment_values kept
  probabilities ← when update_map tree_probabilities (255 ∷ 255 ∷ 255 ∷ [])
  give (record { enabled = enabled; update_map = update_map; values = values; tree_probabilities = probabilities })

-- ---- loop filter (chapter 9.4)

-- `filter_type` (1 is simple), `loop_filter_level`, `sharpness_level`
unfoldable pub filter : Reader Filter
filter = do
  simple ← flag
  level ← literal 6
  sharpness ← literal 3
  give (record { simple = simple; level = level; sharpness = sharpness })

-- the updates of the filter level deltas, by reference frame (`ref_frame_delta_update_flag`) and by mode
-- (`mb_mode_delta_update_flag`)
abbrev pub all_deltas : LevelDeltas → Reader LevelDeltas
all_deltas kept = do
  reference ← four_signed 6 kept.reference
  mode ← four_signed 6 kept.mode
  give (record { reference = reference; mode = mode })

-- whether the filter level deltas apply (`loop_filter_adj_enable`), and their values (`mode_ref_lf_delta_update`)
unfoldable pub level_deltas : LevelDeltas → Reader (Bool × LevelDeltas)
level_deltas kept = do
  enabled ← flag
  update ← when enabled flag false
  values ← when update (all_deltas kept) kept
  give (enabled, values)

-- ---- quantiser indices (chapter 9.6)

-- `y_ac_qi`, and the differences from it (`y_dc_delta`, `y2_dc_delta`, `y2_ac_delta`, `uv_dc_delta`, `uv_ac_delta`)
unfoldable pub quantiser_indices : Reader QuantiserIndices
quantiser_indices = do
  y_ac ← literal 7
  y_dc ← optional_signed 4 (pos 0)
  y2_dc ← optional_signed 4 (pos 0)
  y2_ac ← optional_signed 4 (pos 0)
  uv_dc ← optional_signed 4 (pos 0)
  uv_ac ← optional_signed 4 (pos 0)
  give (record { y_ac = y_ac; y_dc = y_dc; y2_dc = y2_dc; y2_ac = y2_ac; uv_dc = uv_dc; uv_ac = uv_ac })

-- ---- reference updates (chapters 9.7, 9.8, 19.2); a key frame refreshes all references and sets no sign bias

-- the reference that a code of two bits copies: 1 is last, and 2 is the other one of golden and altref
abbrev pub copy_of : ℕ → ReferenceCopy
copy_of number = elim number [ zero ↦ Nothing | suc zero ↦ Last | suc (suc zero) ↦ Other | n ↦ Unused ]

-- `copy_buffer_to_golden`, `copy_buffer_to_alternate`
unfoldable pub copy : Reader ReferenceCopy
copy = literal 2 >>= λ number. give (copy_of number)

-- the updates of reference frames, sign biases and probabilities: `refresh_golden_frame`, `refresh_alternate_frame`,
-- the copies, `sign_bias_golden`, `sign_bias_alternate`, `refresh_entropy_probs`, `refresh_last`
unfoldable pub refreshes : Bool → SignBiases → Reader Refreshes
refreshes key kept = do
  refresh_golden ← when (not key) flag true
  refresh_alt ← when (not key) flag true
  copy_to_golden ← when (not refresh_golden) copy Nothing
  copy_to_alt ← when (not refresh_alt) copy Nothing
  bias_golden ← when (not key) flag kept.golden
  bias_alt ← when (not key) flag kept.alt
  entropy ← flag
  refresh_last ← when (not key) flag true
  give (record {
    updates = record {
      refresh_golden = refresh_golden;
      refresh_alt = refresh_alt;
      copy_to_golden = copy_to_golden;
      copy_to_alt = copy_to_alt;
      refresh_last = refresh_last;
    };
    biases = record { golden = bias_golden; alt = bias_alt };
    entropy = entropy;
  })

-- ---- skipping (chapters 9.10, 9.11)

-- the probability that a macroblock is not skipped (`prob_skip_false`); None if skipping is not coded
-- (`mb_no_coeff_skip`)
unfoldable pub skip : Reader (Option ℕ)
skip = flagged 128 (literal 8 >>= λ p. give (Some p)) None

-- ---- probabilities of inter frames (chapters 9.10, 16.1, 17.2)

-- the probabilities of a macroblock's reference frame: `prob_intra`, `prob_last`, `prob_gf`
unfoldable pub reference_probabilities : Reader ReferenceProbabilities
reference_probabilities = do
  intra ← literal 8
  last ← literal 8
  golden ← literal 8
  give (record { intra = intra; last = last; golden = golden })

abbrev pub no_references : ReferenceProbabilities
no_references = record { intra = 0; last = 0; golden = 0 }

-- ---- the whole header; fields that its kind of frame doesn't code are 0

-- The header of a key frame or inter frame, against the saved state. Decoding does not depend on the color space and
-- the clamping type: sums are always clamped.
unfoldable pub frame : Bool → Saved → Reader Header
frame key kept = do
  color_space ← when key flag false
  clamping_type ← when key flag false
  segmentation ← segmentation kept.segments
  filter ← filter
  deltas ← level_deltas kept.deltas
  log2_partitions ← literal 2
  quantiser ← quantiser_indices
  refreshes ← refreshes key kept.biases
  coefficients ← token_probability_updates kept.probabilities.coefficients
  skip ← skip
  references ← when (not key) reference_probabilities no_references
  luma ← when (not key) (luma_mode_probabilities kept.probabilities.luma) kept.probabilities.luma
  chroma ← when (not key) (chroma kept.probabilities.chroma) kept.probabilities.chroma
  vectors ← when (not key) (vectors kept.probabilities.vectors) kept.probabilities.vectors
  give (record {
    key = key;
    color_space = color_space;
    clamping_type = clamping_type;
    segmentation = segmentation;
    filter = filter;
    deltas_enabled = deltas.0;
    deltas = deltas.1;
    log2_partitions = log2_partitions;
    quantiser = quantiser;
    updates = refreshes.updates;
    biases = refreshes.biases;
    refresh_entropy = refreshes.entropy;
    probabilities = record { coefficients = coefficients; vectors = vectors; luma = luma; chroma = chroma };
    skip = skip;
    references = references;
  })

-- the header, and the saved state after it
unfoldable pub frame_and_kept : Bool → Saved → Reader (Header × Saved)
frame_and_kept key kept = frame key kept >>= λ h. give (h, kept_after kept h)

-- the header of a packet with this tag, and the saved state after it; a key frame starts from the defaults
unfoldable pub header : Saved → Tag → Reader (Header × Saved)
header saved tag = if is_some tag.key then frame_and_kept true defaults else frame_and_kept false saved
