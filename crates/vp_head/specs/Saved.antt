-- The state that is saved from frame to frame. This file has the defaults of a key frame, and the changes by a header
-- (RFC 6386, chapters 9.3, 9.4, 9.7, 9.9, 9.10, 13.5, 16.1 and 17.2). The numbers are those of vp_tables.
use Rattle.std.specs.Prelude.{ℤ, pos, false, List, [], ◌∷◌, if◌then◌else◌}
use Rattle.vp_head.specs.declared.fields.Header.{Header}
use Rattle.vp_head.specs.declared.fields.Saved.{Saved}
use Rattle.vp_tables.specs.Tables.{coefficient_probabilities}
use Rattle.vp_tables.specs.declared.mode_probabilities.TheConstants.{LUMA_PROBABILITIES, CHROMA_PROBABILITIES}
use Rattle.vp_tables.specs.declared.mode_probabilities.TheConstants.{VECTOR_PROBABILITIES}

-- four values or deltas of 0
abbrev pub four_zeros : List ℤ
four_zeros = pos 0 ∷ pos 0 ∷ pos 0 ∷ pos 0 ∷ []

-- the saved state that a key frame starts from
unfoldable pub defaults : Saved
defaults = record {
  probabilities = record {
    coefficients = coefficient_probabilities;
    vectors = VECTOR_PROBABILITIES;
    luma = LUMA_PROBABILITIES;
    chroma = CHROMA_PROBABILITIES;
  };
  segments = record { absolute = false; quantisers = four_zeros; levels = four_zeros };
  deltas = record { reference = four_zeros; mode = four_zeros };
  biases = record { golden = false; alt = false };
}

-- The saved state after a frame with this header. If its probabilities are not saved, the previous ones are restored.
abbrev pub kept_after : Saved → Header → Saved
kept_after kept h = record {
  probabilities = if h.refresh_entropy then h.probabilities else kept.probabilities;
  segments = h.segmentation.values;
  deltas = h.deltas;
  biases = h.biases;
}
