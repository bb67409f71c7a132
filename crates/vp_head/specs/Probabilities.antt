-- Updates of the saved probabilities: coefficients, modes, motion vectors (RFC 6386, chapters 9.9, 9.10, 13.4 and
-- 17.2). Pinned by the tests `all_ones_header` (255) and `all_ones_inter_header` (254).
use Rattle.std.specs.Prelude.{ℕ, ◌*◌, ◌==◌, List, [], slice_index, slice_index_or, if◌then◌else◌}
use Rattle.vp_bool.specs.Bools.{literal}
use Rattle.vp_bool.specs.Reader.{Reader, ◌>>=◌, give, each}
use Rattle.vp_head.specs.Rows.{flagged, list_of, renewed}
use Rattle.vp_tables.specs.Tables.{coefficient_updates}
use Rattle.vp_tables.specs.declared.mode_probabilities.TheConstants.{VECTOR_UPDATES}

-- ---- coefficients (`coeff_prob_update_flag`, `coeff_prob`): each has a flag, whose probability is in the table at the
-- same block type, band, context and entry

-- the updates of all token probabilities: of four block types, eight bands, three contexts and eleven entries
unfoldable pub token_probability_updates : List (List (List (List ℕ))) → Reader (List (List (List (List ℕ))))
token_probability_updates =
    each [] 4 (λ type. each [] 8 (λ band. each [] 3 (λ context. each 0 11 (λ entry. renewed
    (slice_index (slice_index_or (slice_index_or (slice_index_or coefficient_updates type []) band []) context []) entry)))))

-- ---- modes: one flag, and if it is set all probabilities of the mode

-- `intra_16x16_prob_update_flag`, `intra_16x16_prob`
unfoldable pub luma_mode_probabilities : List ℕ → Reader (List ℕ)
luma_mode_probabilities = flagged 128 (list_of 4 (λ i. literal 8))

-- `intra_chroma_prob_update_flag`, `intra_chroma_prob`
unfoldable pub chroma : List ℕ → Reader (List ℕ)
chroma = flagged 128 (list_of 3 (λ i. literal 8))

-- ---- motion vectors (`mv_prob_update_flag`, `prob`): each has a flag, whose probability is in the table; the value is
-- twice the seven coded bits, or 1 for 0

-- a new motion vector probability
abbrev pub seven_bits : Reader ℕ
seven_bits = literal 7 >>= λ x. give (if x == 0 then 1 else 2 * x)

-- the update of a motion vector probability, with a flag of probability p
unfoldable pub vector_renewed : ℕ → ℕ → Reader ℕ
vector_renewed p = flagged p seven_bits

-- the updates of all motion vector probabilities: of two components, first the row, of nineteen entries
unfoldable pub vectors : List (List ℕ) → Reader (List (List ℕ))
vectors = each [] 2 (λ i. each 0 19 (λ entry. vector_renewed (slice_index (slice_index_or VECTOR_UPDATES i []) entry)))

-- ---- the same loops one by one, as the crate's own functions read and write them

-- the update of probability i of a context
abbrev pub entry_at : List ℕ → ℕ → ℕ → Reader ℕ
entry_at table i = renewed (slice_index table i)

-- the updates of the eleven probabilities of a context
abbrev pub context_rows : List ℕ → List ℕ → Reader (List ℕ)
context_rows table = each 0 11 (entry_at table)

-- the updates of context i of a band
abbrev pub context_at : List (List ℕ) → ℕ → List ℕ → Reader (List ℕ)
context_at table i = context_rows (slice_index_or table i [])

-- the updates of the three contexts of a band
abbrev pub band_rows : List (List ℕ) → List (List ℕ) → Reader (List (List ℕ))
band_rows table = each [] 3 (context_at table)

-- the updates of band i of a block type
abbrev pub band_at : List (List (List ℕ)) → ℕ → List (List ℕ) → Reader (List (List ℕ))
band_at table i = band_rows (slice_index_or table i [])

-- the updates of the eight bands of a block type
abbrev pub type_rows : List (List (List ℕ)) → List (List (List ℕ)) → Reader (List (List (List ℕ)))
type_rows table = each [] 8 (band_at table)

-- the updates of block type i
abbrev pub type_at : List (List (List (List ℕ))) → ℕ → List (List (List ℕ)) → Reader (List (List (List ℕ)))
type_at table i = type_rows (slice_index_or table i [])

-- the update of probability i of a component
abbrev pub vector_entry_at : List ℕ → ℕ → ℕ → Reader ℕ
vector_entry_at table i = vector_renewed (slice_index table i)

-- the updates of the nineteen probabilities of a component
abbrev pub component_rows : List ℕ → List ℕ → Reader (List ℕ)
component_rows table = each 0 19 (vector_entry_at table)

-- the updates of component i: 0 is the row, 1 the column
abbrev pub component_at : List (List ℕ) → ℕ → List ℕ → Reader (List ℕ)
component_at table i = component_rows (slice_index_or table i [])
