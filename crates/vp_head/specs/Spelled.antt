-- Which headers can be written against a saved state (RFC 6386, chapters 9 and 19.2). The law
-- `what_is_read_can_be_written` states that each readable header is included. Pinned by the test `headers_read_back`.
use Rattle.std.specs.Prelude.{◌≡◌, ℕ, ◌%◌, ◌^◌, ◌<◌, ◌⊎◌, ℤ, pos, Bool, true, false, List, [], ◌∷◌, is_some}
use Rattle.std.specs.Prelude.{slice_index, slice_index_or, unsigned_abs, if◌then◌else◌}
use Rattle.vp_head.specs.Header.{no_references}
use Rattle.vp_head.specs.Saved.{defaults}
use Rattle.vp_head.specs.declared.fields.Tag.{Tag}
use Rattle.vp_head.specs.declared.fields.SegmentValues.{SegmentValues}
use Rattle.vp_head.specs.declared.fields.Segmentation.{Segmentation}
use Rattle.vp_head.specs.declared.fields.Filter.{Filter}
use Rattle.vp_head.specs.declared.fields.LevelDeltas.{LevelDeltas}
use Rattle.vp_head.specs.declared.fields.QuantiserIndices.{QuantiserIndices}
use Rattle.vp_head.specs.declared.fields.ReferenceCopy.TheVariants.{Nothing}
use Rattle.vp_head.specs.declared.fields.ReferenceUpdates.{ReferenceUpdates}
use Rattle.vp_head.specs.declared.fields.Header.{Header}
use Rattle.vp_head.specs.declared.fields.Saved.{Saved}

-- z is the default, or a signed number of n bits
abbrev pub IsSigned : ℕ → ℤ → ℤ → Type 0
IsSigned n otherwise z = ¬ (z ≡ otherwise) → unsigned_abs z < 2 ^ n

-- four of them, each with its own default
pub record AreSigned (n : ℕ) (old new : List ℤ) : Type 0 where
  pub first : IsSigned n (slice_index_or old 0 (pos 0)) (slice_index_or new 0 (pos 0))
  pub second : IsSigned n (slice_index_or old 1 (pos 0)) (slice_index_or new 1 (pos 0))
  pub third : IsSigned n (slice_index_or old 2 (pos 0)) (slice_index_or new 2 (pos 0))
  pub fourth : IsSigned n (slice_index_or old 3 (pos 0)) (slice_index_or new 3 (pos 0))

abbrev pub zeros : List ℤ
zeros = pos 0 ∷ pos 0 ∷ pos 0 ∷ pos 0 ∷ []

-- segment values that can be written: values without a flag are 0
pub record AreSegmentValues (values : SegmentValues) : Type 0 where
  pub quantisers : AreSigned 7 zeros values.quantisers
  pub levels : AreSigned 6 zeros values.levels

-- Disabled segmentation keeps the saved values. Without a new map the probabilities of the tree are 255.
pub record IsSegmentation (kept : SegmentValues) (s : Segmentation) : Type 0 where
  pub off : s.enabled ≡ false → (s.update_map ≡ false) × (s.values ≡ kept)
  pub on : ¬ (s.values ≡ kept) → AreSegmentValues s.values
  pub no_map : s.update_map ≡ false → s.tree_probabilities ≡ 255 ∷ 255 ∷ 255 ∷ []

-- loop filter parameters that fit their bits
pub record IsFilter (f : Filter) : Type 0 where
  pub level : f.level < 2 ^ 6
  pub sharpness : f.sharpness < 2 ^ 3

-- Disabled filter level deltas are the saved ones.
pub record AreDeltas (kept : LevelDeltas) (enabled : Bool) (deltas : LevelDeltas) : Type 0 where
  pub off : enabled ≡ false → deltas ≡ kept
  pub reference : AreSigned 6 kept.reference deltas.reference
  pub mode : AreSigned 6 kept.mode deltas.mode

-- quantiser indices that fit their bits
pub record IsQuantiser (q : QuantiserIndices) : Type 0 where
  pub y_ac : q.y_ac < 2 ^ 7
  pub y_dc : IsSigned 4 (pos 0) q.y_dc
  pub y2_dc : IsSigned 4 (pos 0) q.y2_dc
  pub y2_ac : IsSigned 4 (pos 0) q.y2_ac
  pub uv_dc : IsSigned 4 (pos 0) q.uv_dc
  pub uv_ac : IsSigned 4 (pos 0) q.uv_ac

-- A key frame refreshes all references. A refreshed reference is not copied to.
pub record AreUpdates (key : Bool) (updates : ReferenceUpdates) : Type 0 where
  pub golden : key ≡ true → updates.refresh_golden ≡ true
  pub alt : key ≡ true → updates.refresh_alt ≡ true
  pub last : key ≡ true → updates.refresh_last ≡ true
  pub no_copy_to_golden : updates.refresh_golden ≡ true → updates.copy_to_golden ≡ Nothing
  pub no_copy_to_alt : updates.refresh_alt ≡ true → updates.copy_to_alt ≡ Nothing

-- A motion vector probability is unchanged, or 1, or an even number from 2 on.
abbrev pub IsVectorProbability : ℕ → ℕ → Type 0
IsVectorProbability old new = ¬ (new ≡ old) → (new ≡ 1) ⊎ ((new % 2 ≡ 0) × (0 < new))

-- each motion vector probability is unchanged or can be coded
abbrev pub AreVectorProbabilities : List (List ℕ) → List (List ℕ) → Type 0
AreVectorProbabilities old new = (i j : ℕ) → IsVectorProbability (slice_index (slice_index_or old i []) j)
    (slice_index (slice_index_or new i []) j)

-- a header against the saved state: the fields that its kind of frame doesn't code have the values that a reader
-- infers
pub record IsWritableHeader (key : Bool) (kept : Saved) (h : Header) : Type 0 where
  pub kind : h.key ≡ key
  pub color_space : key ≡ false → h.color_space ≡ false
  pub clamping_type : key ≡ false → h.clamping_type ≡ false
  pub segmentation : IsSegmentation kept.segments h.segmentation
  pub filter : IsFilter h.filter
  pub deltas : AreDeltas kept.deltas h.deltas_enabled h.deltas
  pub log2_partitions : h.log2_partitions < 2 ^ 2
  pub quantiser : IsQuantiser h.quantiser
  pub updates : AreUpdates key h.updates
  pub biases : key ≡ true → h.biases ≡ kept.biases
  pub references : key ≡ true → h.references ≡ no_references
  pub luma : key ≡ true → h.probabilities.luma ≡ kept.probabilities.luma
  pub chroma : key ≡ true → h.probabilities.chroma ≡ kept.probabilities.chroma
  pub vectors : key ≡ true → h.probabilities.vectors ≡ kept.probabilities.vectors
  pub vector : key ≡ false → AreVectorProbabilities kept.probabilities.vectors h.probabilities.vectors

-- the saved state that a frame with this tag starts from
abbrev pub kept_before : Saved → Tag → Saved
kept_before saved tag = if is_some tag.key then defaults else saved

-- a header that can be written into a packet with this tag
abbrev pub IsWritableInPacket : Saved → Tag → Header → Type 0
IsWritableInPacket saved tag h = IsWritableHeader (is_some tag.key) (kept_before saved tag) h
