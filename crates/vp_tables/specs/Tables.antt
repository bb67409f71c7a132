-- The entries of the constant tables, by index (RFC 6386, chapters 11.5, 13.2 to 13.5, 14.1 and 18.3). Names in
-- capitals are constants of the code, whose numbers and trees docs/TABLES.md lists. Pinned by
-- `scripts/compare_tables.py`, which compares every number with that transcription of the standard's.
use Rattle.std.specs.Prelude.{ℕ, ℤ, pos, ◌+ℤ◌, ◌==◌, List, [], ◌∷◌, slice_index, slice_index_or, count_by}
use Rattle.vp_tables.specs.declared.modes.SubMode.{SubMode}
use Rattle.vp_tables.specs.declared.modes.SubMode.TheVariants as sub_is
use Rattle.vp_tables.specs.declared.modes.Token.{Token}
use Rattle.vp_tables.specs.declared.modes.Token.TheVariants as token_is
use Rattle.vp_tables.specs.declared.coefficients.TheConstants.{COEFFICIENT_PROBABILITIES, COEFFICIENT_UPDATES}
use Rattle.vp_tables.specs.declared.factors.TheConstants.{AC_FACTORS, DC_FACTORS}
use Rattle.vp_tables.specs.declared.sub_probabilities.TheConstants.{KEY_SUB_PROBABILITIES}
use Rattle.vp_tables.specs.declared.taps.TheConstants.{SIX_TAPS}
use Rattle.vp_tables.specs.declared.tokens.TheConstants.{BANDS, CATEGORY_1, CATEGORY_2, CATEGORY_3, CATEGORY_4}
use Rattle.vp_tables.specs.declared.tokens.TheConstants.{CATEGORY_5, CATEGORY_6, CATEGORY_BASES, ZIGZAG}

-- the index of a subblock mode in the tables
abbrev pub sub_number : SubMode → ℕ
sub_number sub_is.Dc = 0
sub_number sub_is.Tm = 1
sub_number sub_is.Ve = 2
sub_number sub_is.He = 3
sub_number sub_is.Ld = 4
sub_number sub_is.Rd = 5
sub_number sub_is.Vr = 6
sub_number sub_is.Vl = 7
sub_number sub_is.Hd = 8
sub_number sub_is.Hu = 9

-- subblock mode probabilities of a key frame, by the modes above and to the left (chapter 11.5)
unfoldable pub key_sub_probabilities : SubMode → SubMode → List ℕ
key_sub_probabilities above left = slice_index_or (slice_index_or KEY_SUB_PROBABILITIES (sub_number above) [])
    (sub_number left) []

-- default token probabilities of a key frame, by block type, band, context and tree entry (chapter 13.5)
unfoldable pub coefficient_probabilities : List (List (List (List ℕ)))
coefficient_probabilities = COEFFICIENT_PROBABILITIES

-- the probabilities that a token probability is not updated (chapter 13.4)
unfoldable pub coefficient_updates : List (List (List (List ℕ)))
coefficient_updates = COEFFICIENT_UPDATES

-- the factors of a quantiser index (chapter 14.1)
unfoldable pub dc_factor : ℕ → ℕ
dc_factor index = slice_index DC_FACTORS index

unfoldable pub ac_factor : ℕ → ℕ
ac_factor index = slice_index AC_FACTORS index

-- filter weights of the pixels at offsets -2 to 3, by eighths of a pixel (chapter 18.3)
unfoldable pub six_taps : ℕ → List ℤ
six_taps eighths = slice_index_or SIX_TAPS eighths []

-- the band, and the raster index, of a coefficient position (chapter 13)
unfoldable pub band : ℕ → ℕ
band position = slice_index BANDS position

unfoldable pub zigzag : ℕ → ℕ
zigzag position = slice_index ZIGZAG position

-- the least magnitude that a token encodes (chapter 13.2)
unfoldable pub least_magnitude : Token → ℕ
least_magnitude token_is.EndOfBlock = 0
least_magnitude token_is.Zero = 0
least_magnitude token_is.One = 1
least_magnitude token_is.Two = 2
least_magnitude token_is.Three = 3
least_magnitude token_is.Four = 4
least_magnitude token_is.Category1 = slice_index CATEGORY_BASES 0
least_magnitude token_is.Category2 = slice_index CATEGORY_BASES 1
least_magnitude token_is.Category3 = slice_index CATEGORY_BASES 2
least_magnitude token_is.Category4 = slice_index CATEGORY_BASES 3
least_magnitude token_is.Category5 = slice_index CATEGORY_BASES 4
least_magnitude token_is.Category6 = slice_index CATEGORY_BASES 5

-- probabilities of the extra bits that are added to it, most significant first
unfoldable pub extra_probabilities : Token → List ℕ
extra_probabilities token_is.Category1 = CATEGORY_1
extra_probabilities token_is.Category2 = CATEGORY_2
extra_probabilities token_is.Category3 = CATEGORY_3
extra_probabilities token_is.Category4 = CATEGORY_4
extra_probabilities token_is.Category5 = CATEGORY_5
extra_probabilities token_is.Category6 = CATEGORY_6
extra_probabilities _ = []

-- the number of times that a place occurs in a list
abbrev pub occurrences : ℕ → List ℕ → ℕ
occurrences place = count_by (λ x. x == place)

-- the sum of a list of weights
abbrev pub sum_of_weights : List ℤ → ℤ
sum_of_weights [] = pos 0
sum_of_weights (x ∷ xs) = x +ℤ sum_of_weights xs
