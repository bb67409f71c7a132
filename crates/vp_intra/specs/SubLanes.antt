-- Private to the crate: the pixels around a subblock in sixteen lanes, and the means of neighbours.
use Rattle.std.specs.Prelude.{ℕ, List, [], ◌∷◌, slice_index}
use Rattle.vp_intra.specs.Sub.{avg2, avg3, avg2_at, avg3_at}

-- the thirteen pixels, then the first of them three times
abbrev pub padded : List ℕ → List ℕ
padded es =
    slice_index es 0 ∷ slice_index es 1 ∷ slice_index es 2 ∷ slice_index es 3 ∷ slice_index es 4 ∷ slice_index es 5 ∷
    slice_index es 6 ∷ slice_index es 7 ∷ slice_index es 8 ∷ slice_index es 9 ∷ slice_index es 10 ∷
    slice_index es 11 ∷ slice_index es 12 ∷ slice_index es 0 ∷ slice_index es 0 ∷ slice_index es 0 ∷ []

-- the means of pixels k and k + 1; the last pixel is repeated, and the last three lanes are the first pixel
abbrev pub twos_of : List ℕ → List ℕ
twos_of es =
    avg2_at es 0 ∷ avg2_at es 1 ∷ avg2_at es 2 ∷ avg2_at es 3 ∷ avg2_at es 4 ∷ avg2_at es 5 ∷ avg2_at es 6 ∷ avg2_at es 7 ∷ avg2_at es 8 ∷ avg2_at es 9 ∷
    avg2_at es 10 ∷ avg2_at es 11 ∷ avg2 (slice_index es 12) (slice_index es 12) ∷
    slice_index es 0 ∷ slice_index es 0 ∷ slice_index es 0 ∷ []

-- the weighted means of pixels k - 1, k and k + 1; the first and the last pixel are repeated
abbrev pub threes_of : List ℕ → List ℕ
threes_of es =
    avg3 (slice_index es 1) (slice_index es 0) (slice_index es 0) ∷
    avg3_at es 1 ∷ avg3_at es 2 ∷ avg3_at es 3 ∷ avg3_at es 4 ∷ avg3_at es 5 ∷ avg3_at es 6 ∷ avg3_at es 7 ∷ avg3_at es 8 ∷
    avg3_at es 9 ∷ avg3_at es 10 ∷ avg3_at es 11 ∷ avg3 (slice_index es 11) (slice_index es 12) (slice_index es 12) ∷
    slice_index es 0 ∷ slice_index es 0 ∷ slice_index es 0 ∷ []
