-- The laws that a written header and a written picture are read back.
use Rattle.std.specs.Prelude.{ℕ, ◌≡◌, ◌<◌, ◌≤◌, ◌^◌, ◌*◌, List, ◌++◌, length, Some, Ok}
use Rattle.vp_base.specs.Limits.{IsSide}
use Rattle.vp_y4m.specs.Text.{header_text, picture_text, i420_length}
use Rattle.vp_y4m.specs.Pictures.{file_head, next_of}

-- The header line of a size within the limits is read as that size, rate and scale, whatever follows.
abbrev pub IsHeadReadBack : Type 0
IsHeadReadBack = (pixels w h rate scale : ℕ) (rest : List ℕ) → IsSide w → IsSide h → w * h ≤ pixels → rate < 2 ^ 32
    → scale < 2 ^ 32
    → file_head pixels (header_text w h rate scale ++ rest) ≡ Ok
    (record { w = w; h = h; rate = rate; scale = scale }, rest)

-- A written picture is read as the next one, whatever follows.
abbrev pub IsPictureReadBack : Type 0
IsPictureReadBack = (w h : ℕ) (bytes rest : List ℕ) → length bytes ≡ i420_length w h
    → next_of w h (picture_text bytes ++ rest) ≡ Ok (Some (bytes, rest))
