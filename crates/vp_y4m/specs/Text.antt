-- A YUV4MPEG2 file as it is written: the header line, and each picture after its frame line. Pinned by the test
-- `source_reads_back` (431 bytes).
use Rattle.std.specs.Prelude.{ℕ, List, ◌++◌, ◌+◌, ◌*◌, ◌/◌, codes}
use Rattle.std.specs.Fmt.{decimal}

-- the number of bytes of a picture as I420: luma, and two chroma planes of half the columns and rows, rounded up
abbrev pub i420_length : ℕ → ℕ → ℕ
i420_length w h = w * h + 2 * ((w + 1) / 2 * ((h + 1) / 2))

-- the header line
unfoldable pub header_text : ℕ → ℕ → ℕ → ℕ → List ℕ
header_text w h rate scale =
    codes "YUV4MPEG2 W" ++ (decimal w ++ (codes " H" ++ (decimal h
    ++ (codes " F" ++ (decimal rate ++ (codes ":" ++ (decimal scale ++ codes " Ip A0:0 C420jpeg\n")))))))

-- a picture after its frame line
unfoldable pub picture_text : List ℕ → List ℕ
picture_text bytes = codes "FRAME\n" ++ bytes
