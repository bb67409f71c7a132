-- The still image of a lossy WebP file (RFC 9649, sections 2.5 and 2.7): its key frame, its canvas, and whether it has
-- alpha; or the first fault. Pinned by the tests `webp_files`, `webp_cut_short` and `webp_faults`.
use Rattle.std.specs.Prelude.{ℕ, zero, suc, ◌+◌, ◌%◌, ◌==◌, ◌&&◌, Bool, true, false, not, nat_lt, nat_le, List, length}
use Rattle.std.specs.Prelude.{drop, slice_index, Option, Some, None, Result, Ok, Err, if◌then◌else◌}
use Rattle.byteorder.specs.Endian.{little_number}
use Rattle.vp_head.specs.Tag.{bit_field}
use Rattle.vp_webp.specs.declared.fault.WebPFault.{WebPFault}
use Rattle.vp_webp.specs.declared.fault.WebPFault.TheVariants.{Torn, Lossless, Animated, NoPicture, NotKey, Hidden}
use Rattle.vp_webp.specs.declared.chunk.ChunkKind.{ChunkKind}
use Rattle.vp_webp.specs.declared.chunk.ChunkKind.TheVariants.{Vp8, Vp8L, Vp8X, Alph, Anmf, Other}
use Rattle.vp_webp.specs.declared.reading.Canvas.{Canvas}
use Rattle.vp_webp.specs.declared.reading.Seen.{Seen}
use Rattle.vp_webp.specs.Bytes.{ByteReader, ◌>>=◌, fail, known, without_rest}
use Rattle.vp_webp.specs.Chunks.{next_chunk, riff_body}

-- a still image: the packet of its key frame, whether a chunk of alpha precedes it, and the canvas of an extended file
pub record StillImage : Type 0 where
  pub packet : List ℕ
  pub has_alpha : Bool
  pub canvas : Option Canvas

-- a packet whose frame tag is there, and is that of a key frame (RFC 6386, chapter 9.1)
abbrev pub is_key_packet : List ℕ → Bool
is_key_packet packet = nat_le 3 (length packet) && slice_index packet 0 % 2 == 0

-- whether the frame tag says that the frame is shown (RFC 6386, chapter 9.1)
abbrev pub is_shown_packet : List ℕ → Bool
is_shown_packet packet = bit_field 4 1 (slice_index packet 0) == 1

-- the image of a packet, after these chunks
abbrev pub image_of : Seen → List ℕ → Result StillImage WebPFault
image_of seen packet =
    if not (is_key_packet packet) then Err NotKey else
    if not (is_shown_packet packet) then Err Hidden else
    Ok (record { packet = packet; has_alpha = seen.has_alpha; canvas = seen.canvas })

-- whether the flags of a `VP8X` chunk have the one for animations
abbrev pub is_animated : List ℕ → Bool
is_animated payload = bit_field 1 1 (slice_index payload 0) == 1

-- the size of the canvas, whose sides less one are in a `VP8X` chunk
abbrev pub canvas_of : List ℕ → Canvas
canvas_of payload = record {
  width = little_number 3 (drop 4 payload) + 1;
  height = little_number 3 (drop 7 payload) + 1;
}

-- what is known after a `VP8X` chunk
abbrev pub after_extended : List ℕ → Seen → Result Seen WebPFault
after_extended payload seen =
    if nat_lt (length payload) 10 then Err Torn
    else if is_animated payload then Err Animated
    else Ok (record seen { canvas = Some (canvas_of payload) })

-- what is known after a chunk that isn't a picture
abbrev pub seen_after : ChunkKind → List ℕ → Seen → Result Seen WebPFault
seen_after Vp8 payload seen = Ok seen
seen_after Vp8L payload seen = Err Lossless
seen_after Vp8X payload seen = after_extended payload seen
seen_after Alph payload seen = Ok (record seen { has_alpha = true })
seen_after Anmf payload seen = Err Animated
seen_after Other payload seen = Ok seen

-- the image in a `VP8 ` chunk, or else in the later chunks
abbrev pub image_from : ChunkKind → List ℕ → Seen → (Seen → ByteReader StillImage) → ByteReader StillImage
image_from Vp8 payload seen later = known (image_of seen payload)
image_from kind payload seen later = known (seen_after kind payload seen) >>= later

-- the first image in the chunks, of which at most n are read
unfoldable pub first_image : ℕ → Seen → ByteReader StillImage
first_image zero seen = fail NoPicture
first_image (suc n) seen = do
  c ← next_chunk
  image_from c.kind c.payload seen (first_image n)

-- before the first chunk
abbrev pub nothing_seen : Seen
nothing_seen = record { has_alpha = false; canvas = None }

-- a chunk takes 8 bytes and more, so there are no more chunks than bytes
abbrev pub image_in : List ℕ → Result StillImage WebPFault
image_in body = without_rest (first_image (length body) nothing_seen body)

-- the image in the chunks of a file, or the fault of its header
abbrev pub of_body : Result (List ℕ × List ℕ) WebPFault → Result StillImage WebPFault
of_body (Err fault) = Err fault
of_body (Ok x) = image_in x.0

-- the still image of a file
unfoldable pub still_image : List ℕ → Result StillImage WebPFault
still_image file = of_body (riff_body file)
