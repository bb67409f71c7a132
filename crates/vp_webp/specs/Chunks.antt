-- The chunks of a RIFF file (RFC 9649, section 2.3): a name of four letters, a size, that many bytes, and one byte of
-- padding if the size is odd. Pinned by the tests `webp_files` and `chunks_before_the_picture`.
use Rattle.std.specs.Prelude.{ℕ, ◌%◌, ◌-◌, ◌==◌, nat_lt, nat_eq, List, length, codes, if◌then◌else◌}
use Rattle.std.specs.List.{starts_with}
use Rattle.vp_webp.specs.declared.fault.WebPFault.TheVariants.{Torn, NoPicture}
use Rattle.vp_webp.specs.declared.chunk.ChunkKind.{ChunkKind}
use Rattle.vp_webp.specs.declared.chunk.ChunkKind.TheVariants.{Vp8, Vp8L, Vp8X, Alph, Anmf, Other}
use Rattle.vp_webp.specs.Bytes.{ByteReader, ◌>>=◌, give_value, fail, take_bytes, pass, little_u32, letters}

-- a chunk: what its name means, and its bytes
pub record Chunk : Type 0 where
  pub kind : ChunkKind
  pub payload : List ℕ

-- what the name of a chunk means (RFC 9649, sections 2.5 to 2.7)
abbrev pub chunk_kind : List ℕ → ChunkKind
chunk_kind name =
    if starts_with nat_eq name (codes "VP8 ") then Vp8 else
    if starts_with nat_eq name (codes "VP8L") then Vp8L else
    if starts_with nat_eq name (codes "VP8X") then Vp8X else
    if starts_with nat_eq name (codes "ALPH") then Alph else
    if starts_with nat_eq name (codes "ANMF") then Anmf else Other

-- a chunk; the last byte of padding of a file may be missing
unfoldable pub chunk : ByteReader Chunk
chunk = do
  name ← take_bytes 4
  size ← little_u32
  payload ← take_bytes size
  padding ← pass (size % 2)
  give_value (record { kind = chunk_kind name; payload = payload })

-- the next chunk, unless the chunks have ended
unfoldable pub next_chunk : ByteReader Chunk
next_chunk bytes = if length bytes == 0 then fail NoPicture bytes else chunk bytes

-- the chunks of a file: the bytes after its header, up to the end that its size gives (RFC 9649, section 2.4). Bytes
-- after that end don't matter.
unfoldable pub riff_body : ByteReader (List ℕ)
riff_body = do
  riff ← letters (codes "RIFF")
  size ← little_u32
  form ← letters (codes "WEBP")
  if nat_lt size 4 then fail Torn else take_bytes (size - 4)
