-- Laws of WebP files: what is written is read, what is read is in the file, and the chunks of a file determine what is
-- read.
use Rattle.std.specs.Prelude.{◌≡◌, ◌≢◌, ◌<◌, ◌+◌, ◌%◌, ℕ, false, List, [], ◌∷◌, ◌++◌, length, take, codes, None, Ok}
use Rattle.std.specs.Prelude.{Result, Err}
use Rattle.byteorder.specs.Endian.{little_number}
use Rattle.vp_webp.specs.declared.chunk.ChunkKind.TheVariants.{Vp8}
use Rattle.vp_webp.specs.declared.fault.WebPFault.{WebPFault}
use Rattle.vp_webp.specs.declared.fault.WebPFault.TheVariants.{Torn}
use Rattle.vp_webp.specs.declared.reading.Seen.{Seen}
use Rattle.vp_webp.specs.Chunks.{chunk_kind}
use Rattle.vp_webp.specs.WebP.{StillImage, image_of, seen_after, nothing_seen, still_image}
use Rattle.vp_webp.specs.Text.{webp_text, webp_refusal}

-- A written file is read as its packet, whatever bytes follow it.
abbrev pub IsWebPReadBack : Type 0
IsWebPReadBack = (packet more : List ℕ) → webp_refusal packet ≡ None
    → still_image (webp_text packet ++ more) ≡ Ok (record { packet = packet; has_alpha = false; canvas = None })

-- A written file that lacks bytes at its end is torn.
abbrev pub IsTornIfCut : Type 0
IsTornIfCut = (packet : List ℕ) (n : ℕ) → webp_refusal packet ≡ None → n < length (webp_text packet)
    → still_image (take n (webp_text packet)) ≡ Err Torn

-- ---- what a file that is read consists of

-- a file is `RIFF`, a size, `WEBP`, the chunks that the size counts with these four letters, and any bytes
pub record HasChunks (file chunks : List ℕ) : Type 0 where
  pub size : List ℕ
  pub more : List ℕ
  pub whole : file ≡ codes "RIFF" ++ (size ++ (codes "WEBP" ++ (chunks ++ more)))
  pub sized : length size ≡ 4
  pub counted : little_number 4 size ≡ 4 + length chunks

-- the four parts of a chunk as it lies in a file
pub record RawChunk : Type 0 where
  pub name : List ℕ
  pub size : List ℕ
  pub payload : List ℕ
  pub padding : List ℕ

abbrev pub raw_bytes : RawChunk → List ℕ
raw_bytes c = c.name ++ (c.size ++ (c.payload ++ c.padding))

-- a whole chunk that is not a picture
pub record IsPassedOver (c : RawChunk) : Type 0 where
  pub named : length c.name ≡ 4
  pub sized : length c.size ≡ 4
  pub counted : little_number 4 c.size ≡ length c.payload
  pub padded : length c.padding ≡ length c.payload % 2
  pub other : chunk_kind c.name ≢ Vp8

-- chunks one after another, none of them a picture
abbrev pub ArePassedOver : List RawChunk → List ℕ → Type 0
ArePassedOver [] bytes = bytes ≡ []
ArePassedOver (c ∷ cs) bytes = (rest : List ℕ) × IsPassedOver c × (bytes ≡ raw_bytes c ++ rest) × ArePassedOver cs rest

-- the first picture of the chunks is this packet
pub record HasPicture (chunks packet : List ℕ) : Type 0 where
  pub before : List RawChunk
  pub front : List ℕ
  pub size : List ℕ
  pub after : List ℕ
  pub whole : chunks ≡ front ++ (codes "VP8 " ++ (size ++ (packet ++ after)))
  pub passed : ArePassedOver before front
  pub sized : length size ≡ 4
  pub counted : little_number 4 size ≡ length packet

-- A file that is read has chunks, and its packet is their first picture.
abbrev pub IsFaithfulToFile : Type 0
IsFaithfulToFile = (file : List ℕ) (image : StillImage) → still_image file ≡ Ok image
    → (chunks : List ℕ) × HasChunks file chunks × HasPicture chunks image.packet

-- f of what is known, or the fault
abbrev pub if_seen : Result Seen WebPFault → (Seen → Result StillImage WebPFault) → Result StillImage WebPFault
if_seen (Err fault) f = Err fault
if_seen (Ok seen) f = f seen

-- the image of a packet after these chunks, or their first fault
abbrev pub image_after : List RawChunk → List ℕ → Seen → Result StillImage WebPFault
image_after [] packet seen = image_of seen packet
image_after (c ∷ cs) packet seen = if_seen (seen_after (chunk_kind c.name) c.payload seen) (image_after cs packet)

-- A file that has a picture is read as its first picture and the chunks before it say.
abbrev pub IsReadByItsChunks : Type 0
IsReadByItsChunks = (file chunks packet : List ℕ) (picture : HasPicture chunks packet) → HasChunks file chunks
    → still_image file ≡ image_after picture.before packet nothing_seen
