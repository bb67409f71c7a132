-- The bytes of the simple file of a packet (RFC 9649, sections 2.4 and 2.5), and which packets have one. Pinned by the
-- tests `webp_written`, `webp_refused` and `webp_copied`.
use Rattle.std.specs.Prelude.{ℕ, ◌+◌, ◌-◌, ◌^◌, ◌%◌, ◌==◌, not, nat_lt, List, [], ◌∷◌, ◌++◌, length, codes, Option}
use Rattle.std.specs.Prelude.{Some, None, Result, Ok, Err, if◌then◌else◌}
use Rattle.byteorder.specs.Endian.{little_bytes}
use Rattle.vp_webp.specs.declared.fault.WebPWriteFault.{WebPWriteFault}
use Rattle.vp_webp.specs.declared.fault.WebPWriteFault.TheVariants.{NotKey, Hidden, TooLong}
use Rattle.vp_webp.specs.WebP.{is_key_packet, is_shown_packet}

-- the size in the file's header for a packet of n bytes: `WEBP`, the chunk's name and size, its bytes and its padding
abbrev pub riff_size : ℕ → ℕ
riff_size n = 12 + n + n % 2

-- the 20 bytes before a packet of n bytes
unfoldable pub webp_head_text : ℕ → List ℕ
webp_head_text n = codes "RIFF" ++ little_bytes 4 (riff_size n) ++ codes "WEBPVP8 " ++ little_bytes 4 n

-- the padding after n bytes
abbrev pub padding : ℕ → List ℕ
padding n = if n % 2 == 1 then 0 ∷ [] else []

-- the simple file of a packet
abbrev pub webp_text : List ℕ → List ℕ
webp_text packet = webp_head_text (length packet) ++ packet ++ padding (length packet)

-- why a packet has no file; the size in the header is at most 2^32 - 10 (RFC 9649, section 2.4)
abbrev pub webp_refusal : List ℕ → Option WebPWriteFault
webp_refusal packet =
    if not (is_key_packet packet) then Some NotKey else
    if not (is_shown_packet packet) then Some Hidden else
    if nat_lt (2 ^ 32 - 10) (riff_size (length packet)) then Some TooLong else None

-- the simple file of a packet, or why it has none
abbrev pub file_unless : Option WebPWriteFault → List ℕ → Result (List ℕ) WebPWriteFault
file_unless None text = Ok text
file_unless (Some fault) text = Err fault

abbrev pub webp_file : List ℕ → Result (List ℕ) WebPWriteFault
webp_file packet = file_unless (webp_refusal packet) (webp_text packet)
